-- The tags that have a fixed role. The lists are the constants of `tags.rt`.
use Rattle.std.specs.Prelude.{ℕ, Bool, ◌==◌, List, Option, Some, None, [], ◌∷◌, if◌then◌else◌}
use Rattle.std.specs.List.{list_any}
use Rattle.fix_base.specs.declared.tags.TheConstants.{DATA_PAIRS, SESSION_TAGS, HEADER_TAGS, TRAILER_TAGS, ENGINE_TAGS}

-- what a list of pairs has beside a tag
abbrev pub beside : ℕ → List (ℕ × ℕ) → Option ℕ
beside tag [] = None
beside tag (pair ∷ pairs) = if pair.0 == tag then Some pair.1 else beside tag pairs

-- the data tag that is paired with a length tag, as RawData (96) with RawDataLength (95)
abbrev pub data_tag : ℕ → Option ℕ
data_tag tag = beside tag DATA_PAIRS

-- a header tag that the engine writes, and that is no part of a message's body:
-- 34, 43, 49, 52, 56 and 122
abbrev pub is_session_tag : ℕ → Bool
is_session_tag tag = list_any (λ t. t == tag) SESSION_TAGS

-- a tag of data, which a length tag announces, as RawData (96)
abbrev pub is_data_tag : ℕ → Bool
is_data_tag tag = list_any (λ pair. pair.1 == tag) DATA_PAIRS

-- a tag of the header, or of the trailer
abbrev pub is_header_tag : ℕ → Bool
is_header_tag tag = list_any (λ t. t == tag) HEADER_TAGS

abbrev pub is_trailer_tag : ℕ → Bool
is_trailer_tag tag = list_any (λ t. t == tag) TRAILER_TAGS

-- a tag that only the engine writes, and that no draft may carry
abbrev pub is_engine_tag : ℕ → Bool
is_engine_tag tag = list_any (λ t. t == tag) ENGINE_TAGS
