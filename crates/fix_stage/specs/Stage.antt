-- What is staged: entries that took their numbers and aren't kept yet, each with the frame that goes out when it is
-- kept, or with none.
use Rattle.std.specs.Prelude.{◌≡◌, ◌≤◌, ◌+◌, ◌&&◌, ◌==◌, ℕ, List, [], ◌∷◌, ◌++◌, length, Bool, not, nat_lt, Option}
use Rattle.std.specs.List.{AllByRecursion}
use Rattle.fix_base.specs.declared.entry.Entry.{Entry}
use Rattle.fix_base.specs.Payload.{HasPayload, payload_size, payloads_size, LONGEST_PAYLOAD}

pub record Staged : Type 0 where
  pub entries : List Entry
  pub frames : List (Option (List ℕ))

abbrev pub no_stage : Staged
no_stage = record { entries = []; frames = [] }

-- the payload of a record of these entries, with an expected number
abbrev pub staged_size : List Entry → ℕ
staged_size entries = 9 + payloads_size entries

-- all of it may be kept as one record
pub record IsStaged (s : Staged) : Type 0 where
  pub same : length s.frames ≡ length s.entries
  pub few : length s.entries ≤ 64
  pub each : AllByRecursion HasPayload s.entries
  pub fits : staged_size s.entries ≤ LONGEST_PAYLOAD

-- there is something to keep, with this expected number where it isn't 0
abbrev pub is_something : Staged → ℕ → Bool
is_something s expect = not (length s.entries == 0 && expect == 0)

-- how many bytes an entry takes in a record of several
abbrev pub size_in_stage : Entry → ℕ
size_in_stage entry = 4 + payload_size entry

-- one more entry of this size goes into the same record: it isn't the 65th, and the payload isn't too long
abbrev pub has_room : Staged → ℕ → Bool
has_room s size = nat_lt (length s.entries) 64 && nat_lt (staged_size s.entries + size) 1114113

abbrev pub with_entry : Staged → Entry → Option (List ℕ) → Staged
with_entry s entry frame = record { entries = s.entries ++ entry ∷ []; frames = s.frames ++ frame ∷ [] }
