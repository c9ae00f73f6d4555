-- How sessions are printed.
use Rattle.std.specs.Prelude.{ℕ, List, [], ◌∷◌, ◌++◌, flat_map, codes, Option, Some, None}
use Rattle.fix_settings.specs.declared.key.Key.{Key}
use Rattle.fix_settings.specs.declared.key.TheConstants.{KEYS}
use Rattle.fix_settings.specs.declared.session_settings.SessionSettings.{SessionSettings}
use Rattle.fix_settings.specs.Forms.{Value, value_text}
use Rattle.fix_settings.specs.Table.{name_of, setting_of}

-- a line for a key that has a value
abbrev pub setting_line : Key → Option Value → List ℕ
setting_line k None = []
setting_line k (Some v) = name_of k ++ 61 ∷ [] ++ value_text v ++ 10 ∷ []

-- a line for an ignored key
abbrev pub ignored_line : List ℕ → List ℕ
ignored_line name = codes "# ignored " ++ name ++ 10 ∷ []

-- the heading, the keys in the table's order, and the ignored ones
abbrev pub session_text : SessionSettings → List ℕ
session_text s = codes "[SESSION]" ++ 10 ∷ [] ++ flat_map (λ k. setting_line k (setting_of s k)) KEYS
    ++ flat_map ignored_line s.ignored.items

abbrev pub settings_text : List SessionSettings → List ℕ
settings_text sessions = flat_map session_text sessions
