-- What one JSON value says where a dictionary wants a list, a text, a truth value or a tag.
use Rattle.std.specs.Prelude.{ℕ, Bool, ◌&&◌, nat_le, if◌then◌else◌, List, [], ◌∷◌, Option, Some, None, option_map}
use Rattle.std.specs.Prelude.{option_and_then, is_some, unwrap_or}
use Rattle.serde_json.specs.Data.{Data, Items, no_items, item}
use Rattle.serde_json.specs.Find.{get, as_bool, as_number, as_u64, as_str, as_array}

abbrev pub listed : Items → List Data
listed no_items = []
listed (item d ds) = d ∷ listed ds

abbrev pub list_in : Data → Option (List Data)
list_in d = option_map listed (as_array d)

abbrev pub list_at : List ℕ → Data → Option (List Data)
list_at name d = option_and_then list_in (get name d)

-- an array that is wanted, and may not be there
abbrev pub items_at : List ℕ → Data → List Data
items_at name d = unwrap_or (list_at name d) []

abbrev pub text_at : List ℕ → Data → Option (List ℕ)
text_at name d = option_and_then as_str (get name d)

abbrev pub flag_at : List ℕ → Data → Option Bool
flag_at name d = option_and_then as_bool (get name d)

-- a tag: a whole number from 1 to 999,999,999, written without point or exponent
abbrev pub tag_within : ℕ → Option ℕ
tag_within n = if nat_le 1 n && nat_le n 999999999 then Some n else None

abbrev pub tag_in : Data → Option ℕ
tag_in d = option_and_then tag_within (option_and_then as_u64 (as_number d))

abbrev pub tag_at : List ℕ → Data → Option ℕ
tag_at name d = option_and_then tag_in (get name d)

abbrev pub has : List ℕ → Data → Bool
has name d = is_some (get name d)
