-- Settings that a session can be run with.
use Rattle.std.specs.Prelude.{◌≡◌, ℕ, true, false, List, is_some, Option, Some, None}
use Rattle.fix_base.specs.Lists.{Among}
use Rattle.fix_settings.specs.declared.key.Key.{Key}
use Rattle.fix_settings.specs.declared.session_settings.SessionSettings.{SessionSettings}
use Rattle.std.specs.Str.{IsUtf8}
use Rattle.std.specs.List.{AllByRecursion}
use Rattle.fix_settings.specs.Forms.{Value, Version, Number, Port, Clock, Day, Flag, Fine, Text, Types, value_in}
use Rattle.fix_settings.specs.Table.{Rule, rule_of, setting_of}

-- a value that some text of the key's form says
pub record IsValueOf (rule : Rule) (v : Value) : Type 0 where
  pub text : List ℕ
  pub says : value_in rule.form text ≡ Some v

-- no value stands where none is asked for and the table has none
abbrev pub IsAllowed : Rule → Option Value → Type 0
IsAllowed rule None = (rule.required ≡ false) × (rule.default ≡ None)
IsAllowed rule (Some v) = IsValueOf rule v

-- its texts are UTF-8
abbrev pub ValueUtf8 : Value → Type 0
ValueUtf8 (Version begin) = Unit {0}
ValueUtf8 (Number n) = Unit {0}
ValueUtf8 (Port n) = Unit {0}
ValueUtf8 (Clock s) = Unit {0}
ValueUtf8 (Day day) = Unit {0}
ValueUtf8 (Flag on) = Unit {0}
ValueUtf8 (Fine precision) = Unit {0}
ValueUtf8 (Text text) = IsUtf8 text
ValueUtf8 (Types types) = AllByRecursion IsUtf8 types

-- what is so of a value, where there is one
abbrev pub IfHas : (Value → Type 0) → Option Value → Type 0
IfHas P None = Unit {0}
IfHas P (Some v) = P v

-- each field has a value that its key allows, and the keys that belong beside one that has a value
-- have values; and its texts are UTF-8
pub record AreValid (s : SessionSettings) : Type 0 where
  pub each : (k : Key) → IsAllowed (rule_of k) (setting_of s k)
  pub needs_keys : (k j : Key) → Among j (rule_of k).needs_keys → is_some (setting_of s k) ≡ true
      → is_some (setting_of s j) ≡ true
  pub utf8 : (k : Key) → IfHas ValueUtf8 (setting_of s k)
  pub ignored_utf8 : (name : List ℕ) → Among name s.ignored.items → IsUtf8 name
