-- What is printed and read again.
use Rattle.std.specs.Prelude.{◌≡◌, ℕ, ◌==◌, ◌&&◌, nat_lt, nat_le, not, Bool, true, List, [], ◌∷◌, length, map, Some}
use Rattle.std.specs.Prelude.{None}
use Rattle.std.specs.List.{list_all, AllByRecursion}
use Rattle.std.specs.Str.{IsUtf8}
use Rattle.fix_base.specs.Session.{begin_string_of}
use Rattle.fix_settings.specs.declared.key.Key.{Key}
use Rattle.fix_settings.specs.declared.session_settings.SessionSettings.{SessionSettings}
use Rattle.fix_settings.specs.Lines.{trim_front, trim_back}
use Rattle.fix_settings.specs.Forms.{Value, value_in, value_text}
use Rattle.fix_settings.specs.Table.{rule_of, setting_of}
use Rattle.fix_settings.specs.Reading.{Endpoints, same_refusal, refusal_of, AreSessionsOf}
use Rattle.fix_settings.specs.Lawful.{AreValid}
use Rattle.fix_settings.specs.Printing.{settings_text}

-- no LF stands in the bytes
abbrev pub has_no_lf : List ℕ → Bool
has_no_lf bytes = list_all (λ b. not (b == 10)) bytes

-- what a line can hold after its `=`: no LF, and no blank at either end
pub record IsLineText (text : List ℕ) : Type 0 where
  pub one_line : has_no_lf text ≡ true
  pub front : trim_front text ≡ text
  pub back : trim_back text ≡ text

-- a line can hold the text of each value, and the text says the value; an ignored key has no LF
pub record IsPrintable (s : SessionSettings) : Type 0 where
  pub texts : (k : Key) (v : Value) → setting_of s k ≡ Some v → IsLineText (value_text v)
  pub says : (k : Key) (v : Value) → setting_of s k ≡ Some v → value_in (rule_of k).form (value_text v) ≡ Some v
  pub ignored : AllByRecursion (λ name. has_no_lf name ≡ true) s.ignored.items

-- who a session is between
abbrev pub endpoints_for : SessionSettings → Endpoints
endpoints_for s = record {
  line = 0;
  begin = begin_string_of s.begin_string;
  sender = s.sender_comp_id;
  target = s.target_comp_id;
}

-- sessions whose text can be read again: lawful ones, 1 to 256 of them, no two between the same
pub record ArePrintable (sessions : List SessionSettings) : Type 0 where
  pub each : AllByRecursion IsPrintable sessions
  pub lawful : AllByRecursion AreValid sessions
  pub count : (nat_lt 0 (length sessions) && nat_le (length sessions) 256) ≡ true
  pub distinct : same_refusal [] (map endpoints_for sessions) ≡ None

-- the same settings, and no ignored keys
pub record IsAgain (s again : SessionSettings) : Type 0 where
  pub each : (k : Key) → setting_of again k ≡ setting_of s k
  pub ignored : again.ignored.items ≡ []

abbrev pub AreAgain : List SessionSettings → List SessionSettings → Type 0
AreAgain [] again = again ≡ []
AreAgain (s ∷ ss) [] = ⊥
AreAgain (s ∷ ss) (t ∷ ts) = IsAgain s t × AreAgain ss ts

-- the printed text is UTF-8 and isn't refused, and what is read of it are the same sessions without
-- the ignored keys
pub record ReadsBack (sessions : List SessionSettings) : Type 0 where
  pub utf8 : IsUtf8 (settings_text sessions)
  pub right : refusal_of (settings_text sessions) ≡ None
  pub same : (again : List SessionSettings) → AreSessionsOf (settings_text sessions) again → AreAgain sessions again
