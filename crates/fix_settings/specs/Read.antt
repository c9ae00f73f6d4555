-- What was read of one section, and of all.
use Rattle.std.specs.Prelude.{◌≡◌, ◌⊎◌, ℕ, List, [], map, Option, Some, None, Vec, Result, Ok, Err}
use Rattle.std.specs.Option.{option_or}
use Rattle.std.specs.List.{AllByRecursion}
use Rattle.fix_settings.specs.Lawful.{AreValid}
use Rattle.fix_settings.specs.declared.key.TheConstants.{KEYS}
use Rattle.fix_settings.specs.declared.line.LineRef.{LineRef}
use Rattle.fix_settings.specs.declared.line.PairRef.{PairRef}
use Rattle.fix_settings.specs.declared.fault.SettingsFault.{SettingsFault}
use Rattle.fix_settings.specs.declared.fault.SettingsCause.TheVariants as cause
use Rattle.fix_settings.specs.declared.session_settings.SessionSettings.{SessionSettings}
use Rattle.fix_settings.specs.declared.judging.EndpointsRef.{EndpointsRef}
use Rattle.fix_settings.specs.declared.reading.OneRead.{OneRead}
use Rattle.fix_settings.specs.declared.reading.OneRead.TheVariants as one
use Rattle.fix_settings.specs.Lines.{Pair, Section, last_of, defaults_of}
use Rattle.fix_settings.specs.Lent.{party_read, pairs_read, lines_read}
use Rattle.fix_settings.specs.Table.{name_of}
use Rattle.fix_settings.specs.Reading.{first_some, section_refusal, same_refusal, refusal_of, endpoints_of}
use Rattle.fix_settings.specs.Reading.{IsSession, AreSessions, AreSessionsOf}

-- a session that was read
pub record IsGiven (defaults : List Pair) (section : Section) (s : SessionSettings)
    (endpoints : EndpointsRef) : Type 0 where
  pub right : section_refusal defaults section ≡ None
  pub settings : IsSession defaults section s
  pub party_is : party_read endpoints ≡ endpoints_of defaults section

abbrev pub IsRead : List Pair → Section → OneRead → Type 0
IsRead defaults section (one.Session s endpoints) = IsGiven defaults section s endpoints
IsRead defaults section (one.Refused fault) = section_refusal defaults section ≡ Some fault

-- the last default pair for each key, in the table's order
pub record DefaultsAre (lines : List LineRef) (pairs : List (Option PairRef)) : Type 0 where
  pub are : pairs_read pairs ≡ map (λ k. last_of (name_of k) (defaults_of (lines_read lines))) KEYS

-- what was read of all sections
abbrev pub AreRead : {Z : Type 0} → List Pair → List Section → Result (Vec SessionSettings Z) SettingsFault → Type 0
AreRead defaults sections (Err fault) = option_or (first_some (section_refusal defaults) sections)
    (same_refusal [] (map (endpoints_of defaults) sections)) ≡ Some fault
AreRead defaults sections (Ok sessions) =
    (option_or (first_some (section_refusal defaults) sections)
    (same_refusal [] (map (endpoints_of defaults) sections)) ≡ None)
    × AreSessions defaults sections sessions.items

-- what was read of a text
abbrev pub IsReadOf : {Z : Type 0} → List ℕ → Result (Vec SessionSettings Z) SettingsFault → Type 0
IsReadOf text (Err fault) = refusal_of text ≡ Some fault
IsReadOf text (Ok sessions) = (refusal_of text ≡ None) × AreSessionsOf text sessions.items

-- the text is not refused, and these are its sessions, which are lawful
pub record AreSettingsOf (text : List ℕ) (sessions : List SessionSettings) : Type 0 where
  pub right : refusal_of text ≡ None
  pub sessions_are : AreSessionsOf text sessions
  pub lawful : AllByRecursion AreValid sessions

-- the text's first refusal, or out of memory
abbrev pub IsFaultOf : List ℕ → SettingsFault → Type 0
IsFaultOf text fault = (refusal_of text ≡ Some fault) ⊎ (fault ≡ record { line = 0; cause = cause.OutOfMemory })
