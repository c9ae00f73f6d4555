-- What a settings text says of each session, and the first reason to refuse it.
use Rattle.std.specs.Prelude.{◌≡◌, ℕ, ◌&&◌, ◌||◌, nat_lt, nat_le, if◌then◌else◌, Bool, true, false, List, [], ◌∷◌}
use Rattle.std.specs.Prelude.{◌++◌, length, map, flat_map, codes, bytes_eq, Option, Some, None, is_some}
use Rattle.std.specs.List.{list_all, list_any}
use Rattle.std.specs.Option.{option_or}
use Rattle.std.specs.Cmp.Lexicographic.{slice_cmp}
use Rattle.std.specs.Ordering.{nat_cmp}
use Rattle.std.specs.declared.cmp.Ordering.TheVariants.{Less}
use Rattle.fix_base.specs.Lists.{Among}
use Rattle.fix_settings.specs.declared.key.Key.{Key}
use Rattle.fix_settings.specs.declared.key.Key.TheVariants as key
use Rattle.fix_settings.specs.declared.key.TheConstants.{KEYS}
use Rattle.fix_settings.specs.declared.fault.SettingsFault.{SettingsFault}
use Rattle.fix_settings.specs.declared.fault.SettingsCause.{SettingsCause}
use Rattle.fix_settings.specs.declared.fault.SettingsCause.TheVariants as cause
use Rattle.fix_settings.specs.declared.session_settings.SessionSettings.{SessionSettings}
use Rattle.fix_settings.specs.Lines.{Line, Passed, Default, Session, Given, Wrong, Pair, Section, read_lines}
use Rattle.fix_settings.specs.Lines.{is_heading, defaults_of, sections_of, last_of}
use Rattle.fix_settings.specs.Forms.{Value, value_in}
use Rattle.fix_settings.specs.Table.{Rule, rule_of, name_of, setting_of}

-- the first of the items at which something is found
abbrev pub first_some : {A B : Type 0} → (A → Option B) → List A → Option B
first_some f [] = None
first_some f (x ∷ xs) = option_or (f x) (first_some f xs)

-- ---- a session's value of a key

-- the last pair with the key in the session's section, else the last one in all default sections
abbrev pub pair_for : List Pair → List Pair → Key → Option Pair
pair_for defaults own k = option_or (last_of (name_of k) own) (last_of (name_of k) defaults)

-- what the pair says, else what the table has for a session without one
abbrev pub value_from : Rule → Option Pair → Option Value
value_from rule None = rule.default
value_from rule (Some pair) = value_in rule.form pair.value

abbrev pub value_for : List Pair → List Pair → Key → Option Value
value_for defaults own k = value_from (rule_of k) (pair_for defaults own k)

-- ---- the refusals

abbrev pub refused : ℕ → SettingsCause → Option SettingsFault
refused line c = Some (record { line = line; cause = c })

-- the keys that are for TLS alone
abbrev pub tls_keys : List (List ℕ)
tls_keys = codes "SocketPrivateKeyFile" ∷ codes "SocketCertificateFile" ∷ codes "SocketCAFile" ∷ []

-- whether a pair asks for TLS
abbrev pub asks_tls : Pair → Bool
asks_tls p = list_any (bytes_eq p.key) tls_keys ||
    (bytes_eq p.key (codes "SocketUseSSL") && bytes_eq p.value (codes "Y"))

-- a key in no section, or one that asks for TLS; `in_section` says whether a heading stands before
abbrev pub pair_refusal : Bool → Pair → Option SettingsFault
pair_refusal false p = refused p.line cause.NoSection
pair_refusal true p = if asks_tls p then refused p.line cause.TlsAsked else None

abbrev pub one_line_refusal : Bool → Line → Option SettingsFault
one_line_refusal in_section Passed = None
one_line_refusal in_section Default = None
one_line_refusal in_section (Session n) = None
one_line_refusal in_section (Given p) = pair_refusal in_section p
one_line_refusal in_section (Wrong n) = refused n cause.NotKeyValue

-- line by line
abbrev pub line_refusal : Bool → List Line → Option SettingsFault
line_refusal in_section [] = None
line_refusal in_section (line ∷ lines) = option_or (one_line_refusal in_section line)
    (line_refusal (in_section || is_heading line) lines)

-- no session, or more than 256
abbrev pub count_refusal : List Section → Option SettingsFault
count_refusal sections = if nat_lt 0 (length sections) && nat_le
    (length sections) 256 then None else refused 0 cause.NoSection

-- whether the value is of its form, and the keys that belong beside it have values
abbrev pub is_right : (Key → Option Pair) → Rule → Pair → Bool
is_right pairs rule pair = is_some (value_in rule.form pair.value) && list_all (λ k. is_some (pairs k)) rule.needs_keys

-- a key of a session whose heading stands in this line
abbrev pub key_refusal : ℕ → (Key → Option Pair) → Key → Option Pair → Option SettingsFault
key_refusal line pairs k None = if (rule_of k).required then refused line (cause.Missing k) else None
key_refusal line pairs k (Some pair) = if is_right pairs (rule_of k) pair then None else refused pair.line
    (cause.BadValue k)

-- key by key, in the table's order
abbrev pub keys_refusal : ℕ → (Key → Option Pair) → Option SettingsFault
keys_refusal line pairs = first_some (λ k. key_refusal line pairs k (pairs k)) KEYS

abbrev pub section_refusal : List Pair → Section → Option SettingsFault
section_refusal defaults s = keys_refusal s.line (pair_for defaults s.pairs)

-- who a session is between, as it is written: BeginString, SenderCompID and TargetCompID
abbrev pub text_for : Option Pair → List ℕ
text_for None = []
text_for (Some pair) = pair.value

pub record Endpoints : Type 0 where
  pub line : ℕ
  pub begin : List ℕ
  pub sender : List ℕ
  pub target : List ℕ

abbrev pub endpoints_from : ℕ → (Key → Option Pair) → Endpoints
endpoints_from line pairs = record {
  line = line;
  begin = text_for (pairs key.BeginString);
  sender = text_for (pairs key.SenderCompID);
  target = text_for (pairs key.TargetCompID);
}

abbrev pub endpoints_of : List Pair → Section → Endpoints
endpoints_of defaults s = endpoints_from s.line (pair_for defaults s.pairs)

abbrev pub is_same : Endpoints → Endpoints → Bool
is_same p q = bytes_eq p.begin q.begin && (bytes_eq p.sender q.sender && bytes_eq p.target q.target)

-- the first session that is between the same as one before it
abbrev pub same_refusal : List Endpoints → List Endpoints → Option SettingsFault
same_refusal before [] = None
same_refusal before (p ∷ ps) = if list_any
    (is_same p) before then refused p.line cause.SameIdentity else same_refusal (before ++ p ∷ []) ps

abbrev pub sections_refusal : List Pair → List Section → Option SettingsFault
sections_refusal defaults sections =
    option_or (count_refusal sections)
    (option_or (first_some (section_refusal defaults) sections)
    (same_refusal [] (map (endpoints_of defaults) sections)))

abbrev pub lines_refusal : List Line → Option SettingsFault
lines_refusal lines = option_or (line_refusal false lines) (sections_refusal (defaults_of lines) (sections_of lines))

-- the first refusal of a text: line by line, the number of sessions, session by session and key by
-- key, and two sessions between the same
abbrev pub refusal_of : List ℕ → Option SettingsFault
refusal_of text = lines_refusal (read_lines text)

-- ---- what is read

-- the keys that mean nothing here
abbrev pub is_known : List ℕ → Bool
is_known name = list_any (λ k. bytes_eq (name_of k) name) KEYS

abbrev pub unknown_of : Pair → List (List ℕ)
unknown_of p = if is_known p.key then [] else p.key ∷ []

abbrev pub unknown_in : Line → List (List ℕ)
unknown_in Passed = []
unknown_in Default = []
unknown_in (Session n) = []
unknown_in (Given p) = unknown_of p
unknown_in (Wrong n) = []

abbrev pub ignored_of : List Pair → List (List ℕ)
ignored_of pairs = flat_map unknown_of pairs

-- each is less than the next one, byte by byte
abbrev pub IsAscending : List (List ℕ) → Type 0
IsAscending [] = Unit {0}
IsAscending (x ∷ []) = Unit {0}
IsAscending (x ∷ y ∷ ys) = (slice_cmp nat_cmp x y ≡ Less) × IsAscending (y ∷ ys)

-- the names in the order of their bytes, each once
pub record AreInOrder (names made : List (List ℕ)) : Type 0 where
  pub ascending : IsAscending made
  pub each : (name : List ℕ) → Among name made → Among name names
  pub all : (name : List ℕ) → Among name names → Among name made

abbrev pub is_last : Option (List ℕ) → List ℕ → Bool
is_last None name = false
is_last (Some last) name = bytes_eq last name

-- without those that are the same as the one before
abbrev pub distinct : Option (List ℕ) → List (List ℕ) → List (List ℕ)
distinct last [] = []
distinct last (x ∷ xs) = if is_last last x then distinct last xs else x ∷ distinct (Some x) xs

-- the session's settings are those of its section, and its ignored keys are those of its section
-- and of the default ones
pub record IsSession (defaults : List Pair) (section : Section) (s : SessionSettings) : Type 0 where
  pub each : (k : Key) → setting_of s k ≡ value_for defaults section.pairs k
  pub ignored : AreInOrder (ignored_of (defaults ++ section.pairs)) s.ignored.items

-- the sessions are those of the sections, in their order
abbrev pub AreSessions : List Pair → List Section → List SessionSettings → Type 0
AreSessions defaults [] sessions = sessions ≡ []
AreSessions defaults (section ∷ sections) [] = ⊥
AreSessions defaults (section ∷ sections) (s ∷ sessions) = IsSession defaults section s
    × AreSessions defaults sections sessions

-- the sessions of a text
abbrev pub AreSessionsOf : List ℕ → List SessionSettings → Type 0
AreSessionsOf text sessions = AreSessions (defaults_of (read_lines text)) (sections_of (read_lines text)) sessions
