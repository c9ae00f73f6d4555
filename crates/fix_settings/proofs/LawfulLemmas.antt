-- What is read is lawful.
use Rattle.std.proofs.Common.{◌≡◌, ℕ, Bool, true, false, is_some, List, [], ◌∷◌, ◌++◌, map, codes, Option, Some, None, refl, sym, ap, ◌∙◌, subst}
use Rattle.std.specs.List.{list_all, AllByRecursion}
use Rattle.std.specs.Option.{option_or}
use Rattle.std.proofs.lemmas.Bool.{and_parts}
use Rattle.fix_base.specs.Lists.{Among, here, there}
use Rattle.fix_settings.specs.declared.key.Key.{Key}
use Rattle.fix_settings.specs.declared.key.Key.TheVariants as key
use Rattle.fix_settings.specs.declared.session_settings.SessionSettings.{SessionSettings}
use Rattle.fix_settings.specs.Lines.{Pair, Section, Line, defaults_of, sections_of, read_lines}
use Rattle.fix_settings.specs.Forms.{Value, value_in}
use Rattle.fix_settings.specs.Table.{Rule, rule_of}
use Rattle.fix_settings.specs.Reading.{first_some, value_from, pair_for, is_right, key_refusal, section_refusal, refused, IsSession, AreSessions, AreSessionsOf, lines_refusal, line_refusal, sections_refusal, count_refusal, same_refusal, endpoints_of, refusal_of}
use Rattle.fix_settings.specs.declared.fault.SettingsCause.TheVariants as cause
use Rattle.std.specs.Str.{IsUtf8}
use Rattle.fix_settings.specs.Lawful.{IsAllowed, ValueUtf8, IfHas, AreValid}
use Rattle.fix_settings.proofs.PairLemmas.{SectionHas, both_have, defaults_have, sections_have, ignored_has}
use Rattle.fix_settings.proofs.TextLemmas.{PairUtf8, read_utf8}
use Rattle.fix_settings.proofs.Utf8Lemmas.{for_utf8}
use Rattle.fix_settings.proofs.ShapeLemmas.{right_pair, right_value}
use Rattle.fix_settings.proofs.ReadLemmas.{first_none, or_left, or_right}

-- the table's own values are ones that a text says
standard_allowed : (line : ℕ) (g : Key → Option Pair) (k : Key) → key_refusal line g k None ≡ None → IsAllowed (rule_of k) (rule_of k).default
standard_allowed line g key.BeginString h = cc
standard_allowed line g key.SenderCompID h = cc
standard_allowed line g key.TargetCompID h = cc
standard_allowed line g key.HeartBtInt h = record { text = codes "30"; says = refl }
standard_allowed line g key.StartTime h = (refl, refl)
standard_allowed line g key.EndTime h = (refl, refl)
standard_allowed line g key.StartDay h = (refl, refl)
standard_allowed line g key.EndDay h = (refl, refl)
standard_allowed line g key.TimeZone h = record { text = codes "UTC"; says = refl }
standard_allowed line g key.ZoneRule h = (refl, refl)
standard_allowed line g key.ReconnectInterval h = record { text = codes "30"; says = refl }
standard_allowed line g key.LogonTimeout h = record { text = codes "10"; says = refl }
standard_allowed line g key.LogoutTimeout h = record { text = codes "2"; says = refl }
standard_allowed line g key.ResetOnLogon h = record { text = codes "N"; says = refl }
standard_allowed line g key.ResetOnLogout h = record { text = codes "N"; says = refl }
standard_allowed line g key.ResetOnDisconnect h = record { text = codes "N"; says = refl }
standard_allowed line g key.ResendRequestChunkSize h = record { text = codes "0"; says = refl }
standard_allowed line g key.CheckLatency h = record { text = codes "Y"; says = refl }
standard_allowed line g key.MaxLatency h = record { text = codes "120"; says = refl }
standard_allowed line g key.DataDictionary h = (refl, refl)
standard_allowed line g key.ValidateFieldsOutOfOrder h = record { text = codes "Y"; says = refl }
standard_allowed line g key.RejectInvalidMessage h = record { text = codes "Y"; says = refl }
standard_allowed line g key.PersistMessages h = record { text = codes "Y"; says = refl }
standard_allowed line g key.SocketConnectHost h = (refl, refl)
standard_allowed line g key.SocketConnectPort h = (refl, refl)
standard_allowed line g key.SocketAcceptHost h = record { text = codes "127.0.0.1"; says = refl }
standard_allowed line g key.SocketAcceptPort h = (refl, refl)
standard_allowed line g key.FileStorePath h = (refl, refl)
standard_allowed line g key.TimeStampPrecision h = record { text = codes "MILLIS"; says = refl }
standard_allowed line g key.AppTypes h = (refl, refl)

value_allowed : (rule : Rule) (text : List ℕ) (o : Option Value) → value_in rule.form text ≡ o → is_some o ≡ true → IsAllowed rule o
value_allowed rule text None e h = cc
value_allowed rule text (Some v) e h = record { text = text; says = e }

pair_allowed : (line : ℕ) (g : Key → Option Pair) (k : Key) (o : Option Pair) → key_refusal line g k o ≡ None → IsAllowed (rule_of k) (value_from (rule_of k) o)
pair_allowed line g k None h = standard_allowed line g k h
pair_allowed line g k (Some p) h = value_allowed (rule_of k) p.value (value_in (rule_of k).form p.value) refl (right_value line g k p h)

-- ---- the keys beside it

no_standard : (k j : Key) → Among j (rule_of k).needs_keys → (rule_of k).default ≡ None
no_standard key.BeginString j m = absurd (elim m [ ])
no_standard key.SenderCompID j m = absurd (elim m [ ])
no_standard key.TargetCompID j m = absurd (elim m [ ])
no_standard key.HeartBtInt j m = absurd (elim m [ ])
no_standard key.StartTime j m = refl
no_standard key.EndTime j m = refl
no_standard key.StartDay j m = refl
no_standard key.EndDay j m = refl
no_standard key.TimeZone j m = absurd (elim m [ ])
no_standard key.ZoneRule j m = refl
no_standard key.ReconnectInterval j m = absurd (elim m [ ])
no_standard key.LogonTimeout j m = absurd (elim m [ ])
no_standard key.LogoutTimeout j m = absurd (elim m [ ])
no_standard key.ResetOnLogon j m = absurd (elim m [ ])
no_standard key.ResetOnLogout j m = absurd (elim m [ ])
no_standard key.ResetOnDisconnect j m = absurd (elim m [ ])
no_standard key.ResendRequestChunkSize j m = absurd (elim m [ ])
no_standard key.CheckLatency j m = absurd (elim m [ ])
no_standard key.MaxLatency j m = absurd (elim m [ ])
no_standard key.DataDictionary j m = refl
no_standard key.ValidateFieldsOutOfOrder j m = absurd (elim m [ ])
no_standard key.RejectInvalidMessage j m = absurd (elim m [ ])
no_standard key.PersistMessages j m = absurd (elim m [ ])
no_standard key.SocketConnectHost j m = refl
no_standard key.SocketConnectPort j m = refl
no_standard key.SocketAcceptHost j m = absurd (elim m [ ])
no_standard key.SocketAcceptPort j m = refl
no_standard key.FileStorePath j m = refl
no_standard key.TimeStampPrecision j m = absurd (elim m [ ])
no_standard key.AppTypes j m = refl

all_among : {A : Type 0} (p : A → Bool) {x : A} {xs : List A} → Among x xs → list_all p xs ≡ true → p x ≡ true
all_among p {x = x} (here {xs = xs}) h = let a = and_parts (p x) (list_all p xs) h in a.0
all_among p (there {y = y} {xs = xs} m) h = let a = and_parts (p y) (list_all p xs) h in all_among p m a.1

has_value : (line : ℕ) (g : Key → Option Pair) (k : Key) (o : Option Pair) → key_refusal line g k o ≡ None → is_some o ≡ true → is_some (value_from (rule_of k) o) ≡ true
has_value line g k None h s = cc
has_value line g k (Some p) h s = right_value line g k p h

beside_pairs : (line : ℕ) (g : Key → Option Pair) (k j : Key) (o : Option Pair) → key_refusal line g k o ≡ None → Among j (rule_of k).needs_keys → is_some (value_from (rule_of k) o) ≡ true → is_some (g j) ≡ true
beside_pairs line g k j None h m s = let e : is_some {T = Value} None ≡ true = sym (ap is_some (no_standard k j m)) ∙ s in cc
beside_pairs line g k j (Some p) h m s =
    let right = right_pair line (is_right g (rule_of k) p) (refused p.line (cause.BadValue k)) (record { line = p.line; cause = cause.BadValue k }) refl h in
    let parts = and_parts (is_some (value_in (rule_of k).form p.value)) (list_all (λ i. is_some (g i)) (rule_of k).needs_keys) right in
    all_among (λ i. is_some (g i)) m parts.1

pub session_lawful : (defaults : List Pair) (section : Section) (s : SessionSettings) → AllByRecursion PairUtf8 defaults → AllByRecursion PairUtf8 section.pairs → section_refusal defaults section ≡ None → IsSession defaults section s → AreValid s
session_lawful defaults section s ud us right is =
    let g = pair_for defaults section.pairs in
    let none = first_none (λ k. key_refusal section.line g k (g k)) right in
    record {
      each = λ k. subst (λ o. IsAllowed (rule_of k) o) (sym (is.each k)) (pair_allowed section.line g k (g k) (none k));
      needs_keys = λ k j m h.
          let j_pair = beside_pairs section.line g k j (g k) (none k) m (sym (ap is_some (is.each k)) ∙ h) in
          ap is_some (is.each j) ∙ has_value section.line g j (g j) (none j) j_pair;
      utf8 = λ k. subst (IfHas ValueUtf8) (sym (is.each k)) (for_utf8 defaults section.pairs k ud us);
      ignored_utf8 = λ name m. ignored_has IsUtf8 PairUtf8 (λ p u. u.0) (defaults ++ section.pairs) name (both_have PairUtf8 defaults section.pairs ud us) (is.ignored.each name m);
    }

pub sessions_lawful : (defaults : List Pair) (sections : List Section) (sessions : List SessionSettings) → AllByRecursion PairUtf8 defaults → AllByRecursion (SectionHas PairUtf8) sections → first_some (section_refusal defaults) sections ≡ None → AreSessions defaults sections sessions → AllByRecursion AreValid sessions
sessions_lawful defaults [] [] ud us right are = tt
sessions_lawful defaults [] (s ∷ ss) ud us right are = cc
sessions_lawful defaults (x ∷ xs) [] ud us right are = absurd are
sessions_lawful defaults (x ∷ xs) (s ∷ ss) ud us right are = (
  session_lawful defaults x s ud us.0 (or_left (section_refusal defaults x) (first_some (section_refusal defaults) xs) right) are.0,
  sessions_lawful defaults xs ss ud us.1 (or_right (section_refusal defaults x) (first_some (section_refusal defaults) xs) right) are.1,
)

-- what isn't refused as a text isn't refused at any section
sections_right : (lines : List Line) → lines_refusal lines ≡ None → first_some (section_refusal (defaults_of lines)) (sections_of lines) ≡ None
sections_right lines h =
    let all = or_right (line_refusal false lines) (sections_refusal (defaults_of lines) (sections_of lines)) h in
    let behind = or_right (count_refusal (sections_of lines)) (option_or (first_some (section_refusal (defaults_of lines)) (sections_of lines)) (same_refusal [] (map (endpoints_of (defaults_of lines)) (sections_of lines)))) all in
    or_left (first_some (section_refusal (defaults_of lines)) (sections_of lines)) (same_refusal [] (map (endpoints_of (defaults_of lines)) (sections_of lines))) behind

pub text_lawful : (text : List ℕ) (sessions : List SessionSettings) → IsUtf8 text → refusal_of text ≡ None → AreSessionsOf text sessions → AllByRecursion AreValid sessions
text_lawful text sessions u h are = sessions_lawful (defaults_of (read_lines text)) (sections_of (read_lines text)) sessions (defaults_have PairUtf8 (read_lines text) (read_utf8 text u)) (sections_have PairUtf8 (read_lines text) (read_utf8 text u)) (sections_right (read_lines text) h) are
