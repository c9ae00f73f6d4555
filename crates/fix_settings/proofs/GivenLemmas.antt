-- What is read can be printed and read again.
use Rattle.std.proofs.Common.{◌≡◌, inl, inr, ℕ, suc, ◌&&◌, nat_lt, nat_le, Bool, true, false, List, [], ◌∷◌, ◌++◌, length, map, codes, bytes_eq, Option, Some, None, option_map, refl, sym, ap, ◌∙◌, subst, if◌then◌else◌}
use Rattle.std.specs.List.{AllByRecursion}
use Rattle.std.specs.Option.{option_or}
use Rattle.std.proofs.lemmas.Bool.{cases_Bool}
use Rattle.std.proofs.lemmas.Slice.Eq.{bytes_eq-Decides}
use Rattle.fix_base.specs.declared.identity.Begin.{Begin}
use Rattle.fix_base.specs.declared.identity.Begin.TheVariants.{Fix42, Fix44}
use Rattle.fix_base.specs.Lists.{Among, here, there}
use Rattle.fix_base.specs.Session.{begin_string_of, is_comp_id}
use Rattle.fix_settings.specs.declared.key.Key.{Key}
use Rattle.fix_settings.specs.declared.key.Key.TheVariants as key
use Rattle.fix_settings.specs.declared.fault.SettingsFault.{SettingsFault}
use Rattle.fix_settings.specs.declared.fault.SettingsCause.TheVariants as cause
use Rattle.fix_settings.specs.declared.session_settings.SessionSettings.{SessionSettings}
use Rattle.fix_settings.specs.Lines.{Pair, Section, read_lines, defaults_of, sections_of}
use Rattle.fix_settings.specs.Forms.{Value, Version, Text, version_in, text_if}
use Rattle.fix_settings.specs.Table.{rule_of, setting_of}
use Rattle.fix_settings.specs.Reading.{first_some, value_from, pair_for, section_refusal, text_for, endpoints_of, same_refusal, count_refusal, sections_refusal, line_refusal, IsSession, AreSessions}
use Rattle.fix_settings.specs.Read.{AreSettingsOf}
use Rattle.fix_settings.specs.Again.{IsPrintable, ArePrintable, ReadsBack, endpoints_for}
use Rattle.fix_settings.proofs.ReadLemmas.{or_left, or_right}
use Rattle.fix_settings.proofs.PairLemmas.{IfPair, SectionHas, both_have, defaults_have, sections_have, for_has, ignored_has}
use Rattle.fix_settings.proofs.KeptLemmas.{NoLf, PairKept, read_kept}
use Rattle.fix_settings.proofs.ValueLemmas.{SaysAgain, IfSaysAgain, said_again, key_near, standard_again}
use Rattle.fix_settings.proofs.LawLemmas.{SameParties, end, next, none_same, reads_back}

-- ---- each session

from_again : (k : Key) (o : Option Pair) → IfPair PairKept o → IfSaysAgain (rule_of k).form (value_from (rule_of k) o)
from_again k None u = standard_again k
from_again k (Some p) u = said_again (rule_of k).form p.value (key_near k) u.1

setting_again : (defaults : List Pair) (section : Section) (s : SessionSettings) (k : Key) (v : Value) → AllByRecursion PairKept defaults → AllByRecursion PairKept section.pairs → IsSession defaults section s → setting_of s k ≡ Some v → SaysAgain (rule_of k).form v
setting_again defaults section s k v kd ks is e = subst (IfSaysAgain (rule_of k).form) (sym (is.each k) ∙ e) (from_again k (pair_for defaults section.pairs k) (for_has PairKept defaults section.pairs k kd ks))

all_of : (T : List ℕ → Type 0) (names : List (List ℕ)) → ((name : List ℕ) → Among name names → T name) → AllByRecursion T names
all_of T [] h = tt
all_of T (name ∷ names) h = (h name here, all_of T names (λ n m. h n (there m)))

session_printable : (defaults : List Pair) (section : Section) (s : SessionSettings) → AllByRecursion PairKept defaults → AllByRecursion PairKept section.pairs → IsSession defaults section s → IsPrintable s
session_printable defaults section s kd ks is = record {
  texts = λ k v e. let a = setting_again defaults section s k v kd ks is e in a.text;
  says = λ k v e. let a = setting_again defaults section s k v kd ks is e in a.says;
  ignored = all_of NoLf s.ignored.items (λ name m. ignored_has NoLf PairKept (λ p u. u.0) (defaults ++ section.pairs) name (both_have PairKept defaults section.pairs kd ks) (is.ignored.each name m));
}

sessions_printable : (defaults : List Pair) (sections : List Section) (sessions : List SessionSettings) → AllByRecursion PairKept defaults → AllByRecursion (SectionHas PairKept) sections → AreSessions defaults sections sessions → AllByRecursion IsPrintable sessions
sessions_printable defaults [] [] kd ks are = tt
sessions_printable defaults [] (s ∷ ss) kd ks are = cc
sessions_printable defaults (x ∷ xs) [] kd ks are = absurd are
sessions_printable defaults (x ∷ xs) (s ∷ ss) kd ks are = (session_printable defaults x s kd ks.0 are.0, sessions_printable defaults xs ss kd ks.1 are.1)

-- ---- how many

as_many : (defaults : List Pair) (sections : List Section) (sessions : List SessionSettings) → AreSessions defaults sections sessions → length sections ≡ length sessions
as_many defaults [] [] are = refl
as_many defaults [] (s ∷ ss) are = cc
as_many defaults (x ∷ xs) [] are = absurd are
as_many defaults (x ∷ xs) (s ∷ ss) are = ap (λ n. suc n) (as_many defaults xs ss are.1)

if_none : (b : Bool) (f : SettingsFault) → (if b then None else Some f) ≡ None → b ≡ true
if_none true f h = refl
if_none false f h = cc

-- ---- who the sessions are between

abbrev no_version : Option Begin
no_version = None

version_text : (t : List ℕ) (b : Begin) → version_in t ≡ Some b → begin_string_of b ≡ t
version_text t b h = elim (cases_Bool (bytes_eq t (codes "FIX.4.2"))) [
  | inl e ↦ (let s : Some Fix42 ≡ Some b = rw e at h in
      let is : b ≡ Fix42 = cc in
      let d = bytes_eq-Decides t (codes "FIX.4.2") in
      ap begin_string_of is ∙ sym (d.0 e))
  | inr f ↦ elim (cases_Bool (bytes_eq t (codes "FIX.4.4"))) [
    | inl e ↦ (let s : Some Fix44 ≡ Some b = rw (f, e) at h in
        let is : b ≡ Fix44 = cc in
        let d = bytes_eq-Decides t (codes "FIX.4.4") in
        ap begin_string_of is ∙ sym (d.0 e))
    | inr g ↦ (let s : no_version ≡ Some b = rw (f, g) at h in cc)
  ]
]

version_said : (o : Option Begin) (b : Begin) → option_map Version o ≡ Some (Version b) → o ≡ Some b
version_said None b h = cc
version_said (Some a) b h = cc

text_said : (passes : Bool) (t x : List ℕ) → text_if passes t ≡ Some (Text x) → x ≡ t
text_said true t x h = cc
text_said false t x h = cc

begin_written : (o : Option Pair) (b : Begin) → value_from (rule_of key.BeginString) o ≡ Some (Version b) → begin_string_of b ≡ text_for o
begin_written None b h = cc
begin_written (Some p) b h = version_text p.value b (version_said (version_in p.value) b h)

sender_written : (o : Option Pair) (t : List ℕ) → value_from (rule_of key.SenderCompID) o ≡ Some (Text t) → t ≡ text_for o
sender_written None t h = cc
sender_written (Some p) t h = text_said (is_comp_id p.value) p.value t h

target_written : (o : Option Pair) (t : List ℕ) → value_from (rule_of key.TargetCompID) o ≡ Some (Text t) → t ≡ text_for o
target_written None t h = cc
target_written (Some p) t h = text_said (is_comp_id p.value) p.value t h

parties_given : (defaults : List Pair) (sections : List Section) (sessions : List SessionSettings) → AreSessions defaults sections sessions → SameParties (map endpoints_for sessions) (map (endpoints_of defaults) sections)
parties_given defaults [] [] are = end
parties_given defaults [] (s ∷ ss) are = cc
parties_given defaults (x ∷ xs) [] are = absurd are
parties_given defaults (x ∷ xs) (s ∷ ss) are =
    let is = are.0 in
    next
    (record {
      begin = begin_written (pair_for defaults x.pairs key.BeginString) s.begin_string (sym (is.each key.BeginString));
      sender = sender_written (pair_for defaults x.pairs key.SenderCompID) s.sender_comp_id (sym (is.each key.SenderCompID));
      target = target_written (pair_for defaults x.pairs key.TargetCompID) s.target_comp_id (sym (is.each key.TargetCompID));
    })
    (parties_given defaults xs ss are.1)

-- ---- a text's sessions

pub given_printable : (text : List ℕ) (sessions : List SessionSettings) → AreSettingsOf text sessions → ArePrintable sessions
given_printable text sessions is =
    let lines = read_lines text in
    let of = defaults_of (read_lines text) in
    let sections = sections_of (read_lines text) in
    let first = first_some (section_refusal of) sections in
    let same = same_refusal [] (map (endpoints_of of) sections) in
    let behind : sections_refusal of sections ≡ None = or_right (line_refusal false lines) (sections_refusal of sections) is.right in
    let count : count_refusal sections ≡ None = or_left (count_refusal sections) (option_or first same) behind in
    let distinct : same ≡ None = or_right first same (or_right (count_refusal sections) (option_or first same) behind) in
    record {
      each = sessions_printable of sections sessions (defaults_have PairKept lines (read_kept text)) (sections_have PairKept lines (read_kept text)) is.sessions_are;
      lawful = is.lawful;
      count = sym (ap (λ n. nat_lt 0 n && nat_le n 256) (as_many of sections sessions is.sessions_are)) ∙ if_none (nat_lt 0 (length sections) && nat_le (length sections) 256) (record { line = 0; cause = cause.NoSection }) count;
      distinct = none_same end (parties_given of sections sessions is.sessions_are) distinct;
    }

pub given_reads_back : (text : List ℕ) (sessions : List SessionSettings) → AreSettingsOf text sessions → ReadsBack sessions
given_reads_back text sessions is = reads_back sessions (given_printable text sessions is)
