-- Reading what is printed.
use Rattle.std.proofs.Common.{◌≡◌, ℕ, suc, ◌&&◌, ◌||◌, nat_lt, nat_le, Bool, true, false, List, [], ◌∷◌, ◌++◌, length, map, Option, Some, None, is_some, bytes_eq, refl, sym, ap, ◌∙◌, subst, if◌then◌else◌}
use Rattle.std.specs.List.{list_all, list_any, AllByRecursion}
use Rattle.std.specs.Option.{option_or}
use Rattle.std.proofs.lemmas.Bool.{and_from}
use Rattle.fix_base.specs.Lists.{Among, here, there}
use Rattle.fix_base.specs.Session.{begin_string_of}
use Rattle.fix_settings.specs.declared.key.Key.{Key}
use Rattle.fix_settings.specs.declared.key.Key.TheVariants as key
use Rattle.fix_settings.specs.declared.key.TheConstants.{KEYS}
use Rattle.fix_settings.specs.declared.fault.SettingsFault.{SettingsFault}
use Rattle.fix_settings.specs.declared.fault.SettingsCause.TheVariants as cause
use Rattle.fix_settings.specs.declared.session_settings.SessionSettings.{SessionSettings}
use Rattle.fix_settings.specs.Lines.{Pair, Line, Section, read_lines, defaults_of, sections_of}
use Rattle.fix_settings.specs.Forms.{Value, value_in, value_text}
use Rattle.fix_settings.specs.Table.{Rule, rule_of, name_of, setting_of}
use Rattle.fix_settings.specs.Reading.{first_some, value_from, pair_for, is_right, refused, key_refusal, section_refusal, line_refusal, text_for, Endpoints, endpoints_of, is_same, same_refusal, count_refusal, sections_refusal, lines_refusal, IsSession, AreSessions, AreInOrder, ignored_of}
use Rattle.fix_settings.specs.Lawful.{IsAllowed, AreValid}
use Rattle.fix_settings.specs.Printing.{settings_text}
use Rattle.fix_settings.specs.Again.{IsPrintable, ArePrintable, IsAgain, AreAgain, ReadsBack, endpoints_for}
use Rattle.fix_settings.proofs.PrintedLemmas.{printed_utf8}
use Rattle.fix_settings.proofs.AgainLemmas.{Written, done, skip, pair}
use Rattle.fix_settings.proofs.BackLemmas.{PrintedLines, PrintedSections, none, more, printed, no_defaults, sections_printed, no_line_refusal, pair_printed, has_key, text_in, text_of}

ap2 : {A B C : Type 0} (f : A → B → C) {a b : A} {c d : B} → a ≡ b → c ≡ d → f a c ≡ f b d
ap2 f p q = λ i. f (p i) (q i)

-- ---- one session

-- a pair with the value's text says the value
value_back : (rule : Rule) (o : Option Pair) (w : Option Value) → text_in o ≡ text_of w → (w ≡ None → rule.default ≡ None) → ((v : Value) → w ≡ Some v → value_in rule.form (value_text v) ≡ Some v) → value_from rule o ≡ w
value_back rule None None e std says = std refl
value_back rule None (Some v) e std says = cc
value_back rule (Some p) None e std says = cc
value_back rule (Some p) (Some v) e std says = let t : p.value ≡ value_text v = cc in ap (value_in rule.form) t ∙ says v refl

unset_standard : (rule : Rule) (w : Option Value) → IsAllowed rule w → w ≡ None → (rule.required ≡ false) × (rule.default ≡ None)
unset_standard rule None a e = a
unset_standard rule (Some v) a e = cc

pub value_again : (s : SessionSettings) (ps : List Pair) (k : Key) → IsPrintable s → AreValid s → Written s KEYS ps → value_from (rule_of k) (pair_for [] ps k) ≡ setting_of s k
value_again s ps k is law w = value_back (rule_of k) (pair_for [] ps k) (setting_of s k) (pair_printed k w) (λ e. let u = unset_standard (rule_of k) (setting_of s k) (law.each k) e in u.1) (λ v e. is.says k v e)

all_from : {A : Type 0} (p : A → Bool) (xs : List A) → ((x : A) → Among x xs → p x ≡ true) → list_all p xs ≡ true
all_from p [] h = refl
all_from p (x ∷ xs) h = and_from (p x) (list_all p xs) (h x here) (all_from p xs (λ y m. h y (there m)))

some_same : (o : Option Pair) (w : Option Value) → text_in o ≡ text_of w → is_some w ≡ true → is_some o ≡ true
some_same (Some p) w e h = refl
some_same None None e h = cc
some_same None (Some v) e h = cc

when_right : (b : Bool) (o : Option SettingsFault) → b ≡ true → (if b then None else o) ≡ None
when_right true o h = refl
when_right false o h = cc

refusal_none : (line : ℕ) (g : Key → Option Pair) (k : Key) (o : Option Pair) (w : Option Value) → text_in o ≡ text_of w → (w ≡ None → (rule_of k).required ≡ false) → value_from (rule_of k) o ≡ w → (is_some w ≡ true → list_all (λ j. is_some (g j)) (rule_of k).needs_keys ≡ true) → key_refusal line g k o ≡ None
refusal_none line g k None None e required v needs_keys = rw (required refl) refl
refusal_none line g k None (Some x) e required v needs_keys = cc
refusal_none line g k (Some p) None e required v needs_keys = cc
refusal_none line g k (Some p) (Some x) e required v needs_keys =
    let right : is_right g (rule_of k) p ≡ true = and_from (is_some (value_in (rule_of k).form p.value)) (list_all (λ j. is_some (g j)) (rule_of k).needs_keys) (ap is_some v) (needs_keys refl) in
    when_right (is_right g (rule_of k) p) (refused p.line (cause.BadValue k)) right

key_none : (s : SessionSettings) (ps : List Pair) (line : ℕ) (k : Key) → IsPrintable s → AreValid s → Written s KEYS ps → key_refusal line (pair_for [] ps) k (pair_for [] ps k) ≡ None
key_none s ps line k is law w = refusal_none line (pair_for [] ps) k (pair_for [] ps k) (setting_of s k) (pair_printed k w)
    (λ e. let u = unset_standard (rule_of k) (setting_of s k) (law.each k) e in u.0)
    (value_again s ps k is law w)
    (λ h. all_from (λ j. is_some (pair_for [] ps j)) (rule_of k).needs_keys (λ j m. some_same (pair_for [] ps j) (setting_of s j) (pair_printed j w) (law.needs_keys k j m h)))

keys_none : (f : Key → Option SettingsFault) (keys : List Key) → ((k : Key) → f k ≡ None) → first_some f keys ≡ None
keys_none f [] h = refl
keys_none f (k ∷ keys) h = rw (h k) (keys_none f keys h)

section_none : (s : SessionSettings) (n : ℕ) (ps : List Pair) → IsPrintable s → AreValid s → Written s KEYS ps → section_refusal [] (record { line = n; pairs = ps }) ≡ None
section_none s n ps is law w = keys_none (λ k. key_refusal n (pair_for [] ps) k (pair_for [] ps k)) KEYS (λ k. key_none s ps n k is law w)

sections_none : {ss : List SessionSettings} {sections : List Section} → PrintedSections KEYS ss sections → AllByRecursion IsPrintable ss → AllByRecursion AreValid ss → first_some (section_refusal []) sections ≡ None
sections_none none is law = refl
sections_none (more {s = s} {sections = rest} n ps w r) is law = ap (λ o. option_or o (first_some (section_refusal []) rest)) (section_none s n ps is.0 law.0 w) ∙ sections_none r is.1 law.1

count_same : {keys : List Key} {ss : List SessionSettings} {sections : List Section} → PrintedSections keys ss sections → length sections ≡ length ss
count_same none = refl
count_same (more n ps w r) = ap (λ n. suc n) (count_same r)

-- ---- who the sessions are between

pub record SameParty (p q : Endpoints) : Type 0 where
  pub begin : p.begin ≡ q.begin
  pub sender : p.sender ≡ q.sender
  pub target : p.target ≡ q.target

pub data SameParties : List Endpoints → List Endpoints → Type 0 where
  end : SameParties [] []
  next : {p q : Endpoints} {ps qs : List Endpoints} → SameParty p q → SameParties ps qs → SameParties (p ∷ ps) (q ∷ qs)

same_test : (p q r t : Endpoints) → SameParty p q → SameParty r t → is_same p r ≡ is_same q t
same_test p q r t a b = ap2 (λ x y. x && y) (ap2 bytes_eq a.begin b.begin) (ap2 (λ x y. x && y) (ap2 bytes_eq a.sender b.sender) (ap2 bytes_eq a.target b.target))

any_same : (p q : Endpoints) {ps qs : List Endpoints} → SameParty p q → SameParties ps qs → list_any (is_same p) ps ≡ list_any (is_same q) qs
any_same p q a end = refl
any_same p q a (next {p = r} {q = t} b bs) = ap2 (λ x y. x || y) (same_test p q r t a b) (any_same p q a bs)

parties_push : {ps qs : List Endpoints} {p q : Endpoints} → SameParties ps qs → SameParty p q → SameParties (ps ++ p ∷ []) (qs ++ q ∷ [])
parties_push end a = next a end
parties_push (next b bs) a = next b (parties_push bs a)

chosen : (x y : Bool) (m n : ℕ) (f g : Option SettingsFault) → x ≡ y → (if y then refused n cause.SameIdentity else g) ≡ None → (g ≡ None → f ≡ None) → (if x then refused m cause.SameIdentity else f) ≡ None
chosen true true m n f g e h k = cc
chosen true false m n f g e h k = cc
chosen false true m n f g e h k = cc
chosen false false m n f g e h k = k h

pub none_same : {before old ps qs : List Endpoints} → SameParties before old → SameParties ps qs → same_refusal old qs ≡ None → same_refusal before ps ≡ None
none_same b end h = refl
none_same {before = before} {old = old} b (next {p = p} {q = q} {ps = ps} {qs = qs} a others) h =
    chosen (list_any (is_same p) before) (list_any (is_same q) old) p.line q.line (same_refusal (before ++ p ∷ []) ps) (same_refusal (old ++ q ∷ []) qs) (any_same p q a b) h (λ i. none_same (parties_push b a) others i)

text_from : (o : Option Pair) (t : List ℕ) → text_in o ≡ Some t → text_for o ≡ t
text_from None t e = cc
text_from (Some p) t e = cc

parties_printed : {ss : List SessionSettings} {sections : List Section} → PrintedSections KEYS ss sections → SameParties (map (endpoints_of []) sections) (map endpoints_for ss)
parties_printed none = end
parties_printed (more {s = s} n ps w r) = next
    (record {
      begin = text_from (pair_for [] ps key.BeginString) (begin_string_of s.begin_string) (pair_printed key.BeginString w);
      sender = text_from (pair_for [] ps key.SenderCompID) s.sender_comp_id (pair_printed key.SenderCompID w);
      target = text_from (pair_for [] ps key.TargetCompID) s.target_comp_id (pair_printed key.TargetCompID w);
    })
    (parties_printed r)

-- ---- what is read

no_ignored : {s : SessionSettings} {keys : List Key} {ps : List Pair} → Written s keys ps → ignored_of ps ≡ []
no_ignored done = refl
no_ignored (skip k e w) = no_ignored w
no_ignored (pair k {ps = ps} n v e w) = ap (λ b. (if b then [] else name_of k ∷ []) ++ ignored_of ps) (has_key k) ∙ no_ignored w

none_in_order : (made : List (List ℕ)) → AreInOrder [] made → made ≡ []
none_in_order [] h = refl
none_in_order (x ∷ xs) h = absurd (elim (h.each x here) [ ])

session_again : (s t : SessionSettings) (n : ℕ) (ps : List Pair) → IsPrintable s → AreValid s → Written s KEYS ps → IsSession [] (record { line = n; pairs = ps }) t → IsAgain s t
session_again s t n ps is law w h = record {
  each = λ k. h.each k ∙ value_again s ps k is law w;
  ignored = none_in_order t.ignored.items (subst (λ names. AreInOrder names t.ignored.items) (no_ignored w) h.ignored);
}

sessions_again : {ss : List SessionSettings} {sections : List Section} (again : List SessionSettings) → PrintedSections KEYS ss sections → AllByRecursion IsPrintable ss → AllByRecursion AreValid ss → AreSessions [] sections again → AreAgain ss again
sessions_again again none is law h = h
sessions_again [] (more n ps w r) is law h = absurd h
sessions_again (t ∷ ts) (more {s = s} n ps w r) is law h = (session_again s t n ps is.0 law.0 w h.0, sessions_again ts r is.1 law.1 h.1)

or_both : (a b : Option SettingsFault) → a ≡ None → b ≡ None → option_or a b ≡ None
or_both None b p q = q
or_both (Some x) b p q = cc

count_none : (n m : ℕ) → n ≡ m → (nat_lt 0 m && nat_le m 256) ≡ true → (if nat_lt 0 n && nat_le n 256 then None else refused 0 cause.NoSection) ≡ None
count_none n m e h = ap (λ b. if b then None else refused 0 cause.NoSection) (ap (λ i. nat_lt 0 i && nat_le i 256) e ∙ h)

lines_none : {ss : List SessionSettings} (lines : List Line) → PrintedLines KEYS ss lines → ArePrintable ss → lines_refusal lines ≡ None
lines_none {ss = ss} lines p is =
    let secs = sections_printed p in
    let d : defaults_of lines ≡ [] = no_defaults p in
    let at : sections_refusal [] (sections_of lines) ≡ None =
    or_both (count_refusal (sections_of lines)) _ (count_none (length (sections_of lines)) (length ss) (count_same secs) is.count)
    (or_both (first_some (section_refusal []) (sections_of lines)) (same_refusal [] (map (endpoints_of []) (sections_of lines))) (sections_none secs is.each is.lawful) (none_same end (parties_printed secs) is.distinct)) in
    or_both (line_refusal false lines) (sections_refusal (defaults_of lines) (sections_of lines)) (no_line_refusal false p) (subst (λ of. sections_refusal of (sections_of lines) ≡ None) (sym d) at)

-- printed sessions are read again
pub reads_back : (sessions : List SessionSettings) → ArePrintable sessions → ReadsBack sessions
reads_back sessions is =
    let lines = read_lines (settings_text sessions) in
    let p : PrintedLines KEYS sessions (read_lines (settings_text sessions)) = printed KEYS 1 sessions is.each in
    record {
      utf8 = printed_utf8 sessions is.lawful;
      right = lines_none (read_lines (settings_text sessions)) p is;
      same = λ again h. sessions_again again (sections_printed p) is.each is.lawful (subst (λ of. AreSessions of (sections_of (read_lines (settings_text sessions))) again) (no_defaults p) h);
    }
