-- What each line of a text has, each pair that is looked at has.
use Rattle.std.proofs.Common.{◌≡◌, inl, inr, ℕ, ◌+◌, ◌==◌, Bool, true, false, List, [], ◌∷◌, ◌++◌, Option, Some, None, bytes_eq, codes, refl, subst, if◌then◌else◌}
use Rattle.std.specs.Str.{str_eq_ignore_ascii_case}
use Rattle.std.specs.List.{AllByRecursion}
use Rattle.std.specs.Option.{option_or}
use Rattle.fix_base.specs.Lists.{Among, here, there}
use Rattle.fix_base.proofs.ListLemmas.{Among-append_cases}
use Rattle.fix_settings.specs.declared.key.Key.{Key}
use Rattle.fix_settings.specs.Lines.{Pair, Line, Passed, Default, Session, Given, Wrong, Section, trimmed, cut_at, lines_of, trimmed_line, pair_in, pair_of, numbered, read_lines, run_of, defaults_of, sections_of, last_of, with_key}
use Rattle.fix_settings.specs.Table.{name_of}
use Rattle.fix_settings.specs.Reading.{pair_for, is_known, unknown_of, ignored_of}
use Rattle.fix_settings.proofs.CutLemmas.{cut_is}

-- what is so of a line is so without its blanks, and of the pair that stands in it
pub record Keeps (T : List ℕ → Type 0) (P : Pair → Type 0) : Type 0 where
  pub trims : (t : List ℕ) → T t → T (trimmed t)
  pub pairs : (n : ℕ) (a c : List ℕ) → T (a ++ 61 ∷ c) → P (record { line = n; key = trimmed a; value = trimmed c })

abbrev pub LineHas : (Pair → Type 0) → Line → Type 0
LineHas P Passed = Unit {0}
LineHas P Default = Unit {0}
LineHas P (Session n) = Unit {0}
LineHas P (Given p) = P p
LineHas P (Wrong n) = Unit {0}

pair_of_has : (P : Pair → Type 0) (n : ℕ) (k v : List ℕ) → P (record { line = n; key = k; value = v }) → LineHas P (pair_of n k v)
pair_of_has P n [] v h = tt
pair_of_has P n (b ∷ bs) v h = h

pair_in_has : (T : List ℕ → Type 0) (P : Pair → Type 0) → Keeps T P → (n : ℕ) (text : List ℕ) (o : Option (List ℕ × List ℕ)) → cut_at 61 text ≡ o → T text → LineHas P (pair_in n o)
pair_in_has T P keeps n text None e h = tt
pair_in_has T P keeps n text (Some p) e h = pair_of_has P n (trimmed p.0) (trimmed p.1) (keeps.pairs n p.0 p.1 (subst T (cut_is 61 text p.0 p.1 e) h))

choose : (P : Pair → Type 0) (b : Bool) (x y : Line) → LineHas P x → LineHas P y → LineHas P (if b then x else y)
choose P true x y p q = p
choose P false x y p q = q

line_has : (T : List ℕ → Type 0) (P : Pair → Type 0) → Keeps T P → (n : ℕ) (text : List ℕ) → T text → LineHas P (trimmed_line n text)
line_has T P keeps n [] h = tt
line_has T P keeps n (b ∷ bs) h =
    let pair = pair_in n (cut_at 61 (b ∷ bs)) in
    let is_session = str_eq_ignore_ascii_case (b ∷ bs) (codes "[SESSION]") in
    let is_default = str_eq_ignore_ascii_case (b ∷ bs) (codes "[DEFAULT]") in
    choose P (b == 35) Passed (if is_default then Default else (if is_session then Session n else pair)) tt
    (choose P is_default Default (if is_session then Session n else pair) tt
    (choose P is_session (Session n) pair tt (pair_in_has T P keeps n (b ∷ bs) (cut_at 61 (b ∷ bs)) refl h)))

numbered_has : (T : List ℕ → Type 0) (P : Pair → Type 0) → Keeps T P → (n : ℕ) (lines : List (List ℕ)) → AllByRecursion T lines → AllByRecursion (LineHas P) (numbered n lines)
numbered_has T P keeps n [] all = tt
numbered_has T P keeps n (l ∷ ls) all = (line_has T P keeps n (trimmed l) (keeps.trims l all.0), numbered_has T P keeps (n + 1) ls all.1)

pub read_has : (T : List ℕ → Type 0) (P : Pair → Type 0) → Keeps T P → (text : List ℕ) → AllByRecursion T (lines_of text) → AllByRecursion (LineHas P) (read_lines text)
read_has T P keeps text all = numbered_has T P keeps 1 (lines_of text) all

-- ---- sections

run_has : (P : Pair → Type 0) (lines : List Line) → AllByRecursion (LineHas P) lines → AllByRecursion P (run_of lines)
run_has P [] all = tt
run_has P (Passed ∷ ls) all = run_has P ls all.1
run_has P (Default ∷ ls) all = tt
run_has P (Session n ∷ ls) all = tt
run_has P (Given p ∷ ls) all = (all.0, run_has P ls all.1)
run_has P (Wrong n ∷ ls) all = run_has P ls all.1

pub both_have : (P : Pair → Type 0) (ps qs : List Pair) → AllByRecursion P ps → AllByRecursion P qs → AllByRecursion P (ps ++ qs)
both_have P [] qs a b = b
both_have P (p ∷ ps) qs a b = (a.0, both_have P ps qs a.1 b)

pub defaults_have : (P : Pair → Type 0) (lines : List Line) → AllByRecursion (LineHas P) lines → AllByRecursion P (defaults_of lines)
defaults_have P [] all = tt
defaults_have P (Passed ∷ ls) all = defaults_have P ls all.1
defaults_have P (Default ∷ ls) all = both_have P (run_of ls) (defaults_of ls) (run_has P ls all.1) (defaults_have P ls all.1)
defaults_have P (Session n ∷ ls) all = defaults_have P ls all.1
defaults_have P (Given p ∷ ls) all = defaults_have P ls all.1
defaults_have P (Wrong n ∷ ls) all = defaults_have P ls all.1

abbrev pub SectionHas : (Pair → Type 0) → Section → Type 0
SectionHas P s = AllByRecursion P s.pairs

pub sections_have : (P : Pair → Type 0) (lines : List Line) → AllByRecursion (LineHas P) lines → AllByRecursion (SectionHas P) (sections_of lines)
sections_have P [] all = tt
sections_have P (Passed ∷ ls) all = sections_have P ls all.1
sections_have P (Default ∷ ls) all = sections_have P ls all.1
sections_have P (Session n ∷ ls) all = (run_has P ls all.1, sections_have P ls all.1)
sections_have P (Given p ∷ ls) all = sections_have P ls all.1
sections_have P (Wrong n ∷ ls) all = sections_have P ls all.1

-- ---- a pair that is found

abbrev pub IfPair : (Pair → Type 0) → Option Pair → Type 0
IfPair P None = Unit {0}
IfPair P (Some p) = P p

either_has : (P : Pair → Type 0) (a b : Option Pair) → IfPair P a → IfPair P b → IfPair P (option_or a b)
either_has P None b p q = q
either_has P (Some x) b p q = p

with_has : (P : Pair → Type 0) (key : List ℕ) (p : Pair) → P p → IfPair P (with_key key p)
with_has P key p h = one (bytes_eq p.key key) p h
  where
    one : (b : Bool) (p : Pair) → P p → IfPair P (if b then Some p else None)
    one true p h = h
    one false p h = tt

last_has : (P : Pair → Type 0) (key : List ℕ) (ps : List Pair) → AllByRecursion P ps → IfPair P (last_of key ps)
last_has P key [] all = tt
last_has P key (p ∷ ps) all = either_has P (last_of key ps) (with_key key p) (last_has P key ps all.1) (with_has P key p all.0)

pub for_has : (P : Pair → Type 0) (defaults own : List Pair) (k : Key) → AllByRecursion P defaults → AllByRecursion P own → IfPair P (pair_for defaults own k)
for_has P defaults own k d o = either_has P (last_of (name_of k) own) (last_of (name_of k) defaults) (last_has P (name_of k) own o) (last_has P (name_of k) defaults d)

-- ---- a key that means nothing

unknown_has : (T : List ℕ → Type 0) (b : Bool) (key name : List ℕ) → T key → Among name (if b then [] else key ∷ []) → T name
unknown_has T true key name h m = absurd (elim m [ ])
unknown_has T false key name h m = one key name h m
  where
    one : (key name : List ℕ) → T key → Among name (key ∷ []) → T name
    one key name h here = h
    one key name h (there m) = absurd (elim m [ ])

pub ignored_has : (T : List ℕ → Type 0) (P : Pair → Type 0) → ((p : Pair) → P p → T p.key) → (ps : List Pair) (name : List ℕ) → AllByRecursion P ps → Among name (ignored_of ps) → T name
ignored_has T P keys [] name all m = absurd (elim m [ ])
ignored_has T P keys (p ∷ ps) name all m = elim (Among-append_cases (unknown_of p) (ignored_of ps) m) [
  | inl a ↦ unknown_has T (is_known p.key) p.key name (keys p all.0) a
  | inr b ↦ ignored_has T P keys ps name all.1 b
]
