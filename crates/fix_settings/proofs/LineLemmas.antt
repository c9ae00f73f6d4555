-- Lines: where a text is cut, and what is trimmed.
use Rattle.std.proofs.Common.{◌-◌, length-drop, ◌≡◌, ◌≢◌, inl, inr, ℕ, zero, suc, ◌+◌, ◌<◌, ◌==◌, true, false, List, [], ◌∷◌, ◌++◌, length, get_or, take, drop, Option, Some, None, option_map, append_assoc, add-one, drop-cons, refl, sym, ap, ◌∙◌, arith}
use Rattle.std.specs.Option.{option_or}
use Rattle.std.proofs.lemmas.List.{map-append, take_all}
use Rattle.std.proofs.lemmas.Bool.{cases_Bool}
use Rattle.std.proofs.lemmas.Bool.Decides.{nat_tests}
use Rattle.fix_settings.specs.Lines.{Pair, Line, Passed, Default, Session, Given, Wrong, is_blank, trim_back, unless_blank, cut_at, onto_cut, lines_of, IsCut, line_of, numbered, last_of, with_key, run_of, defaults_of, is_default}
use Rattle.fix_settings.specs.Lent.{line_read, lines_read, pair_read}
use Rattle.fix_settings.specs.declared.line.LineRef.{LineRef}
use Rattle.fix_settings.specs.declared.line.PairRef.{PairRef}
use Rattle.fix_settings.proofs.CutLemmas.{parts, first_cut}

-- what is trimmed at the end, byte by byte from the end
pub trim_back_blank : (bytes : List ℕ) (b : ℕ) → is_blank b ≡ true → trim_back (bytes ++ b ∷ []) ≡ trim_back bytes
trim_back_blank [] b h = rw h refl
trim_back_blank (c ∷ cs) b h = ap (unless_blank c) (trim_back_blank cs b h)

unless_kept : (c : ℕ) (cs : List ℕ) (b : ℕ) → unless_blank c (cs ++ b ∷ []) ≡ c ∷ cs ++ b ∷ []
unless_kept c [] b = refl
unless_kept c (d ∷ ds) b = refl

pub trim_back_kept : (bytes : List ℕ) (b : ℕ) → is_blank b ≡ false → trim_back (bytes ++ b ∷ []) ≡ bytes ++ b ∷ []
trim_back_kept [] b h = rw h refl
trim_back_kept (c ∷ cs) b h = ap (unless_blank c) (trim_back_kept cs b h) ∙ unless_kept c cs b

-- where the first of these bytes stands
pub cut_found : (byte : ℕ) (bytes : List ℕ) (i : ℕ) → i < length bytes → get_or bytes i 0 ≡ byte → ((k : ℕ) → k < i → get_or bytes k 0 ≢ byte) → cut_at byte bytes ≡ Some (take i bytes, drop (suc i) bytes)
cut_found byte [] i lt is before = absurd (omega arith)
cut_found byte (b ∷ bs) zero lt is before = let e : (b == byte) ≡ true = grind (arith, nat_tests) in rw e refl
cut_found byte (b ∷ bs) (suc i) lt is before =
    let ne : b ≢ byte = before 0 (omega arith) in
    let e : (b == byte) ≡ false = grind (arith, nat_tests) in
    rw (e, cut_found byte bs i (omega arith) is (λ k l. before (suc k) (omega arith))) refl

pub cut_none : (byte : ℕ) (bytes : List ℕ) → ((k : ℕ) → k < length bytes → get_or bytes k 0 ≢ byte) → cut_at byte bytes ≡ None
cut_none byte [] none = refl
cut_none byte (b ∷ bs) none =
    let ne : b ≢ byte = none 0 (omega arith) in
    let e : (b == byte) ≡ false = grind (arith, nat_tests) in
    rw (e, cut_none byte bs (λ k l. none (suc k) (omega arith))) refl

ends_at : (bytes : List ℕ) (i : ℕ) → length bytes ≡ suc i → bytes ≡ take i bytes ++ get_or bytes i 0 ∷ []
ends_at [] i e = absurd (omega (arith, e))
ends_at (b ∷ []) zero e = refl
ends_at (b ∷ c ∷ cs) zero e = absurd (omega (arith, e))
ends_at (b ∷ bs) (suc i) e = ap (λ z. b ∷ z) (ends_at bs i (omega (arith, e)))

-- one byte fewer
pub trim_last : (bytes : List ℕ) (i : ℕ) → length bytes ≡ suc i → is_blank (get_or bytes i 0) ≡ true → trim_back (take i bytes) ≡ trim_back bytes
trim_last bytes i e h = sym (trim_back_blank (take i bytes) (get_or bytes i 0) h) ∙ ap trim_back (sym (ends_at bytes i e))

pub keep_last : (bytes : List ℕ) (i : ℕ) → length bytes ≡ suc i → is_blank (get_or bytes i 0) ≡ false → bytes ≡ trim_back bytes
keep_last bytes i e h = ends_at bytes i e ∙ sym (trim_back_kept (take i bytes) (get_or bytes i 0) h) ∙ ap trim_back (sym (ends_at bytes i e))

-- a text with an LF
pub lines_cut : (text line rest : List ℕ) → cut_at 10 text ≡ Some (line, rest) → IsCut text line rest
lines_cut text line rest h = let c = first_cut 10 lines_of (λ b bs. refl) text line rest h in record { lines = c.pieces; shorter = c.shorter }

-- a text with none
last_behind : (b c : ℕ) (cs : List ℕ) → (b == 10) ≡ false → (cut_at 10 (c ∷ cs) ≡ None → lines_of (c ∷ cs) ≡ (c ∷ cs) ∷ []) → (o : Option (List ℕ × List ℕ)) → cut_at 10 (c ∷ cs) ≡ o → onto_cut b o ≡ None → lines_of (b ∷ c ∷ cs) ≡ (b ∷ c ∷ cs) ∷ []
last_behind b c cs f behind None e h = rw (f, behind e) refl
last_behind b c cs f behind (Some p) e h = cc

pub lines_last : (b : ℕ) (bs : List ℕ) → cut_at 10 (b ∷ bs) ≡ None → lines_of (b ∷ bs) ≡ (b ∷ bs) ∷ []
lines_last b [] h = elim (cases_Bool (b == 10)) [
  | inl t ↦ (let e : parts [] [] ≡ None = rw t at h in cc)
  | inr f ↦ rw f refl
]
lines_last b (c ∷ cs) h = elim (cases_Bool (b == 10)) [
  | inl t ↦ (let e : parts [] (c ∷ cs) ≡ None = rw t at h in cc)
  | inr f ↦ last_behind b c cs f (λ e. lines_last c cs e) (cut_at 10 (c ∷ cs)) refl (rw f at h)
]

pub no_line : (text : List ℕ) → 0 < length text → cut_at 10 text ≡ None → lines_of text ≡ text ∷ []
no_line [] some h = absurd (omega arith)
no_line (b ∷ bs) some h = lines_last b bs h

-- one more line
pub more_lines : (lines : List LineRef) (line : LineRef) (n : ℕ) (text first behind : List ℕ) (all : List Line) → lines_of text ≡ first ∷ lines_of behind → line_read line ≡ line_of n first → lines_read lines ++ numbered n (lines_of text) ≡ all → lines_read (lines ++ line ∷ []) ++ numbered (n + 1) (lines_of behind) ≡ all
more_lines lines line n text first behind all cut is h =
    let e : lines_read lines ++ (line_read line ∷ numbered (n + 1) (lines_of behind)) ≡ all = rw is (rw cut at h) in
    rw (map-append line_read lines (line ∷ []), append_assoc) e

-- what was found last is kept
or_assoc : (a b c : Option Pair) → option_or (option_or a b) c ≡ option_or a (option_or b c)
or_assoc None b c = refl
or_assoc (Some p) b c = refl

or_none : (o : Option Pair) → o ≡ option_or o None
or_none None = refl
or_none (Some p) = refl

pub last-append : (key : List ℕ) (ps qs : List Pair) → last_of key (ps ++ qs) ≡ option_or (last_of key qs) (last_of key ps)
last-append key [] qs = or_none (last_of key qs)
last-append key (p ∷ ps) qs = rw (last-append key ps qs) (or_assoc (last_of key qs) (last_of key ps) (with_key key p))

-- one more line of all, where default sections are looked for
default_line : (key : List ℕ) (line : Line) (rest : List Line) (found : Option Pair) → is_default line ≡ true → last_of key (defaults_of (line ∷ rest)) ≡ option_or (last_of key (defaults_of rest)) (last_of key (run_of rest))
default_line key Passed rest found h = cc
default_line key Default rest found h = last-append key (run_of rest) (defaults_of rest)
default_line key (Session n) rest found h = cc
default_line key (Given p) rest found h = cc
default_line key (Wrong n) rest found h = cc

other_line : (key : List ℕ) (line : Line) (rest : List Line) → is_default line ≡ false → last_of key (defaults_of (line ∷ rest)) ≡ last_of key (defaults_of rest)
other_line key Passed rest h = refl
other_line key Default rest h = cc
other_line key (Session n) rest h = refl
other_line key (Given p) rest h = refl
other_line key (Wrong n) rest h = refl

-- the line at a place, and those behind it
at_line : (lines : List LineRef) (i : ℕ) (d : LineRef) → i < length lines → drop i lines ≡ get_or lines i d ∷ drop (i + 1) lines
at_line lines i d lt = rw add-one (drop-cons lines i d lt)

pub after_default : (key : List ℕ) (lines : List LineRef) (i : ℕ) (d : LineRef) (found last now all : Option Pair) → i < length lines → is_default (line_read (get_or lines i d)) ≡ true → last ≡ last_of key (run_of (lines_read (drop (i + 1) lines))) → now ≡ option_or last found → option_or (last_of key (defaults_of (lines_read (drop i lines)))) found ≡ all → option_or (last_of key (defaults_of (lines_read (drop (i + 1) lines)))) now ≡ all
after_default key lines i d found last now all lt h l n inv =
    let s = default_line key (line_read (get_or lines i d)) (lines_read (drop (i + 1) lines)) found h in
    let e : option_or (last_of key (defaults_of (line_read (get_or lines i d) ∷ lines_read (drop (i + 1) lines)))) found ≡ all = rw (at_line lines i d lt) at inv in
    let f : option_or (option_or (last_of key (defaults_of (lines_read (drop (i + 1) lines)))) (last_of key (run_of (lines_read (drop (i + 1) lines))))) found ≡ all = sym (ap (λ o. option_or o found) s) ∙ e in
    rw (n, l) (sym (or_assoc (last_of key (defaults_of (lines_read (drop (i + 1) lines)))) (last_of key (run_of (lines_read (drop (i + 1) lines)))) found) ∙ f)

pub after_other : (key : List ℕ) (lines : List LineRef) (i : ℕ) (d : LineRef) (found all : Option Pair) → i < length lines → is_default (line_read (get_or lines i d)) ≡ false → option_or (last_of key (defaults_of (lines_read (drop i lines)))) found ≡ all → option_or (last_of key (defaults_of (lines_read (drop (i + 1) lines)))) found ≡ all
after_other key lines i d found all lt h inv =
    let e : option_or (last_of key (defaults_of (line_read (get_or lines i d) ∷ lines_read (drop (i + 1) lines)))) found ≡ all = rw (at_line lines i d lt) at inv in
    sym (ap (λ o. option_or o found) (other_line key (line_read (get_or lines i d)) (lines_read (drop (i + 1) lines)) h)) ∙ e

pub read_or : (a b : Option PairRef) → option_map pair_read (option_or a b) ≡ option_or (option_map pair_read a) (option_map pair_read b)
read_or None b = refl
read_or (Some p) b = refl

-- all that is behind a place
pub whole_rest : {A : Type 0} (xs : List A) (i : ℕ) → take (length xs - i) (drop i xs) ≡ drop i xs
whole_rest xs i = take_all (length xs - i) (drop i xs) (omega (arith, length-drop i xs))
