-- Forms: numbers of digits.
use Rattle.std.proofs.Common.{◌≡◌, inl, inr, ℕ, ◌+◌, ◌*◌, ◌<◌, ◌≤◌, ◌&&◌, Bool, true, false, nat_lt, nat_le, ◌==◌, List, [], ◌∷◌, length, get_or, take, ap, ◌++◌, append_assoc, Option, Some, None, refl, sym, ◌∙◌, arith}
use Rattle.std.specs.List.{slice_split, list_all}
use Rattle.std.specs.Str.{all_ascii_digits}
use Rattle.std.specs.Str.Parse.{digits_value, AllDigits}
use Rattle.std.proofs.lemmas.Bool.{cases_Bool, and_right, false_from_ne_true, le-leb, lt-leb, lt-ltb}
use Rattle.std.proofs.lemmas.Str.{digit_value_digit}
use Rattle.std.proofs.lemmas.Str.Parse.{digit_at, digits_value-take-le, tells_all_ascii_digits, IsNumeralModel, numerals_by_value}
use Rattle.std.proofs.lemmas.Int.Digits.{digits_more, digits_value_more}
use Rattle.fix_base.specs.Says.{number_in}
use Rattle.fix_settings.specs.Lines.{cut_at, onto_cut}
use Rattle.fix_settings.specs.Forms.{is_type}
use Rattle.fix_settings.proofs.CutLemmas.{parts, IsFirst, first_cut}

pub numerals : IsNumeralModel (λ ds. all_ascii_digits ds ≡ true) (digits_value 10)
numerals = numerals_by_value (λ ds. all_ascii_digits ds ≡ true) tells_all_ascii_digits

-- no digits, no number
not_all : (low high : ℕ) (text : List ℕ) → all_ascii_digits text ≡ false → number_in low high text ≡ None
not_all low high text h = rw h refl

digit_in : (text : List ℕ) (i : ℕ) → i < length text → all_ascii_digits text ≡ true → (48 ≤ get_or text i 0) × (get_or text i 0 ≤ 57)
digit_in text i lt all = digit_at text i (numerals.to text all) lt

pub not_digit : (low high : ℕ) (text : List ℕ) (i : ℕ) → i < length text → (48 ≤ get_or text i 0 → get_or text i 0 ≤ 57 → ⊥) → number_in low high text ≡ None
not_digit low high text i lt outside = not_all low high text (false_from_ne_true (all_ascii_digits text) (λ all. let d = digit_in text i lt all in outside d.0 d.1))

-- a front of the digits is too large
above : (low high : ℕ) (text : List ℕ) → high < digits_value 10 text → number_in low high text ≡ None
above low high text large =
    let at_most : nat_le (digits_value 10 text) high ≡ false = lt-leb (digits_value 10 text) high large in
    rw (at_most, and_right (nat_le low (digits_value 10 text)) false refl, and_right (nat_lt 0 (length text)) false refl, and_right (all_ascii_digits text) false refl) refl

pub too_large : (low high : ℕ) (text : List ℕ) (i : ℕ) → high < digits_value 10 (take i text) → number_in low high text ≡ None
too_large low high text i large = above low high text (omega (arith, large, digits_value-take-le 10 text i (omega arith)))

pub too_small : (low high : ℕ) (text : List ℕ) → digits_value 10 text < low → number_in low high text ≡ None
too_small low high text small =
    let at_least : nat_le low (digits_value 10 text) ≡ false = lt-leb low (digits_value 10 text) small in
    rw (at_least, and_right (nat_lt 0 (length text)) false refl, and_right (all_ascii_digits text) false refl) refl

pub is_number : (low high : ℕ) (text : List ℕ) → AllDigits 10 text → 0 < length text → low ≤ digits_value 10 text → digits_value 10 text ≤ high → number_in low high text ≡ Some (digits_value 10 text)
is_number low high text digits some low_enough below =
    let all : all_ascii_digits text ≡ true = numerals.from text digits in
    let long : nat_lt 0 (length text) ≡ true = lt-ltb 0 (length text) some in
    let at_least : nat_le low (digits_value 10 text) ≡ true = le-leb low (digits_value 10 text) low_enough in
    let at_most : nat_le (digits_value 10 text) high ≡ true = le-leb (digits_value 10 text) high below in
    rw (all, long, at_least, at_most) refl

-- one more digit
pub number_more : (text : List ℕ) (i number digit : ℕ) → i < length text → number ≡ digits_value 10 (take i text) → 48 ≤ get_or text i 0 → get_or text i 0 ≤ 57 → digit + 48 ≡ get_or text i 0 → number * 10 + digit ≡ digits_value 10 (take (i + 1) text)
number_more text i number digit lt e low high is = omega (arith, e, digits_value_more 10 text i lt, digit_value_digit (get_or text i 0) (low, high), is)

pub more_digits : (text : List ℕ) (i : ℕ) → i < length text → AllDigits 10 (take i text) → 48 ≤ get_or text i 0 → get_or text i 0 ≤ 57 → AllDigits 10 (take (i + 1) text)
more_digits text i lt all low high = digits_more 10 text i lt all (omega (arith, digit_value_digit (get_or text i 0) (low, high)))

-- ---- types between commas

abbrev pub IsPiece : List ℕ → List ℕ → List ℕ → Type 0
IsPiece text piece behind = IsFirst (λ t. slice_split (λ b. b == 44) t) text piece behind

pub piece_cut : (text piece behind : List ℕ) → cut_at 44 text ≡ Some (piece, behind) → IsPiece text piece behind
piece_cut text piece behind h = first_cut 44 (λ t. slice_split (λ b. b == 44) t) (λ b bs. refl) text piece behind h

whole_behind : (b : ℕ) (bs : List ℕ) → (b == 44) ≡ false → (cut_at 44 bs ≡ None → slice_split (λ c. c == 44) bs ≡ bs ∷ []) → (o : Option (List ℕ × List ℕ)) → cut_at 44 bs ≡ o → onto_cut b o ≡ None → slice_split (λ c. c == 44) (b ∷ bs) ≡ (b ∷ bs) ∷ []
whole_behind b bs f more None e h = rw (f, more e) refl
whole_behind b bs f more (Some p) e h = cc

pub one_piece : (text : List ℕ) → cut_at 44 text ≡ None → slice_split (λ b. b == 44) text ≡ text ∷ []
one_piece [] h = refl
one_piece (b ∷ bs) h = elim (cases_Bool (b == 44)) [
  | inl t ↦ (let e : parts [] bs ≡ None = rw t at h in cc)
  | inr f ↦ whole_behind b bs f (λ e. one_piece bs e) (cut_at 44 bs) refl (rw f at h)
]

abbrev pieces_of : List ℕ → List (List ℕ)
pieces_of text = slice_split (λ b. b == 44) text

pub types_fail : (rest text piece behind : List ℕ) → IsPiece rest piece behind → false ≡ is_type piece → list_all is_type (pieces_of rest) ≡ list_all is_type (pieces_of text) → false ≡ list_all is_type (pieces_of text)
types_fail rest text piece behind p h inv =
    let e : list_all is_type (piece ∷ pieces_of behind) ≡ list_all is_type (pieces_of text) = sym (ap (list_all is_type) p.pieces) ∙ inv in
    let f : (false && list_all is_type (pieces_of behind)) ≡ list_all is_type (pieces_of text) = ap (λ b. b && list_all is_type (pieces_of behind)) h ∙ e in
    f

pub types_more : (rest text piece behind : List ℕ) → IsPiece rest piece behind → true ≡ is_type piece → list_all is_type (pieces_of rest) ≡ list_all is_type (pieces_of text) → list_all is_type (pieces_of behind) ≡ list_all is_type (pieces_of text)
types_more rest text piece behind p h inv =
    let e : list_all is_type (piece ∷ pieces_of behind) ≡ list_all is_type (pieces_of text) = sym (ap (list_all is_type) p.pieces) ∙ inv in
    ap (λ b. b && list_all is_type (pieces_of behind)) h ∙ e

and_true : (b : Bool) → b ≡ (b && true)
and_true true = refl
and_true false = refl

pub types_end : (rest text : List ℕ) (r : Bool) → cut_at 44 rest ≡ None → r ≡ is_type rest → list_all is_type (pieces_of rest) ≡ list_all is_type (pieces_of text) → r ≡ list_all is_type (pieces_of text)
types_end rest text r h is inv = is ∙ and_true (is_type rest) ∙ sym (ap (list_all is_type) (one_piece rest h)) ∙ inv

pub pieces_more : (made : List (List ℕ)) (rest piece behind : List ℕ) (all : List (List ℕ)) → IsPiece rest piece behind → made ++ pieces_of rest ≡ all → (made ++ piece ∷ []) ++ pieces_of behind ≡ all
pieces_more made rest piece behind all p inv =
    let e : made ++ piece ∷ pieces_of behind ≡ all = sym (ap (λ x. made ++ x) p.pieces) ∙ inv in
    rw append_assoc e

pub pieces_end : (made : List (List ℕ)) (rest : List ℕ) (all : List (List ℕ)) → cut_at 44 rest ≡ None → made ++ pieces_of rest ≡ all → made ++ rest ∷ [] ≡ all
pieces_end made rest all h inv = sym (ap (λ x. made ++ x) (one_piece rest h)) ∙ inv
