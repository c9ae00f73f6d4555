-- What a value's printed text says.
use Rattle.std.proofs.Common.{◌≡◌, ℕ, ◌^◌, ◌<◌, ◌≤◌, ◌==◌, ◌&&◌, not, nat_lt, nat_le, Bool, true, false, List, [], ◌∷◌, length, Some, None, refl, ap, ◌∙◌, arith, if◌then◌else◌}
use Rattle.std.specs.Prelude.{decimal}
use Rattle.std.specs.Char.{is_ascii_digit}
use Rattle.std.specs.Str.{all_ascii_digits}
use Rattle.std.specs.Str.Parse.{digits_value}
use Rattle.std.specs.List.{list_all, AllByRecursion}
use Rattle.std.proofs.lemmas.Bool.{and_parts, and_from, leb-true, le-leb, lt-ltb}
use Rattle.std.proofs.lemmas.Bool.Decides.{nat_tests}
use Rattle.std.proofs.lemmas.Fmt.{digits_decimal, digits_value-decimal, decimal_nonempty}
use Rattle.fix_base.specs.Says.{number_in}
use Rattle.fix_settings.specs.Lines.{is_blank, trim_front, trim_back, unless_blank}
use Rattle.fix_settings.specs.Again.{has_no_lf, IsLineText}
use Rattle.fix_settings.proofs.FormLemmas.{numerals}
use Rattle.fix_settings.proofs.AgainLemmas.{not_true}

abbrev pub is_plain : ℕ → Bool
is_plain b = not (is_blank b) && not (b == 10)

plain_no_lf : (t : List ℕ) → list_all is_plain t ≡ true → has_no_lf t ≡ true
plain_no_lf [] h = refl
plain_no_lf (b ∷ bs) h =
    let p = and_parts (is_plain b) (list_all is_plain bs) h in
    let q = and_parts (not (is_blank b)) (not (b == 10)) p.0 in
    rw (q.1, plain_no_lf bs p.1) refl

plain_front : (t : List ℕ) → list_all is_plain t ≡ true → trim_front t ≡ t
plain_front [] h = refl
plain_front (b ∷ bs) h =
    let p = and_parts (is_plain b) (list_all is_plain bs) h in
    let q = and_parts (not (is_blank b)) (not (b == 10)) p.0 in
    let f = not_true (is_blank b) q.0 in
    rw f refl

unless_plain : (b : ℕ) (bs : List ℕ) → is_blank b ≡ false → unless_blank b bs ≡ b ∷ bs
unless_plain b [] f = rw f refl
unless_plain b (c ∷ cs) f = refl

plain_back : (t : List ℕ) → list_all is_plain t ≡ true → trim_back t ≡ t
plain_back [] h = refl
plain_back (b ∷ bs) h =
    let p = and_parts (is_plain b) (list_all is_plain bs) h in
    let q = and_parts (not (is_blank b)) (not (b == 10)) p.0 in
    ap (unless_blank b) (plain_back bs p.1) ∙ unless_plain b bs (not_true (is_blank b) q.0)

-- bytes that are no blank and no LF
pub plain_line : (t : List ℕ) → list_all is_plain t ≡ true → IsLineText t
plain_line t h = record { one_line = plain_no_lf t h; front = plain_front t h; back = plain_back t h }

-- ---- numbers

number_from : (low high : ℕ) (d : List ℕ) (n : ℕ) → all_ascii_digits d ≡ true → 0 < length d → digits_value 10 d ≡ n → low ≤ n → n ≤ high → number_in low high d ≡ Some n
number_from low high d n digits some value above below =
    let long : nat_lt 0 (length d) ≡ true = lt-ltb 0 (length d) some in
    let at_least : nat_le low n ≡ true = le-leb low n above in
    let at_most : nat_le n high ≡ true = le-leb n high below in
    rw (digits, long, value, at_least, at_most) refl

high_plain : (b : ℕ) → 48 ≤ b → is_plain b ≡ true
high_plain b le =
    let space : (b == 32) ≡ false = grind (arith, nat_tests) in
    let tab : (b == 9) ≡ false = grind (arith, nat_tests) in
    let cr : (b == 13) ≡ false = grind (arith, nat_tests) in
    let lf : (b == 10) ≡ false = grind (arith, nat_tests) in
    rw (space, tab, cr, lf) refl

all_high : (t : List ℕ) → AllByRecursion (λ b. 48 ≤ b) t → list_all is_plain t ≡ true
all_high [] all = refl
all_high (b ∷ bs) all = and_from (is_plain b) (list_all is_plain bs) (high_plain b all.0) (all_high bs all.1)

-- bytes from 48 on are no blank and no LF
pub high_line : (t : List ℕ) → AllByRecursion (λ b. 48 ≤ b) t → IsLineText t
high_line t all = plain_line t (all_high t all)

digits_high : (t : List ℕ) → all_ascii_digits t ≡ true → AllByRecursion (λ b. 48 ≤ b) t
digits_high [] h = tt
digits_high (b ∷ bs) h =
    let p = and_parts (is_ascii_digit b) (all_ascii_digits bs) h in
    let q = and_parts (nat_le 48 b) (nat_le b 57) p.0 in
    (leb-true 48 b q.0, digits_high bs p.1)

pub number_line : (n : ℕ) → n < 2 ^ 64 → IsLineText (decimal n)
number_line n small = high_line (decimal n) (digits_high (decimal n) (digits_decimal numerals n small))

pub number_again : (low high n : ℕ) → low ≤ n → n ≤ high → high < 2 ^ 64 → number_in low high (decimal n) ≡ Some n
number_again low high n above below fits =
    let small : n < 2 ^ 64 = omega arith in
    number_from low high (decimal n) n (digits_decimal numerals n small) (decimal_nonempty n small) (digits_value-decimal numerals n small) above below

pub some_number : (b : Bool) (n m : ℕ) → (if b then Some n else None) ≡ Some m → (b ≡ true) × (n ≡ m)
some_number true n m h = (refl, cc)
some_number false n m h = cc

pub number_bounds : (low high : ℕ) (text : List ℕ) (n : ℕ) → number_in low high text ≡ Some n → (low ≤ n) × (n ≤ high)
number_bounds low high text n h =
    let s = some_number (all_ascii_digits text && (nat_lt 0 (length text) && (nat_le low (digits_value 10 text) && nat_le (digits_value 10 text) high))) (digits_value 10 text) n h in
    let a = and_parts (all_ascii_digits text) (nat_lt 0 (length text) && (nat_le low (digits_value 10 text) && nat_le (digits_value 10 text) high)) s.0 in
    let b = and_parts (nat_lt 0 (length text)) (nat_le low (digits_value 10 text) && nat_le (digits_value 10 text) high) a.1 in
    let c = and_parts (nat_le low (digits_value 10 text)) (nat_le (digits_value 10 text) high) b.1 in
    (omega (arith, s.1, leb-true low (digits_value 10 text) c.0), omega (arith, s.1, leb-true (digits_value 10 text) high c.1))
