-- A tag and its `=`.
use Rattle.std.proofs.Common.{◌==◌, true, false, Some, ◌≡◌, ◌≢◌, ℕ, ◌+◌, ◌*◌, ◌^◌, ◌<◌, ◌≤◌, List, [], ◌∷◌, ◌++◌, length, get_or, take, drop, refl, sym, ap, ◌∙◌, append_assoc, arith, inl, inr}
use Rattle.std.specs.Fmt.{decimal}
use Rattle.std.specs.Str.Parse.{digits_value, AllDigits}
use Rattle.std.proofs.lemmas.Bool.{cases_lt, cases_eq, eq-eqb, ne_eqb}
use Rattle.std.proofs.lemmas.List.{length-append, length-take-le, get_or_at, get_or-take, take-append-drop, take_rest, drop_more, take_at}
use Rattle.std.proofs.lemmas.List.Prefix.{front_reads}
use Rattle.std.proofs.lemmas.Int.Digits.{digits_more}
use Rattle.std.proofs.lemmas.Fmt.{digits_decimal, decimal-digits_value, length-decimal-le, decimal_nonempty, first_decimal, decimal_injective}
use Rattle.std.proofs.lemmas.Str.{digit_value_digit}
use Rattle.std.proofs.lemmas.Str.Parse.{digits_value_short, digit_at}
use Rattle.fix_base.specs.Front.{Begins}
use Rattle.fix_base.specs.Fields.{IsTag}
use Rattle.fix_base.specs.Tags.{beside}
use Rattle.fix_base.proofs.Fronts.{rest_is}
use Rattle.fix_base.proofs.Pieces.{from}
use Rattle.fix_base.proofs.Digits.{numerals, value_more}

-- the first i bytes are digits of n, the first of which is not 0
pub record HasTag (i : ℕ) (bytes : List ℕ) (n : ℕ) : Type 0 where
  pub few : i ≤ 9
  pub digits : AllDigits 10 (take i bytes)
  pub number : digits_value 10 (take i bytes) ≡ n
  pub lead : 0 < i → 48 < get_or bytes 0 0
  pub positive : 0 < i → 1 ≤ n

pub tag_small : (k i : ℕ) (bytes : List ℕ) (n : ℕ) → i ≤ length bytes → i ≤ k → HasTag i bytes n → n < 10 ^ k
tag_small k i bytes n le few h = rw (← h.number) (digits_value_short numerals (take i bytes) k h.digits (omega (arith, length-take-le i bytes le)))

-- no digit yet
pub tag_none : (i : ℕ) (bytes : List ℕ) (n : ℕ) → i ≡ 0 → HasTag i bytes n → n ≡ 0
tag_none i bytes n zero h = sym h.number ∙ ap (λ k. digits_value 10 (take k bytes)) zero

pub tag_more : (bytes : List ℕ) (i n d : ℕ) → i < length bytes → i ≢ 9 → HasTag i bytes n → 48 ≤ get_or bytes i 0 → get_or bytes i 0 ≤ 57 → d + 48 ≡ get_or bytes i 0 → (n ≡ 0 → get_or bytes i 0 ≢ 48) → HasTag (i + 1) bytes (n * 10 + d)
tag_more bytes i n d lt room h low high is first = record {
  few = omega (arith, h.few);
  digits = digits_more 10 bytes i lt h.digits (omega (arith, digit_value_digit (get_or bytes i 0) (low, high)));
  number = value_more bytes i n d lt h.number low high is;
  lead = λ _. elim (cases_lt 0 i) [
    | inl pos ↦ h.lead pos
    | inr none ↦
        let zero_i : i ≡ 0 = omega arith in
        let n_is : n ≡ 0 = sym h.number ∙ ap (λ k. digits_value 10 (take k bytes)) zero_i in
        let other = first n_is in
        let at : get_or bytes i 0 ≡ get_or bytes 0 0 = ap (λ k. get_or bytes k 0) zero_i in
        omega arith
  ];
  positive = λ _. elim (cases_lt 0 n) [ inl pos ↦ omega arith | inr none ↦ let other = first (omega arith) in omega arith ];
}

-- the digits and the `=`
pub tag_begins : (bytes : List ℕ) (i n : ℕ) → i < length bytes → i ≢ 0 → HasTag i bytes n → get_or bytes i 0 ≡ 61 → Begins (IsTag n) bytes (from (i + 1) bytes)
tag_begins bytes i n lt some h end =
    let len = length-take-le i bytes (omega arith) in
    let lead : get_or (take i bytes) 0 0 ≡ get_or bytes 0 0 = get_or-take i bytes 0 0 (omega arith) in
    let small = tag_small 9 i bytes n (omega arith) h.few h in
    let text : decimal n ≡ take i bytes = ap decimal (sym h.number) ∙ decimal-digits_value numerals (take i bytes) h.digits (omega (arith, len)) (λ z. absurd (omega (arith, lead, h.lead (omega arith)))) (omega (arith, h.number)) in
    let behind : drop i bytes ≡ 61 ∷ drop (i + 1) bytes = drop_more bytes i 0 lt ∙ ap (λ b. b ∷ drop (i + 1) bytes) end in
    record {
      text = take i bytes ++ 61 ∷ [];
      is = record { first = h.positive (omega arith); last = omega arith; spelled = ap (λ (t : List ℕ). t ++ 61 ∷ []) (sym text) };
      spelled = sym (take-append-drop i bytes) ∙ ap (λ (t : List ℕ). take i bytes ++ t) (behind ∙ ap (λ (t : List ℕ). 61 ∷ t) (sym (take_rest bytes (i + 1)))) ∙ sym (append_assoc (take i bytes) (61 ∷ []) (from (i + 1) bytes));
    }

-- where the `=` of a tag at the front stands
pub record EndsAt (len : ℕ) (bytes : List ℕ) : Type 0 where
  pub some : 0 < len
  pub few : len ≤ 9
  pub inside : len < length bytes
  pub low : (k : ℕ) → k < len → 48 ≤ get_or bytes k 0
  pub high : (k : ℕ) → k < len → get_or bytes k 0 ≤ 57
  pub lead : 48 < get_or bytes 0 0
  pub end : get_or bytes len 0 ≡ 61

pub tag_ends : (n : ℕ) (bytes rest : List ℕ) → Begins (IsTag n) bytes rest → EndsAt (length (decimal n)) bytes
tag_ends n bytes rest b =
    let e : bytes ≡ decimal n ++ 61 ∷ rest = b.spelled ∙ ap (λ (t : List ℕ). t ++ rest) b.is.spelled ∙ append_assoc (decimal n) (61 ∷ []) rest in
    let small : n < 2 ^ 64 = omega (arith, b.is.last) in
    let digits : AllDigits 10 (decimal n) = digits_decimal numerals n small in
    let same : (k : ℕ) → k < length (decimal n) → get_or bytes k 0 ≡ get_or (decimal n) k 0 = λ k lt. front_reads 0 bytes (decimal n) (61 ∷ rest) e k lt in
    let pos = decimal_nonempty n small in
    record {
      some = pos;
      few = length-decimal-le 9 n (omega arith) (omega (arith, b.is.last)) small;
      inside = omega (arith, ap length e, length-append (decimal n) (61 ∷ rest));
      low = λ k lt. let d = digit_at (decimal n) k digits lt in omega (arith, same k lt, d.0);
      high = λ k lt. let d = digit_at (decimal n) k digits lt in omega (arith, same k lt, d.1);
      lead = omega (arith, same 0 pos, first_decimal n b.is.first small);
      end = ap (λ (t : List ℕ). get_or t (length (decimal n)) 0) e ∙ get_or_at (decimal n) 61 rest 0 (length (decimal n)) refl;
    }

-- the bytes so far are digits, so the `=` is behind them
pub ends_behind : (bytes : List ℕ) (i n len : ℕ) → i ≤ length bytes → HasTag i bytes n → EndsAt len bytes → i ≤ len
ends_behind bytes i n len le h e =
    elim (cases_lt len i) [
      | inl lt ↦
          let d = digit_at (take i bytes) len h.digits (omega (arith, length-take-le i bytes le)) in
          absurd (omega (arith, d.1, get_or-take i bytes len 0 lt, e.end))
      | inr ge ↦ ge
    ]

same_end : (bytes : List ℕ) (m n : ℕ) → EndsAt m bytes → EndsAt n bytes → m ≤ n
same_end bytes m n p q = elim (cases_lt n m) [ inl lt ↦ absurd (omega (arith, p.high n lt, p.low n lt, q.end)) | inr le ↦ le ]

-- the digits are the front
digits_front : (n : ℕ) (bytes rest : List ℕ) → Begins (IsTag n) bytes rest → take (length (decimal n)) bytes ≡ decimal n
digits_front n bytes rest b =
    let e : bytes ≡ decimal n ++ 61 ∷ rest = b.spelled ∙ ap (λ (t : List ℕ). t ++ rest) b.is.spelled ∙ append_assoc (decimal n) (61 ∷ []) rest in
    ap (take (length (decimal n))) e ∙ take_at (decimal n) (61 ∷ rest) (length (decimal n)) refl

-- two tags at one front are one
pub tag_same : (m n : ℕ) (bytes u v : List ℕ) → Begins (IsTag m) bytes u → Begins (IsTag n) bytes v → m ≡ n
tag_same m n bytes u v p q =
    let a = tag_ends m bytes u p in
    let b = tag_ends n bytes v q in
    let len : length (decimal m) ≡ length (decimal n) = omega (arith, same_end bytes _ _ a b, same_end bytes _ _ b a) in
    decimal_injective m n (omega (arith, p.is.last)) (omega (arith, q.is.last)) (sym (digits_front m bytes u p) ∙ ap (λ k. take k bytes) len ∙ digits_front n bytes v q)

pub tag_rest : (m n : ℕ) (bytes u v : List ℕ) → Begins (IsTag m) bytes u → Begins (IsTag n) bytes v → u ≡ v
tag_rest m n bytes u v p q =
    let same = tag_same m n bytes u v p q in
    let text : p.text ≡ q.text = p.is.spelled ∙ ap (λ k. decimal k ++ 61 ∷ []) same ∙ sym q.is.spelled in
    rest_is p.text q.text u v (sym p.spelled ∙ q.spelled) text

-- the tag goes on behind a byte that is no `=`
pub goes_on : (bytes : List ℕ) (i n len : ℕ) → i < length bytes → HasTag i bytes n → get_or bytes i 0 ≢ 61 → EndsAt len bytes → i < len
goes_on bytes i n len lt h other e =
    let le = ends_behind bytes i n len (omega arith) h e in
    elim (cases_eq i len) [ inl same ↦ absurd (other (ap (λ k. get_or bytes k 0) same ∙ e.end)) | inr apart ↦ omega arith ]

-- ---- the tag that is paired with one

-- the pairs behind one of another tag
pub beside_more : (tag : ℕ) (pairs : List (ℕ × ℕ)) (k : ℕ) (d : ℕ × ℕ) → k < length pairs → (get_or pairs k d).0 ≢ tag → beside tag (drop k pairs) ≡ beside tag (drop (k + 1) pairs)
beside_more tag pairs k d lt other =
    let first : ((get_or pairs k d).0 == tag) ≡ false = ne_eqb (get_or pairs k d).0 tag other in
    rw (drop_more pairs k d lt, first) refl

-- the pair that is found
pub beside_here : (tag : ℕ) (pairs : List (ℕ × ℕ)) (k : ℕ) (d : ℕ × ℕ) → k < length pairs → (get_or pairs k d).0 ≡ tag → beside tag (drop k pairs) ≡ Some (get_or pairs k d).1
beside_here tag pairs k d lt same =
    let first : ((get_or pairs k d).0 == tag) ≡ true = eq-eqb (get_or pairs k d).0 tag same in
    rw (drop_more pairs k d lt, first) refl
