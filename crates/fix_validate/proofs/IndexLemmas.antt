-- A tag stands before a place just where the least key with the tag is less than that of the place.
use Rattle.std.proofs.Common.{◌≡◌, inl, inr, ℕ, zero, suc, ◌+◌, ◌<◌, ◌≤◌, Bool, true, false, ◌&&◌, ◌||◌, ◌==◌, List, [], ◌∷◌, ◌++◌, length, take, drop, get_or, refl, sym, ap, ◌∙◌, arith, subst, append_assoc}
use Rattle.std.specs.Prelude.{nat_lt, nat_le, Result, Ok, Err, MatchResult}
use Rattle.std.specs.List.{list_any}
use Rattle.std.specs.List.Sorted.{IsNonDecreasing, IsBinarySearchResult}
use Rattle.std.specs.Ordering.{nat_cmp}
use Rattle.std.proofs.lemmas.Bool.{ltb-true, leb-true, le-leb, lt-ltb, le-ltb, eq-eqb, eqb-true, and_parts, and_from, and_right, or_from, false_from_ne_true, cases_lt}
use Rattle.std.proofs.lemmas.Bool.Decides.{same_from_decides, Decides-and, Decides-like, Decides-eqb, Decides-ltb}
use Rattle.std.proofs.lemmas.List.Sorted.{list_any-IsPermutation, searched}
use Rattle.std.proofs.lemmas.List.Folds.{list_any_none, list_any_at, Any-from_list_any}
use Rattle.fix_base.specs.Fields.{Field}
use Rattle.fix_validate.specs.Table.{has_field}
use Rattle.fix_validate.specs.Index.{key, keys_from, HasTagAt, IsSortedIndex, IsLeast}
use Rattle.fix_validate.proofs.FieldLemmas.{drop_more}

-- a key of the tag, with a place before this one
abbrev is_before : ℕ → ℕ → ℕ → Bool
is_before tag place k = nat_le (key tag 0) k && nat_lt k (key tag place)

same_key : (t tag n place : ℕ) → n < 18446744073709551616 → place < 18446744073709551616 → is_before tag place (key t n) ≡ ((t == tag) && nat_lt n place)
same_key t tag n place a b =
    same_from_decides {P = (key tag 0 ≤ key t n) × (key t n < key tag place)} (is_before tag place (key t n)) ((t == tag) && nat_lt n place)
    (Decides-and (nat_le (key tag 0) (key t n)) (nat_lt (key t n) (key tag place)) (leb-true (key tag 0) (key t n), le-leb (key tag 0) (key t n)) (Decides-ltb (key t n) (key tag place)))
    (Decides-like ((t == tag) && nat_lt n place) (λ h. (omega (arith, h.0, h.1), omega (arith, h.0, h.1))) (λ h. (omega (arith, h.0, h.1, a, b), omega (arith, h.0, h.1, a, b)))
    (Decides-and (t == tag) (nat_lt n place) (Decides-eqb t tag) (Decides-ltb n place)))

none_from : (tag place n : ℕ) (fs : List Field) → place ≤ n → n + length fs < 18446744073709551616 → list_any (is_before tag place) (keys_from n fs) ≡ false
none_from tag place n [] low fits = refl
none_from tag place n (f ∷ fs) low fits =
    or_from (is_before tag place (key f.tag n)) (list_any (is_before tag place) (keys_from (n + 1) fs))
    (same_key f.tag tag n place (omega (arith, fits)) (omega (arith, fits, low)) ∙ and_right (f.tag == tag) (nat_lt n place) (le-ltb n place low))
    (none_from tag place (n + 1) fs (omega (arith, low)) (omega (arith, fits)))

and_true : (b : Bool) → (b && true) ≡ b
and_true true = refl
and_true false = refl

any_before : (tag place n m : ℕ) (fs : List Field) → place ≡ n + m → place < 18446744073709551616 → n + length fs < 18446744073709551616 → list_any (is_before tag place) (keys_from n fs) ≡ has_field tag (take m fs)
any_before tag place n zero [] e small fits = refl
any_before tag place n (suc m) [] e small fits = refl
any_before tag place n zero (f ∷ fs) e small fits = none_from tag place n (f ∷ fs) (omega (arith, e)) fits
any_before tag place n (suc m) (f ∷ fs) e small fits =
    ap (λ b. b || list_any (is_before tag place) (keys_from (n + 1) fs))
    (same_key f.tag tag n place (omega (arith, fits)) small ∙ ap (λ b. (f.tag == tag) && b) (lt-ltb n place (omega (arith, e))) ∙ and_true (f.tag == tag))
    ∙ ap (λ b. (f.tag == tag) || b) (any_before tag place (n + 1) m fs (omega (arith, e)) small (omega (arith, fits)))

keys_at : (fs : List Field) (n i d : ℕ) (g : Field) → i < length fs → get_or (keys_from n fs) i d ≡ key (get_or fs i g).tag (n + i)
keys_at [] n i d g lt = absurd (omega (arith, lt))
keys_at (f ∷ fs) n zero d g lt = omega arith
keys_at (f ∷ fs) n (suc i) d g lt = keys_at fs (n + 1) i d g (omega (arith, lt)) ∙ omega arith

keys_length : (fs : List Field) (n : ℕ) → length (keys_from n fs) ≡ length fs
keys_length [] n = refl
keys_length (f ∷ fs) n = omega (arith, keys_length fs (n + 1))

-- one key more
pub keys_more : (fs : List Field) (i : ℕ) (f : Field) (old new : List ℕ) (k : ℕ) → i < length fs → f ≡ get_or fs i f → k ≡ key f.tag i → new ≡ old ++ k ∷ [] → old ++ keys_from i (drop i fs) ≡ keys_from 0 fs → new ++ keys_from (i + 1) (drop (i + 1) fs) ≡ keys_from 0 fs
keys_more fs i f old new k lt here is grown h =
    ap (λ (l : List ℕ). l ++ keys_from (i + 1) (drop (i + 1) fs)) (grown ∙ ap (λ (x : ℕ). old ++ x ∷ []) is)
    ∙ append_assoc old (key f.tag i ∷ []) (keys_from (i + 1) (drop (i + 1) fs))
    ∙ ap (λ (l : List Field). old ++ keys_from i l) (ap (λ (g : Field). g ∷ drop (i + 1) fs) here ∙ sym (drop_more fs i f lt)) ∙ h

same_default : (xs : List ℕ) (k d e : ℕ) → k < length xs → get_or xs k d ≡ get_or xs k e
same_default [] k d e lt = absurd (omega (arith, lt))
same_default (x ∷ xs) zero d e lt = refl
same_default (x ∷ xs) (suc k) d e lt = same_default xs k d e (omega (arith, lt))

-- the field's own key stands in the index
pub own_key : (fs : List Field) (index : List ℕ) (place tag : ℕ) → IsSortedIndex fs index → place < length fs → HasTagAt fs place tag → (k : ℕ) × (k < length index) × (key tag 0 ≤ get_or index k 0)
own_key fs index place tag h lt has =
    let g : Field = record { tag = 0; value = [] } in
    let at : get_or (keys_from 0 fs) place 0 ≡ key tag place = keys_at fs 0 place 0 g lt ∙ omega (arith, has g) in
    let some : list_any (λ y. y == key tag place) index ≡ true =
    sym (list_any-IsPermutation (λ y. y == key tag place) (keys_from 0 fs) index h.all) ∙ list_any_at (λ y. y == key tag place) (keys_from 0 fs) place 0 (omega (arith, keys_length fs 0, lt)) (eq-eqb _ _ at) in
    let found = Any-from_list_any (λ y. y == key tag place) index some in
    (found.0, found.2, omega (arith, eqb-true found.1 (key tag place) found.4, same_default index found.0 found.1 0 found.2, found.3))

-- where a search in order ends, the least key stands that isn't less than what is looked for
pub least_ok : (index : List ℕ) (wanted at : ℕ) (r : Result ℕ ℕ) → IsBinarySearchResult (λ y. nat_cmp y wanted) index r → IsNonDecreasing index → r ≡ Ok at → IsLeast index wanted at
least_ok index wanted at r found sorted is =
    let s : (at < length index) × (get_or index at 0 ≡ wanted) = subst (λ (x : Result ℕ ℕ). MatchResult x (λ i. (i < length index) × (get_or index i 0 ≡ wanted)) (λ i. (i ≤ length index) × ((k : ℕ) → k < i → get_or index k 0 < wanted) × ((k : ℕ) → i ≤ k → k < length index → wanted < get_or index k 0))) is (searched index wanted r found (λ i j le lt. sorted i j 0 le lt)) in
    record { bound = s.0; enough = omega (arith, s.1); least = λ k lt le. omega (arith, s.1, le) }

pub least_err : (index : List ℕ) (wanted at : ℕ) (r : Result ℕ ℕ) → IsBinarySearchResult (λ y. nat_cmp y wanted) index r → IsNonDecreasing index → ((k : ℕ) × (k < length index) × (wanted ≤ get_or index k 0)) → r ≡ Err at → IsLeast index wanted at
least_err index wanted at r found sorted some is =
    let s : (at ≤ length index) × ((k : ℕ) → k < at → get_or index k 0 < wanted) × ((k : ℕ) → at ≤ k → k < length index → wanted < get_or index k 0) =
    subst (λ (x : Result ℕ ℕ). MatchResult x (λ i. (i < length index) × (get_or index i 0 ≡ wanted)) (λ i. (i ≤ length index) × ((k : ℕ) → k < i → get_or index k 0 < wanted) × ((k : ℕ) → i ≤ k → k < length index → wanted < get_or index k 0))) is (searched index wanted r found (λ i j le lt. sorted i j 0 le lt)) in
    let from : (k : ℕ) → k < length index → wanted ≤ get_or index k 0 → at ≤ k = λ k lt le. elim (cases_lt k at) [ inl low ↦ absurd (omega (arith, s.1 k low, le)) | inr high ↦ high ] in
    let inside : at < length index = omega (arith, from some.0 some.1 some.2, some.1) in
    record { bound = inside; enough = omega (arith, s.2 at (omega arith) inside); least = λ k lt le. sorted at k 0 (from k lt le) lt }

any_is : (index : List ℕ) (tag place at : ℕ) → IsLeast index (key tag 0) at → list_any (is_before tag place) index ≡ nat_lt (get_or index at 0) (key tag place)
any_is index tag place at l = elim (cases_lt (get_or index at 0) (key tag place)) [
  | inl low ↦ list_any_at (is_before tag place) index at 0 l.bound (and_from _ _ (le-leb (key tag 0) (get_or index at 0) l.enough) (lt-ltb (get_or index at 0) (key tag place) low)) ∙ sym (lt-ltb (get_or index at 0) (key tag place) low)
  | inr high ↦
      list_any_none (is_before tag place) index (λ k d lt. false_from_ne_true (is_before tag place (get_or index k d)) (λ e.
      let two = and_parts (nat_le (key tag 0) (get_or index k d)) (nat_lt (get_or index k d) (key tag place)) e in
      let same = same_default index k d 0 lt in
      omega (arith, high, same, leb-true (key tag 0) (get_or index k d) two.0, ltb-true (get_or index k d) (key tag place) two.1, l.least k lt (omega (arith, same, leb-true (key tag 0) (get_or index k d) two.0)))))
      ∙ sym (le-ltb (get_or index at 0) (key tag place) high)
]

pub stands_is : (fs : List Field) (index : List ℕ) (tag place at : ℕ) → IsSortedIndex fs index → place < length fs → length fs < 18446744073709551616 → IsLeast index (key tag 0) at → nat_lt (get_or index at 0) (key tag place) ≡ has_field tag (take place fs)
stands_is fs index tag place at h lt fits l =
    sym (any_is index tag place at l) ∙ sym (list_any-IsPermutation (is_before tag place) (keys_from 0 fs) index h.all)
    ∙ any_before tag place 0 place fs (omega arith) (omega (arith, lt, fits)) (omega (arith, fits))
