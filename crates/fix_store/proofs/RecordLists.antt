-- Lists of items, each of which may stand after those before it.
use Rattle.std.proofs.Common.{◌≡◌, ℕ, ◌+◌, ◌<◌, zero, suc, List, [], ◌∷◌, ◌++◌, length, take, drop, get_or, Some, refl, sym, ◌∙◌, ap, subst, arith}
use Rattle.std.specs.Prelude.{map, option_map, slice_get, IfSome}
use Rattle.fix_base.specs.declared.entry.Record.{Record}
use Rattle.fix_base.specs.declared.entry.Record.TheVariants.{Push, Expect, Many, Withhold, Reset, ResetAsk, Confirm}
use Rattle.fix_base.specs.Payload.{IsKeepable}
use Rattle.fix_base.proofs.WroteLemmas.{IsEntry-inside}
use Rattle.fix_store.specs.Spelling.{Item, keeps, marks, spelled_item}
use Rattle.fix_store.specs.Reading.{Content, taken, taken_all, MayFollow, MayBeKept, MayAllFollow}
use Rattle.fix_store.specs.Ends.{item_in}
use Rattle.fix_store.specs.Folding.{IsFit}
use Rattle.fix_store.proofs.Spellings.{back, one_item}

pub head : {A : Type 0} (x y : A) (xs ys : List A) → x ∷ xs ≡ y ∷ ys → x ≡ y
head x y xs ys same = ap (λ l. get_or l 0 x) same

pub tail : {A : Type 0} (x y : A) (xs ys : List A) → x ∷ xs ≡ y ∷ ys → xs ≡ ys
tail x y xs ys same = ap (drop 1) same

never_some : {A : Type 0} (x : A) (xs : List A) {P : Type 0} → [] ≡ x ∷ xs → P
never_some x xs same = absurd (omega (arith, ap length same))

pub map-push : {A B : Type 0} (f : A → B) (xs : List A) (x : A) → map f (xs ++ x ∷ []) ≡ map f xs ++ f x ∷ []
map-push f [] x = refl
map-push f (y ∷ xs) x = ap (λ l. f y ∷ l) (map-push f xs x)

pub length-map : {A B : Type 0} (f : A → B) (xs : List A) → length (map f xs) ≡ length xs
length-map f [] = refl
length-map f (x ∷ xs) = omega (arith, length-map f xs)

pub fold-push : (s : Content) (items : List Item) (i : Item) → taken_all s (items ++ i ∷ []) ≡ taken (taken_all s items) i
fold-push s [] i = refl
fold-push s (j ∷ items) i = fold-push (taken s j) items i

pub follow-push : (s : Content) (items : List Item) (i : Item) → MayAllFollow s items → MayFollow (taken_all s items) i → MayAllFollow s (items ++ i ∷ [])
follow-push s [] i all next = (next, tt)
follow-push s (j ∷ items) i all next = (all.0, follow-push (taken s j) items i all.1 next)

-- what may stand somewhere fits
kept_fits : (s : Content) (r : Record) → MayBeKept s r → IsKeepable r
kept_fits s (Push entry) may = may.keepable
kept_fits s (Expect number) may = may.keepable
kept_fits s (Many pushes number) may = may.keepable
kept_fits s (Withhold number) may =
    let there = may.keepable.1.entry in
    let inside = IsEntry-inside there in
    (omega (arith, there.place), omega (arith, inside, may.numbered))
kept_fits s (Reset time) may = may.keepable
kept_fits s (ResetAsk time) may = may.keepable
kept_fits s Confirm may = tt

pub fits : (s : Content) (i : Item) → MayFollow s i → IsFit i
fits s (keeps r) may = kept_fits s r may
fits s marks may = tt

-- each is one that fits
pub fits_at : (s : Content) (items : List Item) (n : ℕ) (i : Item) → MayAllFollow s items → slice_get items n ≡ Some i → IsFit i
fits_at s [] n i all is = absurd (subst (λ o. IfSome o (λ x. ⊥)) is tt)
fits_at s (j ∷ items) zero i all is = subst (λ o. IfSome o IsFit) is (fits s j all.0)
fits_at s (j ∷ items) (suc n) i all is = fits_at (taken s j) items n i all.1 is

pub backs : (s : Content) (items : List Item) → MayAllFollow s items → map item_in (map spelled_item items) ≡ items
backs s [] all = refl
backs s (i ∷ items) all =
    let first = back i (fits s i all.0) in
    let others = backs (taken s i) items all.1 in
    λ k. first k ∷ others k

-- payloads are one list of items
pub one_list : (s t : Content) (xs ys : List Item) → MayAllFollow s xs → MayAllFollow t ys → map spelled_item xs ≡ map spelled_item ys → xs ≡ ys
one_list s t xs ys all all' same = sym (backs s xs all) ∙ ap (map item_in) same ∙ backs t ys all'

-- the payload is no item after these
abbrev pub IsBad : Content → List Item → List ℕ → Type 0
IsBad s items payload = (i : Item) → MayFollow (taken_all s items) i → payload ≡ spelled_item i → ⊥

-- items have no payload that is none
pub never_bad : (s : Content) (xs ys : List Item) (payload : List ℕ) (later : List (List ℕ)) → MayAllFollow s xs → MayAllFollow s ys → IsBad s ys payload → map spelled_item xs ≡ map spelled_item ys ++ payload ∷ later → ⊥
never_bad s [] [] payload later all all' bad same = never_some payload later same
never_bad s [] (y ∷ ys) payload later all all' bad same = never_some (spelled_item y) (map spelled_item ys ++ payload ∷ later) same
never_bad s (x ∷ xs) [] payload later all all' bad same = bad x all.0 (sym (head (spelled_item x) payload (map spelled_item xs) later same))
never_bad s (x ∷ xs) (y ∷ ys) payload later all all' bad same =
    let first : x ≡ y = one_item x y (fits s x all.0) (fits s y all'.0) (head (spelled_item x) (spelled_item y) (map spelled_item xs) (map spelled_item ys ++ payload ∷ later) same) in
    never_bad (taken s y) xs ys payload later (subst (λ z. MayAllFollow (taken s z) xs) first all.1) all'.1 bad (tail (spelled_item x) (spelled_item y) (map spelled_item xs) (map spelled_item ys ++ payload ∷ later) same)

-- the first payload that is none stands after the same items
pub one_bad : (s : Content) (xs ys : List Item) (p p' : List ℕ) (l l' : List (List ℕ)) → MayAllFollow s xs → MayAllFollow s ys → IsBad s xs p → IsBad s ys p' → map spelled_item xs ++ p ∷ l ≡ map spelled_item ys ++ p' ∷ l' → xs ≡ ys
one_bad s [] [] p p' l l' all all' bad bad' same = refl
one_bad s [] (y ∷ ys) p p' l l' all all' bad bad' same = absurd (bad y all'.0 (head p (spelled_item y) l (map spelled_item ys ++ p' ∷ l') same))
one_bad s (x ∷ xs) [] p p' l l' all all' bad bad' same = absurd (bad' x all.0 (sym (head (spelled_item x) p' (map spelled_item xs ++ p ∷ l) l' same)))
one_bad s (x ∷ xs) (y ∷ ys) p p' l l' all all' bad bad' same =
    let first : x ≡ y = one_item x y (fits s x all.0) (fits s y all'.0) (head (spelled_item x) (spelled_item y) (map spelled_item xs ++ p ∷ l) (map spelled_item ys ++ p' ∷ l') same) in
    let later = one_bad (taken s x) xs ys p p' l l' all.1 (subst (λ z. MayAllFollow (taken s z) ys) (sym first) all'.1) bad (subst (λ z. IsBad (taken s z) ys p') (sym first) bad') (tail (spelled_item x) (spelled_item y) (map spelled_item xs ++ p ∷ l) (map spelled_item ys ++ p' ∷ l') same) in
    λ k. first k ∷ later k

-- ---- one item of a list

-- more items after it leave an item where it is
pub get_front : {A : Type 0} (xs ys : List A) (i : ℕ) (x : A) → slice_get xs i ≡ Some x → slice_get (xs ++ ys) i ≡ Some x
get_front [] ys i x is = absurd (subst (λ o. IfSome o (λ z. ⊥)) is tt)
get_front (y ∷ xs) ys zero x is = is
get_front (y ∷ xs) ys (suc i) x is = get_front xs ys i x is

pub get_at : {A : Type 0} (xs : List A) (x : A) (ys : List A) → slice_get (xs ++ x ∷ ys) (length xs) ≡ Some x
get_at [] x ys = refl
get_at (y ∷ xs) x ys = get_at xs x ys

pub get_map : {A B : Type 0} (f : A → B) (xs : List A) (i : ℕ) (x : A) → slice_get xs i ≡ Some x → slice_get (map f xs) i ≡ Some (f x)
get_map f [] i x is = absurd (subst (λ o. IfSome o (λ z. ⊥)) is tt)
get_map f (y ∷ xs) zero x is = ap (option_map f) is
get_map f (y ∷ xs) (suc i) x is = get_map f xs i x is

-- an item after the first list
pub get_past : {A : Type 0} (xs ys : List A) (m : ℕ) → slice_get (xs ++ ys) (length xs + m) ≡ slice_get ys m
get_past [] ys m =
    let none : 0 + m ≡ m = omega arith in
    ap (slice_get ys) none
get_past (y ∷ xs) ys m =
    let next : suc (length xs) + m ≡ suc (length xs + m) = omega arith in
    ap (slice_get (y ∷ (xs ++ ys))) next ∙ get_past xs ys m

pub get_inside : {A : Type 0} (xs : List A) (i : ℕ) (x : A) → slice_get xs i ≡ Some x → i < length xs
get_inside [] i x is = absurd (subst (λ o. IfSome o (λ z. ⊥)) is tt)
get_inside (y ∷ xs) zero x is = omega arith
get_inside (y ∷ xs) (suc i) x is = let rest = get_inside xs i x is in omega (arith, rest)

pub record Splits {A : Type 0} (xs : List A) (i : ℕ) : Type 0 where
  pub item : A
  pub there : slice_get xs i ≡ Some item
  pub is : xs ≡ take i xs ++ item ∷ drop (suc i) xs

pub splits : {A : Type 0} (xs : List A) (i : ℕ) → i < length xs → Splits xs i
splits [] i lt = absurd (omega (arith, lt))
splits (x ∷ xs) zero lt = record { item = x; there = refl; is = refl }
splits (x ∷ xs) (suc i) lt =
    let s = splits xs i (omega (arith, lt)) in
    record { item = s.item; there = s.there; is = ap (λ l. x ∷ l) s.is }

pub take_more : {A : Type 0} (xs : List A) (i : ℕ) (x : A) → slice_get xs i ≡ Some x → take (suc i) xs ≡ take i xs ++ x ∷ []
take_more [] i x is = absurd (subst (λ o. IfSome o (λ z. ⊥)) is tt)
take_more (y ∷ xs) zero x is = ap (λ z. z ∷ []) (subst (λ o. IfSome o (λ z. y ≡ z)) is refl)
take_more (y ∷ xs) (suc i) x is = ap (λ l. y ∷ l) (take_more xs i x is)
