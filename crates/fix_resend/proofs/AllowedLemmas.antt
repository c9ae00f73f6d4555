-- That a resend list is one that its end may send.
use Rattle.std.proofs.Common.{◌≡◌, ◌-◌, ◌<◌, ◌≤◌, ℕ, suc, inl, inr, List, [], ◌∷◌, ◌++◌, append_assoc, length, take, drop, Bool, true, false, not, ◌==◌, ◌||◌, refl, sym, ap, subst, ◌∙◌, arith}
use Rattle.std.proofs.lemmas.Bool.Decides.{eqb_tells}
use Rattle.std.proofs.lemmas.List.{take-append-drop, length-take-le}
use Rattle.fix_base.specs.Lists.{Among}
use Rattle.fix_base.specs.Lists as lists
use Rattle.fix_base.specs.declared.entry.Entry.{Entry}
use Rattle.fix_base.specs.declared.entry.Entry.TheVariants.{App, Admin}
use Rattle.fix_base.specs.End.{End, IsEntry, IsSkipped, MayComeAgain}
use Rattle.fix_base.specs.End as end
use Rattle.fix_base.specs.Wrote.{SkipsBetween}
use Rattle.fix_resend.specs.Cut.{Out, Repeat, Gap, cut_from, gap_before, is_one, coming_again, resend_list}
use Rattle.fix_resend.specs.Allowed.{IsAllowed, AreAllowed}
use Rattle.fix_resend.specs.Allowed as allowed

-- ---- the first one

-- the list begins with this number
data BeginsAt (n : ℕ) : List Out → Type 0 where
  with_none : BeginsAt n []
  with_repeat : (outs : List Out) → BeginsAt n (Repeat n ∷ outs)
  with_gap : (next : ℕ) (outs : List Out) → BeginsAt n (Gap n next ∷ outs)

gap_begins : (n : ℕ) (outs : List Out) → BeginsAt n (gap_before n outs)
gap_begins n [] = with_gap (suc n) []
gap_begins n (Gap from next ∷ outs) = with_gap next outs
gap_begins n (Repeat k ∷ outs) = with_gap (suc n) (Repeat k ∷ outs)

begins_at : (n : ℕ) (apps : List Bool) → BeginsAt n (cut_from n apps)
begins_at n [] = with_none
begins_at n (true ∷ apps) = with_repeat (cut_from (suc n) apps)
begins_at n (false ∷ apps) = gap_begins n (cut_from (suc n) apps)

-- ---- withheld

is_among : (n : ℕ) (ks : List ℕ) → is_one n ks ≡ true → Among n ks
is_among n [] is = cc
is_among n (k ∷ ks) is =
    elim (eqb_tells n k) [
      | inl h ↦ subst (λ m. Among n (m ∷ ks)) h.1 lists.here
      | inr h ↦ lists.there (is_among n ks (ap (λ t. t || is_one n ks) (sym h.0) ∙ is))
    ]

is_apart : {n : ℕ} {ks : List ℕ} → Among n ks → is_one n ks ≡ true
is_apart {n = n} (lists.here {xs = ks}) =
    elim (eqb_tells n n) [
      | inl h ↦ ap (λ t. t || is_one n ks) h.0
      | inr h ↦ absurd (h.1 refl)
    ]
is_apart {n = n} (lists.there {y = k} {xs = ks} among) = either (n == k) (is_apart among)
  where
    either : (t : Bool) → is_one n ks ≡ true → (t || is_one n ks) ≡ true
    either true is = refl
    either false is = is

-- ---- one more in front

skips_one : (e : End) (n : ℕ) → IsSkipped e n → SkipsBetween e n (suc n)
skips_one e n skip = record { each = λ k low high. (let same : n ≡ k = omega (arith, low, high) in subst (IsSkipped e) same skip) }

skips_more : (e : End) (n next : ℕ) → IsSkipped e n → SkipsBetween e (suc n) next → SkipsBetween e n next
skips_more e n next skip rest = record { each = at }
  where
    above : (k : ℕ) → n ≤ k → (n ≡ k → ⊥) → suc n ≤ k
    above k low apart = grind (arith, low, apart)

    at : (k : ℕ) → n ≤ k → k < next → IsSkipped e k
    at k low high = elim (eqb_tells n k) [ inl h ↦ subst (IsSkipped e) h.1 skip | inr h ↦ rest.each k (above k low h.1) high ]

gap_allowed : (e : End) (n : ℕ) (outs : List Out) → BeginsAt (suc n) outs → IsSkipped e n → AreAllowed e outs → AreAllowed e (gap_before n outs)
gap_allowed e n _ with_none skip all = let some : n < suc n = omega arith in allowed.more (allowed.gap n (suc n) some (skips_one e n skip)) allowed.none
gap_allowed e n _ (with_repeat outs) skip all = let some : n < suc n = omega arith in allowed.more (allowed.gap n (suc n) some (skips_one e n skip)) all
gap_allowed e n _ (with_gap _ outs) skip (allowed.more (allowed.gap _ next some skips) rest) =
    let wider : n < next = omega (arith, some) in
    allowed.more (allowed.gap n next wider (skips_more e n next skip skips)) rest

-- ---- the list of a part of the entries

-- the entry of this number, behind these and before others
entry_at : (e : End) (before : List Entry) (x : Entry) (es after : List Entry) → e.out ≡ before ++ (x ∷ (es ++ after)) → IsEntry e.out (suc (length before)) x
entry_at e before x es after is = record { before = before; after = es ++ after; is = is; place = refl }

next_place : (n : ℕ) (before : List Entry) (x : Entry) → n ≡ suc (length before) → suc n ≡ suc (length (before ++ x ∷ []))
next_place n before x place = ap suc (place ∙ sym (length-snoc before x))
  where
    length-snoc : (xs : List Entry) (x : Entry) → length (xs ++ x ∷ []) ≡ suc (length xs)
    length-snoc [] x = refl
    length-snoc (y ∷ xs) x = ap suc (length-snoc xs x)

part_allowed : (e : End) (before es after : List Entry) (n : ℕ) → e.out ≡ before ++ (es ++ after) → n ≡ suc (length before) → AreAllowed e (cut_from n (coming_again e.withheld n es))
part_allowed e before [] after n is place = allowed.none
part_allowed e before (Admin time kind about ∷ es) after n is place =
    let x = Admin time kind about in
    let rest = part_allowed e (before ++ x ∷ []) es after (suc n) (is ∙ sym (append_assoc before (x ∷ []) (es ++ after))) (next_place n before x place) in
    let skip : IsSkipped e n = end.admin (record { time = time; kind = kind; about = about; entry = subst (λ m. IsEntry e.out m x) (sym place) (entry_at e before x es after is) }) in
    gap_allowed e n _ (begins_at (suc n) (coming_again e.withheld (suc n) es)) skip rest
part_allowed e before (App time by body ∷ es) after n is place =
    let x = App time by body in
    let rest = part_allowed e (before ++ x ∷ []) es after (suc n) (is ∙ sym (append_assoc before (x ∷ []) (es ++ after))) (next_place n before x place) in
    let entry : IsEntry e.out n x = subst (λ m. IsEntry e.out m x) (sym place) (entry_at e before x es after is) in
    elim (is_one n e.withheld) as (λ t. is_one n e.withheld ≡ t → AreAllowed e (cut_from n (not t ∷ coming_again e.withheld (suc n) es))) [
      | true ↦ λ held. gap_allowed e n _ (begins_at (suc n) (coming_again e.withheld (suc n) es)) (end.withheld body (record { time = time; by = by; entry = entry }) (is_among n e.withheld held)) rest
      | false ↦ λ free. allowed.more (allowed.repeat n (record { body = body; app = record { time = time; by = by; entry = entry }; free = λ among. (let held = is_apart among in cc) })) rest
    ] refl

-- a list in three parts
parted : (i k : ℕ) (es : List Entry) → es ≡ take i es ++ (take k (drop i es) ++ drop k (drop i es))
parted i k es = sym (take-append-drop i es) ∙ ap (λ xs. take i es ++ xs) (sym (take-append-drop k (drop i es)))

pub list_allowed : (e : End) (a b : ℕ) → 1 ≤ a → a ≤ suc (length e.out) → AreAllowed e (resend_list e.out e.withheld a b)
list_allowed e a b low high =
    let place : a ≡ suc (length (take (a - 1) e.out)) = omega (arith, low, high, length-take-le (a - 1) e.out (omega (arith, high, low))) in
    part_allowed e (take (a - 1) e.out) (take (b - (a - 1)) (drop (a - 1) e.out)) (drop (b - (a - 1)) (drop (a - 1) e.out)) a (parted (a - 1) (b - (a - 1)) e.out) place
