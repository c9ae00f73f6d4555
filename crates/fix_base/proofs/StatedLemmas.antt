-- Agreement by the front of a list is agreement in plain words, and says that nothing comes behind a
-- later message.
use Rattle.std.proofs.Common.{◌≡◌, ◌⊎◌, inl, inr, ◌↔◌, ℕ, suc, ◌+◌, ◌-◌, ◌<◌, ◌≤◌, List, [], ◌∷◌, ◌++◌, length, length-append, take, drop, length-take, take-append-drop, true, false, refl, sym, ap, ◌∙◌, subst, arith}
use Rattle.fix_base.specs.Lists.{Among, here, there}
use Rattle.fix_base.specs.End.{Entry, App, Admin, End, Sent, app_entries_from, app_entries}
use Rattle.fix_base.specs.EndStep.{Handling}
use Rattle.fix_base.specs.Agrees.{has_number, fresh, fresh_beyond, greatest, top, Less, none, keeps, drops, Agrees, RiseFrom, AgreesInPlainWords, ComesInOrder}
use Rattle.fix_base.proofs.ListLemmas.{Among-append_left, Among-append_right, Among-append_cases, Among-cons_cases}
use Rattle.fix_base.proofs.HandledLemmas.{seen_after, fresh-middle, seen_earlier, fresh_bounds, test}
use Rattle.fix_base.proofs.AgreesLemmas.{app_entries_from-append, Less-cases, Less-among}

-- ---- rising numbers

rise_lower : {n m : ℕ} (xs : List Sent) → n ≤ m → RiseFrom m xs → RiseFrom n xs
rise_lower [] le r = tt
rise_lower (x ∷ xs) le r = (omega (arith, le, r.0), r.1)

rise_above : {n : ℕ} {x : Sent} (xs : List Sent) → RiseFrom n xs → Among x xs → n < x.number
rise_above [] r m = elim m [ ]
rise_above (x ∷ xs) r here = r.0
rise_above (y ∷ xs) r (there m) = let later = rise_above xs r.1 m in omega (arith, later, r.0)

-- the entries of a list
entries_rise : (n k : ℕ) (xs : List Entry) → n < k → RiseFrom n (app_entries_from k xs)
entries_rise n k [] lt = tt
entries_rise n k (App time by body ∷ xs) lt = (lt, entries_rise k (suc k) xs (omega arith))
entries_rise n k (Admin time kind about ∷ xs) lt = entries_rise n (suc k) xs (omega arith)

entries_below : {x : Sent} (k : ℕ) (xs : List Entry) → Among x (app_entries_from k xs) → x.number < k + length xs
entries_below k [] m = elim m [ ]
entries_below k (App time by body ∷ xs) here = omega arith
entries_below k (App time by body ∷ xs) (there m) = let later = entries_below (suc k) xs m in omega (arith, later)
entries_below k (Admin time kind about ∷ xs) m = let later = entries_below (suc k) xs m in omega (arith, later)

entries_above : {x : Sent} (k : ℕ) (xs : List Entry) → Among x (app_entries_from (suc k) xs) → k < x.number
entries_above k xs m = rise_above (app_entries_from (suc k) xs) (entries_rise k (suc k) xs (omega arith)) m

-- what is left of rising ones rises
less_rises : {held : List ℕ} {all left : List Sent} (n : ℕ) → Less held all left → RiseFrom n all → RiseFrom n left
less_rises n none r = tt
less_rises n (keeps x l) r = (r.0, less_rises x.number l r.1)
less_rises {left = left} n (drops x h l) r = rise_lower left (omega (arith, r.0)) (less_rises x.number l r.1)

pub agrees_rises : {stored : ℕ} {handled : List Handling} {f : End} → Agrees stored handled f → RiseFrom 0 (fresh handled)
agrees_rises a = less_rises 0 a.same (entries_rise 0 1 a.below (omega arith))

-- ---- a list of which others are left, by its members

abbrev Inside : List Sent → List Sent → Type 0
Inside left all = (x : Sent) → Among x left → Among x all

abbrev Missing : List ℕ → List Sent → List Sent → Type 0
Missing held all left = (x : Sent) → Among x all → (Among x left → ⊥) → Among x.number held

-- what is to be shown of a list
abbrev IsLessOf : List ℕ → List Sent → Type 0
IsLessOf held all = (n : ℕ) (left : List Sent) → RiseFrom n all → RiseFrom n left → Inside left all → Missing held all left → Less held all left

same_number : {x y : Sent} → x ≡ y → x.number ≡ y.number
same_number e = ap (λ (z : Sent). z.number) e

-- the first of both is the same
less_kept : (held : List ℕ) (x : Sent) (all left : List Sent) → IsLessOf held all → RiseFrom x.number all → RiseFrom x.number left → Inside (x ∷ left) (x ∷ all) → Missing held (x ∷ all) (x ∷ left) → Less held (x ∷ all) (x ∷ left)
less_kept held x all left rec r s each missing = keeps x (rec x.number left r s inside (λ z m no. missing z (there m) (λ k. elim (Among-cons_cases k) [ inl e ↦ unequal z e (rise_above all r m) | inr k ↦ no k ])))
  where
    unequal : (z : Sent) → z ≡ x → x.number < z.number → ⊥
    unequal z e above = let at = same_number e in absurd (omega (arith, at, above))

    inside : Inside left all
    inside z m = elim (Among-cons_cases (each z (there m))) [ inl e ↦ absurd (unequal z e (rise_above left s m)) | inr k ↦ k ]

-- the first is left out
less_dropped : (held : List ℕ) (x y : Sent) (all left : List Sent) → IsLessOf held all → RiseFrom x.number all → RiseFrom x.number (y ∷ left) → Inside (y ∷ left) (x ∷ all) → Missing held (x ∷ all) (y ∷ left) → Less held (x ∷ all) (y ∷ left)
less_dropped held x y all left rec r s each missing = drops x (missing x here (λ m. unequal x refl (rise_above (y ∷ left) s m))) (rec x.number (y ∷ left) r s inside (λ z m no. missing z (there m) no))
  where
    unequal : (z : Sent) → z ≡ x → x.number < z.number → ⊥
    unequal z e above = let at = same_number e in absurd (omega (arith, at, above))

    inside : Inside (y ∷ left) all
    inside z m = elim (Among-cons_cases (each z m)) [ inl e ↦ absurd (unequal z e (rise_above (y ∷ left) s m)) | inr k ↦ k ]

less_by : (held : List ℕ) (x y : Sent) (all left : List Sent) → IsLessOf held all → RiseFrom x.number all → RiseFrom y.number left → Inside (y ∷ left) (x ∷ all) → Missing held (x ∷ all) (y ∷ left) → (y ≡ x) ⊎ Among y all → Less held (x ∷ all) (y ∷ left)
less_by held x y all left rec r s each missing (inl same) =
    subst (λ z. RiseFrom z.number left → Inside (z ∷ left) (x ∷ all) → Missing held (x ∷ all) (z ∷ left) → Less held (x ∷ all) (z ∷ left)) (sym same) (λ s e m. less_kept held x all left rec r s e m) s each missing
less_by held x y all left rec r s each missing (inr later) = less_dropped held x y all left rec r (rise_above all r later, s) each missing

less_of : (held : List ℕ) (all : List Sent) → IsLessOf held all
less_of held [] n [] r s each missing = none
less_of held [] n (y ∷ left) r s each missing = elim (each y here) [ ]
less_of held (x ∷ all) n [] r s each missing = drops x (missing x here (λ m. elim m [ ])) (less_of held all x.number [] r.1 tt (λ z m. elim m [ ]) (λ z m no. missing z (there m) no))
less_of held (x ∷ all) n (y ∷ left) r s each missing = less_by held x y all left (less_of held all) r.1 s.1 each missing (Among-cons_cases (each y here))

-- ---- both ways

items_of : {out : List Entry} (below rest : List Entry) → out ≡ below ++ rest → app_entries out ≡ app_entries below ++ app_entries_from (suc (length below)) rest
items_of below rest is = ap (λ w. app_entries w) is ∙ app_entries_from-append 1 below rest ∙ ap (λ n. app_entries below ++ app_entries_from n rest) (omega arith)

-- a message of the list below this number is one of its front
in_front : {out : List Entry} {x : Sent} (below rest : List Entry) → out ≡ below ++ rest → Among x (app_entries out) → x.number < suc (length below) → Among x (app_entries below)
in_front {x = x} below rest is m low =
    elim (Among-append_cases (app_entries below) (app_entries_from (suc (length below)) rest) (subst (λ w. Among x w) (items_of below rest is) m)) [
      | inl a ↦ a
      | inr b ↦ (let high = entries_above (length below) rest b in absurd (omega (arith, high)))
    ]

of_front : {out : List Entry} {x : Sent} (below rest : List Entry) → out ≡ below ++ rest → Among x (app_entries below) → Among x (app_entries out)
of_front {x = x} below rest is m = subst (λ w. Among x w) (sym (items_of below rest is)) (Among-append_left (app_entries_from (suc (length below)) rest) m)

stated_of : (stored : ℕ) (handled : List Handling) (f : End) → Agrees stored handled f → AgreesInPlainWords stored handled f
stated_of stored handled f a =
    let long = ap (λ (w : List Entry). length w) a.is in
    record {
      inside = omega (arith, long, length-append a.below a.rest, a.many);
      rises = agrees_rises a;
      stored = λ x m. (let item = Less-among a.same m in (of_front a.below a.rest a.is item, let low = entries_below 1 a.below item in omega (arith, low, a.many)));
      missing = λ x m low no. (elim (Less-cases a.same (in_front a.below a.rest a.is m (omega (arith, low, a.many)))) [ inl was ↦ absurd (no was) | inr h ↦ h ]);
    }

agrees_of : (stored : ℕ) (handled : List Handling) (f : End) → AgreesInPlainWords stored handled f → Agrees stored handled f
agrees_of stored handled f s =
    let n = top stored handled - 1 in
    let below = take n f.out in
    let rest = drop n f.out in
    let whole : f.out ≡ take n f.out ++ drop n f.out = sym (take-append-drop n f.out) in
    let many : suc (length (take n f.out)) ≡ top stored handled = omega (arith, s.inside, length-take n f.out) in
    record {
      below = below;
      rest = rest;
      is = whole;
      many = many;
      same = less_of f.withheld (app_entries below) 0 (fresh handled) (entries_rise 0 1 below (omega arith)) s.rises
          (λ x m. in_front below rest whole (s.stored x m).0 (let low = (s.stored x m).1 in omega (arith, low, many)))
          (λ x m no. s.missing x (of_front below rest whole m) (let low = entries_below 1 below m in omega (arith, low, many)) no);
    }

pub stated : (stored : ℕ) (handled : List Handling) (f : End) → Agrees stored handled f ↔ AgreesInPlainWords stored handled f
stated stored handled f = (stated_of stored handled f, agrees_of stored handled f)

-- ---- nothing comes behind a later message

rise_parts : {y : Sent} (n : ℕ) (xs : List Sent) (x : Sent) (ys : List Sent) → RiseFrom n (xs ++ x ∷ ys) → Among y xs → y.number < x.number
rise_parts n [] x ys r m = elim m [ ]
rise_parts n (z ∷ xs) x ys r here = rise_above (xs ++ x ∷ ys) r.1 (Among-append_right xs here)
rise_parts n (z ∷ xs) x ys r (there m) = rise_parts z.number xs x ys r.1 m

pub in_order : (expected : ℕ) (handled : List Handling) (f : End) → Agrees expected handled f → ComesInOrder handled
in_order expected handled f a = record { each = λ before after h is. of_test before after h is (test (has_number h.number (seen_after [] before))) }
  where
    of_test : (before after : List Handling) (h : Handling) → handled ≡ before ++ h ∷ after → (has_number h.number (seen_after [] before) ≡ true) ⊎ (has_number h.number (seen_after [] before) ≡ false) → ((earlier : Handling) × Among earlier before × (earlier.number ≡ h.number)) ⊎ (greatest before < h.number)
    of_test before after h is (inl seen) = elim (seen_earlier h.number [] before seen) [ inl nothing ↦ cc | inr found ↦ inl found ]
    of_test before after h is (inr new) =
        let rises : RiseFrom 0 (fresh before ++ record { number = h.number; body = h.body } ∷ fresh_beyond (h.number ∷ seen_after [] before) after) = subst (RiseFrom 0) (ap (λ w. fresh w) is ∙ fresh-middle before after h new) (agrees_rises a) in
        let some = rise_above {x = record { number = h.number; body = h.body }} (fresh before ++ record { number = h.number; body = h.body } ∷ fresh_beyond (h.number ∷ seen_after [] before) after) rises (Among-append_right (fresh before) here) in
        inr (fresh_bounds h.number before some (λ s m. rise_parts 0 (fresh before) (record { number = h.number; body = h.body }) (fresh_beyond (h.number ∷ seen_after [] before) after) rises m))
