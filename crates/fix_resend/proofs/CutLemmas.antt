-- What the definition of a resend list comes to.
use Rattle.std.proofs.Common.{◌≡◌, ◌↔◌, ℕ, suc, zero, ◌+◌, ◌-◌, ◌≤◌, List, [], ◌∷◌, ◌++◌, take, drop, replicate, slice_range, Bool, true, false, not, refl, sym, ap, subst, ◌∙◌, arith}
use Rattle.fix_base.specs.declared.entry.Entry.{Entry}
use Rattle.fix_base.specs.declared.entry.Entry.TheVariants.{App, Admin}
use Rattle.fix_resend.specs.Cut.{Out, Repeat, Gap, cut_from, gap_before, is_one, coming_again, resend_list, BeginsAgain, IsCut}
use Rattle.fix_resend.specs.Cut as cut

-- ---- runs

-- one gap fill goes over a run, as long as it is
pub a_run : (more n : ℕ) (apps : List Bool) → BeginsAgain apps → cut_from n (replicate (suc more) false ++ apps) ≡ Gap n (n + suc more) ∷ cut_from (n + suc more) apps
a_run zero n [] cut.ends = let e : suc n ≡ n + suc zero = omega arith in ap (λ m. Gap n m ∷ []) e
a_run zero n (true ∷ apps) (cut.again _) = let e : suc n ≡ n + suc zero = omega arith in ap (λ m. Gap n m ∷ Repeat m ∷ cut_from (suc m) apps) e
a_run zero n (false ∷ apps) b = elim b [ ]
a_run (suc more) n apps b =
    let e : suc n + suc more ≡ n + suc (suc more) = omega arith in
    ap (gap_before n) (a_run more (suc n) apps b) ∙ ap (λ m. Gap n m ∷ cut_from m apps) e

-- ---- in plain words

-- one more in front that is passed over
one_more : {apps : List Bool} {outs : List Out} (n m : ℕ) → suc n ≡ m → IsCut m apps outs → IsCut n (false ∷ apps) (gap_before n outs)
one_more n _ e (cut.nothing m) =
    let next : n + suc zero ≡ suc n = omega arith in
    subst (λ k. IsCut n (false ∷ []) (Gap n k ∷ [])) next (cut.gap n zero cut.ends (cut.nothing (n + suc zero)))
one_more n _ e (cut.repeat {apps = apps} {outs = outs} m rest) =
    let next : n + suc zero ≡ suc n = omega arith in
    let same : m ≡ n + suc zero = omega (arith, e) in
    subst (λ k. IsCut n (false ∷ true ∷ apps) (Gap n k ∷ Repeat m ∷ outs)) next
    (subst (λ k. IsCut n (false ∷ true ∷ apps) (Gap n (n + suc zero) ∷ Repeat k ∷ outs)) (sym same)
    (cut.gap n zero (cut.again apps) (cut.repeat (n + suc zero) (subst (λ k. IsCut (suc k) apps outs) same rest))))
one_more n _ e (cut.gap {apps = apps} {outs = outs} m more b rest) =
    let same : m + suc more ≡ n + suc (suc more) = omega (arith, e) in
    subst (λ k. IsCut n (false ∷ (replicate (suc more) false ++ apps)) (Gap n k ∷ outs)) (sym same)
    (cut.gap n (suc more) b (subst (λ k. IsCut k apps outs) same rest))

pub is_cut : (n : ℕ) (apps : List Bool) → IsCut n apps (cut_from n apps)
is_cut n [] = cut.nothing n
is_cut n (true ∷ apps) = cut.repeat n (is_cut (suc n) apps)
is_cut n (false ∷ apps) = one_more n (suc n) refl (is_cut (suc n) apps)

pub one_cut : {n : ℕ} {apps : List Bool} {outs : List Out} → IsCut n apps outs → outs ≡ cut_from n apps
one_cut (cut.nothing n) = refl
one_cut (cut.repeat n rest) = ap (λ outs. Repeat n ∷ outs) (one_cut rest)
one_cut (cut.gap {apps = apps} n more b rest) = ap (λ outs. Gap n (n + suc more) ∷ outs) (one_cut rest) ∙ sym (a_run more n apps b)

pub in_plain_words : (n : ℕ) (apps : List Bool) (outs : List Out) → (outs ≡ cut_from n apps) ↔ IsCut n apps outs
in_plain_words n apps outs = (λ e. subst (λ xs. IsCut n apps xs) (sym e) (is_cut n apps), one_cut)

-- ---- truth values

dropped : (withheld : List ℕ) (i n : ℕ) (out : List Entry) → drop i (coming_again withheld n out) ≡ coming_again withheld (n + i) (drop i out)
dropped withheld zero n out = let e : n ≡ n + zero = omega arith in ap (λ m. coming_again withheld m out) e
dropped withheld (suc i) n [] = refl
dropped withheld (suc i) n (App time by body ∷ out) = let e : suc n + i ≡ n + suc i = omega arith in dropped withheld i (suc n) out ∙ ap (λ m. coming_again withheld m (drop i out)) e
dropped withheld (suc i) n (Admin time kind about ∷ out) = let e : suc n + i ≡ n + suc i = omega arith in dropped withheld i (suc n) out ∙ ap (λ m. coming_again withheld m (drop i out)) e

taken : (withheld : List ℕ) (i n : ℕ) (out : List Entry) → take i (coming_again withheld n out) ≡ coming_again withheld n (take i out)
taken withheld zero n out = refl
taken withheld (suc i) n [] = refl
taken withheld (suc i) n (App time by body ∷ out) = ap (λ bs. not (is_one n withheld) ∷ bs) (taken withheld i (suc n) out)
taken withheld (suc i) n (Admin time kind about ∷ out) = ap (λ bs. false ∷ bs) (taken withheld i (suc n) out)

pub by_truth_values : (out : List Entry) (withheld : List ℕ) (a b : ℕ) → 1 ≤ a → resend_list out withheld a b ≡ cut_from a (slice_range (coming_again withheld 1 out) (a - 1) b)
by_truth_values out withheld a b low =
    let e : 1 + (a - 1) ≡ a = omega (arith, low) in
    let rest = dropped withheld (a - 1) 1 out ∙ ap (λ m. coming_again withheld m (drop (a - 1) out)) e in
    ap (cut_from a) (sym (taken withheld (b - (a - 1)) a (drop (a - 1) out)) ∙ sym (ap (take (b - (a - 1))) rest))
