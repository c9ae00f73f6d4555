-- What the steps of a walk give together.
use Rattle.std.proofs.Common.{◌≡◌, ℕ, suc, zero, ◌+◌, ◌-◌, ◌≤◌, ◌<◌, List, [], ◌∷◌, ◌++◌, length, replicate, nat_lt, Bool, true, false, if◌then◌else◌, Option, Some, None, refl, sym, ap, subst, ◌∙◌, arith}
use Rattle.std.proofs.lemmas.Bool.Decides.{nat_tests}
use Rattle.fix_resend.specs.Cut.{Out, Repeat, Gap, cut_from, BeginsAgain}
use Rattle.fix_resend.specs.Cut as cut
use Rattle.fix_resend.specs.Walks.{WalkSeen, Walked, Steps, begun, rest_of, given, gap_of}
use Rattle.fix_resend.specs.Walks as walk
use Rattle.fix_resend.proofs.CutLemmas.{a_run}

-- a run of any length, none too
pub run_or_none : (from next : ℕ) (apps : List Bool) → from ≤ next → BeginsAgain apps → cut_from from (replicate (next - from) false ++ apps) ≡ given (gap_of from next, None) ++ cut_from next apps
run_or_none from next apps le b =
    elim (nat_lt from next) as (λ t. nat_lt from next ≡ t → cut_from from (replicate (next - from) false ++ apps) ≡ given ((if t then Some (Gap from next) else None), None) ++ cut_from next apps) [
      | true ↦ λ is.
          let less : from < next = grind (arith, nat_tests, is) in
          let size : suc (next - suc from) ≡ next - from = omega (arith, less) in
          let end : from + suc (next - suc from) ≡ next = omega (arith, less) in
          ap (λ k. cut_from from (replicate k false ++ apps)) (sym size) ∙ a_run (next - suc from) from apps b ∙ ap (λ m. Gap from m ∷ cut_from m apps) end
      | false ↦ λ is.
          let same : from ≡ next = grind (arith, nat_tests, is, le) in
          let none : next - from ≡ zero = omega (arith, same) in
          ap (λ k. cut_from from (replicate k false ++ apps)) none ∙ ap (λ m. cut_from m apps) same
    ] refl

-- the number at which a walk stands joins those that are still to be passed over
joins : (k : ℕ) (apps : List Bool) → replicate k false ++ (false ∷ apps) ≡ replicate (suc k) false ++ apps
joins zero apps = refl
joins (suc k) apps = ap (λ bs. false ∷ bs) (joins k apps)

-- a message that comes again
pub rest_again : (w : WalkSeen) (apps : List Bool) → w.open_from ≤ w.at → rest_of w (true ∷ apps) ≡ given (gap_of w.open_from w.at, Some (Repeat w.at)) ++ cut_from (suc w.at) (replicate (suc w.at - suc w.at) false ++ apps)
rest_again w apps le =
    let none : zero ≡ suc w.at - suc w.at = omega arith in
    run_or_none w.open_from w.at (true ∷ apps) le (cut.again apps)
    ∙ ap (λ outs. given (gap_of w.open_from w.at, None) ++ (Repeat w.at ∷ outs)) (ap (λ k. cut_from (suc w.at) (replicate k false ++ apps)) none)
    ∙ split (gap_of w.open_from w.at) (Repeat w.at) _
  where
    split : (gap : Option Out) (out : Out) (outs : List Out) → given (gap, None) ++ (out ∷ outs) ≡ given (gap, Some out) ++ outs
    split None out outs = refl
    split (Some x) out outs = refl

-- another message, behind which some stand
pub rest_open : (w : WalkSeen) (apps : List Bool) → w.open_from ≤ w.at → rest_of w (false ∷ apps) ≡ cut_from w.open_from (replicate (suc w.at - w.open_from) false ++ apps)
rest_open w apps le =
    let size : suc (w.at - w.open_from) ≡ suc w.at - w.open_from = omega (arith, le) in
    ap (cut_from w.open_from) (joins (w.at - w.open_from) apps ∙ ap (λ k. replicate k false ++ apps) size)

-- the last message, which doesn't come again
pub rest_last : (w : WalkSeen) (apps : List Bool) → w.open_from ≤ w.at → length apps ≡ zero → rest_of w (false ∷ apps) ≡ given (gap_of w.open_from (suc w.at), None) ++ cut_from (suc w.at) (replicate (suc w.at - suc w.at) false ++ apps)
rest_last w [] le none =
    let some : w.open_from ≤ suc w.at = omega (arith, le) in
    let no : zero ≡ suc w.at - suc w.at = omega arith in
    rest_open w [] le ∙ run_or_none w.open_from (suc w.at) [] some cut.ends
    ∙ ap (λ k. given (gap_of w.open_from (suc w.at), None) ++ cut_from (suc w.at) (replicate k false ++ [])) no
rest_last w (app ∷ apps) le none = absurd (omega (arith, none))

-- ---- whole walks

abbrev pub Ends : WalkSeen → List Bool → List Out → WalkSeen → Type 0
Ends w apps outs end = (outs ≡ rest_of w apps) × (end.at ≡ suc w.to)

nothing_open : (w : WalkSeen) → w.open_from ≡ w.at → [] ≡ rest_of w []
nothing_open w e =
    let none : zero ≡ w.at - w.open_from = omega (arith, e) in
    ap (λ k. cut_from w.open_from (replicate k false ++ [])) none

pub ends : {w end : WalkSeen} {apps : List Bool} {outs : List Out} → Walked w apps outs end → length apps ≡ suc w.to - w.at → w.at ≤ suc w.to → (w.to < w.at → w.open_from ≡ w.at) → Ends w apps outs end
ends (walk.stays w) size le last =
    let past : w.to < w.at = omega (arith, size, le) in
    let at : w.at ≡ suc w.to = omega (arith, size, le) in
    (nothing_open w (last past), at)
ends (walk.goes {w = w} {mid = mid} {apps = apps} app gives some steps more) size le last =
    let at : mid.at ≡ suc w.at = steps.at in
    let to : mid.to ≡ w.to = steps.to in
    let rest : length apps ≡ w.to - w.at = omega (arith, size, some) in
    let left : length apps ≡ suc mid.to - mid.at = omega (arith, rest, at, to) in
    let within : mid.at ≤ suc mid.to = omega (arith, some, at, to) in
    let whole = ends more left within (λ past. (let now : w.at ≡ w.to = omega (arith, past, at, to, some) in steps.last now)) in
    (ap (λ outs. given gives ++ outs) whole.0 ∙ sym (steps.rest apps rest), whole.1 ∙ ap suc to)

pub whole_walk : (from to : ℕ) (apps : List Bool) (outs : List Out) (end : WalkSeen) → from ≤ to → length apps ≡ suc to - from → Walked (begun from to) apps outs end → (outs ≡ cut_from from apps) × (end.at ≡ suc to)
whole_walk from to apps outs end le size walked =
    let none : from - from ≡ zero = omega arith in
    let whole = ends walked size (omega (arith, le)) (λ past. refl) in
    (whole.0 ∙ ap (λ k. cut_from from (replicate k false ++ apps)) none, whole.1)

-- ---- each way out of a step

-- the number after this one, as the code writes it
after_step : (P : ℕ → Type 0) (n : ℕ) → P (suc n) → P (n + 1)
after_step P n p = let e : suc n ≡ n + 1 = omega arith in subst P e p

pub step_again : (w : WalkSeen) → w.open_from ≤ w.at → Steps w true (gap_of w.open_from w.at, Some (Repeat w.at)) (record { open_from = w.at + 1; at = w.at + 1; to = w.to })
step_again w le =
    after_step (λ n. Steps w true (gap_of w.open_from w.at, Some (Repeat w.at)) (record { open_from = n; at = n; to = w.to })) w.at
    (record { at = refl; to = refl; repeat = refl; rest = λ apps size. rest_again w apps le; last = λ end. refl })

pub step_open : (w : WalkSeen) → w.open_from ≤ w.at → w.at < w.to → Steps w false (None, None) (record { open_from = w.open_from; at = w.at + 1; to = w.to })
step_open w le more =
    after_step (λ n. Steps w false (None, None) (record { open_from = w.open_from; at = n; to = w.to })) w.at
    (record { at = refl; to = refl; repeat = refl; rest = λ apps size. rest_open w apps le; last = λ end. absurd (omega (arith, end, more)) })

pub step_last : (w : WalkSeen) → w.open_from ≤ w.at → w.to ≤ w.at → Steps w false (gap_of w.open_from (w.at + 1), None) (record { open_from = w.at + 1; at = w.at + 1; to = w.to })
step_last w le end =
    after_step (λ n. Steps w false (gap_of w.open_from n, None) (record { open_from = n; at = n; to = w.to })) w.at
    (record { at = refl; to = refl; repeat = refl; rest = λ apps size. (let none : length apps ≡ zero = omega (arith, size, end) in rest_last w apps le none); last = λ now. refl })
