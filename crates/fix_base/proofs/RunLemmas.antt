-- Runs of an end.
use Rattle.std.proofs.Common.{◌≡◌, refl, subst, List, [], ◌∷◌, ◌++◌}
use Rattle.fix_base.specs.End.{Record, End, folded, folded_all}
use Rattle.fix_base.specs.Act.{Act}
use Rattle.fix_base.specs.Session.{Identity}
use Rattle.fix_base.specs.EndStep as steps
use Rattle.fix_base.specs.EndStep.{EndState, EndStep, EndRun, RunsSomewhere}

front_of : {id : Identity} (s s' : EndState) (xs ys : List Act) {acts : List Act} → EndRun id s acts s' → acts ≡ xs ++ ys → RunsSomewhere id s xs
front_of s s' [] ys d e = record { to = s; run = steps.stop }
front_of s s' (x ∷ xs) ys steps.stop e = cc
front_of {id = id} s s' (x ∷ xs) ys (steps.step {mid = mid} {a = a} {acts = acts} one d) e =
    let same : a ≡ x = cc in
    let others : acts ≡ xs ++ ys = cc in
    let front = front_of mid s' xs ys d others in
    record { to = front.to; run = steps.step (subst (λ b. EndStep id s b mid) same one) front.run }
front_of s s' (x ∷ xs) ys (steps.move {mid = mid} m d) e =
    let front = front_of mid s' (x ∷ xs) ys d e in
    record { to = front.to; run = steps.move m front.run }

-- a front of a run is a run
pub front_runs : (id : Identity) (s s' : EndState) (xs ys : List Act) → EndRun id s (xs ++ ys) s' → RunsSomewhere id s xs
front_runs id s s' xs ys d = front_of s s' xs ys d refl

-- a run goes on
pub EndRun-append : {id : Identity} {s mid s' : EndState} {xs ys : List Act} → EndRun id s xs mid → EndRun id mid ys s' → EndRun id s (xs ++ ys) s'
EndRun-append steps.stop d = d
EndRun-append (steps.step one others) d = steps.step one (EndRun-append others d)
EndRun-append (steps.move m others) d = steps.move m (EndRun-append others d)

-- records in two parts
pub folded_all-append : (e : End) (xs ys : List Record) → folded_all e (xs ++ ys) ≡ folded_all (folded_all e xs) ys
folded_all-append e [] ys = refl
folded_all-append e (r ∷ xs) ys = folded_all-append (folded e r) xs ys
