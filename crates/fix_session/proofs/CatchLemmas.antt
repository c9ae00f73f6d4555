-- The frames that wait, one after another.
use Rattle.std.proofs.Common.{◌≡◌, ℕ, List, [], Some, None, Ok, Err}
use Rattle.fix_base.specs.declared.identity.Identity.{Identity}
use Rattle.fix_base.specs.Trace.{OutsideSeen}
use Rattle.fix_outside.specs.Calls.{HasCalls}
use Rattle.fix_outside.proofs.CallLemmas.{Called-nil}
use Rattle.fix_steps.specs.declared.ending.Ending.{Ending}
use Rattle.fix_session.specs.Judged.{RulesSeen}
use Rattle.fix_session.specs.State.{State}
use Rattle.fix_session.specs.Waits.{due_frame, passed, rests, stops, goes_on}
use Rattle.fix_session.specs.Answering.{OneWaiting, CatchesUp}
use Rattle.fix_session.proofs.Begun.{Begun, begin, on, end_of}

-- what is still to be done of the frames that wait
abbrev pub Left : (id : Identity) (rules : RulesSeen) (s : State) (from to : OutsideSeen) (mid : State) → Type 0
Left id rules s from to mid = Begun (CatchesUp id rules s) (CatchesUp id rules) from to mid

pub start : (id : Identity) (rules : RulesSeen) (s : State) (w : OutsideSeen) → Left id rules s w w s
start id rules s w = begin (CatchesUp id rules s) (CatchesUp id rules) w s (λ more r t e. e)

pub one_more : (id : Identity) (rules : RulesSeen) (l : State) (a b c : OutsideSeen) (s mid : State) (frame : List ℕ) →
    Left id rules l a b s → due_frame s ≡ Some frame →
    HasCalls b c (λ calls. OneWaiting id rules (passed s) frame calls (Ok tt) mid) → Left id rules l a c mid
one_more id rules l a b c s mid frame before due step =
    on (CatchesUp id rules l) (CatchesUp id rules) a b c s mid before (step.0, step.1, λ more r t e. goes_on frame due step.2 e)

pub ended : (id : Identity) (rules : RulesSeen) (l : State) (a b c : OutsideSeen) (s s' : State) (frame : List ℕ) (e : Ending) →
    Left id rules l a b s → due_frame s ≡ Some frame →
    HasCalls b c (λ calls. OneWaiting id rules (passed s) frame calls (Err e) s') →
    HasCalls a c (λ calls. CatchesUp id rules l calls (Err e) s')
ended id rules l a b c s s' frame e before due step =
    end_of (CatchesUp id rules l) (CatchesUp id rules) a b c s s' (Err e) before (step.0, step.1, stops frame due step.2)

pub all_done : (id : Identity) (rules : RulesSeen) (l : State) (a b : OutsideSeen) (s : State) → Left id rules l a b s →
    due_frame s ≡ None → HasCalls a b (λ calls. CatchesUp id rules l calls (Ok tt) (passed s))
all_done id rules l a b s before none =
    end_of (CatchesUp id rules l) (CatchesUp id rules) a b b s (passed s) (Ok tt) before ([], Called-nil b, rests none)
