use Rattle.fix_stage.specs.Combine.{goes_well, fails}
use Rattle.fix_session.proofs.KeptLemmas.{fault_kept}
use Rattle.fix_session.proofs.turn.settle_all.Goals as goal

pub returns-in-Ok-clause-calls : goal.returns-in-Ok-clause-calls
returns-in-Ok-clause-calls g c =
    let h = c.in-Ok.ensures.calls in
    (h.0, h.1, goes_well h.2)

pub returns-in-Err-clause-calls : goal.returns-in-Err-clause-calls
returns-in-Err-clause-calls g c =
    let h = c.in-Err.ensures.calls in
    rw c.ending_of.ensures (h.0, h.1, fails h.2)

pub returns-in-Err-clause-kept : goal.returns-in-Err-clause-kept
returns-in-Err-clause-kept g c = rw c.ending_of.ensures (fault_kept _ c.args.state.now _ c.in-Err.ensures.settled)
