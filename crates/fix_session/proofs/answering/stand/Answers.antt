use Rattle.std.proofs.lemmas.Result.{err_from_is_err_and}
use Rattle.fix_outside.proofs.CallLemmas.{Called-nil, Called-append}
use Rattle.fix_stage.specs.Combine.{first_ends, both, goes_well, fails}
use Rattle.fix_session.specs.Answering.{stood}
use Rattle.fix_session.proofs.answering.stand.Goals as goal

pub returns-in_err-carry_out-clause-sound : goal.returns-in_err-carry_out-clause-sound
returns-in_err-carry_out-clause-sound g c =
    let p = err_from_is_err_and c.from_residual.result c.from_residual.ensures.1 in
    let s = c.requires.sound in
    rw (p.1, p.2) (record { sender = c.in_err-carry_out.ensures.ready; bounded = s.bounded; waiting = s.waiting; version = s.version })

pub returns-in_err-carry_out-clause-calls : goal.returns-in_err-carry_out-clause-calls
returns-in_err-carry_out-clause-calls g c =
    let p = err_from_is_err_and c.from_residual.result c.from_residual.ensures.1 in
    let h = c.in_err-carry_out.ensures.calls in
    rw (p.1, p.2) (h.0, h.1, first_ends (fails h.2))

pub returns-clause-sound : goal.returns-clause-sound
returns-clause-sound g c =
    let s = c.requires.sound in
    record { sender = c.in_ok-carry_out.ensures.ready; bounded = s.bounded; waiting = s.waiting; version = s.version }

pub returns-clause-calls : goal.returns-clause-calls
returns-clause-calls g c =
    let h = c.in_ok-carry_out.ensures.calls in
    rw c.state.ensures (_, Called-append _ _ _ _ _ h.1 (Called-nil _), both (goes_well h.2) stood)
