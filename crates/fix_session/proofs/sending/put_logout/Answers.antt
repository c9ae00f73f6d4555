use Rattle.std.proofs.lemmas.Result.{err_from_is_err_and}
use Rattle.fix_outside.proofs.CallLemmas.{Called-append}
use Rattle.fix_machine.specs.Event as events
use Rattle.fix_stage.specs.Combine.{first_ends, both, goes_well, fails}
use Rattle.fix_stage.specs.Flush.{Flushed}
use Rattle.fix_session.specs.Send.{tells}
use Rattle.fix_session.proofs.SendLemmas.{by_sender}
use Rattle.fix_session.proofs.SoundLemmas.{decides_other}
use Rattle.fix_session.proofs.sending.put_logout.Goals as goal

pub returns-in_err-stage_said-clause-sound : goal.returns-in_err-stage_said-clause-sound
returns-in_err-stage_said-clause-sound g c =
    let p = err_from_is_err_and c.from_residual.result c.from_residual.ensures.1 in
    let s = c.requires.sound in
    rw (p.1, p.2) (record { sender = c.in_err-stage_said.ensures.ready; bounded = s.bounded; waiting = s.waiting; version = s.version })

pub returns-in_err-stage_said-clause-calls : goal.returns-in_err-stage_said-clause-calls
returns-in_err-stage_said-clause-calls g c =
    let p = err_from_is_err_and c.from_residual.result c.from_residual.ensures.1 in
    let h = c.in_err-stage_said.ensures.calls in
    rw (p.1, p.2) (h.0, h.1, first_ends (fails h.2))

pub returns-clause-sound : goal.returns-clause-sound
returns-clause-sound g c =
    let s = c.requires.sound in
    let d = (decides_other _ _ _ _ (events.Leave _) s tt).sound in
    rw (c.decide.ensures.next _ (events.leaves _)) (record { sender = c.flush.ensures.ready; bounded = d.bounded; waiting = s.waiting; version = s.version })

pub returns-clause-calls : goal.returns-clause-calls
returns-clause-calls g c =
    let h = c.in_ok-stage_said.ensures.calls in
    let k = c.flush.ensures.calls in
    rw (c.decide.ensures.next _ (events.leaves _)) (_, Called-append _ _ _ _ _ h.1 k.1, both (goes_well h.2) (both tells (by_sender (Flushed 0) _ _ _ _ k.2)))
