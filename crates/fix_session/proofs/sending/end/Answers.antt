use Rattle.fix_outside.proofs.CallLemmas.{Called-nil}
use Rattle.fix_session.specs.Send.{stays_connected, leaves, leaves_short}
use Rattle.fix_session.proofs.SendLemmas.{left_ok, left_short}
use Rattle.fix_session.proofs.sending.end.Goals as goal

pub returns-in_default-clause-calls : goal.returns-in_default-clause-calls
returns-in_default-clause-calls g c = rw c.in_default.is (_, Called-nil _, stays_connected)

pub returns-in-Ok-clause-sound : goal.returns-in-Ok-clause-sound
returns-in-Ok-clause-sound g c =
    left_ok _ _ _ _ _ _ _ (rw (c.is_cut.ensures, c.ending_of.ensures) at c.in-Ok.ensures.calls.2) c.in-Ok.ensures.opens (rw c.in-Err.is at c.requires.sound)

pub returns-in-Ok-clause-calls : goal.returns-in-Ok-clause-calls
returns-in-Ok-clause-calls g c =
    let h = rw (c.is_cut.ensures, c.ending_of.ensures) at c.in-Ok.ensures.calls in
    rw c.in-Err.is (h.0, h.1, leaves _ h.2)

pub returns-in-Err-leave-clause-sound : goal.returns-in-Err-leave-clause-sound
returns-in-Err-leave-clause-sound g c =
    left_short _ _ _ _ _ _ _ _ (rw (c.is_cut.ensures, c.ending_of.ensures) at c.in-Err-leave.ensures.calls.2) c.in-Err-leave.ensures.opens (rw c.in-Err.is at c.requires.sound)

pub returns-in-Err-leave-clause-calls : goal.returns-in-Err-leave-clause-calls
returns-in-Err-leave-clause-calls g c =
    let h = rw (c.is_cut.ensures, c.ending_of.ensures) at c.in-Err-leave.ensures.calls in
    rw c.in-Err.is (h.0, h.1, leaves_short _ _ h.2)
