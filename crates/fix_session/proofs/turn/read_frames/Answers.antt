use Rattle.std.proofs.Common.{ℕ, arith, length-take}
use Rattle.fix_outside.proofs.CallLemmas.{Called-append}
use Rattle.fix_session.specs.Turn.{bytes, idle, over, read_lost, read_memory}
use Rattle.fix_session.proofs.turn.read_frames.Goals as goal

pub returns-in-Bytes-clause-calls : goal.returns-in-Bytes-clause-calls
returns-in-Bytes-clause-calls g c =
    let h = c.feed.ensures.calls in
    let k = c.in-Bytes.ensures in (
      _,
      Called-append _ _ _ _ _ k.called h.1,
      bytes _ (omega (arith, length-take {A = ℕ}, k.in_room, k.room)) (omega (arith, length-take {A = ℕ}, k.in_room, k.room)) h.2,
    )

pub returns-in-Idle-clause-calls : goal.returns-in-Idle-clause-calls
returns-in-Idle-clause-calls g c = (_, c.in-Idle.ensures.called, idle)

pub returns-in-End-clause-calls : goal.returns-in-End-clause-calls
returns-in-End-clause-calls g c = (_, c.in-End.ensures.called, over)

pub returns-in-Failed-clause-calls : goal.returns-in-Failed-clause-calls
returns-in-Failed-clause-calls g c = (_, c.in-Failed.ensures.called, read_lost)

pub returns-in-OutOfMemory-clause-calls : goal.returns-in-OutOfMemory-clause-calls
returns-in-OutOfMemory-clause-calls g c = (_, c.in-OutOfMemory.ensures.called, read_memory)
