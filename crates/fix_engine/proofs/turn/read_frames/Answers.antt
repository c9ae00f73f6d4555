use Rattle.std.proofs.Common.{ℕ, arith, length-take}
use Rattle.fix_base.proofs.SeenLemmas.{Trace-append}
use Rattle.fix_engine.specs.Reading.{idle, over, read_lost, read_memory}
use Rattle.fix_engine.specs.Turn.{beside}
use Rattle.fix_engine.proofs.EndedLemmas.{beside_bytes}
use Rattle.fix_engine.proofs.turn.read_frames.Goals as goal

pub returns-in-Bytes-clause-notes : goal.returns-in-Bytes-clause-notes
returns-in-Bytes-clause-notes g c =
    let h = c.feed.ensures.notes in
    let k = c.in-Bytes.ensures in (
      _,
      Trace-append _ _ _ _ _ k.noted h.1,
      beside_bytes _ _ _ _ _ _ (omega (arith, length-take {A = ℕ}, k.in_room, k.room))
          (omega (arith, length-take {A = ℕ}, k.in_room, k.room)) h.2,
    )

pub returns-in-Idle-clause-notes : goal.returns-in-Idle-clause-notes
returns-in-Idle-clause-notes g c = (_, c.in-Idle.ensures.noted, beside idle)

pub returns-in-End-clause-notes : goal.returns-in-End-clause-notes
returns-in-End-clause-notes g c = (_, c.in-End.ensures.noted, beside over)

pub returns-in-Failed-clause-notes : goal.returns-in-Failed-clause-notes
returns-in-Failed-clause-notes g c = (_, c.in-Failed.ensures.noted, beside read_lost)

pub returns-in-OutOfMemory-clause-notes : goal.returns-in-OutOfMemory-clause-notes
returns-in-OutOfMemory-clause-notes g c = (_, c.in-OutOfMemory.ensures.noted, beside read_memory)
