-- What is done of a part of a turn's work is done of the whole.
use Rattle.std.proofs.Common.{List, Result, Ok, Err}
use Rattle.std.specs.Prelude.{⊤}
use Rattle.fix_outside.specs.Calls.{Call}
use Rattle.fix_stage.specs.Combine.{goes_well, fails}
use Rattle.fix_steps.specs.declared.ending.Ending.{Ending}
use Rattle.fix_session.specs.State.{State}
use Rattle.fix_session.specs.Work.{WorkSeen, with_state}
use Rattle.fix_session.specs.Turn.{Beside}

pub beside : (R : State → List Call → Result ⊤ Ending → State → Type 0) (w : WorkSeen) (calls : List Call) (r : Result ⊤ Ending) (s : State)
    → R w.state calls r s → Beside R w calls r (with_state w s)
beside R w calls (Ok x) s h = goes_well h
beside R w calls (Err e) s h = fails h
