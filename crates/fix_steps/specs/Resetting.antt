-- Keeping that both lists of numbers begin anew, and that a reset which was asked for is answered.
use Rattle.std.specs.Prelude.{List, [], ◌∷◌, Result, Ok, Err, ⊤}
use Rattle.fix_base.specs.declared.entry.Record.TheVariants.{Reset, Confirm}
use Rattle.fix_outside.specs.declared.outside.KeepFault.TheVariants as keep
use Rattle.fix_outside.specs.Calls.{Call, Keep}
use Rattle.fix_stage.specs.declared.sender.Numbers.{Numbers}
use Rattle.fix_stage.specs.declared.sender.Sender.{Sender}
use Rattle.fix_stage.specs.Sender.{with_numbers}
use Rattle.fix_steps.specs.declared.ending.Ending.{Ending}
use Rattle.fix_steps.specs.declared.ending.Ending.TheVariants as ending

-- number 1 is expected, and kept as that, and the next message takes number 1
abbrev pub numbers_reset : Numbers → Numbers
numbers_reset n = record {
  expected = 1;
  stored_expected = 1;
  last = 0;
  reading = n.reading;
}

-- A reset is kept, with the time of the last reading: both lists of numbers begin anew. Where it isn't, the session
-- stays as it was
pub data Resetting (b : Sender) : List Call → Result ⊤ Ending → Sender → Type 0 where
  reset_kept : Resetting b (Keep (Reset b.numbers.reading) (Ok tt) ∷ []) (Ok tt)
      (with_numbers b (numbers_reset b.numbers))
  reset_lost : Resetting b (Keep (Reset b.numbers.reading) (Err keep.Failed) ∷ []) (Err ending.StoreFault) b
  reset_memory : Resetting b (Keep (Reset b.numbers.reading) (Err keep.OutOfMemory) ∷ [])
      (Err ending.OutOfMemory) b

-- that the counterparty answered a reset which this end asked for is kept. The numbers began anew when it asked
pub data Confirming (b : Sender) : List Call → Result ⊤ Ending → Sender → Type 0 where
  confirm_kept : Confirming b (Keep Confirm (Ok tt) ∷ []) (Ok tt) b
  confirm_lost : Confirming b (Keep Confirm (Err keep.Failed) ∷ []) (Err ending.StoreFault) b
  confirm_memory : Confirming b (Keep Confirm (Err keep.OutOfMemory) ∷ []) (Err ending.OutOfMemory) b
