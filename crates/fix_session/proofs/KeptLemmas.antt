-- The expected number is the one that is kept.
use Rattle.std.proofs.Common.{◌≡◌, ℕ, List, Bool, true, false, Result, Ok, Err, refl}
use Rattle.std.specs.Prelude.{⊤}
use Rattle.fix_outside.specs.Calls.{Call}
use Rattle.fix_stage.specs.declared.sender.Sender.{Sender}
use Rattle.fix_stage.specs.declared.fault.StageFault.{StageFault}
use Rattle.fix_stage.specs.declared.fault.StageFault.TheVariants as fault
use Rattle.fix_stage.specs.Flush.{IsSettled}
use Rattle.fix_steps.specs.declared.ending.Ending.{Ending}
use Rattle.fix_steps.specs.declared.ending.Ending.TheVariants as ending
use Rattle.fix_steps.specs.Ending.{ending_of}
use Rattle.fix_session.specs.State.{State, with_sender}
use Rattle.fix_session.specs.Turn.{IsKept, settles_of, left, Leaves, not_cut, is_cut, cut_memory}

-- a fault of the last part
pub fault_kept : (f : StageFault) (s : State) (b : Sender) → IsSettled (Err f) b → IsKept (Err (ending_of f)) (with_sender s b)
fault_kept fault.NumbersSpent s b h = tt
fault_kept fault.OutOfMemory s b h = tt
fault_kept fault.StoreFault s b h = tt
fault_kept fault.LinkFault s b h = h

-- however the rest ended
pub any_kept : (r : Result ⊤ Ending) (s : State) → s.sender.numbers.stored_expected ≡ s.sender.numbers.expected → IsKept r s
any_kept (Ok x) s h = h
any_kept (Err (ending.Closed why)) s h = h
any_kept (Err ending.LinkFault) s h = h
any_kept (Err ending.AppFault) s h = h
any_kept (Err ending.StoreFault) s h = tt
any_kept (Err ending.NumbersSpent) s h = tt
any_kept (Err ending.OutOfMemory) s h = tt

pub none_kept : (r : Result ⊤ Ending) (s : State) → settles_of r ≡ false → IsKept r s
none_kept (Ok x) s h = cc
none_kept (Err (ending.Closed why)) s h = cc
none_kept (Err ending.LinkFault) s h = cc
none_kept (Err ending.AppFault) s h = cc
none_kept (Err ending.StoreFault) s h = tt
none_kept (Err ending.NumbersSpent) s h = tt
none_kept (Err ending.OutOfMemory) s h = tt

left_kept : (e : Ending) (s : State) → IsKept (Err e) s → IsKept (Err e) (left s)
left_kept (ending.Closed why) s h = h
left_kept ending.LinkFault s h = h
left_kept ending.AppFault s h = h
left_kept ending.StoreFault s h = tt
left_kept ending.NumbersSpent s h = tt
left_kept ending.OutOfMemory s h = tt

pub ends_kept : (e : Ending) (cut : Bool) (s to : State) (calls : List Call) → Leaves s cut calls (Ok tt) to → IsKept (Err e) s → IsKept (Err e) to
ends_kept e cut s to calls not_cut h = left_kept e s h
ends_kept e cut s to calls is_cut h = left_kept e s h

pub short_kept : (f : Ending) (cut : Bool) (s to : State) (calls : List Call) → Leaves s cut calls (Err f) to → IsKept (Err f) to
short_kept f cut s to calls (cut_memory why) = tt
