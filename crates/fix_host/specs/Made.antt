-- How often a maker fails.
use Rattle.std.specs.Prelude.{ℕ, Result, Ok, Err}
use Rattle.fix_host.specs.declared.world.MakeFault.{MakeFault}
use Rattle.fix_host.specs.declared.world.MakeFault.TheVariants as make

abbrev pub fault_failures : MakeFault → ℕ
fault_failures make.Failed = 1
fault_failures make.OutOfMemory = 0

abbrev pub failures_with : {T : Type 0} → Result T MakeFault → ℕ
failures_with (Ok made) = 0
failures_with (Err fault) = fault_failures fault
