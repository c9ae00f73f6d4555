-- What `begin` comes to.
use Rattle.std.proofs.Common.{ℕ, List, Ok, Err}
use Rattle.std.specs.Prelude.{None}
use Rattle.fix_base.specs.declared.entry.Stored.{Stored}
use Rattle.fix_base.specs.Trace.{Note, OutsideSeen, Trace}
use Rattle.fix_outside.specs.declared.outside.LoadFault.{LoadFault}
use Rattle.fix_outside.specs.declared.outside.LoadFault.TheVariants as load
use Rattle.fix_outside.specs.Outside.{loads}
use Rattle.fix_engine.specs.declared.stop.BeginFault.{BeginFault}
use Rattle.fix_engine.specs.Run.{SessionSeen, Opens, opened, no_reading, not_opened, BeginsTo, opened_to, no_memory}
use Rattle.fix_engine.specs.Run.{no_memory_to_open, stopped_for_memory, begun, LoadHasCause}

pub begins_ok : {T : Type 0} (old : SessionSeen) (x : T) (t : ℕ) (notes : List Note) → Opens (Ok t) notes →
    BeginsTo old (Ok x) (record { identity = old.identity; connection = begun old.connection t; pending = old.pending; stopped = None })
    notes
begins_ok old x t notes (opened u) = opened_to u

pub begins_err : {T : Type 0} (old : SessionSeen) (fault : BeginFault) (notes : List Note) → Opens (Err fault) notes →
    BeginsTo {T = T} old (Err fault) (stopped_for_memory old) notes
begins_err old fault notes no_reading = no_memory
begins_err old fault notes (not_opened t) = no_memory_to_open t

-- a store is blamed where it failed
pub load_cause : (T : Type 0) (fault : LoadFault) (a b : OutsideSeen) → Trace a b (loads {T = Stored} (Err fault)) →
    LoadHasCause {T = T} (Err fault) a.faults b.faults
load_cause T load.Failed a b m = m.faults.store
load_cause T (load.Damaged place) a b m = tt
load_cause T load.OutOfMemory a b m = tt
