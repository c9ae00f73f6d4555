-- What the keeping of a draft comes to.
use Rattle.std.proofs.Common.{◌≢◌, ℕ, List, Result, Ok, Err}
use Rattle.fix_base.specs.declared.identity.Identity.{Identity}
use Rattle.fix_base.specs.Trace.{Note}
use Rattle.fix_fields.specs.Drafted.{DraftText}
use Rattle.fix_engine.specs.State.{State, Up}
use Rattle.fix_engine.specs.declared.stop.SendFault.{SendFault}
use Rattle.fix_engine.specs.Drafted as drafted
use Rattle.fix_engine.specs.Drafted.{KeepsDraft, Drafting}

-- what isn't kept isn't written
pub unsent : (id : Identity) (d : DraftText) (s s' : State) (notes : List Note) (why : SendFault) →
    KeepsDraft d s notes (Err why) s' → Drafting id d s notes (Err why) s'
unsent id d s s' notes why drafted.unkept = drafted.no_memory
unsent id d s s' notes why (drafted.kept_lost is) = drafted.lost (drafted.kept_lost is)

-- in a phase other than Up nothing is written
pub not_up : (id : Identity) (d : DraftText) (s s' : State) (notes : List Note) (r : Result ℕ SendFault) →
    s.phase ≢ Up → KeepsDraft d s notes r s' → Drafting id d s notes r s'
not_up id d s s' notes (Ok n) other k = drafted.stored other k
not_up id d s s' notes (Err why) other k = unsent id d s s' notes why k
