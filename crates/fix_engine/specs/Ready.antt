-- What each stage of the engine is called with, and what it leaves.
use Rattle.std.specs.Prelude.{◌≡◌, ℕ, Option}
use Rattle.fix_base.specs.declared.identity.Identity.{Identity}
use Rattle.fix_base.specs.Session.{IsValidIdentity}
use Rattle.fix_base.specs.Trace.{OutsideSeen}
use Rattle.fix_engine.specs.State.{State, IsInRange}

-- The identity is valid, the session's numbers are in range, and the store is open with so many entries, if
-- it is open. Before a stage these are the session's; after it `open_behind` and `open_sent` say how many
-- there are.
pub record IsReady (id : Identity) (w : OutsideSeen) (open_at : Option ℕ) (s : State) : Type 0 where
  pub valid : IsValidIdentity id
  pub range : IsInRange s
  pub opens : w.open_at ≡ open_at
