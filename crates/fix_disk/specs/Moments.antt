-- Of several calls: what a crash at any moment of them leaves, and when they may fail.
use Rattle.std.specs.Prelude.{◌≡◌, ◌⊎◌, ℕ, ◌≤◌, List}
use Rattle.fix_disk.specs.Disk.{DiskSeen, MayFail}

-- A crash at any moment from old on leaves what has P.
pub record LeavesOnly (old new : DiskSeen) (P : List ℕ → Type 0) : Type 0 where
  pub told : new.TellsPast → old.TellsPast
  pub later : new.TellsPast → old.clock ≤ new.clock
  pub each : new.TellsPast → (c : List ℕ) → new.image_since old.clock c → P c
  -- for a run that began earlier
  pub before : new.TellsPast → (t : ℕ) (c : List ℕ) → t ≤ old.clock → new.image_since t c → old.image_since t c ⊎ P c

-- The room stays, and a disk that tells it failed only where so much was needed.
pub record NeedsRoom (failed end : ℕ) (old new : DiskSeen) : Type 0 where
  pub same : new.room ≡ old.room
  pub need : 1 ≤ failed → MayFail old.room end
