-- What a write with a sync after it does to a disk.
use Rattle.std.specs.Prelude.{◌≡◌, ◌↔◌, ℕ, ◌+◌, ◌≤◌, List, length, Some, IsSome, IfSome, Result, OnOk}
use Rattle.fix_base.specs.Trace.{Rises}
use Rattle.fix_disk.specs.Disk.{DiskSeen, Torn, Only, overwritten, failures}
use Rattle.fix_disk.specs.Moments.{LeavesOnly}
use Rattle.fix_disk.specs.declared.disk.DiskFailed.{DiskFailed}

-- what a crash had left, with the range torn
abbrev pub TornFrom : DiskSeen → ℕ → List ℕ → List ℕ → Type 0
TornFrom old at bytes c = (d : List ℕ) × old.image d × Torn at (length bytes) d c

pub record WritesSynced {T : Type 0} (answer : Result T DiskFailed) (at : ℕ) (bytes : List ℕ)
    (old new : DiskSeen) : Type 0 where
  pub file : OnOk answer (IfSome old.bytes (λ file. new.bytes ≡ Some (overwritten at bytes file)))
  pub durable : OnOk answer (new.TellsImages → IfSome new.bytes (λ file. Only file new.image))
  -- what is read after it, whatever was answered
  pub as_read : IfSome old.bytes (λ file. IfSome new.bytes (Torn at (length bytes) file))
  pub tells_bytes : IsSome new.bytes ↔ IsSome old.bytes
  pub tells_images : new.TellsImages ↔ old.TellsImages
  pub now : new.TellsImages → (c : List ℕ) → new.image c → TornFrom old at bytes c
  pub moments : LeavesOnly old new (TornFrom old at bytes)
  pub cause : Rises (failures answer) old.faults new.faults
  pub calls : IsSome old.bytes → new.clock ≤ old.clock + 2
