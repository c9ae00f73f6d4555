-- What an append comes to in a store.
use Rattle.std.specs.Prelude.{◌≡◌, ◌↔◌, ℕ, ◌+◌, ◌≤◌, true, false, List, [], ◌∷◌, ◌++◌, IsSome, IfSome, Result, Ok}
use Rattle.std.specs.Prelude.{Err, OnOk}
use Rattle.fix_base.specs.Trace.{Rises}
use Rattle.fix_disk.specs.Disk.{DiskSeen}
use Rattle.fix_disk.specs.Moments.{LeavesOnly}
use Rattle.fix_journal.specs.AtRest.{IsEither}
use Rattle.fix_journal.specs.Journal.{JournalSeen, Holds, Lasts}
use Rattle.fix_store.specs.declared.fault.StoreFault.{StoreFault}
use Rattle.fix_store.specs.declared.fault.StoreFault.TheVariants.{Stopped, NumbersSpent, OutOfMemory, DiskFault}
use Rattle.fix_store.specs.Store.{fault_of, store_failures}

-- what the journal is then
abbrev pub AppendAnswers : {D : Type 0} → Result ℕ StoreFault → JournalSeen D → JournalSeen D → Type 0
AppendAnswers (Ok index) old new = (index ≡ old.count) × (new.count ≡ old.count + 1) × (new.stopped ≡ false)
AppendAnswers (Err Stopped) old new = ⊥
AppendAnswers (Err NumbersSpent) old new = ⊥
AppendAnswers (Err OutOfMemory) old new = new ≡ old
AppendAnswers (Err DiskFault) old new = (new.count ≡ old.count) × (new.stopped ≡ true)

-- what it does to the disk
pub record Appends (answer : Result ℕ StoreFault) (payload : List ℕ) (old new : DiskSeen) : Type 0 where
  pub kept : OnOk answer ((payloads : List (List ℕ)) → Holds old payloads → Holds new (payloads ++ payload ∷ [])
      × Lasts new (payloads ++ payload ∷ []))
  pub as_read : (payloads : List (List ℕ)) → Holds old payloads → IfSome new.bytes (IsEither payloads payload)
  pub any_moment : (payloads : List (List ℕ)) → Holds old payloads → LeavesOnly old new (IsEither payloads payload)
  pub now : (payloads : List (List ℕ)) → Holds old payloads → new.TellsImages → (c : List ℕ) → new.image c
      → IsEither payloads payload c
  pub tells_bytes : IsSome new.bytes ↔ IsSome old.bytes
  pub tells_images : new.TellsImages ↔ old.TellsImages
  pub cause : Rises (store_failures (fault_of answer)) old.faults new.faults
  pub calls : IsSome old.bytes → new.clock ≤ old.clock + 4
