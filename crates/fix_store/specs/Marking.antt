-- What adding the mark of version 2 to a file comes to.
use Rattle.std.specs.Prelude.{◌≡◌, ℕ, true, false, List, [], ◌∷◌, ◌++◌, Option, None, Some, Result, Ok, Err}
use Rattle.std.specs.Prelude.{IfOk}
use Rattle.fix_disk.specs.Disk.{DiskSeen}
use Rattle.fix_disk.specs.Moments.{NeedsRoom}
use Rattle.fix_journal.specs.Format.{file_size}
use Rattle.fix_journal.specs.Journal.{JournalSeen, Holds}
use Rattle.fix_journal.specs.declared.fault.OpenFault.{OpenFault}
use Rattle.fix_journal.specs.declared.fault.OpenFault.TheVariants as open_fault
use Rattle.fix_store.specs.declared.changing.Change.TheVariants as change
use Rattle.fix_store.specs.declared.fault.StoreFault.{StoreFault}
use Rattle.fix_store.specs.declared.fault.StoreFault.TheVariants.{Stopped, NumbersSpent, OutOfMemory, DiskFault}
use Rattle.fix_store.specs.Spelling.{MARK}
use Rattle.fix_store.specs.Store.{fault_of, store_failures}
use Rattle.fix_store.specs.Keeping.{AppendAnswers, Appends}
use Rattle.fix_store.specs.Folding.{Fold, fold_with}

-- as a fault of an opening
abbrev pub adding_fault : Result ℕ StoreFault → Option OpenFault
adding_fault (Ok index) = None
adding_fault (Err Stopped) = None
adding_fault (Err NumbersSpent) = None
adding_fault (Err OutOfMemory) = Some open_fault.OutOfMemory
adding_fault (Err DiskFault) = Some open_fault.DiskFault

-- the mark is appended
pub record Adds {D : Type 0} (disk : D → DiskSeen) (fault : Option OpenFault) (f g : Fold)
    (old new : JournalSeen D) : Type 0 where
  pub answer : Result ℕ StoreFault
  pub is : fault ≡ adding_fault answer
  pub answers : AppendAnswers answer old new
  pub moves : Appends answer MARK (disk old.disk) (disk new.disk)
  pub room : (disk new.disk).room ≡ (disk old.disk).room
  pub need : (payloads : List (List ℕ)) → Holds (disk old.disk) payloads
      → NeedsRoom (store_failures (fault_of answer)) (file_size (payloads ++ MARK ∷ [])) (disk old.disk) (disk new.disk)
  pub fold : IfOk answer (λ index. g ≡ fold_with index f change.Mark)

-- where it isn't there yet
pub record Marks {D : Type 0} (disk : D → DiskSeen) (fault : Option OpenFault) (f g : Fold)
    (old new : JournalSeen D) : Type 0 where
  pub was : f.marked ≡ true → (fault ≡ None) × (new ≡ old) × (g ≡ f)
  pub added : f.marked ≡ false → Adds disk fault f g old new
