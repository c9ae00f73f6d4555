-- What the opening of a store finds in its file, and does to it.
use Rattle.std.specs.Prelude.{◌≡◌, ◌⊎◌, ◌↔◌, ℕ, List, [], ◌∷◌, ◌++◌, false, if◌then◌else◌, Option, Some}
use Rattle.std.specs.Prelude.{None, IsSome, IfSome, ⊤}
use Rattle.fix_base.specs.End.{End}
use Rattle.fix_base.specs.Trace.{Rises}
use Rattle.fix_disk.specs.Disk.{DiskSeen}
use Rattle.fix_disk.specs.Moments.{LeavesOnly}
use Rattle.fix_journal.specs.declared.fault.OpenFault.{OpenFault}
use Rattle.fix_journal.specs.declared.fault.OpenFault.TheVariants.{DiskFault, Damaged, OutOfMemory}
use Rattle.fix_journal.specs.Format.{IsMade}
use Rattle.fix_journal.specs.Opening.{open_failures}
use Rattle.fix_store.specs.Spelling.{Item, marks}
use Rattle.fix_store.specs.Reading.{new_content, taken_all, IsStoreOf, HasEnd, IsBrokenAt}
use Rattle.fix_store.specs.Finding.{StandsIn}
use Rattle.fix_store.specs.Store.{StoreSeen, TellsEnd, HoldsEnd, LastsEnd}

-- with the mark of version 2, at the end of a file that has none
abbrev pub marked_items : List Item → List Item
marked_items items = if (taken_all new_content items).marked then items else items ++ marks ∷ []

-- the disk tells a file with these items
abbrev pub HoldsItems : DiskSeen → List Item → Type 0
HoldsItems seen items = (file : List ℕ) × (seen.bytes ≡ Some file) × IsStoreOf file items

-- where the disk tells its file, the entry of this number is one of the record of this index
abbrev pub StandsAt : DiskSeen → ℕ → ℕ → Type 0
StandsAt seen number index = (items : List Item) → HoldsItems seen items
    → StandsIn items (taken_all new_content items).end.out number index

-- a store that was opened has the end of the file as it was read at first, and a crash leaves it; its file has
-- what that file had, and the mark
pub record IsOpened {D : Type 0} (disk : D → DiskSeen) (old : DiskSeen) (store : StoreSeen D) : Type 0 where
  pub goes_on : store.stopped ≡ false
  pub end : IfSome old.bytes
      (λ file. (e : End) × HasEnd file e × TellsEnd store.stored store.withheld e × HoldsEnd (disk store.disk) e
      × LastsEnd (disk store.disk) e)
  pub marked : IfSome old.bytes
      (λ file. (items : List Item) × IsStoreOf file items × HoldsItems (disk store.disk) (marked_items items))

-- a file is damaged at the first place at which it breaks
abbrev pub IsCause : OpenFault → List ℕ → Type 0
IsCause DiskFault file = ⊤
IsCause (Damaged place) file = IsBrokenAt file place
IsCause OutOfMemory file = ⊤

-- what a crash may leave of a store that is being opened: what it might have left before, or a file with the
-- end of the one that was read at first
abbrev pub IsLeftByOpening : DiskSeen → List ℕ → Type 0
IsLeftByOpening old c = old.image c ⊎ ((e : End) × HoldsEnd old e × HasEnd c e)

-- the same file, or one with the same end
abbrev pub HasSameEnd : List ℕ → List ℕ → Type 0
HasSameEnd file now = (now ≡ file) ⊎ ((e : End) × HasEnd file e × HasEnd now e)

-- one that is refused for another cause than the disk leaves a made file as it is
abbrev pub StaysWhereRefused : Option OpenFault → DiskSeen → DiskSeen → Type 0
StaysWhereRefused None old new = ⊤
StaysWhereRefused (Some DiskFault) old new = ⊤
StaysWhereRefused (Some (Damaged place)) old new = IfSome old.bytes (λ file. IsMade file → new.bytes ≡ old.bytes)
StaysWhereRefused (Some OutOfMemory) old new = IfSome old.bytes (λ file. IsMade file → new.bytes ≡ old.bytes)

-- what an opening does to a disk
pub record StoreOpens (fault : Option OpenFault) (old new : DiskSeen) : Type 0 where
  pub refused_same : StaysWhereRefused fault old new
  pub any_moment : LeavesOnly old new (IsLeftByOpening old)
  pub now : new.TellsImages → (c : List ℕ) → new.image c → IsLeftByOpening old c
  -- what is read after it is what was read before, or a file with the same end, whatever was answered
  pub as_read : IfSome old.bytes (λ file. IfSome new.bytes (HasSameEnd file))
  pub tells_bytes : IsSome new.bytes ↔ IsSome old.bytes
  pub tells_images : new.TellsImages ↔ old.TellsImages
  pub cause : Rises (open_failures fault) old.faults new.faults
