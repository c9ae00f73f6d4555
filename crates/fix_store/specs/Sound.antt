-- What always holds of a store that was opened.
use Rattle.std.specs.Prelude.{◌≡◌, Bool, true, false, List, Option, IsSome, IfSome}
use Rattle.fix_disk.specs.Disk.{DiskSeen}
use Rattle.fix_journal.specs.Journal.{JournalSeen}
use Rattle.fix_store.specs.declared.finding.Found.{Found}
use Rattle.fix_store.specs.Spelling.{Item}
use Rattle.fix_store.specs.Folding.{Fold, IsWithin, IsKeptOf}
use Rattle.fix_store.specs.Finding.{AreSpotsOn, AreSpotsOf}

pub record IsSound {D : Type 0} (disk : D → DiskSeen) (journal : JournalSeen D) (f : Fold) (near : Option Found)
    (stopped : Bool) : Type 0 where
  pub stops : stopped ≡ journal.stopped
  pub within : IsWithin f journal.count
  pub marked : f.marked ≡ true
  -- where the entry that was read last was found
  pub spots : IfSome near (AreSpotsOn disk journal)
  pub kept : stopped ≡ false → IsSome (disk journal.disk).bytes → (items : List Item)
      × IsKeptOf (disk journal.disk) journal.count items f × IfSome near (AreSpotsOf items)
