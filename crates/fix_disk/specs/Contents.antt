use Rattle.fix_disk.specs.State.{State}
use Rattle.fix_disk.specs.declared.contents.Contents.{Contents}

abbrev pub state_of : Contents → State
state_of c = record { bytes = c.bytes.items; synced = c.synced.items; changed = c.changed.items }
