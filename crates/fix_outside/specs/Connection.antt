-- How many bytes a read of a connection gives, and a write writes.
use Rattle.std.specs.Prelude.{ℕ, ◌<◌, ◌≤◌, List, length, ⊤}
use Rattle.fix_outside.specs.declared.connection.ReadTurn.{ReadTurn}
use Rattle.fix_outside.specs.declared.connection.ReadTurn.TheVariants as read
use Rattle.fix_outside.specs.declared.connection.WriteTurn.{WriteTurn}
use Rattle.fix_outside.specs.declared.connection.WriteTurn.TheVariants as write

-- a read gives at least one byte, and no more than there is room for
abbrev pub IsInRoom : ReadTurn → List ℕ → Type 0
IsInRoom (read.Bytes n) room = (0 < n) × (n ≤ length room)
IsInRoom read.Idle room = ⊤
IsInRoom read.End room = ⊤
IsInRoom read.Failed room = ⊤
IsInRoom read.OutOfMemory room = ⊤

-- a write that failed has written no more than it was given
abbrev pub IsInBytes : WriteTurn → List ℕ → Type 0
IsInBytes write.Done bytes = ⊤
IsInBytes (write.Failed n) bytes = n ≤ length bytes
IsInBytes write.OutOfMemory bytes = ⊤
