-- What the calls over a stream do to its bytes, where the stream tells them.
use Rattle.std.specs.Prelude.{ℕ, List, [], take, Option}
use Rattle.std.specs.Io.KnownBytes.{Keeps, Appends, Consumes, IsAtEnd}
use Rattle.fix_outside.specs.declared.connection.ReadTurn.{ReadTurn}
use Rattle.fix_outside.specs.declared.connection.ReadTurn.TheVariants as read
use Rattle.fix_outside.specs.declared.connection.WriteTurn.{WriteTurn}
use Rattle.fix_outside.specs.declared.connection.WriteTurn.TheVariants as write

-- a read waits for bytes, so it is never Idle, and it asks for no memory
abbrev pub StreamGives : ReadTurn → List ℕ → Option (List ℕ) → Option (List ℕ) → Type 0
StreamGives (read.Bytes n) room old new = Consumes old new (take n room)
StreamGives read.Idle room old new = ⊥
StreamGives read.End room old new = Consumes old new [] × IsAtEnd new
StreamGives read.Failed room old new = Keeps old new
StreamGives read.OutOfMemory room old new = ⊥

-- a write asks for no memory
abbrev pub StreamTakes : WriteTurn → List ℕ → Option (List ℕ) → Option (List ℕ) → Type 0
StreamTakes write.Done bytes old new = Appends old new bytes
StreamTakes (write.Failed n) bytes old new = Appends old new (take n bytes)
StreamTakes write.OutOfMemory bytes old new = ⊥
