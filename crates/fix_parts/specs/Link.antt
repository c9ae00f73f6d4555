-- What is seen of a connection, and what its calls do to that.
use Rattle.std.specs.Prelude.{◌≡◌, ℕ, ◌<◌, ◌≤◌, ◌-◌, min, List, [], ◌∷◌, length, take, drop, Option, Some, None, ⊤}
use Rattle.fix_base.specs.Trace.{Rises}
use Rattle.fix_outside.specs.declared.connection.ReadTurn.{ReadTurn}
use Rattle.fix_outside.specs.declared.connection.ReadTurn.TheVariants as read
use Rattle.fix_outside.specs.declared.connection.WriteTurn.{WriteTurn}
use Rattle.fix_outside.specs.declared.connection.WriteTurn.TheVariants as write
use Rattle.fix_outside.specs.Connection.{IsInRoom, IsInBytes}
use Rattle.fix_base.specs.Parts.{extended, less, HasNoRoom, left_before}

pub record LinkSeen : Type 0 where
  pub to_come : Option (List (List ℕ))  -- the pieces that reads give yet; an empty one is Idle
  pub written : Option (List ℕ)  -- the bytes that went out
  pub room : Option ℕ  -- a connection that tells it fails only at a write of more bytes than this
  pub faults : ℕ

-- a read of n bytes gives the first piece, or as much of it as there is room for: the rest of it
-- stays in front
pub record TakesBytes (n : ℕ) (room : List ℕ) (old new : List (List ℕ)) : Type 0 where
  pub piece : List ℕ
  pub later : List (List ℕ)
  pub first : old ≡ piece ∷ later
  pub many : n ≡ min (length piece) (length room)
  pub bytes : take n room ≡ take n piece
  pub rest : new ≡ left_before (drop n piece) later

-- what a read does to the pieces to come
abbrev pub TakesPieces : ReadTurn → List ℕ → List (List ℕ) → List (List ℕ) → Type 0
TakesPieces (read.Bytes n) room old new = TakesBytes n room old new
TakesPieces read.Idle room old new = old ≡ [] ∷ new
TakesPieces read.End room old new = (old ≡ []) × (new ≡ [])
TakesPieces read.Failed room old new = new ≡ old
TakesPieces read.OutOfMemory room old new = new ≡ old

-- the same, where the pieces are told
abbrev pub TakesTold : ReadTurn → List ℕ → Option (List (List ℕ)) → Option (List (List ℕ)) → Type 0
TakesTold turn room None new = new ≡ None
TakesTold turn room (Some old) new = (left : List (List ℕ)) × (new ≡ Some left) × TakesPieces turn room old left

-- a read fails only where no room is told
abbrev pub MayRead : ReadTurn → Option ℕ → Type 0
MayRead (read.Bytes n) room = ⊤
MayRead read.Idle room = ⊤
MayRead read.End room = ⊤
MayRead read.Failed room = HasNoRoom 0 room
MayRead read.OutOfMemory room = ⊤

-- how often a read failed
abbrev pub read_failures : ReadTurn → ℕ
read_failures (read.Bytes n) = 0
read_failures read.Idle = 0
read_failures read.End = 0
read_failures read.Failed = 1
read_failures read.OutOfMemory = 0

-- what a read does; the room is as it is after the read
pub record LinkReads (turn : ReadTurn) (room : List ℕ) (old new : LinkSeen) : Type 0 where
  pub in_room : IsInRoom turn room
  pub to_come : TakesTold turn room old.to_come new.to_come
  pub written : new.written ≡ old.written
  pub may : MayRead turn old.room
  pub same : new.room ≡ old.room
  pub faults : Rises (read_failures turn) old.faults new.faults

-- the bytes that went out after a write of these
abbrev pub written_after : WriteTurn → List ℕ → Option (List ℕ) → Option (List ℕ)
written_after write.Done bytes old = extended old bytes
written_after (write.Failed n) bytes old = extended old (take n bytes)
written_after write.OutOfMemory bytes old = old

-- what a write does to the room: one that failed had none for the rest of its bytes
abbrev pub LinkRoomAfter : WriteTurn → List ℕ → Option ℕ → Option ℕ → Type 0
LinkRoomAfter write.Done bytes old new = new ≡ less (length bytes) old
LinkRoomAfter (write.Failed n) bytes old new = HasNoRoom (length bytes - n) new × (new ≡ less n old)
LinkRoomAfter write.OutOfMemory bytes old new = new ≡ old

-- how often a write failed
abbrev pub write_failures : WriteTurn → ℕ
write_failures write.Done = 0
write_failures (write.Failed n) = 1
write_failures write.OutOfMemory = 0

-- what a write does
pub record LinkWrites (turn : WriteTurn) (bytes : List ℕ) (old new : LinkSeen) : Type 0 where
  pub in_bytes : IsInBytes turn bytes
  pub to_come : new.to_come ≡ old.to_come
  pub written : new.written ≡ written_after turn bytes old.written
  pub room : LinkRoomAfter turn bytes old.room new.room
  pub faults : Rises (write_failures turn) old.faults new.faults
