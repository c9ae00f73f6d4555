-- What is seen of a place for text, and what a write does to that.
use Rattle.std.specs.Prelude.{◌≡◌, ℕ, List, length, Option, Result, Ok, Err}
use Rattle.fix_base.specs.Lists.{IsPrefixOf}
use Rattle.fix_disk.specs.declared.sink.SinkFailed.{SinkFailed}
use Rattle.fix_base.specs.Parts.{extended, less, HasNoRoom}
use Rattle.fix_base.specs.Trace.{Rises}

pub record SinkSeen : Type 0 where
  pub written : Option (List ℕ)  -- the bytes that were written
  pub room : Option ℕ  -- a sink that tells it fails only at a write of more bytes than this
  pub faults : ℕ

-- what a write does to the bytes; of one that failed some first bytes may have got there
abbrev pub WrittenAfter : {T : Type 0} → Result T SinkFailed → List ℕ → Option (List ℕ) → Option (List ℕ) → Type 0
WrittenAfter (Ok x) bytes old new = new ≡ extended old bytes
WrittenAfter (Err e) bytes old new = (part : List ℕ) × IsPrefixOf part bytes × (new ≡ extended old part)

-- what a write does to the room
abbrev pub RoomAfter : {T : Type 0} → Result T SinkFailed → List ℕ → Option ℕ → Option ℕ → Type 0
RoomAfter (Ok x) bytes old new = new ≡ less (length bytes) old
RoomAfter (Err e) bytes old new = HasNoRoom (length bytes) old × (new ≡ old)

-- how often a write failed
abbrev pub sink_failures : {T : Type 0} → Result T SinkFailed → ℕ
sink_failures (Ok x) = 0
sink_failures (Err e) = 1

-- what a write does
pub record SinkWrites {T : Type 0} (answer : Result T SinkFailed) (bytes : List ℕ) (old new : SinkSeen) : Type 0 where
  pub written : WrittenAfter answer bytes old.written new.written
  pub room : RoomAfter answer bytes old.room new.room
  pub faults : Rises (sink_failures answer) old.faults new.faults
