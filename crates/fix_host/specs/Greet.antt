-- How a connection is greeted: what is read of it, and what that comes to.
use Rattle.std.specs.Prelude.{◌≡◌, ℕ, ◌-◌, ◌*◌, ◌<◌, ◌≤◌, min, All, List, [], ◌∷◌, ◌++◌, length, take}
use Rattle.std.specs.Prelude.{Option, ⊤}
use Rattle.fix_base.specs.Parts.{ClockReads}
use Rattle.fix_base.specs.declared.identity.Identity.{Identity}
use Rattle.fix_outside.specs.declared.connection.ReadTurn.{ReadTurn}
use Rattle.fix_outside.specs.declared.connection.ReadTurn.TheVariants as read
use Rattle.fix_parts.specs.Link.{LinkSeen, LinkReads}
use Rattle.fix_host.specs.declared.known.Greeted.{Greeted}
use Rattle.fix_host.specs.declared.known.Greeted.TheVariants as greeted
use Rattle.fix_host.specs.Known.{HasFirstFrame, HasNoFrame, Names}

-- ---- what is read

-- the bytes that a read gave
abbrev pub bytes_of : ReadTurn → List ℕ → List ℕ
bytes_of (read.Bytes n) room = take n room
bytes_of read.Idle room = []
bytes_of read.End room = []
bytes_of read.Failed room = []
bytes_of read.OutOfMemory room = []

-- one read of the connection, and the clock after it
pub record Turn : Type 0 where
  pub read : ReadTurn
  pub bytes : List ℕ
  pub now : ℕ

abbrev pub bytes_in : List Turn → List ℕ
bytes_in [] = []
bytes_in (turn ∷ turns) = turn.bytes ++ bytes_in turns

abbrev pub times_in : List Turn → List ℕ
times_in [] = []
times_in (turn ∷ turns) = turn.now ∷ times_in turns

-- a read after these bytes: all that was read is at most 1,048,612 bytes, and a read gives at most 65,536 of them
pub record ReadsOnce (held : List ℕ) (turn : Turn) (old new : LinkSeen) : Type 0 where
  pub room : List ℕ
  pub most : length room ≤ min 65536 (1048612 - length held)
  pub reads : LinkReads turn.read room old new
  pub bytes : turn.bytes ≡ bytes_of turn.read room

-- these reads, one after another
abbrev pub ReadsAll : List ℕ → List Turn → LinkSeen → LinkSeen → Type 0
ReadsAll held [] old new = new ≡ old
ReadsAll held (turn ∷ turns) old new = (between : LinkSeen) × ReadsOnce held turn old between
    × ReadsAll (held ++ turn.bytes) turns between new

-- these readings of a clock, one after another
abbrev pub ReadsClock : List ℕ → Option (List ℕ) → Option (List ℕ) → Type 0
ReadsClock [] old new = new ≡ old
ReadsClock (time ∷ times) old new = (between : Option (List ℕ)) × ClockReads time old between
    × ReadsClock times between new

-- ---- what it comes to

-- the read gave bytes, or none yet
abbrev pub IsOpen : ReadTurn → Type 0
IsOpen (read.Bytes n) = ⊤
IsOpen read.Idle = ⊤
IsOpen read.End = ⊥
IsOpen read.Failed = ⊥
IsOpen read.OutOfMemory = ⊥

-- fewer than so many seconds have gone
abbrev pub IsEarly : (seconds since now : ℕ) → Type 0
IsEarly seconds since now = now - since < seconds * 1000000

-- the bytes have no frame, and there may be more of them
pub record IsUndecided (bytes : List ℕ) : Type 0 where
  pub none : HasNoFrame bytes
  pub few : length bytes < 1048612

-- nothing has ended the greeting: there are no more bytes than these before the turns and those read in them
pub record GoesOn (seconds since : ℕ) (ahead : List ℕ) (turns : List Turn) : Type 0 where
  pub given : All (λ turn. IsOpen turn.read) turns
  pub early : All (λ turn. IsEarly seconds since turn.now) turns
  pub undecided : IsUndecided (ahead ++ bytes_in turns)

-- what these bytes decide: who speaks by the first frame, or that there is none among so many
pub data Decides (known : List Identity) (bytes : List ℕ) : Greeted → Type 0 where
  by_frame : {frame : List ℕ} {answer : Greeted} → HasFirstFrame bytes frame → Names known frame answer → Decides known
      bytes answer
  by_length : HasNoFrame bytes → 1048612 ≤ length bytes → Decides known bytes greeted.NotFrame

-- what ended the greeting in a turn, with the bytes up to its end
pub data EndsIn (known : List Identity) (seconds since : ℕ) (bytes : List ℕ) (turn : Turn) : Greeted → Type 0 where
  decided : {answer : Greeted} → IsOpen turn.read → Decides known bytes answer → EndsIn known seconds since bytes turn
      answer
  late : IsOpen turn.read → IsUndecided bytes → seconds * 1000000 ≤ turn.now - since → EndsIn known seconds since bytes
      turn (greeted.Late since turn.now)
  ended : turn.read ≡ read.End → EndsIn known seconds since bytes turn greeted.Ended
  failed : turn.read ≡ read.Failed → EndsIn known seconds since bytes turn greeted.LinkFault
  out_of_memory : turn.read ≡ read.OutOfMemory → EndsIn known seconds since bytes turn greeted.OutOfMemory

-- the answer of a greeting that took these turns
pub data Answers (known : List Identity) (seconds turns since : ℕ) (ahead : List ℕ) : List Turn → Greeted
    → Type 0 where
  -- the bytes ahead are enough
  at_once : {answer : Greeted} → Decides known ahead answer → Answers known seconds turns since ahead [] answer
  -- the last turn ended it
  in_turn : {taken : List Turn} {turn : Turn} {answer : Greeted} → GoesOn seconds since ahead taken → length taken
      < turns → EndsIn known seconds since (ahead ++ bytes_in (taken ++ turn ∷ [])) turn answer
      → Answers known seconds turns since ahead (taken ++ turn ∷ []) answer
  -- no turn is left
  spent : {taken : List Turn} → GoesOn seconds since ahead taken → length taken ≡ turns
      → Answers known seconds turns since ahead taken greeted.TurnsSpent
  -- a call of its own was out of memory
  refused : {taken : List Turn} → GoesOn seconds since ahead taken → length taken ≤ turns
      → Answers known seconds turns since ahead taken greeted.OutOfMemory

-- ---- a whole greeting

-- the clock and the connection were read just so, the answer is that of the bytes and the readings, and each byte that
-- was read waits for the session
pub record Greets (known : List Identity) (seconds turns : ℕ) (answer : Greeted) (ahead ahead' : List ℕ)
    (link link' : LinkSeen) (readings readings' : Option (List ℕ)) : Type 0 where
  pub since : ℕ
  pub taken : List Turn
  pub clock : ReadsClock (since ∷ times_in taken) readings readings'
  pub reads : ReadsAll ahead taken link link'
  pub held : ahead' ≡ ahead ++ bytes_in taken
  pub answers : Answers known seconds turns since ahead taken answer
