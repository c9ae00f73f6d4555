-- The calls of a session on what is outside it, each with what it answered, and what they come to.
use Rattle.std.specs.Prelude.{◌≡◌, ℕ, min, length, List, [], ◌∷◌, ◌++◌, Bool, Option, Some, IfSome, Result, ⊤}
use Rattle.fix_base.specs.declared.act.Act.{Act}
use Rattle.fix_base.specs.declared.bytes.OutOfMemory.{OutOfMemory}
use Rattle.fix_base.specs.declared.entry.Record.{Record}
use Rattle.fix_base.specs.declared.entry.Stored.{Stored}
use Rattle.fix_base.specs.End.{End}
use Rattle.fix_base.specs.Parts.{PartsSeen}
use Rattle.fix_base.specs.Trace.{Note, Asked, Stores, Follows, OutsideSeen, SameFile, Counts, acts_of, grown}
use Rattle.fix_outside.specs.declared.connection.WriteTurn.{WriteTurn}
use Rattle.fix_outside.specs.declared.handing.Said.{Said}
use Rattle.fix_outside.specs.declared.handing.Again as whether
use Rattle.fix_outside.specs.declared.outside.KeepFault.{KeepFault}
use Rattle.fix_outside.specs.declared.outside.LoadFault.{LoadFault}
use Rattle.fix_outside.specs.declared.outside.FetchFault.{FetchFault}
use Rattle.fix_outside.specs.declared.outside.Kind.{Kind}
use Rattle.fix_outside.specs.Outside.{Came, Bytes, NothingYet, TheEnd, ReadFailed, NoMemory, IsSo}
use Rattle.fix_outside.specs.Outside.{marks, tells_time, notes_of_read, writes, keeps, notes_of_hand, notes_of_again, loads, fetches}

-- one call, and what it answered; also where that is that it was out of memory
pub data Call : Type 0 where
  Look : (answer : Result ℕ OutOfMemory) → Call  -- at the clock
  Load : (answer : Result Stored LoadFault) → Call
  Mark : (cut : Bool) → (answer : Result ⊤ OutOfMemory) → Call
  Read : (room : ℕ) → (came : Came) → Call
  Write : (bytes : List ℕ) → (turn : WriteTurn) → Call
  Keep : (kept : Record) → (answer : Result ⊤ KeepFault) → Call
  Fetch : (number : ℕ) → (answer : Result Kind FetchFault) → (body : List ℕ) → Call
  Hand : (number : ℕ) → (marked : Bool) → (body : List ℕ) → (said : Said) → Call
  Again : (number : ℕ) → (body : List ℕ) → (said : whether.Again) → Call  -- whether a message is sent again
  Ask : (draft : Option (List ℕ)) → Call  -- the body of the draft that the application gave, or none

-- ---- what is noted of them

abbrev pub notes_of : Call → List Note
notes_of (Look answer) = tells_time answer
notes_of (Load answer) = loads answer
notes_of (Mark cut answer) = marks cut answer
notes_of (Read room came) = notes_of_read came
notes_of (Write bytes turn) = writes turn bytes
notes_of (Keep kept answer) = keeps answer kept
notes_of (Fetch number answer body) = fetches answer
notes_of (Hand number marked body said) = notes_of_hand said number marked body
notes_of (Again number body said) = notes_of_again said number
notes_of (Ask draft) = Asked draft ∷ []

abbrev pub notes_in : List Call → List Note
notes_in [] = []
notes_in (call ∷ calls) = notes_of call ++ notes_in calls

-- the acts among these
abbrev pub acts_in : List Call → List Act
acts_in calls = acts_of (notes_in calls)

-- ---- what they tell is so

-- what was fetched is so in the end that the store holds, where it tells one
abbrev pub IsTrueIn : Call → Option End → Type 0
IsTrueIn (Look answer) held = Unit {0}
IsTrueIn (Load answer) held = Unit {0}
IsTrueIn (Mark cut answer) held = Unit {0}
IsTrueIn (Read room came) held = Unit {0}
IsTrueIn (Write bytes turn) held = Unit {0}
IsTrueIn (Keep kept answer) held = Unit {0}
IsTrueIn (Fetch number answer body) held = IfSome held (IsSo answer number body)
IsTrueIn (Hand number marked body said) held = Unit {0}
IsTrueIn (Again number body said) held = Unit {0}
IsTrueIn (Ask draft) held = Unit {0}

-- what one call does to a store that is told or not
pub record CallStores (call : Call) (old new : Option End) : Type 0 where
  pub stores : Stores (acts_of (notes_of call)) old new
  pub so : IsTrueIn call old

-- the same of several, one after another
abbrev pub CallsStore : List Call → Option End → Option End → Type 0
CallsStore [] old new = new ≡ old
CallsStore (call ∷ calls) old new = (mid : Option End) × CallStores call old mid × CallsStore calls mid new

-- what these calls do to the ends that a store holds
pub record CallsHold (old new : End → Type 0) (calls : List Call) : Type 0 where
  -- it tells what comes of an end that it told
  pub kept : (e : End) → old e → (e' : End) × new e' × CallsStore calls (Some e) (Some e')
  -- and it tells nothing else
  pub only : (e' : End) → new e' → (e : End) × old e × CallsStore calls (Some e) (Some e')

-- ---- what they do to what the parts tell

-- a read gave all of the first piece that it had room for
pub record FillsFrom (room : ℕ) (bytes : List ℕ) (pieces : List (List ℕ)) : Type 0 where
  pub piece : List ℕ
  pub later : List (List ℕ)
  pub first : pieces ≡ piece ∷ later
  pub many : length bytes ≡ min (length piece) room

abbrev pub Fills : ℕ → Came → List (List ℕ) → Type 0
Fills room (Bytes bytes) pieces = FillsFrom room bytes pieces
Fills room NothingYet pieces = Unit {0}
Fills room TheEnd pieces = Unit {0}
Fills room ReadFailed pieces = Unit {0}
Fills room NoMemory pieces = Unit {0}

-- where the pieces are told
abbrev pub IsFilled : Call → Option (List (List ℕ)) → Type 0
IsFilled (Look answer) to_come = Unit {0}
IsFilled (Load answer) to_come = Unit {0}
IsFilled (Mark cut answer) to_come = Unit {0}
IsFilled (Read room came) to_come = IfSome to_come (Fills room came)
IsFilled (Write bytes turn) to_come = Unit {0}
IsFilled (Keep kept answer) to_come = Unit {0}
IsFilled (Fetch number answer body) to_come = Unit {0}
IsFilled (Hand number marked body said) to_come = Unit {0}
IsFilled (Again number body said) to_come = Unit {0}
IsFilled (Ask draft) to_come = Unit {0}

pub record CallMoves (call : Call) (old new : PartsSeen) : Type 0 where
  pub follows : Follows (notes_of call) old new
  pub filled : IsFilled call old.to_come

abbrev pub CallsMove : List Call → PartsSeen → PartsSeen → Type 0
CallsMove [] old new = new ≡ old
CallsMove (call ∷ calls) old new = (mid : PartsSeen) × CallMoves call old mid × CallsMove calls mid new

-- ---- all of it

-- these calls were made between two moments, and nothing else
pub record Called (old new : OutsideSeen) (calls : List Call) : Type 0 where
  pub tape : new.tape ≡ grown old.tape (acts_in calls)
  pub stored : CallsHold old.Holds new.Holds calls
  pub file : SameFile old new
  pub faults : Counts old.faults new.faults (notes_in calls)
  pub parts : CallsMove calls old.parts new.parts

-- some calls were made between two moments, and they have P
abbrev pub HasCalls : OutsideSeen → OutsideSeen → (List Call → Type 0) → Type 0
HasCalls old new P = (calls : List Call) × Called old new calls × P calls
