-- The world of two ends of a session: what each does, in which order, over connections that may break
-- at any byte; and what is promised of the two.
use Rattle.std.specs.Prelude.{◌≡◌, ℕ, ◌<◌, ◌==◌, if◌then◌else◌, List, [], ◌∷◌, ◌++◌, length, Bool, true, false, Some}
use Rattle.std.specs.List.{AllByRecursion}
use Rattle.fix_base.specs.Lists.{Among, IsPrefixOf}
use Rattle.fix_base.specs.Session.{Identity, mirrored}
use Rattle.fix_base.specs.End.{Record, Push, Expect, Many, Withhold, Reset, ResetAsk, Confirm, End, folded, app_entries}
use Rattle.fix_base.specs.Payload.{IsPersistentEntry}
use Rattle.fix_base.specs.Act as act
use Rattle.fix_base.specs.Act.{Act}
use Rattle.fix_base.specs.EndStep.{Role, Initiator, Acceptor, Handling, Connection, EndState, new_state, EndStep, Move}
use Rattle.fix_base.specs.Agrees.{ComesInOrder}
use Rattle.fix_base.specs.Reader.{Follows, Gives}

-- what an end did on one connection. A connection has a number that both ends know it by
pub record Logged : Type 0 where
  pub number : ℕ
  pub opened : End  -- the end at Opened
  pub wrote : List ℕ

-- that the application was given a message: its MsgSeqNum (34), and the connection's number
pub record Given : Type 0 where
  pub number : ℕ
  pub connection : ℕ

-- an end in the world
pub record Peer : Type 0 where
  pub state : EndState
  pub number : ℕ  -- that of its last connection, 0 before any
  pub log : List Logged  -- all its connections, the last one first
  pub given : List Given

pub record World : Type 0 where
  pub first : Peer
  pub second : Peer

-- a peer that never did anything
abbrev pub new_peer : Role → Peer
new_peer role = record { state = new_state role; number = 0; log = []; given = [] }

-- both ends are new
abbrev pub new_world : World
new_world = record { first = new_peer Initiator; second = new_peer Acceptor }

-- what was written on the connection of this number
abbrev pub wrote_at : ℕ → List Logged → List ℕ
wrote_at c [] = []
wrote_at c (l ∷ log) = if l.number == c then l.wrote else wrote_at c log

-- more was written on the last connection
abbrev pub grown_log : List Logged → List ℕ → List Logged
grown_log [] b = []
grown_log (l ∷ log) b = record { number = l.number; opened = l.opened; wrote = l.wrote ++ b } ∷ log

-- the peer after a step: with this state alone, on a new connection, with more written, and with a
-- message given to its application
abbrev pub rested : Peer → EndState → Peer
rested a s' = record { state = s'; number = a.number; log = a.log; given = a.given }

abbrev pub opened_peer : Peer → EndState → ℕ → Peer
opened_peer a s' c = record {
  state = s';
  number = c;
  log = record { number = c; opened = a.state.end; wrote = [] } ∷ a.log;
  given = a.given;
}

abbrev pub wrote_peer : Peer → EndState → List ℕ → Peer
wrote_peer a s' b = record { state = s'; number = a.number; log = grown_log a.log b; given = a.given }

abbrev pub gave_peer : Peer → EndState → ℕ → Peer
gave_peer a s' n = record {
  state = s';
  number = a.number;
  log = a.log;
  given = record { number = n; connection = a.number } ∷ a.given;
}

-- an act that changes an end's state alone
abbrev pub IsQuiet : Act → Type 0
IsQuiet act.Opened = ⊥
IsQuiet (act.Now t) = Unit {0}
IsQuiet (act.Read b) = ⊥
IsQuiet act.Idle = Unit {0}
IsQuiet act.Ended = Unit {0}
IsQuiet (act.Wrote b) = ⊥
IsQuiet (act.Kept r) = Unit {0}
IsQuiet (act.KeepLost r) = Unit {0}
IsQuiet (act.Handed n marked body) = ⊥
IsQuiet (act.HandLost n marked body) = ⊥
IsQuiet (act.Withheld n) = Unit {0}
IsQuiet (act.Allowed n) = Unit {0}
IsQuiet act.Cut = Unit {0}
IsQuiet act.Stop = Unit {0}

-- one act of a peer, beside the other peer as it is
pub data PeerStep (id : Identity) (a o : Peer) : Act → Peer → Type 0 where
  -- a connection has a number above those of all before
  opens : {s' : EndState} (c : ℕ) → a.number < c → EndStep id a.state act.Opened s'
      → PeerStep id a o act.Opened (opened_peer a s' c)
  -- all that was read on a connection is a prefix of what the other has written there
  reads : {s' : EndState} (b : List ℕ) (c : Connection) → a.state.connection ≡ Some c
      → IsPrefixOf (c.read ++ b) (wrote_at a.number o.log) → EndStep id a.state (act.Read b) s'
      → PeerStep id a o (act.Read b) (rested a s')
  writes : {s' : EndState} (b : List ℕ) → EndStep id a.state (act.Wrote b) s'
      → PeerStep id a o (act.Wrote b) (wrote_peer a s' b)
  hands : {s' : EndState} (n : ℕ) (marked : Bool) (body : List ℕ) → EndStep id a.state (act.Handed n marked body) s'
      → PeerStep id a o (act.Handed n marked body) (gave_peer a s' n)
  loses : {s' : EndState} (n : ℕ) (marked : Bool) (body : List ℕ)
      → EndStep id a.state (act.HandLost n marked body) s'
      → PeerStep id a o (act.HandLost n marked body) (gave_peer a s' n)
  rests : {s' : EndState} (x : Act) → IsQuiet x → EndStep id a.state x s' → PeerStep id a o x (rested a s')

pub data Who : Type 0 where
  First : Who
  Second : Who

abbrev pub peer_of : Who → World → Peer
peer_of First w = w.first
peer_of Second w = w.second

abbrev pub other_of : Who → World → Peer
other_of First w = w.second
other_of Second w = w.first

abbrev pub with_peer : Who → World → Peer → World
with_peer First w a = record w { first = a }
with_peer Second w a = record w { second = a }

-- the second end has the counterparty's identity
abbrev pub identity_of : Who → Identity → Identity
identity_of First id = id
identity_of Second id = mirrored id

-- an act of one of the two
pub data Event : Type 0 where
  Does : (who : Who) (act : Act) → Event

-- these events in this order, with moves between
pub data WorldRun (id : Identity) : World → List Event → World → Type 0 where
  stop : {w : World} → WorldRun id w [] w
  step : {w w' : World} {events : List Event} {a' : Peer} (who : Who) (x : Act)
      → PeerStep (identity_of who id) (peer_of who w) (other_of who w) x a'
      → WorldRun id (with_peer who w a') events w' → WorldRun id w (Does who x ∷ events) w'
  move : {w w' : World} {events : List Event} {s' : EndState} (who : Who) → Move (peer_of who w).state s'
      → WorldRun id (with_peer who w (rested (peer_of who w) s')) events w' → WorldRun id w events w'

-- the record is no reset, and its entries may be sent again
abbrev pub IsPlainRecord : Record → Type 0
IsPlainRecord (Push e) = IsPersistentEntry e
IsPlainRecord (Expect k) = Unit {0}
IsPlainRecord (Many pushes k) = AllByRecursion IsPersistentEntry pushes
IsPlainRecord (Withhold n) = Unit {0}
IsPlainRecord (Reset t) = ⊥
IsPlainRecord (ResetAsk t) = ⊥
IsPlainRecord Confirm = ⊥

abbrev pub IsPlain : Act → Type 0
IsPlain (act.Kept r) = IsPlainRecord r
IsPlain (act.KeepLost r) = IsPlainRecord r
IsPlain act.Opened = Unit {0}
IsPlain (act.Now t) = Unit {0}
IsPlain (act.Read b) = Unit {0}
IsPlain act.Idle = Unit {0}
IsPlain act.Ended = Unit {0}
IsPlain (act.Wrote b) = Unit {0}
IsPlain (act.Handed n marked body) = Unit {0}
IsPlain (act.HandLost n marked body) = Unit {0}
IsPlain (act.Withheld n) = Unit {0}
IsPlain (act.Allowed n) = Unit {0}
IsPlain act.Cut = Unit {0}
IsPlain act.Stop = Unit {0}

-- no store is reset, and both ends keep their messages to be sent again
abbrev pub EachPlain : List Event → Type 0
EachPlain [] = Unit {0}
EachPlain (Does who x ∷ events) = IsPlain x × EachPlain events

-- one end agrees with the other, whichever way a record settles that either has in doubt
pub record AgreesWith (e f : EndState) : Type 0 where
  pub now : Follows e f.end
  pub settled : (r : Record) → f.doubt ≡ Some r → Follows e (folded f.end r)

-- this end's application is given a message
pub data GivesBy (who : Who) (n : ℕ) (marked : Bool) : Event → Type 0 where
  gives : (x : Act) → Gives n marked x → GivesBy who n marked (Does who x)

-- a message that an application was given before comes marked as PossDup (43 = Y)
pub record MarksRepeats (events : List Event) : Type 0 where
  pub each : (before after : List Event) (e earlier : Event) (who : Who) (n : ℕ) (marked was_marked : Bool) → events
      ≡ before ++ e ∷ after → Among earlier before → GivesBy who n was_marked earlier → GivesBy who n marked e
      → marked ≡ true

-- each end agrees with the other, and no message comes twice without its mark
pub record WorldAgrees (events : List Event) (w : World) : Type 0 where
  pub first : AgreesWith w.first.state w.second.state
  pub second : AgreesWith w.second.state w.first.state
  pub marks : MarksRepeats events

-- an application message that one end keeps and writes is handed over by the other, which then
-- expects the next number
pub record Arrives (id : Identity) : Type 0 where
  pub events : List Event
  pub world : World
  pub run : WorldRun id new_world events world
  pub plain : EachPlain events
  pub handled : length world.first.state.handled ≡ 1
  pub expected : world.first.state.end.stored ≡ 2

-- message 1 with this body, as it was handed over
abbrev pub handed_over : Bool → List ℕ → Handling
handed_over marked body = record { number = 1; body = body; marked = marked; rejected = false }

-- an application message that one end keeps is handed over by the other, which stops before it keeps
-- the next number. On the next connection the message comes again, marked as PossDup (43 = Y), is
-- handed over again, and the next number is kept
pub record ComesAgain (id : Identity) : Type 0 where
  pub events : List Event
  pub world : World
  pub run : WorldRun id new_world events world
  pub plain : EachPlain events
  pub body : List ℕ
  pub handled : world.first.state.handled ≡ handed_over false body ∷ handed_over true body ∷ []
  pub expected : world.first.state.end.stored ≡ 2

-- a message that one end withholds is passed over by the other, which hands over the one after it and
-- expects the next number
pub record PassesWithheld (id : Identity) : Type 0 where
  pub events : List Event
  pub world : World
  pub run : WorldRun id new_world events world
  pub plain : EachPlain events
  pub stored : length (app_entries world.second.state.end.out) ≡ 2
  pub withheld : world.second.state.end.withheld ≡ 1 ∷ []
  pub body : List ℕ
  pub handled : world.first.state.handled ≡ record { number = 2; body = body; marked = false; rejected = false } ∷ []
  pub expected : world.first.state.end.stored ≡ 3

-- at each end a message that comes for its first time comes with a number above all before
pub record ComeInOrder (w : World) : Type 0 where
  pub first : ComesInOrder w.first.state.handled
  pub second : ComesInOrder w.second.state.handled
