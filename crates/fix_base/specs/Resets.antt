-- The world of two ends that reset by Logon: an initiator that asks for resets, and an acceptor that
-- resets where it is asked to.
use Rattle.std.specs.Prelude.{◌≡◌, ℕ, ◌<◌, List, [], ◌∷◌, ◌++◌, Bool, true, false, Option, Some, None}
use Rattle.fix_base.specs.Lists.{Among, IsPrefixOf}
use Rattle.fix_base.specs.Session.{Identity, mirrored}
use Rattle.fix_base.specs.End.{Record, Push, Expect, Many, Withhold, Reset, ResetAsk, Confirm, End, folded, app_entries}
use Rattle.fix_base.specs.Act as act
use Rattle.fix_base.specs.Act.{Act}
use Rattle.fix_base.specs.EndStep.{Role, Initiator, Acceptor, Connection, EndState, IsAsking, IsAskedReset}
use Rattle.fix_base.specs.EndStep.{new_state, EndStep, Move}
use Rattle.fix_base.specs.Agrees.{Agrees}
use Rattle.fix_base.specs.World.{Logged, wrote_at, grown_log, IsQuiet, IsPlain}

-- that the application was given a message: its MsgSeqNum (34), the connection's number, the epoch
-- then, and PossDupFlag (43) = Y
pub record Handover : Type 0 where
  pub number : ℕ
  pub connection : ℕ
  pub epoch : ℕ
  pub marked : Bool

-- one of the two. Its epoch is the number of the connection of the last reset, 0 before any; none where
-- a reset is asked for on the next connection
pub record EpochPeer : Type 0 where
  pub state : EndState
  pub number : ℕ  -- that of its last connection, 0 before any
  pub log : List Logged  -- all its connections, the last one first
  pub epoch : Option ℕ
  pub gave : List Handover  -- the last one first

pub record EpochPeers : Type 0 where
  pub initiator : EpochPeer
  pub acceptor : EpochPeer

abbrev pub new_epoch_peer : Role → EpochPeer
new_epoch_peer role = record { state = new_state role; number = 0; log = []; epoch = Some 0; gave = [] }

abbrev pub new_epoch_peers : EpochPeers
new_epoch_peers = record { initiator = new_epoch_peer Initiator; acceptor = new_epoch_peer Acceptor }

-- the end at Opened of the last connection is the new one
abbrev pub reopened_log : List Logged → End → List Logged
reopened_log [] e = []
reopened_log (l ∷ log) e = record { number = l.number; opened = e; wrote = l.wrote } ∷ log

-- the peer after a step
abbrev pub still : EpochPeer → EndState → EpochPeer
still p s' = record { state = s'; number = p.number; log = p.log; epoch = p.epoch; gave = p.gave }

abbrev pub opened_epoch_peer : EpochPeer → EndState → ℕ → Option ℕ → EpochPeer
opened_epoch_peer p s' c epoch = record {
  state = s';
  number = c;
  log = record { number = c; opened = p.state.end; wrote = [] } ∷ p.log;
  epoch = epoch;
  gave = p.gave;
}

abbrev pub wrote_epoch_peer : EpochPeer → EndState → List ℕ → EpochPeer
wrote_epoch_peer p s' b = record {
  state = s';
  number = p.number;
  log = grown_log p.log b;
  epoch = p.epoch;
  gave = p.gave;
}

abbrev pub gave_epoch_peer : EpochPeer → EndState → ℕ → ℕ → Bool → EpochPeer
gave_epoch_peer p s' n epoch marked = record {
  state = s';
  number = p.number;
  log = p.log;
  epoch = p.epoch;
  gave = record { number = n; connection = p.number; epoch = epoch; marked = marked } ∷ p.gave;
}

abbrev pub reset_epoch_peer : EpochPeer → EndState → EpochPeer
reset_epoch_peer p s' = record {
  state = s';
  number = p.number;
  log = reopened_log p.log s'.end;
  epoch = Some p.number;
  gave = p.gave;
}

abbrev pub asking_epoch_peer : EpochPeer → EndState → EpochPeer
asking_epoch_peer p s' = record { state = s'; number = p.number; log = p.log; epoch = None; gave = p.gave }

-- one act of a peer, beside the other as it is. All resets are by Logon, and entries may be sent again
pub data EpochStep (id : Identity) (p o : EpochPeer) : Act → EpochPeer → Type 0 where
  -- a connection has a number above those of all before. That of one that asks for a reset is its epoch
  opens : {s' : EndState} (c : ℕ) → (IsAsking p.state → ⊥) → p.number < c → EndStep id p.state act.Opened s'
      → EpochStep id p o act.Opened (opened_epoch_peer p s' c p.epoch)
  opens_asking : {s' : EndState} (c : ℕ) → IsAsking p.state → p.number < c → EndStep id p.state act.Opened s'
      → EpochStep id p o act.Opened (opened_epoch_peer p s' c (Some c))
  -- all that was read on a connection is a prefix of what the other has written there
  reads : {s' : EndState} (b : List ℕ) (c : Connection) → p.state.connection ≡ Some c
      → IsPrefixOf (c.read ++ b) (wrote_at p.number o.log) → EndStep id p.state (act.Read b) s'
      → EpochStep id p o (act.Read b) (still p s')
  writes : {s' : EndState} (b : List ℕ) → EndStep id p.state (act.Wrote b) s'
      → EpochStep id p o (act.Wrote b) (wrote_epoch_peer p s' b)
  hands : {s' : EndState} (n epoch : ℕ) (marked : Bool) (body : List ℕ) → p.epoch ≡ Some epoch
      → EndStep id p.state (act.Handed n marked body) s'
      → EpochStep id p o (act.Handed n marked body) (gave_epoch_peer p s' n epoch marked)
  loses : {s' : EndState} (n epoch : ℕ) (marked : Bool) (body : List ℕ) → p.epoch ≡ Some epoch
      → EndStep id p.state (act.HandLost n marked body) s'
      → EpochStep id p o (act.HandLost n marked body) (gave_epoch_peer p s' n epoch marked)
  -- the acceptor resets where it is asked to by a Logon
  resets : {s' : EndState} (t : ℕ) → p.state.role ≡ Acceptor → IsAskedReset p.state
      → EndStep id p.state (act.Kept (Reset t)) s' → EpochStep id p o (act.Kept (Reset t)) (reset_epoch_peer p s')
  loses_reset : {s' : EndState} (t : ℕ) → p.state.role ≡ Acceptor → IsAskedReset p.state
      → EndStep id p.state (act.KeepLost (Reset t)) s' → EpochStep id p o (act.KeepLost (Reset t)) (still p s')
  -- the initiator asks, and is answered
  asks : {s' : EndState} (t : ℕ) → p.state.role ≡ Initiator → EndStep id p.state (act.Kept (ResetAsk t)) s'
      → EpochStep id p o (act.Kept (ResetAsk t)) (asking_epoch_peer p s')
  loses_ask : {s' : EndState} (t : ℕ) → p.state.role ≡ Initiator → EndStep id p.state (act.KeepLost (ResetAsk t)) s'
      → EpochStep id p o (act.KeepLost (ResetAsk t)) (still p s')
  confirms : {s' : EndState} → p.state.role ≡ Initiator → EndStep id p.state (act.Kept Confirm) s'
      → EpochStep id p o (act.Kept Confirm) (still p s')
  loses_confirm : {s' : EndState} → p.state.role ≡ Initiator → EndStep id p.state (act.KeepLost Confirm) s'
      → EpochStep id p o (act.KeepLost Confirm) (still p s')
  rests : {s' : EndState} (x : Act) → IsQuiet x → IsPlain x → EndStep id p.state x s' → EpochStep id p o x (still p s')

-- the record starts a list anew
abbrev pub StartsAnew : Record → Type 0
StartsAnew (Push e) = ⊥
StartsAnew (Expect k) = ⊥
StartsAnew (Many pushes k) = ⊥
StartsAnew (Withhold n) = ⊥
StartsAnew (Reset t) = Unit {0}
StartsAnew (ResetAsk t) = Unit {0}
StartsAnew Confirm = ⊥

-- the state where the record in doubt was kept
abbrev pub settled_anew : EndState → Record → EndState
settled_anew s r = record s { end = folded s.end r; expected = 1; handled = []; doubt = None; offered = None }

-- a move of a peer. A reset that was in doubt counts for the epoch where it settles as kept
pub data EpochMove (p : EpochPeer) : EpochPeer → Type 0 where
  moves : {s' : EndState} → Move p.state s' → ((r : Record) → p.state.doubt ≡ Some r → StartsAnew r → ⊥)
      → EpochMove p (still p s')
  forgets : (r : Record) → p.state.doubt ≡ Some r → StartsAnew r
      → EpochMove p (still p (record p.state { expected = p.state.end.stored; doubt = None }))
  has_reset : (t : ℕ) → p.state.doubt ≡ Some (Reset t)
      → EpochMove p (reset_epoch_peer p (settled_anew p.state (Reset t)))
  has_asked : (t : ℕ) → p.state.doubt ≡ Some (ResetAsk t)
      → EpochMove p (asking_epoch_peer p (settled_anew p.state (ResetAsk t)))

-- these acts in this order, with moves between: of the initiator, whose identity this is, and of the
-- acceptor
pub data ResetEvent : Type 0 where
  Initiates : (act : Act) → ResetEvent
  Accepts : (act : Act) → ResetEvent

pub data ResetsRun (id : Identity) : EpochPeers → List ResetEvent → EpochPeers → Type 0 where
  stop : {w : EpochPeers} → ResetsRun id w [] w
  initiates : {w w' : EpochPeers} {events : List ResetEvent} {p : EpochPeer} (x : Act)
      → EpochStep id w.initiator w.acceptor x p → ResetsRun id (record w { initiator = p }) events w'
      → ResetsRun id w (Initiates x ∷ events) w'
  accepts : {w w' : EpochPeers} {events : List ResetEvent} {p : EpochPeer} (x : Act)
      → EpochStep (mirrored id) w.acceptor w.initiator x p → ResetsRun id (record w { acceptor = p }) events w'
      → ResetsRun id w (Accepts x ∷ events) w'
  initiator_moves : {w w' : EpochPeers} {events : List ResetEvent} {p : EpochPeer} → EpochMove w.initiator p
      → ResetsRun id (record w { initiator = p }) events w' → ResetsRun id w events w'
  acceptor_moves : {w w' : EpochPeers} {events : List ResetEvent} {p : EpochPeer} → EpochMove w.acceptor p
      → ResetsRun id (record w { acceptor = p }) events w' → ResetsRun id w events w'

-- one end agrees with the other since the last shared reset
pub record AgreesSince (e f : EndState) : Type 0 where
  pub kept : Agrees e.end.stored e.handled f.end
  pub running : Agrees e.expected e.handled f.end

-- the epoch is above this one
pub data IsLater : Option ℕ → Option ℕ → Type 0 where
  asked_for : (n : ℕ) → IsLater None (Some n)
  greater : (n m : ℕ) → n < m → IsLater (Some m) (Some n)

-- the initiator is ahead: it has asked for a reset that isn't answered, and handled nothing since
pub record IsAhead (w : EpochPeers) : Type 0 where
  pub later : IsLater w.initiator.epoch w.acceptor.epoch
  pub nothing : w.initiator.state.handled ≡ []
  pub asked : w.initiator.state.end.asked ≡ true

-- a message that was given before in the same epoch comes marked as PossDup (43 = Y)
pub record MarksSince (gave : List Handover) : Type 0 where
  pub each : (newer older : List Handover) (h earlier : Handover) → gave ≡ newer ++ h ∷ older → Among earlier older
      → earlier.number ≡ h.number → earlier.epoch ≡ h.epoch → h.marked ≡ true

-- the two agree where nothing is in doubt
pub record ResetsAgree (w : EpochPeers) : Type 0 where
  pub shared : w.initiator.state.doubt ≡ None → w.acceptor.state.doubt ≡ None → w.initiator.epoch ≡ w.acceptor.epoch
      → AgreesSince w.initiator.state w.acceptor.state × AgreesSince w.acceptor.state w.initiator.state
  pub apart : w.initiator.state.doubt ≡ None → w.acceptor.state.doubt ≡ None
      → (w.initiator.epoch ≡ w.acceptor.epoch → ⊥) → IsAhead w
  pub marks : MarksSince w.initiator.gave
  pub marks_back : MarksSince w.acceptor.gave

-- the initiator asks for a reset, the acceptor resets and answers, and the initiator confirms: the reset
-- is shared. Then the initiator keeps and writes an application message, which the acceptor hands over, and
-- keeps the number that it expects after it. Nothing is in doubt, and the two agree
pub record SharesReset (id : Identity) : Type 0 where
  pub events : List ResetEvent
  pub peers : EpochPeers
  pub run : ResetsRun id new_epoch_peers events peers
  pub epoch : peers.initiator.epoch ≡ Some 1
  pub epoch_back : peers.acceptor.epoch ≡ Some 1
  pub asked : peers.initiator.state.end.asked ≡ false
  pub certain : (peers.initiator.state.doubt ≡ None) × (peers.acceptor.state.doubt ≡ None)
  pub body : List ℕ
  pub stored : app_entries peers.initiator.state.end.out ≡ record { number = 2; body = body } ∷ []
  pub handled : peers.acceptor.state.handled ≡ record { number = 2; body = body; marked = false; rejected = false } ∷ []
  pub expected : peers.acceptor.state.end.stored ≡ 3
  pub agree : AgreesSince peers.acceptor.state peers.initiator.state
  pub agree_back : AgreesSince peers.initiator.state peers.acceptor.state
