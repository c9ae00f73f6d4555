-- What stays true of the world of two ends.
use Rattle.std.proofs.Common.{◌≡◌, ◌⊎◌, ℕ, ◌<◌, ◌≤◌, List, [], ◌∷◌, length, Bool, Some}
use Rattle.fix_base.specs.Lists.{Among, IsPrefixOf}
use Rattle.fix_base.specs.End.{Record, End}
use Rattle.fix_base.specs.Payload.{IsPersistent}
use Rattle.fix_base.proofs.Told.{WroteMessages}
use Rattle.fix_base.specs.Act as act
use Rattle.fix_base.specs.Act.{Act}
use Rattle.fix_base.specs.Session.{Identity}
use Rattle.fix_base.specs.Message.{Message}
use Rattle.fix_base.specs.Logon.{IsResetLogon, Begun}
use Rattle.fix_base.specs.EndStep.{Connection, EndState, EndStep, IsAsking, WasRead}
use Rattle.fix_base.proofs.FollowsLemmas.{OpenCertain, OpenBehind}
use Rattle.fix_base.specs.Reader.{Follows}
use Rattle.fix_base.specs.World.{Logged, Given, Peer, rested, opened_peer, wrote_peer, gave_peer, IsQuiet, IsPlainRecord}

-- an end as it is, or as it was when a connection with a number above this one was opened: all that it
-- may still write where a reader at this number or beyond can read it is kept by each of these, or
-- comes as an original above it
pub data Later (a : Peer) (c : ℕ) : End → Type 0 where
  now : Later a c a.state.end
  opened : (l : Logged) → Among l a.log → c < l.number → Later a c l.opened

-- the connection is the one logged last
pub record IsLast (a : Peer) (c : Connection) : Type 0 where
  pub before : List Logged
  pub last : Logged
  pub log : a.log ≡ last ∷ before
  pub number : last.number ≡ a.number
  pub opened : last.opened ≡ c.opened
  pub wrote : last.wrote ≡ c.written

-- what is true of a peer alone
pub record Own (a : Peer) : Type 0 where
  pub below : (l : Logged) → Among l a.log → l.number ≤ a.number
  pub last : (c : Connection) → a.state.connection ≡ Some c → IsLast a c
  -- what was written with a number is lawful for each later moment
  pub wrote : (l : Logged) → Among l a.log → (f : End) → Later a l.number f → WroteMessages l.opened f l.wrote
  pub plain : (r : Record) → a.state.doubt ≡ Some r → IsPlainRecord r
  pub persistent : (c : ℕ) (f : End) → Later a c f → IsPersistent f

-- the bytes are none, or a front of what was written with this number
pub data Comes (f : Peer) (n : ℕ) (bytes : List ℕ) : Type 0 where
  nothing : bytes ≡ [] → Comes f n bytes
  some : (l : Logged) → Among l f.log → l.number ≡ n → IsPrefixOf bytes l.wrote → Comes f n bytes

-- whatever this connection has read, no message counts: a reset is asked for, or what was read begins
-- with a Logon that tells of one that isn't answered
pub data Deaf (s : EndState) (c : Connection) : Type 0 where
  asks : IsAsking s → Deaf s c
  waits : c.kept ≡ [] → ((x : Message) → WasRead c x → Begun IsResetLogon c.read) → Deaf s c

-- the connection has read what was written with this number, or is deaf
abbrev pub Heeds : Peer → ℕ → EndState → Connection → Type 0
Heeds f n s c = Comes f n c.read ⊎ Deaf s c

-- one act of a peer, beside the other as far as it matters: what is read counts where it was written
pub data ViewStep (id : Identity) (a o : Peer) : Act → Peer → Type 0 where
  opens : {s' : EndState} (c : ℕ) → a.number < c → EndStep id a.state act.Opened s' → ViewStep id a o act.Opened (opened_peer a s' c)
  reads : {s' : EndState} (b : List ℕ) → ((d : Connection) → s'.connection ≡ Some d → Heeds o a.number s' d) → EndStep id a.state (act.Read b) s' → ViewStep id a o (act.Read b) (rested a s')
  writes : {s' : EndState} (b : List ℕ) → EndStep id a.state (act.Wrote b) s' → ViewStep id a o (act.Wrote b) (wrote_peer a s' b)
  hands : {s' : EndState} (n : ℕ) (marked : Bool) (body : List ℕ) → EndStep id a.state (act.Handed n marked body) s' → ViewStep id a o (act.Handed n marked body) (gave_peer a s' n)
  loses : {s' : EndState} (n : ℕ) (marked : Bool) (body : List ℕ) → EndStep id a.state (act.HandLost n marked body) s' → ViewStep id a o (act.HandLost n marked body) (gave_peer a s' n)
  rests : {s' : EndState} (x : Act) → IsQuiet x → EndStep id a.state x s' → ViewStep id a o x (rested a s')

-- what is true of a reader e beside a writer f
pub record Way (e f : Peer) : Type 0 where
  -- the reader keeps up with each later moment of the writer
  pub follows : (h : End) → Later f e.number h → Follows e.state h
  pub read : (c : Connection) → e.state.connection ≡ Some c → Heeds f e.number e.state c
  pub told : (g : Given) → Among g e.given → g.connection ≤ e.number
  -- each number that was given is one of an entry at each later moment
  pub known : (g : Given) → Among g e.given → (h : End) → Later f e.number h → g.number ≤ length h.out
  -- a number given before is one of an entry at the writer's Opened of this connection
  pub before : (g : Given) → Among g e.given → (l : Logged) → Among l f.log → l.number ≡ e.number → g.connection < e.number → g.number ≤ length l.opened.out
  -- while a connection is open nothing is in doubt, and the reader has passed only what the writer could
  -- skip when it opened the connection, or what was handled
  pub certain : OpenCertain e.state
  pub behind : (l : Logged) → Among l f.log → l.number ≡ e.number → OpenBehind l.opened e.state
  pub gave : (c : Connection) → e.state.connection ≡ Some c → (g : Given) → Among g e.given → g.connection ≡ e.number → Among g.number c.gave

-- what is true of two ends
pub record Pair (a o : Peer) : Type 0 where
  pub own : Own a
  pub own_other : Own o
  pub way : Way a o
  pub back : Way o a

pub swapped : {a o : Peer} → Pair a o → Pair o a
swapped p = record { own = p.own_other; own_other = p.own; way = p.back; back = p.way }
