-- What one connection does to the agreement of two ends, whatever the counterparty's program is, as
-- long as what comes is what such an end may write.
use Rattle.std.specs.Prelude.{◌≡◌, ◌≢◌, ℕ, ◌≤◌, List, [], ◌∷◌, ◌++◌, length, Bool, true}
use Rattle.fix_base.specs.Lists.{Among}
use Rattle.fix_base.specs.End.{End}
use Rattle.fix_base.specs.Act as act
use Rattle.fix_base.specs.Act.{Act}
use Rattle.fix_base.specs.EndStep.{EndState}
use Rattle.fix_base.specs.Agrees.{KeepsUp}

-- all that these acts read
abbrev pub bytes_read : List Act → List ℕ
bytes_read [] = []
bytes_read (act.Read b ∷ acts) = b ++ bytes_read acts
bytes_read (act.Opened ∷ acts) = bytes_read acts
bytes_read (act.Now t ∷ acts) = bytes_read acts
bytes_read (act.Idle ∷ acts) = bytes_read acts
bytes_read (act.Ended ∷ acts) = bytes_read acts
bytes_read (act.Wrote b ∷ acts) = bytes_read acts
bytes_read (act.Kept r ∷ acts) = bytes_read acts
bytes_read (act.KeepLost r ∷ acts) = bytes_read acts
bytes_read (act.Handed n marked body ∷ acts) = bytes_read acts
bytes_read (act.HandLost n marked body ∷ acts) = bytes_read acts
bytes_read (act.Withheld n ∷ acts) = bytes_read acts
bytes_read (act.Allowed n ∷ acts) = bytes_read acts
bytes_read (act.Cut ∷ acts) = bytes_read acts
bytes_read (act.Stop ∷ acts) = bytes_read acts

-- no other connection is opened
abbrev pub AreOfOneConnection : List Act → Type 0
AreOfOneConnection [] = Unit {0}
AreOfOneConnection (x ∷ acts) = (x ≢ act.Opened) × AreOfOneConnection acts

-- the application is given the message of this MsgSeqNum (34), marked where PossDupFlag (43) is Y:
-- it takes it, or fails at it and may have it
pub data Gives (n : ℕ) (marked : Bool) : Act → Type 0 where
  handed : (body : List ℕ) → Gives n marked (act.Handed n marked body)
  hand_lost : (body : List ℕ) → Gives n marked (act.HandLost n marked body)

-- the end keeps up with the other, whichever way its own doubt settles
abbrev pub Follows : EndState → End → Type 0
Follows s f = KeepsUp s.end s.expected s.handled s.doubt s.beside f

-- after these acts, which led to this state, the end keeps up with its counterparty, and each message
-- that the counterparty had before its connection came marked: `f0` is the counterparty at its
-- Opened, `f1` the counterparty now
pub record ReaderKeepsUp (f0 f1 : End) (acts : List Act) (s : EndState) : Type 0 where
  pub follows : Follows s f1
  pub marks : (x : Act) → Among x acts → (n : ℕ) (marked : Bool) → Gives n marked x → n ≤ length f0.out → marked ≡ true
