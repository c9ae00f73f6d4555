-- A served ResendRequest is lawful: where a session may serve one, and the end after a fault of it.
use Rattle.std.specs.Prelude.{◌≡◌, ◌⊎◌, ◌≤◌, ℕ, List, Some, None}
use Rattle.fix_base.specs.declared.identity.Identity.{Identity}
use Rattle.fix_base.specs.declared.entry.Record.TheVariants.{Withhold}
use Rattle.fix_base.specs.EndStep.{Answer, EndState}
use Rattle.fix_stage.specs.Stage.{no_stage}
use Rattle.fix_stage.specs.Sender.{Sender, StageFault, NumbersSpent, OutOfMemory, StoreFault, LinkFault}
use Rattle.fix_stage.specs.Lawful.{HasKept, IsCertain, Level, Bare}

-- the end is level with a session that has nothing staged, and whose numbers are MsgSeqNums
pub record MayServeAt (id : Identity) (read : List ℕ) (resets : List Answer) (given : List ℕ) (n : ℕ) (b : Sender) (e : EndState) : Type 0 where
  pub level : Level id read resets given n b e
  pub empty : b.stage ≡ no_stage
  pub last : b.numbers.last ≤ 999999999

-- a number that is withheld is in doubt, and else the end has what the session has kept
pub record IsWithholdInDoubt (b : Sender) (e : EndState) : Type 0 where
  pub kept : HasKept b.numbers e
  pub number : ℕ
  pub doubt : e.doubt ≡ Some (Withhold number)
  pub closed : e.connection ≡ None

-- the end after a fault of serving: no message is staged, so none takes a number. Where the store failed at a fetch
-- nothing is in doubt
abbrev pub AfterServe : StageFault → Sender → EndState → Type 0
AfterServe NumbersSpent b e = ⊥
AfterServe OutOfMemory b e = IsCertain b.numbers e
AfterServe StoreFault b e = IsWithholdInDoubt b e ⊎ Bare b e
AfterServe LinkFault b e = Bare b e
