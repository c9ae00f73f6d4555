-- What a run says of its turns: how many it made, that the expected number is kept after them, and where the
-- other side ended the connection.
use Rattle.std.specs.Prelude.{◌≡◌, ◌<◌, ◌≤◌, ◌+◌, ◌∷◌, ℕ, suc, List, [], ⊤}
use Rattle.fix_base.specs.declared.act.Act.TheVariants as act
use Rattle.fix_base.specs.declared.act.Act.{Act}
use Rattle.fix_base.specs.Lists.{Among}
use Rattle.fix_base.specs.Trace.{Note, Did, Failed, Asked, acts_of}
use Rattle.fix_engine.specs.State.{State, PeerEnd, LoggedOut, Refused}
use Rattle.fix_engine.specs.declared.stop.RunEnd.{RunEnd}
use Rattle.fix_engine.specs.declared.stop.RunEnd.TheVariants as run

-- how often these acts read: bytes came, or nothing, or the end of the connection
abbrev pub reads_in : List Act → ℕ
reads_in [] = 0
reads_in (act.Read b ∷ acts) = suc (reads_in acts)
reads_in (act.Idle ∷ acts) = suc (reads_in acts)
reads_in (act.Ended ∷ acts) = suc (reads_in acts)
reads_in (act.Opened ∷ acts) = reads_in acts
reads_in (act.Now t ∷ acts) = reads_in acts
reads_in (act.Wrote b ∷ acts) = reads_in acts
reads_in (act.Kept r ∷ acts) = reads_in acts
reads_in (act.KeepLost r ∷ acts) = reads_in acts
reads_in (act.Handed n marked body ∷ acts) = reads_in acts
reads_in (act.HandLost n marked body ∷ acts) = reads_in acts
reads_in (act.Withheld k ∷ acts) = reads_in acts
reads_in (act.Allowed k ∷ acts) = reads_in acts
reads_in (act.Cut ∷ acts) = reads_in acts
reads_in (act.Stop ∷ acts) = reads_in acts

-- how often these acts look at the clock
abbrev pub looks_in : List Act → ℕ
looks_in [] = 0
looks_in (act.Now t ∷ acts) = suc (looks_in acts)
looks_in (act.Read b ∷ acts) = looks_in acts
looks_in (act.Idle ∷ acts) = looks_in acts
looks_in (act.Ended ∷ acts) = looks_in acts
looks_in (act.Opened ∷ acts) = looks_in acts
looks_in (act.Wrote b ∷ acts) = looks_in acts
looks_in (act.Kept r ∷ acts) = looks_in acts
looks_in (act.KeepLost r ∷ acts) = looks_in acts
looks_in (act.Handed n marked body ∷ acts) = looks_in acts
looks_in (act.HandLost n marked body ∷ acts) = looks_in acts
looks_in (act.Withheld k ∷ acts) = looks_in acts
looks_in (act.Allowed k ∷ acts) = looks_in acts
looks_in (act.Cut ∷ acts) = looks_in acts
looks_in (act.Stop ∷ acts) = looks_in acts

-- how often the application was asked for a draft
abbrev pub asks_in : List Note → ℕ
asks_in [] = 0
asks_in (Did act ∷ notes) = asks_in notes
asks_in (Failed part ∷ notes) = asks_in notes
asks_in (Asked draft ∷ notes) = suc (asks_in notes)

-- Of n turns, this many were made up to their look at the clock: all of them at TurnsSpent, and fewer where
-- a turn ended the run before it looked. A store that fails, and out of memory, may end a turn after its look.
abbrev pub IsMadeOf : RunEnd → ℕ → ℕ → Type 0
IsMadeOf run.TurnsSpent n made = made ≡ n
IsMadeOf (run.Closed why) n made = made < n
IsMadeOf (run.NotBuilt number) n made = made < n
IsMadeOf run.LinkFault n made = made < n
IsMadeOf run.AppFault n made = made < n
IsMadeOf run.NumbersSpent n made = made < n
IsMadeOf run.StoreFault n made = made ≤ n
IsMadeOf run.OutOfMemory n made = made ≤ n
IsMadeOf (run.Stopped cause) n made = made ≡ 0

-- a run of at most n turns: each asks for a draft at most once, then reads once, and then looks once at the clock
pub record HasTurns (n : ℕ) (answer : RunEnd) (notes : List Note) : Type 0 where
  pub made : IsMadeOf answer n (looks_in (acts_of notes))
  pub reads_first : looks_in (acts_of notes) ≤ reads_in (acts_of notes)
  pub reads_once : reads_in (acts_of notes) ≤ looks_in (acts_of notes) + 1
  pub at_most : reads_in (acts_of notes) ≤ n
  pub all : answer ≡ run.TurnsSpent → reads_in (acts_of notes) ≡ n
  pub asks_once : asks_in notes ≤ looks_in (acts_of notes) + 1
  pub asks_at_most : asks_in notes ≤ n

-- after this answer the expected number is the one that is kept
abbrev pub IsSettled : RunEnd → State → Type 0
IsSettled run.TurnsSpent s = s.stored_expected ≡ s.expected
IsSettled (run.Closed why) s = s.stored_expected ≡ s.expected
IsSettled (run.NotBuilt number) s = s.stored_expected ≡ s.expected
IsSettled run.LinkFault s = s.stored_expected ≡ s.expected
IsSettled run.AppFault s = s.stored_expected ≡ s.expected
IsSettled run.StoreFault s = ⊤
IsSettled run.NumbersSpent s = ⊤
IsSettled run.OutOfMemory s = ⊤
IsSettled (run.Stopped cause) s = ⊤

-- answers that the end of the connection by the other side may come to: that it was closed so, unless the store
-- failed or out of memory after it
abbrev pub IsOver : RunEnd → Type 0
IsOver (run.Closed PeerEnd) = ⊤
IsOver (run.Closed (LoggedOut number)) = ⊥
IsOver (run.Closed (Refused number refusal)) = ⊥
IsOver run.StoreFault = ⊤
IsOver run.OutOfMemory = ⊤
IsOver run.TurnsSpent = ⊥
IsOver (run.NotBuilt number) = ⊥
IsOver run.LinkFault = ⊥
IsOver run.AppFault = ⊥
IsOver run.NumbersSpent = ⊥
IsOver (run.Stopped cause) = ⊥

-- a run answers that the other side ended the connection just where it read so
pub record ShowsPeerEnd (answer : RunEnd) (acts : List Act) : Type 0 where
  pub read : answer ≡ run.Closed PeerEnd → Among act.Ended acts
  pub only : Among act.Ended acts → IsOver answer
