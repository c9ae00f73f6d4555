-- The numbers that an answer leaves, and the order of its steps.
use Rattle.std.specs.Prelude.{◌≡◌, ◌+◌, ℕ, not, if◌then◌else◌, List, [], ◌∷◌, length, Bool, true, false}
use Rattle.std.specs.List.{list_any, list_all}
use Rattle.fix_machine.specs.Event.{StepSeen, Send, Serve, Hand, Stash, Expect, Reset, Confirm, Close, Nothing}
use Rattle.fix_machine.specs.Numbers.{expected_after, last_after}
use Rattle.fix_stage.specs.declared.sender.Sender.{Sender}

-- ---- the numbers

-- the last MsgSeqNum (34) that a message took: it is kept, or staged
abbrev pub last_taken : Sender → ℕ
last_taken b = b.numbers.last + length b.stage.entries

-- the numbers are those that the steps say
pub record HasNumbers (steps : List StepSeen) (b to : Sender) : Type 0 where
  pub expected : to.numbers.expected ≡ expected_after steps b.numbers.expected
  pub last : last_taken to ≡ last_after steps (last_taken b)

-- ---- the order

abbrev pub is_reset : StepSeen → Bool
is_reset (Send say) = false
is_reset (Serve from to) = false
is_reset Hand = false
is_reset Stash = false
is_reset (Expect number) = false
is_reset Reset = true
is_reset Confirm = false
is_reset (Close why) = false
is_reset Nothing = false

abbrev pub is_close : StepSeen → Bool
is_close (Send say) = false
is_close (Serve from to) = false
is_close Hand = false
is_close Stash = false
is_close (Expect number) = false
is_close Reset = false
is_close Confirm = false
is_close (Close why) = true
is_close Nothing = false

abbrev pub is_nothing : StepSeen → Bool
is_nothing (Send say) = false
is_nothing (Serve from to) = false
is_nothing Hand = false
is_nothing Stash = false
is_nothing (Expect number) = false
is_nothing Reset = false
is_nothing Confirm = false
is_nothing (Close why) = false
is_nothing Nothing = true

-- none but the first step is a reset
abbrev pub resets_first : List StepSeen → Bool
resets_first [] = true
resets_first (step ∷ steps) = not (list_any is_reset steps)

-- after a close there is nothing
abbrev pub closes_last : List StepSeen → Bool
closes_last [] = true
closes_last (step ∷ steps) = if is_close step then list_all is_nothing steps else closes_last steps

-- A reset stands first: what took a number before it went out by then. A close stands last
pub record IsInOrder (steps : List StepSeen) : Type 0 where
  pub resets : resets_first steps ≡ true
  pub closes : closes_last steps ≡ true
