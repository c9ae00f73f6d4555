-- What the steps of an answer do to the numbers, one step after the other. Where an answer ends at one
-- of its steps, since no number is left, a write or a hand-over failed, or out of memory, the
-- steps before it stand, a count among them, and no later one is done.
use Rattle.std.specs.Prelude.{◌≡◌, ◌≤◌, ℕ, List, [], ◌∷◌, take, Bool, true, false}
use Rattle.std.specs.List.{list_any, AllByRecursion}
use Rattle.fix_admin.specs.Say.{SaySeen, Heartbeat, TestRequest, ResendRequest, Reject, GapFill, Logout, Logon}
use Rattle.fix_machine.specs.declared.state.Phase.{Phase}
use Rattle.fix_machine.specs.declared.state.Phase.TheVariants as phase
use Rattle.fix_machine.specs.Event.{EventSeen, StepSeen, Send, Serve, Hand, Stash, Expect, Confirm, Close, Nothing}
use Rattle.fix_machine.specs.Event as event
use Rattle.fix_machine.specs.State.{MachineState, number_after}
use Rattle.fix_machine.specs.Answer.{Answered}

-- the inbound number that is expected after a step
abbrev pub expected_by : StepSeen → ℕ → ℕ
expected_by (Send say) expected = expected
expected_by (Serve from to) expected = expected
expected_by Hand expected = expected
expected_by Stash expected = expected
expected_by (Expect number) expected = number
expected_by event.Reset expected = 1
expected_by Confirm expected = expected
expected_by (Close why) expected = expected
expected_by Nothing expected = expected

-- the last outbound number after a step
abbrev pub last_by : StepSeen → ℕ → ℕ
last_by (Send say) last = number_after last
last_by (Serve from to) last = last
last_by Hand last = last
last_by Stash last = last
last_by (Expect number) last = last
last_by event.Reset last = 0
last_by Confirm last = last
last_by (Close why) last = last
last_by Nothing last = last

abbrev pub expected_after : List StepSeen → ℕ → ℕ
expected_after [] expected = expected
expected_after (step ∷ steps) expected = expected_after steps (expected_by step expected)

abbrev pub last_after : List StepSeen → ℕ → ℕ
last_after [] last = last
last_after (step ∷ steps) last = last_after steps (last_by step last)

-- where an answer ends before its step of this place, counted from 0, this is expected, and this was
-- the last number sent
abbrev pub expected_before : ℕ → List StepSeen → ℕ → ℕ
expected_before place steps expected = expected_after (take place steps) expected

abbrev pub last_before : ℕ → List StepSeen → ℕ → ℕ
last_before place steps last = last_after (take place steps) last

-- a step that what is staged is kept and written before: an answer that has one does that before its
-- first step, so that a request which is served is counted only after it
abbrev pub is_after_a_flush : StepSeen → Bool
is_after_a_flush (Send say) = false
is_after_a_flush (Serve from to) = true
is_after_a_flush Hand = true
is_after_a_flush Stash = false
is_after_a_flush (Expect number) = false
is_after_a_flush event.Reset = true
is_after_a_flush Confirm = true
is_after_a_flush (Close why) = false
is_after_a_flush Nothing = false

abbrev pub begins_with_a_flush : List StepSeen → Bool
begins_with_a_flush steps = list_any is_after_a_flush steps

-- the state after an answer has the numbers that its steps say
pub record Adds (s : MachineState) (x : Answered) : Type 0 where
  pub expected : x.next.expected ≡ expected_after x.steps s.expected
  pub last : x.next.last ≡ last_after x.steps s.last

-- no Reject (3) is sent
abbrev pub IsNoRejectSaid : SaySeen → Type 0
IsNoRejectSaid (Heartbeat id) = Unit {0}
IsNoRejectSaid TestRequest = Unit {0}
IsNoRejectSaid (ResendRequest from to) = Unit {0}
IsNoRejectSaid (Reject about type fault) = ⊥
IsNoRejectSaid (GapFill next) = Unit {0}
IsNoRejectSaid (Logout text) = Unit {0}
IsNoRejectSaid (Logon heart reset version) = Unit {0}

abbrev pub IsNoReject : StepSeen → Type 0
IsNoReject (Send say) = IsNoRejectSaid say
IsNoReject (Serve from to) = Unit {0}
IsNoReject Hand = Unit {0}
IsNoReject Stash = Unit {0}
IsNoReject (Expect number) = Unit {0}
IsNoReject event.Reset = Unit {0}
IsNoReject Confirm = Unit {0}
IsNoReject (Close why) = Unit {0}
IsNoReject Nothing = Unit {0}

-- the expected number stays, and nothing is rejected
pub record IsPassive (s : MachineState) (x : Answered) : Type 0 where
  pub expected : x.next.expected ≡ s.expected
  pub quiet : AllByRecursion IsNoReject x.steps

-- the phases after the Logon
abbrev pub IsLoggedOn : Phase → Type 0
IsLoggedOn phase.Down = ⊥
IsLoggedOn phase.AwaitLogon = ⊥
IsLoggedOn phase.Up = Unit {0}
IsLoggedOn phase.LogoutSent = Unit {0}

-- an event other than a message
abbrev pub IsNoMessage : EventSeen → Type 0
IsNoMessage (event.Begin role now) = Unit {0}
IsNoMessage event.First = Unit {0}
IsNoMessage (event.Frame message) = ⊥
IsNoMessage (event.Moved waiting) = Unit {0}
IsNoMessage (event.Clock now inside) = Unit {0}
IsNoMessage (event.Leave now) = Unit {0}
IsNoMessage event.Ended = Unit {0}
IsNoMessage (event.Wrote now) = Unit {0}

-- the expected number doesn't fall, or a reset by Logon is answered
pub data Rises (s : MachineState) (x : Answered) : Type 0 where
  rises : s.expected ≤ x.next.expected → Rises s x
  resets : (steps : List StepSeen) → x.steps ≡ event.Reset ∷ steps → Rises s x
  confirms : (steps : List StepSeen) → x.steps ≡ Confirm ∷ steps → Rises s x
