-- A session stays sound: the steps of an answer may be carried out, and the state after it is bounded.
use Rattle.std.proofs.Common.{ℕ, List, Option, Some, None}
use Rattle.std.specs.List.{AllByRecursion}
use Rattle.fix_base.specs.declared.identity.Identity.{Identity}
use Rattle.fix_base.specs.Trace.{OutsideSeen}
use Rattle.fix_machine.specs.Event.{EventSeen, Frame, Inbound}
use Rattle.fix_machine.specs.Numbers.{IsNoMessage}
use Rattle.fix_steps.specs.Steps.{IsCarried}
use Rattle.fix_steps.specs.Told.{IsPossibleAnswer}
use Rattle.fix_steps.proofs.PossibleLemmas.{message_fine, other_fine}
use Rattle.fix_session.specs.Judged.{RulesSeen}
use Rattle.fix_session.specs.State.{State, IsSound, answer_of, decided}
use Rattle.fix_session.specs.Inbound.{IsInbound}
use Rattle.fix_session.proofs.InboundLemmas.{is_told}

-- what is decided at an event may be done, and leaves the session sound
pub record Decides (id : Identity) (w : OutsideSeen) (open_at : Option ℕ) (frame : Option (List ℕ)) (s : State) (e : EventSeen) : Type 0 where
  pub carried : AllByRecursion (IsCarried frame) (answer_of s e).steps
  pub sound : IsSound id w open_at (decided s e)

at_possible : (id : Identity) (w : OutsideSeen) (open_at : Option ℕ) (frame : Option (List ℕ)) (s : State) (e : EventSeen) → IsSound id w open_at s → IsPossibleAnswer frame (answer_of s e)
    → Decides id w open_at frame s e
at_possible id w open_at frame s e h p = record {
  carried = p.steps;
  sound = record { sender = h.sender; bounded = p.next; waiting = h.waiting; version = h.version };
}

pub decides_other : (id : Identity) (w : OutsideSeen) (open_at : Option ℕ) (s : State) (e : EventSeen) → IsSound id w open_at s → IsNoMessage e → Decides id w open_at None s e
decides_other id w open_at s e h other = at_possible id w open_at None s e h (other_fine s.machine.options s.machine.state e other h.version h.bounded)

pub decides_frame : (id : Identity) (w : OutsideSeen) (open_at : Option ℕ) (rules : RulesSeen) (frame : List ℕ) (s : State) (i : Inbound) → IsSound id w open_at s
    → IsInbound rules s.waiting frame i → Decides id w open_at (Some frame) s (Frame i)
decides_frame id w open_at rules frame s i h told =
    at_possible id w open_at (Some frame) s (Frame i) h (message_fine frame told.fields told.has i (is_told told) s.machine.options s.machine.state h.version h.bounded)
