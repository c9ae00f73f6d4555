-- The answer to a frame, as the code comes to it.
use Rattle.std.proofs.Common.{◌≡◌, ℕ, List, [], Bool, true, false, Option, Some, Result, sym, ap, subst, ◌∙◌}
use Rattle.std.specs.Prelude.{⊤}
use Rattle.std.specs.Borrow.{Bor}
use Rattle.std.specs.List.{AllByRecursion}
use Rattle.fix_base.specs.declared.identity.Identity.{Identity}
use Rattle.fix_base.specs.Trace.{OutsideSeen}
use Rattle.fix_outside.specs.Calls.{Call}
use Rattle.fix_fields.specs.declared.header.Envelope.{Envelope}
use Rattle.fix_fields.specs.Header.{Header}
use Rattle.fix_machine.specs.Event.{EventSeen, StepSeen, Frame}
use Rattle.fix_machine.specs.State.{MachineSeen}
use Rattle.fix_stage.specs.Combine.{AndThen}
use Rattle.fix_steps.specs.declared.ending.Ending.{Ending}
use Rattle.fix_steps.specs.Ending.{open_after}
use Rattle.fix_steps.specs.Steps.{IsCarried}
use Rattle.fix_session.specs.Judged.{RulesSeen}
use Rattle.fix_session.specs.State.{State, IsSound, AreWaiting, answer_of, decided}
use Rattle.fix_session.specs.Waits.{Waits, passes_by, unnumbered, waits, another_waits, no_room, wait_memory}
use Rattle.fix_session.specs.Answering.{Standing, WaitsIfNew, AnswersFrame, judged}
use Rattle.fix_session.proofs.InboundLemmas.{Told}
use Rattle.fix_session.proofs.SoundLemmas.{decides_frame}

abbrev machine_after : State → EventSeen → MachineSeen
machine_after s e = (decided s e).machine

abbrev with : State → MachineSeen → State
with s m = record { machine = m; sender = s.sender; waiting = s.waiting; asked = s.asked; logon_due = s.logon_due }

-- what is done with the steps of the event's answer is the answer to the frame
pub answered : (id : Identity) (rules : RulesSeen) (new : Bool) (frame : List ℕ) (s : State) (head : Bor Envelope) (steps : List StepSeen) (m : MachineSeen) (e : EventSeen)
    → Told rules s.waiting frame head e → steps ≡ (answer_of s e).steps → m ≡ machine_after s e → (calls : List Call) (r : Result ⊤ Ending) (to : State)
    → AndThen (WaitsIfNew new frame head.now.number steps) (Standing id (Some frame) steps) (with s m) calls r to → AnswersFrame id rules new frame s calls r to
answered id rules new frame s head steps m e t p q calls r to h =
    judged t.message t.inbound
    (subst (λ n. AndThen (WaitsIfNew new frame n (answer_of s (Frame t.message)).steps) (Standing id (Some frame) (answer_of s (Frame t.message)).steps) (decided s (Frame t.message)) calls r to) (ap (λ (x : Header). x.number) (sym t.header))
    (subst (λ xs. AndThen (WaitsIfNew new frame head.now.number xs) (Standing id (Some frame) xs) (decided s (Frame t.message)) calls r to) (p ∙ ap (λ x. (answer_of s x).steps) t.is)
    (subst (λ x. AndThen (WaitsIfNew new frame head.now.number steps) (Standing id (Some frame) steps) (with s x) calls r to) (q ∙ ap (machine_after s) t.is) h)))

-- its steps may be done
pub may_carry : (id : Identity) (w : OutsideSeen) (open_at : Option ℕ) (rules : RulesSeen) (frame : List ℕ) (s : State) (head : Bor Envelope) (steps : List StepSeen) (e : EventSeen)
    → Told rules s.waiting frame head e → steps ≡ (answer_of s e).steps → IsSound id w open_at s → AllByRecursion (IsCarried (Some frame)) steps
may_carry id w open_at rules frame s head steps e t p h =
    subst (λ xs. AllByRecursion (IsCarried (Some frame)) xs) (sym (p ∙ ap (λ x. (answer_of s x).steps) t.is)) (decides_frame id w open_at rules frame s t.message h t.inbound).carried

-- and it leaves the session sound
pub decided_sound : (id : Identity) (w : OutsideSeen) (open_at : Option ℕ) (rules : RulesSeen) (frame : List ℕ) (s : State) (head : Bor Envelope) (m : MachineSeen) (e : EventSeen)
    → Told rules s.waiting frame head e → m ≡ machine_after s e → IsSound id w open_at s → IsSound id w open_at (with s m)
decided_sound id w open_at rules frame s head m e t q h =
    subst (λ x. IsSound id w open_at (with s x)) (sym (q ∙ ap (machine_after s) t.is)) (decides_frame id w open_at rules frame s t.message h t.inbound).sound

-- ---- a frame that waits

waits_sound : (id : Identity) (w : OutsideSeen) (frame : List ℕ) (number : Option ℕ) (steps : List StepSeen) (s : State) (calls : List Call) (r : Result ⊤ Ending) (to : State)
    → Waits frame number steps s calls r to → IsSound id w (Some s.sender.numbers.last) s → AreWaiting to.waiting → IsSound id w (open_after r to.sender) to
waits_sound id w frame number steps s calls r to (passes_by e) h all = h
waits_sound id w frame number steps s calls r to (unnumbered e) h all = h
waits_sound id w frame number steps s calls r to (waits n so there alone room) h all = record { sender = h.sender; bounded = h.bounded; waiting = all; version = h.version }
waits_sound id w frame number steps s calls r to (another_waits n so there one) h all = h
waits_sound id w frame number steps s calls r to (no_room n so there full) h all = h
waits_sound id w frame number steps s calls r to (wait_memory n so there alone) h all = h

pub stays_sound : (id : Identity) (w : OutsideSeen) (new : Bool) (frame : List ℕ) (number : Option ℕ) (steps : List StepSeen) (s : State) (calls : List Call) (r : Result ⊤ Ending) (to : State)
    → WaitsIfNew new frame number steps s calls r to → IsSound id w (Some s.sender.numbers.last) s → AreWaiting to.waiting → IsSound id w (open_after r to.sender) to
stays_sound id w true frame number steps s calls r to h = waits_sound id w frame number steps s calls r to h
stays_sound id w false frame number steps s calls r to h = waits_sound id w frame number [] s calls r to h
