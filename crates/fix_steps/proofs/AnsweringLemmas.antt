-- An answer sends, serves, hands the message over, keeps what is kept of resets, and does nothing else.
use Rattle.std.proofs.Common.{◌≢◌, ℕ, List, [], ◌∷◌, Option, Result, Ok, Err, sym, subst, arith}
use Rattle.std.specs.Prelude.{⊤}
use Rattle.std.specs.List.{AllByRecursion}
use Rattle.fix_base.specs.declared.identity.Identity.{Identity}
use Rattle.fix_base.specs.declared.entry.Entry.{Entry}
use Rattle.fix_base.specs.Payload.{IsPersistentEntry}
use Rattle.fix_base.specs.End.{ONCE}
use Rattle.fix_outside.specs.Calls.{Call}
use Rattle.fix_admin.specs.Say as say
use Rattle.fix_admin.specs.Say.{SaySeen, type_of}
use Rattle.fix_machine.specs.Event.{StepSeen}
use Rattle.fix_stage.specs.Combine as combine
use Rattle.fix_stage.specs.Combine.{Each, goes_well, fails}
use Rattle.fix_stage.specs.declared.sender.Sender.{Sender}
use Rattle.fix_stage.specs.declared.fault.StageFault.{StageFault}
use Rattle.fix_stage.specs.Flush.{Flushed}
use Rattle.fix_stage.specs.Serving.{Served}
use Rattle.fix_stage.specs.Staging.{MakesAndStages}
use Rattle.fix_stage.specs.Sendings.{IsSending, IsServing, SendsOnly}
use Rattle.fix_stage.specs.Stated.{IsTimely}
use Rattle.fix_stage.proofs.ServingLemmas.{served_serves}
use Rattle.fix_stage.proofs.SendsLemmas.{all-append, Flushed-sends, MakesAndStages-sends}
use Rattle.fix_steps.specs.Said.{said_outgoing, IsSayable}
use Rattle.fix_steps.specs.declared.ending.Ending.{Ending}
use Rattle.fix_steps.specs.Resetting as resetting
use Rattle.fix_steps.specs.Resetting.{Resetting, Confirming}
use Rattle.fix_steps.specs.Steps as steps
use Rattle.fix_steps.specs.Steps.{IsCarried, InAnswer, Handing, Performed, Begins, Done, Carried}
use Rattle.fix_steps.specs.Answering as answers
use Rattle.fix_steps.specs.Answering.{IsAnswering, AnswersOnly}
use Rattle.fix_steps.proofs.SaidLemmas.{said_is_outgoing}
use Rattle.fix_steps.proofs.SoundLemmas.{served_same}
use Rattle.fix_steps.proofs.CompleteLemmas.{step_stays, begins_stays}

abbrev Q : Entry → Type 0
Q = IsPersistentEntry

-- a session message isn't one that is sent once
no_once : (s : SaySeen) → IsSayable s → type_of s ≢ ONCE
no_once (say.Heartbeat id) h = λ e. omega arith
no_once say.TestRequest h = λ e. omega arith
no_once (say.ResendRequest from to) h = λ e. omega arith
no_once (say.Reject about type fault) h = λ e. omega arith
no_once (say.GapFill next) h = absurd h
no_once (say.Logout t) h = λ e. omega arith
no_once (say.Logon heart reset version) h = λ e. omega arith

module _ (frame : Option (List ℕ)) where
  sending_all : (calls : List Call) → AllByRecursion (IsSending Q) calls → AllByRecursion (IsAnswering Q frame) calls
  sending_all [] h = tt
  sending_all (x ∷ calls) h = (answers.sends h.0, sending_all calls h.1)

  sends_as : (calls : List Call) (to : Sender) → SendsOnly Q calls to → AnswersOnly Q frame calls to
  sends_as calls to h = record { each = sending_all calls h.each; staged = h.staged }

  in_answer : (R : Sender → List Call → Result ⊤ StageFault → Sender → Type 0) (b : Sender) → ((calls : List Call) (r : Result ⊤ StageFault) (to : Sender) → R b calls r to → SendsOnly Q calls to) → (calls : List Call) (r : Result ⊤ Ending) (to : Sender) → InAnswer R b calls r to → AnswersOnly Q frame calls to
  in_answer R b one calls r to (goes_well {s = s} d) = sends_as calls s (one calls (Ok tt) s d)
  in_answer R b one calls r to (fails {s = s} {e = e} d) = sends_as calls s (one calls (Err e) s d)

  -- the same of what makes other calls than sending
  in_answer_only : (R : Sender → List Call → Result ⊤ StageFault → Sender → Type 0) (b : Sender) → ((calls : List Call) (r : Result ⊤ StageFault) (to : Sender) → R b calls r to → AnswersOnly Q frame calls to) → (calls : List Call) (r : Result ⊤ Ending) (to : Sender) → InAnswer R b calls r to → AnswersOnly Q frame calls to
  in_answer_only R b one calls r to (goes_well {s = s} d) = one calls (Ok tt) s d
  in_answer_only R b one calls r to (fails {s = s} {e = e} d) = one calls (Err e) s d

  serving_all : (calls : List Call) → AllByRecursion IsServing calls → AllByRecursion (IsAnswering Q frame) calls
  serving_all [] h = tt
  serving_all (x ∷ calls) h = (answers.serves h.0, serving_all calls h.1)

  served_only : (id : Identity) (from until : ℕ) (b : Sender) (calls : List Call) (r : Result ⊤ StageFault) (to : Sender) → AllByRecursion Q b.stage.entries → Served id from until b calls r to → AnswersOnly Q frame calls to
  served_only id from until b calls r to all d = record { each = serving_all calls (served_serves id from until b calls r to d); staged = subst (λ (s : Sender). AllByRecursion Q s.stage.entries) (sym (served_same id from until b calls r to d)) all }

  -- ---- the other steps

  handing_only : (b : Sender) (calls : List Call) (r : Result ⊤ Ending) (to : Sender) → AllByRecursion Q b.stage.entries → Handing frame b calls r to → AnswersOnly Q frame calls to
  handing_only b calls r to all (steps.taken text fields is has) = record { each = (answers.hands text fields _ is has, tt); staged = all }
  handing_only b calls r to all (steps.hand_lost text fields is has) = record { each = (answers.hands text fields _ is has, tt); staged = all }
  handing_only b calls r to all (steps.hand_memory text fields is has) = record { each = (answers.hands text fields _ is has, tt); staged = all }
  handing_only b calls r to all steps.body_memory = record { each = tt; staged = all }

  resetting_only : (b : Sender) (calls : List Call) (r : Result ⊤ Ending) (to : Sender) → AllByRecursion Q b.stage.entries → Resetting b calls r to → AnswersOnly Q frame calls to
  resetting_only b calls r to all resetting.reset_kept = record { each = (answers.resets _ _, tt); staged = all }
  resetting_only b calls r to all resetting.reset_lost = record { each = (answers.resets _ _, tt); staged = all }
  resetting_only b calls r to all resetting.reset_memory = record { each = (answers.resets _ _, tt); staged = all }

  confirming_only : (b : Sender) (calls : List Call) (r : Result ⊤ Ending) (to : Sender) → AllByRecursion Q b.stage.entries → Confirming b calls r to → AnswersOnly Q frame calls to
  confirming_only b calls r to all resetting.confirm_kept = record { each = (answers.confirms _, tt); staged = all }
  confirming_only b calls r to all resetting.confirm_lost = record { each = (answers.confirms _, tt); staged = all }
  confirming_only b calls r to all resetting.confirm_memory = record { each = (answers.confirms _, tt); staged = all }

  module _ (id : Identity) where
    step_only : (x : StepSeen) → IsCarried frame x → (b : Sender) (calls : List Call) (r : Result ⊤ Ending) (to : Sender) → IsTimely b → AllByRecursion Q b.stage.entries → Performed id frame b x calls r to → AnswersOnly Q frame calls to
    step_only x fit b calls r to ok all (steps.says s d) =
        let m = said_outgoing id.begin b.numbers.reading s in
        let q : Q m.entry = record { payload = (said_is_outgoing id.begin b.numbers.reading s ok.reading fit).payload; kept = no_once s fit } in
        in_answer (MakesAndStages id m) b (λ calls r to d. MakesAndStages-sends Q id m q b calls r to all d) calls r to d
    step_only x fit b calls r to ok all (steps.serves from until d) = in_answer_only (Served id from until) b (λ calls r to d. served_only id from until b calls r to all d) calls r to d
    step_only x fit b calls r to ok all (steps.hands d) = handing_only b calls r to all d
    step_only x fit b calls r to ok all steps.waits = record { each = tt; staged = all }
    step_only x fit b calls r to ok all (steps.expects number) = record { each = tt; staged = all }
    step_only x fit b calls r to ok all (steps.resets d) = resetting_only b calls r to all d
    step_only x fit b calls r to ok all (steps.confirms d) = confirming_only b calls r to all d
    step_only x fit b calls r to ok all (steps.closes why) = record { each = tt; staged = all }
    step_only x fit b calls r to ok all steps.nothing = record { each = tt; staged = all }

    done_only : (xs : List StepSeen) → AllByRecursion (IsCarried frame) xs → (b : Sender) (calls : List Call) (r : Result ⊤ Ending) (to : Sender) → IsTimely b → AllByRecursion Q b.stage.entries → Done id frame xs b calls r to → AnswersOnly Q frame calls to
    done_only [] fit b calls r to ok all combine.none = record { each = tt; staged = all }
    done_only (x ∷ xs) fit b calls r to ok all (combine.ends {e = e} d) = step_only x fit.0 b calls (Err e) to ok all d
    done_only (x ∷ xs) fit b calls r to ok all (combine.goes {mid = mid} {first = first} {more = more} d k) =
        let one = step_only x fit.0 b first (Ok tt) mid ok all d in
        let others = done_only xs fit.1 mid more r to (step_stays id frame x b first (Ok tt) mid ok d) one.staged k in
        record { each = all-append (IsAnswering Q frame) first more one.each others.each; staged = others.staged }

    begins_only : (xs : List StepSeen) (b : Sender) (calls : List Call) (r : Result ⊤ Ending) (to : Sender) → AllByRecursion Q b.stage.entries → Begins xs b calls r to → AnswersOnly Q frame calls to
    begins_only xs b calls r to all (steps.flushes h d) = in_answer (Flushed 0) b (λ calls r to d. Flushed-sends Q 0 b calls r to all d) calls r to d
    begins_only xs b calls r to all (steps.at_once h) = record { each = tt; staged = all }

    pub carried_only : (xs : List StepSeen) → AllByRecursion (IsCarried frame) xs → (b : Sender) → IsTimely b → (calls : List Call) (r : Result ⊤ Ending) (to : Sender) → AllByRecursion Q b.stage.entries → Carried id frame xs b calls r to → AnswersOnly Q frame calls to
    carried_only xs fit b ok calls r to all (combine.first_ends {e = e} d) = begins_only xs b calls (Err e) to all d
    carried_only xs fit b ok calls r to all (combine.both {mid = mid} {first = first} {more = more} d k) =
        let one = begins_only xs b first (Ok tt) mid all d in
        let others = done_only xs fit mid more r to (begins_stays xs b first (Ok tt) mid ok d) one.staged k in
        record { each = all-append (IsAnswering Q frame) first more one.each others.each; staged = others.staged }
