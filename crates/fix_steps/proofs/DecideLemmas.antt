-- An answer of the machine leads from an end in step to one in step.
use Rattle.std.proofs.lemmas.Slice.Eq.{bytes_eq-Decides}
use Rattle.std.proofs.Common.{◌≡◌, ◌≢◌, ◌⊎◌, inl, inr, sym, ap, ◌∙◌, codes, ℕ, ◌&&◌, nat_lt, Bool, true, false, if◌then◌else◌, List, [], ◌∷◌, Option, Some, None, Result, Ok, Err, refl, subst}
use Rattle.std.specs.Prelude.{⊤}
use Rattle.std.specs.List.{AllByRecursion}
use Rattle.fix_base.specs.declared.identity.Identity.{Identity}
use Rattle.fix_base.specs.Session.{IsValidIdentity}
use Rattle.fix_base.specs.Fields.{Field}
use Rattle.fix_base.specs.Message.{Message}
use Rattle.fix_base.specs.Says.{HasFields, value_of, is_yes, message_of}
use Rattle.fix_base.specs.Logon.{IsLogon, IsResetLogon, IsFirstLogon, Begun}
use Rattle.fix_base.specs.EndStep.{Answer, AskedReset, OwnReset, Confirmed, EndState}
use Rattle.fix_admin.specs.Say as say
use Rattle.fix_admin.specs.declared.say.LogoutText.TheVariants as text
use Rattle.fix_machine.specs.declared.event.Why.TheVariants.{Silent, LogonLate, LogoutLate, OutOfWindow}
use Rattle.fix_machine.specs.declared.clock.Due.{Due}
use Rattle.fix_machine.specs.declared.clock.Due.TheVariants as due
use Rattle.fix_machine.specs.declared.state.Phase.{Phase}
use Rattle.fix_machine.specs.declared.state.Phase.TheVariants.{Down, AwaitLogon, Up, LogoutSent}
use Rattle.fix_machine.specs.declared.state.Requested.{Requested}
use Rattle.fix_machine.specs.declared.state.MachineState.{MachineState}
use Rattle.fix_machine.specs.declared.state.Options.{Options}
use Rattle.fix_machine.specs.State.{read_clock, heard}
use Rattle.fix_machine.specs.Event.{Inbound, StepSeen, EventSeen, Begin, First, Frame, Moved, Clock, Leave, Ended, Wrote}
use Rattle.fix_fields.specs.Header.{Header}
use Rattle.fix_machine.specs.Answer.{Answered, names, answer, silent, ask_step, asked}
use Rattle.fix_machine.specs.Clock as clocks
use Rattle.fix_machine.specs.declared.state.Role.{Role}
use Rattle.fix_machine.specs.declared.state.Role.TheVariants.{Acceptor, Initiator}
use Rattle.fix_machine.specs.Decide as decide
use Rattle.fix_machine.specs.Decide.{answer_to, moved_in, leave}
use Rattle.fix_machine.specs.Numbers.{expected_after}
use Rattle.fix_stage.specs.declared.sender.Sender.{Sender}
use Rattle.fix_stage.specs.Lawful.{After, LeadsFrom}
use Rattle.fix_stage.proofs.ChainLemmas.{level_fits}
use Rattle.fix_stage.proofs.PlainLemmas.{has_same}
use Rattle.fix_stage.proofs.LeadsLemmas.{leads_weaker}
use Rattle.fix_steps.specs.declared.ending.Ending.{Ending}
use Rattle.fix_steps.specs.Steps.{IsCarried, Carried}
use Rattle.fix_steps.specs.Lawful as lawful
use Rattle.fix_steps.specs.Lawful.{Standing, IsFresh, MayDo, MayDoAll, MayRenew, LetsCount, IsHeard, WasReadIn, IsAnswered, InStep, InBounds, Stands, AfterEnding}
use Rattle.fix_steps.specs.Told as tells
use Rattle.fix_steps.specs.Told.{IsTold, IsOther, MayBeDone, IsAskedBy, MayBegin, IsAwaiting, HasBegun}
use Rattle.fix_steps.proofs.StepLeads.{Bounded, fresh, carried_leads}
use Rattle.fix_steps.proofs.RenewLeads.{renewed_leads}
use Rattle.fix_steps.proofs.TableLemmas.{May, FirstMay, first_refuses, first_counts, first_renews, await_may, nothing_may, close_may, say_may, say_close_may, message_may}

-- ---- the number that is expected after it

one_expected : {x : Option Message} {at at' : Standing} {n n' m : ℕ} {step : StepSeen} (xs : List StepSeen) → MayDo x at n step at' n' → m ≡ expected_after xs n' → m ≡ expected_after (step ∷ xs) n
one_expected xs (lawful.may_say said is free) h = h
one_expected xs (lawful.may_reject marked body type f same is) h = h
one_expected xs (lawful.may_hand marked body same) h = h
one_expected xs (lawful.may_serve from until) h = h
one_expected xs lawful.may_wait h = h
one_expected xs (lawful.passes_app marked body same) h = h
one_expected xs (lawful.passes_admin y same at is) h = h
one_expected xs (lawful.passes_gap m same up is) h = h
one_expected xs (lawful.resets_to k m same up is) h = h
one_expected xs (lawful.may_close why) h = h
one_expected xs lawful.may_rest h = h

all_expected : {x : Option Message} {at to : Standing} {n m : ℕ} {xs : List StepSeen} → MayDoAll x at n xs to m → m ≡ expected_after xs n
all_expected lawful.all_done = refl
all_expected (lawful.first_may {steps = xs} one more) = one_expected xs one (all_expected more)

done : (x : Option Message) (n : ℕ) (a : Answered) → May x n a.steps → MayBeDone x n a
done x n a h = record {
  to = h.to;
  fresh = h.fresh;
  may = subst (λ (m : ℕ). lawful.MayAnswer x n a.steps h.to m) (all_expected h.may) h.may;
}

pub message_done : (o : Options) (s : MachineState) (fs : List Field) (i : Inbound) (frame : Option (List ℕ)) → IsTold fs i → s.phase ≢ AwaitLogon → AllByRecursion (IsCarried frame) (answer_to o s (Frame i)).steps → MayBeDone (message_of fs) s.expected (answer_to o s (Frame i))
message_done o s fs i frame told later fit = done (message_of fs) s.expected (answer_to o s (Frame i)) (message_may fs i told frame s.phase o (heard s) later fit)

-- of an answer that begins the numbers anew
renewed_expected : {x : Option Message} {answer : Answer} {to : Standing} {m : ℕ} {xs : List StepSeen} (n : ℕ) → MayRenew x answer xs to m → m ≡ expected_after xs n
renewed_expected n (lawful.renews_asked heart version rest) = all_expected rest
renewed_expected n (lawful.renews_own rest) = all_expected rest

begun_by : (x : Option Message) (s : MachineState) (i : Inbound) (a : Answered) → FirstMay x s.expected (heard s) i a → MayBegin x s i a
begun_by x s i a (first_refuses closed h) = tells.refuses h.to h.fresh closed (subst (λ (m : ℕ). lawful.MayAnswer None s.expected a.steps h.to m) (all_expected h.may) h.may)
begun_by x s i a (first_counts plain h) = tells.counts plain (done x s.expected a h)
begun_by x s i a (first_renews answer role asked h) = tells.renews answer h.to h.fresh role asked (subst (λ (m : ℕ). MayRenew x answer a.steps h.to m) (renewed_expected s.expected h.may) h.may)

awaited_in : (p : Phase) (o : Options) (s : MachineState) (fs : List Field) (i : Inbound) (frame : Option (List ℕ)) → IsTold fs i → p ≡ AwaitLogon → s.reset_asked ≡ false → AllByRecursion (IsCarried frame) (decide.message p o (heard s) i).steps → MayBegin (message_of fs) s i (decide.message p o (heard s) i)
awaited_in Down o s fs i frame h is none fit = cc
awaited_in AwaitLogon o s fs i frame h is none fit = begun_by (message_of fs) s i (decide.message AwaitLogon o (heard s) i) (await_may fs i h frame o (heard s) none fit)
awaited_in Up o s fs i frame h is none fit = cc
awaited_in LogoutSent o s fs i frame h is none fit = cc

pub first_done : (o : Options) (s : MachineState) (fs : List Field) (i : Inbound) (frame : Option (List ℕ)) → IsTold fs i → s.phase ≡ AwaitLogon → s.reset_asked ≡ false → AllByRecursion (IsCarried frame) (answer_to o s (Frame i)).steps → MayBegin (message_of fs) s i (answer_to o s (Frame i))
first_done o s fs i frame h is none fit = awaited_in s.phase o s fs i frame h is none fit

-- ---- other events

module _ (x : Option Message) where
  window_may : (p : Phase) (now : ℕ) (s : MachineState) → May x s.expected (clocks.out_of_window p now s).steps
  window_may Down now s = nothing_may x s.expected
  window_may AwaitLogon now s = close_may x s.expected (OutOfWindow now)
  window_may Up now s = say_close_may x s.expected (say.Logout text.OutOfWindow) (OutOfWindow now) tt
  window_may LogoutSent now s = close_may x s.expected (OutOfWindow now)

  due_may : (d : Option Due) (s : MachineState) → May x s.expected (clocks.due_answer d s).steps
  due_may None s = nothing_may x s.expected
  due_may (Some due.LogonLate) s = close_may x s.expected (LogonLate s.begun s.reading)
  due_may (Some due.LogoutLate) s = close_may x s.expected (LogoutLate s.left_at s.reading)
  due_may (Some (due.Silent since)) s = close_may x s.expected (Silent since s.reading)
  due_may (Some due.TestRequest) s = say_may x s.expected say.TestRequest tt
  due_may (Some due.Heartbeat) s = say_may x s.expected (say.Heartbeat None) tt

  clock_may : (o : Options) (s : MachineState) (inside : Bool) → May x s.expected (clocks.clock o s inside).steps
  clock_may o s false = window_may s.phase s.reading s
  clock_may o s true = due_may (clocks.due_at o s s.reading) s

  ask_if : (b : Bool) (n : ℕ) (p q : Answered) → May x n p.steps → May x n q.steps → May x n (if b then p else q).steps
  ask_if true n p q h k = h
  ask_if false n p q h k = k

  moved_may : (gap : Option Requested) (o : Options) (s : MachineState) → May x s.expected (moved_in gap o s).steps
  moved_may None o s = nothing_may x s.expected
  moved_may (Some gap) o s =
      ask_if (nat_lt gap.above s.expected) s.expected (silent (record s { resend_requested = None })) (if nat_lt 0 o.chunk && nat_lt gap.end s.expected then answer (ask_step o gap.above s ∷ []) (asked o gap.above s) else silent s) (nothing_may x s.expected)
      (ask_if (nat_lt 0 o.chunk && nat_lt gap.end s.expected) s.expected (answer (ask_step o gap.above s ∷ []) (asked o gap.above s)) (silent s) (say_may x s.expected (say.ResendRequest _ _) tt) (nothing_may x s.expected))

  left_may : (p : Phase) (s : MachineState) → May x s.expected (leave p s).steps
  left_may Down s = nothing_may x s.expected
  left_may AwaitLogon s = nothing_may x s.expected
  left_may Up s = say_may x s.expected (say.Logout text.Empty) tt
  left_may LogoutSent s = nothing_may x s.expected

  other_may : (o : Options) (s : MachineState) (e : EventSeen) → IsOther s e → May x s.expected (answer_to o s e).steps
  other_may o s (Begin role now) is = nothing_may x s.expected
  other_may o s First is = say_may x s.expected (say.Logon s.heart s.reset_asked o.version) is
  other_may o s (Frame i) is = absurd is
  other_may o s (Moved waiting) is = moved_may s.resend_requested o s
  other_may o s (Clock now inside) is = clock_may o (read_clock now s) inside
  other_may o s (Leave now) is = left_may s.phase (read_clock now s)
  other_may o s Ended is = nothing_may x s.expected
  other_may o s (Wrote now) is = nothing_may x s.expected

pub other_done : (o : Options) (s : MachineState) (e : EventSeen) → IsOther s e → (x : Option Message) → MayBeDone x s.expected (answer_to o s e)
other_done o s e is x = done x s.expected (answer_to o s e) (other_may x o s e is)

-- ---- the end in step

-- what may be answered next is in step
next_in_step : (id : Identity) (read : List ℕ) (resets : List Answer) (to : Standing) (m : ℕ) → IsFresh to → (r : Result ⊤ Ending) (b : Sender) (e : EndState) → After (AfterEnding id read) (Bounded id read resets to m) r b e → After (AfterEnding id read) (InBounds (InStep id read resets m)) r b e
next_in_step id read resets to m is (Ok x) b e h = record { is = fresh id read resets to m b e is h.is; last = h.last }
next_in_step id read resets to m is (Err end) b e h = h

pub done_leads : (id : Identity) (read : List ℕ) (resets : List Answer) (frame : Option (List ℕ)) (x : Option Message) (n : ℕ) (a : Answered) → IsValidIdentity id → IsAnswered read resets frame x → AllByRecursion (IsCarried frame) a.steps → MayBeDone x n a → LeadsFrom id (AfterEnding id read) (InBounds (InStep id read resets n)) (Carried id frame a.steps) (InBounds (InStep id read resets (expected_after a.steps n)))
done_leads id read resets frame x n a valid answered fit h b calls r to d e p =
    leads_weaker id e calls (After (AfterEnding id read) (Bounded id read resets h.to (expected_after a.steps n)) r to) (After (AfterEnding id read) (InBounds (InStep id read resets (expected_after a.steps n))) r to)
    (λ e' q. next_in_step id read resets h.to (expected_after a.steps n) h.fresh r to e' q)
    (carried_leads id read resets valid frame x answered n (expected_after a.steps n) a.steps h.to h.may fit b calls r to d e p)

-- the message of a frame, by its fields
answered_by : (read : List ℕ) (resets : List Answer) (text : List ℕ) (fs : List Field) (x : Option Message) → message_of fs ≡ x → HasFields text fs → LetsCount read resets → ((y : Message) → x ≡ Some y → WasReadIn read y) → IsAnswered read resets (Some text) x
answered_by read resets text fs None is has plain shown = lawful.silent (Some text)
answered_by read resets text fs (Some y) is has plain shown = lawful.says text y (record { fields = fs; has = has; says = is }) plain (shown y refl)

pub message_leads : (id : Identity) (read : List ℕ) (resets : List Answer) (text : List ℕ) (fs : List Field) (o : Options) (s : MachineState) (i : Inbound) → IsValidIdentity id → HasFields text fs → LetsCount read resets → ((y : Message) → message_of fs ≡ Some y → WasReadIn read y) → IsTold fs i → s.phase ≢ AwaitLogon → AllByRecursion (IsCarried (Some text)) (answer_to o s (Frame i)).steps
    → LeadsFrom id (AfterEnding id read) (InBounds (InStep id read resets s.expected)) (Carried id (Some text) (answer_to o s (Frame i)).steps) (InBounds (InStep id read resets (expected_after (answer_to o s (Frame i)).steps s.expected)))
message_leads id read resets text fs o s i valid has lets shown h later fit =
    done_leads id read resets (Some text) (message_of fs) s.expected (answer_to o s (Frame i)) valid (answered_by read resets text fs (message_of fs) refl has lets shown) fit (message_done o s fs i (Some text) h later fit)

-- ---- the first message

begun_with : (P : List ℕ → Type 0) (read text : List ℕ) → Begun (λ t. t ≡ text) read → P text → Begun P read
begun_with P read text h p = record { text = h.text; others = h.others; items = h.items; rest = h.rest; takes = h.takes; first = h.first; is = subst P (sym h.is) p }

-- the type, the flag and the number that the machine was told of are those of the frame
typed_logon : (fs : List Field) (i : Inbound) → IsTold fs i → names i.header.type (codes "A") ≡ true → value_of 35 fs ≡ Some (codes "A")
typed_logon fs i h logon =
    let same = ap (λ (x : Header). names x.type (codes "A")) h.header ∙ ap (λ (o : Option (List ℕ)). names o (codes "A")) h.typed in
    h.typed ∙ ap Some ((bytes_eq-Decides h.type (codes "A")).0 (sym same ∙ logon))

flagged : (o : Option (List ℕ)) → is_yes o ≡ true → o ≡ Some (codes "Y")
flagged None e = cc
flagged (Some v) e = ap Some ((bytes_eq-Decides v (codes "Y")).0 e)

is_first_logon : (text : List ℕ) (fs : List Field) (i : Inbound) → HasFields text fs → IsTold fs i → IsAskedBy i AskedReset → IsFirstLogon text
is_first_logon text fs i has h asked = record {
  fields = fs;
  has = has;
  type = typed_logon fs i h asked.0;
  flag = flagged (value_of 141 fs) (sym h.reset ∙ asked.1);
  number = sym (ap (λ (x : Header). x.number) h.header) ∙ asked.2;
}

is_plain : (text : List ℕ) (fs : List Field) (i : Inbound) → HasFields text fs → IsTold fs i → i.reset ≡ false → IsResetLogon text → ⊥
is_plain text fs i has h none l =
    let same = has_same text l.fields fs l.has has in
    let yes : is_yes (value_of 141 fs) ≡ true = ap is_yes (sym (ap (value_of 141) same) ∙ l.flag) in
    let both : true ≡ false = sym yes ∙ sym h.reset ∙ none in cc

heard_by : (read text : List ℕ) (fs : List Field) (i : Inbound) (answer : Answer) → HasFields text fs → IsTold fs i → Begun (λ t. t ≡ text) read → IsAskedBy i answer → IsHeard read answer
heard_by read text fs i AskedReset has h begun asked = lawful.asked (begun_with IsFirstLogon read text begun (is_first_logon text fs i has h asked))
heard_by read text fs i OwnReset has h begun asked =
    lawful.unasked (begun_with IsLogon read text begun (record { fields = fs; has = has; type = typed_logon fs i h asked.0 })) (begun_with (λ t. IsResetLogon t → ⊥) read text begun (is_plain text fs i has h asked.1))
heard_by read text fs i Confirmed has h begun asked = absurd asked

-- the end that awaits it is in step
awaited_in_step : (id : Identity) (read : List ℕ) (side : Role) (n : ℕ) (b : Sender) (e : EndState) → IsAwaiting id read side n b e → InBounds (InStep id read [] n) b e
awaited_in_step id read Acceptor n b e h = record { is = record { given = []; fits = level_fits id read [] [] n b e h.is.level; below = λ k a. elim a [ ] }; last = h.last }
awaited_in_step id read Initiator n b e h = h

has_begun : (id : Identity) (read : List ℕ) (resets : List Answer) (p : Phase) (m : ℕ) → LetsCount read resets ⊎ (p ≡ Down) → (r : Result ⊤ Ending) (b : Sender) (e : EndState) → After (AfterEnding id read) (InBounds (InStep id read resets m)) r b e → After (AfterEnding id read) (HasBegun id read p m) r b e
has_begun id read resets p m lets (Ok x) b e h = record { resets = resets; lets = lets; stands = h }
has_begun id read resets p m lets (Err f) b e h = h

module _ (id : Identity) (read text : List ℕ) (fs : List Field) (s : MachineState) (i : Inbound) (a : Answered) (valid : IsValidIdentity id) (has : HasFields text fs) (begun : Begun (λ t. t ≡ text) read) (shown : (y : Message) → message_of fs ≡ Some y → WasReadIn read y) (h : IsTold fs i) (fit : AllByRecursion (IsCarried (Some text)) a.steps) where
  first_by : MayBegin (message_of fs) s i a → LeadsFrom id (AfterEnding id read) (IsAwaiting id read s.role s.expected) (Carried id (Some text) a.steps) (HasBegun id read a.next.phase (expected_after a.steps s.expected))
  first_by (tells.refuses to fresh_to closed may) b calls r after d e p =
      let m = expected_after a.steps s.expected in
      leads_weaker id e calls (After (AfterEnding id read) (InBounds (InStep id read [] m)) r after) (After (AfterEnding id read) (HasBegun id read a.next.phase m) r after)
      (λ e' q. has_begun id read [] a.next.phase m (inr closed) r after e' q)
      (done_leads id read [] (Some text) None s.expected a valid (lawful.silent (Some text)) fit (record { to = to; fresh = fresh_to; may = may }) b calls r after d e (awaited_in_step id read s.role s.expected b e p))
  first_by (tells.counts plain may) b calls r after d e p =
      let m = expected_after a.steps s.expected in
      let lets : LetsCount read [] = lawful.begins_plainly (begun_with (λ t. IsResetLogon t → ⊥) read text begun (is_plain text fs i has h plain)) in
      leads_weaker id e calls (After (AfterEnding id read) (InBounds (InStep id read [] m)) r after) (After (AfterEnding id read) (HasBegun id read a.next.phase m) r after)
      (λ e' q. has_begun id read [] a.next.phase m (inl lets) r after e' q)
      (done_leads id read [] (Some text) (message_of fs) s.expected a valid (answered_by read [] text fs (message_of fs) refl has lets shown) fit may b calls r after d e (awaited_in_step id read s.role s.expected b e p))
  first_by (tells.renews answer to fresh_to role asked may) b calls r after d e p =
      let m = expected_after a.steps s.expected in
      let lets : LetsCount read (answer ∷ []) = lawful.kept_some (λ none. cc) in
      leads_weaker id e calls (After (AfterEnding id read) (Bounded id read (answer ∷ []) to m) r after) (After (AfterEnding id read) (HasBegun id read a.next.phase m) r after)
      (λ e' q. has_begun id read (answer ∷ []) a.next.phase m (inl lets) r after e' (next_in_step id read (answer ∷ []) to m fresh_to r after e' q))
      (renewed_leads id read valid (Some text) (message_of fs) s.expected answer a.steps to m (heard_by read text fs i answer has h begun asked) (answered_by read (answer ∷ []) text fs (message_of fs) refl has lets shown) may fit b calls r after d e
      (subst (λ (side : Role). IsAwaiting id read side s.expected b e) role p))

pub first_leads : (id : Identity) (read text : List ℕ) (fs : List Field) (o : Options) (s : MachineState) (i : Inbound) → IsValidIdentity id → HasFields text fs → Begun (λ t. t ≡ text) read → ((y : Message) → message_of fs ≡ Some y → WasReadIn read y) → IsTold fs i → s.phase ≡ AwaitLogon → s.reset_asked ≡ false → AllByRecursion (IsCarried (Some text)) (answer_to o s (Frame i)).steps
    → LeadsFrom id (AfterEnding id read) (IsAwaiting id read s.role s.expected) (Carried id (Some text) (answer_to o s (Frame i)).steps) (HasBegun id read (answer_to o s (Frame i)).next.phase (expected_after (answer_to o s (Frame i)).steps s.expected))
first_leads id read text fs o s i valid has begun shown h is none fit =
    first_by id read text fs s i (answer_to o s (Frame i)) valid has begun shown h fit (first_done o s fs i (Some text) h is none fit)

pub other_leads : (id : Identity) (read : List ℕ) (resets : List Answer) (o : Options) (s : MachineState) (e : EventSeen) → IsValidIdentity id → IsOther s e → AllByRecursion (IsCarried None) (answer_to o s e).steps → LeadsFrom id (AfterEnding id read) (InBounds (InStep id read resets s.expected)) (Carried id None (answer_to o s e).steps) (InBounds (InStep id read resets (expected_after (answer_to o s e).steps s.expected)))
other_leads id read resets o s e valid is fit =
    done_leads id read resets None None s.expected (answer_to o s e) valid (lawful.silent None) fit (other_done o s e is None)
