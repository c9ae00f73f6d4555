-- Each fault of a run has its cause.
use Rattle.std.proofs.Common.{ℕ, List, [], ◌∷◌, Bool, true, false, Option, Result, Ok, Err, sym, subst, replicate, arith}
use Rattle.std.specs.Prelude.{⊤, is_some}
use Rattle.fix_base.specs.declared.identity.Identity.{Identity}
use Rattle.fix_base.specs.Trace.{OutsideSeen}
use Rattle.fix_outside.specs.Calls.{Call, HasCalls, Read, Look, Ask}
use Rattle.fix_machine.specs.Event.{EventSeen, StepSeen, First, Moved, Clock, Wrote}
use Rattle.fix_stage.specs.Combine.{goes_well, fails, AndThen}
use Rattle.fix_stage.specs.declared.sender.Sender.{Sender}
use Rattle.fix_stage.specs.declared.fault.StageFault.{StageFault}
use Rattle.fix_stage.specs.Causes as stage
use Rattle.fix_stage.specs.Causes.{HasFailed, Blames, Blaming}
use Rattle.fix_stage.specs.Flush.{Settled}
use Rattle.fix_stage.specs.Staging.{StagesPending}
use Rattle.fix_stage.proofs.CombineLemmas.{Each-blames, Then-blames, Blames-after, Blames-before, has_risen}
use Rattle.fix_stage.proofs.SendingLemmas.{Settled-blames, StagesPending-blames}
use Rattle.fix_steps.specs.declared.ending.Ending.{Ending}
use Rattle.fix_steps.specs.Causes.{blame_of, HasCause}
use Rattle.fix_steps.proofs.CauseLemmas.{Carried-blames, same_blame}
use Rattle.fix_session.specs.Judged.{RulesSeen}
use Rattle.fix_session.specs.State.{State, answer_of, decided, expected_of}
use Rattle.fix_session.specs.Waits as waiting
use Rattle.fix_session.specs.Waits.{Waits, While, waits_at, due_frame, passed}
use Rattle.fix_session.specs.Answering as answering
use Rattle.fix_session.specs.Answering.{Carrying, Stood, Standing, Answers, WaitsIfNew, AnswersFrame, Moves, Round, OneWaiting, CatchesUp, Receives}
use Rattle.fix_session.specs.Work.{WorkSeen}
use Rattle.fix_session.specs.Turn as turns
use Rattle.fix_session.specs.Turn.{read_at, logged_on, Sending, Beside, Noted, StagesDraft, OffersDraft, Offers, ReceivesAll, Feeds, Reads, Looks, Meets, Settles, Turn, OneTurn, Turns, Leaves, Runs}

-- ---- an answer

Carrying-blames : (id : Identity) (frame : Option (List ℕ)) (xs : List StepSeen) → Blaming blame_of (Carrying id frame xs)
Carrying-blames id frame xs s calls r to (goes_well d) = tt
Carrying-blames id frame xs s calls r to (fails {s = b} {e = e} d) = Carried-blames id frame xs s.sender calls (Err e) b d

Stood-blames : Blaming blame_of Stood
Stood-blames s calls r to answering.stood = tt

Standing-blames : (id : Identity) (frame : Option (List ℕ)) (xs : List StepSeen) → Blaming blame_of (Standing id frame xs)
Standing-blames id frame xs = Then-blames blame_of (Carrying id frame xs) Stood (Carrying-blames id frame xs) Stood-blames

pub Answers-blames : (id : Identity) (e : EventSeen) → Blaming blame_of (Answers id e)
Answers-blames id e s calls r to d = Standing-blames id _ (answer_of s e).steps (decided s e) calls r to d

Waits-blames : (frame : List ℕ) (number : Option ℕ) (xs : List StepSeen) → Blaming blame_of (Waits frame number xs)
Waits-blames frame number xs s calls r to (waiting.passes_by e) = tt
Waits-blames frame number xs s calls r to (waiting.unnumbered e) = tt
Waits-blames frame number xs s calls r to (waiting.waits n so there alone room) = tt
Waits-blames frame number xs s calls r to (waiting.another_waits n so there one) = tt
Waits-blames frame number xs s calls r to (waiting.no_room n so there full) = tt
Waits-blames frame number xs s calls r to (waiting.wait_memory n so there alone) = tt

WaitsIfNew-blames : (new : Bool) (frame : List ℕ) (number : Option ℕ) (xs : List StepSeen) → Blaming blame_of (WaitsIfNew new frame number xs)
WaitsIfNew-blames true frame number xs s calls r to d = Waits-blames frame number xs s calls r to d
WaitsIfNew-blames false frame number xs s calls r to d = Waits-blames frame number _ s calls r to d

AnswersFrame-blames : (id : Identity) (rules : RulesSeen) (new : Bool) (frame : List ℕ) → Blaming blame_of (AnswersFrame id rules new frame)
AnswersFrame-blames id rules new frame s calls r to answering.not_judged = tt
AnswersFrame-blames id rules new frame s calls r to (answering.judged i told d) =
    Then-blames blame_of _ _ (WaitsIfNew-blames new frame i.header.number _) (Standing-blames id _ _) _ calls r to d

Moves-blames : (id : Identity) (before : ℕ) → Blaming blame_of (Moves id before)
Moves-blames id before s calls r to (answering.stays e) = tt
Moves-blames id before s calls r to (answering.moves e d) = Answers-blames id (Moved (is_some (waits_at (expected_of s) s.waiting))) s calls r to d

Round-blames : (id : Identity) (rules : RulesSeen) (new : Bool) (frame : List ℕ) → Blaming blame_of (Round id rules new frame)
Round-blames id rules new frame s calls r to d =
    Then-blames blame_of (AnswersFrame id rules new frame) (Moves id (expected_of s)) (AnswersFrame-blames id rules new frame) (Moves-blames id (expected_of s)) s calls r to d

While-blames : {S X : Type 0} (next : S → Option X) (go : S → S) (R : S → X → List Call → Result ⊤ Ending → S → Type 0) → ((x : X) → Blaming blame_of (λ s. R s x))
    → Blaming blame_of (While next go R)
While-blames next go R one s calls r to (waiting.rests e) = tt
While-blames next go R one s calls r to (waiting.stops {calls = these} {e = e} x is d) = one x (go s) these (Err e) to d
While-blames next go R one s calls r to (waiting.goes_on {mid = mid} {first = first} {more = more} x is d k) = Blames-after blame_of r first more (While-blames next go R one mid more r to k)

CatchesUp-blames : (id : Identity) (rules : RulesSeen) → Blaming blame_of (CatchesUp id rules)
CatchesUp-blames id rules = While-blames due_frame passed (OneWaiting id rules) (λ frame. Round-blames id rules false frame)

pub Receives-blames : (id : Identity) (rules : RulesSeen) (frame : List ℕ) → Blaming blame_of (Receives id rules frame)
Receives-blames id rules frame = Then-blames blame_of (Round id rules true frame) (CatchesUp id rules) (Round-blames id rules true frame) (CatchesUp-blames id rules)

-- ---- a turn

Sending-blames : (R : Sender → List Call → Result ⊤ StageFault → Sender → Type 0) → Blaming stage.blame_of R → Blaming blame_of (Sending R)
Sending-blames R one s calls r to (goes_well d) = tt
Sending-blames R one s calls r to (fails {s = b} {e = e} d) = subst (λ x. HasFailed x calls) (sym (same_blame e)) (one s.sender calls (Err e) b d)

Beside-blames : (R : State → List Call → Result ⊤ Ending → State → Type 0) → Blaming blame_of R → Blaming blame_of (Beside R)
Beside-blames R one w calls r to (goes_well d) = tt
Beside-blames R one w calls r to (fails {s = s} {e = e} d) = one w.state calls (Err e) s d

Noted-blames : (id : Identity) → Blaming blame_of (Noted id)
Noted-blames id s calls r to d = Answers-blames id (Wrote s.sender.numbers.reading) s calls r to d

StagesDraft-blames : (id : Identity) → Blaming blame_of (StagesDraft id)
StagesDraft-blames id s calls r to (turns.no_draft e) = tt
StagesDraft-blames id s calls r to (turns.drafts e d) =
    Then-blames blame_of (Sending (StagesPending id)) (Noted id) (Sending-blames (StagesPending id) (StagesPending-blames id)) (Noted-blames id) s calls r to d

after_ask : (draft : Option (List ℕ)) (r : Result ⊤ Ending) (calls : List Call) → Blames blame_of r calls → Blames blame_of r (Ask draft ∷ calls)
after_ask draft r calls h = Blames-after blame_of r (Ask draft ∷ []) calls h

OffersDraft-blames : (id : Identity) → Blaming blame_of (OffersDraft id)
OffersDraft-blames id s calls r to (turns.asks {calls = more} draft e d) = after_ask _ r more (StagesDraft-blames id _ more r to d)
OffersDraft-blames id s calls r to (turns.in_hand e d) = StagesDraft-blames id s calls r to d

Offers-blames : (id : Identity) → Blaming blame_of (Offers id)
Offers-blames id s calls r to (turns.logs_on e d) = Answers-blames id First (logged_on s) calls r to d
Offers-blames id s calls r to (turns.not_up e f) = tt
Offers-blames id s calls r to (turns.is_up e f d) = OffersDraft-blames id s calls r to d

ReceivesAll-blames : (id : Identity) (rules : RulesSeen) → Blaming blame_of (ReceivesAll id rules)
ReceivesAll-blames id rules w calls r to (turns.no_more after none) = tt
ReceivesAll-blames id rules w calls r to (turns.ends {s = s} {e = e} frame after gives d) = Receives-blames id rules frame w.state calls (Err e) s d
ReceivesAll-blames id rules w calls r to (turns.goes {s = s} {first = first} {more = more} frame after gives d k) =
    Blames-after blame_of r first more (ReceivesAll-blames id rules _ more r to k)

Feeds-blames : (id : Identity) (rules : RulesSeen) (bytes : List ℕ) → Blaming blame_of (Feeds id rules bytes)
Feeds-blames id rules bytes w calls r to (turns.feeds d) = ReceivesAll-blames id rules _ calls r to d
Feeds-blames id rules bytes w calls r to turns.not_fed = tt

Reads-blames : (id : Identity) (rules : RulesSeen) → Blaming blame_of (Reads id rules)
Reads-blames id rules w calls r to (turns.bytes {calls = more} b some few d) = Blames-after blame_of r (Read 65536 _ ∷ []) more (Feeds-blames id rules b w more r to d)
Reads-blames id rules w calls r to turns.idle = tt
Reads-blames id rules w calls r to turns.over = tt
Reads-blames id rules w calls r to turns.read_lost = omega arith
Reads-blames id rules w calls r to turns.read_memory = tt

Looks-blames : (id : Identity) → Blaming blame_of (Looks id)
Looks-blames id s calls r to (turns.looks {calls = more} time d) = Blames-after blame_of r (Look (Ok time) ∷ []) more (Answers-blames id (Clock time true) (read_at s time) more r to d)
Looks-blames id s calls r to (turns.look_memory e) = tt

Meets-blames : (id : Identity) (rules : RulesSeen) → Blaming blame_of (Meets id rules)
Meets-blames id rules =
    Then-blames blame_of (Beside (Offers id)) (AndThen (Reads id rules) (Beside (Looks id))) (Beside-blames (Offers id) (Offers-blames id))
    (Then-blames blame_of (Reads id rules) (Beside (Looks id)) (Reads-blames id rules) (Beside-blames (Looks id) (Looks-blames id)))

Settles-blames : Blaming blame_of Settles
Settles-blames = Beside-blames (Sending Settled) (Sending-blames Settled Settled-blames)

Turn-blames : (id : Identity) (rules : RulesSeen) → Blaming blame_of (Turn id rules)
Turn-blames id rules w calls r to (turns.stops e d) = Meets-blames id rules w calls r to d
Turn-blames id rules w calls r to (turns.settles {mid = mid} {first = first} {more = more} e d k) = Blames-before blame_of r first more (Meets-blames id rules w first r mid d)
Turn-blames id rules w calls r to (turns.settles_not {mid = mid} {first = first} {more = more} {e = x} e d k) = Blames-after blame_of r first more (Settles-blames mid more (Err x) to k)

Turns-blames : (id : Identity) (rules : RulesSeen) (n : ℕ) → Blaming blame_of (Turns id rules n)
Turns-blames id rules n = Each-blames blame_of (OneTurn id rules) (λ u. Turn-blames id rules) (replicate n tt)

Leaves-blames : (s : State) (cut : Bool) (calls : List Call) (r : Result ⊤ Ending) (to : State) → Leaves s cut calls r to → Blames blame_of r calls
Leaves-blames s cut calls r to turns.not_cut = tt
Leaves-blames s cut calls r to turns.is_cut = tt
Leaves-blames s cut calls r to (turns.cut_memory e) = tt

pub Runs-blames : (id : Identity) (rules : RulesSeen) (n : ℕ) → Blaming blame_of (Runs id rules n)
Runs-blames id rules n w calls r to (turns.all_turns d) = tt
Runs-blames id rules n w calls r to (turns.ended {mid = mid} {first = first} {more = more} {e = e} d k) = Blames-before blame_of (Err e) first more (Turns-blames id rules n w first (Err e) mid d)
Runs-blames id rules n w calls r to (turns.ended_short {mid = mid} {s = s} {first = first} {more = more} {f = f} d k) = Blames-after blame_of (Err f) first more (Leaves-blames mid.state _ more (Err f) s k)

-- what came of a run has its cause
pub caused : (id : Identity) (rules : RulesSeen) (n : ℕ) (w to : WorkSeen) (r : Result ⊤ Ending) (old new : OutsideSeen) → HasCalls old new (λ calls. Runs id rules n w calls r to) → HasCause r old.faults new.faults
caused id rules n w to (Ok x) old new g = tt
caused id rules n w to (Err e) old new g = has_risen (blame_of e) old.faults new.faults g.0 g.1.faults (Runs-blames id rules n w g.0 (Err e) to g.2)
