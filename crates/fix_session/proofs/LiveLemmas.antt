-- A session whose turns all went well isn't Down after them.
use Rattle.std.proofs.Common.{◌≡◌, ◌≢◌, ℕ, List, [], ◌∷◌, Bool, true, false, Option, Some, None, Result, Ok, Err, refl, sym, ap, ◌∙◌, replicate}
use Rattle.std.specs.Prelude.{⊤, is_some, ◌||◌}
use Rattle.std.specs.List.{list_any}
use Rattle.fix_base.specs.declared.identity.Identity.{Identity}
use Rattle.fix_outside.specs.Calls.{Call}
use Rattle.fix_machine.specs.declared.state.Phase.TheVariants.{Down}
use Rattle.fix_machine.specs.Event.{EventSeen, First, Frame, Moved, Clock, Wrote, Ended, StepSeen}
use Rattle.fix_stage.specs.Combine.{AndThen, both, goes_well, Each, none, goes}
use Rattle.fix_stage.specs.declared.sender.Sender.{Sender}
use Rattle.fix_steps.specs.declared.ending.Ending.{Ending}
use Rattle.fix_steps.specs.Leaves.{is_close}
use Rattle.fix_steps.specs.Steps as steps
use Rattle.fix_steps.specs.Steps.{Performed}
use Rattle.fix_session.specs.Judged.{RulesSeen}
use Rattle.fix_session.specs.State.{State, answer_of, decided, expected_of}
use Rattle.fix_session.specs.Waits as waiting
use Rattle.fix_session.specs.Waits.{Waits, waits_at, passed}
use Rattle.fix_session.specs.Answering as answering
use Rattle.fix_session.specs.Answering.{Standing, Answers, WaitsIfNew, AnswersFrame, Moves, Round, CatchesUp, Receives}
use Rattle.fix_session.specs.Work.{WorkSeen}
use Rattle.fix_session.specs.Turn as turns
use Rattle.fix_session.specs.Turn.{read_at, logged_on, given, StagesDraft, OffersDraft, Offers, ReceivesAll, Reads, Looks, Meets, Turn, OneTurn}
use Rattle.fix_session.proofs.CloseLemmas.{every_closes}

-- ---- steps that were all done

step_open : (id : Identity) (frame : Option (List ℕ)) (b to : Sender) (x : StepSeen) (calls : List Call) → Performed id frame b x calls (Ok tt) to → is_close x ≡ false
step_open id frame b to x calls (steps.says say d) = refl
step_open id frame b to x calls (steps.serves from until d) = refl
step_open id frame b to x calls (steps.hands d) = refl
step_open id frame b to x calls steps.waits = refl
step_open id frame b to x calls (steps.expects n) = refl
step_open id frame b to x calls (steps.resets d) = refl
step_open id frame b to x calls (steps.confirms d) = refl
step_open id frame b to x calls steps.nothing = refl

either_open : (a b : Bool) → a ≡ false → b ≡ false → a || b ≡ false
either_open true b p q = cc
either_open false b p q = q

none_closes : (id : Identity) (frame : Option (List ℕ)) (xs : List StepSeen) (b to : Sender) (calls : List Call) → Each (Performed id frame) b xs calls (Ok tt) to → list_any is_close xs ≡ false
none_closes id frame [] b to calls none = refl
none_closes id frame (x ∷ xs) b to calls (goes {mid = mid} {first = a} {more = c} d k) =
    let p = step_open id frame b mid x a d in
    let q = none_closes id frame xs mid to c k in
    either_open (is_close x) (list_any is_close xs) p q

-- ---- what goes well leaves it connected

abbrev IsLive : State → Type 0
IsLive s = s.machine.state.phase ≢ Down

abbrev At : WorkSeen → Type 0
At w = IsLive w.state

abbrev Keeps : {S : Type 0} → (S → Type 0) → (S → List Call → Result ⊤ Ending → S → Type 0) → Type 0
Keeps {S} Good R = (s : S) (calls : List Call) (to : S) → Good s → R s calls (Ok tt) to → Good to

standing_live : (id : Identity) (frame : Option (List ℕ)) (s at : State) (e : EventSeen) → e ≢ Ended → at.machine ≡ (decided s e).machine → (calls : List Call) (to : State) → IsLive s
    → Standing id frame (answer_of s e).steps at calls (Ok tt) to → IsLive to
standing_live id frame s at e live same calls to h (both (goes_well {s = b} (both {mid = m} {more = more} begun d)) answering.stood) =
    λ down.
    let closes = (every_closes s.machine.options s.machine.state e live).says h (ap (λ x. x.state.phase) (sym same) ∙ down) in
    let none = none_closes id frame (answer_of s e).steps m b more d in
    cc

answers_live : (id : Identity) (e : EventSeen) → e ≢ Ended → Keeps IsLive (Answers id e)
answers_live id e live s calls to h d = standing_live id None s (decided s e) e live refl calls to h d

waits_machine : (frame : List ℕ) (number : Option ℕ) (xs : List StepSeen) (s : State) (calls : List Call) (to : State) → Waits frame number xs s calls (Ok tt) to → to.machine ≡ s.machine
waits_machine frame number xs s calls to (waiting.passes_by e) = refl
waits_machine frame number xs s calls to (waiting.unnumbered e) = refl
waits_machine frame number xs s calls to (waiting.waits n so there alone room) = refl
waits_machine frame number xs s calls to (waiting.another_waits n so there one) = refl
waits_machine frame number xs s calls to (waiting.no_room n so there full) = refl

if_new_machine : (new : Bool) (frame : List ℕ) (number : Option ℕ) (xs : List StepSeen) (s : State) (calls : List Call) (to : State) → WaitsIfNew new frame number xs s calls (Ok tt) to
    → to.machine ≡ s.machine
if_new_machine true frame number xs s calls to d = waits_machine frame number xs s calls to d
if_new_machine false frame number xs s calls to d = waits_machine frame number [] s calls to d

frame_live : (id : Identity) (rules : RulesSeen) (new : Bool) (frame : List ℕ) → Keeps IsLive (AnswersFrame id rules new frame)
frame_live id rules new frame s calls to h (answering.judged i told (both {mid = mid} {first = a} {more = b} w k)) =
    standing_live id (Some frame) s mid (Frame i) (λ e. cc) (if_new_machine new frame i.header.number _ (decided s (Frame i)) a mid w) b to h k

moves_live : (id : Identity) (before : ℕ) → Keeps IsLive (Moves id before)
moves_live id before s calls to h (answering.stays e) = h
moves_live id before s calls to h (answering.moves e d) = answers_live id (Moved (is_some (waits_at (expected_of s) s.waiting))) (λ e. cc) s calls to h d

round_live : (id : Identity) (rules : RulesSeen) (new : Bool) (frame : List ℕ) → Keeps IsLive (Round id rules new frame)
round_live id rules new frame s calls to h (both {mid = mid} {first = a} {more = b} d k) =
    moves_live id (expected_of s) mid b to (frame_live id rules new frame s a mid h d) k

catches_live : (id : Identity) (rules : RulesSeen) → Keeps IsLive (CatchesUp id rules)
catches_live id rules s calls to h (waiting.rests e) = h
catches_live id rules s calls to h (waiting.goes_on {mid = mid} {first = a} {more = b} frame is d k) =
    catches_live id rules mid b to (round_live id rules false frame (passed s) a mid h d) k

receives_live : (id : Identity) (rules : RulesSeen) (frame : List ℕ) → Keeps IsLive (Receives id rules frame)
receives_live id rules frame s calls to h (both {mid = mid} {first = a} {more = b} d k) =
    catches_live id rules mid b to (round_live id rules true frame s a mid h d) k

draft_live : (id : Identity) → Keeps IsLive (StagesDraft id)
draft_live id s calls to h (turns.no_draft e) = h
draft_live id s calls to h (turns.drafts some (both {mid = mid} {more = more} (goes_well d) k)) =
    answers_live id (Wrote mid.sender.numbers.reading) (λ e. cc) mid more to h k

offers_draft_live : (id : Identity) → Keeps IsLive (OffersDraft id)
offers_draft_live id s calls to h (turns.asks {calls = more} draft e d) = draft_live id (given s draft) more to h d
offers_draft_live id s calls to h (turns.in_hand e d) = draft_live id s calls to h d

offers_live : (id : Identity) → Keeps IsLive (Offers id)
offers_live id s calls to h (turns.logs_on e d) = answers_live id First (λ e. cc) (logged_on s) calls to h d
offers_live id s calls to h (turns.not_up e f) = h
offers_live id s calls to h (turns.is_up e f d) = offers_draft_live id s calls to h d

all_live : (id : Identity) (rules : RulesSeen) → Keeps At (ReceivesAll id rules)
all_live id rules w calls to h (turns.no_more after gives) = h
all_live id rules w calls to h (turns.goes {s = s} {first = a} {more = b} frame after gives d k) =
    all_live id rules _ b to (receives_live id rules frame w.state a s h d) k

reads_live : (id : Identity) (rules : RulesSeen) → Keeps At (Reads id rules)
reads_live id rules w calls to h (turns.bytes b some few (turns.feeds d)) = all_live id rules _ _ to h d
reads_live id rules w calls to h turns.idle = h

looks_live : (id : Identity) → Keeps IsLive (Looks id)
looks_live id s calls to h (turns.looks {calls = more} time d) = answers_live id (Clock time true) (λ e. cc) (read_at s time) more to h d

meets_live : (id : Identity) (rules : RulesSeen) → Keeps At (Meets id rules)
meets_live id rules w calls to h (both (goes_well {s = s} d) (both {mid = mid} {first = a} k (goes_well {s = t} {calls = c} l))) =
    looks_live id mid.state c t (reads_live id rules _ a mid (offers_live id w.state _ s h d) k) l

turn_live : (id : Identity) (rules : RulesSeen) → Keeps At (Turn id rules)
turn_live id rules w calls to h (turns.stops e d) = cc
turn_live id rules w calls to h (turns.settles {mid = mid} {first = a} {more = b} e d (goes_well (goes_well k))) = meets_live id rules w a mid h d

pub turns_live : (id : Identity) (rules : RulesSeen) (xs : List ⊤) (w to : WorkSeen) (calls : List Call) → w.state.machine.state.phase ≢ Down → Each (OneTurn id rules) w xs calls (Ok tt) to
    → to.state.machine.state.phase ≢ Down
turns_live id rules [] w to calls h none = h
turns_live id rules (x ∷ xs) w to calls h (goes {mid = mid} {first = a} {more = b} d k) = turns_live id rules xs mid to b (turn_live id rules w a mid h d) k
