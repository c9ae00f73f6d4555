-- The frames that are taken from the bytes, one after another.
use Rattle.std.proofs.Common.{ℕ, ◌<◌, ◌≤◌, List, [], ◌∷◌, length, Ok, Err, subst, ap, arith}
use Rattle.std.proofs.lemmas.List.{length-append}
use Rattle.fix_base.specs.declared.identity.Identity.{Identity}
use Rattle.fix_base.specs.Shape.{IsFrame}
use Rattle.fix_base.specs.Stream.{UnreadBytes, Item, TakesAll, text_of}
use Rattle.fix_base.specs.Trace.{OutsideSeen}
use Rattle.fix_outside.specs.Calls.{HasCalls}
use Rattle.fix_outside.proofs.CallLemmas.{Called-nil}
use Rattle.fix_frame.specs.Given.{GivesFrame, GivesNone}
use Rattle.fix_steps.specs.declared.ending.Ending.{Ending}
use Rattle.fix_session.specs.Judged.{RulesSeen}
use Rattle.fix_session.specs.State.{State}
use Rattle.fix_session.specs.Answering.{Receives}
use Rattle.fix_session.specs.Work.{WorkSeen}
use Rattle.fix_session.specs.Turn.{ReceivesAll, no_more, ends, goes}
use Rattle.fix_session.proofs.Begun.{Begun, begin, on, end_of}

-- items leave no more bytes than there were
all_shorter : (a b : UnreadBytes) (items : List Item) → TakesAll a items b → length b.bytes ≤ length a.bytes
all_shorter a b [] t = subst (λ (x : UnreadBytes). length x.bytes ≤ length a.bytes) t (omega arith)
all_shorter a b (item ∷ items) t =
    let later = all_shorter t.0 b items t.2 in
    omega (arith, ap length t.1.spelled, length-append (text_of item) t.0.bytes, later)

-- a frame has bytes
frame_nonempty : (text : List ℕ) → IsFrame text → 0 < length text
frame_nonempty text f =
    let s = f.shape in
    let t = s.is_trailer in
    omega (
      arith,
      ap length s.spelled,
      length-append f.parts.before_sum s.trailer,
      ap length t.spelled,
      length-append t.first t.second,
      ap length t.is_first,
    )

-- a frame leaves fewer
pub frame_shortens : (a b : UnreadBytes) (frame : List ℕ) → GivesFrame a b frame → length b.bytes < length a.bytes
frame_shortens a b frame g =
    let before = all_shorter a g.at g.skips.items g.skips.take in
    let some = frame_nonempty frame g.frame_there.is.1 in
    omega (arith, before, some, ap length g.frame_there.spelled, length-append frame b.bytes)

abbrev pub at : State → UnreadBytes → WorkSeen
at s a = record { state = s; unread = a }

-- what is still to be done of a reader's frames
abbrev pub Left : (id : Identity) (rules : RulesSeen) (l : WorkSeen) (from to : OutsideSeen) (mid : WorkSeen) → Type 0
Left id rules l from to mid = Begun (ReceivesAll id rules l) (ReceivesAll id rules) from to mid

pub start : (id : Identity) (rules : RulesSeen) (l : WorkSeen) (w : OutsideSeen) → Left id rules l w w l
start id rules l w = begin (ReceivesAll id rules l) (ReceivesAll id rules) w l (λ more r t e. e)

pub one_more : (id : Identity) (rules : RulesSeen) (l : WorkSeen) (a b c : OutsideSeen) (s mid : State) (from to : UnreadBytes) (frame : List ℕ) →
    Left id rules l a b (at s from) → GivesFrame from to frame →
    HasCalls b c (λ calls. Receives id rules frame s calls (Ok tt) mid) → Left id rules l a c (at mid to)
one_more id rules l a b c s mid from to frame before gives step =
    on (ReceivesAll id rules l) (ReceivesAll id rules) a b c (at s from) (at mid to) before
    (step.0, step.1, λ more r t e. goes frame to gives step.2 e)

pub ended : (id : Identity) (rules : RulesSeen) (l : WorkSeen) (a b c : OutsideSeen) (s s' : State) (from to : UnreadBytes) (frame : List ℕ) (e : Ending) →
    Left id rules l a b (at s from) → GivesFrame from to frame → HasCalls b c (λ calls. Receives id rules frame s calls (Err e) s') →
    HasCalls a c (λ calls. ReceivesAll id rules l calls (Err e) (at s' to))
ended id rules l a b c s s' from to frame e before gives step =
    end_of (ReceivesAll id rules l) (ReceivesAll id rules) a b c (at s from) (at s' to) (Err e) before
    (step.0, step.1, ends frame to gives step.2)

pub all_done : (id : Identity) (rules : RulesSeen) (l : WorkSeen) (a b : OutsideSeen) (s : State) (from to : UnreadBytes) → Left id rules l a b (at s from) →
    GivesNone from to → HasCalls a b (λ calls. ReceivesAll id rules l calls (Ok tt) (at s to))
all_done id rules l a b s from to before gives =
    end_of (ReceivesAll id rules l) (ReceivesAll id rules) a b b (at s from) (at s to) (Ok tt) before ([], Called-nil b, no_more to gives)
