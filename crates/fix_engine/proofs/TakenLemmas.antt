-- The frames that are taken from the bytes, one after another.
use Rattle.std.proofs.Common.{ℕ, ◌<◌, ◌≤◌, List, [], ◌∷◌, length, Ok, Err, subst, ap, arith}
use Rattle.std.proofs.lemmas.List.{length-append}
use Rattle.fix_base.specs.declared.identity.Identity.{Identity}
use Rattle.fix_base.specs.Shape.{IsFrame}
use Rattle.fix_base.specs.Stream.{UnreadBytes, Item, TakesAll, text_of}
use Rattle.fix_base.specs.Trace.{OutsideSeen, HasTrace}
use Rattle.fix_base.proofs.SeenLemmas.{Trace-nil}
use Rattle.fix_frame.specs.Given.{GivesFrame, GivesNone}
use Rattle.fix_engine.specs.State.{State, Ending}
use Rattle.fix_engine.specs.Answer.{AnswerFrame}
use Rattle.fix_engine.specs.Reading.{ConnectionSeen, connection_seen, AnswerFrames, no_more, ends, goes}
use Rattle.fix_engine.proofs.Begun.{Begun, begin, on, end_of}

-- items leave no more bytes than there were
all_shorter : (a b : UnreadBytes) (items : List Item) → TakesAll a items b → length b.bytes ≤ length a.bytes
all_shorter a b [] t = subst (λ (x : UnreadBytes). length x.bytes ≤ length a.bytes) t (omega arith)
all_shorter a b (item ∷ items) t =
    let later = all_shorter t.0 b items t.2 in
    omega (arith, ap length t.1.spelled, length-append (text_of item) t.0.bytes, later)

-- a frame has bytes
frame_nonempty : (text : List ℕ) → IsFrame text → 0 < length text
frame_nonempty text f =
    let s = f.shape in
    let t = s.is_trailer in
    omega (
      arith,
      ap length s.spelled,
      length-append f.parts.before_sum s.trailer,
      ap length t.spelled,
      length-append t.first t.second,
      ap length t.is_first,
    )

-- a frame leaves fewer
pub frame_shortens : (a b : UnreadBytes) (frame : List ℕ) → GivesFrame a b frame → length b.bytes < length a.bytes
frame_shortens a b frame g =
    let before = all_shorter a g.at g.skips.items g.skips.take in
    let some = frame_nonempty frame g.frame_there.is.1 in
    omega (arith, before, some, ap length g.frame_there.spelled, length-append frame b.bytes)

-- what is still to be done of a reader's frames
abbrev pub Left : (id : Identity) (l : ConnectionSeen) (from at : OutsideSeen) (mid : ConnectionSeen) → Type 0
Left id l from at mid = Begun (AnswerFrames id l) (AnswerFrames id) from at mid

pub start : (id : Identity) (l : ConnectionSeen) (w : OutsideSeen) → Left id l w w l
start id l w = begin (AnswerFrames id l) (AnswerFrames id) w l (λ more r t e. e)

pub one_more : (id : Identity) (l : ConnectionSeen) (a b c : OutsideSeen) (s mid : State) (from to : UnreadBytes) (frame : List ℕ) →
    Left id l a b (connection_seen s from) → GivesFrame from to frame →
    HasTrace b c (λ notes. AnswerFrame id s frame notes (Ok tt) mid) → Left id l a c (connection_seen mid to)
one_more id l a b c s mid from to frame before gives step =
    on (AnswerFrames id l) (AnswerFrames id) (AnswerFrames id) a b c (connection_seen s from) (connection_seen mid to) before
    (step.0, step.1, λ more r t e. goes frame gives step.2 e)

pub ended : (id : Identity) (l : ConnectionSeen) (a b c : OutsideSeen) (s s' : State) (from to : UnreadBytes) (frame : List ℕ) (e : Ending) →
    Left id l a b (connection_seen s from) → GivesFrame from to frame → HasTrace b c (λ notes. AnswerFrame id s frame notes (Err e) s') →
    HasTrace a c (λ notes. AnswerFrames id l notes (Err e) (connection_seen s' to))
ended id l a b c s s' from to frame e before gives step =
    end_of (AnswerFrames id l) (AnswerFrames id) a b c (connection_seen s from) (connection_seen s' to) (Err e) before
    (step.0, step.1, ends frame gives step.2)

pub all_done : (id : Identity) (l : ConnectionSeen) (a b : OutsideSeen) (s : State) (from to : UnreadBytes) → Left id l a b (connection_seen s from) →
    GivesNone from to → HasTrace a b (λ notes. AnswerFrames id l notes (Ok tt) (connection_seen s to))
all_done id l a b s from to before gives =
    end_of (AnswerFrames id l) (AnswerFrames id) a b b (connection_seen s from) (connection_seen s to) (Ok tt) before ([], Trace-nil b, no_more gives)
