use Rattle.std.proofs.lemmas.Result.{err_from_is_err_and}
use Rattle.fix_frame.specs.Given.{NextFrame, NextNone}
use Rattle.fix_engine.proofs.TakenLemmas.{frame_shortens, start, one_more, ended, all_done}
use Rattle.fix_engine.proofs.handling.answer_frames.Goals as goal

pub loop-frame-init : goal.loop-frame-init
loop-frame-init g c = record { ready = c.requires.ready; done = start _ _ _ }

pub answer_frame-requires-clause-frame : goal.answer_frame-requires-clause-frame
answer_frame-requires-clause-frame g c =
    let given : NextFrame c.loop-frame.reader c.next.follows.lender-at-none c.in-Some.frame.now =
    rw c.in-Some.is at c.next.follows.holds-at-none in
    given.gives.frame_there.is.1

pub loop-frame-smaller : goal.loop-frame-smaller
loop-frame-smaller g c =
    let given : NextFrame c.loop-frame.reader c.next.follows.lender-at-none c.in-Some.frame.now =
    rw c.in-Some.is at c.next.follows.holds-at-none in
    frame_shortens _ _ _ given.gives

pub loop-frame-preserved : goal.loop-frame-preserved
loop-frame-preserved g c =
    let given : NextFrame c.loop-frame.reader c.next.follows.lender-at-none c.in-Some.frame.now =
    rw c.in-Some.is at c.next.follows.holds-at-none in
    record {
      ready = c.in_ok-answer_frame.ensures.ready;
      done = one_more _ _ _ _ _ _ _ _ _ _ c.loop-frame.invariant.done given.gives c.in_ok-answer_frame.ensures.notes;
    }

pub returns-in_err-answer_frame-clause-notes : goal.returns-in_err-answer_frame-clause-notes
returns-in_err-answer_frame-clause-notes g c =
    let given : NextFrame c.loop-frame.reader c.next.follows.lender-at-none c.in-Some.frame.now =
    rw c.in-Some.is at c.next.follows.holds-at-none in
    let p = err_from_is_err_and c.from_residual.result c.from_residual.ensures.1 in
    rw (p.1, p.2) (ended _ _ _ _ _ _ _ _ _ _ _ c.loop-frame.invariant.done given.gives c.in_err-answer_frame.ensures.notes)

pub returns-clause-notes : goal.returns-clause-notes
returns-clause-notes g c =
    let given : NextNone c.loop-frame.reader c.next.follows.lender-at-none =
    rw c.in_default.is at c.next.follows.holds-at-none in
    all_done _ _ _ _ _ _ _ c.loop-frame.invariant.done given.gives
