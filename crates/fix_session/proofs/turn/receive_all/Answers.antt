use Rattle.std.proofs.lemmas.Result.{err_from_is_err_and}
use Rattle.fix_frame.specs.Given.{NextFrame, NextNone}
use Rattle.fix_session.proofs.TakenLemmas.{frame_shortens, start, one_more, ended, all_done}
use Rattle.fix_session.proofs.turn.receive_all.Goals as goal

pub loop-frame-init : goal.loop-frame-init
loop-frame-init g c = record { sound = c.requires.sound; done = start _ _ _ _ }

pub receive-requires-clause-frame : goal.receive-requires-clause-frame
receive-requires-clause-frame g c =
    let given : NextFrame c.loop-frame.reader c.next.follows.lender-at-none c.in-Some.frame.now =
    rw c.in-Some.is at c.next.follows.holds-at-none in
    given.gives.frame_there.is.1

pub loop-frame-smaller : goal.loop-frame-smaller
loop-frame-smaller g c =
    let given : NextFrame c.loop-frame.reader c.next.follows.lender-at-none c.in-Some.frame.now =
    rw c.in-Some.is at c.next.follows.holds-at-none in
    frame_shortens _ _ _ given.gives

pub loop-frame-preserved : goal.loop-frame-preserved
loop-frame-preserved g c =
    let given : NextFrame c.loop-frame.reader c.next.follows.lender-at-none c.in-Some.frame.now =
    rw c.in-Some.is at c.next.follows.holds-at-none in
    record {
      sound = c.in_ok-receive.ensures.sound;
      done = one_more _ _ _ _ _ _ _ _ _ _ _ c.loop-frame.invariant.done given.gives c.in_ok-receive.ensures.calls;
    }

pub returns-in_err-receive-clause-calls : goal.returns-in_err-receive-clause-calls
returns-in_err-receive-clause-calls g c =
    let given : NextFrame c.loop-frame.reader c.next.follows.lender-at-none c.in-Some.frame.now =
    rw c.in-Some.is at c.next.follows.holds-at-none in
    let p = err_from_is_err_and c.from_residual.result c.from_residual.ensures.1 in
    rw (p.1, p.2) (ended _ _ _ _ _ _ _ _ _ _ _ _ c.loop-frame.invariant.done given.gives c.in_err-receive.ensures.calls)

pub returns-clause-calls : goal.returns-clause-calls
returns-clause-calls g c =
    let given : NextNone c.loop-frame.reader c.next.follows.lender-at-none =
    rw c.in_default.is at c.next.follows.holds-at-none in
    all_done _ _ _ _ _ _ _ _ c.loop-frame.invariant.done given.gives
