use Rattle.fix_frame.specs.Given.{NextFrame, NextNone}
use Rattle.fix_frame.proofs.Drains.{frame_shorter, gave_more, gave_all}
use Rattle.fix_frame.proofs.whole.drain.Goals as goal

pub loop-frame-smaller : goal.loop-frame-smaller
loop-frame-smaller c =
    let given : NextFrame c.loop-frame.reader c.next.follows.lender-at-none c.in-Some.frame.now = rw c.in-Some.is at c.next.follows.holds-at-none in
    frame_shorter c.loop-frame.reader.unread _ c.in-Some.frame.now given.gives

pub loop-frame-preserved : goal.loop-frame-preserved
loop-frame-preserved c =
    let given : NextFrame c.loop-frame.reader c.next.follows.lender-at-none c.in-Some.frame.now = rw c.in-Some.is at c.next.follows.holds-at-none in
    rw (c.in_default-push.ensures.items, c.in_ok-copy.ensures) (gave_more _ _ _ _ _ c.in-Some.frame.now c.loop-frame.invariant given.gives)

pub returns : goal.returns
returns c =
    let given : NextNone c.loop-frame.reader c.next.follows.lender-at-none = rw c.in_default.is at c.next.follows.holds-at-none in
    gave_all _ _ _ _ _ c.loop-frame.invariant given.gives
