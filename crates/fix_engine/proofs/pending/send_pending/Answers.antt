use Rattle.fix_base.proofs.SeenLemmas.{Trace-nil}
use Rattle.fix_engine.specs.Turn.{work_seen, empty}
use Rattle.fix_engine.proofs.HandLemmas.{spent_in_hand, sent_in_hand}
use Rattle.fix_engine.proofs.pending.send_pending.Goals as goal

pub returns-in_default-clause-notes : goal.returns-in_default-clause-notes
returns-in_default-clause-notes g c = (_, Trace-nil _, empty c.in_default.is)

pub returns-then-work-ge-LAST_SEQ_NUM-clause-notes : goal.returns-then-work-ge-LAST_SEQ_NUM-clause-notes
returns-then-work-ge-LAST_SEQ_NUM-clause-notes g c = (
  _,
  Trace-nil _,
  spent_in_hand _ _ (work_seen c.args.work.now)
      c.in-Some.is c.if-work-ge-LAST_SEQ_NUM.true,
)

pub returns-clause-notes : goal.returns-clause-notes
returns-clause-notes g c =
    let h = c.send_draft-sent.ensures.notes in (
      h.0,
      h.1,
      sent_in_hand _ _ (work_seen c.args.work.now) _ _ _ _ _ _
          c.in-Some.is c.if-work-ge-LAST_SEQ_NUM.false
          c.pending_is_draft.ensures c.is_lost.ensures c.keep_pending.ensures c.ending_of.ensures h.2,
    )
