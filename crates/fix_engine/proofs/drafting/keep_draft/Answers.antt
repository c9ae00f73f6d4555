use Rattle.fix_base.proofs.SeenLemmas.{Trace-nil}
use Rattle.fix_fields.proofs.DraftBodies.{draft_payload}
use Rattle.fix_engine.specs.Drafted.{unkept, kept_lost, was_kept}
use Rattle.fix_engine.proofs.drafting.keep_draft.Goals as goal

pub returns-in-Err-clause-notes : goal.returns-in-Err-clause-notes
returns-in-Err-clause-notes g c = (_, Trace-nil _, unkept)

pub keep-requires-clause-payload : goal.keep-requires-clause-payload
keep-requires-clause-payload g c = rw c.in-Ok.ensures.made
    (draft_payload _ _ c.in-Ok.ensures.is c.requires.ready.range.reading)

pub returns-in-Ok-keep-clause-notes : goal.returns-in-Ok-keep-clause-notes
returns-in-Ok-keep-clause-notes g c = rw c.next_number-number.ensures (
  _,
  rw c.in-Ok.ensures.made at c.in-Ok-keep.ensures.noted,
  was_kept c.in-Ok.ensures.is,
)

pub returns-in-Err-Failed-clause-notes : goal.returns-in-Err-Failed-clause-notes
returns-in-Err-Failed-clause-notes g c = (
  _,
  rw (c.in-Ok.ensures.made, c.in-Err-Failed.field-0-is) at c.in-Err-Failed.ensures.noted,
  kept_lost c.in-Ok.ensures.is,
)

pub returns-clause-notes : goal.returns-clause-notes
returns-clause-notes g c = (_, rw c.in-Err-OutOfMemory.field-0-is at c.in-Err-OutOfMemory.ensures.noted, unkept)
