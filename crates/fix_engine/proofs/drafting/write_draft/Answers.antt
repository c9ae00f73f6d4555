use Rattle.std.proofs.lemmas.List.{append-nil}
use Rattle.fix_base.proofs.SeenLemmas.{Trace-nil, Trace-append}
use Rattle.fix_engine.specs.Drafted.{no_memory, sent, write_lost, write_memory}
use Rattle.fix_engine.proofs.DraftSteps.{unsent}
use Rattle.fix_engine.proofs.drafting.write_draft.Goals as goal

pub returns-in-Err-clause-notes : goal.returns-in-Err-clause-notes
returns-in-Err-clause-notes g c = (_, Trace-nil _, no_memory)

pub returns-in-Done-clause-notes : goal.returns-in-Done-clause-notes
returns-in-Done-clause-notes g c =
    let h = c.in-Ok-keep_draft.ensures.notes in (
      _,
      Trace-append _ _ _ _ _ h.1 (rw c.as_slice.ensures at c.in-Done.ensures.noted),
      sent _ c.requires.up c.in-Ok.ensures h.2,
    )

pub returns-in-Failed-clause-notes : goal.returns-in-Failed-clause-notes
returns-in-Failed-clause-notes g c =
    let h = c.in-Ok-keep_draft.ensures.notes in (
      _,
      Trace-append _ _ _ _ _ h.1 (rw c.as_slice.ensures at c.in-Failed.ensures.noted),
      write_lost _ _ c.requires.up c.in-Ok.ensures h.2,
    )

pub returns-in-Ok-keep_draft-clause-notes : goal.returns-in-Ok-keep_draft-clause-notes
returns-in-Ok-keep_draft-clause-notes g c =
    let h = c.in-Ok-keep_draft.ensures.notes in
    (_, Trace-append _ _ _ _ _ h.1 c.in-OutOfMemory.ensures.noted, rw append-nil (write_memory c.requires.up h.2))

pub returns-clause-notes : goal.returns-clause-notes
returns-clause-notes g c =
    let h = c.in-Err-keep_draft.ensures.notes in
    (h.0, h.1, unsent _ _ _ _ _ _ h.2)
