use Rattle.std.proofs.Common.{sym, ap}
use Rattle.fix_base.proofs.SeenLemmas.{Trace-nil}
use Rattle.fix_engine.specs.Answer.{taken, hand_lost, hand_memory}
use Rattle.fix_engine.proofs.FrameLemmas.{fields_in, frame_has}
use Rattle.fix_engine.proofs.KindLemmas.{body_kind}
use Rattle.fix_engine.proofs.performing.hand.Goals as goal

pub returns-in-Err-clause-notes : goal.returns-in-Err-clause-notes
returns-in-Err-clause-notes g c = (_, Trace-nil _, hand_memory _ _)

pub hand-requires : goal.hand-requires
hand-requires g c =
    let h = c.requires.presents in
    rw (c.as_slice.ensures, c.in-Ok.ensures h.fields h.has)
    (body_kind _ _ h.fields h.has (sym (ap (λ i. i.type) h.header)))

pub returns-in-Taken-clause-notes : goal.returns-in-Taken-clause-notes
returns-in-Taken-clause-notes g c =
    let body = c.in-Ok.ensures (fields_in c.requires.frame) (frame_has c.requires.frame) in (
      _,
      rw (c.get.ensures.value, c.as_slice.ensures, body) at c.in-Taken.ensures.noted,
      taken _ _ _ (frame_has c.requires.frame),
    )

pub returns-in-Failed-clause-notes : goal.returns-in-Failed-clause-notes
returns-in-Failed-clause-notes g c =
    let body = c.in-Ok.ensures (fields_in c.requires.frame) (frame_has c.requires.frame) in (
      _,
      rw (c.get.ensures.value, c.as_slice.ensures, body) at c.in-Failed.ensures.noted,
      hand_lost _ _ _ (frame_has c.requires.frame),
    )

pub returns-clause-notes : goal.returns-clause-notes
returns-clause-notes g c = (_, c.in-OutOfMemory.ensures.noted, hand_memory _ _)
