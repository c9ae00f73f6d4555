use Rattle.fix_stage.proofs.RepeatLemmas.{may_split, repeat_sealable, repeat_short, repeat_sealed}
use Rattle.fix_stage.proofs.repeating.repeat_of.Goals as goal

pub kind_and_rest-requires : goal.kind_and_rest-requires
kind_and_rest-requires c = may_split _ _ c.requires.payload

pub seal_short-requires-clause-sealable : goal.seal_short-requires-clause-sealable
seal_short-requires-clause-sealable c =
    rw (c.deref.ensures.value, c.in_ok-header.ensures, c.as_slice.ensures, c.as_slice-2.ensures)
    (repeat_sealable _ _ c.args.time c.args.body.now c.args.now _ _ _ _ (record {
      valid = c.requires.valid;
      small = c.requires.last;
      payload = c.requires.payload;
      sent_at = c.time_text-at.ensures;
      sent_first_at = c.time_text-was.ensures;
      split = c.kind_and_rest.ensures;
    }))

pub seal_short-requires-clause-short : goal.seal_short-requires-clause-short
seal_short-requires-clause-short c =
    rw (c.deref.ensures.value, c.in_ok-header.ensures, c.as_slice.ensures, c.as_slice-2.ensures)
    (repeat_short _ _ c.args.time c.args.body.now c.args.now _ _ _ _ (record {
      valid = c.requires.valid;
      small = c.requires.last;
      payload = c.requires.payload;
      sent_at = c.time_text-at.ensures;
      sent_first_at = c.time_text-was.ensures;
      split = c.kind_and_rest.ensures;
    }))

pub returns : goal.returns
returns c = repeat_sealed _ _ c.args.time c.args.body.now c.args.now _ _ _ _ _ (record {
  valid = c.requires.valid;
  small = c.requires.last;
  payload = c.requires.payload;
  sent_at = c.time_text-at.ensures;
  sent_first_at = c.time_text-was.ensures;
  split = c.kind_and_rest.ensures;
}) (rw (c.deref.ensures.value, c.in_ok-header.ensures, c.as_slice.ensures, c.as_slice-2.ensures) at c.seal_short.ensures)
