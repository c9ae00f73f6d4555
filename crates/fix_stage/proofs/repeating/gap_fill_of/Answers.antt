use Rattle.fix_stage.proofs.RepeatLemmas.{gap_sealable, gap_short, gap_sealed}
use Rattle.fix_stage.proofs.repeating.gap_fill_of.Goals as goal

pub seal_short-requires-clause-sealable : goal.seal_short-requires-clause-sealable
seal_short-requires-clause-sealable c =
    rw (c.deref.ensures.value, c.deref-2.ensures.value, c.in_ok-header.ensures, c.in_ok-rest.ensures, c.as_slice.ensures, c.as_slice-2.ensures)
    (gap_sealable _ _ _ c.args.now _ (record { valid = c.requires.valid; small = c.requires.last; next = c.requires.next; sent_at = c.time_text-at.ensures }))

pub seal_short-requires-clause-short : goal.seal_short-requires-clause-short
seal_short-requires-clause-short c =
    rw (c.deref.ensures.value, c.deref-2.ensures.value, c.in_ok-header.ensures, c.in_ok-rest.ensures, c.as_slice.ensures, c.as_slice-2.ensures)
    (gap_short _ _ _ c.args.now _ (record { valid = c.requires.valid; small = c.requires.last; next = c.requires.next; sent_at = c.time_text-at.ensures }))

pub returns : goal.returns
returns c = gap_sealed _ _ _ c.args.now _ _ (record { valid = c.requires.valid; small = c.requires.last; next = c.requires.next; sent_at = c.time_text-at.ensures })
    (rw (c.deref.ensures.value, c.deref-2.ensures.value, c.in_ok-header.ensures, c.in_ok-rest.ensures, c.as_slice.ensures, c.as_slice-2.ensures) at c.seal_short.ensures)
