use Rattle.std.proofs.Common.{arith, ap, Err}
use Rattle.fix_engine.proofs.DraftFrames.{draft_sealable, draft_fits, draft_frame}
use Rattle.fix_engine.proofs.drafting.frame_of.Goals as goal

pub seal-requires : goal.seal-requires
seal-requires c =
    rw (c.kind.ensures.text, c.deref.ensures.value)
    (draft_sealable _ _ _ _ _ _ c.requires.valid c.requires.last c.kind.ensures.is
    c.in_ok-header.ensures c.rest.ensures.text)

pub returns-in-Ok : goal.returns-in-Ok
returns-in-Ok c =
    draft_frame _ _ _ _ _ _ _ c.requires.valid c.requires.last c.kind.ensures.is
    c.in_ok-header.ensures c.rest.ensures.text
    (rw (c.kind.ensures.text, c.deref.ensures.value) at c.in-Ok.ensures.text)

pub unreachable-requires : goal.unreachable-requires
unreachable-requires c =
    let large = rw (c.kind.ensures.text, c.deref.ensures.value) at c.in-Err-TooLarge.ensures.large
    c.in-Err-TooLarge.field-0-0 (ap Err c.in-Err-TooLarge.field-0-is) in
    let fits = draft_fits _ _ _ _ _ _ c.requires.valid c.requires.last c.kind.ensures.is
    c.in_ok-header.ensures c.rest.ensures.text in
    omega (arith, large.0, large.1, fits)
