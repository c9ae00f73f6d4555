use Rattle.std.proofs.Common.{arith, ap, Err}
use Rattle.fix_engine.proofs.SaidLemmas.{said_sealable, said_fits, said_frame}
use Rattle.fix_engine.proofs.outbound.frame_of.Goals as goal

pub seal-requires : goal.seal-requires
seal-requires c =
    rw (c.kind.ensures, c.deref.ensures.value, c.deref-2.ensures.value)
    (said_sealable _ _ _ _ _ _ c.requires.valid c.requires.last c.in_ok-rest.ensures.fits
    c.in_ok-header.ensures c.in_ok-rest.ensures.text)

pub returns-in-Ok : goal.returns-in-Ok
returns-in-Ok c =
    said_frame _ _ _ _ _ _ _ c.requires.valid c.requires.last c.in_ok-rest.ensures.fits
    c.in_ok-header.ensures c.in_ok-rest.ensures.text
    (rw (c.kind.ensures, c.deref.ensures.value, c.deref-2.ensures.value) at c.in-Ok.ensures.text)

pub unreachable-requires : goal.unreachable-requires
unreachable-requires c =
    let large = rw (c.kind.ensures, c.deref.ensures.value, c.deref-2.ensures.value) at c.in-Err-TooLarge.ensures.large
    c.in-Err-TooLarge.field-0-0 (ap Err c.in-Err-TooLarge.field-0-is) in
    let fits = said_fits _ _ _ _ _ _ c.requires.valid c.requires.last c.in_ok-rest.ensures.fits
    c.in_ok-header.ensures c.in_ok-rest.ensures.text in
    omega (arith, large.0, large.1, fits)
