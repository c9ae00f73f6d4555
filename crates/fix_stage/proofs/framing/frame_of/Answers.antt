use Rattle.std.proofs.Common.{arith, ap, Err}
use Rattle.fix_stage.proofs.OutgoingLemmas.{outgoing_sealable, outgoing_fits, payload_time}
use Rattle.fix_stage.proofs.framing.frame_of.Goals as goal

pub header-requires : goal.header-requires
header-requires c = rw c.time_of.ensures (payload_time _ c.requires.outgoing.payload)

pub seal-requires : goal.seal-requires
seal-requires c = rw c.deref.ensures.value
    (outgoing_sealable _ _ _ _ _ c.requires.valid c.requires.last c.requires.outgoing c.in_ok-header.ensures)

pub returns-in-Ok : goal.returns-in-Ok
returns-in-Ok c = record {
  header = _;
  heads = rw c.time_of.ensures at c.in_ok-header.ensures;
  spelled = rw c.deref.ensures.value at c.in-Ok.ensures.text;
}

pub unreachable-requires : goal.unreachable-requires
unreachable-requires c =
    let large = rw c.deref.ensures.value at c.in-Err-TooLarge.ensures.large
    c.in-Err-TooLarge.field-0-0 (ap Err c.in-Err-TooLarge.field-0-is) in
    let fits = outgoing_fits _ _ _ _ _ c.requires.valid c.requires.last c.requires.outgoing c.in_ok-header.ensures in
    omega (arith, large.0, large.1, fits)
