use Rattle.std.proofs.Common.{refl, ◌+◌, ◌-◌, ◌≤◌, add-one, length, drop, sym, arith, length-drop}
use Rattle.std.proofs.lemmas.List.{take_all}
use Rattle.fix_settings.proofs.LineLemmas.{cut_found, cut_none}
use Rattle.fix_settings.proofs.line.cut_at.Goals as goal

pub returns-then-b-byte : goal.returns-then-b-byte
returns-then-b-byte c =
    let few : length (drop (c.loop-at.at + 1) c.args.bytes.now) ≤ length c.args.bytes.now - (c.loop-at.at + 1) = omega (arith, length-drop (c.loop-at.at + 1) c.args.bytes.now) in
    rw (cut_found c.args.byte c.args.bytes.now c.loop-at.at c.loop-at-test.true c.if-b-byte.true c.loop-at.invariant, take_all _ _ few, add-one) refl

pub returns : goal.returns
returns c = sym (cut_none c.args.byte c.args.bytes.now (λ k lt. c.loop-at.invariant k (omega arith)))
