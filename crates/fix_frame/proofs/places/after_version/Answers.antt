use Rattle.std.proofs.Common.{◌+◌, [], take, arith, below_more}
use Rattle.std.proofs.lemmas.List.{length-append, length-take-le, append-nil}
use Rattle.fix_base.specs.Frame.{IsVersion}
use Rattle.fix_base.proofs.Pieces.{line_begins, line_wrong, line_partial}
use Rattle.fix_frame.proofs.places.after_version.Goals as goal

pub returns-then-b-eq-SOH : goal.returns-then-b-eq-SOH
returns-then-b-eq-SOH c = line_begins IsVersion c.args.bytes.now c.loop-i.i c.loop-i-test.true c.loop-i.invariant.1 c.if-b-eq-SOH.true (omega (arith, length-take-le c.loop-i.i c.args.bytes.now))

pub returns-then-i-eq-LONGEST_VERSION : goal.returns-then-i-eq-LONGEST_VERSION
returns-then-i-eq-LONGEST_VERSION c = line_wrong IsVersion c.args.bytes.now (c.loop-i.i + 1) (omega arith) (below_more _ _ c.loop-i.invariant.1 c.if-b-eq-SOH.false)
    (λ w short. omega (arith, length-append (take (c.loop-i.i + 1) c.args.bytes.now) w, length-take-le (c.loop-i.i + 1) c.args.bytes.now))

pub returns : goal.returns
returns c = line_partial IsVersion c.args.bytes.now [] (rw append-nil (λ k lt. c.loop-i.invariant.1 k (omega arith))) (rw append-nil (omega arith))
