use Rattle.std.proofs.Common.{arith, ap, ◌∙◌, ◌++◌, take, drop, false}
use Rattle.std.proofs.lemmas.List.{take-replicate}
use Rattle.fix_disk.proofs.Overwritten.{joined, unmarked}
use Rattle.fix_disk.proofs.contents.Contents.sync.Goals as goal

pub invariant_of-self-clause-low_same : goal.invariant_of-self-clause-low_same
invariant_of-self-clause-low_same c = ap (λ l. take c.len-self.result l) (c.put_from.ensures.items ∙ ap (λ l. take c.args.self.now.low c.args.self.now.synced.items ++ drop c.args.self.now.low l) c.deref.ensures.value ∙ joined c.args.self.now.low c.args.self.now.synced.items c.args.self.now.bytes.items c.args.self.now.low_same)

pub invariant_of-self-clause-low_unmarked : goal.invariant_of-self-clause-low_unmarked
invariant_of-self-clause-low_unmarked c =
    let s = c.args.self.now in
    ap (take c.len-self.result) (c.clear_from.ensures.items ∙ unmarked s.low s.changed.len s.changed.items (omega (arith, s.low_within, s.grows, s.marks, s.changed.ok.0)) s.low_unmarked)
    ∙ take-replicate c.len-self.result s.changed.len false (omega (arith, c.len-self.ensures, s.bytes.ok.0, s.marks, s.changed.ok.0))
