use Rattle.std.proofs.Common.{arith}
use Rattle.fix_disk.proofs.StateLemmas.{low_same, low_unmarked, same_behind}
use Rattle.fix_disk.proofs.contents.Contents.write.Goals as goal

pub invariant_of-self-clause-low_same : goal.invariant_of-self-clause-low_same
invariant_of-self-clause-low_same c =
    let s = c.args.self.now in
    low_same s.low c.args.at c.min-self.result c.min-self.ensures s.bytes.items s.synced.items c.args.bytes.now c.put_over.new.held.items c.requires.within c.put_over.ensures.items s.low_same

pub invariant_of-self-clause-low_unmarked : goal.invariant_of-self-clause-low_unmarked
invariant_of-self-clause-low_unmarked c =
    let s = c.args.self.now in
    low_unmarked s.low c.args.at c.min-self.result c.min-self.ensures s.changed.items _ c.mark_over.new.marks.items (omega (arith, s.marks, c.requires.within)) c.mark_over.ensures.items s.low_unmarked

pub invariant_of-self-clause-same : goal.invariant_of-self-clause-same
invariant_of-self-clause-same c =
    let s = c.args.self.now in
    same_behind c.args.at c.args.bytes.now s.bytes.items s.synced.items c.put_over.new.held.items s.changed.items c.mark_over.new.marks.items c.requires.within s.marks c.put_over.ensures.items c.mark_over.ensures.items s.same
