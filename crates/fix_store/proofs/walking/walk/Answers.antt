use Rattle.std.proofs.Common.{◌≡◌, Some, None, sym, subst, arith}
use Rattle.fix_store.specs.Folding.{fold_of, IsWithin, Steps}
use Rattle.fix_store.proofs.WalkLemmas.{AreTaken, walk_begins, walks_on, walk_fails, walk_ends, walks_nothing, reads_then}
use Rattle.fix_store.proofs.walking.walk.Goals as goal

pub loop-index-init : goal.loop-index-init
loop-index-init g c = walk_begins g.D.Disk.disk c.args.journal.now c.at_mark-cursor.result (fold_of c.new-folded.result) (g.met.D.Disk.lawful _) c.requires c.at_mark-cursor.ensures.index c.at_mark-cursor.ensures.stands c.new-folded.ensures

pub take_next-requires-clause-goes_on : goal.take_next-requires-clause-goes_on
take_next-requires-clause-goes_on g c = c.loop-index.invariant.goes_on.stopped

pub take_next-requires-clause-index : goal.take_next-requires-clause-index
take_next-requires-clause-index g c = omega (arith, c.loop-index-test.true, c.count-index-end.ensures, c.loop-index.invariant.goes_on.count, c.loop-index.invariant.here)

pub take_next-requires-clause-stands : goal.take_next-requires-clause-stands
take_next-requires-clause-stands g c = c.loop-index.invariant.stands

pub take_next-requires-clause-within : goal.take_next-requires-clause-within
take_next-requires-clause-within g c = subst (IsWithin (fold_of c.loop-index.folded)) (sym c.loop-index.invariant.here) c.loop-index.invariant.within

pub returns-in-Err-clause-folds : goal.returns-in-Err-clause-folds
returns-in-Err-clause-folds g c = λ payloads holds count.
    walk_fails g.D.Disk.disk c.args.journal.now c.loop-index.journal c.loop-index.cursor c.loop-index.index (fold_of c.loop-index.folded) (g.met.D.Disk.lawful _) c.loop-index.invariant (fold_of c.take_next.new.folded) c.in-Err.fault (subst (AreTaken g.D.Disk.disk c.loop-index.journal (Some c.in-Err.fault) (fold_of c.loop-index.folded) (fold_of c.take_next.new.folded)) c.loop-index.invariant.here c.in-Err.ensures.takes) payloads holds (omega (arith, c.loop-index-test.true, c.count-index-end.ensures, count))

pub returns-in-Err-clause-reads : goal.returns-in-Err-clause-reads
returns-in-Err-clause-reads g c =
    let disk = g.D.Disk.disk in
    reads_then _ (disk c.args.journal.now.disk) (disk c.loop-index.journal.disk) (disk c.take_next.new.journal.disk) (g.met.D.Disk.lawful _) c.loop-index.invariant.reads c.in-Err.ensures.reads

pub loop-index-preserved : goal.loop-index-preserved
loop-index-preserved g c =
    walks_on g.D.Disk.disk c.args.journal.now c.loop-index.journal c.loop-index.cursor c.loop-index.index (fold_of c.loop-index.folded) (g.met.D.Disk.lawful _) c.loop-index.invariant c.take_next.new.journal (fold_of c.take_next.new.folded) (subst (λ n. Steps n (fold_of c.loop-index.folded) (fold_of c.take_next.new.folded)) c.loop-index.invariant.here c.in-Ok.ensures.steps) (subst (AreTaken g.D.Disk.disk c.loop-index.journal None (fold_of c.loop-index.folded) (fold_of c.take_next.new.folded)) c.loop-index.invariant.here c.in-Ok.ensures.takes) c.in-Ok.ensures.journal c.in-Ok.ensures.reads c.take_next.new.cursor c.in-Ok.ensures.moved c.in-Ok.ensures.stands

pub returns-clause-folds : goal.returns-clause-folds
returns-clause-folds g c =
    let at_end : c.loop-index.index ≡ c.args.journal.now.count = omega (arith, c.loop-index-test.false, c.loop-index.auto.index-end, c.count-index-end.ensures) in
    walk_ends g.D.Disk.disk c.args.journal.now c.loop-index.journal c.loop-index.cursor c.loop-index.index c.loop-index.folded c.loop-index.invariant at_end

pub returns-clause-within : goal.returns-clause-within
returns-clause-within g c =
    let at_end : c.loop-index.index ≡ c.args.journal.now.count = omega (arith, c.loop-index-test.false, c.loop-index.auto.index-end, c.count-index-end.ensures) in
    subst (IsWithin (fold_of c.loop-index.folded)) at_end c.loop-index.invariant.within

pub returns-clause-journal : goal.returns-clause-journal
returns-clause-journal g c = c.loop-index.invariant.goes_on

pub returns-clause-reads : goal.returns-clause-reads
returns-clause-reads g c = c.loop-index.invariant.reads

pub returns-then-count-eq0-clause-folds : goal.returns-then-count-eq0-clause-folds
returns-then-count-eq0-clause-folds g c = λ payloads holds count. walks_nothing c.new-folded.result c.args.journal.now.count payloads c.new-folded.ensures (omega (arith, c.count.ensures)) count
