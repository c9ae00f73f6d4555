use Rattle.std.proofs.Common.{refl, sym, ◌∙◌, subst, arith}
use Rattle.fix_store.specs.Finding.{StandFirst}
use Rattle.fix_store.proofs.FindLemmas.{before_end, inside, looked, is_here, not_here, next_of}
use Rattle.fix_store.proofs.finding.+seek.Goals as goal

pub returns-then-index-end-clause-found : goal.returns-then-index-end-clause-found
returns-then-index-end-clause-found g t c = λ payloads items holds first of small above.
    absurd (before_end items c.args.spot c.args.end c.args.target of c.requires.order above (omega arith))

pub returns-in-Ok-fetch-clause-found : goal.returns-in-Ok-fetch-clause-found
returns-in-Ok-fetch-clause-found g t c = λ payloads items holds first of small above.
    let disk = g.D.Disk.disk in
    let s = c.args.spot in
    let old = c.args.journal.now in
    let mid = c.look.new.journal in
    let n = c.pushes_in-count.result in
    let lt = inside items s c.args.end c.args.target of c.requires.order above in
    let same = c.in-Ok.ensures.reads.same in
    let still = c.in-Ok.ensures.journal.stopped in
    let long = looked disk old mid s c.in-Ok.peek n same still c.in-Ok.ensures.shows c.pushes_in-count.ensures payloads items holds first of lt in
    let there = c.in-Ok-fetch.ensures.read payloads (holds.0, same.bytes ∙ holds.1, holds.2) in (
      is_here old.count payloads items first s of lt _ c.args.target n refl refl c.requires.order long (omega arith) c.fetch.new.payload.items there,
      record {
        at = of;
        after = next_of old.count payloads items first s of lt c.next_spot-after.result n long c.next_spot-after.ensures.index c.next_spot-after.ensures.before small;
        next = c.next_spot-after.ensures.index;
      },
    )

pub returns-clause-found : goal.returns-clause-found
returns-clause-found g t c = λ payloads items holds first of small above.
    let disk = g.D.Disk.disk in
    let s = c.args.spot in
    let old = c.args.journal.now in
    let mid = c.look.new.journal in
    let n = c.pushes_in-count.result in
    let lt = inside items s c.args.end c.args.target of c.requires.order above in
    let same = c.in-Ok.ensures.reads.same in
    let still = c.in-Ok.ensures.journal.stopped in
    let long = looked disk old mid s c.in-Ok.peek n same still c.in-Ok.ensures.shows c.pushes_in-count.ensures payloads items holds first of lt in
    c.seek.ensures.found payloads items (holds.0, same.bytes ∙ holds.1, holds.2) (subst (λ m. StandFirst m payloads items) (sym c.in-Ok.ensures.journal.count) first)
    (next_of old.count payloads items first s of lt c.next_spot-after.result n long c.next_spot-after.ensures.index c.next_spot-after.ensures.before small) small above

pub returns-clause-soon : goal.returns-clause-soon
returns-clause-soon g t c = λ payloads items holds first of below lt.
    let disk = g.D.Disk.disk in
    let s = c.args.spot in
    let old = c.args.journal.now in
    let mid = c.look.new.journal in
    let n = c.pushes_in-count.result in
    let same = c.in-Ok.ensures.reads.same in
    let still = c.in-Ok.ensures.journal.stopped in
    let long = looked disk old mid s c.in-Ok.peek n same still c.in-Ok.ensures.shows c.pushes_in-count.ensures payloads items holds first of lt in
    absurd (not_here old.count payloads items first s of lt c.args.target n c.requires.order long (λ here. absurd (omega (arith, here))) below)
