use Rattle.std.proofs.Common.{◌≡◌, ◌+◌, ◌*◌, ◌/◌, ◌∙◌, ap, subst, arith}
use Rattle.fix_journal.specs.Cursors.{Shows}
use Rattle.fix_journal.proofs.ReadLemmas.{on_ok}
use Rattle.fix_journal.proofs.CursorLemmas.{IsAtRecord, range, each_there, next_gate, gives_on_ok}
use Rattle.fix_journal.proofs.PassLemmas.{at_pass, passes_on}
use Rattle.fix_journal.proofs.peeking.read_after.Goals as goal

pub look-requires : goal.look-requires
look-requires g c =
    let disk = g.D.Disk.disk in
    let l = c.loop-done in
    range (disk l.disk) _ l.place c.args.limit (at_pass (disk c.args.disk.now) c.args.mark c.args.limit c.args.index c.requires.told c.requires.there (disk l.disk) l.done l.place l.invariant (omega (arith, c.loop-done-test.true)))

pub loop-done-preserved : goal.loop-done-preserved
loop-done-preserved g c =
    let disk = g.D.Disk.disk in
    let l = c.loop-done in
    let index = 64 * (c.args.index / 64) + l.done in
    let at = at_pass (disk c.args.disk.now) c.args.mark c.args.limit c.args.index c.requires.told c.requires.there (disk l.disk) l.done l.place l.invariant (omega (arith, c.loop-done-test.true)) in
    passes_on (disk c.args.disk.now) c.args.mark c.args.limit c.args.index c.requires.told c.requires.there (disk l.disk) l.done l.place l.invariant (disk c.look.new.disk) c.past-place.result (g.met.D.Disk.lawful _) (omega (arith, c.loop-done-test.true)) c.in-Ok.ensures.moves c.in-Ok.ensures.room (omega (arith, c.past-place.ensures.from, c.past-place.ensures.within))
    (λ payloads holds.
    let there = at.there payloads holds in
    let got = each_there (disk l.disk) index l.place c.args.limit at (Shows c.in-Ok.p) c.in-Ok.ensures.shows payloads holds in
    next_gate (disk l.disk) payloads holds index l.place c.args.limit c.past-place.result got.0 got.1 there.1 there.2
    (λ fits. c.past-place.ensures.is (omega (arith, fits, got.2.0)) ∙ ap (λ n. l.place + (5 + n)) got.2.0))

pub read_record-requires-clause-within : goal.read_record-requires-clause-within
read_record-requires-clause-within g c =
    let disk = g.D.Disk.disk in
    let l = c.loop-done in
    range (disk l.disk) _ l.place c.args.limit (at_pass (disk c.args.disk.now) c.args.mark c.args.limit c.args.index c.requires.told c.requires.there (disk l.disk) l.done l.place l.invariant (omega (arith, l.auto.done-end)))

pub returns-clause-read : goal.returns-clause-read
returns-clause-read g c =
    let disk = g.D.Disk.disk in
    let l = c.loop-done in
    let at_end : 64 * (c.args.index / 64) + l.done ≡ c.args.index = omega (arith, l.auto.done-end, c.loop-done-test.false) in
    let at : IsAtRecord (disk l.disk) c.args.index l.place c.args.limit = subst (λ n. IsAtRecord (disk l.disk) n l.place c.args.limit) at_end (at_pass (disk c.args.disk.now) c.args.mark c.args.limit c.args.index c.requires.told c.requires.there (disk l.disk) l.done l.place l.invariant (omega (arith, l.auto.done-end))) in
    on_ok c.read_record.result
    (λ gives payloads holds. gives payloads (holds.0, l.invariant.reads.same.bytes ∙ holds.1, holds.2))
    (gives_on_ok (disk l.disk) c.args.index l.place c.args.limit at c.read_record.result c.read_record.new.into.items c.read_record.ensures.read)
