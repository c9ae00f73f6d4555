use Rattle.std.proofs.Common.{◌≡◌, ◌+◌, length, take, sym, ◌∙◌, ap, arith, rules}
use Rattle.fix_journal.specs.Format.{front}
use Rattle.fix_journal.proofs.SoundLemmas.{calm, rested}
use Rattle.fix_journal.proofs.CursorLemmas.{at_cursor, range, next_gate, gives_each, short_there}
use Rattle.fix_journal.specs.Journal.{Holds}
use Rattle.fix_journal.proofs.journal.Journal.next.Goals as goal

pub read_record-requires-clause-within : goal.read_record-requires-clause-within
read_record-requires-clause-within g c =
    let s = c.self.inside in
    let disk = g.D.Disk.disk in
    let at = at_cursor (disk s.disk) s.index (calm (disk s.disk) s.index s.stopped c.if-self.false c.self.invariant) c.args.c.now.index c.args.c.now.place c.index.result c.place-2.result c.limit-limit.result c.index.ensures c.place-2.ensures (rw (← c.self.view_is) at c.requires.record) ((rw (← c.self.view_is) at c.requires.stands) c.if-self.false) (λ payloads holds. c.limit-limit.ensures.is payloads (rested (disk s.disk) s.index (calm (disk s.disk) s.index s.stopped c.if-self.false c.self.invariant) payloads holds).1) in
    range (disk s.disk) c.args.c.now.index c.place-2.result c.limit-limit.result at

pub returns-in-Ok-clause-read : goal.returns-in-Ok-clause-read
returns-in-Ok-clause-read g c =
    let s = c.self.inside in
    let disk = g.D.Disk.disk in
    let at = at_cursor (disk s.disk) s.index (calm (disk s.disk) s.index s.stopped c.if-self.false c.self.invariant) c.args.c.now.index c.args.c.now.place c.index.result c.place-2.result c.limit-limit.result c.index.ensures c.place-2.ensures (rw (← c.self.view_is) at c.requires.record) ((rw (← c.self.view_is) at c.requires.stands) c.if-self.false) (λ payloads holds. c.limit-limit.ensures.is payloads (rested (disk s.disk) s.index (calm (disk s.disk) s.index s.stopped c.if-self.false c.self.invariant) payloads holds).1) in
    rw (← c.self.view_is) (gives_each (disk s.disk) c.args.c.now.index c.place-2.result c.limit-limit.result at c.read_record.new.into.items c.in-Ok.ensures.read)

pub returns-in-Ok-clause-short : goal.returns-in-Ok-clause-short
returns-in-Ok-clause-short g c =
    let s = c.self.inside in
    let disk = g.D.Disk.disk in
    let at = at_cursor (disk s.disk) s.index (calm (disk s.disk) s.index s.stopped c.if-self.false c.self.invariant) c.args.c.now.index c.args.c.now.place c.index.result c.place-2.result c.limit-limit.result c.index.ensures c.place-2.ensures (rw (← c.self.view_is) at c.requires.record) ((rw (← c.self.view_is) at c.requires.stands) c.if-self.false) (λ payloads holds. c.limit-limit.ensures.is payloads (rested (disk s.disk) s.index (calm (disk s.disk) s.index s.stopped c.if-self.false c.self.invariant) payloads holds).1) in
    rw (← c.self.view_is) (short_there (disk s.disk) c.args.c.now.index c.place-2.result c.limit-limit.result at (disk c.read_record.new.disk) c.in-Ok.ensures.short)

pub returns-in-Err-clause-short : goal.returns-in-Err-clause-short
returns-in-Err-clause-short g c =
    let s = c.self.inside in
    let disk = g.D.Disk.disk in
    let at = at_cursor (disk s.disk) s.index (calm (disk s.disk) s.index s.stopped c.if-self.false c.self.invariant) c.args.c.now.index c.args.c.now.place c.index.result c.place-2.result c.limit-limit.result c.index.ensures c.place-2.ensures (rw (← c.self.view_is) at c.requires.record) ((rw (← c.self.view_is) at c.requires.stands) c.if-self.false) (λ payloads holds. c.limit-limit.ensures.is payloads (rested (disk s.disk) s.index (calm (disk s.disk) s.index s.stopped c.if-self.false c.self.invariant) payloads holds).1) in
    rw (← c.self.view_is) (short_there (disk s.disk) c.args.c.now.index c.place-2.result c.limit-limit.result at (disk c.read_record.new.disk) c.in-Err.ensures.short)

pub returns-in-Ok-clause-stands : goal.returns-in-Ok-clause-stands
returns-in-Ok-clause-stands g c = λ still payloads holds.
    let s = c.self.inside in
    let disk = g.D.Disk.disk in
    let at = at_cursor (disk s.disk) s.index (calm (disk s.disk) s.index s.stopped c.if-self.false c.self.invariant) c.args.c.now.index c.args.c.now.place c.index.result c.place-2.result c.limit-limit.result c.index.ensures c.place-2.ensures (rw (← c.self.view_is) at c.requires.record) ((rw (← c.self.view_is) at c.requires.stands) c.if-self.false) (λ payloads holds. c.limit-limit.ensures.is payloads (rested (disk s.disk) s.index (calm (disk s.disk) s.index s.stopped c.if-self.false c.self.invariant) payloads holds).1) in
    let was : Holds (disk s.disk) payloads = (holds.0, sym c.in-Ok.ensures.moves.same.bytes ∙ holds.1, holds.2) in
    let into = c.read_record.new.into.items in
    let long : c.len.result ≡ length into = search rules in
    let lies = gives_each (disk s.disk) c.args.c.now.index c.place-2.result c.limit-limit.result at into c.in-Ok.ensures.read payloads was in
    next_gate (disk s.disk) payloads was c.args.c.now.index c.args.c.now.place c.limit-limit.result c.past.result into lies ((rw (← c.self.view_is) at c.requires.stands) c.if-self.false payloads was)
    ((at.there payloads was).2)
    (λ fits. omega (arith, c.past.ensures.is (omega (arith, fits, c.place-in-Ok.ensures, long)), c.place-in-Ok.ensures, long))
    ∙ ap (λ n. length (front (take (n + 1) payloads))) (sym c.index-in-Ok.ensures)
