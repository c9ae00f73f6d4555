use Rattle.std.proofs.Common.{sym, ◌∙◌}
use Rattle.fix_journal.specs.Cursors.{Shows}
use Rattle.fix_journal.proofs.SoundLemmas.{calm, rested}
use Rattle.fix_journal.proofs.CursorLemmas.{at_cursor, range, each_there}
use Rattle.fix_journal.proofs.journal.Journal.peek.Goals as goal

pub look-requires : goal.look-requires
look-requires g c =
    let s = c.self.inside in
    let disk = g.D.Disk.disk in
    let at = at_cursor (disk s.disk) s.index (calm (disk s.disk) s.index s.stopped c.if-self.false c.self.invariant) c.args.c.now.index c.args.c.now.place c.index.result c.place.result c.limit-limit.result c.index.ensures c.place.ensures (rw (← c.self.view_is) at c.requires.record) ((rw (← c.self.view_is) at c.requires.stands) c.if-self.false) (λ payloads holds. c.limit-limit.ensures.is payloads (rested (disk s.disk) s.index (calm (disk s.disk) s.index s.stopped c.if-self.false c.self.invariant) payloads holds).1) in
    range (disk s.disk) c.args.c.now.index c.place.result c.limit-limit.result at

pub returns-in-Ok-clause-shows : goal.returns-in-Ok-clause-shows
returns-in-Ok-clause-shows g c = λ still payloads holds.
    let s = c.self.inside in
    let disk = g.D.Disk.disk in
    let at = at_cursor (disk s.disk) s.index (calm (disk s.disk) s.index s.stopped c.if-self.false c.self.invariant) c.args.c.now.index c.args.c.now.place c.index.result c.place.result c.limit-limit.result c.index.ensures c.place.ensures (rw (← c.self.view_is) at c.requires.record) ((rw (← c.self.view_is) at c.requires.stands) c.if-self.false) (λ payloads holds. c.limit-limit.ensures.is payloads (rested (disk s.disk) s.index (calm (disk s.disk) s.index s.stopped c.if-self.false c.self.invariant) payloads holds).1) in
    each_there (disk s.disk) c.args.c.now.index c.place.result c.limit-limit.result at (Shows c.in-Ok.peek) c.in-Ok.ensures.shows payloads (holds.0, sym c.in-Ok.ensures.moves.same.bytes ∙ holds.1, holds.2)

pub returns-in-Ok-clause-stands : goal.returns-in-Ok-clause-stands
returns-in-Ok-clause-stands g c = λ still payloads holds. (rw (← c.self.view_is) at c.requires.stands) c.if-self.false payloads (holds.0, sym c.in-Ok.ensures.moves.same.bytes ∙ holds.1, holds.2)
