use Rattle.std.proofs.Common.{◌≡◌, ◌+◌, ◌≤◌, length, sym, ◌∙◌, ap, subst, arith, rules}
use Rattle.std.proofs.lemmas.List.{take_at}
use Rattle.fix_journal.specs.Cursors.{Gives}
use Rattle.fix_journal.proofs.SoundLemmas.{calm, rested}
use Rattle.fix_journal.proofs.CallLemmas.{when_ok}
use Rattle.fix_journal.proofs.ReadLemmas.{reads_once}
use Rattle.fix_journal.proofs.CursorLemmas.{at_cursor, payload_range, payload_read, one_payload}
use Rattle.fix_journal.proofs.journal.Journal.take.Goals as goal

pub read_at-requires : goal.read_at-requires
read_at-requires g c =
    let s = c.self.inside in
    let disk = g.D.Disk.disk in
    let at = at_cursor (disk s.disk) s.index (calm (disk s.disk) s.index s.stopped c.if-self.false c.self.invariant) c.args.c.now.index c.args.c.now.place c.index.result c.place.result c.limit-limit.result c.index.ensures c.place.ensures (rw (← c.self.view_is) at c.requires.record) ((rw (← c.self.view_is) at c.requires.stands) c.if-self.false) (λ payloads holds. c.limit-limit.ensures.is payloads (rested (disk s.disk) s.index (calm (disk s.disk) s.index s.stopped c.if-self.false c.self.invariant) payloads holds).1) in
    let start : c.place.result + 5 ≤ c.limit-limit.result → c.past-start.result ≡ c.place.result + 5 = λ fits. c.past-start.ensures.is fits in
    let size : length c.deref_mut.result.now ≡ c.min.result = ap length c.deref_mut.ensures.value ∙ when_ok c.fill_up.result c.if-is_err.ensures.value c.fill_up.ensures in
    payload_range (disk s.disk) c.args.c.now.index c.place.result c.limit-limit.result at c.past-start.result (length c.deref_mut.result.now) start
    (λ payloads holds payload is fits.
    let peeked = (rw (← c.self.view_is) at c.requires.peek) c.if-self.false payloads holds in
    omega (arith, size, c.min.ensures, fits, start (omega (arith, fits)), peeked.2.0, ap length (one_payload payloads c.args.c.now.index peeked.0 payload peeked.1 is)))

pub returns-in-Ok-clause-read : goal.returns-in-Ok-clause-read
returns-in-Ok-clause-read g c =
    let s = c.self.inside in
    let disk = g.D.Disk.disk in
    let at = at_cursor (disk s.disk) s.index (calm (disk s.disk) s.index s.stopped c.if-self.false c.self.invariant) c.args.c.now.index c.args.c.now.place c.index.result c.place.result c.limit-limit.result c.index.ensures c.place.ensures (rw (← c.self.view_is) at c.requires.record) ((rw (← c.self.view_is) at c.requires.stands) c.if-self.false) (λ payloads holds. c.limit-limit.ensures.is payloads (rested (disk s.disk) s.index (calm (disk s.disk) s.index s.stopped c.if-self.false c.self.invariant) payloads holds).1) in
    let room = c.read_at.new.room in
    let all : length room ≡ c.fill_up.new.room.len = search rules in
    let start : c.place.result + 5 ≤ c.limit-limit.result → c.past-start.result ≡ c.place.result + 5 = λ fits. c.past-start.ensures.is fits in
    let size : length room ≡ c.min.result = c.read_at.auto.room ∙ ap length c.deref_mut.ensures.value ∙ when_ok c.fill_up.result c.if-is_err.ensures.value c.fill_up.ensures in
    rw (← c.self.view_is)
    (subst (λ l. Gives (disk s.disk) c.args.c.now.index l) (sym (take_at room _ c.fill_up.new.room.len all))
    (payload_read (disk s.disk) c.args.c.now.index c.place.result c.limit-limit.result at c.past-start.result room start
    (λ payloads holds payload is fits.
    let peeked = (rw (← c.self.view_is) at c.requires.peek) c.if-self.false payloads holds in
    omega (arith, size, c.min.ensures, fits, start (omega (arith, fits)), peeked.2.0, ap length (one_payload payloads c.args.c.now.index peeked.0 payload peeked.1 is)))
    c.in-Ok.ensures.moves.read))

pub returns-in-Ok-clause-stands : goal.returns-in-Ok-clause-stands
returns-in-Ok-clause-stands g c = λ still payloads holds. (rw (← c.self.view_is) at c.requires.stands) c.if-self.false payloads (holds.0, sym c.in-Ok.ensures.moves.same.bytes ∙ holds.1, holds.2)

pub returns-in-Ok-clause-moves : goal.returns-in-Ok-clause-moves
returns-in-Ok-clause-moves g c =
    let s = c.self.inside in
    rw (← c.self.view_is) (reads_once _ _ _ _ _ (g.met.D.Disk.lawful _) c.in-Ok.ensures.moves)

pub returns-in-Err-clause-moves : goal.returns-in-Err-clause-moves
returns-in-Err-clause-moves g c =
    let s = c.self.inside in
    rw (← c.self.view_is) (reads_once _ _ _ _ _ (g.met.D.Disk.lawful _) c.in-Err.ensures.moves)
