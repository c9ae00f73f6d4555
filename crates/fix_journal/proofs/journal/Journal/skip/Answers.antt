use Rattle.std.proofs.Common.{◌+◌, length, take, sym, ◌∙◌, ap, subst, arith}
use Rattle.fix_journal.specs.Format.{front}
use Rattle.fix_journal.specs.Index.{IsLimit}
use Rattle.fix_journal.proofs.SoundLemmas.{calm, rested}
use Rattle.fix_journal.proofs.CursorLemmas.{next_gate}
use Rattle.fix_journal.proofs.journal.Journal.skip.Goals as goal

pub returns-clause-stands : goal.returns-clause-stands
returns-clause-stands g c =
    let s = c.self.inside in
    let disk = g.D.Disk.disk in
    rw (← c.self.view_is)
    (λ still payloads holds.
    let peeked = (rw (← c.self.view_is) at c.requires.peek) still payloads holds in
    next_gate (disk s.disk) payloads holds c.args.c.now.index c.args.c.now.place c.limit-limit.result c.past.result peeked.0 peeked.1 ((rw (← c.self.view_is) at c.requires.stands) still payloads holds)
    (subst (λ n. IsLimit payloads n c.limit-limit.result) c.index.ensures (c.limit-limit.ensures.is payloads (rested (disk s.disk) s.index (calm (disk s.disk) s.index s.stopped still c.self.invariant) payloads holds).1))
    (λ fits. omega (arith, c.past.ensures.is (omega (arith, fits, c.place.ensures, peeked.2.0)), c.place.ensures, peeked.2.0))
    ∙ ap (λ n. length (front (take (n + 1) payloads))) (sym c.index-2.ensures))
