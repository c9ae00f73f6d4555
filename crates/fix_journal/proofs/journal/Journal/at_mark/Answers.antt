use Rattle.std.proofs.Common.{◌≡◌, ◌*◌, ◌≤◌, length, take, ◌∙◌, sym, ap, arith}
use Rattle.fix_journal.specs.Format.{front}
use Rattle.fix_journal.proofs.SoundLemmas.{calm, rested}
use Rattle.fix_journal.proofs.journal.Journal.at_mark.Goals as goal

pub returns-clause-stands : goal.returns-clause-stands
returns-clause-stands g c =
    let s = c.self.inside in
    let disk = g.D.Disk.disk in
    let within : 64 * c.args.k ≤ s.index.count = rw (← c.self.view_is) at c.requires in
    let index : c.min-index.result ≡ 64 * c.args.k = omega (arith, c.min-index.ensures, c.count.ensures, c.requires) in
    rw (← c.self.view_is)
    (λ still payloads holds.
    let r = rested (disk s.disk) s.index (calm (disk s.disk) s.index s.stopped still c.self.invariant) payloads holds in
    c.mark.ensures ∙ r.1.marks c.args.k (omega (arith, within, r.1.count)) ∙ ap (λ n. length (front (take n payloads))) (sym index))
