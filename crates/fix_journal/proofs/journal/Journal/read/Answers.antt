use Rattle.std.proofs.Common.{◌<◌, ◌∙◌, arith}
use Rattle.fix_journal.proofs.SoundLemmas.{calm, rested}
use Rattle.fix_journal.proofs.journal.Journal.read.Goals as goal

pub read_after-requires-clause-there : goal.read_after-requires-clause-there
read_after-requires-clause-there g c = λ payloads holds.
    let s = c.self.inside in
    let disk = g.D.Disk.disk in
    let within : c.args.index < s.index.count = rw (← c.self.view_is) at c.requires in
    let r = rested (disk s.disk) s.index (calm (disk s.disk) s.index s.stopped c.if-self.false c.self.invariant) payloads holds in
    record {
      within = omega (arith, within, r.1.count);
      at = c.mark-mark.ensures ∙ r.1.marks _ (omega (arith, within, r.1.count));
      limited = c.limit-limit.ensures.is payloads r.1;
    }
