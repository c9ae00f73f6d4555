use Rattle.std.proofs.Common.{ap, ◌∙◌, arith, refl}
use Rattle.fix_disk.proofs.LogLemmas.{counted_push, steps_push_sync}
use Rattle.fix_disk.specs.Log.{counted, steps_of}
use Rattle.fix_disk.proofs.log.Log.note_sync.Goals as goal

pub invariant_of-self-clause-counts : goal.invariant_of-self-clause-counts
invariant_of-self-clause-counts c = let l = c.args.self.now in ap counted c.put.ensures.items ∙ counted_push l.steps.items _ ∙ omega (arith, l.counts)

pub returns-clause-steps : goal.returns-clause-steps
returns-clause-steps c = let l = c.args.self.now in λ some. ap (λ steps. steps_of steps l.written.items) c.put.ensures.items ∙ steps_push_sync l.steps.items _ l.written.items refl
