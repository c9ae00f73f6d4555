use Rattle.std.proofs.Common.{ap, ◌∙◌, sym, arith, length-append, length, ◌++◌, ◌∷◌, []}
use Rattle.fix_disk.proofs.LogLemmas.{counted_push, steps_push_write}
use Rattle.fix_disk.specs.declared.log.Change.TheVariants.{Write}
use Rattle.fix_disk.specs.Log.{counted, steps_of}
use Rattle.fix_disk.proofs.log.Log.note_write.Goals as goal

pub invariant_of-self-clause-counts : goal.invariant_of-self-clause-counts
invariant_of-self-clause-counts c =
    let l = c.args.self.now in
    ap counted c.put.ensures.items ∙ counted_push l.steps.items _ ∙ omega (arith, l.counts, length-append l.written.items c.args.bytes.now) ∙ sym (ap length c.put_bytes.ensures.items)

pub returns-clause-steps : goal.returns-clause-steps
returns-clause-steps c =
    let l = c.args.self.now in
    λ some.
    ap (λ steps. steps_of steps c.put_bytes.new.held.items) c.put.ensures.items
    ∙ ap (λ written. steps_of (l.steps.items ++ record { moment = c.args.moment; change = Write c.args.at (length c.args.bytes.now) } ∷ []) written) c.put_bytes.ensures.items
    ∙ steps_push_write l.steps.items c.args.moment c.args.at l.written.items c.args.bytes.now l.counts
