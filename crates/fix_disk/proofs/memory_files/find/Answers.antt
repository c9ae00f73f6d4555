use Rattle.std.proofs.Common.{sym, ◌∙◌}
use Rattle.std.proofs.lemmas.Bool.{false≢true}
use Rattle.fix_disk.proofs.FileLemmas.{first_file, later_file, none_here}
use Rattle.fix_disk.proofs.memory_files.find.Goals as goal

pub returns-then-is_same : goal.returns-then-is_same
returns-then-is_same c =
    let rest = c.loop-rest.rest.now in
    let same = sym c.as_slice.ensures ∙ c.is_same.ensures.0 c.if-is_same.true in
    (c.loop-rest.invariant c.as_slice-then-is_same.result.now).0 (first_file c.args.name.now rest c.first-item.result _ c.in-len1-up.len_at_least c.first-item.is c.as_slice-then-is_same.result.now same (sym c.as_slice-then-is_same.ensures))

pub loop-rest-preserved : goal.loop-rest-preserved
loop-rest-preserved c =
    λ bytes.
    let rest = c.loop-rest.rest.now in
    let step = later_file c.args.name.now rest c.first-item.result _ c.in-len1-up.len_at_least c.first-item.is (λ same. false≢true (sym c.if-is_same.false ∙ c.is_same.ensures.1 (c.as_slice.ensures ∙ same))) bytes in
    let was = c.loop-rest.invariant bytes in
    (λ later. was.0 (step.0 later), λ here. step.1 (was.1 here))

pub returns : goal.returns
returns c = λ bytes file. none_here c.args.name.now c.loop-rest.rest.now c.in_default.len_below bytes ((c.loop-rest.invariant bytes).1 file)
