use Rattle.std.proofs.Common.{Err, sym, ap, subst, ◌∙◌}
use Rattle.fix_groups.specs.Tagged.{all_tagged}
use Rattle.fix_groups.specs.Misfits.{first_misfit}
use Rattle.fix_groups.specs.Fits.{IsTreeOf}
use Rattle.fix_groups.specs.Split.{Answers}
use Rattle.fix_groups.proofs.Splitting.{answers_tree, answers_fault}
use Rattle.fix_groups.proofs.build.split.Goals as goal

pub returns-in-Ok-build : goal.returns-in-Ok-build
returns-in-Ok-build c fs are =
    answers_tree c.args.layout.now c.in-Ok.fields.items fs c.in-Ok-build.tree c.requires (c.in-Ok.ensures fs are)
    (sym c.in-Ok-None.field-0-is ∙ c.in-Ok-None.ensures ∙ ap (λ l. first_misfit c.args.layout.now (all_tagged l)) c.deref.ensures.value)
    (subst (λ l. IsTreeOf c.args.layout.now l c.in-Ok-build.tree) c.deref-in-Ok-None.ensures.value c.in-Ok-build.ensures)

pub returns-in-Ok-Some : goal.returns-in-Ok-Some
returns-in-Ok-Some c fs are =
    subst (λ f. Answers c.args.layout.now fs (Err f)) (sym c.fault_of.ensures)
    (answers_fault c.args.layout.now c.in-Ok.fields.items fs c.in-Ok-Some.misfit c.requires (c.in-Ok.ensures fs are)
    (sym c.in-Ok-Some.field-0-is ∙ c.in-Ok-Some.ensures ∙ ap (λ l. first_misfit c.args.layout.now (all_tagged l)) c.deref.ensures.value))
