use Rattle.std.proofs.Common.{◌≡◌, IfOk, subst, ◌∙◌}
use Rattle.fix_fields.specs.Shapes.{Shapes}
use Rattle.fix_groups.specs.Tagged.{all_tagged}
use Rattle.fix_groups.specs.Misfits.{first_misfit}
use Rattle.fix_groups.proofs.JoinedLemmas.{joined-nil}
use Rattle.fix_groups.proofs.misfits.first_misfit.Goals as goal

pub returns : goal.returns
returns c =
    let e : c.new-whole.result ≡ c.args.root.now = c.new-whole.ensures ∙ rw c.new.ensures.items (joined-nil c.args.root.now) in
    subst (λ (s : Shapes). IfOk c.first_misfit_of.result (λ fault. fault ≡ first_misfit s (all_tagged c.args.fields.now))) e c.first_misfit_of.ensures
