use Rattle.std.proofs.Common.{◌≡◌, List, take, subst, arith}
use Rattle.fix_base.specs.Fields.{Field}
use Rattle.fix_groups.specs.Tagged.{all_tagged}
use Rattle.fix_validate.specs.Required.{up_to}
use Rattle.fix_validate.proofs.RequiredLemmas.{instance_from}
use Rattle.fix_validate.proofs.required.instance_at.Goals as goal

pub returns : goal.returns
returns c =
    let n = c.length_up_to.result in
    λ d.
    instance_from c.args.delimiter n _ c.args.run.now c.args.place d c.requires (omega arith)
    (subst (λ (l : List Field). all_tagged (take n l) ≡ up_to c.args.delimiter (all_tagged l)) c.after-behind.ensures c.length_up_to.ensures.up_to)
