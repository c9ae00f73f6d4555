use Rattle.std.proofs.Common.{sym, ap, ◌∙◌}
use Rattle.std.specs.Ordering.{nat_cmp}
use Rattle.std.specs.Cmp.{nat_cmp_total}
use Rattle.std.specs.BTreeMap as tree
use Rattle.std.specs.FinMap.{get}
use Rattle.fix_dict.proofs.TableLemmas.{get_is}
use Rattle.fix_dict.proofs.fields.Fields.get.Goals as goal

pub returns : goal.returns
returns c =
    c.get-2.ensures.value ∙ ap (λ t. tree.get nat_cmp c.self.inside.rules t) c.get.ensures.value
    ∙ sym (get_is nat_cmp_total c.self.inside.rules c.args.tag) ∙ ap (λ m. get m c.args.tag) c.self.view_is
