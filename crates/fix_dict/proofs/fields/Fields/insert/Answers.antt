use Rattle.std.proofs.Common.{ap, ◌∙◌}
use Rattle.std.specs.Ordering.{nat_cmp}
use Rattle.std.specs.Cmp.{nat_cmp_total}
use Rattle.std.specs.FinMap.{insert, from_entries, nat_cmp-IsAntisymmetric}
use Rattle.fix_dict.proofs.TableLemmas.{insert_is}
use Rattle.fix_dict.proofs.fields.Fields.insert.Goals as goal

pub returns : goal.returns
returns c =
    insert_is nat_cmp_total nat_cmp-IsAntisymmetric c.self.inside.rules c.insert.new.self c.get.result c.args.rule (λ q. c.in_ok-insert.ensures.updates.0 q)
    ∙ ap (λ t. insert (from_entries {R = nat_cmp} c.self.inside.rules.entries) t c.args.rule) c.get.ensures.value ∙ ap (λ m. insert m c.args.tag c.args.rule) c.self.view_is
