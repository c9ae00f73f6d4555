use Rattle.std.proofs.Common.{sym, ap, ◌∙◌}
use Rattle.std.specs.FinSet.{contains}
use Rattle.fix_dict.proofs.TagLemmas.{contains_is}
use Rattle.fix_dict.proofs.tags.Tags.has.Goals as goal

pub returns : goal.returns
returns c = c.contains.ensures ∙ sym (contains_is c.self.inside.set c.args.tag) ∙ ap (λ s. contains s c.args.tag) c.self.view_is
