use Rattle.std.proofs.Common.{ap, ◌∙◌}
use Rattle.std.specs.FinSet.{insert}
use Rattle.fix_dict.proofs.TagLemmas.{insert_is}
use Rattle.fix_dict.proofs.tags.Tags.insert.Goals as goal

pub returns : goal.returns
returns c = insert_is c.self.inside.set c.insert.new.self c.args.tag (λ q. c.in_ok-insert.ensures.updates.0 q) ∙ ap (λ s. insert s c.args.tag) c.self.view_is
