use Rattle.std.proofs.Common.{rules}
use Rattle.fix_groups.proofs.ToldLemmas.{told_is, is_told}
use Rattle.fix_groups.proofs.distinct.has_no_twice.Goals as goal

pub returns : goal.returns
returns c = (λ h. told_is c.args.layout.now (search (rules, h, c.has_distinct_tags.ensures)), λ t. search (rules, is_told c.args.layout.now t, c.has_distinct_tags.ensures))
