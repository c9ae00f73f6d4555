use Rattle.fix_groups.proofs.PlainCounts.{plain_text}
use Rattle.fix_groups.proofs.laws.plain_counts_are_given_back.Goals as goal

pub returns : goal.returns
returns c root bytes fs tree are t plain = plain_text root bytes fs tree are t plain
