use Rattle.fix_groups.proofs.Splitting.{tree_text}
use Rattle.fix_groups.proofs.laws.a_split_is_given_back.Goals as goal

pub returns : goal.returns
returns c root fs tree t = tree_text root fs tree t
