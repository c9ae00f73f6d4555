use Rattle.fix_groups.proofs.Wholes.{right_is_whole}
use Rattle.fix_groups.proofs.WholeIsRight.{whole_is_right}
use Rattle.fix_groups.proofs.laws.no_misfit_is_whole.Goals as goal

pub returns : goal.returns
returns c root fs twice = (λ h. right_is_whole root fs twice h, λ w. whole_is_right root fs twice w)
