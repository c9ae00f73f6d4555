use Rattle.fix_validate.proofs.RowLemmas.{first_of_all}
use Rattle.fix_validate.specs.Checks.{rows}
use Rattle.fix_validate.proofs.laws.the_first_of_all_faults_is_told.Goals as goal

pub returns : goal.returns
returns c = λ dictionary order fields faults answer all found. first_of_all (rows dictionary order fields) faults answer all found.is
