use Rattle.std.proofs.Common.{List, None, subst}
use Rattle.fix_base.specs.Fields.{Field}
use Rattle.fix_base.proofs.FieldLists.{fields_same}
use Rattle.fix_validate.specs.Rows.{Finds}
use Rattle.fix_validate.specs.Checks.{rows}
use Rattle.fix_validate.proofs.RowLemmas.{only_first}
use Rattle.fix_validate.proofs.laws.a_check_has_one_answer.Goals as goal

pub returns : goal.returns
returns c = λ dictionary order frame one other a b.
    only_first (rows dictionary order b.fields) one other
    (subst (λ (fs : List Field). Finds (rows dictionary order fs) one) (fields_same None frame a.fields b.fields a.all.spelled b.all.spelled) a.first).is b.first.is
