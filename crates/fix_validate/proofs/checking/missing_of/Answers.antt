use Rattle.std.proofs.Common.{subst}
use Rattle.fix_fields.specs.Shapes.{Shapes}
use Rattle.fix_groups.specs.Tagged.{all_tagged}
use Rattle.fix_validate.specs.Rows.{Finds}
use Rattle.fix_validate.specs.Required.{required_rows}
use Rattle.fix_validate.proofs.RowLemmas.{ends_front, finds_behind}
use Rattle.fix_validate.proofs.checking.missing_of.Goals as goal

pub returns-in-Some : goal.returns-in-Some
returns-in-Some c =
    ends_front _ _ c.missing.result c.in-Some.fault c.in-Some.is (subst (λ (s : Shapes). Finds (required_rows s (all_tagged c.args.fields.now)) c.missing.result) c.header.ensures c.missing.ensures)

pub returns-in-Some-missing : goal.returns-in-Some-missing
returns-in-Some-missing c =
    finds_behind _ _ _ c.missing.result c.in_default.is (subst (λ (s : Shapes). Finds (required_rows s (all_tagged c.args.fields.now)) c.missing.result) c.header.ensures c.missing.ensures)
    (ends_front _ _ c.missing-2.result c.in-Some-missing.fault c.in-Some-missing.is c.missing-2.ensures)

pub returns : goal.returns
returns c =
    finds_behind _ _ _ c.missing.result c.in_default.is (subst (λ (s : Shapes). Finds (required_rows s (all_tagged c.args.fields.now)) c.missing.result) c.header.ensures c.missing.ensures)
    (finds_behind _ _ _ c.missing-2.result c.in_default-missing.is c.missing-2.ensures
    (subst (λ (s : Shapes). Finds (required_rows s (all_tagged c.args.fields.now)) c.missing-3.result) c.trailer.ensures c.missing-3.ensures))
