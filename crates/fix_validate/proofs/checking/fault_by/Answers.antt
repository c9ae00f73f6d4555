use Rattle.std.proofs.Common.{◌≡◌, ◌∙◌, ◌++◌, false, Some, None, IfOk, option_map, refl, sym, ap, subst}
use Rattle.fix_fields.specs.Shapes.{Shapes}
use Rattle.fix_groups.specs.Tagged.{all_tagged}
use Rattle.fix_groups.specs.Touched.{touched}
use Rattle.fix_groups.specs.Misfits.{first_misfit}
use Rattle.fix_groups.proofs.TouchedLemmas.{untouched}
use Rattle.fix_validate.specs.Rows.{Finds}
use Rattle.fix_validate.specs.Groups.{group_fault, groups_rows}
use Rattle.fix_validate.specs.Checks.{whole, required_of_all}
use Rattle.fix_validate.proofs.FrameLemmas.{if_ok}
use Rattle.fix_validate.proofs.GroupLemmas.{groups_finds}
use Rattle.fix_validate.proofs.RowLemmas.{finds_front, finds_behind}
use Rattle.fix_validate.proofs.checking.fault_by.Goals as goal

pub fields_fault-requires-clause-root : goal.fields_fault-requires-clause-root
fields_fault-requires-clause-root c = c.new-root.ensures ∙ rw (c.header.ensures, c.layout.ensures, c.trailer.ensures) refl

pub returns-in-Err : goal.returns-in-Err
returns-in-Err c = finds_front _ _ _ c.in-Err.fault refl c.in-Err.ensures.fault

pub returns-in-Ok-false : goal.returns-in-Ok-false
returns-in-Ok-false c =
    let root = whole c.args.dict.now c.args.message.now in
    let fs = all_tagged c.args.fields.now in
    let no : touched root fs ≡ false = sym c.in-Ok-false.ensures.touched ∙ c.in-Ok-false.field-0-test in
    finds_behind _ _ _ None refl c.in-Ok-false.ensures.none
    (finds_behind (groups_rows root fs) _ _ (option_map group_fault (first_misfit root fs)) (ap (option_map group_fault) (untouched root fs no)) (groups_finds root fs) c.missing_tag_of.ensures)

pub returns : goal.returns
returns c =
    let d = c.args.dict.now in
    let fs = all_tagged c.args.fields.now in
    if_ok c.behind_fields.result _ _ (λ a h. finds_behind _ _ a None refl c.in-Ok-true.ensures.none h)
    (subst (λ (s : Shapes). IfOk c.behind_fields.result (Finds (groups_rows (whole d s) fs ++ required_of_all d s fs))) c.layout-in-Ok-true.ensures c.behind_fields.ensures)
