use Rattle.std.proofs.Common.{◌≡◌, ◌∙◌, Some, None, option_map, sym, ap}
use Rattle.fix_fields.specs.Shapes.{Shapes}
use Rattle.fix_groups.specs.Tagged.{all_tagged}
use Rattle.fix_groups.specs.Misfits.{first_misfit}
use Rattle.fix_validate.specs.Groups.{group_fault, groups_rows}
use Rattle.fix_validate.specs.Checks.{whole}
use Rattle.fix_validate.proofs.GroupLemmas.{groups_finds}
use Rattle.fix_validate.proofs.RowLemmas.{ends_front, finds_behind}
use Rattle.fix_validate.proofs.checking.behind_fields.Goals as goal

pub returns-in-Some : goal.returns-in-Some
returns-in-Some c =
    let root = whole c.args.dict.now c.args.message.now in
    let fs = all_tagged c.args.fields.now in
    let n : first_misfit root fs ≡ Some c.in-Some.misfit = ap (λ (r : Shapes). first_misfit r fs) (sym c.requires) ∙ sym c.in_ok-misfit.ensures ∙ c.in-Some.is in
    ends_front (groups_rows root fs) _ (option_map group_fault (first_misfit root fs)) c.group_fault.result (ap (option_map group_fault) n ∙ ap (λ x. Some x) (sym c.group_fault.ensures)) (groups_finds root fs)

pub returns : goal.returns
returns c =
    let root = whole c.args.dict.now c.args.message.now in
    let fs = all_tagged c.args.fields.now in
    let n : first_misfit root fs ≡ None = ap (λ (r : Shapes). first_misfit r fs) (sym c.requires) ∙ sym c.in_ok-misfit.ensures ∙ c.in_default.is in
    finds_behind (groups_rows root fs) _ _ (option_map group_fault (first_misfit root fs)) (ap (option_map group_fault) n) (groups_finds root fs) c.missing_of.ensures
