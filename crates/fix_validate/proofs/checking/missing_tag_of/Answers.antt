use Rattle.std.proofs.Common.{◌≡◌, List, ℕ, ◌∙◌, ap, subst}
use Rattle.fix_fields.specs.Shapes.{Shapes}
use Rattle.fix_groups.specs.Tagged.{all_tagged}
use Rattle.fix_dict.specs.Roles.{required_tags}
use Rattle.fix_validate.proofs.RowLemmas.{ends_front, finds_behind}
use Rattle.fix_validate.proofs.GroupedLemmas.{free, tags_find}
use Rattle.fix_validate.proofs.checking.missing_tag_of.Goals as goal

pub returns-in-Some : goal.returns-in-Some
returns-in-Some c =
    let fs = all_tagged c.args.fields.now in
    let no = free c.args.dict.now c.args.message.now fs c.requires in
    ends_front _ _ c.missing_tag.result c.in-Some.fault c.in-Some.is (tags_find c.args.dict.now.header fs _ _ no.header (c.required.ensures ∙ ap required_tags c.noted_header.ensures) c.missing_tag.ensures)

pub returns-in-Some-missing_tag : goal.returns-in-Some-missing_tag
returns-in-Some-missing_tag c =
    let fs = all_tagged c.args.fields.now in
    let no = free c.args.dict.now c.args.message.now fs c.requires in
    finds_behind _ _ _ c.missing_tag.result c.in_default.is (tags_find c.args.dict.now.header fs _ _ no.header (c.required.ensures ∙ ap required_tags c.noted_header.ensures) c.missing_tag.ensures)
    (ends_front _ _ c.missing_tag-2.result c.in-Some-missing_tag.fault c.in-Some-missing_tag.is (tags_find c.args.message.now fs _ _ no.message c.required-2.ensures c.missing_tag-2.ensures))

pub returns : goal.returns
returns c =
    let fs = all_tagged c.args.fields.now in
    let no = free c.args.dict.now c.args.message.now fs c.requires in
    finds_behind _ _ _ c.missing_tag.result c.in_default.is (tags_find c.args.dict.now.header fs _ _ no.header (c.required.ensures ∙ ap required_tags c.noted_header.ensures) c.missing_tag.ensures)
    (finds_behind _ _ _ c.missing_tag-2.result c.in_default-missing_tag.is (tags_find c.args.message.now fs _ _ no.message c.required-2.ensures c.missing_tag-2.ensures)
    (tags_find c.args.dict.now.trailer fs _ _ no.trailer (c.required-3.ensures ∙ ap required_tags c.noted_trailer.ensures) c.missing_tag-3.ensures))
