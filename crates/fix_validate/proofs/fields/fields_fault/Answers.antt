use Rattle.std.proofs.Common.{◌≡◌, ℕ, true, not, ◌&&◌, ◌||◌, ◌∙◌, ap, take, arith}
use Rattle.fix_base.specs.Fields.{Field}
use Rattle.fix_fields.specs.Shapes.{Shapes}
use Rattle.fix_validate.specs.Checks.{whole}
use Rattle.fix_dict.specs.declared.note.TagNote.{TagNote}
use Rattle.fix_dict.specs.declared.noted.Role.{Role}
use Rattle.fix_dict.specs.Dictionary.{note_in}
use Rattle.fix_dict.specs.Roles.{role_of}
use Rattle.fix_validate.proofs.GroupedLemmas.{touching_field, touched_end}
use Rattle.fix_validate.specs.Table.{is_touching, has_field, is_member, is_header, is_trailer, field_rows}
use Rattle.fix_validate.proofs.RowLemmas.{goes_same, goes_step, stops_in}
use Rattle.fix_validate.proofs.FieldLemmas.{fields_step, found_row, passed_more}
use Rattle.fix_validate.proofs.NoteLemmas.{of_header, of_trailer}
use Rattle.fix_validate.proofs.fields.fields_fault.Goals as goal

pub returns-in-Some : goal.returns-in-Some
returns-in-Some c =
    let f = c.index-fields-i.result in
    let root = whole c.args.dict.now c.args.message.now in
    let again : c.appears_again-again.result ≡ (has_field c.tag-tag.result (take c.loop-i.i c.args.fields.now) && not (is_member root c.tag-tag.result)) =
    c.appears_again-again.ensures ∙ ap (λ (r : Shapes). has_field c.tag-tag.result (take c.loop-i.i c.args.fields.now) && not (is_member r c.tag-tag.result)) c.requires.root in
    let header : c.is_any-of_header.result ≡ is_header c.args.dict.now c.tag-tag.result = of_header c.args.dict.now c.tag-tag.result c.note-note.result c.is_any-of_header.result c.note-note.ensures c.is_any-of_header.ensures in
    let trailer : c.is_any-of_trailer.result ≡ is_trailer c.args.dict.now c.tag-tag.result = of_trailer c.args.dict.now c.tag-tag.result c.note-note.result c.is_any-of_trailer.result c.note-note.ensures c.is_any-of_trailer.ensures in
    let misplaced : c.is_misplaced-misplaced.result ≡ ((is_header c.args.dict.now c.tag-tag.result && c.loop-i.left_header) || (not (is_trailer c.args.dict.now c.tag-tag.result) && c.loop-i.in_trailer)) =
    c.is_misplaced-misplaced.ensures ∙ ap (λ b. (b && c.loop-i.left_header) || (not c.is_any-of_trailer.result && c.loop-i.in_trailer)) header ∙ ap (λ b. (is_header c.args.dict.now c.tag-tag.result && c.loop-i.left_header) || (not b && c.loop-i.in_trailer)) trailer in
    record {
      none = tt;
      touched = tt;
      fault =
          stops_in _ (field_rows c.args.dict.now root c.args.order (take c.loop-i.i c.args.fields.now) f) _ c.field_fault.result c.in-Some.fault c.in-Some.is
          (found_row c.args.dict.now root c.args.order (take c.loop-i.i c.args.fields.now) f c.tag-tag.result _ _ _ _ _ c.tag-tag.ensures again c.loop-i.invariant.2 c.loop-i.invariant.3 misplaced c.field_fault.ensures)
          (goes_same _ _ _ (fields_step c.args.dict.now root c.args.order c.args.fields.now c.loop-i.i f c.loop-i-test.true c.index-fields-i.is) c.loop-i.invariant.0);
    }

pub loop-i-preserved : goal.loop-i-preserved
loop-i-preserved c =
    let f = c.index-fields-i.result in
    let root = whole c.args.dict.now c.args.message.now in
    let again : c.appears_again-again.result ≡ (has_field c.tag-tag.result (take c.loop-i.i c.args.fields.now) && not (is_member root c.tag-tag.result)) =
    c.appears_again-again.ensures ∙ ap (λ (r : Shapes). has_field c.tag-tag.result (take c.loop-i.i c.args.fields.now) && not (is_member r c.tag-tag.result)) c.requires.root in
    let header : c.is_any-of_header.result ≡ is_header c.args.dict.now c.tag-tag.result = of_header c.args.dict.now c.tag-tag.result c.note-note.result c.is_any-of_header.result c.note-note.ensures c.is_any-of_header.ensures in
    let trailer : c.is_any-of_trailer.result ≡ is_trailer c.args.dict.now c.tag-tag.result = of_trailer c.args.dict.now c.tag-tag.result c.note-note.result c.is_any-of_trailer.result c.note-note.ensures c.is_any-of_trailer.ensures in
    let misplaced : c.is_misplaced-misplaced.result ≡ ((is_header c.args.dict.now c.tag-tag.result && c.loop-i.left_header) || (not (is_trailer c.args.dict.now c.tag-tag.result) && c.loop-i.in_trailer)) =
    c.is_misplaced-misplaced.ensures ∙ ap (λ b. (b && c.loop-i.left_header) || (not c.is_any-of_trailer.result && c.loop-i.in_trailer)) header ∙ ap (λ b. (is_header c.args.dict.now c.tag-tag.result && c.loop-i.left_header) || (not b && c.loop-i.in_trailer)) trailer in (
      goes_step _ (field_rows c.args.dict.now root c.args.order (take c.loop-i.i c.args.fields.now) f) _ c.field_fault.result c.in_default.is
          (found_row c.args.dict.now root c.args.order (take c.loop-i.i c.args.fields.now) f c.tag-tag.result _ _ _ _ _ c.tag-tag.ensures again c.loop-i.invariant.2 c.loop-i.invariant.3 misplaced c.field_fault.ensures)
          (goes_same _ _ _ (fields_step c.args.dict.now root c.args.order c.args.fields.now c.loop-i.i f c.loop-i-test.true c.index-fields-i.is) c.loop-i.invariant.0),
      passed_more (touching_field c.args.dict.now c.args.message.now) true c.args.fields.now c.loop-i.i f c.loop-i.touched _ c.loop-i-test.true c.index-fields-i.is c.loop-i.invariant.1
          (c.touches-touched.ensures ∙ ap (λ (n : TagNote). c.loop-i.touched || is_touching n c.role-role.result) c.note-note.ensures
          ∙ ap (λ (r : Role). c.loop-i.touched || is_touching (note_in c.args.dict.now c.tag-tag.result) r) c.role-role.ensures
          ∙ ap (λ (n : ℕ). c.loop-i.touched || is_touching (note_in c.args.dict.now n) (role_of c.args.message.now n)) c.tag-tag.ensures),
      passed_more (λ (g : Field). not (is_header c.args.dict.now g.tag)) c.args.order c.args.fields.now c.loop-i.i f c.loop-i.left_header _ c.loop-i-test.true c.index-fields-i.is c.loop-i.invariant.2
          (c.leaves_header-left_header.ensures ∙ ap (λ b. c.loop-i.left_header || (c.args.order && not b)) header
          ∙ ap (λ (n : ℕ). c.loop-i.left_header || (c.args.order && not (is_header c.args.dict.now n))) c.tag-tag.ensures),
      passed_more (λ (g : Field). is_trailer c.args.dict.now g.tag) c.args.order c.args.fields.now c.loop-i.i f c.loop-i.in_trailer _ c.loop-i-test.true c.index-fields-i.is c.loop-i.invariant.3
          (c.begins_trailer-in_trailer.ensures ∙ ap (λ b. c.loop-i.in_trailer || (c.args.order && b)) trailer
          ∙ ap (λ (n : ℕ). c.loop-i.in_trailer || (c.args.order && is_trailer c.args.dict.now n)) c.tag-tag.ensures),
    )

pub returns-clause-touched : goal.returns-clause-touched
returns-clause-touched c = touched_end c.args.dict.now c.args.message.now c.args.fields.now c.loop-i.i c.loop-i.touched (omega arith) c.loop-i.invariant.1
