use Rattle.std.proofs.Common.{◌≡◌, ◌∙◌, ◌++◌, ap, sym, subst, take, map, arith, length}
use Rattle.fix_base.specs.Payload.{field}
use Rattle.fix_base.specs.Says.{field_text, fields_text}
use Rattle.fix_fields.specs.Drafted.{AreTagged, given}
use Rattle.fix_fields.proofs.DraftLemmas.{given_around, given_more, text_more, too_long, tags_push, fields_text-push}
use Rattle.fix_fields.proofs.draft.written.Goals as goal

pub returns-then-len-room-clause-err : goal.returns-then-len-room-clause-err
returns-then-len-room-clause-err c =
    let f = field c.field-item.result.tag c.as_slice.result.now in
    let before = map given (take c.loop-field.field-index c.args.fields.now) in
    let text : c.push_field.new.out.items ≡ fields_text before ++ field_text f = text_more c.loop-field.text.items c.push_field.new.out.items before c.get.result c.field-item.result.tag c.as_slice.result.now c.in-Ok.ensures c.loop-field.invariant.text c.get.ensures.value in
    too_long _ before _ f c.args.room (given_around c.args.fields.now c.loop-field.field-index c.field-item.result c.as_slice.result.now c.loop-field-test.true c.field-item.is c.as_slice.ensures) (omega (arith, ap length text))

pub loop-field-preserved : goal.loop-field-preserved
loop-field-preserved c =
    let f = field c.field-item.result.tag c.as_slice.result.now in
    let before = map given (take c.loop-field.field-index c.args.fields.now) in
    let more = given_more c.args.fields.now c.loop-field.field-index c.field-item.result c.as_slice.result.now c.loop-field-test.true c.field-item.is c.as_slice.ensures in
    record {
      text = text_more c.loop-field.text.items c.push_field.new.out.items before c.get.result c.field-item.result.tag c.as_slice.result.now c.in-Ok.ensures c.loop-field.invariant.text c.get.ensures.value ∙ sym (fields_text-push before f) ∙ ap fields_text (sym more);
      tags = subst AreTagged (sym more) (tags_push before f c.loop-field.invariant.tags (record { first = omega (arith, c.get.ensures.first, c.get.ensures.value); last = omega (arith, c.get.ensures.last, c.get.ensures.value) }));
      fits = omega arith;
    }
