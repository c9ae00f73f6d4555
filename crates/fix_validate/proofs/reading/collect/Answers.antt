use Rattle.std.proofs.Common.{◌≢◌, ◌≡◌, [], length, ap, arith}
use Rattle.std.proofs.lemmas.List.{nil_from_length}
use Rattle.fix_fields.specs.Lent.{field_of}
use Rattle.fix_validate.proofs.ReadingLemmas.{taken_more, taken_all, taken_stop}
use Rattle.fix_validate.proofs.reading.collect.Goals as goal

pub returns-in_default : goal.returns-in_default
returns-in_default c =
    let some : c.loop-rest.rest.now ≢ [] = λ e. grind (arith, ap length e) in
    taken_stop _ c.args.bytes.now c.loop-rest.due c.loop-rest.rest.now c.in_default.ensures some c.loop-rest.invariant

pub loop-rest-preserved : goal.loop-rest-preserved
loop-rest-preserved c =
    let some : c.loop-rest.rest.now ≢ [] = λ e. grind (arith, ap length e) in
    taken_more c.loop-rest.all.items _ c.args.bytes.now c.loop-rest.due _ (field_of c.in-Some.field) c.lent.result c.loop-rest.rest.now c.in-Some.behind.now c.in-Some.ensures some c.due_after-due.ensures c.lent.ensures c.in_ok-push.ensures.items c.loop-rest.invariant

pub returns : goal.returns
returns c =
    let none : c.loop-rest.rest.now ≡ [] = nil_from_length c.loop-rest.rest.now (grind (arith, c.loop-rest-test.ensures)) in
    taken_all _ c.args.bytes.now c.loop-rest.due c.loop-rest.rest.now none c.loop-rest.invariant
