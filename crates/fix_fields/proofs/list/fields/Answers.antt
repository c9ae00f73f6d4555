use Rattle.std.proofs.Common.{◌≢◌, ◌≡◌, [], length, ap, refl, arith}
use Rattle.std.proofs.lemmas.List.{nil_from_length}
use Rattle.fix_fields.specs.Lent.{field_of}
use Rattle.fix_fields.proofs.ListLemmas.{passed_none, passed_more, passed_all, not_listed, fault_here}
use Rattle.fix_fields.proofs.list.fields.Goals as goal

pub loop-rest-init : goal.loop-rest-init
loop-rest-init c = passed_none c.args.bytes.now

pub returns-in_default-clause-err : goal.returns-in_default-clause-err
returns-in_default-clause-err c = fault_here c.args.bytes.now c.loop-rest.due c.loop-rest.rest.now c.loop-rest.invariant c.in_default.ensures (grind (arith, c.loop-rest-test.ensures))

pub returns-in_default-clause-exactly : goal.returns-in_default-clause-exactly
returns-in_default-clause-exactly c =
    let some : c.loop-rest.rest.now ≢ [] = λ e. grind (arith, ap length e) in
    (λ e. cc, λ listed. absurd (not_listed c.args.bytes.now c.loop-rest.due c.loop-rest.rest.now c.loop-rest.invariant c.in_default.ensures some listed))

pub loop-rest-preserved : goal.loop-rest-preserved
loop-rest-preserved c = rw c.due_after-due.ensures (passed_more c.args.bytes.now c.loop-rest.due c.loop-rest.rest.now c.in-Some.behind.now (field_of c.in-Some.field) c.loop-rest.invariant c.in-Some.ensures)

pub returns-clause-exactly : goal.returns-clause-exactly
returns-clause-exactly c =
    let none : c.loop-rest.rest.now ≡ [] = nil_from_length c.loop-rest.rest.now (grind (arith, c.loop-rest-test.ensures)) in
    (λ e. passed_all c.args.bytes.now c.loop-rest.due c.loop-rest.rest.now c.loop-rest.invariant none, λ listed. refl)
