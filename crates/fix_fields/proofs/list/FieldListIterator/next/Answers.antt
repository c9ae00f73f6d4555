use Rattle.fix_fields.specs.Lent.{field_of}
use Rattle.fix_fields.proofs.ListLemmas.{no_left, next_left}
use Rattle.fix_fields.proofs.list.FieldListIterator.next.Goals as goal

pub returns-in_default-clause-steps : goal.returns-in_default-clause-steps
returns-in_default-clause-steps c = rw (← c.self.view_is) (no_left c.self.inside.due c.self.inside.rest.now c.in_default.ensures)

pub returns-clause-steps : goal.returns-clause-steps
returns-clause-steps c = rw (← c.self.view_is) (next_left c.self.inside.due c.due_after-self-inside.result (field_of c.in-Some.field) c.self.inside.rest.now c.in-Some.behind.now c.in-Some.ensures c.due_after-self-inside.ensures)
