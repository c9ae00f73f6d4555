use Rattle.fix_outside.proofs.CallLemmas.{Called-append}
use Rattle.fix_stage.specs.Serving.{app, admin, withheld, fetch_lost, fetch_memory}
use Rattle.fix_stage.proofs.ServingLemmas.{fetched_still}
use Rattle.fix_stage.proofs.serving.serve_one.Goals as goal

pub serve_app-requires-clause-fetched : goal.serve_app-requires-clause-fetched
serve_app-requires-clause-fetched g c =
    rw c.as_slice.ensures.value (fetched_still _ _ _ _ _ (rw c.in-Ok-App.field-0-is at c.in-Ok-App.ensures.called)
    (rw c.in-Ok-App.field-0-is at c.in-Ok-App.ensures.answers))

pub returns-in-Ok-App-clause-calls : goal.returns-in-Ok-App-clause-calls
returns-in-Ok-App-clause-calls g c =
    let h = rw (c.as_slice.ensures.value, c.seq_num-number.ensures) at c.serve_app.ensures.calls in
    let f = rw (c.in-Ok-App.field-0-is, c.seq_num-number.ensures) at c.in-Ok-App.ensures.called in
    let a = rw c.in-Ok-App.field-0-is at c.in-Ok-App.ensures.answers in
    (_, Called-append _ _ _ _ _ f h.1, app _ _ a.payload h.2)

pub returns-in-Ok-Admin-clause-calls : goal.returns-in-Ok-Admin-clause-calls
returns-in-Ok-Admin-clause-calls g c =
    rw (c.pass_over.ensures, c.get.ensures.value, c.seq_num-number.ensures)
    (_, rw (c.in-Ok-Admin.field-0-is, c.seq_num-number.ensures) at c.in-Ok-Admin.ensures.called, admin _)

pub returns-in-Ok-Withheld-clause-calls : goal.returns-in-Ok-Withheld-clause-calls
returns-in-Ok-Withheld-clause-calls g c =
    rw (c.pass_over-in-Ok-Withheld.ensures, c.get-in-Ok-Withheld.ensures.value, c.seq_num-number.ensures)
    (_, rw (c.in-Ok-Withheld.field-0-is, c.seq_num-number.ensures) at c.in-Ok-Withheld.ensures.called, withheld _)

pub returns-in-Err-Failed-clause-calls : goal.returns-in-Err-Failed-clause-calls
returns-in-Err-Failed-clause-calls g c =
    (_, rw (c.in-Err-Failed.field-0-is, c.seq_num-number.ensures) at c.in-Err-Failed.ensures.called, fetch_lost _)

pub returns-in-Err-OutOfMemory-clause-calls : goal.returns-in-Err-OutOfMemory-clause-calls
returns-in-Err-OutOfMemory-clause-calls g c =
    (_, rw (c.in-Err-OutOfMemory.field-0-is, c.seq_num-number.ensures) at c.in-Err-OutOfMemory.ensures.called, fetch_memory _)
