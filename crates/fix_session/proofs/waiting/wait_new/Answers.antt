use Rattle.std.proofs.Common.{Ok, Err, sym, ◌∙◌, ap, subst}
use Rattle.fix_session.specs.State.{AreWaiting}
use Rattle.fix_session.specs.Waits.{passes_by, unnumbered, waits, another_waits, no_room, wait_memory}
use Rattle.fix_session.proofs.WaitsLemmas.{waiting_put, none_of}
use Rattle.fix_session.proofs.waiting.wait_new.Goals as goal

pub returns-then-not-says_so-clause-waits : goal.returns-then-not-says_so-clause-waits
returns-then-not-says_so-clause-waits c = passes_by (sym c.says_so.ensures ∙ c.if-not-says_so.true)

pub returns-in_default-clause-waits : goal.returns-in_default-clause-waits
returns-in_default-clause-waits c = unnumbered c.in_default.is

pub returns-in-Ok-true-clause-waits : goal.returns-in-Ok-true-clause-waits
returns-in-Ok-true-clause-waits c =
    let e = c.in-Ok-true.ensures in
    let is = ap Ok c.in-Ok-true.field-0-test in
    rw (e.kept is) (waits _ (sym c.says_so.ensures ∙ c.if-not-says_so.false) c.in-Some.is
    (λ some. let wrong = e.waits.1 some in cc)
    (λ full. let wrong = e.full.1 (none_of _ (λ some. let other = e.waits.1 some in cc), full) in cc))

pub returns-in-Ok-true-clause-waiting : goal.returns-in-Ok-true-clause-waiting
returns-in-Ok-true-clause-waiting c =
    subst (λ w. AreWaiting w) (sym (c.in-Ok-true.ensures.kept (ap Ok c.in-Ok-true.field-0-test)))
    (waiting_put _ _ _ c.requires.waiting (record {
      is = c.requires.frame;
      number = λ fs has. sym (c.requires.number fs has) ∙ c.in-Some.is;
    }))

pub returns-in-Ok-false-clause-waits : goal.returns-in-Ok-false-clause-waits
returns-in-Ok-false-clause-waits c =
    let e = c.in-Ok-false.ensures in
    let is = ap Ok c.in-Ok-false.field-0-test in
    rw (e.same (λ kept. cc)) (another_waits _ (sym c.says_so.ensures ∙ c.if-not-says_so.false) c.in-Some.is (e.waits.0 is))

pub returns-in-Ok-false-clause-waiting : goal.returns-in-Ok-false-clause-waiting
returns-in-Ok-false-clause-waiting c =
    subst (λ w. AreWaiting w) (sym (c.in-Ok-false.ensures.same (λ kept. let t = c.in-Ok-false.field-0-test in cc))) c.requires.waiting

pub returns-in-Err-Full-clause-waits : goal.returns-in-Err-Full-clause-waits
returns-in-Err-Full-clause-waits c =
    let e = c.in-Err-Full.ensures in
    rw (e.same (λ kept. cc)) (no_room _ (sym c.says_so.ensures ∙ c.if-not-says_so.false) c.in-Some.is (e.full.0 (ap Err c.in-Err-Full.field-0-is)).1)

pub returns-in-Err-Full-clause-waiting : goal.returns-in-Err-Full-clause-waiting
returns-in-Err-Full-clause-waiting c = subst (λ w. AreWaiting w) (sym (c.in-Err-Full.ensures.same (λ kept. cc))) c.requires.waiting

pub returns-in-Err-OutOfMemory-clause-waits : goal.returns-in-Err-OutOfMemory-clause-waits
returns-in-Err-OutOfMemory-clause-waits c =
    let e = c.in-Err-OutOfMemory.ensures in
    rw (e.same (λ kept. cc)) (wait_memory _ (sym c.says_so.ensures ∙ c.if-not-says_so.false) c.in-Some.is (λ some. let wrong = e.waits.1 some in cc))

pub returns-in-Err-OutOfMemory-clause-waiting : goal.returns-in-Err-OutOfMemory-clause-waiting
returns-in-Err-OutOfMemory-clause-waiting c = subst (λ w. AreWaiting w) (sym (c.in-Err-OutOfMemory.ensures.same (λ kept. cc))) c.requires.waiting
