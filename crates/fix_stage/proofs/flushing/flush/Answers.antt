use Rattle.std.proofs.Common.{[], Ok, sym, ◌∙◌, subst}
use Rattle.std.proofs.lemmas.Result.{err_from_is_err_and}
use Rattle.fix_outside.proofs.CallLemmas.{Called-nil, Called-append}
use Rattle.fix_stage.specs.Sender.{with_stage}
use Rattle.fix_stage.specs.Flush.{Flushed, nothing_due, not_kept, kept_and_written}
use Rattle.fix_stage.proofs.SendingLemmas.{Flushed-blames, Flushed-empty, caused}
use Rattle.fix_stage.proofs.flushing.flush.Goals as goal

pub returns-then-not-is_due-clause-calls : goal.returns-then-not-is_due-clause-calls
returns-then-not-is_due-clause-calls g c =
    let same = c.is_due.ensures.none c.if-not-is_due.true in (
      _,
      Called-nil _,
      subst (λ s. Flushed c.args.expect c.args.sender.now [] (Ok tt) (with_stage c.args.sender.now s)) (sym same)
          (nothing_due (sym c.is_due.ensures.is ∙ c.if-not-is_due.true)),
    )

pub returns-in_err-keep_all-clause-calls : goal.returns-in_err-keep_all-clause-calls
returns-in_err-keep_all-clause-calls g c =
    let p = err_from_is_err_and c.from_residual.result c.from_residual.ensures.1 in
    let h = rw (c.take-entries.ensures.entries, c.take-entries.ensures.empty) at c.in_err-keep_all.ensures.calls in
    rw (p.1, p.2) (h.0, h.1, not_kept (sym c.is_due.ensures.is ∙ c.if-not-is_due.false) h.2)

pub returns-clause-calls : goal.returns-clause-calls
returns-clause-calls g c =
    let h = rw (c.take-entries.ensures.entries, c.take-entries.ensures.empty) at c.in_ok-keep_all.ensures.calls in
    let k = rw (c.as_slice.ensures.value, c.take-entries.ensures.frames) at c.write_all.ensures.calls in
    (_, Called-append _ _ _ _ _ h.1 k.1, kept_and_written (sym c.is_due.ensures.is ∙ c.if-not-is_due.false) h.2 k.2)

pub returns-then-not-is_due-clause-empty : goal.returns-then-not-is_due-clause-empty
returns-then-not-is_due-clause-empty g c = Flushed-empty _ _ _ _ _ (returns-then-not-is_due-clause-calls g c).2

pub returns-in_err-keep_all-clause-empty : goal.returns-in_err-keep_all-clause-empty
returns-in_err-keep_all-clause-empty g c = Flushed-empty _ _ _ _ _ (returns-in_err-keep_all-clause-calls g c).2

pub returns-clause-empty : goal.returns-clause-empty
returns-clause-empty g c = Flushed-empty _ _ _ _ _ (returns-clause-calls g c).2

pub returns-then-not-is_due-clause-cause : goal.returns-then-not-is_due-clause-cause
returns-then-not-is_due-clause-cause g c = caused (Flushed _) (Flushed-blames _) _ _ _ _ _ (returns-then-not-is_due-clause-calls g c)

pub returns-in_err-keep_all-clause-cause : goal.returns-in_err-keep_all-clause-cause
returns-in_err-keep_all-clause-cause g c = caused (Flushed _) (Flushed-blames _) _ _ _ _ _ (returns-in_err-keep_all-clause-calls g c)

pub returns-clause-cause : goal.returns-clause-cause
returns-clause-cause g c = caused (Flushed _) (Flushed-blames _) _ _ _ _ _ (returns-clause-calls g c)
