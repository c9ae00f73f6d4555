use Rattle.std.proofs.lemmas.Result.{err_from_is_err_and}
use Rattle.fix_outside.proofs.CallLemmas.{Called-append}
use Rattle.fix_stage.specs.Combine.{ends, goes}
use Rattle.fix_steps.specs.Steps.{Performed}
use Rattle.fix_steps.proofs.EachLemmas.{last_one}
use Rattle.fix_steps.proofs.carrying.do_all.Goals as goal

pub returns-in_err-perform-clause-calls : goal.returns-in_err-perform-clause-calls
returns-in_err-perform-clause-calls g c =
    let p = err_from_is_err_and c.from_residual.result c.from_residual.ensures.1 in
    let h = c.in_err-perform.ensures.calls in
    rw (p.1, p.2) (h.0, h.1, ends h.2)

pub returns-in_err-perform-2-clause-calls : goal.returns-in_err-perform-2-clause-calls
returns-in_err-perform-2-clause-calls g c =
    let p = err_from_is_err_and c.from_residual-in_err-perform-2.result c.from_residual-in_err-perform-2.ensures.1 in
    let a = c.in_ok-perform.ensures.calls in
    let h = c.in_err-perform-2.ensures.calls in
    rw (p.1, p.2) (_, Called-append _ _ _ _ _ a.1 h.1, goes a.2 (ends h.2))

pub returns-in_err-perform-3-clause-calls : goal.returns-in_err-perform-3-clause-calls
returns-in_err-perform-3-clause-calls g c =
    let p = err_from_is_err_and c.from_residual-in_err-perform-3.result c.from_residual-in_err-perform-3.ensures.1 in
    let a = c.in_ok-perform.ensures.calls in
    let b = c.in_ok-perform-2.ensures.calls in
    let h = c.in_err-perform-3.ensures.calls in
    rw (p.1, p.2)
    (_, Called-append _ _ _ _ _ a.1 (Called-append _ _ _ _ _ b.1 h.1), goes a.2 (goes b.2 (ends h.2)))

pub returns-clause-calls : goal.returns-clause-calls
returns-clause-calls g c =
    let a = c.in_ok-perform.ensures.calls in
    let b = c.in_ok-perform-2.ensures.calls in
    let d = c.in_ok-perform-3.ensures.calls in
    let h = c.perform-4.ensures.calls in (
      _,
      Called-append _ _ _ _ _ a.1 (Called-append _ _ _ _ _ b.1 (Called-append _ _ _ _ _ d.1 h.1)),
      goes a.2 (goes b.2 (goes d.2 (last_one (Performed _ _) _ _ _ _ _ h.2))),
    )
