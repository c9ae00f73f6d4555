use Rattle.std.proofs.lemmas.Result.{err_from_is_err_and}
use Rattle.fix_outside.proofs.CallLemmas.{Called-append}
use Rattle.fix_session.specs.Turn.{all_turns, ended, ended_short}
use Rattle.fix_session.proofs.CauseLemmas.{caused}
use Rattle.fix_session.proofs.KeptLemmas.{ends_kept, short_kept}
use Rattle.fix_session.proofs.LeftLemmas.{ends_sound, short_sound}
use Rattle.fix_session.proofs.turn.run.Goals as goal

pub returns-in-Ok-clause-calls : goal.returns-in-Ok-clause-calls
returns-in-Ok-clause-calls g c =
    let h = c.in-Ok.ensures.calls in
    (h.0, h.1, all_turns h.2)

pub returns-in_err-leave-in-Err-clause-workable : goal.returns-in_err-leave-in-Err-clause-workable
returns-in_err-leave-in-Err-clause-workable g c =
    let p = err_from_is_err_and c.from_residual.result c.from_residual.ensures.1 in
    let h = c.in-Err.ensures.workable in
    let k = c.in_err-leave-in-Err.ensures in
    rw (p.1, p.2) (record { sound = short_sound _ _ _ _ _ _ _ _ _ c.is_cut.ensures k.calls.2 k.opens h.sound; room = h.room })

pub returns-in_err-leave-in-Err-clause-calls : goal.returns-in_err-leave-in-Err-clause-calls
returns-in_err-leave-in-Err-clause-calls g c =
    let p = err_from_is_err_and c.from_residual.result c.from_residual.ensures.1 in
    let h = c.in-Err.ensures.calls in
    let k = rw c.is_cut.ensures at c.in_err-leave-in-Err.ensures.calls in
    rw (p.1, p.2) (_, Called-append _ _ _ _ _ h.1 k.1, ended_short h.2 k.2)

pub returns-in_ok-leave-in-Err-clause-workable : goal.returns-in_ok-leave-in-Err-clause-workable
returns-in_ok-leave-in-Err-clause-workable g c =
    let h = c.in-Err.ensures.workable in
    let k = c.in_ok-leave-in-Err.ensures in
    record { sound = ends_sound _ _ _ _ _ _ _ _ k.calls.2 k.opens h.sound; room = h.room }

pub returns-in_ok-leave-in-Err-clause-calls : goal.returns-in_ok-leave-in-Err-clause-calls
returns-in_ok-leave-in-Err-clause-calls g c =
    let h = c.in-Err.ensures.calls in
    let k = rw c.is_cut.ensures at c.in_ok-leave-in-Err.ensures.calls in
    (_, Called-append _ _ _ _ _ h.1 k.1, ended h.2 k.2)

pub returns-in-Ok-clause-cause : goal.returns-in-Ok-clause-cause
returns-in-Ok-clause-cause g c = caused _ _ _ _ _ _ _ _ (returns-in-Ok-clause-calls g c)

pub returns-in_err-leave-in-Err-clause-cause : goal.returns-in_err-leave-in-Err-clause-cause
returns-in_err-leave-in-Err-clause-cause g c = caused _ _ _ _ _ _ _ _ (returns-in_err-leave-in-Err-clause-calls g c)

pub returns-in_ok-leave-in-Err-clause-cause : goal.returns-in_ok-leave-in-Err-clause-cause
returns-in_ok-leave-in-Err-clause-cause g c = caused _ _ _ _ _ _ _ _ (returns-in_ok-leave-in-Err-clause-calls g c)

pub returns-in_err-leave-in-Err-clause-kept : goal.returns-in_err-leave-in-Err-clause-kept
returns-in_err-leave-in-Err-clause-kept g c =
    let p = err_from_is_err_and c.from_residual.result c.from_residual.ensures.1 in
    rw (p.1, p.2) (λ some. short_kept _ _ _ _ _ c.in_err-leave-in-Err.ensures.calls.2)

pub returns-in_ok-leave-in-Err-clause-kept : goal.returns-in_ok-leave-in-Err-clause-kept
returns-in_ok-leave-in-Err-clause-kept g c = λ some. ends_kept _ _ _ _ _ c.in_ok-leave-in-Err.ensures.calls.2 (c.in-Err.ensures.kept some)
