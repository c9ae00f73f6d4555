use Rattle.std.proofs.Common.{sym, ap}
use Rattle.std.proofs.lemmas.Result.{err_from_is_err_and}
use Rattle.fix_outside.proofs.CallLemmas.{Called-nil}
use Rattle.fix_fields.specs.Header.{Header}
use Rattle.fix_stage.specs.Combine.{first_ends, both}
use Rattle.fix_session.specs.Answering.{not_judged}
use Rattle.fix_session.proofs.InboundLemmas.{told}
use Rattle.fix_session.proofs.AnswerLemmas.{answered, may_carry, decided_sound, stays_sound}
use Rattle.fix_session.proofs.answering.answer_frame.Goals as goal

pub judge-requires-clause-kind : goal.judge-requires-clause-kind
judge-requires-clause-kind g c = λ fs has. sym (ap (λ (x : Header). x.type) (c.envelope-head.ensures.fields fs has))

pub returns-in_default-clause-calls : goal.returns-in_default-clause-calls
returns-in_default-clause-calls g c = (_, Called-nil _, not_judged)

pub wait-requires-clause-number : goal.wait-requires-clause-number
wait-requires-clause-number g c = λ fs has. ap (λ (x : Header). x.number) (c.envelope-head.ensures.fields fs has)

pub returns-in_err-wait-clause-sound : goal.returns-in_err-wait-clause-sound
returns-in_err-wait-clause-sound g c =
    let p = err_from_is_err_and c.from_residual.result c.from_residual.ensures.1 in
    let e = c.decide-decision.ensures.is in
    let t = told _ _ _ _ _ _ _ _ e.0 c.requires.frame c.envelope-head.ensures.begin c.envelope-head.ensures.fields c.in-Ok.ensures c.full.ensures.full c.is_gap_fill.ensures c.asks_for_a_reset.ensures e.1 in
    rw (p.1, p.2) (stays_sound _ _ _ _ _ _ _ _ _ _ c.in_err-wait.ensures.waits
    (decided_sound _ _ _ _ _ _ _ _ e.0 t (c.decide-decision.ensures.next e.0 e.1) c.requires.sound) c.in_err-wait.ensures.waiting)

pub returns-in_err-wait-clause-calls : goal.returns-in_err-wait-clause-calls
returns-in_err-wait-clause-calls g c =
    let p = err_from_is_err_and c.from_residual.result c.from_residual.ensures.1 in
    let e = c.decide-decision.ensures.is in
    let t = told _ _ _ _ _ _ _ _ e.0 c.requires.frame c.envelope-head.ensures.begin c.envelope-head.ensures.fields c.in-Ok.ensures c.full.ensures.full c.is_gap_fill.ensures c.asks_for_a_reset.ensures e.1 in
    rw (p.1, p.2) (
      _,
      Called-nil _,
      answered _ _ _ _ _ _ _ _ e.0 t (c.decide-decision.ensures.steps e.0 e.1) (c.decide-decision.ensures.next e.0 e.1) _ _ _
          (first_ends c.in_err-wait.ensures.waits),
    )

pub stand-requires-clause-sound : goal.stand-requires-clause-sound
stand-requires-clause-sound g c =
    let e = c.decide-decision.ensures.is in
    let t = told _ _ _ _ _ _ _ _ e.0 c.requires.frame c.envelope-head.ensures.begin c.envelope-head.ensures.fields c.in-Ok.ensures c.full.ensures.full c.is_gap_fill.ensures c.asks_for_a_reset.ensures e.1 in
    stays_sound _ _ _ _ _ _ _ _ _ _ c.in_ok-wait.ensures.waits
    (decided_sound _ _ _ _ _ _ _ _ e.0 t (c.decide-decision.ensures.next e.0 e.1) c.requires.sound) c.in_ok-wait.ensures.waiting

pub stand-requires-clause-carried : goal.stand-requires-clause-carried
stand-requires-clause-carried g c =
    let e = c.decide-decision.ensures.is in
    let t = told _ _ _ _ _ _ _ _ e.0 c.requires.frame c.envelope-head.ensures.begin c.envelope-head.ensures.fields c.in-Ok.ensures c.full.ensures.full c.is_gap_fill.ensures c.asks_for_a_reset.ensures e.1 in
    may_carry _ _ _ _ _ _ _ _ e.0 t (c.decide-decision.ensures.steps e.0 e.1) c.requires.sound

pub returns-clause-calls : goal.returns-clause-calls
returns-clause-calls g c =
    let e = c.decide-decision.ensures.is in
    let t = told _ _ _ _ _ _ _ _ e.0 c.requires.frame c.envelope-head.ensures.begin c.envelope-head.ensures.fields c.in-Ok.ensures c.full.ensures.full c.is_gap_fill.ensures c.asks_for_a_reset.ensures e.1 in
    let h = c.stand.ensures.calls in (
      h.0,
      h.1,
      answered _ _ _ _ _ _ _ _ e.0 t (c.decide-decision.ensures.steps e.0 e.1) (c.decide-decision.ensures.next e.0 e.1) _ _ _
          (both c.in_ok-wait.ensures.waits h.2),
    )
