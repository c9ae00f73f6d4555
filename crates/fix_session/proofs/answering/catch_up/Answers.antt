use Rattle.std.proofs.Common.{◌<◌, refl, sym, ◌∙◌, ap, arith}
use Rattle.std.proofs.lemmas.Result.{err_from_is_err_and}
use Rattle.std.specs.FinMap as map
use Rattle.fix_session.proofs.CatchLemmas.{start, one_more, ended, all_done}
use Rattle.fix_session.proofs.KeepsLemmas.{round_keeps}
use Rattle.fix_session.proofs.WaitsLemmas.{due_is, waiting_from}
use Rattle.fix_session.proofs.answering.catch_up.Goals as goal

pub loop-frame-init : goal.loop-frame-init
loop-frame-init g c = record { sound = c.requires.sound; done = start _ _ _ _ }

pub round-requires-clause-frame : goal.round-requires-clause-frame
round-requires-clause-frame g c =
    rw c.as_slice.ensures (due_is _ _ _ (waiting_from _ _ c.loop-frame.invariant.sound.waiting) (sym c.take_due.ensures.taken ∙ c.in-Some.is)).is

pub loop-frame-smaller : goal.loop-frame-smaller
loop-frame-smaller g c =
    let few : map.len c.take_due.new.state.waiting < map.len c.loop-frame.state.waiting = c.in-Some.ensures.fewer refl in
    let same = round_keeps _ _ _ _ _ _ _ c.in_ok-round.ensures.calls.2 in
    let less : map.len c.round.new.state.waiting < map.len c.loop-frame.state.waiting = omega (arith, ap map.len same, few) in
    less

pub loop-frame-preserved : goal.loop-frame-preserved
loop-frame-preserved g c = record {
  sound = c.in_ok-round.ensures.sound;
  done = one_more _ _ _ _ _ _ _ _ _ c.loop-frame.invariant.done (sym c.take_due.ensures.taken ∙ c.in-Some.is)
      (rw (c.take_due.ensures.rest, c.as_slice.ensures) at c.in_ok-round.ensures.calls);
}

pub returns-in_err-round-clause-calls : goal.returns-in_err-round-clause-calls
returns-in_err-round-clause-calls g c =
    let p = err_from_is_err_and c.from_residual.result c.from_residual.ensures.1 in
    rw (p.1, p.2) (ended _ _ _ _ _ _ _ _ _ _ c.loop-frame.invariant.done (sym c.take_due.ensures.taken ∙ c.in-Some.is)
    (rw (c.take_due.ensures.rest, c.as_slice.ensures) at c.in_err-round.ensures.calls))

pub returns-clause-calls : goal.returns-clause-calls
returns-clause-calls g c =
    rw c.take_due.ensures.rest (all_done _ _ _ _ _ _ c.loop-frame.invariant.done (sym c.take_due.ensures.taken ∙ c.in_default.is))
