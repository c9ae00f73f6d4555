use Rattle.std.proofs.Common.{sym, ap, ◌∙◌}
use Rattle.std.specs.Prelude.{None}
use Rattle.fix_engine.specs.Reading.{connection_seen}
use Rattle.fix_engine.specs.Faults.{stop_cause}
use Rattle.fix_engine.proofs.Causes.{RunsTo-has_cause}
use Rattle.fix_engine.proofs.Phases.{RunAndCut-phase}
use Rattle.fix_engine.proofs.Settled.{RunAndCut-settled}
use Rattle.fix_engine.proofs.Turns.{RunAndCut-has_turns}
use Rattle.fix_engine.proofs.Prefix.{as_stated}
use Rattle.fix_engine.proofs.Recounting.{looks_back}
use Rattle.fix_engine.proofs.LawfulRuns.{run_lawful}
use Rattle.fix_engine.proofs.InStepLemmas.{run_in_step, run_stands, run_trails, run_connected, run_serves}
use Rattle.fix_engine.proofs.PeerEnds.{shows_peer_end}
use Rattle.fix_engine.proofs.Untried.{RunAndCut-untried}
use Rattle.fix_engine.proofs.EndedLemmas.{run_stops_down}
use Rattle.fix_engine.proofs.session.Session.run_turns.Goals as goal

pub invariant_of-self : goal.invariant_of-self
invariant_of-self g c =
    let h = c.run_and_cut-ran.ensures.notes in
    let ready = c.run_and_cut-ran.ensures.ready in
    let answered = ap stop_cause (sym c.answer_of-answer.ensures) ∙ sym c.stop_of-self-inside.ensures in (
      c.self.invariant.0,
      ready.range,
      ready.room,
      λ goes_on. RunAndCut-untried _ _ _ _ _ _ (c.self.invariant.3 c.in_default.is) h.2 (answered ∙ goes_on),
      rw (c.stop_of-self-inside.ensures, c.answer_of-answer.ensures) (run_stops_down _ _ _ _ _ _ h.2),
    )

pub returns-clause-cause : goal.returns-clause-cause
returns-clause-cause g c =
    rw (← c.self.view_is, c.in_default.is, c.answer_of-answer.ensures) (RunsTo-has_cause _ _ _ _ _ _ _ c.run_and_cut-ran.ensures.notes)

pub returns-clause-phase : goal.returns-clause-phase
returns-clause-phase g c =
    let h = c.run_and_cut-ran.ensures.notes in
    rw (← c.self.view_is, c.in_default.is, c.answer_of-answer.ensures) (RunAndCut-phase _ _ _ _ _ _ (rw (← c.self.view_is, c.in_default.is) at c.requires.phase) h.2)

pub returns-clause-turns : goal.returns-clause-turns
returns-clause-turns g c =
    rw (← c.self.view_is, c.in_default.is, c.answer_of-answer.ensures) (RunAndCut-has_turns _ _ _ _ _ _ _ c.run_and_cut-ran.ensures.notes)

pub returns-clause-settled : goal.returns-clause-settled
returns-clause-settled g c =
    let h = c.run_and_cut-ran.ensures.notes in
    rw (← c.self.view_is, c.in_default.is, c.answer_of-answer.ensures) (λ held. RunAndCut-settled _ _ _ _ _ _ held h.2)

pub returns-clause-as_stated : goal.returns-clause-as_stated
returns-clause-as_stated g c =
    rw (← c.self.view_is, c.in_default.is, c.answer_of-answer.ensures) (λ calm. as_stated _ c.self.invariant.0 _ _ _ _ _ _ c.self.invariant.1.reading c.pending_is_draft.ensures c.run_and_cut-ran.ensures.notes calm)

pub returns-clause-looks_back : goal.returns-clause-looks_back
returns-clause-looks_back g c =
    rw (← c.self.view_is, c.in_default.is, c.answer_of-answer.ensures) (λ start answered acts stands. looks_back _ _ _ _ _ _ _ c.run_and_cut-ran.ensures.notes start answered acts stands)

pub returns-clause-lawful : goal.returns-clause-lawful
returns-clause-lawful g c = rw (← c.self.view_is, c.in_default.is, c.answer_of-answer.ensures) (run_lawful _ _ _ _ _ _ _ c.run_and_cut-ran.ensures.notes)

pub returns-clause-in_step : goal.returns-clause-in_step
returns-clause-in_step g c =
    let h = c.run_and_cut-ran.ensures.notes in
    rw (← c.self.view_is, c.in_default.is, c.stop_of-self-inside.ensures, c.answer_of-answer.ensures) (run_in_step _ _ _ _ _ _ _ (rw (← c.self.view_is, c.in_default.is) at c.requires.phase) c.run_and_cut-ran.ensures.ready.opens h)

pub returns-clause-connected : goal.returns-clause-connected
returns-clause-connected g c = rw (← c.self.view_is, c.answer_of-answer.ensures) (run_connected _ _ _ _ _ _ _ _ c.self.invariant.1.reading c.run_and_cut-ran.ensures.ready.opens c.run_and_cut-ran.ensures.notes)

pub returns-clause-headline : goal.returns-clause-headline
returns-clause-headline g c = rw (← c.self.view_is, c.in_default.is, c.answer_of-answer.ensures) (run_serves _ _ _ _ _ _ _ c.self.invariant.1.reading c.run_and_cut-ran.ensures.notes)

pub returns-clause-peer_end : goal.returns-clause-peer_end
returns-clause-peer_end g c =
    rw (← c.self.view_is, c.in_default.is, c.answer_of-answer.ensures) (shows_peer_end _ _ _ _ _ _ _ c.run_and_cut-ran.ensures.notes)

pub returns-clause-stands : goal.returns-clause-stands
returns-clause-stands g c =
    rw (c.stop_of-self-inside.ensures, c.answer_of-answer.ensures) (run_stands _ _ _ _ _ _ _ (rw (← c.self.view_is, c.in_default.is) at c.requires.phase) c.run_and_cut-ran.ensures.ready.opens c.run_and_cut-ran.ensures.notes (rw (← c.self.view_is, c.in_default.is) at c.requires.in_step))

pub returns-clause-trails : goal.returns-clause-trails
returns-clause-trails g c =
    rw (← c.self.view_is, c.in_default.is) (run_trails _ (record { identity = c.self.inside.context.identity; connection = connection_seen c.self.inside.work.state c.self.inside.work.reader.unread; pending = c.self.inside.work.pending; stopped = None }) _ _ _ _ _ _ (rw (← c.self.view_is, c.in_default.is) at c.requires.phase) c.run_and_cut-ran.ensures.notes)
