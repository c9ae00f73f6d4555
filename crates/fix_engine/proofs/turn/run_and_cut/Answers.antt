use Rattle.std.proofs.Common.{sym, ◌∙◌}
use Rattle.fix_base.proofs.SeenLemmas.{Trace-append}
use Rattle.fix_engine.specs.Turn.{all_turns}
use Rattle.fix_engine.proofs.EndedLemmas.{run_ended, run_unended, cut_open, open_down}
use Rattle.fix_engine.proofs.turn.run_and_cut.Goals as goal

pub returns-in-Ok-clause-notes : goal.returns-in-Ok-clause-notes
returns-in-Ok-clause-notes g c =
    let h = c.in-Ok.ensures.notes in
    (h.0, h.1, all_turns h.2)

pub returns-in-Ok-end_connection-clause-ready : goal.returns-in-Ok-end_connection-clause-ready
returns-in-Ok-end_connection-clause-ready g c =
    let h = c.in-Err.ensures.ready in
    let k = c.in-Ok-end_connection.ensures in
    record { valid = h.valid; range = k.range; opens = rw k.down (k.opens ∙ h.opens ∙ sym (open_down c.in-Err.ending c.take_turns.new.work.state)); room = h.room }

pub returns-in-Ok-end_connection-clause-notes : goal.returns-in-Ok-end_connection-clause-notes
returns-in-Ok-end_connection-clause-notes g c =
    let h = c.in-Err.ensures.notes in
    let k = c.in-Ok-end_connection.ensures.notes in
    rw c.in-Ok-end_connection.ensures.down
    (_, Trace-append _ _ _ _ _ h.1 k.1, run_ended _ _ _ _ _ _ _ _ (sym c.is_cut.ensures) h.2 k.2)

pub returns-in-Err-end_connection-clause-ready : goal.returns-in-Err-end_connection-clause-ready
returns-in-Err-end_connection-clause-ready g c =
    let h = c.in-Err.ensures.ready in
    let k = c.in-Err-end_connection.ensures in
    record {
      valid = h.valid;
      range = k.range;
      opens = rw k.down (k.opens ∙ h.opens ∙ cut_open c.in-Err.ending c.take_turns.new.work.state (sym c.is_cut.ensures ∙ k.only));
      room = h.room;
    }

pub returns-in-Err-end_connection-clause-notes : goal.returns-in-Err-end_connection-clause-notes
returns-in-Err-end_connection-clause-notes g c =
    let h = c.in-Err.ensures.notes in
    let k = c.in-Err-end_connection.ensures.notes in
    rw c.in-Err-end_connection.ensures.down
    (_, Trace-append _ _ _ _ _ h.1 k.1, run_unended _ _ _ _ _ _ _ _ _ (sym c.is_cut.ensures) h.2 k.2)
