use Rattle.std.proofs.Common.{sym, ◌∙◌}
use Rattle.fix_base.proofs.SeenLemmas.{Trace-append}
use Rattle.fix_engine.specs.Drafted.{went}
use Rattle.fix_engine.proofs.EndedLemmas.{sent_ended, sent_unended, link_open, sent_down}
use Rattle.fix_engine.proofs.drafting.send_and_cut.Goals as goal

pub returns-in-Ok-clause-notes : goal.returns-in-Ok-clause-notes
returns-in-Ok-clause-notes g c =
    let h = c.in-Ok.ensures.notes in
    (h.0, h.1, went h.2)

pub returns-in-Ok-end_connection-clause-ready : goal.returns-in-Ok-end_connection-clause-ready
returns-in-Ok-end_connection-clause-ready g c =
    let h = c.in-Err.ensures.ready in
    let k = c.in-Ok-end_connection.ensures in
    record { valid = h.valid; range = k.range; opens = rw k.down (k.opens ∙ h.opens ∙ sym (sent_down c.in-Err.fault c.send_at_time.new.state)) }

pub returns-in-Ok-end_connection-clause-notes : goal.returns-in-Ok-end_connection-clause-notes
returns-in-Ok-end_connection-clause-notes g c =
    let h = c.in-Err.ensures.notes in
    let k = c.in-Ok-end_connection.ensures.notes in
    rw c.in-Ok-end_connection.ensures.down
    (_, Trace-append _ _ _ _ _ h.1 k.1, sent_ended _ _ _ _ _ _ _ _ (sym c.is_cut_sent.ensures) h.2 k.2)

pub returns-in-Err-end_connection-clause-ready : goal.returns-in-Err-end_connection-clause-ready
returns-in-Err-end_connection-clause-ready g c =
    let h = c.in-Err.ensures.ready in
    let k = c.in-Err-end_connection.ensures in
    record {
      valid = h.valid;
      range = k.range;
      opens = rw k.down (k.opens ∙ h.opens ∙ link_open c.in-Err.fault c.send_at_time.new.state (sym c.is_cut_sent.ensures ∙ k.only));
    }

pub returns-in-Err-end_connection-clause-notes : goal.returns-in-Err-end_connection-clause-notes
returns-in-Err-end_connection-clause-notes g c =
    let h = c.in-Err.ensures.notes in
    let k = c.in-Err-end_connection.ensures.notes in
    rw c.in-Err-end_connection.ensures.down
    (_, Trace-append _ _ _ _ _ h.1 k.1, sent_unended _ _ _ _ _ _ _ _ _ (sym c.is_cut_sent.ensures) h.2 k.2)
