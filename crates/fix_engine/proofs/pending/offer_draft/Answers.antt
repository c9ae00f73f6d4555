use Rattle.std.proofs.Common.{sym, ◌∙◌}
use Rattle.fix_base.proofs.SeenLemmas.{Trace-nil, Trace-append}
use Rattle.fix_engine.specs.Turn.{work_seen, not_up}
use Rattle.fix_engine.proofs.HandLemmas.{offered_held, offered_asked}
use Rattle.fix_engine.proofs.pending.offer_draft.Goals as goal

pub returns-then-is_some-clause-notes : goal.returns-then-is_some-clause-notes
returns-then-is_some-clause-notes g c =
    let h = c.send_pending.ensures.notes in (
      h.0,
      h.1,
      offered_held _ (work_seen c.args.work.now) _ _ _ c.in-Up.is
          (sym c.is_some.ensures ∙ c.if-is_some.true) h.2,
    )

pub returns-else-is_some-clause-notes : goal.returns-else-is_some-clause-notes
returns-else-is_some-clause-notes g c =
    let h = c.send_pending-in-Up.ensures.notes in (
      _,
      Trace-append _ _ _ _ _ c.ask_for.ensures.noted h.1,
      offered_asked _ (work_seen c.args.work.now) c.ask_for.new.pending _ _
          _ c.in-Up.is (sym c.is_some.ensures ∙ c.if-is_some.false) c.ask_for.ensures.store_failed h.2,
    )

pub returns-in-AwaitLogon-clause-notes : goal.returns-in-AwaitLogon-clause-notes
returns-in-AwaitLogon-clause-notes g c =
    let p = c.in-AwaitLogon.is in
    (_, Trace-nil _, not_up (λ up. cc))

pub returns-in-Down-clause-notes : goal.returns-in-Down-clause-notes
returns-in-Down-clause-notes g c =
    let p = c.in-Down.is in
    (_, Trace-nil _, not_up (λ up. cc))
