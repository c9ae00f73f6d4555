use Rattle.std.proofs.Common.{sym, ◌∙◌}
use Rattle.fix_outside.proofs.CallLemmas.{Called-nil}
use Rattle.fix_session.specs.Begin.{not_asked, ask_kept, ask_lost, ask_memory}
use Rattle.fix_session.proofs.beginning.ask_for_reset.Goals as goal

pub returns-then-not-asks-clause-calls : goal.returns-then-not-asks-clause-calls
returns-then-not-asks-clause-calls g c = (_, Called-nil _, not_asked (sym c.asks.ensures ∙ c.if-not-asks.true))

pub returns-in-Ok-clause-calls : goal.returns-in-Ok-clause-calls
returns-in-Ok-clause-calls g c = rw c.begin_with_1.ensures (_, c.in-Ok.ensures.called, ask_kept (sym c.asks.ensures ∙ c.if-not-asks.false))

pub returns-in-Err-Failed-clause-calls : goal.returns-in-Err-Failed-clause-calls
returns-in-Err-Failed-clause-calls g c =
    (_, rw c.in-Err-Failed.field-0-is at c.in-Err-Failed.ensures.called, ask_lost (sym c.asks.ensures ∙ c.if-not-asks.false))

pub returns-clause-calls : goal.returns-clause-calls
returns-clause-calls g c =
    (_, rw c.in-Err-OutOfMemory.field-0-is at c.in-Err-OutOfMemory.ensures.called, ask_memory (sym c.asks.ensures ∙ c.if-not-asks.false))
