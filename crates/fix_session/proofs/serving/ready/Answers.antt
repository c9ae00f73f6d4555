use Rattle.std.proofs.Common.{sym, ◌∙◌}
use Rattle.fix_outside.proofs.CallLemmas.{Called-nil}
use Rattle.fix_session.specs.Serve.{is_ready, reopens}
use Rattle.fix_session.proofs.ServeLemmas.{some_stops}
use Rattle.fix_session.proofs.serving.ready.Goals as goal

pub returns-in-None-clause-calls : goal.returns-in-None-clause-calls
returns-in-None-clause-calls g c = (_, Called-nil _, is_ready (sym c.stopped.ensures.is ∙ c.in-None.is))

pub returns-in-Some-clause-calls : goal.returns-in-Some-clause-calls
returns-in-Some-clause-calls g c =
    let h = c.reopen.ensures.calls in
    (h.2.0, h.2.1, reopens h.0 (some_stops _ _ (sym c.stopped.ensures.is ∙ c.in-Some.is)) h.2.2)
