use Rattle.std.proofs.Common.{ap, ◌∙◌}
use Rattle.fix_outbox.proofs.OrderLemmas.{takes, learns}
use Rattle.fix_outbox.proofs.SettleLemmas.{at_empty}
use Rattle.fix_outbox.proofs.settling.drain.Goals as goal

pub pop_as-requires-clause-rule : goal.pop_as-requires-clause-rule
pop_as-requires-clause-rule g c = (takes _ _ (ap (λ v. v.takes) c.loop.invariant.is ∙ c.requires.place.1.0) (ap (λ v. v.sends) c.loop.invariant.is ∙ c.requires.place.1.1), learns _ _)

pub returns-in-None-pop_as : goal.returns-in-None-pop_as
returns-in-None-pop_as g c = (c.loop.invariant.rest, c.loop.invariant.drafts, at_empty _ _ c.loop.invariant.is c.in-None-pop_as.ensures.rule.1)
