use Rattle.std.proofs.Common.{rules}
use Rattle.fix_outbox.proofs.ClosingLemmas.{finds}
use Rattle.fix_outbox.proofs.OrderLemmas.{pushes, learns}
use Rattle.fix_outbox.proofs.pass.Outbox.post.Goals as goal

pub load-requires : goal.load-requires
load-requires g c = (search rules, search rules, finds _ _ _ (search rules))

pub push_as-requires-clause-rule : goal.push_as-requires-clause-rule
push_as-requires-clause-rule g c = (pushes _ _ _ _ (search rules) (search rules) (search rules), learns _ _)
