use Rattle.std.proofs.Common.{rules}
use Rattle.fix_outbox.proofs.OrderLemmas.{forks}
use Rattle.fix_outbox.proofs.ClosingLemmas.{splits}
use Rattle.fix_outbox.proofs.pass.Outbox.sender.Goals as goal

pub another-theirs-requires-clause-rule : goal.another-theirs-requires-clause-rule
another-theirs-requires-clause-rule c = forks _ _ (search rules) (search rules) (search rules)

pub split_seat-seen-requires : goal.split_seat-seen-requires
split_seat-seen-requires c = (search rules, search rules, splits _ _)
