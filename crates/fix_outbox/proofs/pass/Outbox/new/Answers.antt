use Rattle.std.proofs.Common.{rules, []}
use Rattle.fix_outbox.proofs.OrderLemmas as orders
use Rattle.fix_outbox.proofs.ClosingLemmas as shuts
use Rattle.fix_outbox.proofs.pass.Outbox.new.Goals as goal

pub ruled-requires-clause-rule : goal.ruled-requires-clause-rule
ruled-requires-clause-rule c = orders.begins

pub of_words-requires : goal.of_words-requires
of_words-requires c = shuts.begins []
