use Rattle.std.proofs.Common.{rules}
use Rattle.fix_outbox.proofs.ClosingLemmas.{closes}
use Rattle.fix_outbox.proofs.pass.Outbox.close.Goals as goal

pub store-requires : goal.store-requires
store-requires g c = (search rules, search rules, closes _ _ _ (search rules))
