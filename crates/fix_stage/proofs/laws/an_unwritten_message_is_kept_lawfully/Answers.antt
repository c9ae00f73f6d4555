use Rattle.fix_stage.proofs.StagingLeads.{made_apart, flush_apart, settled_apart}
use Rattle.fix_stage.proofs.laws.an_unwritten_message_is_kept_lawfully.Goals as goal

pub returns-clause-staged : goal.returns-clause-staged
returns-clause-staged c = made_apart

pub returns-clause-kept : goal.returns-clause-kept
returns-clause-kept c = flush_apart

pub returns-clause-settled : goal.returns-clause-settled
returns-clause-settled c = settled_apart
