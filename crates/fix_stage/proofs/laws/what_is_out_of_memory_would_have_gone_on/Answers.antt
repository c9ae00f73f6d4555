use Rattle.fix_stage.proofs.SendingLemmas.{flushed_resumes, flushed_total, staging_resumes, staging_total, pending_resumes, pending_total}
use Rattle.fix_stage.proofs.laws.what_is_out_of_memory_would_have_gone_on.Goals as goal

pub returns-clause-flush : goal.returns-clause-flush
returns-clause-flush c = flushed_resumes

pub returns-clause-flush_ends : goal.returns-clause-flush_ends
returns-clause-flush_ends c = flushed_total

pub returns-clause-message : goal.returns-clause-message
returns-clause-message c = staging_resumes

pub returns-clause-message_ends : goal.returns-clause-message_ends
returns-clause-message_ends c = staging_total

pub returns-clause-draft : goal.returns-clause-draft
returns-clause-draft c = pending_resumes

pub returns-clause-draft_ends : goal.returns-clause-draft_ends
returns-clause-draft_ends c = pending_total
