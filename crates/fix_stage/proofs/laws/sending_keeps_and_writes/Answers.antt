use Rattle.fix_base.specs.Payload.{IsPersistentEntry}
use Rattle.fix_stage.proofs.SendsLemmas.{Flushed-sends, Staging-sends, drafts_send}
use Rattle.fix_stage.proofs.laws.sending_keeps_and_writes.Goals as goal

pub returns-clause-flush : goal.returns-clause-flush
returns-clause-flush c = Flushed-sends IsPersistentEntry

pub returns-clause-message : goal.returns-clause-message
returns-clause-message c = Staging-sends IsPersistentEntry

pub returns-clause-draft : goal.returns-clause-draft
returns-clause-draft c = drafts_send
