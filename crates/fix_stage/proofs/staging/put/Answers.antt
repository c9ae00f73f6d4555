use Rattle.fix_outside.proofs.CallLemmas.{Called-nil}
use Rattle.fix_stage.specs.Staging.{put, put_memory}
use Rattle.fix_stage.proofs.staging.put.Goals as goal

pub returns-in_default-clause-calls : goal.returns-in_default-clause-calls
returns-in_default-clause-calls g c = (_, Called-nil _, put_memory)

pub returns-in-Err-clause-calls : goal.returns-in-Err-clause-calls
returns-in-Err-clause-calls g c = rw c.in-Err.ensures.stays (_, Called-nil _, put_memory)

pub returns-in-Ok-push-clause-calls : goal.returns-in-Ok-push-clause-calls
returns-in-Ok-push-clause-calls g c = rw c.in-Ok-push.ensures.pushed
    (_, Called-nil _, put _ c.requires.outgoing (rw c.len.ensures.is at c.in-Ok.ensures))
