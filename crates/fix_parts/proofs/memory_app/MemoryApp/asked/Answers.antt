use Rattle.std.proofs.Common.{ap, Some}
use Rattle.fix_parts.proofs.DraftLemmas.{taken_bodies}
use Rattle.fix_parts.proofs.memory_app.MemoryApp.asked.Goals as goal

pub returns : goal.returns
returns c = rw c.deref.ensures.value (ap Some (taken_bodies _ _))
