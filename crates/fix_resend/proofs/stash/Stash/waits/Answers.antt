use Rattle.std.proofs.Common.{ap, ◌∙◌, is_some, refl}
use Rattle.fix_resend.proofs.WaitingLemmas.{seen_get}
use Rattle.fix_resend.proofs.stash.Stash.waits.Goals as goal

pub returns-clause-waits : goal.returns-clause-waits
returns-clause-waits c = c.contains_key.ensures ∙ ap is_some (seen_get c.self.inside.frames _ _ _ _ c.self.view_is c.get.ensures.value refl)
