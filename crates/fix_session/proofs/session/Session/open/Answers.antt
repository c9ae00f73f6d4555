use Rattle.std.proofs.Common.{[], Ok, Err, refl, inl, inr}
use Rattle.fix_outside.specs.declared.outside.LoadFault.TheVariants as load
use Rattle.fix_outside.proofs.CallLemmas.{Called-nil}
use Rattle.fix_session.specs.Session.{from_stored, no_memory, not_loaded}
use Rattle.fix_session.proofs.RestLemmas.{load_caused}
use Rattle.fix_session.proofs.session.Session.open.Goals as goal

pub returns-in_default-clause-calls : goal.returns-in_default-clause-calls
returns-in_default-clause-calls g c = (Err load.OutOfMemory, tt, ([], Called-nil _, no_memory))

pub returns-in-Ok-load-clause-calls : goal.returns-in-Ok-load-clause-calls
returns-in-Ok-load-clause-calls g c =
    rw c.opened.ensures (Ok c.in-Ok-load.stored, c.in-Ok-load.ensures.answers, (_, c.in-Ok-load.ensures.called, from_stored c.in-Ok-load.stored))

pub returns-in-Err-clause-calls : goal.returns-in-Err-clause-calls
returns-in-Err-clause-calls g c = (Err c.in-Err.fault, c.in-Err.ensures.answers, (_, c.in-Err.ensures.called, not_loaded c.in-Err.fault))

pub returns-in-Err-clause-cause : goal.returns-in-Err-clause-cause
returns-in-Err-clause-cause g c = load_caused c.in-Err.fault _ _ c.in-Err.ensures.called

pub returns-in-Ok-load-clause-opens : goal.returns-in-Ok-load-clause-opens
returns-in-Ok-load-clause-opens g c = rw c.opened.ensures c.in-Ok-load.ensures.opens

pub returns-in_default-clause-shut : goal.returns-in_default-clause-shut
returns-in_default-clause-shut g c = inl refl

pub returns-in-Err-clause-shut : goal.returns-in-Err-clause-shut
returns-in-Err-clause-shut g c = inr c.in-Err.ensures.opens
