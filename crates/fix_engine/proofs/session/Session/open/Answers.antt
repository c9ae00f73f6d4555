use Rattle.std.proofs.Common.{[], Ok, Err, refl, inl, inr}
use Rattle.fix_base.proofs.SeenLemmas.{Trace-nil}
use Rattle.fix_outside.specs.declared.outside.LoadFault.TheVariants as load
use Rattle.fix_engine.specs.Run.{SessionSeen, from_stored, no_store}
use Rattle.fix_engine.proofs.BeginLemmas.{load_cause}
use Rattle.fix_engine.proofs.InStepLemmas.{loaded_stands}
use Rattle.fix_engine.proofs.session.Session.open.Goals as goal

pub returns-in_default-clause-opens : goal.returns-in_default-clause-opens
returns-in_default-clause-opens g c = (Err load.OutOfMemory, tt, ([], Trace-nil _, no_store _))

pub returns-in_default-vec-clause-opens : goal.returns-in_default-vec-clause-opens
returns-in_default-vec-clause-opens g c = (Err load.OutOfMemory, tt, ([], Trace-nil _, no_store _))

pub returns-in-Ok-load-clause-opens : goal.returns-in-Ok-load-clause-opens
returns-in-Ok-load-clause-opens g c =
    rw (c.state_from.ensures.numbers, c.in-Ok.ensures) (Ok c.in-Ok-load.stored, c.in-Ok-load.ensures.answers, (_, c.in-Ok-load.ensures.noted, from_stored c.in-Ok-load.stored))

pub returns-in-Ok-load-clause-in_step : goal.returns-in-Ok-load-clause-in_step
returns-in-Ok-load-clause-in_step g c =
    rw (c.state_from.ensures.numbers, c.in-Ok.ensures) (loaded_stands _ c.in-Ok-load.stored _ _ c.in-Ok-load.ensures.answers c.in-Ok-load.ensures.noted c.in-Ok-load.ensures.opens)

pub returns-in-Err-clause-opens : goal.returns-in-Err-clause-opens
returns-in-Err-clause-opens g c = (Err c.in-Err.fault, c.in-Err.ensures.answers, (_, c.in-Err.ensures.noted, no_store c.in-Err.fault))

pub returns-in-Err-clause-cause : goal.returns-in-Err-clause-cause
returns-in-Err-clause-cause g c = load_cause SessionSeen c.in-Err.fault _ _ c.in-Err.ensures.noted

pub returns-in_default-clause-shut : goal.returns-in_default-clause-shut
returns-in_default-clause-shut g c = inl refl

pub returns-in_default-vec-clause-shut : goal.returns-in_default-vec-clause-shut
returns-in_default-vec-clause-shut g c = inl refl

pub returns-in-Err-clause-shut : goal.returns-in-Err-clause-shut
returns-in-Err-clause-shut g c = inr c.in-Err.ensures.opens
