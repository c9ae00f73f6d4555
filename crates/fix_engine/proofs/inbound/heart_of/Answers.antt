use Rattle.std.specs.Prelude.{pos}
use Rattle.fix_engine.specs.Inbound.{IsLogon}
use Rattle.fix_engine.proofs.InboundLemmas.{none_has, only_none}
use Rattle.fix_engine.proofs.inbound.heart_of.Goals as goal

pub returns-in-None : goal.returns-in-None
returns-in-None c fields has = only_none (IsLogon fields)
    (λ h logon. none_has _ (pos h) (rw c.in-None.is at c.number_at.ensures fields has) logon.heart_bt_int)
