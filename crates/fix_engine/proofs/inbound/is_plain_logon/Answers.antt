use Rattle.std.specs.Prelude.{pos}
use Rattle.fix_engine.proofs.InboundLemmas.{none_has}
use Rattle.fix_engine.proofs.inbound.is_plain_logon.Goals as goal

pub returns-in-None : goal.returns-in-None
returns-in-None c fields has plain = none_has _ (pos 0) (rw c.in-None.is at c.number_at.ensures fields has)
    plain.encrypt_method
