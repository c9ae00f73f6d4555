use Rattle.std.proofs.Common.{sym}
use Rattle.fix_engine.proofs.InboundLemmas.{int_at}
use Rattle.fix_engine.proofs.inbound.number_at.Goals as goal

pub returns-in-Some : goal.returns-in-Some
returns-in-Some c fields has =
    int_at _ fields _ _ (sym (rw c.in-Some.is at c.first_value.ensures fields has)) c.int.ensures.known
    c.int.ensures.each
