use Rattle.fix_top.proofs.ServeLemmas.{if_goes, then_goes}
use Rattle.fix_top.proofs.turn_tests.send.Goals as goal

pub send-requires : goal.send-requires
send-requires g c = record { in_step = if_goes _ _ c.requires.goes c.requires.stands }

pub returns : goal.returns
returns g c = record { stops = then_goes _ _ c.requires.goes c.send.ensures.stops }
