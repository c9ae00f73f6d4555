use Rattle.fix_host.proofs.LookLemmas.{looked_on, looked_at}
use Rattle.fix_host.proofs.looking.look.Goals as goal

pub returns-in-Frame : goal.returns-in-Frame
returns-in-Frame c = looked_at _ c.items.at c.in-Frame.frame.now c.items.invariant c.in-Frame.ensures

pub items-preserved : goal.items-preserved
items-preserved c = looked_on _ c.items.at c.in-Skip.count c.items.invariant c.in-Skip.ensures
