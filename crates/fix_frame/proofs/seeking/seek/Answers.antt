use Rattle.std.proofs.lemmas.List.{take_rest}
use Rattle.fix_frame.proofs.Steps.{skips_on, seeks_frame}
use Rattle.fix_frame.proofs.seeking.seek.Goals as goal

pub returns-in-Frame : goal.returns-in-Frame
returns-in-Frame c = seeks_frame _ c.items.at c.items.mark c.in-Frame.frame.now c.items.invariant (rw take_rest at c.in-Frame.ensures)

pub items-preserved : goal.items-preserved
items-preserved c = skips_on _ c.items.at c.in-Skip.count c.items.mark c.items.invariant (rw take_rest at c.in-Skip.ensures)
