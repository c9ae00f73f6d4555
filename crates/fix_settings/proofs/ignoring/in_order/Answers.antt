use Rattle.std.proofs.Common.{sym, ap, ◌∙◌, subst, None}
use Rattle.fix_settings.specs.Lent.{names_read}
use Rattle.fix_settings.specs.Reading.{AreInOrder, distinct}
use Rattle.fix_settings.proofs.OrderLemmas.{sorted_in_order}
use Rattle.fix_settings.proofs.ignoring.in_order.Goals as goal

pub returns : goal.returns
returns c =
    let made = c.in_ok-made.ensures ∙ ap (λ ns. distinct None (names_read ns)) c.deref.ensures.value in
    subst (λ m. AreInOrder (names_read c.args.names.items) m) (sym made) (sorted_in_order c.args.names.items c.sort.new.self.items c.in_ok-sort.ensures.sorted c.in_ok-sort.ensures.permutation)
