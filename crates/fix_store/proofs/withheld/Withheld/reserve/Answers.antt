use Rattle.std.proofs.Common.{ap, sym, ◌∙◌}
use Rattle.std.specs.FinSet as set
use Rattle.fix_store.specs.Folding.{with_last}
use Rattle.fix_store.proofs.NumberSets.{insert_is}
use Rattle.fix_store.proofs.withheld.Withheld.reserve.Goals as goal

pub returns-in_ok-insert-clause-same : goal.returns-in_ok-insert-clause-same
returns-in_ok-insert-clause-same c =
    let old = c.args.self.now in
    insert_is old.numbers c.insert.new.self c.in-Some.last (λ q. c.in_ok-insert.ensures.updates.0 q) ∙ ap (λ o. with_last o (set.from_list old.numbers.keys)) (sym c.in-Some.is)
