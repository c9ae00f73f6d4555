use Rattle.std.proofs.Common.{◌∙◌, ap, sym, ◌||◌}
use Rattle.std.specs.Prelude.{nat_eq}
use Rattle.std.specs.FinSet as set
use Rattle.fix_store.specs.Folding.{with_last}
use Rattle.fix_store.proofs.NumberSets.{contains_is, one_more}
use Rattle.fix_store.proofs.withheld.Withheld.has.Goals as goal

pub returns-in-Some : goal.returns-in-Some
returns-in-Some c =
    let s = c.args.self.now in
    c.either.ensures
    ∙ ap (λ b. nat_eq c.in-Some.last c.args.number || b) (c.contains.ensures ∙ sym (contains_is s.numbers c.args.number))
    ∙ one_more (set.from_list s.numbers.keys) c.in-Some.last c.args.number
    ∙ ap (λ o. set.contains (with_last o (set.from_list s.numbers.keys)) c.args.number) (sym c.in-Some.is)

pub returns-in-None : goal.returns-in-None
returns-in-None c =
    let s = c.args.self.now in
    c.contains-in-None.ensures ∙ sym (contains_is s.numbers c.args.number) ∙ ap (λ o. set.contains (with_last o (set.from_list s.numbers.keys)) c.args.number) (sym c.in-None.is)
