use Rattle.fix_session.proofs.RestLemmas.{first_rest}
use Rattle.fix_session.proofs.session.opened.Goals as goal

pub invariant_of-result : goal.invariant_of-result
invariant_of-result c =
    rw (c.new.ensures, c.new-2.ensures, c.numbers_from.ensures, c.requires.made.options, c.requires.made.waiting) (c.requires.valid, first_rest c.args.plan.identity c.args.plan.settings c.args.stored c.requires.numbers, c.requires.made.room, tt)
