use Rattle.std.proofs.Common.{◌≡◌, length, take, drop, sym, subst, arith, rules}
use Rattle.std.specs.Prelude.{IfSome}
use Rattle.std.proofs.lemmas.List.{take_at}
use Rattle.fix_journal.specs.Cursors.{Begins}
use Rattle.fix_journal.proofs.CursorLemmas.{begins}
use Rattle.fix_journal.proofs.peeking.look.Goals as goal

pub returns-in-Ok-clause-shows : goal.returns-in-Ok-clause-shows
returns-in-Ok-clause-shows g c = λ file payload is lies.
    let head = c.read_at.new.room in
    let long : length head ≡ c.min-count.result = search rules in
    let read : head ≡ take (length head) (drop c.args.place file) = subst (λ o. IfSome o (λ f. head ≡ take (length head) (drop c.args.place f))) is c.in-Ok.ensures.moves.read in
    let shown : Begins head payload = begins file head payload c.args.place c.args.limit lies (omega (arith, long, c.min-count.ensures, c.saturating_sub-left.ensures, lies.within)) read in
    c.peek_in.ensures.shows payload (subst (λ h. Begins h payload) (sym (take_at head _ c.min-count.result long)) shown) lies.fits.1 (omega (arith, c.saturating_sub.ensures, c.saturating_sub-left.ensures, lies.within))
