use Rattle.std.proofs.Common.{◌≡◌}
use Rattle.fix_outbox.specs.Passes.{IsSenderOf, number_of, posted, found}
use Rattle.fix_host.specs.Posting.{Loads}
use Rattle.fix_host.proofs.posting.post_or_closed.Given as goal

abbrev pub invariant-loop : goal.invariant-loop
invariant-loop g l = record {
  can_next : (goal.iterator-loop g).can_next l.iterator';
  finite : (goal.iterator-loop g).is_finite l.iterator';
  pass : IsSenderOf l.outbox l.pass;
  number : number_of l.pass ≡ number_of l.initial.pass;
  posted : posted l.pass ≡ posted l.initial.pass;
  found : Loads (found l.initial.pass) (found l.pass);
  next : l.next ≡ l.initial.next;
}
