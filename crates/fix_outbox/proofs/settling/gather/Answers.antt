use Rattle.std.proofs.Common.{ap, ◌∙◌, rules, arith}
use Rattle.std.proofs.lemmas.Grind.{common_steps}
use Rattle.std.proofs.lemmas.List.Elements.{All-pop}
use Rattle.fix_outbox.specs.Passes.{IsSenderOf}
use Rattle.fix_outbox.proofs.OrderLemmas.{merges}
use Rattle.fix_outbox.proofs.ClosingLemmas.{joins}
use Rattle.fix_outbox.proofs.SettleLemmas.{cleaned}
use Rattle.fix_outbox.proofs.settling.gather.Goals as goal

pub absorb-requires-clause-rule : goal.absorb-requires-clause-rule
absorb-requires-clause-rule c = merges _ _ _ _ (ap (λ v. v.takes) c.loop-pass.invariant.is) c.in-Some.pass.sends.0.0 c.in-Some.pass.sends.0.1

pub join_seat-requires : goal.join_seat-requires
join_seat-requires c = (search rules, search rules, search rules, search rules, joins _ _ _ _)

pub loop-pass-preserved : goal.loop-pass-preserved
loop-pass-preserved c = record {
  watch = search rules;
  takes = search rules;
  closed = search rules;
  clean = cleaned c.join_seat.new.seat.me.0.found c.loop-pass.watch.me.0.found c.pop.new.self.items c.loop-pass.senders.items c.args.senders.items c.in-Some.pass (ap (λ m. m.0.found) c.join_seat.ensures.2) c.in-Some.ensures.items c.loop-pass.invariant.clean;
  place = search rules;
  senders = (All-pop (λ p. IsSenderOf c.args.outbox.now p) c.loop-pass.senders.items c.pop.new.self.items c.pop.result c.pop.ensures.items c.loop-pass.invariant.senders).0;
  is = search rules;
  number = search rules;
  list = search rules;
  known = grind (arith, common_steps);
}
