use Rattle.std.proofs.Common.{◌≡◌, ◌≤◌, [], All, length, vec_capacity}
use Rattle.crossbeam_queue.specs.Passes.{view, IsPassOf}
use Rattle.fix_outbox.specs.Queue.{taker}
use Rattle.fix_outbox.specs.Passes.{IsNewSender, AreNumbered}
use Rattle.fix_outbox.proofs.opening.fill.Given as goal

abbrev pub invariant-loop-k : goal.invariant-loop-k
invariant-loop-k l = record {
  place : IsPassOf l.outbox.queue l.place;
  is : view l.place ≡ taker l.k [] [];
  watch : l.watch.table_id ≡ l.initial.watch.table_id;
  closing_view : l.watch.me.0 ≡ l.initial.watch.me.0;
  room : l.senders ≤ vec_capacity l.passes;
  count : length l.passes.items ≡ l.k;
  new : All (λ p. IsNewSender l.outbox p) l.passes.items;
  numbers : AreNumbered l.passes.items;
}
