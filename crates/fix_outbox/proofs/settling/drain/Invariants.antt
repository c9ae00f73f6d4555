use Rattle.std.proofs.Common.{◌≡◌, ◌≤◌, ◌+◌, List, ◌++◌, map, length, vec_capacity}
use Rattle.crossbeam_queue.specs.Passes.{view, IsPassOf}
use Rattle.fix_outbox.specs.declared.queue.Item.{Item}
use Rattle.fix_outbox.specs.Queue.{count_posted, with_list}
use Rattle.fix_outbox.specs.Passes.{draft_of}
use Rattle.fix_outbox.proofs.settling.drain.Given as goal

abbrev pub invariant-loop : goal.invariant-loop
invariant-loop g l = record {
  place : IsPassOf l.outbox.queue l.place;
  rest : List Item;
  drafts : map draft_of rest ≡ l.left.items;
  is : view l.place ≡ with_list (view l.initial.place) ((view l.initial.place).list ++ rest);
  room : count_posted (view l.initial.place).known ≤ length (view l.initial.place).list + vec_capacity l.left;
}
