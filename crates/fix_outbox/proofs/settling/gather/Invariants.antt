use Rattle.std.proofs.Common.{◌≡◌, List, ◌++◌, All, map, vec_len}
use Rattle.crossbeam_queue.specs.Passes.{view, IsPassOf}
use Rattle.fix_outbox.specs.declared.queue.Ended.{Ended}
use Rattle.fix_outbox.specs.Queue.{IsTaker, taker}
use Rattle.fix_outbox.specs.Passes.{IsSenderOf, ended_of, AreClean}
use Rattle.fix_outbox.specs.Closing.{Clean}
use Rattle.fix_outbox.proofs.settling.gather.Given as goal

abbrev pub invariant-loop-pass : goal.invariant-loop-pass
invariant-loop-pass l = record {
  watch : l.watch.table_id ≡ l.initial.watch.table_id;
  takes : l.watch.me.0.takes ≡ l.initial.watch.me.0.takes;
  closed : l.watch.me.0.closed ≡ l.initial.watch.me.0.closed;
  clean : Clean l.watch.me.0.found → AreClean l.senders.items → AreClean l.initial.senders.items;
  place : IsPassOf l.outbox.queue l.place;
  senders : All (λ p. IsSenderOf l.outbox p) l.senders.items;
  is : view l.place ≡ taker (view l.place).number (view l.place).list (view l.place).known;
  number : (view l.place).number ≡ (view l.initial.place).number;
  list : (view l.place).list ≡ (view l.initial.place).list;
  known : map ended_of l.senders.items ++ (view l.place).known ≡ map ended_of l.initial.senders.items ++ (view l.initial.place).known;
}

abbrev pub decreases-loop-pass : goal.decreases-loop-pass
decreases-loop-pass l = goal.left-loop-pass l
