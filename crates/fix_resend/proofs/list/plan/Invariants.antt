use Rattle.std.proofs.Common.{◌≡◌, ◌+◌, ◌++◌, length, drop}
use Rattle.fix_resend.specs.Cut.{cut_from}
use Rattle.fix_resend.specs.Walks.{rest_of}
use Rattle.fix_resend.proofs.list.plan.Given as goal

-- what stands in the list and what the walk has still to give are the whole list
abbrev pub invariant-loop-app : goal.invariant-loop-app
invariant-loop-app l = record {
  at : l.walk.at ≡ l.fn.from + l.app-index;
  to : l.walk.to ≡ l.fn.to;
  whole : l.outs.items ++ rest_of l.walk (drop l.app-index l.app-items) ≡ cut_from l.fn.from l.app-items;
  last : l.app-index ≡ length l.app-items → l.walk.open_from ≡ l.walk.at;
}
