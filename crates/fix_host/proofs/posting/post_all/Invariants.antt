use Rattle.std.proofs.Common.{◌≡◌, ◌++◌, length, take, drop, None}
use Rattle.std.specs.Prelude.{replicate}
use Rattle.fix_outbox.specs.Passes.{IsSenderOf, number_of, posted, found}
use Rattle.fix_host.specs.Posting.{items_of, Loads}
use Rattle.fix_host.proofs.posting.post_all.Given as goal

abbrev pub invariant-loop-k : goal.invariant-loop-k
invariant-loop-k g l = record {
  pass : IsSenderOf l.outbox l.pass;
  number : number_of l.pass ≡ number_of l.initial.pass;
  count : l.count ≡ l.k;
  size : length l.drafts ≡ length l.initial.drafts;
  posted : posted l.pass ≡ posted l.initial.pass ++ items_of (number_of l.initial.pass) (take l.k l.initial.drafts);
  gone : take l.k l.drafts ≡ replicate l.k None;
  rest : drop l.k l.drafts ≡ drop l.k l.initial.drafts;
  found : Loads (found l.initial.pass) (found l.pass);
}
