use Rattle.std.proofs.Common.{◌≡◌}
use Rattle.std.specs.Prelude.{vec_len}
use Rattle.fix_host.specs.Held.{ahead_of, inner_of}
use Rattle.fix_host.specs.Looking.{IsLookedTo}
use Rattle.fix_host.specs.Greet.{IsUndecided}
use Rattle.fix_host.proofs.GreetLemmas.{SoFar}
use Rattle.fix_host.proofs.greeting.greet.Given as goal

abbrev pub invariant-loop-taken : goal.invariant-loop-taken
invariant-loop-taken g l = record {
  so_far : SoFar l.seconds l.since l.taken (ahead_of l.fn.link) (ahead_of l.link) (g.L.Link.link (inner_of l.fn.link)) (g.L.Link.link (inner_of l.link)) (g.C.Clock.readings l.fn.clock) (g.C.Clock.readings l.clock);
  looked : IsLookedTo (ahead_of l.link) l.from;
  undecided : IsUndecided (ahead_of l.link);
  room : vec_len l.room ≡ 65536;
}
