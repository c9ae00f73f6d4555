use Rattle.std.proofs.Common.{◌≡◌, ◌≤◌}
use Rattle.std.specs.FinMap as map
use Rattle.fix_resend.specs.Waiting.{from_number}
use Rattle.fix_resend.proofs.stash.Stash.drop_below.Given as goal

-- nothing from the number on is dropped
abbrev pub invariant-loop : goal.invariant-loop
invariant-loop l = record {
  from : from_number l.n l.self ≡ from_number l.n l.initial.self;
  fewer : map.len l.self ≤ map.len l.initial.self;
}

abbrev pub decreases-loop : goal.decreases-loop
decreases-loop l = map.len l.self
