use Rattle.std.specs.Prelude.{◌-◌}
use Rattle.fix_store.proofs.counts.+mark_between.Given as goal

abbrev pub decreases-mark_between : goal.decreases-mark_between
decreases-mark_between l = l.high - l.low
