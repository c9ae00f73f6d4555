use Rattle.std.specs.Prelude.{◌-◌}
use Rattle.fix_store.proofs.finding.+seek.Given as goal

abbrev pub decreases-seek : goal.decreases-seek
decreases-seek g l = l.end - l.spot.cursor.index
