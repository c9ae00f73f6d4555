-- What the calls of a function may come to, for the exits that need no more.
use Rattle.fix_outside.proofs.CallLemmas.{Called-nil}
use Rattle.fix_stage.specs.Flush.{nothing_due, no_frame}
use Rattle.fix_stage.specs.Staging.{has_number, fits, put_memory}

-- what taking a number, making room and staging may come to
pub ruleset stagings = (Called-nil, nothing_due, has_number, fits, put_memory)
