-- What the calls of one step may come to, for the exits that need no more.
use Rattle.fix_base.proofs.SeenLemmas.{Trace-nil, Trace-append}
use Rattle.fix_engine.specs.Answer.{nothing, count, go_up, close, give_up, hand_memory, spent, keep_memory, keep_lost}
use Rattle.fix_engine.specs.Answer.{write_memory}
use Rattle.fix_engine.specs.Reading.{idle, over, read_lost, read_memory, same, kept, expect_lost, expect_memory, now, now_memory}
use Rattle.fix_engine.specs.Turn.{beside}

-- what a step may come to
pub ruleset steps = (Trace-nil, nothing, count, go_up, close, give_up, hand_memory)

-- what a sending may come to
pub ruleset sendings = (Trace-nil, Trace-append, spent, keep_memory, keep_lost, write_memory)

-- what keeping the expected number, or a look at the clock, may come to
pub ruleset keepings = (Trace-nil, beside, idle, over, read_lost, read_memory, same, kept, expect_lost, expect_memory, now, now_memory)
