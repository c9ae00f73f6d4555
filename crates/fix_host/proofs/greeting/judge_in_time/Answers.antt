use Rattle.fix_host.specs.Greet as greets
use Rattle.fix_host.proofs.greeting.judge_in_time.Goals as goal

pub returns-in-Ends : goal.returns-in-Ends
returns-in-Ends c = λ read given opens. greets.decided opens c.in-Ends.ensures

pub returns-then-is_late : goal.returns-then-is_late
returns-then-is_late c = λ read given opens. greets.late opens c.in-GoesOn.ensures.0 c.if-is_late.ensures

pub returns-else-is_late : goal.returns-else-is_late
returns-else-is_late c = λ read given opens. (opens, c.if-is_late.ensures, c.in-GoesOn.ensures.0, c.in-GoesOn.ensures.1)
