use Rattle.std.proofs.Common.{sym, subst}
use Rattle.fix_host.specs.Greet.{IsOpen}
use Rattle.fix_host.specs.Greet as greets
use Rattle.fix_host.proofs.greeting.outcome.Goals as goal

pub returns-in-Bytes : goal.returns-in-Bytes
returns-in-Bytes c = λ given. c.judge_in_time.ensures c.args.turn given (subst IsOpen (sym c.in-Bytes.is) tt)

pub returns-in-Idle : goal.returns-in-Idle
returns-in-Idle c = λ given. c.judge_in_time-in-Idle.ensures c.args.turn given (subst IsOpen (sym c.in-Idle.is) tt)

pub returns-in-End : goal.returns-in-End
returns-in-End c = λ given. greets.ended c.in-End.is

pub returns-in-Failed : goal.returns-in-Failed
returns-in-Failed c = λ given. greets.failed c.in-Failed.is

pub returns-in-OutOfMemory : goal.returns-in-OutOfMemory
returns-in-OutOfMemory c = λ given. greets.out_of_memory c.in-OutOfMemory.is
