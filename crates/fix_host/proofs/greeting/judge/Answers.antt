use Rattle.std.proofs.Common.{arith}
use Rattle.fix_host.specs.Greet as greets
use Rattle.fix_host.proofs.greeting.judge.Goals as goal

pub returns-in-Frame : goal.returns-in-Frame
returns-in-Frame c = greets.by_frame c.in-Frame.ensures.first c.recognise.ensures

pub returns-else-bytes-lt-MOST_BYTES : goal.returns-else-bytes-lt-MOST_BYTES
returns-else-bytes-lt-MOST_BYTES c = greets.by_length c.in-Nothing.ensures.0 (omega (arith, c.if-bytes-lt-MOST_BYTES.false))
