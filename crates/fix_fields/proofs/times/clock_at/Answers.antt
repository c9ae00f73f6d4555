use Rattle.fix_fields.proofs.TimedLemmas.{no_minute, no_second}
use Rattle.fix_fields.proofs.times.clock_at.Goals as goal

pub returns-in_err-minute-clause-value : goal.returns-in_err-minute-clause-value
returns-in_err-minute-clause-value c = rw c.from_residual-in_err-minute.ensures (no_minute c.args.bytes.now _ _ _ c.in_ok-hour.ensures c.in_ok-rest.ensures c.in_err-minute.ensures)

pub returns-in_err-second-clause-value : goal.returns-in_err-second-clause-value
returns-in_err-second-clause-value c = rw c.from_residual-in_err-second.ensures (no_second c.args.bytes.now _ _ _ _ _ _ c.in_ok-hour.ensures c.in_ok-rest.ensures c.in_ok-minute.ensures c.in_ok-rest-2.ensures c.in_err-second.ensures)
