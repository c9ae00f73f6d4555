use Rattle.fix_machine.proofs.RowLemmas.{first_messages, numbers, checks, types, moves, clocks, others}
use Rattle.fix_machine.proofs.laws.the_worked_rows_hold.Goals as goal

pub returns : goal.returns
returns c = record { first_messages = first_messages; numbers = numbers; checks = checks; types = types; moves = moves; clocks = clocks; others = others }
