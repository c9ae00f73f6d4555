use Rattle.std.proofs.Common.{◌∙◌, sym, arith}
use Rattle.fix_fields.proofs.EnvelopeLemmas.{no_number, number_is, nine_small, seq_num_says}
use Rattle.fix_fields.proofs.reading.seq_num.Goals as goal

pub returns-in_err-number : goal.returns-in_err-number
returns-in_err-number c = rw c.in_ok-value.was (seq_num_says c.args.times c.in_ok-value.value.now c.from_residual-in_err-number.result (omega arith) (omega arith) (c.from_residual-in_err-number.ensures ∙ sym (no_number c.in_ok-value.value.now c.in_err-number.ensures)))

pub overflow_cast-number : goal.overflow_cast-number
overflow_cast-number c = omega (arith, nine_small _ _ (omega arith) c.in_ok-number.ensures)

pub returns : goal.returns
returns c = rw c.in_ok-value.was (seq_num_says c.args.times c.in_ok-value.value.now c.new.result (omega arith) (omega arith) (number_is c.in_ok-value.value.now c.in_ok-number.number c.new.result c.in_ok-number.ensures c.new.ensures))
