use Rattle.std.proofs.Common.{arith, sym, ◌∙◌}
use Rattle.std.proofs.lemmas.Bool.{false≢true}
use Rattle.fix_frame.specs.Span.{parts_of}
use Rattle.fix_frame.proofs.Items.{byte_ahead, span_ahead, none_ahead}
use Rattle.fix_frame.proofs.item.item_ahead.Goals as goal

pub returns-then-not-may_mark : goal.returns-then-not-may_mark
returns-then-not-may_mark c = byte_ahead c.args.may_mark c.args.bytes.now (grind arith) (λ mark. absurd (false≢true (sym c.if-not-may_mark.true ∙ mark)))

pub returns-else-is_right : goal.returns-else-is_right
returns-else-is_right c = rw c.if-not-may_mark.false (span_ahead c.args.bytes.now (parts_of c.in-Ok.span) c.in-Ok.span.rest.now c.in-Ok.ensures (λ right. let x = c.if-is_right.ensures.1 right in cc))

pub returns-in-Err-Never : goal.returns-in-Err-Never
returns-in-Err-Never c = byte_ahead c.args.may_mark c.args.bytes.now (grind arith) (λ mark. rw c.in-Err-Never.field-0-is at c.in-Err-Never.ensures)

pub returns-in-Err-NotYet : goal.returns-in-Err-NotYet
returns-in-Err-NotYet c = rw c.if-not-may_mark.false (none_ahead c.args.bytes.now (rw c.in-Err-NotYet.field-0-is at c.in-Err-NotYet.ensures))
