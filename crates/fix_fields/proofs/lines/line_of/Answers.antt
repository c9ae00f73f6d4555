use Rattle.std.proofs.Common.{arith}
use Rattle.fix_fields.proofs.EnvelopeLemmas.{no_first_line}
use Rattle.fix_fields.proofs.lines.line_of.Goals as goal

pub unwrap-end-requires : goal.unwrap-end-requires
unwrap-end-requires c = grind (arith, no_first_line c.args.bytes.now c.requires)
