use Rattle.std.proofs.Common.{arith}
use Rattle.fix_settings.proofs.LineLemmas.{more_lines}
use Rattle.fix_settings.proofs.line.lines_of.Goals as goal

pub loop-rest-preserved : goal.loop-rest-preserved
loop-rest-preserved c =
    let cut = c.first_line.ensures in
    record {
      count = omega (arith, cut.shorter);
      lines = rw c.in_ok-push.ensures.items (more_lines c.loop-rest.lines.items c.line_of.result c.loop-rest.line c.loop-rest.rest.now c.first_line.result.0.now c.first_line.result.1.now _ cut.lines c.line_of.ensures c.loop-rest.invariant.lines);
    }
