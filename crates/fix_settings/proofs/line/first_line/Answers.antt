use Rattle.std.proofs.Common.{sym}
use Rattle.fix_settings.proofs.LineLemmas.{lines_cut, no_line}
use Rattle.fix_settings.proofs.line.first_line.Goals as goal

pub returns-in-Some : goal.returns-in-Some
returns-in-Some c = lines_cut c.args.text.now c.in-Some.parts.0.now c.in-Some.parts.1.now (sym c.in-Some.ensures)

pub returns-in-None : goal.returns-in-None
returns-in-None c = let h = c.in-None.ensures in record { lines = no_line c.args.text.now c.requires (sym c.in-None.ensures); shorter = c.requires }
