use Rattle.fix_stage.proofs.TellingLeads.{told_leads}
use Rattle.fix_stage.proofs.laws.a_reset_is_told_lawfully.Goals as goal

pub returns : goal.returns
returns c id read resets given n m valid = told_leads id read resets given n m valid
