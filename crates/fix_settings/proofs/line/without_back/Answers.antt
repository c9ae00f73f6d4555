use Rattle.std.proofs.Common.{◌-◌, length, sym, ◌∙◌, arith}
use Rattle.fix_settings.proofs.LineLemmas.{trim_last, keep_last}
use Rattle.fix_settings.proofs.line.without_back.Goals as goal

pub returns-then-not-is_blank : goal.returns-then-not-is_blank
returns-then-not-is_blank c = keep_last c.loop-rest.rest.now (length c.loop-rest.rest.now - 1) (omega arith) (sym c.is_blank.ensures ∙ c.if-not-is_blank.true) ∙ c.loop-rest.invariant

pub loop-rest-preserved : goal.loop-rest-preserved
loop-rest-preserved c = trim_last c.loop-rest.rest.now (length c.loop-rest.rest.now - 1) (omega arith) (sym c.is_blank.ensures ∙ c.if-not-is_blank.false) ∙ c.loop-rest.invariant
