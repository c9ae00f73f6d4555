use Rattle.std.proofs.Common.{sym, ◌∙◌}
use Rattle.fix_groups.specs.Tagged.{all_tagged}
use Rattle.fix_groups.proofs.TouchedLemmas.{touches_count, touches_inner}
use Rattle.fix_groups.proofs.look.touches.Goals as goal

pub returns-then-has_field : goal.returns-then-has_field
returns-then-has_field c = touches_count c.args.count c.args.inner.now (all_tagged c.args.fields.now) (sym c.has_field.ensures ∙ c.if-has_field.true)

pub returns : goal.returns
returns c = touches_inner c.args.count c.args.inner.now (all_tagged c.args.fields.now) c.has_some.result (sym c.has_field.ensures ∙ c.if-has_field.false) c.has_some.ensures
