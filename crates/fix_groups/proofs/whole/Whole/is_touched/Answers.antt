use Rattle.std.proofs.Common.{sym, ◌∙◌}
use Rattle.fix_groups.proofs.TouchedLemmas.{touched_first, touched_second, touched_third}
use Rattle.fix_groups.proofs.whole.Whole.is_touched.Goals as goal

pub returns-then-is_touched : goal.returns-then-is_touched
returns-then-is_touched c = touched_first _ c.self.inside.header.now c.self.inside.message.now c.self.inside.trailer.now _ c.self.view_is (sym c.if-is_touched.true ∙ c.is_touched.ensures)

pub returns-then-is_touched-2 : goal.returns-then-is_touched-2
returns-then-is_touched-2 c = touched_second _ c.self.inside.header.now c.self.inside.message.now c.self.inside.trailer.now _ c.self.view_is (sym c.if-is_touched.false ∙ c.is_touched.ensures) (sym c.if-is_touched-2.true ∙ c.is_touched-2.ensures)

pub returns : goal.returns
returns c = touched_third _ c.self.inside.header.now c.self.inside.message.now c.self.inside.trailer.now _ _ c.self.view_is (sym c.if-is_touched.false ∙ c.is_touched.ensures) (sym c.if-is_touched-2.false ∙ c.is_touched-2.ensures) c.is_touched-3.ensures
