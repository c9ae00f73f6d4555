use Rattle.std.proofs.Common.{sym, ◌∙◌}
use Rattle.fix_groups.proofs.JoinedLemmas.{tag_first, tag_second, tag_third}
use Rattle.fix_groups.proofs.whole.Whole.has_tag.Goals as goal

pub returns-then-has_tag : goal.returns-then-has_tag
returns-then-has_tag c = tag_first _ c.self.inside.header.now c.self.inside.message.now c.self.inside.trailer.now _ c.self.view_is (sym c.if-has_tag.true ∙ c.has_tag.ensures)

pub returns-then-has_tag-2 : goal.returns-then-has_tag-2
returns-then-has_tag-2 c = tag_second _ c.self.inside.header.now c.self.inside.message.now c.self.inside.trailer.now _ c.self.view_is (sym c.if-has_tag.false ∙ c.has_tag.ensures) (sym c.if-has_tag-2.true ∙ c.has_tag-2.ensures)

pub returns : goal.returns
returns c = tag_third _ c.self.inside.header.now c.self.inside.message.now c.self.inside.trailer.now _ _ c.self.view_is (sym c.if-has_tag.false ∙ c.has_tag.ensures) (sym c.if-has_tag-2.false ∙ c.has_tag-2.ensures) c.has_tag-3.ensures
