use Rattle.std.proofs.Common.{sym, ◌∙◌}
use Rattle.fix_groups.proofs.JoinedLemmas.{owner_first, owner_second, owner_third}
use Rattle.fix_groups.proofs.whole.Whole.owner.Goals as goal

pub returns-in-Some : goal.returns-in-Some
returns-in-Some c = owner_first _ c.self.inside.header.now c.self.inside.message.now c.self.inside.trailer.now _ _ c.self.view_is (sym c.in-Some.is ∙ c.owner.ensures)

pub returns-in-Some-owner : goal.returns-in-Some-owner
returns-in-Some-owner c = owner_second _ c.self.inside.header.now c.self.inside.message.now c.self.inside.trailer.now _ _ c.self.view_is (sym c.in_default.is ∙ c.owner.ensures) (sym c.in-Some-owner.is ∙ c.owner-2.ensures)

pub returns : goal.returns
returns c = owner_third _ c.self.inside.header.now c.self.inside.message.now c.self.inside.trailer.now _ _ c.self.view_is (sym c.in_default.is ∙ c.owner.ensures) (sym c.in_default-owner.is ∙ c.owner-2.ensures) c.owner-3.ensures
