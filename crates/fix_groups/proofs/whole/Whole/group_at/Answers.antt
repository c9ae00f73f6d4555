use Rattle.fix_groups.proofs.JoinedLemmas.{group_first, group_second, group_third}
use Rattle.fix_groups.proofs.whole.Whole.group_at.Goals as goal

pub returns-in-Some : goal.returns-in-Some
returns-in-Some c = group_first _ c.self.inside.header.now c.self.inside.message.now c.self.inside.trailer.now _ _ c.self.view_is c.in-Some.ensures

pub returns-in-Some-group_at : goal.returns-in-Some-group_at
returns-in-Some-group_at c = group_second _ c.self.inside.header.now c.self.inside.message.now c.self.inside.trailer.now _ _ c.self.view_is c.in_default.ensures c.in-Some-group_at.ensures

pub returns : goal.returns
returns c = group_third _ c.self.inside.header.now c.self.inside.message.now c.self.inside.trailer.now _ _ c.self.view_is c.in_default.ensures c.in_default-group_at.ensures c.group_at-3.ensures
