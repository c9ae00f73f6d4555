use Rattle.std.proofs.Common.{◌≡◌, IfOk, map, subst}
use Rattle.serde_json.specs.View.{view}
use Rattle.fix_dict.proofs.RoomLemmas.{members_below}
use Rattle.fix_dict.proofs.build.+build.Goals as goal

pub inner_members-returns : goal.inner_members-returns
inner_members-returns t c = subst (λ ms. IfOk c.members_of.result (λ members. members.items ≡ ms)) (members_below c.args.depth_left (map view c.args.items.now) c.if-depth_left-eq0.false) c.members_of.ensures
