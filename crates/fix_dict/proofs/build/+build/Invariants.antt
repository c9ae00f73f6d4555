use Rattle.std.proofs.Common.{◌≡◌, ◌+◌, ◌*◌, take, map}
use Rattle.serde_json.specs.View.{view}
use Rattle.fix_dict.specs.Members.{members_in}
use Rattle.fix_dict.proofs.build.+build.Given as goal

abbrev pub decreases-inner_members : goal.decreases-inner_members
decreases-inner_members l = 3 * l.depth_left

abbrev pub decreases-member_of : goal.decreases-member_of
decreases-member_of l = 3 * l.depth_left + 1

abbrev pub decreases-members_of : goal.decreases-members_of
decreases-members_of l = 3 * l.depth_left + 2

abbrev pub invariant-members_of-loop-item : goal.invariant-members_of-loop-item
invariant-members_of-loop-item l = l.members.items ≡ members_in l.depth_left (map view (take l.item-index l.items))
