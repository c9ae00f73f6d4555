use Rattle.std.proofs.Common.{◌≡◌, ◌+◌, ◌*◌, drop, map}
use Rattle.serde_json.specs.View.{view}
use Rattle.fix_dict.specs.Members.{judged_items, inside_group}
use Rattle.fix_dict.proofs.members.+judge.Given as goal

abbrev pub decreases-judge_group : goal.decreases-judge_group
decreases-judge_group l = 3 * l.depth_left

abbrev pub decreases-judge_member : goal.decreases-judge_member
decreases-judge_member l = 3 * l.depth_left + 1

abbrev pub decreases-judge_members : goal.decreases-judge_members
decreases-judge_members l = 3 * l.depth_left + 2

abbrev pub invariant-judge_members-loop-i : goal.invariant-judge_members-loop-i
invariant-judge_members-loop-i l =
    judged_items (inside_group l.depth_left l.fields) l.fields l.name l.leads l.i l.seen (map view (drop l.i l.items))
    ≡ judged_items (inside_group l.depth_left l.fields) l.fields l.name l.leads 0 l.fn.seen (map view l.items)
