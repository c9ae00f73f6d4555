use Rattle.std.proofs.Common.{◌+◌, ◌*◌, drop}
use Rattle.fix_fields.specs.Shapes.{shapes_size}
use Rattle.fix_fields.specs.Members.{shapes_of}
use Rattle.fix_groups.specs.Tagged.{all_tagged}
use Rattle.fix_groups.specs.Runs.{lead}
use Rattle.fix_validate.specs.Required.{instances_of, instances_in, rows_of_each, required_rows}
use Rattle.fix_validate.proofs.RowLemmas.{GoesOn}
use Rattle.fix_validate.proofs.required.+missing.Given as goal

abbrev pub decreases-missing : goal.decreases-missing
decreases-missing l = 3 * shapes_size l.layout.now

abbrev pub decreases-missing_in_run : goal.decreases-missing_in_run
decreases-missing_in_run l = 3 * shapes_size l.group.now + 1

abbrev pub decreases-missing_in_group : goal.decreases-missing_in_group
decreases-missing_in_group l = 3 * shapes_size l.group.now + 2

abbrev pub invariant-missing-loop-member : goal.invariant-missing-loop-member
invariant-missing-loop-member l = GoesOn (required_rows l.layout (all_tagged l.fields)) (required_rows (shapes_of (drop l.member-index l.member-items)) (all_tagged l.fields))

abbrev pub invariant-missing_in_group-loop-i : goal.invariant-missing_in_group-loop-i
invariant-missing_in_group-loop-i l =
    GoesOn (rows_of_each (required_rows l.group) (instances_in l.fn.count l.group (all_tagged l.fields))) (rows_of_each (required_rows l.group) (instances_in l.fn.count l.group (all_tagged (drop l.i l.fields))))

abbrev pub invariant-missing_in_run-loop-i : goal.invariant-missing_in_run-loop-i
invariant-missing_in_run-loop-i l =
    GoesOn (rows_of_each (required_rows l.group) (instances_of (lead l.group) (all_tagged l.run))) (rows_of_each (required_rows l.group) (instances_of (lead l.group) (all_tagged (drop l.i l.run))))
