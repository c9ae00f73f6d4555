use Rattle.std.proofs.Common.{◌≡◌, ◌≤◌, ◌-◌, take, drop}
use Rattle.std.specs.List.{list_all}
use Rattle.fix_dict.specs.Allowed.{is_listed, parts_of, parts_behind}
use Rattle.fix_dict.proofs.allowed.are_listed.Given as goal

abbrev pub invariant-loop-i : goal.invariant-loop-i
invariant-loop-i l =
    (l.start ≤ l.i) × (list_all (is_listed l.values) (parts_behind (take (l.i - l.start) (drop l.start l.value)) (drop l.i l.value)) ≡ list_all (is_listed l.values) (parts_of l.value))
