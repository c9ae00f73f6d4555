use Rattle.std.proofs.Common.{◌≡◌, ◌&&◌, [], take, drop}
use Rattle.std.specs.List.{list_any}
use Rattle.fix_validate.specs.Checks.{whole}
use Rattle.fix_validate.specs.Table.{fields_rows, has_left_header, has_trailer}
use Rattle.fix_validate.proofs.GroupedLemmas.{touching_field}
use Rattle.fix_validate.proofs.RowLemmas.{GoesOn}
use Rattle.fix_validate.proofs.fields.fields_fault.Given as goal

abbrev pub invariant-loop-i : goal.invariant-loop-i
invariant-loop-i l =
    GoesOn (fields_rows l.dict (whole l.dict l.message) l.order [] l.fields) (fields_rows l.dict (whole l.dict l.message) l.order (take l.i l.fields) (drop l.i l.fields))
    × (l.touched ≡ list_any (touching_field l.dict l.message) (take l.i l.fields))
    × (l.left_header ≡ (l.order && has_left_header l.dict (take l.i l.fields))) × (l.in_trailer ≡ (l.order && has_trailer l.dict (take l.i l.fields)))
