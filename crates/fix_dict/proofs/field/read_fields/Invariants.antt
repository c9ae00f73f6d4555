use Rattle.std.proofs.Common.{◌≡◌, drop, map}
use Rattle.serde_json.specs.View.{view}
use Rattle.fix_dict.specs.Fields.{fields_in}
use Rattle.fix_dict.proofs.field.read_fields.Given as goal

abbrev pub invariant-loop-i : goal.invariant-loop-i
invariant-loop-i l = fields_in l.i l.fields (map view (drop l.i l.items)) ≡ fields_in 0 l.fn.fields (map view l.items)
