use Rattle.std.proofs.Common.{◌≡◌, [], drop, map}
use Rattle.serde_json.specs.View.{view}
use Rattle.fix_dict.specs.Fields.{texts_in}
use Rattle.fix_dict.proofs.field.listed_values.Given as goal

abbrev pub invariant-loop-i : goal.invariant-loop-i
invariant-loop-i l = texts_in l.i l.texts.items (map view (drop l.i l.items)) ≡ texts_in 0 [] (map view l.items)
