use Rattle.std.proofs.Common.{◌≡◌, drop}
use Rattle.fix_base.specs.Tags.{data_tag, beside}
use Rattle.fix_fields.proofs.tag.paired.Given as goal

abbrev pub invariant-loop-pair : goal.invariant-loop-pair
invariant-loop-pair l = data_tag l.fn.tag ≡ beside l.number (drop l.pair-index l.pair-items)
