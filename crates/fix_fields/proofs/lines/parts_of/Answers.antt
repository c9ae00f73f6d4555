use Rattle.std.proofs.Common.{arith}
use Rattle.std.proofs.lemmas.List.{take_rest}
use Rattle.fix_fields.proofs.EnvelopeLemmas.{has_first, has_second, begin_is, first_long, rest_is_body}
use Rattle.fix_fields.proofs.lines.parts_of.Goals as goal

pub line_of-requires : goal.line_of-requires
line_of-requires c = has_first c.args.frame.now c.requires

pub line_of-requires-2 : goal.line_of-requires-2
line_of-requires-2 c = has_second c.args.frame.now _ _ c.requires c.line_of.ensures

pub slice_bounds-result-count : goal.slice_bounds-result-count
slice_bounds-result-count c = omega (arith, first_long c.args.frame.now _ _ c.requires c.line_of.ensures)

pub slice_bounds-result-start : goal.slice_bounds-result-start
slice_bounds-result-start c = omega (arith, first_long c.args.frame.now _ _ c.requires c.line_of.ensures)

pub slice_bounds-result-count-2 : goal.slice_bounds-result-count-2
slice_bounds-result-count-2 c = let r = rest_is_body c.requires.parts c.args.frame.now _ _ _ _ c.requires.shape c.line_of.ensures c.line_of-2.ensures in omega (arith, r.0)

pub returns-clause-begin : goal.returns-clause-begin
returns-clause-begin c = rw take_rest (begin_is c.args.frame.now _ _ c.requires c.line_of.ensures)

pub returns-clause-body : goal.returns-clause-body
returns-clause-body c = λ parts h.
    let r = rest_is_body parts c.args.frame.now _ _ _ _ h c.line_of.ensures c.line_of-2.ensures in
    grind (arith, r.1)
