use Rattle.std.proofs.Common.{◌∙◌, sym, subst, List, take, map}
use Rattle.fix_base.specs.Fields.{Field}
use Rattle.fix_fields.specs.Drafted.{given}
use Rattle.fix_fields.proofs.DraftLemmas.{HasJudged, judged_more, refused_here, given_around, given_more}
use Rattle.fix_fields.proofs.judging.first_refused.Goals as goal

pub returns-in-Some : goal.returns-in-Some
returns-in-Some c = refused_here _ _ _ _ _ _ _ c.loop-item.invariant (given_around c.args.fields.now c.loop-item.item-index c.item-item.result c.as_slice.result.now c.loop-item-test.true c.item-item.is c.as_slice.ensures) (sym c.refused.ensures ∙ c.in-Some.is)

pub loop-item-preserved : goal.loop-item-preserved
loop-item-preserved c =
    subst (λ (fs : List Field). HasJudged fs c.due_after-due.result c.is_late-late.result) (sym (given_more c.args.fields.now c.loop-item.item-index c.item-item.result c.as_slice.result.now c.loop-item-test.true c.item-item.is c.as_slice.ensures))
    (judged_more (map given (take c.loop-item.item-index c.args.fields.now)) _ _ _ _ _ c.loop-item.invariant (sym c.refused.ensures ∙ c.in_default.is) c.due_after-due.ensures c.is_late-late.ensures)
