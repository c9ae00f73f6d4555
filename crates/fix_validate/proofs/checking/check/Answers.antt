use Rattle.std.proofs.Common.{◌≡◌, ◌∙◌, List, Option, subst}
use Rattle.fix_base.specs.Fields.{Field}
use Rattle.fix_base.specs.declared.fault.Fault.{Fault}
use Rattle.fix_validate.specs.Rows.{Finds}
use Rattle.fix_validate.specs.Checks.{rows, Checks}
use Rattle.fix_validate.proofs.FrameLemmas.{frame_fields, if_ok}
use Rattle.fix_validate.proofs.checking.check.Goals as goal

pub returns : goal.returns
returns c =
    let w = frame_fields c.args.frame.now c.requires in
    let e : c.deref.result.now ≡ w.0 = c.deref.ensures.value ∙ c.in_ok-fields.ensures w.0 w.1.spelled in
    if_ok c.fault_of.result _ (Checks c.args.dict.now c.args.order c.args.frame.now)
    (λ (a : Option Fault) h. record { fields = w.0; all = w.1; first = subst (λ (fs : List Field). Finds (rows c.args.dict.now c.args.order fs) a) e h })
    c.fault_of.ensures
