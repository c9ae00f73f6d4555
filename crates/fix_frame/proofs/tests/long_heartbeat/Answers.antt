use Rattle.std.proofs.Common.{[], replicate, subst, sym, ◌∙◌, lit<}
use Rattle.std.specs.Prelude.{codes}
use Rattle.fix_frame.specs.Sealable.{IsSealable}
use Rattle.fix_frame.proofs.Samples.{zero_no_soh, text_no_soh, sealable_text}
use Rattle.fix_frame.proofs.tests.long_heartbeat.Goals as goal

pub seal-requires : goal.seal-requires
seal-requires c =
    subst (λ rest. IsSealable (codes "0") [] rest) (sym (c.deref.ensures.value ∙ c.in-Ok.ensures)) (sealable_text (codes "0") (replicate c.args.count 120) (lit< tt) zero_no_soh (text_no_soh c.args.count))
