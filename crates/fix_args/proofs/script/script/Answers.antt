use Rattle.std.proofs.Common.{rules, ◌≡◌, ◌∙◌, ap₂, codes}
use Rattle.std.proofs.lemmas.Result.{IfOk-weaker}
use Rattle.clap.specs.Words.{App, app_of, with_rule}
use Rattle.fix_args.specs.Command.{bare, flag}
use Rattle.fix_args.proofs.ArgsLemmas.{bare_is}
use Rattle.fix_args.proofs.script.script.Goals as goal

abbrev one : App
one = with_rule (bare (codes "fixscript")) (flag (codes "make"))

pub returns : goal.returns
returns c =
    let top = bare_is _ _ _ _ c.new.ensures.app c.no_binary_name.ensures c.disable_help_flag.ensures in
    let is_one : app_of c.in_ok-arg.field-0 ≡ one = c.in_ok-arg.ensures.shape c.flag.ensures.global ∙ ap₂ with_rule top c.flag.ensures.rule in
    IfOk-weaker c.arg-2.result _ _ (λ r h. h.shape c.names.ensures.global ∙ ap₂ with_rule is_one c.names.ensures.rule) c.arg-2.ensures
