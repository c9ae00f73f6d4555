use Rattle.std.proofs.Common.{rules, ◌≡◌, ◌∙◌, ap₂, codes}
use Rattle.std.proofs.lemmas.Result.{IfOk-weaker}
use Rattle.clap.specs.Words.{App, app_of, with_rule}
use Rattle.fix_args.specs.Command.{bare, flag}
use Rattle.fix_args.proofs.ArgsLemmas.{bare_is}
use Rattle.fix_args.proofs.initiator.initiator.Goals as goal

abbrev one : App
one = with_rule (bare (codes "fixinitiator")) (flag (codes "send"))

abbrev two : App
two = with_rule one (flag (codes "check"))

pub returns : goal.returns
returns c =
    let top = bare_is _ _ _ _ c.new.ensures.app c.no_binary_name.ensures c.disable_help_flag.ensures in
    let is_one : app_of c.in_ok-arg.field-0 ≡ one = c.in_ok-arg.ensures.shape c.flag.ensures.global ∙ ap₂ with_rule top c.flag.ensures.rule in
    let is_two : app_of c.in_ok-arg-2.field-0 ≡ two = c.in_ok-arg-2.ensures.shape c.flag-2.ensures.global ∙ ap₂ with_rule is_one c.flag-2.ensures.rule in
    IfOk-weaker c.arg-3.result _ _ (λ r h. h.shape c.names.ensures.global ∙ ap₂ with_rule is_two c.names.ensures.rule) c.arg-3.ensures
