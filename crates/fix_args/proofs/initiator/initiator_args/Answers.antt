use Rattle.std.proofs.Common.{rules, ◌≡◌, ◌∙◌, ap, refl, true}
use Rattle.std.proofs.lemmas.Result.{IfOk-weaker}
use Rattle.clap.specs.Words.{is_simple, is_simple_and_free}
use Rattle.fix_args.specs.Command.{initiator_command}
use Rattle.fix_args.specs.Initiator.{initiator_line, text_of}
use Rattle.fix_args.proofs.ArgsLemmas.{asks, read_by, rows_by}
use Rattle.fix_args.proofs.initiator.initiator_args.Goals as goal

is_one : is_simple initiator_command ≡ true
is_one = refl

is_free : is_simple_and_free initiator_command ≡ true
is_free = refl

pub returns-in-Ok-try_get_matches_from : goal.returns-in-Ok-try_get_matches_from
returns-in-Ok-try_get_matches_from c = IfOk-weaker c.line_met.result _ _
    (λ found is. asks initiator_command initiator_line text_of _ found
    (read_by _ _ _ c.in-Ok.ensures is_free c.in-Ok-try_get_matches_from.ensures.kinds)
    (is ∙ ap initiator_line (rows_by _ _ _ _ c.in-Ok.ensures is_one c.in-Ok-try_get_matches_from.ensures.matches)))
    c.line_met.ensures
