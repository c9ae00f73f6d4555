use Rattle.std.proofs.Common.{rules, ◌≡◌, ◌∙◌, ap, refl, true}
use Rattle.clap.specs.Words.{is_simple, is_simple_and_free}
use Rattle.fix_args.specs.Command.{acceptor_command}
use Rattle.fix_args.specs.Acceptor.{acceptor_line, text_of}
use Rattle.fix_args.proofs.ArgsLemmas.{asks, read_by, rows_by}
use Rattle.fix_args.proofs.acceptor.acceptor_args.Goals as goal

is_one : is_simple acceptor_command ≡ true
is_one = refl

is_free : is_simple_and_free acceptor_command ≡ true
is_free = refl

pub returns-in-Ok-try_get_matches_from : goal.returns-in-Ok-try_get_matches_from
returns-in-Ok-try_get_matches_from c = asks acceptor_command acceptor_line text_of _ _
    (read_by _ _ _ c.in-Ok.ensures is_free c.in-Ok-try_get_matches_from.ensures.kinds)
    (c.line_met.ensures ∙ ap acceptor_line (rows_by _ _ _ _ c.in-Ok.ensures is_one c.in-Ok-try_get_matches_from.ensures.matches))
