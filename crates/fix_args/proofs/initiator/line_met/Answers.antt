use Rattle.std.proofs.Common.{rules, ◌≡◌, ◌∙◌, refl, subst, option_map}
use Rattle.std.proofs.lemmas.Result.{IfOk-weaker}
use Rattle.clap.specs.Matches.{found_of}
use Rattle.clap.specs.Words.{rows_of}
use Rattle.clap.proofs.WalkLemmas.{raw_values-rows}
use Rattle.fix_args.proofs.ArgsLemmas.{names_eq}
use Rattle.fix_args.proofs.initiator.line_met.Goals as goal

pub returns : goal.returns
returns c =
    let names = names_eq c.get_strs.result _ c.unwrap_or.result _ (c.get_strs.ensures ∙ raw_values-rows (found_of c.args.m.now) _) refl c.unwrap_or.ensures in
    IfOk-weaker c.line.result _ _ (λ found is. is ∙ (rw (c.is_set.ensures, c.is_set-2.ensures, names) refl)) c.line.ensures
