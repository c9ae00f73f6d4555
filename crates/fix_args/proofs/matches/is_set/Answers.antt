use Rattle.std.proofs.Common.{rules, ◌≡◌, ◌∙◌, ap, sym, option_map}
use Rattle.clap.specs.Matches.{found_of}
use Rattle.clap.proofs.WalkLemmas.{first_value-rows}
use Rattle.fix_args.proofs.ArgsLemmas.{flag_some, flag_none}
use Rattle.fix_args.proofs.matches.is_set.Goals as goal

pub returns-in-Some : goal.returns-in-Some
returns-in-Some c = flag_some _ _ _
    (ap (option_map (λ s. s.now)) (sym c.in-Some.is) ∙ (c.get_str.ensures ∙ first_value-rows (found_of c.args.m.now) c.args.name.now))
    c.eq.ensures

pub returns-in-None : goal.returns-in-None
returns-in-None c = flag_none _
    (ap (option_map (λ s. s.now)) (sym c.in-None.is) ∙ (c.get_str.ensures ∙ first_value-rows (found_of c.args.m.now) c.args.name.now))
