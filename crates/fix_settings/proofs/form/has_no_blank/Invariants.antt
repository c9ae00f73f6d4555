use Rattle.std.proofs.Common.{◌≡◌, drop, not}
use Rattle.std.specs.List.{list_all}
use Rattle.fix_settings.specs.Lines.{is_blank}
use Rattle.fix_settings.proofs.form.has_no_blank.Given as goal

abbrev pub invariant-loop-b : goal.invariant-loop-b
invariant-loop-b l = list_all (λ b. not (is_blank b)) l.text ≡ list_all (λ b. not (is_blank b)) (drop l.b-index l.text)
