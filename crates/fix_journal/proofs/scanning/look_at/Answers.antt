use Rattle.std.proofs.Common.{◌≡◌, length, drop, take, subst, ◌∙◌, arith, length-drop}
use Rattle.std.specs.Prelude.{IfSome}
use Rattle.fix_journal.specs.Opening.{Judges}
use Rattle.fix_journal.proofs.WindowLemmas.{shown_is}
use Rattle.fix_journal.proofs.SoundLemmas.{told_case}
use Rattle.fix_journal.proofs.scanning.look_at.Goals as goal

pub returns-in-Ok-clause-judges : goal.returns-in-Ok-clause-judges
returns-in-Ok-clause-judges g c =
    let disk = g.D.Disk.disk c.args.disk.now in
    let w = c.reach.new.window in
    told_case disk.bytes (λ file. Judges _ (drop c.args.gate file)) (λ file is.
    let long : length file ≡ c.args.end = subst (λ o. IfSome o (λ f. length f ≡ c.args.end)) is c.requires.told in
    let held : w.held.items ≡ take (length w.held.items) (drop w.from file) = subst (λ o. IfSome o (λ f. w.held.items ≡ take (length w.held.items) (drop w.from f))) (c.in-Ok.ensures.untouched.bytes ∙ is) c.in-Ok.ensures.shows.is in
    c.judge.ensures.judges (drop c.args.gate file) (omega (arith, long, length-drop c.args.gate file))
    (c.shown.ensures ∙ shown_is file w.held.items w.from c.args.gate c.min-count.result c.args.end held long c.in-Ok.ensures.from c.in-Ok.ensures.reaches c.min-count.ensures))
