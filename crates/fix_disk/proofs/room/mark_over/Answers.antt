use Rattle.std.proofs.Common.{ap, ◌∙◌, ◌++◌, ◌-◌, true, replicate, arith}
use Rattle.fix_disk.specs.Disk.{overwritten}
use Rattle.fix_disk.proofs.Overwritten.{overwritten_by_parts}
use Rattle.fix_disk.proofs.room.mark_over.Goals as goal

pub returns-clause-items : goal.returns-clause-items
returns-clause-items c =
    let inside = c.min-inside.result in
    let rest = c.args.count - inside in
    let old = c.args.marks.now.items in
    c.fill_up.ensures.items
    ∙ ap (λ l. l ++ replicate rest true) c.mark_part.ensures.items
    ∙ overwritten_by_parts c.args.at inside rest true old (omega (arith, c.requires.within, c.args.marks.now.ok.0)) (omega (arith, c.min-inside.ensures, c.len.ensures, c.args.marks.now.ok.0))
    ∙ ap (λ n. overwritten c.args.at (replicate n true) old) (omega (arith, c.min-inside.ensures))
