use Rattle.std.proofs.Common.{◌≡◌, length, drop, take, subst, arith, rules}
use Rattle.std.specs.Prelude.{IfSome}
use Rattle.std.proofs.lemmas.List.{length-take}
use Rattle.fix_journal.specs.Opening.{IsKind}
use Rattle.fix_journal.proofs.ScanLemmas.{filled_up_to}
use Rattle.fix_journal.proofs.SoundLemmas.{told_case}
use Rattle.fix_journal.proofs.surveying.kind_of.Goals as goal

pub returns-in-Ok-clause-kind : goal.returns-in-Ok-clause-kind
returns-in-Ok-clause-kind g c =
    let disk = g.D.Disk.disk c.args.disk.now in
    told_case disk.bytes (IsKind _) (λ file is.
    let long : length file ≡ c.args.end = subst (λ o. IfSome o (λ f. length f ≡ c.args.end)) is c.requires in
    let read : c.read_at.new.room ≡ take (length c.read_at.new.room) (drop 0 file) = subst (λ o. IfSome o (λ f. c.read_at.new.room ≡ take (length c.read_at.new.room) (drop 0 f))) is c.in-Ok.ensures.moves.read in
    c.kind_by.ensures.kind file long
    (filled_up_to 9 c.read_at.new.room _ file c.min-count.result (search rules) (omega (arith, c.min-count.ensures, long, length-take 9 file)) read))
