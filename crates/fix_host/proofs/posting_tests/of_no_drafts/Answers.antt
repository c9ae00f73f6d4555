use Rattle.std.proofs.Common.{rules, ◌≡◌, [], ◌∷◌, sym, subst}
use Rattle.fix_host.specs.DraftFile.{AreDraftsOf}
use Rattle.fix_host.specs.DraftFile as drafts
use Rattle.fix_host.proofs.posting_tests.of_no_drafts.Goals as goal

pub send_file-end-requires-clause-drafts : goal.send_file-end-requires-clause-drafts
send_file-end-requires-clause-drafts g c =
    let is : c.in_ok-file.file ≡ 10 ∷ [] = search rules in
    ([], c.new-2.ensures.items, subst (λ t. AreDraftsOf t []) (sym is) (drafts.empty_line [] [] drafts.at_end))
