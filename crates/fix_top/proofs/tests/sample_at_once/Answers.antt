use Rattle.std.proofs.Common.{◌≡◌, ℕ, List, [], ◌∷◌, ◌++◌, ap, ◌∙◌}
use Rattle.std.proofs.lemmas.List.{append-nil}
use Rattle.fix_base.specs.Says.{joined}
use Rattle.fix_top.specs.Sample.{SAMPLE, LOGON, ORDER, LOGOUT}
use Rattle.fix_top.proofs.tests.sample_at_once.Goals as goal

-- one piece that is all of it
one_piece : (items old : List (List ℕ)) (piece : List ℕ) → items ≡ old ++ piece ∷ [] → old ≡ [] → piece ≡ SAMPLE → joined items ≡ SAMPLE
one_piece items old piece is none whole = ap joined (is ∙ ap (λ (o : List (List ℕ)). o ++ piece ∷ []) none) ∙ append-nil piece ∙ whole

pub returns : goal.returns
unfolding LOGON ORDER LOGOUT
returns c = one_piece _ _ _ c.in_ok-push.ensures.items c.new-pieces.ensures.items c.in_ok-copy.ensures
