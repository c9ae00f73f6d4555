use Rattle.std.proofs.Common.{◌≡◌, drop, is_some}
use Rattle.std.specs.List.{list_all}
use Rattle.fix_settings.specs.Lent.{pairs_read, pair_at}
use Rattle.fix_settings.proofs.judging.have_values.Given as goal

abbrev pub invariant-loop-key : goal.invariant-loop-key
invariant-loop-key l = list_all (λ k. is_some (pair_at (pairs_read l.pairs) k)) (drop l.key-index l.keys) ≡ list_all (λ k. is_some (pair_at (pairs_read l.pairs) k)) l.keys
