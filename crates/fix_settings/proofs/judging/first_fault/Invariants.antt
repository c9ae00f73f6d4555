use Rattle.std.proofs.Common.{◌≡◌, drop}
use Rattle.fix_settings.specs.Lent.{pairs_read, pair_at}
use Rattle.fix_settings.specs.Reading.{first_some, key_refusal}
use Rattle.fix_settings.proofs.judging.first_fault.Given as goal

abbrev pub invariant-loop-key : goal.invariant-loop-key
invariant-loop-key l = first_some (λ k. key_refusal l.line (pair_at (pairs_read l.pairs)) k (pair_at (pairs_read l.pairs) k)) (drop l.key-index l.keys) ≡ first_some (λ k. key_refusal l.line (pair_at (pairs_read l.pairs)) k (pair_at (pairs_read l.pairs) k)) l.keys
