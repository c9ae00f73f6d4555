use Rattle.std.proofs.Common.{◌≡◌, ◌++◌, ◌∷◌, [], drop}
use Rattle.std.specs.Prelude.{flat_map}
use Rattle.fix_settings.proofs.printing.put_more_types.Given as goal

abbrev pub invariant-loop-kind : goal.invariant-loop-kind
invariant-loop-kind l = l.out.items ++ flat_map (λ t. 44 ∷ [] ++ t) (drop l.kind-index l.types) ≡ l.initial.out.items ++ flat_map (λ t. 44 ∷ [] ++ t) l.types
