use Rattle.std.proofs.Common.{◌≡◌, drop, bytes_eq}
use Rattle.std.specs.List.{list_any}
use Rattle.fix_settings.specs.Table.{name_of}
use Rattle.fix_settings.proofs.ignoring.is_name_of.Given as goal

abbrev pub invariant-loop-key : goal.invariant-loop-key
invariant-loop-key l = list_any (λ k. bytes_eq (name_of k) l.name) (drop l.key-index l.keys) ≡ list_any (λ k. bytes_eq (name_of k) l.name) l.keys
