use Rattle.std.proofs.Common.{◌≡◌, ◌++◌, drop}
use Rattle.std.specs.Prelude.{flat_map}
use Rattle.fix_settings.specs.Table.{setting_of}
use Rattle.fix_settings.specs.Printing.{setting_line}
use Rattle.fix_settings.proofs.printing.put_settings.Given as goal

abbrev pub invariant-loop-key : goal.invariant-loop-key
invariant-loop-key l = l.out.items ++ flat_map (λ k. setting_line k (setting_of l.settings k)) (drop l.key-index l.keys) ≡ l.initial.out.items ++ flat_map (λ k. setting_line k (setting_of l.settings k)) l.keys
