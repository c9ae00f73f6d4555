use Rattle.std.proofs.Common.{◌≡◌, ◌++◌, drop}
use Rattle.std.specs.Prelude.{flat_map}
use Rattle.fix_settings.specs.Printing.{session_text}
use Rattle.fix_settings.proofs.printing.put_sessions.Given as goal

abbrev pub invariant-loop-settings : goal.invariant-loop-settings
invariant-loop-settings l = l.out.items ++ flat_map session_text (drop l.settings-index l.sessions) ≡ l.initial.out.items ++ flat_map session_text l.sessions
