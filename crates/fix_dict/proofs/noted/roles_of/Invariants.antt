use Rattle.std.proofs.Common.{◌≡◌, length}
use Rattle.fix_dict.specs.Roles.{AreRoles}
use Rattle.fix_dict.proofs.noted.roles_of.Given as goal

abbrev pub invariant-loop-i : goal.invariant-loop-i
invariant-loop-i l = AreRoles l.layout l.roles.items × (length l.roles.items ≡ l.i)
