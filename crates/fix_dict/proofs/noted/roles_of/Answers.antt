use Rattle.std.proofs.Common.{◌≡◌, ◌+◌, rules}
use Rattle.fix_dict.proofs.RoleLemmas.{roles_more}
use Rattle.fix_dict.proofs.NoteLemmas.{one_more}
use Rattle.fix_dict.proofs.noted.roles_of.Goals as goal

pub loop-i-preserved : goal.loop-i-preserved
loop-i-preserved c =
    let t : c.in-Some.tag ≡ c.loop-i.i + 1 = search rules in (
      roles_more c.args.layout.now c.loop-i.roles.items c.push.new.self.items c.loop-i.i c.in-Some.tag c.role_of.result c.loop-i.invariant.0 c.loop-i.invariant.1 t c.role_of.ensures c.in_ok-push.ensures.items,
      one_more c.loop-i.roles.items c.push.new.self.items c.loop-i.i c.role_of.result c.loop-i.invariant.1 c.in_ok-push.ensures.items,
    )
