use Rattle.std.proofs.Common.{arith, sym, ◌<◌, length}
use Rattle.std.proofs.lemmas.Grind.{common_steps}
use Rattle.fix_groups.proofs.Building.{take_plain, take_group, take_item, piece_right, run_falls, run_needs, left_shorter, items_shorter}
use Rattle.fix_groups.proofs.build.+build.Goals as goal

pub build-loop-left-preserved-in-None : goal.build-loop-left-preserved-in-None
build-loop-left-preserved-in-None t c =
    take_plain _ _ _ _ _ _ _ _ _ (grind (arith, common_steps)) c.index-left-0.is c.after-behind.ensures c.tag-tag.ensures (sym c.in-None.ensures) c.in_ok-value-in-None.ensures c.in_ok-push-in-None.ensures.items c.loop-left.invariant

pub build-build_items-requires : goal.build-build_items-requires
build-build_items-requires t c =
    let some : 0 < length c.loop-left.left.now = grind (arith, common_steps) in
    let p = run_needs _ _ _ _ _ _ _ _ _ _ c.requires.apart some c.index-left-0.is c.after-behind.ensures c.tag-tag.ensures (sym c.in-Some.ensures) c.run_length-n.ensures.run c.front-run.ensures c.loop-left.invariant in
    let f = run_falls c.args.root.now c.args.fields.now c.loop-left.nodes.items _ _ _ _ some c.after-behind.ensures c.front-run.ensures (left_shorter _ _ _ _ c.loop-left.invariant) in
    (grind (arith, f, c.decreases), (c.requires.apart, (sym c.in-Some.ensures, (p.0, (p.1, p.2)))))

pub build-loop-left-preserved : goal.build-loop-left-preserved
build-loop-left-preserved t c =
    take_group _ _ _ _ _ _ _ _ _ _ _ _ _ (grind (arith, common_steps)) c.index-left-0.is c.after-behind.ensures c.tag-tag.ensures (sym c.in-Some.ensures) c.run_length-n.ensures.run c.front-run.ensures c.in_ok-items-in-Some.ensures.items c.in_ok-items-in-Some.ensures.count c.in_ok-push-in-Some.ensures.items c.after-left.ensures c.loop-left.invariant

pub build_items-build-requires : goal.build_items-build-requires
build_items-build-requires t c =
    let some : 0 < length c.loop-left.left.now = grind (arith, common_steps) in
    (grind (arith, common_steps, items_shorter _ _ _ _ _ c.loop-left.invariant, c.front-piece.ensures, c.piece_length-n.ensures.within, c.decreases), (c.requires.apart, piece_right _ _ _ _ _ _ _ _ c.requires.apart c.requires.group c.front-piece.ensures c.piece_length-n.ensures.rest c.loop-left.invariant))

pub build_items-loop-left-preserved : goal.build_items-loop-left-preserved
build_items-loop-left-preserved t c =
    take_item _ _ _ _ _ _ _ _ _ _ c.piece_length-n.ensures.piece c.piece_length-n.ensures.rest c.front-piece.ensures c.in_ok-tree.ensures c.in_ok-push.ensures.items c.after-left.ensures c.loop-left.invariant
