use Rattle.std.proofs.Common.{arith, ap, sym, subst, rules, length, ◌+◌, ◌≡◌, ◌<◌}
use Rattle.fix_disk.specs.State.{State, Leaves, after_write}
use Rattle.fix_disk.specs.Contents.{state_of}
use Rattle.fix_disk.specs.Kept.{log_steps}
use Rattle.fix_disk.specs.Past.{Wrote}
use Rattle.fix_disk.proofs.ImageLemmas.{comes_from, torn_is_left, still_left}
use Rattle.fix_disk.proofs.PastLemmas.{in_time_push, replays_push, elapses_step}
use Rattle.fix_disk.proofs.RoomLemmas.{same_room, needed}
use Rattle.fix_disk.proofs.WriteLemmas.{written_after, risen}
use Rattle.fix_disk.proofs.memory_disk.MemoryDiskDisk.write_at.Goals as goal

pub invariant_of-self-clause-in_time : goal.invariant_of-self-clause-in_time
invariant_of-self-clause-in_time c = λ some. omega (arith, c.args.self.now.in_time some, c.fails-fails.ensures.no_fewer)

pub invariant_of-self-2-clause-in_time : goal.invariant_of-self-2-clause-in_time
invariant_of-self-2-clause-in_time c =
    let old = c.args.self.now in
    λ some.
    let was : 0 < old.log.most = omega (arith, some, c.note_write.ensures.most) in
    in_time_push (log_steps old.log) (log_steps c.note_write.new.self) c.calls.result c.fails-fails.new.self.calls (Wrote c.args.at c.args.bytes.now) (c.note_write.ensures.steps was) (omega (arith, old.in_time was, c.fails-fails.ensures.no_fewer)) (omega (arith, c.calls.ensures))

pub invariant_of-self-2-clause-replays : goal.invariant_of-self-2-clause-replays
invariant_of-self-2-clause-replays c =
    let old = c.args.self.now in
    λ some.
    let was : 0 < old.log.most = omega (arith, some, c.note_write.ensures.most) in
    replays_push (log_steps old.log) (log_steps c.note_write.new.self) c.calls.result (Wrote c.args.at c.args.bytes.now) (state_of old.contents) (state_of c.write.new.self) (c.note_write.ensures.steps was) (old.replays was) c.write.ensures.state

pub returns-clause-moves : goal.returns-clause-moves
returns-clause-moves c =
    let old = c.args.self.now in
    let s = state_of old.contents in
    let at = c.args.at in
    let bytes = c.args.bytes.now in
    let is : state_of c.write.new.self ≡ after_write at bytes s = c.write.ensures.state in
    record {
      written = written_after c.answer.result at bytes s.bytes c.write.new.self.bytes.items (omega (arith, c.requires)) (ap (λ (x : State). x.bytes) is);
      torn = λ told image left. comes_from at bytes s old.contents.marks old.contents.grows (omega (arith, c.requires)) image (subst (λ x. Leaves x image) is left);
      lost = λ told image left. subst (λ x. Leaves x image) (sym is) (still_left at bytes s old.contents.marks old.contents.grows (omega (arith, c.requires)) image left);
      time = elapses_step s (state_of c.write.new.self) (log_steps old.log) (log_steps c.note_write.new.self) (Wrote at bytes) old.log.most c.note_write.new.self.most old.failing.calls c.calls.result c.fails-fails.new.self.calls old.failing.faults c.fails-fails.new.self.faults _ _ (same_room old.failing.numbers.items c.fails-fails.new.self.numbers.items old.fuse old.log.most c.note_write.new.self.most old.contents.capacity c.write.new.self.capacity (ap (λ v. v.items) c.fails-fails.ensures.numbers) c.note_write.ensures.most c.write.ensures.capacity) c.fails-fails.ensures.calls c.calls.ensures c.note_write.ensures.most c.note_write.ensures.steps old.replays is;
      cause = risen c.answer.result c.fails-fails.result old.failing.faults c.fails-fails.new.self.faults c.answer.ensures c.fails-fails.ensures.faults;
      need = needed c.answer.result c.fails-fails.result c.has_place-has_place.result old.failing.numbers.items old.fuse old.log.most old.contents.capacity (at + length bytes) _ (search rules) c.answer.ensures c.fails-fails.ensures.fails;
    }

pub returns-clause-torn : goal.returns-clause-torn
returns-clause-torn c =
    let old = c.args.self.now in
    let s = state_of old.contents in
    let at = c.args.at in
    let bytes = c.args.bytes.now in
    let is : state_of c.write.new.self ≡ after_write at bytes s = c.write.ensures.state in
    λ place image. (
      λ left. comes_from at bytes s old.contents.marks old.contents.grows (omega (arith, c.requires)) image (subst (λ x. Leaves x image) is left),
      λ from. subst (λ x. Leaves x image) (sym is) (torn_is_left at bytes s old.contents.marks old.contents.grows (omega (arith, c.requires)) from.0 image from.1 from.2),
    )
