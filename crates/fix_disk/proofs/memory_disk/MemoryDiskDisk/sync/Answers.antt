use Rattle.std.proofs.Common.{arith, ap, sym, subst, ◌≡◌, ◌<◌, Some}
use Rattle.fix_disk.specs.State.{State, Leaves, after_sync}
use Rattle.fix_disk.specs.Contents.{state_of}
use Rattle.fix_disk.specs.Kept.{log_steps}
use Rattle.fix_disk.specs.Past.{Synced}
use Rattle.fix_disk.specs.MemoryDisk.{lawful}
use Rattle.fix_disk.proofs.ImageLemmas.{only_bytes}
use Rattle.fix_disk.proofs.PastLemmas.{in_time_push, replays_push, elapses_step}
use Rattle.fix_disk.proofs.RoomLemmas.{same_room}
use Rattle.fix_disk.proofs.WriteLemmas.{unraised}
use Rattle.fix_disk.proofs.memory_disk.MemoryDiskDisk.sync.Goals as goal

pub invariant_of-self-clause-in_time : goal.invariant_of-self-clause-in_time
invariant_of-self-clause-in_time c = λ some. omega (arith, c.args.self.now.in_time some, c.fails.ensures.no_fewer)

pub invariant_of-self-2-clause-in_time : goal.invariant_of-self-2-clause-in_time
invariant_of-self-2-clause-in_time c =
    let old = c.args.self.now in
    λ some.
    let was : 0 < old.log.most = omega (arith, some, c.note_sync.ensures.most) in
    in_time_push (log_steps old.log) (log_steps c.note_sync.new.self) c.calls.result c.fails.new.self.calls Synced (c.note_sync.ensures.steps was) (omega (arith, old.in_time was, c.fails.ensures.no_fewer)) (omega (arith, c.calls.ensures))

pub invariant_of-self-2-clause-replays : goal.invariant_of-self-2-clause-replays
invariant_of-self-2-clause-replays c =
    let old = c.args.self.now in
    λ some.
    let was : 0 < old.log.most = omega (arith, some, c.note_sync.ensures.most) in
    replays_push (log_steps old.log) (log_steps c.note_sync.new.self) c.calls.result Synced (state_of old.contents) (state_of c.sync.new.self) (c.note_sync.ensures.steps was) (old.replays was) c.sync.ensures.state

pub returns-clause-moves : goal.returns-clause-moves
returns-clause-moves c =
    let old = c.args.self.now in
    let s = state_of old.contents in
    let is : state_of c.sync.new.self ≡ after_sync s = c.sync.ensures.state in
    record {
      bytes = ap (λ (x : State). Some x.bytes) is;
      durable = λ told image left. only_bytes s image (subst (λ x. Leaves x image) is left);
      no_more = λ told image left. subst (Leaves s) (sym (only_bytes s image (subst (λ x. Leaves x image) is left))) ((lawful old).as_read tt);
      time = elapses_step s (state_of c.sync.new.self) (log_steps old.log) (log_steps c.note_sync.new.self) Synced old.log.most c.note_sync.new.self.most old.failing.calls c.calls.result c.fails.new.self.calls old.failing.faults c.fails.new.self.faults _ _ (same_room old.failing.numbers.items c.fails.new.self.numbers.items old.fuse old.log.most c.note_sync.new.self.most old.contents.capacity c.sync.new.self.capacity (ap (λ v. v.items) c.fails.ensures.numbers) c.note_sync.ensures.most c.sync.ensures.capacity) c.fails.ensures.calls c.calls.ensures c.note_sync.ensures.most c.note_sync.ensures.steps old.replays is;
      cause = unraised c.fails.result old.failing.faults c.fails.new.self.faults c.if-fails.false c.fails.ensures.faults;
      need = tt;
    }
