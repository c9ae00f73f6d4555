use Rattle.std.proofs.Common.{◌≡◌, ◌+◌, length, ◌∙◌, subst, arith, rules}
use Rattle.fix_journal.specs.Index.{Adds}
use Rattle.fix_journal.proofs.SoundLemmas.{calm, failed_sound, place, at_gate}
use Rattle.fix_journal.proofs.RoomLemmas.{needs_record}
use Rattle.fix_journal.proofs.IndexLemmas.{adds_after}
use Rattle.fix_journal.proofs.CallLemmas.{when_ok, append_failed, appended, sound_after, stays}
use Rattle.fix_journal.proofs.journal.Journal.append.Goals as goal

pub append_at-requires-clause-place : goal.append_at-requires-clause-place
append_at-requires-clause-place g c =
    let s = c.self.inside in
    place (g.D.Disk.disk s.disk) s.index (calm (g.D.Disk.disk s.disk) s.index s.stopped c.if-self.false c.self.invariant)

pub invariant_of-self-in-Ok : goal.invariant_of-self-in-Ok
invariant_of-self-in-Ok g c =
    let s = c.self.inside in
    let disk = g.D.Disk.disk in
    let bytes = c.deref.result.now in
    let size : c.len.result ≡ length bytes = search rules in
    let adds : Adds (s.index.closed + length bytes) s.index c.add.new.self = adds_after s.index c.stage.new.index c.add.new.self (s.index.closed + length bytes) c.stage.ensures.same (subst (λ n. Adds (s.index.closed + n) c.stage.new.index c.add.new.self) size c.add.ensures) in
    sound_after (disk s.disk) (disk c.append_at.new.disk) s.index (calm (disk s.disk) s.index s.stopped c.if-self.false c.self.invariant) c.args.payload.now bytes (c.requires, omega (arith, c.if-payload-gt-MOST_PAYLOAD.false)) (c.deref.ensures.value ∙ when_ok c.stage.result c.if-is_err.ensures.value c.stage.ensures.staged) c.in-Ok.field-0 c.in-Ok.ensures.appends c.add.new.self s.stopped c.if-self.false adds

pub invariant_of-self-in-Err : goal.invariant_of-self-in-Err
invariant_of-self-in-Err g c = failed_sound (g.D.Disk.disk c.self.inside.disk) (g.D.Disk.disk c.append_at.new.disk) c.self.inside.index c.stage.new.index c.self.inside.stopped c.stage.ensures.same c.self.invariant

pub returns-in-Ok-clause-moves : goal.returns-in-Ok-clause-moves
returns-in-Ok-clause-moves g c = λ still.
    let s = c.self.inside in
    let disk = g.D.Disk.disk in
    rw (← c.self.view_is)
    (appended (disk s.disk) (disk c.append_at.new.disk) s.index (calm (disk s.disk) s.index s.stopped c.if-self.false c.self.invariant) c.args.payload.now c.deref.result.now (c.requires, omega (arith, c.if-payload-gt-MOST_PAYLOAD.false)) (c.deref.ensures.value ∙ when_ok c.stage.result c.if-is_err.ensures.value c.stage.ensures.staged) c.in-Ok.field-0 c.in-Ok.ensures.appends s.index.count)

pub returns-in-Err-clause-moves : goal.returns-in-Err-clause-moves
returns-in-Err-clause-moves g c = λ still.
    let s = c.self.inside in
    let disk = g.D.Disk.disk in
    rw (← c.self.view_is)
    (append_failed (disk s.disk) (disk c.append_at.new.disk) s.index (calm (disk s.disk) s.index s.stopped c.if-self.false c.self.invariant) c.args.payload.now c.deref.result.now (c.requires, omega (arith, c.if-payload-gt-MOST_PAYLOAD.false)) (c.deref.ensures.value ∙ when_ok c.stage.result c.if-is_err.ensures.value c.stage.ensures.staged) c.in-Err.field-0 c.in-Err.ensures.appends)

pub returns-in-Err-clause-need : goal.returns-in-Err-clause-need
returns-in-Err-clause-need g c = λ payloads holds.
    let s = c.self.inside in
    let disk = g.D.Disk.disk in
    let rests = at_gate (disk s.disk) s.index (calm (disk s.disk) s.index s.stopped c.if-self.false c.self.invariant) payloads (rw (← c.self.view_is) at holds) in
    rw (← c.self.view_is)
    (needs_record 1 s.index.closed payloads c.args.payload.now c.deref.result.now (disk s.disk) (disk c.append_at.new.disk) rests.at (c.deref.ensures.value ∙ when_ok c.stage.result c.if-is_err.ensures.value c.stage.ensures.staged) c.in-Err.ensures.room)

pub returns-in-Ok-clause-cursors : goal.returns-in-Ok-clause-cursors
returns-in-Ok-clause-cursors g c =
    let s = c.self.inside in
    let disk = g.D.Disk.disk in
    rw (← c.self.view_is)
    (λ cursor few stands still. stays (disk s.disk) (disk c.append_at.new.disk) s.index (calm (disk s.disk) s.index s.stopped c.if-self.false c.self.invariant) c.args.payload.now c.deref.result.now (c.requires, omega (arith, c.if-payload-gt-MOST_PAYLOAD.false)) (c.deref.ensures.value ∙ when_ok c.stage.result c.if-is_err.ensures.value c.stage.ensures.staged) c.in-Ok.field-0 c.in-Ok.ensures.appends cursor.index cursor.place few (stands c.if-self.false))
