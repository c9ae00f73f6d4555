use Rattle.fix_outside.proofs.CallLemmas.{Called-append}
use Rattle.fix_stage.specs.Combine.{first_ends, both, goes_well, fails}
use Rattle.fix_session.proofs.BeginLemmas.{time_sound}
use Rattle.fix_session.proofs.sending.post_logout.Goals as goal

pub returns-in-Ok-clause-calls : goal.returns-in-Ok-clause-calls
returns-in-Ok-clause-calls g c =
    let h = c.in-Ok.ensures.calls in
    let k = c.put_logout.ensures.calls in
    (_, Called-append _ _ _ _ _ h.1 k.1, both (goes_well h.2) k.2)

pub returns-in-Err-clause-calls : goal.returns-in-Err-clause-calls
returns-in-Err-clause-calls g c =
    let h = c.in-Err.ensures.calls in
    (h.0, h.1, first_ends (fails h.2))

pub put_logout-requires : goal.put_logout-requires
put_logout-requires g c = record { sound = time_sound _ _ (g.O.Outside.seen c.take_time.new.o) _ _ _ _ c.in-Ok.ensures.calls.2 c.in-Ok.ensures.opens c.in-Ok.ensures.range c.requires.sound }

pub returns-in-Err-clause-sound : goal.returns-in-Err-clause-sound
returns-in-Err-clause-sound g c = time_sound _ _ (g.O.Outside.seen c.take_time.new.o) _ _ _ _ c.in-Err.ensures.calls.2 c.in-Err.ensures.opens c.in-Err.ensures.range c.requires.sound
