use Rattle.std.proofs.Common.{None, sym, subst}
use Rattle.std.specs.List.{AllByRecursion}
use Rattle.fix_steps.specs.Steps.{IsCarried}
use Rattle.fix_session.proofs.SoundLemmas.{decides_other}
use Rattle.fix_session.proofs.answering.answer.Goals as goal

pub stand-requires-clause-sound : goal.stand-requires-clause-sound
stand-requires-clause-sound g c =
    let e = c.decide-decision.ensures.is in
    rw (c.decide-decision.ensures.next e.0 e.1) (decides_other _ _ _ _ e.0 c.requires.sound (c.requires.other e.0 e.1)).sound

pub stand-requires-clause-carried : goal.stand-requires-clause-carried
stand-requires-clause-carried g c =
    let e = c.decide-decision.ensures.is in
    subst (λ steps. AllByRecursion (IsCarried None) steps) (sym (c.decide-decision.ensures.steps e.0 e.1))
    (decides_other _ _ _ _ e.0 c.requires.sound (c.requires.other e.0 e.1)).carried

pub returns-clause-calls : goal.returns-clause-calls
returns-clause-calls g c =
    let h = c.stand.ensures.calls in
    (h.0, h.1, λ e is. rw (c.decide-decision.ensures.steps e is, c.decide-decision.ensures.next e is) at h.2)
