use Rattle.std.proofs.Common.{refl, sym, ap, ◌∙◌}
use Rattle.fix_base.specs.Says.{is_yes}
use Rattle.fix_outside.proofs.CallLemmas.{Called-nil}
use Rattle.fix_fields.specs.Header.{Header}
use Rattle.fix_machine.specs.Answer.{number_or_0}
use Rattle.fix_steps.specs.Steps.{taken, hand_lost, hand_memory, body_memory}
use Rattle.fix_steps.proofs.FrameLemmas.{fields_in, frame_has, body_kind}
use Rattle.fix_steps.proofs.handing.hand.Goals as goal

pub returns-in_default-clause-calls : goal.returns-in_default-clause-calls
returns-in_default-clause-calls g c = (_, Called-nil _, body_memory)

pub hand-requires : goal.hand-requires
hand-requires g c =
    let fields = fields_in c.requires.is.is in
    let has = frame_has c.requires.is.is in
    rw (c.as_slice.ensures, c.in-Ok.ensures fields has)
    (body_kind _ _ fields has (sym (ap (λ (h : Header). h.type) (c.requires.is.header fields has))))

pub returns-in-Taken-clause-calls : goal.returns-in-Taken-clause-calls
returns-in-Taken-clause-calls g c =
    let fields = fields_in c.requires.is.is in
    let has = frame_has c.requires.is.is in
    let head = c.requires.is.header fields has in
    let number = c.number_of.ensures ∙ ap (λ (h : Header). number_or_0 h.number) head in
    let mark = c.is_marked.ensures ∙ ap (λ (h : Header). is_yes h.poss_dup) head in (
      _,
      rw (number, mark, c.as_slice.ensures, c.in-Ok.ensures fields has) at c.in-Taken.ensures.called,
      taken _ _ refl has,
    )

pub returns-in-Failed-clause-calls : goal.returns-in-Failed-clause-calls
returns-in-Failed-clause-calls g c =
    let fields = fields_in c.requires.is.is in
    let has = frame_has c.requires.is.is in
    let head = c.requires.is.header fields has in
    let number = c.number_of.ensures ∙ ap (λ (h : Header). number_or_0 h.number) head in
    let mark = c.is_marked.ensures ∙ ap (λ (h : Header). is_yes h.poss_dup) head in (
      _,
      rw (number, mark, c.as_slice.ensures, c.in-Ok.ensures fields has) at c.in-Failed.ensures.called,
      hand_lost _ _ refl has,
    )

pub returns-clause-calls : goal.returns-clause-calls
returns-clause-calls g c =
    let fields = fields_in c.requires.is.is in
    let has = frame_has c.requires.is.is in
    let head = c.requires.is.header fields has in
    let number = c.number_of.ensures ∙ ap (λ (h : Header). number_or_0 h.number) head in
    let mark = c.is_marked.ensures ∙ ap (λ (h : Header). is_yes h.poss_dup) head in (
      _,
      rw (number, mark, c.as_slice.ensures, c.in-Ok.ensures fields has) at c.in-OutOfMemory.ensures.called,
      hand_memory _ _ refl has,
    )
