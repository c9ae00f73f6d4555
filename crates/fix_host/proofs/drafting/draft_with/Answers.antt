use Rattle.std.proofs.Common.{List, ◌∷◌, sym, ap, subst, ◌∙◌, refl}
use Rattle.fix_base.specs.Fields.{Field, FieldsAfter}
use Rattle.std.specs.Prelude.{None}
use Rattle.fix_base.specs.Payload.{field}
use Rattle.fix_base.specs.Says.{fields_text}
use Rattle.fix_fields.specs.Faulty.{FieldListSeen, AreLeft}
use Rattle.fix_host.proofs.DraftingLemmas.{no_draft, other_tag, refused_body, made_body}
use Rattle.fix_host.proofs.drafting.draft_with.Goals as goal

-- src/drafting.rt:19:9
pub returns-in_default : goal.returns-in_default
returns-in_default c = no_draft _ (λ kind fs are may. let wrong = c.in_default.ensures.exactly.1 (record { list = field 35 kind ∷ fs; are = are }) in cc)

-- src/drafting.rt:25:9
pub returns-then-get-ne-MSG_TYPE : goal.returns-then-get-ne-MSG_TYPE
returns-then-get-ne-MSG_TYPE c =
    other_tag c.args.body.now (field c.in-Some.first.tag c.in-Some.first.value.now)
    (λ fs are. let l = c.in-Some.ensures.steps fs (subst (λ (u : FieldListSeen). AreLeft u fs) (sym c.in-Ok.ensures.ok) are) in (l.0, l.1))
    (λ e. c.if-get-ne-MSG_TYPE.true (c.get.ensures.value ∙ e))

-- src/drafting.rt:17:1
pub returns-in-Ok-new : goal.returns-in-Ok-new
returns-in-Ok-new c =
    let listed = c.in-Ok.ensures.exactly.0 refl in
    let l = c.in-Some.ensures.steps listed.list (subst (λ (u : FieldListSeen). AreLeft u listed.list) (sym c.in-Ok.ensures.ok) listed.are) in
    made_body c.args.body.now c.in-Ok-new.draft.kind c.in-Ok-new.draft.rest (field c.in-Some.first.tag c.in-Some.first.value.now) l.0
    (subst (λ (fs : List Field). FieldsAfter None c.args.body.now fs) l.1 listed.are)
    (sym c.get.ensures.value ∙ c.if-get-ne-MSG_TYPE.false)
    c.in-Ok-new.ensures.kind
    (c.in-Ok-new.ensures.rest ∙ ap fields_text (c.in_ok-behind.ensures l.0 l.2))

-- src/drafting.rt:15:1
pub returns : goal.returns
returns c =
    refused_body c.args.body.now (field c.in-Some.first.tag c.in-Some.first.value.now) c.in_ok-behind.behind c.in-Err.fault
    (record {
      each = λ fs are.
          let l = c.in-Some.ensures.steps fs (subst (λ (u : FieldListSeen). AreLeft u fs) (sym c.in-Ok.ensures.ok) are) in
          l.1 ∙ ap (λ (left : List Field). field c.in-Some.first.tag c.in-Some.first.value.now ∷ left) (sym (c.in_ok-behind.ensures l.0 l.2));
    })
    c.in-Err.ensures.err
    c.in_default-fault.not-OutOfMemory
