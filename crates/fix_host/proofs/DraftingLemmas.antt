-- Whether a message has a draft with its body.
use Rattle.std.proofs.Common.{◌≡◌, ℕ, List, [], ◌∷◌, ◌++◌, Option, Some, None, refl, sym, ap, subst, ◌∙◌, append_assoc, append-nil, arith, lit≤}
use Rattle.std.specs.Prelude.{MatchOption}
use Rattle.std.specs.Fmt.{decimal}
use Rattle.fix_base.specs.Fields.{Field, FieldsAfter}
use Rattle.fix_base.specs.Says.{field_text, fields_text}
use Rattle.fix_base.specs.Payload.{field}
use Rattle.fix_base.proofs.Seals.{fields_spelled}
use Rattle.fix_fields.specs.declared.judging.DraftFault.{DraftFault}
use Rattle.fix_fields.specs.declared.judging.DraftFault.TheVariants as fault
use Rattle.fix_fields.specs.Drafts.{AreAccepted, IsRefused, MayBeDraft, IsFirstFault, refusal, body_with}
use Rattle.fix_fields.specs.Drafted.{DraftText, IsDraft, draft_body}
use Rattle.fix_fields.specs.Faulty.{FieldListSeen, AreLeft}
use Rattle.fix_fields.proofs.DraftBodies.{accepted_fields, kind_first}
use Rattle.fix_host.specs.Drafting.{HasNoDraft}

-- the fields of a draft's body
draft_fields : (d : DraftText) (h : IsDraft d) → FieldsAfter None (draft_body d) (field 35 d.kind ∷ h.fields)
draft_fields d h = (
  field_text (field 35 d.kind),
  d.rest,
  record { first = lit≤ tt; last = lit≤ tt; value = h.may.named.no_soh; spelled = refl },
  kind_first d.kind d.rest,
  subst (λ (t : List ℕ). FieldsAfter None t h.fields) (sym h.spelled) (accepted_fields [] h.fields h.may.accepted h.tags),
)

-- the body of a draft is MsgType (35) and fields that may be sent
pub no_draft : (body : List ℕ) → ((kind : List ℕ) (fs : List Field) → FieldsAfter None body (field 35 kind ∷ fs) → MayBeDraft kind fs → ⊥) → HasNoDraft body
no_draft body never d h e = never d.kind h.fields (subst (λ (t : List ℕ). FieldsAfter None t (field 35 d.kind ∷ h.fields)) e (draft_fields d h)) h.may

-- fields of which each is accepted have none that is refused
accepted_all : (before pre : List Field) (f : Field) (post : List Field) (why : DraftFault) → AreAccepted before (pre ++ f ∷ post) → refusal (before ++ pre) f ≡ Some why → ⊥
accepted_all before [] f post why all refused = let none : None ≡ Some why = sym all.0 ∙ ap (λ (b : List Field). refusal b f) (sym (append-nil before)) ∙ refused in cc
accepted_all before (p ∷ pre) f post why all refused = accepted_all (before ++ p ∷ []) pre f post why all.1 (ap (λ (b : List Field). refusal b f) (append_assoc before (p ∷ []) pre) ∙ refused)

not_refused : (fs : List Field) (why : DraftFault) → AreAccepted [] fs → IsRefused fs why → ⊥
not_refused fs why all r = accepted_all [] r.before r.field r.behind why (subst (λ (l : List Field). AreAccepted [] l) r.spelled all) r.refused

-- of what may be a draft memory alone can be wanting
pub may_be_refused : (kind : List ℕ) (fs : List Field) (why : DraftFault) → MayBeDraft kind fs → IsFirstFault kind fs why → why ≡ fault.OutOfMemory
may_be_refused kind fs fault.BadKind may h = absurd (h may.named)
may_be_refused kind fs (fault.ReservedTag tag) may h = absurd (not_refused fs (fault.ReservedTag tag) may.accepted h.1)
may_be_refused kind fs (fault.HeaderOrder tag) may h = absurd (not_refused fs (fault.HeaderOrder tag) may.accepted h.1)
may_be_refused kind fs (fault.EmptyValue tag) may h = absurd (not_refused fs (fault.EmptyValue tag) may.accepted h.1)
may_be_refused kind fs (fault.SohInValue tag) may h = absurd (not_refused fs (fault.SohInValue tag) may.accepted h.1)
may_be_refused kind fs (fault.LengthMismatch tag) may h = absurd (not_refused fs (fault.LengthMismatch tag) may.accepted h.1)
may_be_refused kind fs fault.TooLarge may h = absurd (omega (arith, may.fits, h.2))
may_be_refused kind fs fault.OutOfMemory may h = refl

-- the draft of a MsgType (35) and the fields behind it has the body that these are read from
pub made_body : (body kind rest : List ℕ) (f : Field) (left : List Field) → FieldsAfter None body (f ∷ left) → f.tag ≡ 35 → kind ≡ f.value → rest ≡ fields_text left → body_with kind rest ≡ body
made_body body kind rest f left are tag same behind =
    kind_first kind rest
    ∙ ap (λ (t : List ℕ). (decimal 35 ++ 61 ∷ kind ++ 1 ∷ []) ++ t) behind
    ∙ ap (λ (v : List ℕ). (decimal 35 ++ 61 ∷ v ++ 1 ∷ []) ++ fields_text left) same
    ∙ ap (λ (n : ℕ). (decimal n ++ 61 ∷ f.value ++ 1 ∷ []) ++ fields_text left) (sym tag)
    ∙ sym (fields_spelled None body (f ∷ left) are)

-- ---- the fields of a list, copied one after another

-- these were copied, and the others are left
pub record Copied (list : FieldListSeen) (made : List Field) (now : FieldListSeen) : Type 0 where
  pub each : (fs : List Field) → AreLeft list fs → (left : List Field) × AreLeft now left × (made ++ left ≡ fs)

pub copied_none : (list now : FieldListSeen) (made : List Field) → made ≡ [] → now ≡ list → Copied list made now
copied_none list now made none same = record { each = λ fs are. (fs, rw same are, rw none refl) }

pub copied_more : (list now next : FieldListSeen) (made new : List Field) (x y : Field) → ((fs : List Field) → AreLeft now fs → (left : List Field) × (fs ≡ x ∷ left) × AreLeft next left) → y ≡ x → new ≡ made ++ y ∷ [] → Copied list made now → Copied list new next
copied_more list now next made new x y step same grown h = record {
  each = λ fs are.
      let l = h.each fs are in
      let s = step l.0 l.1 in
      (s.0, s.2, rw (grown, same) (append_assoc made (x ∷ []) s.0 ∙ ap (λ k. made ++ k) (sym s.1) ∙ l.2));
}

pub copied_all : (list now : FieldListSeen) (made : List Field) → ((fs : List Field) → AreLeft now fs → fs ≡ []) → Copied list made now → (fs : List Field) → AreLeft list fs → made ≡ fs
copied_all list now made over h fs are = let l = h.each fs are in sym (append-nil made) ∙ ap (λ k. made ++ k) (sym (over l.0 l.1)) ∙ l.2

-- ---- the answers of a draft's making

-- two lists that are one have one first field
heads : (f g : Field) (fs gs : List Field) → f ∷ fs ≡ g ∷ gs → f ≡ g
heads f g fs gs e = cc

tails : (f g : Field) (fs gs : List Field) → f ∷ fs ≡ g ∷ gs → fs ≡ gs
tails f g fs gs e = cc

-- the fields of these bytes begin with this one, and these are behind it
pub record BeginsWith (body : List ℕ) (f : Field) (behind : List Field) : Type 0 where
  pub each : (fs : List Field) → FieldsAfter None body fs → fs ≡ f ∷ behind

-- bytes whose first field has another tag are no body of a draft
pub other_tag : (body : List ℕ) (f : Field) → ((fs : List Field) → FieldsAfter None body fs → (left : List Field) × (fs ≡ f ∷ left)) → (f.tag ≡ 35 → ⊥) → HasNoDraft body
other_tag body f first other = no_draft body (λ kind fs are may. let l = first (field 35 kind ∷ fs) are in other (sym (ap (λ (g : Field). g.tag) (heads (field 35 kind) f fs l.0 l.1))))

-- bytes whose fields are refused are no body of a draft
pub refused_body : (body : List ℕ) (f : Field) (behind : List Field) (why : DraftFault) → BeginsWith body f behind → IsFirstFault f.value behind why → (why ≡ fault.OutOfMemory → ⊥) → HasNoDraft body
refused_body body f behind why b h other = no_draft body (λ kind fs are may.
    let e = b.each (field 35 kind ∷ fs) are in
    let value : kind ≡ f.value = ap (λ (g : Field). g.value) (heads (field 35 kind) f fs behind e) in
    other (may_be_refused f.value behind why (subst (λ (k : List ℕ). MayBeDraft k behind) value (subst (λ (l : List Field). MayBeDraft kind l) (tails (field 35 kind) f fs behind e) may)) h))

-- what was made, where something was
pub body_of_made : (body : List ℕ) (made : Option DraftText) (d : DraftText) → made ≡ Some d → MatchOption made (HasNoDraft body) (λ x. draft_body x ≡ body) → draft_body d ≡ body
body_of_made body made d e h = subst (λ (m : Option DraftText). MatchOption m (HasNoDraft body) (λ x. draft_body x ≡ body)) e h
