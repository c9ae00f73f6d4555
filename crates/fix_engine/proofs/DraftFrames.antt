-- The frame of a draft of the application.
use Rattle.std.proofs.Common.{◌≡◌, ℕ, ◌+◌, ◌≤◌, List, [], ◌∷◌, ◌++◌, length, Option, None, refl, sym, ap}
use Rattle.std.proofs.Common.{◌∙◌, subst, append_assoc, length-append, lit≤, arith}
use Rattle.std.specs.List.{AllByRecursion}
use Rattle.std.specs.Fmt.{decimal}
use Rattle.fix_base.specs.declared.identity.Identity.{Identity}
use Rattle.fix_base.specs.Session.{IsValidIdentity}
use Rattle.fix_base.specs.Fields.{Field, FieldsAfter}
use Rattle.fix_base.specs.Sealed.{sealed}
use Rattle.fix_base.specs.Says.{field_text, fields_text}
use Rattle.fix_base.specs.Payload.{field, IsEntryField, IsBodyOf, IsPersistentEntry}
use Rattle.fix_base.specs.Payload.{LAST_TIME}
use Rattle.fix_base.specs.Times.{IsTimeTextOf}
use Rattle.fix_base.specs.Wrote.{original_fields}
use Rattle.fix_base.proofs.PlainFields.{IsPlainField, plain_announces_nothing}
use Rattle.fix_base.proofs.ShortFields.{comp_id_clear, comp_id_short, IsShortField, short_fields}
use Rattle.fix_base.proofs.TimeTexts.{time_text_no_soh}
use Rattle.fix_fields.specs.Drafts.{body_with}
use Rattle.fix_fields.specs.Drafted.{DraftText, IsDraft, draft_body}
use Rattle.fix_fields.proofs.DraftLemmas.{fields_text-append}
use Rattle.fix_fields.proofs.DraftBodies.{accepted_fields, entry_fields, draft_payload, kind_first}
use Rattle.fix_frame.specs.Sealable.{message_text, IsBehindType, IsSealable}
use Rattle.fix_engine.specs.Written.{header_fields, IsHeaderText}
use Rattle.fix_engine.specs.State.{State}
use Rattle.fix_engine.specs.Drafted.{IsOfDraft, entry_of_draft}
use Rattle.fix_engine.proofs.SaidLemmas.{decimal_clear, decimal_short, time_short}

-- a field that announces nothing, and then others
field_ahead : (f : Field) (fs : List Field) → IsPlainField f → FieldsAfter None (fields_text fs) fs →
    FieldsAfter None (fields_text (f ∷ fs)) (f ∷ fs)
field_ahead f fs plain others = (
  field_text f,
  fields_text fs,
  record { first = plain.first; last = plain.last; value = plain.no_soh; spelled = refl },
  refl,
  subst (λ (due : Option (ℕ × ℕ)). FieldsAfter due (fields_text fs) fs)
      (sym (plain_announces_nothing f plain.no_length)) others,
)

pub draft_is_body : (d : DraftText) (h : IsDraft d) → IsBodyOf (draft_body d) d.kind h.fields
draft_is_body d h =
    let body : draft_body d ≡ fields_text (field 35 d.kind ∷ h.fields) = kind_first d.kind d.rest ∙
    ap (λ (t : List ℕ). field_text (field 35 d.kind) ++ t) h.spelled in
    let fields : FieldsAfter None (fields_text (field 35 d.kind ∷ h.fields)) (field 35 d.kind ∷ h.fields) =
    field_ahead (field 35 d.kind) h.fields (record
    { first = lit≤ tt; last = lit≤ tt; no_soh = h.may.named.no_soh; no_length = refl })
    (accepted_fields [] h.fields h.may.accepted h.tags) in
    record {
      spelled = body;
      fields = subst (λ (t : List ℕ). FieldsAfter None t (field 35 d.kind ∷ h.fields)) (sym body) fields;
      app = h.may.named.app;
      each = entry_fields [] h.fields h.may.accepted;
    }

-- the fields of the message
abbrev whole : Identity → ℕ → List ℕ → (d : DraftText) → IsDraft d → List Field
whole id n at d h = original_fields id (decimal n) at d.kind h.fields

draft_are : (id : Identity) (n time : ℕ) (at : List ℕ) (d : DraftText) (h : IsDraft d) → IsValidIdentity id →
    n ≤ 999999999 → IsTimeTextOf 3 time at → FieldsAfter None (fields_text (whole id n at d h)) (whole id n at d h)
draft_are id n time at d h valid small sent =
    field_ahead (field 35 d.kind) (field 34 (decimal n) ∷ field 49 id.sender ∷ field 52 at ∷ field 56 id.target ∷
    h.fields) (record { first = lit≤ tt; last = lit≤ tt; no_soh = h.may.named.no_soh; no_length = refl })
    (field_ahead (field 34 (decimal n)) (field 49 id.sender ∷ field 52 at ∷ field 56 id.target ∷ h.fields)
    (record { first = lit≤ tt; last = lit≤ tt; no_soh = decimal_clear n (omega arith); no_length = refl })
    (field_ahead (field 49 id.sender) (field 52 at ∷ field 56 id.target ∷ h.fields)
    (record { first = lit≤ tt; last = lit≤ tt; no_soh = comp_id_clear id.sender valid.sender; no_length = refl })
    (field_ahead (field 52 at) (field 56 id.target ∷ h.fields)
    (record { first = lit≤ tt; last = lit≤ tt; no_soh = time_text_no_soh 3 time at sent; no_length = refl })
    (field_ahead (field 56 id.target) h.fields
    (record { first = lit≤ tt; last = lit≤ tt; no_soh = comp_id_clear id.target valid.target; no_length = refl })
    (accepted_fields [] h.fields h.may.accepted h.tags)))))

-- MsgType, the header and the rest are the fields of the message
draft_message : (id : Identity) (n : ℕ) (at : List ℕ) (d : DraftText) (h : IsDraft d) →
    message_text d.kind (fields_text (header_fields id n at)) (fields_text h.fields) ≡ fields_text (whole id n at d h)
draft_message id n at d h =
    append_assoc (field_text (field 35 d.kind)) (fields_text (header_fields id n at)) (fields_text h.fields)
    ∙ ap (λ (t : List ℕ). field_text (field 35 d.kind) ++ t) (sym (fields_text-append (header_fields id n at) h.fields))

-- the header is short
header_short : (id : Identity) (n time : ℕ) (at : List ℕ) → IsValidIdentity id → n ≤ 999999999 →
    IsTimeTextOf 3 time at → length (fields_text (header_fields id n at)) ≤ 512
header_short id n time at valid small sent =
    let each : AllByRecursion IsShortField (header_fields id n at) = (
      record { last = lit≤ tt; short = decimal_short n (omega arith) },
      (
        record { last = lit≤ tt; short = comp_id_short id.sender valid.sender },
        (
          record { last = lit≤ tt; short = time_short time at sent },
          (record { last = lit≤ tt; short = comp_id_short id.target valid.target }, tt),
        ),
      ),
    ) in
    omega (arith, short_fields (header_fields id n at) each)

draft_short : (id : Identity) (n time : ℕ) (at : List ℕ) (d : DraftText) (h : IsDraft d) → IsValidIdentity id →
    n ≤ 999999999 → IsTimeTextOf 3 time at →
    length (message_text d.kind (fields_text (header_fields id n at)) (fields_text h.fields)) ≤ 1048576
draft_short id n time at d h valid small sent =
    let type = field_text (field 35 d.kind) in
    let header = fields_text (header_fields id n at) in
    let rest = fields_text h.fields in
    let body : length (body_with d.kind rest) ≡ length type + length rest =
    ap (λ (t : List ℕ). length (body_with d.kind t)) (sym h.spelled) ∙ ap length (draft_is_body d h).spelled ∙
    length-append type rest in
    omega (
      arith,
      length-append (type ++ header) rest,
      length-append type header,
      header_short id n time at valid small sent,
      body,
      h.may.fits,
    )

behind_entry : (fs : List Field) → AllByRecursion IsEntryField fs → AllByRecursion IsBehindType fs
behind_entry [] each = tt
behind_entry (f ∷ fs) each = (
  record {
    no_begin = each.0.no_begin;
    no_length = each.0.no_length;
    no_sum = each.0.no_sum;
    no_type = each.0.no_type;
  },
  behind_entry fs each.1,
)

all_behind : (id : Identity) (n : ℕ) (at : List ℕ) (d : DraftText) (h : IsDraft d) →
    AllByRecursion IsBehindType (header_fields id n at ++ h.fields)
all_behind id n at d h = (
  record {
    no_begin = λ e. omega arith;
    no_length = λ e. omega arith;
    no_sum = λ e. omega arith;
    no_type = λ e. omega arith;
  },
  (
    record {
      no_begin = λ e. omega arith;
      no_length = λ e. omega arith;
      no_sum = λ e. omega arith;
      no_type = λ e. omega arith;
    },
    (
      record {
        no_begin = λ e. omega arith;
        no_length = λ e. omega arith;
        no_sum = λ e. omega arith;
        no_type = λ e. omega arith;
      },
      (
        record {
          no_begin = λ e. omega arith;
          no_length = λ e. omega arith;
          no_sum = λ e. omega arith;
          no_type = λ e. omega arith;
        },
        behind_entry h.fields (entry_fields [] h.fields h.may.accepted),
      ),
    ),
  ),
)

-- a draft may be sealed
pub draft_sealable : (id : Identity) (n time : ℕ) (d : DraftText) (header rest : List ℕ) → IsValidIdentity id →
    n ≤ 999999999 → IsDraft d → IsHeaderText id n time header → rest ≡ d.rest → IsSealable d.kind header rest
draft_sealable id n time d header rest valid small h t r = record {
  named = h.may.named.some;
  fields = header_fields id n t.at ++ h.fields;
  are = rw (t.spelled, r, h.spelled, draft_message id n t.at d h) (draft_are id n time t.at d h valid small t.sent_at);
  each = all_behind id n t.at d h;
}

-- it is not too long
pub draft_fits : (id : Identity) (n time : ℕ) (d : DraftText) (header rest : List ℕ) → IsValidIdentity id →
    n ≤ 999999999 → IsDraft d → IsHeaderText id n time header → rest ≡ d.rest →
    length (message_text d.kind header rest) ≤ 1048576
draft_fits id n time d header rest valid small h t r =
    rw (t.spelled, r, h.spelled) (draft_short id n time t.at d h valid small t.sent_at)

-- sealed, it is the frame of the draft
pub draft_frame : (id : Identity) (n time : ℕ) (d : DraftText) (header rest text : List ℕ) → IsValidIdentity id →
    n ≤ 999999999 → IsDraft d → IsHeaderText id n time header → rest ≡ d.rest →
    text ≡ sealed id.begin (message_text d.kind header rest) → IsOfDraft id n time d text
draft_frame id n time d header rest text valid small h t r e =
    let same : message_text d.kind header rest ≡ fields_text (whole id n t.at d h) =
    rw (t.spelled, r, h.spelled) (draft_message id n t.at d h) in
    record {
      draft = h;
      at = t.at;
      sent_at = t.sent_at;
      sealed_so = record {
        spelled = e ∙ ap (sealed id.begin) same;
        are = draft_are id n time t.at d h valid small t.sent_at;
        short = subst (λ (w : List ℕ). length w ≤ 1048576) (draft_message id n t.at d h)
            (draft_short id n time t.at d h valid small t.sent_at);
      };
    }

-- the entry of a draft may be kept, and sent again
pub draft_persistent : (s : State) (d : DraftText) → IsDraft d → s.reading ≤ LAST_TIME →
    IsPersistentEntry (entry_of_draft s d)
draft_persistent s d h small = record { payload = draft_payload d s.reading h small; kept = tt }
