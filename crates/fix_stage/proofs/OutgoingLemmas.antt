-- The frame of a message that is sent: it is a list of fields, short enough, and the original of its entry.
use Rattle.std.proofs.Common.{◌≡◌, ℕ, ◌+◌, ◌<◌, ◌≤◌, ◌^◌, List, [], ◌∷◌, ◌++◌, length, Bool, Option, None, refl, sym, ap}
use Rattle.std.proofs.Common.{codes, suc, inl, inr, ◌∙◌, subst, append_assoc, length-append, lit<, lit≤, arith}
use Rattle.std.specs.List.{AllByRecursion}
use Rattle.std.specs.Fmt.{decimal}
use Rattle.std.proofs.lemmas.Fmt.{digits_decimal, length-decimal-le}
use Rattle.fix_base.specs.declared.identity.Identity.{Identity}
use Rattle.fix_base.specs.Session.{IsValidIdentity}
use Rattle.fix_base.specs.Frame.{HasNoSoh}
use Rattle.fix_base.specs.Fields.{Field, FieldsAfter}
use Rattle.fix_base.specs.Sealed.{sealed}
use Rattle.fix_base.specs.declared.entry.Entry.{Entry}
use Rattle.fix_base.specs.declared.entry.Entry.TheVariants.{App, Admin}
use Rattle.fix_base.specs.Says.{field_text, fields_text}
use Rattle.fix_base.specs.Payload.{field, IsEntryField, HasPayload, LAST_TIME}
use Rattle.fix_base.specs.Times.{IsTimeTextOf, two_digits, four_digits, fraction_text, moment_text}
use Rattle.fix_base.specs.Wrote as wrote
use Rattle.fix_base.specs.Wrote.{original_fields, Carries, IsOriginal, time_of_entry}
use Rattle.fix_base.proofs.Digits.{numerals, digits_no_soh}
use Rattle.fix_base.proofs.PlainFields.{IsPlainField, plain_announces_nothing}
use Rattle.fix_base.proofs.ShortFields.{comp_id_clear, comp_id_short, IsShortField, short_fields}
use Rattle.fix_base.proofs.TimeTexts.{time_text_no_soh}
use Rattle.fix_base.proofs.WrittenLemmas.{admin_fields}
use Rattle.fix_fields.specs.Drafts.{body_with}
use Rattle.fix_fields.specs.Drafted.{DraftText, IsDraft, draft_body}
use Rattle.fix_fields.proofs.DraftLemmas.{fields_text-append}
use Rattle.fix_fields.proofs.DraftBodies.{accepted_fields, entry_fields, draft_payload, kind_first}
use Rattle.fix_base.specs.Payload.{IsBodyOf}
use Rattle.fix_frame.specs.Sealable.{message_text, IsBehindType, IsSealable}
use Rattle.fix_stage.specs.Outgoing.{header_fields, IsHeaderText, Outgoing, draft_outgoing, IsOutgoing, IsFrameOf}

pub decimal_clear : (n : ℕ) → n < 2 ^ 64 → HasNoSoh (decimal n)
decimal_clear n small = digits_no_soh (decimal n) (digits_decimal numerals n small)

-- the text of a time has at most 21 bytes
fraction_long : (digits : List ℕ) → length (fraction_text digits) ≤ suc (length digits)
fraction_long [] = lit≤ tt
fraction_long (d ∷ ds) = omega arith

pub time_short : (time : ℕ) (at : List ℕ) → IsTimeTextOf 3 time at → length at ≤ 64
time_short time at t =
    let m = t.moment in
    let day : List ℕ = four_digits m.year ++ two_digits m.month ++ two_digits m.day ++ 45 ∷ [] ++ two_digits m.hour ++
    58 ∷ [] ++ two_digits m.minute ++ 58 ∷ [] ++ two_digits m.second in
    let whole : length (moment_text m) ≡ length day + length (fraction_text m.fraction) =
    length-append day (fraction_text m.fraction) in
    omega (arith, ap length t.spelled, whole, fraction_long m.fraction, t.many)

pub decimal_short : (n : ℕ) → n < 2 ^ 32 → length (decimal n) ≤ 64
decimal_short n small = let l = length-decimal-le 10 n (lit< tt) (omega arith) (omega arith) in omega arith

-- a field that announces nothing, and then others
pub field_ahead : (f : Field) (fs : List Field) → IsPlainField f → FieldsAfter None (fields_text fs) fs →
    FieldsAfter None (fields_text (f ∷ fs)) (f ∷ fs)
field_ahead f fs plain others = (
  field_text f,
  fields_text fs,
  record { first = plain.first; last = plain.last; value = plain.no_soh; spelled = refl },
  refl,
  subst (λ (due : Option (ℕ × ℕ)). FieldsAfter due (fields_text fs) fs)
      (sym (plain_announces_nothing f plain.no_length)) others,
)

-- the header is short
header_short : (id : Identity) (n time : ℕ) (at : List ℕ) → IsValidIdentity id → n ≤ 999999999 →
    IsTimeTextOf 3 time at → length (fields_text (header_fields id n at)) ≤ 512
header_short id n time at valid small sent =
    let each : AllByRecursion IsShortField (header_fields id n at) = (
      record { last = lit≤ tt; short = decimal_short n (omega arith) },
      (
        record { last = lit≤ tt; short = comp_id_short id.sender valid.sender },
        (
          record { last = lit≤ tt; short = time_short time at sent },
          (record { last = lit≤ tt; short = comp_id_short id.target valid.target }, tt),
        ),
      ),
    ) in
    omega (arith, short_fields (header_fields id n at) each)

-- ---- a message that is sent

-- its fields
abbrev pub whole : Identity → ℕ → List ℕ → (m : Outgoing) → IsOutgoing m → List Field
whole id n at m h = original_fields id (decimal n) at m.type h.fields

pub outgoing_are : (id : Identity) (n time : ℕ) (at : List ℕ) (m : Outgoing) (h : IsOutgoing m) → IsValidIdentity id →
    n ≤ 999999999 → IsTimeTextOf 3 time at → FieldsAfter None (fields_text (whole id n at m h)) (whole id n at m h)
outgoing_are id n time at m h valid small sent =
    field_ahead (field 35 m.type) (field 34 (decimal n) ∷ field 49 id.sender ∷ field 52 at ∷ field 56 id.target ∷
    h.fields) (record { first = lit≤ tt; last = lit≤ tt; no_soh = h.clear; no_length = refl })
    (field_ahead (field 34 (decimal n)) (field 49 id.sender ∷ field 52 at ∷ field 56 id.target ∷ h.fields)
    (record { first = lit≤ tt; last = lit≤ tt; no_soh = decimal_clear n (omega arith); no_length = refl })
    (field_ahead (field 49 id.sender) (field 52 at ∷ field 56 id.target ∷ h.fields)
    (record { first = lit≤ tt; last = lit≤ tt; no_soh = comp_id_clear id.sender valid.sender; no_length = refl })
    (field_ahead (field 52 at) (field 56 id.target ∷ h.fields)
    (record { first = lit≤ tt; last = lit≤ tt; no_soh = time_text_no_soh 3 time at sent; no_length = refl })
    (field_ahead (field 56 id.target) h.fields
    (record { first = lit≤ tt; last = lit≤ tt; no_soh = comp_id_clear id.target valid.target; no_length = refl })
    h.are))))

-- MsgType, the header and the rest are the fields of the message
pub outgoing_message : (id : Identity) (n : ℕ) (at : List ℕ) (m : Outgoing) (h : IsOutgoing m) →
    message_text m.type (fields_text (header_fields id n at)) (fields_text h.fields) ≡ fields_text (whole id n at m h)
outgoing_message id n at m h =
    append_assoc (field_text (field 35 m.type)) (fields_text (header_fields id n at)) (fields_text h.fields)
    ∙ ap (λ (t : List ℕ). field_text (field 35 m.type) ++ t) (sym (fields_text-append (header_fields id n at) h.fields))

-- the text of MsgType (35)
pub type_long : (type : List ℕ) → length (field_text (field 35 type)) ≡ length type + 4
type_long type =
    let three : length (codes "35=") ≡ 3 = refl in
    omega (
      arith,
      three,
      ap length (kind_first type []),
      length-append (codes "35=" ++ type) (1 ∷ []),
      length-append (codes "35=") type,
      length-append (field_text (field 35 type)) [],
    )

pub outgoing_short : (id : Identity) (n time : ℕ) (at : List ℕ) (m : Outgoing) (h : IsOutgoing m) → IsValidIdentity id →
    n ≤ 999999999 → IsTimeTextOf 3 time at →
    length (message_text m.type (fields_text (header_fields id n at)) (fields_text h.fields)) ≤ 1048576
outgoing_short id n time at m h valid small sent =
    let type = field_text (field 35 m.type) in
    let header = fields_text (header_fields id n at) in
    let rest = fields_text h.fields in
    omega (
      arith,
      length-append (type ++ header) rest,
      length-append type header,
      header_short id n time at valid small sent,
      type_long m.type,
      ap length h.spelled,
      h.short,
    )

pub behind_entry : (fs : List Field) → AllByRecursion IsEntryField fs → AllByRecursion IsBehindType fs
behind_entry [] each = tt
behind_entry (f ∷ fs) each = (
  record {
    no_begin = each.0.no_begin;
    no_length = each.0.no_length;
    no_sum = each.0.no_sum;
    no_type = each.0.no_type;
  },
  behind_entry fs each.1,
)

-- the fields that an original carries may stand there
pub carried : {e : Entry} {type : List ℕ} {rest : List Field} → Carries e type rest → AllByRecursion IsEntryField rest
carried (wrote.app is) = is.each
carried (wrote.admin is) = admin_fields is
carried (wrote.once kind type each) = each

all_behind : (id : Identity) (n : ℕ) (at : List ℕ) (m : Outgoing) (h : IsOutgoing m) →
    AllByRecursion IsBehindType (header_fields id n at ++ h.fields)
all_behind id n at m h = (
  record {
    no_begin = λ e. omega arith;
    no_length = λ e. omega arith;
    no_sum = λ e. omega arith;
    no_type = λ e. omega arith;
  },
  (
    record {
      no_begin = λ e. omega arith;
      no_length = λ e. omega arith;
      no_sum = λ e. omega arith;
      no_type = λ e. omega arith;
    },
    (
      record {
        no_begin = λ e. omega arith;
        no_length = λ e. omega arith;
        no_sum = λ e. omega arith;
        no_type = λ e. omega arith;
      },
      (
        record {
          no_begin = λ e. omega arith;
          no_length = λ e. omega arith;
          no_sum = λ e. omega arith;
          no_type = λ e. omega arith;
        },
        behind_entry h.fields (carried h.carries),
      ),
    ),
  ),
)

-- it may be sealed
pub outgoing_sealable : (id : Identity) (n time : ℕ) (m : Outgoing) (header : List ℕ) → IsValidIdentity id →
    n ≤ 999999999 → IsOutgoing m → IsHeaderText id n time header → IsSealable m.type header m.rest
outgoing_sealable id n time m header valid small h t = record {
  named = h.named;
  fields = header_fields id n t.at ++ h.fields;
  are = rw (t.spelled, h.spelled, outgoing_message id n t.at m h) (outgoing_are id n time t.at m h valid small t.sent_at);
  each = all_behind id n t.at m h;
}

-- it is not too long
pub outgoing_fits : (id : Identity) (n time : ℕ) (m : Outgoing) (header : List ℕ) → IsValidIdentity id →
    n ≤ 999999999 → IsOutgoing m → IsHeaderText id n time header → length (message_text m.type header m.rest) ≤ 1048576
outgoing_fits id n time m header valid small h t =
    rw (t.spelled, h.spelled) (outgoing_short id n time t.at m h valid small t.sent_at)

-- its frame is the original of its entry
abbrev pub frame_original : (id : Identity) (n : ℕ) (m : Outgoing) (text : List ℕ) → IsValidIdentity id → n ≤ 999999999 →
    IsOutgoing m → IsFrameOf id n m text → IsOriginal id n m.entry text
frame_original id n m text valid small h f =
    let t = f.heads in
    let same : message_text m.type f.header m.rest ≡ fields_text (whole id n t.at m h) =
    rw (t.spelled, h.spelled) (outgoing_message id n t.at m h) in
    record {
      type = m.type;
      at = t.at;
      rest = h.fields;
      carries = h.carries;
      sent_at = record { digits = 3; precision = inr (inl refl); is = t.sent_at };
      sealed_so = record {
        spelled = f.spelled ∙ ap (sealed id.begin) same;
        are = outgoing_are id n (time_of_entry m.entry) t.at m h valid small t.sent_at;
        short = subst (λ (w : List ℕ). length w ≤ 1048576) (outgoing_message id n t.at m h)
            (outgoing_short id n (time_of_entry m.entry) t.at m h valid small t.sent_at);
      };
    }

-- the time of an entry that may be kept
pub payload_time : (e : Entry) → HasPayload e → time_of_entry e ≤ LAST_TIME
payload_time (App time by body) h = h.time_fits
payload_time (Admin time kind about) h = h.time_fits

-- ---- a draft

pub draft_is_body : (d : DraftText) (h : IsDraft d) → IsBodyOf (draft_body d) d.kind h.fields
draft_is_body d h =
    let body : draft_body d ≡ fields_text (field 35 d.kind ∷ h.fields) = kind_first d.kind d.rest ∙
    ap (λ (t : List ℕ). field_text (field 35 d.kind) ++ t) h.spelled in
    let fields : FieldsAfter None (fields_text (field 35 d.kind ∷ h.fields)) (field 35 d.kind ∷ h.fields) =
    field_ahead (field 35 d.kind) h.fields (record
    { first = lit≤ tt; last = lit≤ tt; no_soh = h.may.named.no_soh; no_length = refl })
    (accepted_fields [] h.fields h.may.accepted h.tags) in
    record {
      spelled = body;
      fields = subst (λ (t : List ℕ). FieldsAfter None t (field 35 d.kind ∷ h.fields)) (sym body) fields;
      app = h.may.named.app;
      each = entry_fields [] h.fields h.may.accepted;
    }

pub draft_is_outgoing : (time : ℕ) (d : DraftText) (written : Bool) → time ≤ LAST_TIME → IsDraft d →
    IsOutgoing (draft_outgoing time d written)
draft_is_outgoing time d written small h =
    let body : draft_body d ≡ field_text (field 35 d.kind) ++ fields_text h.fields = (draft_is_body d h).spelled in
    let fits : length (body_with d.kind d.rest) ≡ length (body_with d.kind (fields_text h.fields)) =
    ap (λ (t : List ℕ). length (body_with d.kind t)) h.spelled in
    record {
      payload = draft_payload d time h small;
      named = h.may.named.some;
      clear = h.may.named.no_soh;
      fields = h.fields;
      spelled = h.spelled;
      are = accepted_fields [] h.fields h.may.accepted h.tags;
      carries = wrote.app (draft_is_body d h);
      short = omega (
        arith,
        fits,
        h.may.fits,
        ap length body,
        ap length h.spelled,
        length-append (field_text (field 35 d.kind)) (fields_text h.fields),
        type_long d.kind,
      );
    }
