-- The frames that answer a ResendRequest: each is a list of fields, short enough, and the repeat or the gap fill.
use Rattle.std.proofs.Common.{◌≡◌, ℕ, ◌+◌, ◌<◌, ◌≤◌, List, [], ◌∷◌, ◌++◌, length, None, refl, sym, ap, ◌∙◌, subst}
use Rattle.std.proofs.Common.{codes, inl, inr, append_assoc, length-append, lit<, lit≤, arith, nat_le, ◌&&◌, Result, Ok, Err}
use Rattle.std.specs.Prelude.{IfOk}
use Rattle.fix_base.specs.declared.bytes.OutOfMemory.{OutOfMemory}
use Rattle.std.specs.List.{AllByRecursion}
use Rattle.std.specs.Fmt.{decimal}
use Rattle.std.proofs.lemmas.Fmt.{length-decimal-le}
use Rattle.fix_base.specs.declared.identity.Identity.{Identity}
use Rattle.fix_base.specs.Session.{IsValidIdentity}
use Rattle.fix_base.specs.Front.{Begins}
use Rattle.fix_base.specs.Frame.{HasNoSoh}
use Rattle.fix_base.specs.Fields.{Field, IsField, FieldsAfter}
use Rattle.fix_base.specs.Sealed.{sealed}
use Rattle.fix_base.specs.Says.{field_text, fields_text}
use Rattle.fix_base.specs.Payload.{field, IsBodyOf, IsAppPayload, LONGEST_BODY, LAST_TIME}
use Rattle.fix_base.specs.Times.{IsTimeTextOf}
use Rattle.fix_base.specs.Wrote.{IsSealed, repeat_fields}
use Rattle.fix_base.proofs.PlainFields.{plain_announces_nothing, plain_fields}
use Rattle.fix_base.proofs.ShortFields.{clear_of, comp_id_clear, comp_id_short, short_fields}
use Rattle.fix_base.proofs.TimeTexts.{time_text_no_soh}
use Rattle.fix_base.proofs.FieldLists.{field_same}
use Rattle.fix_fields.proofs.DraftLemmas.{fields_text-append}
use Rattle.fix_fields.proofs.DraftBodies.{kind_first}
use Rattle.fix_frame.specs.Sealable.{message_text, IsBehindType, IsSealable}
use Rattle.fix_outside.specs.Handing.{IsKindOf}
use Rattle.fix_stage.specs.Repeating.{marked_fields, gap_rest_fields, IsSplit, MaySplit, IsRepeatFrame, IsGapFrame}
use Rattle.fix_stage.proofs.EachTime.{each_time}
use Rattle.fix_stage.proofs.OutgoingLemmas.{decimal_clear, decimal_short, time_short, field_ahead, type_long, behind_entry}

-- ---- a body

-- it begins with its MsgType
body_begins : (body type : List ℕ) (fields : List Field) → IsBodyOf body type fields
    → Begins (IsField None (field 35 type)) body (fields_text fields)
body_begins body type fields h = record {
  text = field_text (field 35 type);
  is = record { first = lit≤ tt; last = lit≤ tt; value = h.fields.2.value; spelled = refl };
  spelled = h.spelled;
}

-- the fields after it
rest_fields : (body type : List ℕ) (fields : List Field) → IsBodyOf body type fields
    → FieldsAfter None (fields_text fields) fields
rest_fields body type fields h =
    let first : Begins (IsField None (field 35 type)) body h.fields.1 =
    record { text = h.fields.0; is = h.fields.2; spelled = h.fields.3 } in
    let same = field_same None (field 35 type) (field 35 type) body h.fields.1 (fields_text fields) first
    (body_begins body type fields h) in
    subst (λ (t : List ℕ). FieldsAfter None t fields) same.1
    (subst (λ (due : _). FieldsAfter due h.fields.1 fields) (plain_announces_nothing (field 35 type) refl) h.fields.4)

some_long : (type : List ℕ) → (type ≡ [] → ⊥) → 0 < length type
some_long [] h = absurd (h refl)
some_long (x ∷ type) h = omega arith

pub may_split : (time : ℕ) (body : List ℕ) → IsAppPayload time body → MaySplit body
may_split time body h =
    (h.type, fields_text h.rest, record { fields = h.rest; is = h.is; named = some_long h.type h.named; spelled = refl })

-- what stands first is its MsgType
pub first_split : (body : List ℕ) (f : Field) (rest : List ℕ) → MaySplit body → Begins (IsField None f) body rest
    → IsSplit body f.value rest
first_split body f rest h b =
    let s = h.2 in
    let same = field_same None (field 35 h.0) f body (fields_text s.fields) rest (body_begins body h.0 s.fields s.is) b in
    record {
      fields = s.fields;
      is = subst (λ (g : Field). IsBodyOf body g.value s.fields) same.0 s.is;
      named = subst (λ (g : Field). 0 < length g.value) same.0 s.named;
      spelled = sym same.1;
    }

-- a body that has one begins with a field
pub some_first : (body : List ℕ) → MaySplit body
    → ((f : Field) (rest : List ℕ) → Begins (IsField None f) body rest → ⊥) → ⊥
some_first body h never = never (field 35 h.0) (fields_text h.2.fields) (body_begins body h.0 h.2.fields h.2.is)

pub kind_of_split : (body type rest : List ℕ) → IsSplit body type rest → IsKindOf type body
kind_of_split body type rest s = record {
  rest = fields_text s.fields;
  is = s.is.spelled ∙ sym (kind_first type (fields_text s.fields)) ∙ simp append_assoc;
}

-- ---- a message that is marked

record IsMarked (id : Identity) (n : ℕ) (at was type : List ℕ) (rest : List Field) : Type 0 where
  valid : IsValidIdentity id
  small : n ≤ 999999999
  at_clear : HasNoSoh at
  at_short : length at ≤ 64
  was_clear : HasNoSoh was
  was_short : length was ≤ 64
  named : 0 < length type
  clear : HasNoSoh type
  are : FieldsAfter None (fields_text rest) rest
  each : AllByRecursion IsBehindType rest
  fits : length type + length (fields_text rest) + 4 ≤ LONGEST_BODY

yes_clear : HasNoSoh (codes "Y")
yes_clear = clear_of (λ b. nat_le 32 b && nat_le b 126) (codes "Y") refl refl

-- its header is short
header_short : (id : Identity) (n : ℕ) (at was type : List ℕ) (rest : List Field) → IsMarked id n at was type rest
    → length (fields_text (marked_fields id n at was)) ≤ 512
header_short id n at was type rest m =
    let number = field 34 (decimal n) in
    let mark = field 43 (codes "Y") in
    let others : List Field = field 49 id.sender ∷ field 52 at ∷ field 56 id.target ∷ field 122 was ∷ [] in
    let small = m.small in
    let one = short_fields (number ∷ []) (record { last = lit≤ tt; short = decimal_short n (omega arith) }, tt) in
    let more = short_fields others (
      record { last = lit≤ tt; short = comp_id_short id.sender m.valid.sender },
      (
        record { last = lit≤ tt; short = m.at_short },
        (
          record { last = lit≤ tt; short = comp_id_short id.target m.valid.target },
          (record { last = lit≤ tt; short = m.was_short }, tt),
        ),
      ),
    ) in
    omega (
      arith,
      one,
      more,
      length-append (field_text number) [],
      length-append (field_text number) (field_text mark ++ fields_text others),
      length-append (field_text mark) (fields_text others),
      length-append (decimal 43 ++ 61 ∷ codes "Y") (1 ∷ []),
      length-append (decimal 43) (61 ∷ codes "Y"),
      length-decimal-le 2 43 (lit< tt) (omega arith) (omega arith),
    )

marked_are : (id : Identity) (n : ℕ) (at was type : List ℕ) (rest : List Field) → IsMarked id n at was type rest
    → FieldsAfter None (fields_text (repeat_fields id (decimal n) at was type rest)) (repeat_fields id (decimal n) at was type rest)
marked_are id n at was type rest m =
    let small = m.small in
    field_ahead (field 35 type) (marked_fields id n at was ++ rest)
    (record { first = lit≤ tt; last = lit≤ tt; no_soh = m.clear; no_length = refl })
    (field_ahead (field 34 (decimal n))
    (field 43 (codes "Y") ∷ field 49 id.sender ∷ field 52 at ∷ field 56 id.target ∷ field 122 was ∷ rest)
    (record { first = lit≤ tt; last = lit≤ tt; no_soh = decimal_clear n (omega arith); no_length = refl })
    (field_ahead (field 43 (codes "Y")) (field 49 id.sender ∷ field 52 at ∷ field 56 id.target ∷ field 122 was ∷ rest)
    (record { first = lit≤ tt; last = lit≤ tt; no_soh = yes_clear; no_length = refl })
    (field_ahead (field 49 id.sender) (field 52 at ∷ field 56 id.target ∷ field 122 was ∷ rest)
    (record { first = lit≤ tt; last = lit≤ tt; no_soh = comp_id_clear id.sender m.valid.sender; no_length = refl })
    (field_ahead (field 52 at) (field 56 id.target ∷ field 122 was ∷ rest)
    (record { first = lit≤ tt; last = lit≤ tt; no_soh = m.at_clear; no_length = refl })
    (field_ahead (field 56 id.target) (field 122 was ∷ rest)
    (record { first = lit≤ tt; last = lit≤ tt; no_soh = comp_id_clear id.target m.valid.target; no_length = refl })
    (field_ahead (field 122 was) rest
    (record { first = lit≤ tt; last = lit≤ tt; no_soh = m.was_clear; no_length = refl }) m.are))))))

-- MsgType, the header and the rest are its fields
marked_message : (id : Identity) (n : ℕ) (at was type : List ℕ) (rest : List Field)
    → message_text type (fields_text (marked_fields id n at was)) (fields_text rest)
    ≡ fields_text (repeat_fields id (decimal n) at was type rest)
marked_message id n at was type rest =
    append_assoc (field_text (field 35 type)) (fields_text (marked_fields id n at was)) (fields_text rest)
    ∙ ap (λ (t : List ℕ). field_text (field 35 type) ++ t) (sym (fields_text-append (marked_fields id n at was) rest))

behind : (tag : ℕ) (value : List ℕ) → 10 < tag → (tag ≡ 35 → ⊥) → IsBehindType (field tag value)
behind tag value high other = record {
  no_begin = λ e. omega arith;
  no_length = λ e. omega arith;
  no_sum = λ e. omega arith;
  no_type = other;
}

marked_sealable : (id : Identity) (n : ℕ) (at was type : List ℕ) (rest : List Field) → IsMarked id n at was type rest
    → IsSealable type (fields_text (marked_fields id n at was)) (fields_text rest)
marked_sealable id n at was type rest m = record {
  named = m.named;
  fields = marked_fields id n at was ++ rest;
  are = subst (λ (t : List ℕ). FieldsAfter None t (repeat_fields id (decimal n) at was type rest))
      (sym (marked_message id n at was type rest)) (marked_are id n at was type rest m);
  each = (
    behind 34 _ (lit< tt) (λ e. omega arith),
    (
      behind 43 _ (lit< tt) (λ e. omega arith),
      (
        behind 49 _ (lit< tt) (λ e. omega arith),
        (
          behind 52 _ (lit< tt) (λ e. omega arith),
          (behind 56 _ (lit< tt) (λ e. omega arith), (behind 122 _ (lit< tt) (λ e. omega arith), m.each)),
        ),
      ),
    ),
  );
}

marked_short : (id : Identity) (n : ℕ) (at was type : List ℕ) (rest : List Field) → IsMarked id n at was type rest
    → length (message_text type (fields_text (marked_fields id n at was)) (fields_text rest)) ≤ 1048576
marked_short id n at was type rest m =
    let kind = field_text (field 35 type) in
    let header = fields_text (marked_fields id n at was) in
    omega (
      arith,
      length-append (kind ++ header) (fields_text rest),
      length-append kind header,
      header_short id n at was type rest m,
      type_long type,
      m.fits,
    )

marked_sealed : (id : Identity) (n : ℕ) (at was type : List ℕ) (rest : List Field) → IsMarked id n at was type rest
    → IsSealed id (repeat_fields id (decimal n) at was type rest)
    (sealed id.begin (message_text type (fields_text (marked_fields id n at was)) (fields_text rest)))
marked_sealed id n at was type rest m = record {
  spelled = ap (sealed id.begin) (marked_message id n at was type rest);
  are = marked_are id n at was type rest m;
  short = subst (λ (t : List ℕ). length t ≤ 1048576) (marked_message id n at was type rest)
      (marked_short id n at was type rest m);
}

-- ---- a repeat

-- what is written of it: the texts of its times, and its body in two parts
pub record RepeatParts (id : Identity) (n time : ℕ) (body : List ℕ) (t : ℕ) (at was type rest : List ℕ) : Type 0 where
  pub valid : IsValidIdentity id
  pub small : n ≤ 999999999
  pub payload : IsAppPayload time body
  pub sent_at : IsTimeTextOf 3 t at
  pub sent_first_at : IsTimeTextOf 3 time was
  pub split : IsSplit body type rest

repeat_marked : (id : Identity) (n time : ℕ) (body : List ℕ) (t : ℕ) (at was type rest : List ℕ)
    → (p : RepeatParts id n time body t at was type rest) → IsMarked id n at was type p.split.fields
repeat_marked id n time body t at was type rest p =
    let s = p.split in
    record {
      valid = p.valid;
      small = p.small;
      at_clear = time_text_no_soh 3 t at p.sent_at;
      at_short = time_short t at p.sent_at;
      was_clear = time_text_no_soh 3 time was p.sent_first_at;
      was_short = time_short time was p.sent_first_at;
      named = s.named;
      clear = s.is.fields.2.value;
      are = rest_fields body type s.fields s.is;
      each = behind_entry s.fields s.is.each;
      fits = omega (
        arith,
        ap length s.is.spelled,
        length-append (field_text (field 35 type)) (fields_text s.fields),
        type_long type,
        p.payload.short,
      );
    }

pub repeat_sealable : (id : Identity) (n time : ℕ) (body : List ℕ) (t : ℕ) (at was type rest : List ℕ)
    → RepeatParts id n time body t at was type rest → IsSealable type (fields_text (marked_fields id n at was)) rest
repeat_sealable id n time body t at was type rest p =
    subst (IsSealable type (fields_text (marked_fields id n at was))) (sym p.split.spelled)
    (marked_sealable id n at was type p.split.fields (repeat_marked id n time body t at was type rest p))

pub repeat_short : (id : Identity) (n time : ℕ) (body : List ℕ) (t : ℕ) (at was type rest : List ℕ)
    → RepeatParts id n time body t at was type rest
    → length (message_text type (fields_text (marked_fields id n at was)) rest) ≤ 1048576
repeat_short id n time body t at was type rest p =
    subst (λ (w : List ℕ). length (message_text type (fields_text (marked_fields id n at was)) w) ≤ 1048576)
    (sym p.split.spelled)
    (marked_short id n at was type p.split.fields (repeat_marked id n time body t at was type rest p))

pub repeat_frame : (id : Identity) (n time : ℕ) (body : List ℕ) (t : ℕ) (at was type rest : List ℕ)
    → RepeatParts id n time body t at was type rest
    → IsRepeatFrame id n time body t (sealed id.begin (message_text type (fields_text (marked_fields id n at was)) rest))
repeat_frame id n time body t at was type rest p =
    let s = p.split in
    subst (λ (w : List ℕ). IsRepeatFrame id n time body t
    (sealed id.begin (message_text type (fields_text (marked_fields id n at was)) w))) (sym s.spelled)
    (record {
      is = record {
        type = type;
        at = at;
        was = was;
        rest = s.fields;
        carries = s.is;
        sent_at = record { digits = 3; precision = inr (inl refl); is = p.sent_at };
        sent_first_at = record { digits = 3; precision = inr (inl refl); is = p.sent_first_at };
        sealed_so = marked_sealed id n at was type s.fields (repeat_marked id n time body t at was type rest p);
      };
      sent_in_millis = refl;
      first_in_millis = refl;
    })

-- whatever is sealed of it is the frame
pub repeat_sealed : (id : Identity) (n time : ℕ) (body : List ℕ) (t : ℕ) (at was type rest : List ℕ)
    (r : Result (List ℕ) OutOfMemory) → RepeatParts id n time body t at was type rest
    → IfOk r (λ text. text ≡ sealed id.begin (message_text type (fields_text (marked_fields id n at was)) rest))
    → IfOk r (IsRepeatFrame id n time body t)
repeat_sealed id n time body t at was type rest (Ok text) p h =
    subst (IsRepeatFrame id n time body t) (sym h) (repeat_frame id n time body t at was type rest p)
repeat_sealed id n time body t at was type rest (Err e) p h = tt

-- ---- a gap fill

-- what is written of it
pub record GapParts (id : Identity) (n m t : ℕ) (at : List ℕ) : Type 0 where
  pub valid : IsValidIdentity id
  pub small : n ≤ 999999999
  pub next : m ≤ 1000000000
  pub sent_at : IsTimeTextOf 3 t at

gap_marked : (id : Identity) (n m t : ℕ) (at : List ℕ) → GapParts id n m t at
    → IsMarked id n at at (codes "4") (gap_rest_fields m)
gap_marked id n m t at p =
    let low = p.next in
    record {
      valid = p.valid;
      small = p.small;
      at_clear = time_text_no_soh 3 t at p.sent_at;
      at_short = time_short t at p.sent_at;
      was_clear = time_text_no_soh 3 t at p.sent_at;
      was_short = time_short t at p.sent_at;
      named = lit< tt;
      clear = clear_of (λ b. nat_le 32 b && nat_le b 126) (codes "4") refl refl;
      are = plain_fields (gap_rest_fields m) (
        record { first = lit≤ tt; last = lit≤ tt; no_soh = decimal_clear m (omega arith); no_length = refl },
        (record { first = lit≤ tt; last = lit≤ tt; no_soh = yes_clear; no_length = refl }, tt),
      );
      each = (behind 36 _ (lit< tt) (λ e. omega arith), (behind 123 _ (lit< tt) (λ e. omega arith), tt));
      fits = omega (
        arith,
        short_fields (gap_rest_fields m) (
          record { last = lit≤ tt; short = decimal_short m (omega arith) },
          (record { last = lit≤ tt; short = lit≤ tt }, tt),
        ),
      );
    }

pub gap_sealable : (id : Identity) (n m t : ℕ) (at : List ℕ) → GapParts id n m t at
    → IsSealable (codes "4") (fields_text (marked_fields id n at at)) (fields_text (gap_rest_fields m))
gap_sealable id n m t at p = marked_sealable id n at at (codes "4") (gap_rest_fields m) (gap_marked id n m t at p)

pub gap_short : (id : Identity) (n m t : ℕ) (at : List ℕ) → GapParts id n m t at
    → length (message_text (codes "4") (fields_text (marked_fields id n at at)) (fields_text (gap_rest_fields m))) ≤ 1048576
gap_short id n m t at p = marked_short id n at at (codes "4") (gap_rest_fields m) (gap_marked id n m t at p)

pub gap_frame : (id : Identity) (n m t : ℕ) (at : List ℕ) → GapParts id n m t at
    → IsGapFrame id n m t
    (sealed id.begin (message_text (codes "4") (fields_text (marked_fields id n at at)) (fields_text (gap_rest_fields m))))
gap_frame id n m t at p = record {
  is = record {
    at = at;
    sent_at = record { digits = 3; precision = inr (inl refl); is = p.sent_at };
    sealed_so = marked_sealed id n at at (codes "4") (gap_rest_fields m) (gap_marked id n m t at p);
  };
  in_millis = refl;
}

pub gap_sealed : (id : Identity) (n m t : ℕ) (at : List ℕ) (r : Result (List ℕ) OutOfMemory) → GapParts id n m t at
    → IfOk r (λ text. text ≡ sealed id.begin
    (message_text (codes "4") (fields_text (marked_fields id n at at)) (fields_text (gap_rest_fields m))))
    → IfOk r (IsGapFrame id n m t)
gap_sealed id n m t at (Ok text) p h = subst (IsGapFrame id n m t) (sym h) (gap_frame id n m t at p)
gap_sealed id n m t at (Err e) p h = tt

-- ---- there is one

pub some_repeat : (id : Identity) (n time : ℕ) (body : List ℕ) (t : ℕ) → IsValidIdentity id → n ≤ 999999999
    → IsAppPayload time body → t ≤ LAST_TIME → (text : List ℕ) × IsRepeatFrame id n time body t text
some_repeat id n time body t valid small h low =
    let at = each_time t low in
    let was = each_time time h.time_fits in
    let s = may_split time body h in (
      _,
      repeat_frame id n time body t at.0 was.0 s.0 s.1 (record {
        valid = valid;
        small = small;
        payload = h;
        sent_at = at.1;
        sent_first_at = was.1;
        split = s.2;
      }),
    )

pub some_gap : (id : Identity) (n m t : ℕ) → IsValidIdentity id → n ≤ 999999999 → m ≤ 1000000000 → t ≤ LAST_TIME
    → (text : List ℕ) × IsGapFrame id n m t text
some_gap id n m t valid small next low =
    let at = each_time t low in
    (_, gap_frame id n m t at.0 (record { valid = valid; small = small; next = next; sent_at = at.1 }))
