-- One message that a counterparty keeps and writes: the frame is lawful, and says it.
use Rattle.std.proofs.Common.{◌≡◌, inl, ℕ, ◌<◌, ◌≤◌, ◌^◌, nat_le, codes, false, List, [], ◌∷◌, length, refl, sym, ap, lit<, lit≤, arith}
use Rattle.std.specs.Prelude.{pos, ◌+ℤ◌, ◌*ℤ◌}
use Rattle.std.specs.List.{AllByRecursion}
use Rattle.std.specs.Fmt.{decimal}
use Rattle.std.proofs.Math.IntN.{+ℤ_invr}
use Rattle.std.proofs.lemmas.Fmt.{digits_decimal, length-decimal-le}
use Rattle.std.proofs.lemmas.List.{append-nil}
use Rattle.jiff_core.specs.Calendar.{day_count, days_from_civil}
use Rattle.fix_base.specs.Session.{Identity, IsValidIdentity}
use Rattle.fix_base.specs.Frame.{HasNoSoh}
use Rattle.fix_base.specs.Fields.{Field}
use Rattle.fix_base.specs.Stream.{UnreadBytes, Frame, ends_in_soh}
use Rattle.fix_base.specs.Sealed.{sealed}
use Rattle.fix_base.specs.Times.{Moment, IsTimeText, moment_text}
use Rattle.fix_base.specs.Shape.{IsFrame}
use Rattle.fix_base.specs.Message as message
use Rattle.fix_base.specs.Message.{Message}
use Rattle.fix_base.specs.Says as says
use Rattle.fix_base.specs.Says.{field_text, fields_text, Says, Shows}
use Rattle.fix_base.specs.End.{Caller, Entry, App, Push, new_end, folded}
use Rattle.fix_base.specs.Payload.{field, IsBodyOf, IsPersistentEntry}
use Rattle.fix_base.specs.Wrote as wrote
use Rattle.fix_base.specs.Wrote.{IsSealed, original_fields, Wrote}
use Rattle.fix_base.proofs.Told as told
use Rattle.fix_base.proofs.Told.{SaysEach}
use Rattle.fix_base.proofs.Digits.{numerals, digits_no_soh}
use Rattle.fix_base.proofs.PlainFields.{IsPlainField, plain_fields}
use Rattle.fix_base.proofs.ShortFields.{clear_of, comp_id_clear, comp_id_short, IsShortField, short_fields}
use Rattle.fix_base.proofs.TimeTexts.{any_time_text_no_soh}
use Rattle.fix_base.proofs.Seals.{sealed_is_frame}
use Rattle.fix_base.proofs.WholeLemmas.{push_grows}
use Rattle.fix_base.proofs.WrittenLemmas.{original_is, app_original}

pub clear_number : (n : ℕ) → n < 2 ^ 64 → HasNoSoh (decimal n)
clear_number n small = digits_no_soh (decimal n) (digits_decimal numerals n small)

pub short_number : (n : ℕ) → n < 10 ^ 2 → length (decimal n) ≤ 64
short_number n small = let l = length-decimal-le 2 n (lit< tt) small (omega arith) in omega arith

pub number_clear : HasNoSoh (decimal 1)
number_clear = clear_number 1 (lit< tt)

-- ---- the time 0

epoch_day : days_from_civil (pos 1970) 1 1 ≡ pos 0
unfolding days_from_civil
epoch_day = +ℤ_invr (pos (day_count (pos 1970) 1 1))

abbrev epoch : Moment
epoch = record { year = 1970; month = 1; day = 1; hour = 0; minute = 0; second = 0; fraction = [] }

abbrev pub at : List ℕ
at = moment_text epoch

pub at_epoch : IsTimeText 0 at
at_epoch = record {
  digits = 0;
  precision = inl refl;
  is = record {
    moment = epoch;
    is = record { date = ((omega arith, omega arith), (lit≤ tt, lit≤ tt), (lit≤ tt, lit≤ tt)); hour = lit< tt; minute = lit< tt; second = lit≤ tt; digits = tt };
    no_leap = lit< tt;
    many = refl;
    spelled = refl;
    says = ap (λ z. (z *ℤ pos 86400 +ℤ pos 0) *ℤ pos 1000000 +ℤ pos 0) epoch_day;
  };
}

pub at_clear : HasNoSoh at
at_clear = any_time_text_no_soh 0 at at_epoch

-- ---- the message: a NewOrderSingle

abbrev pub order : List ℕ
order = codes "D"

pub order_field : IsPlainField (field 35 order)
order_field = record { first = lit≤ tt; last = lit≤ tt; no_soh = clear_of (λ b. nat_le 2 b) order refl refl; no_length = refl }

pub order_short : IsShortField (field 35 order)
order_short = record { last = lit≤ tt; short = lit≤ tt }

abbrev pub body : List ℕ
body = fields_text (field 35 order ∷ [])

pub body_is : IsBodyOf body order []
body_is = record { spelled = refl; fields = plain_fields (field 35 order ∷ []) (order_field, tt); app = record { no_admin = refl }; each = tt }

some_type : order ≡ [] → ⊥
some_type e = cc

abbrev pub entry : Entry
entry = App 0 Caller body

entry_keepable : IsPersistentEntry entry
entry_keepable = record {
  payload = record {
    time_fits = lit≤ tt;
    short = (let short = short_fields (field 35 order ∷ []) (order_short, tt) in omega arith);
    type = order;
    rest = [];
    named = some_type;
    is = body_is;
  };
  kept = tt;
}

-- ---- its frame

abbrev fields : Identity → List Field
fields id = original_fields id (decimal 1) at order []

plain : (id : Identity) → IsValidIdentity id → AllByRecursion IsPlainField (fields id)
plain id valid = (
  order_field,
  (
    record { first = lit≤ tt; last = lit≤ tt; no_soh = number_clear; no_length = refl },
    (
      record { first = lit≤ tt; last = lit≤ tt; no_soh = comp_id_clear id.sender valid.sender; no_length = refl },
      (
        record { first = lit≤ tt; last = lit≤ tt; no_soh = at_clear; no_length = refl },
        (record { first = lit≤ tt; last = lit≤ tt; no_soh = comp_id_clear id.target valid.target; no_length = refl }, tt),
      ),
    ),
  ),
)

pub number_short : length (decimal 1) ≤ 64
number_short = short_number 1 (lit< tt)

short : (id : Identity) → IsValidIdentity id → AllByRecursion IsShortField (fields id)
short id valid = (
  order_short,
  (
    record { last = lit≤ tt; short = number_short },
    (
      record { last = lit≤ tt; short = comp_id_short id.sender valid.sender },
      (record { last = lit≤ tt; short = lit≤ tt }, (record { last = lit≤ tt; short = comp_id_short id.target valid.target }, tt)),
    ),
  ),
)

abbrev frame : Identity → List ℕ
frame id = sealed id.begin (fields_text (fields id))

frame_sealed : (id : Identity) → IsValidIdentity id → IsSealed id (fields id) (frame id)
frame_sealed id valid =
    let bound : length (fields_text (fields id)) ≤ 500 = short_fields (fields id) (short id valid) in
    record { spelled = refl; are = plain_fields (fields id) (plain id valid); short = omega arith }

-- a message of this body that a new end keeps and writes, and what a reader has of it
pub record Letter (id : Identity) (body : List ℕ) : Type 0 where
  pub text : List ℕ
  pub kept : IsPersistentEntry (App 0 Caller body)
  pub lawful : Wrote id new_end (folded new_end (Push (App 0 Caller body))) text
  pub shows : Shows text (message.App 1 false body ∷ [])
  pub says : SaysEach (text ∷ []) (message.App 1 false body ∷ [])

lawful : (id : Identity) → IsValidIdentity id → Wrote id new_end (folded new_end (Push entry)) (frame id)
lawful id valid = record {
  grew = push_grows new_end entry;
  texts = frame id ∷ [];
  last = 1;
  writes = wrote.original 1 entry (lit≤ tt) (lit< tt) (record { before = []; after = []; is = refl; place = refl }) (record { type = order; at = at; rest = []; carries = wrote.app body_is; sent_at = at_epoch; sealed_so = frame_sealed id valid }) wrote.done;
  front = record { rest = []; is = refl };
}

pub shown : (text : List ℕ) → IsFrame text → (x : Message) → Says text x → Shows text (x ∷ [])
shown text frame x says_so =
    let behind : UnreadBytes = record { may_mark = ends_in_soh text; bytes = [] } in
    record {
      items = Frame text ∷ [];
      rest = behind;
      takes = (behind, record { is = (refl, frame); spelled = sym (append-nil text); mark = refl }, refl);
      says = says.says says_so says.none;
    }

pub letter : (id : Identity) → IsValidIdentity id → Letter id body
letter id valid = record {
  text = frame id;
  kept = entry_keepable;
  lawful = lawful id valid;
  shows = shown (frame id) (sealed_is_frame id (fields id) (frame id) (original_is id (decimal 1) at order [] tt) (frame_sealed id valid)) _ (app_original id 1 (frame id) at order [] (lit≤ tt) (lit≤ tt) body_is.app tt (frame_sealed id valid));
  says = told.one (sealed_is_frame id (fields id) (frame id) (original_is id (decimal 1) at order [] tt) (frame_sealed id valid)) (app_original id 1 (frame id) at order [] (lit≤ tt) (lit≤ tt) body_is.app tt (frame_sealed id valid)) told.done;
}
