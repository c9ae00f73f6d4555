-- The messages that a session writes are lists of fields, and short.
use Rattle.std.proofs.Common.{◌≡◌, ◌≢◌, ℕ, zero, suc, ◌+◌, ◌<◌, ◌≤◌, ◌^◌, List, [], ◌∷◌, ◌++◌, length, refl, sym, ap}
use Rattle.std.proofs.Common.{◌∙◌, append_assoc, length-append, lit<, lit≤, arith}
use Rattle.std.specs.List.{AllByRecursion}
use Rattle.std.specs.Fmt.{decimal}
use Rattle.std.proofs.lemmas.Fmt.{digits_decimal, length-decimal-le}
use Rattle.fix_base.specs.declared.identity.Identity.{Identity}
use Rattle.fix_base.specs.Session.{IsValidIdentity}
use Rattle.fix_base.specs.Frame.{HasNoSoh}
use Rattle.fix_base.specs.Fields.{Field}
use Rattle.fix_base.specs.Sealed.{sealed}
use Rattle.fix_base.specs.Says.{field_text, fields_text}
use Rattle.fix_base.specs.Payload.{field}
use Rattle.fix_base.specs.Times.{IsTimeTextOf, two_digits, four_digits, fraction_text, moment_text}
use Rattle.fix_base.specs.Wrote.{original_fields}
use Rattle.fix_base.proofs.Digits.{numerals, digits_no_soh}
use Rattle.fix_base.proofs.PlainFields.{IsPlainField, plain_fields}
use Rattle.fix_base.proofs.ShortFields.{comp_id_clear, comp_id_short, IsShortField, short_fields}
use Rattle.fix_base.proofs.TimeTexts.{time_text_no_soh}
use Rattle.fix_fields.proofs.DraftLemmas.{fields_text-append}
use Rattle.fix_frame.specs.Sealable.{message_text, IsBehindType, IsSealable}
use Rattle.fix_engine.specs.State.{Say, Logon, Logout}
use Rattle.fix_engine.specs.Answer.{kind_of, fields_of, IsSayable, IsSaid}
use Rattle.fix_engine.specs.Written.{header_fields, IsHeaderText}

-- the fields behind MsgType (35)
abbrev behind : Identity → ℕ → List ℕ → Say → List Field
behind id n at say = field 34 (decimal n) ∷ field 49 id.sender ∷ field 52 at ∷ field 56 id.target ∷ fields_of say

-- MsgType, the header and the rest are the fields of the message
message_is : (id : Identity) (n : ℕ) (at : List ℕ) (say : Say) →
    message_text (kind_of say ∷ []) (fields_text (header_fields id n at)) (fields_text (fields_of say)) ≡ fields_text
    (original_fields id (decimal n) at (kind_of say ∷ []) (fields_of say))
message_is id n at say =
    append_assoc (field_text (field 35 (kind_of say ∷ []))) (fields_text (header_fields id n at))
    (fields_text (fields_of say))
    ∙ ap (λ (t : List ℕ). field_text (field 35 (kind_of say ∷ [])) ++ t)
    (sym (fields_text-append (header_fields id n at) (fields_of say)))

pub decimal_clear : (n : ℕ) → n < 2 ^ 64 → HasNoSoh (decimal n)
decimal_clear n small = digits_no_soh (decimal n) (digits_decimal numerals n small)

one_clear : (b : ℕ) → b ≢ 1 → HasNoSoh (b ∷ [])
one_clear b other zero lt e = other e
one_clear b other (suc k) lt e = omega arith

kind_clear : (say : Say) → HasNoSoh (kind_of say ∷ [])
kind_clear (Logon heart) = one_clear 65 (λ e. omega arith)
kind_clear Logout = one_clear 53 (λ e. omega arith)

rest_plain : (say : Say) → IsSayable say → AllByRecursion IsPlainField (fields_of say)
rest_plain (Logon heart) fits = (
  record { first = lit≤ tt; last = lit≤ tt; no_soh = one_clear 48 (λ e. omega arith); no_length = refl },
  (record { first = lit≤ tt; last = lit≤ tt; no_soh = decimal_clear heart (omega arith); no_length = refl }, tt),
)
rest_plain Logout fits = tt

message_plain : (id : Identity) (n time : ℕ) (at : List ℕ) (say : Say) → IsValidIdentity id → n ≤ 999999999 →
    IsTimeTextOf 3 time at → IsSayable say →
    AllByRecursion IsPlainField (original_fields id (decimal n) at (kind_of say ∷ []) (fields_of say))
message_plain id n time at say valid small sent fits = (
  record { first = lit≤ tt; last = lit≤ tt; no_soh = kind_clear say; no_length = refl },
  (
    record { first = lit≤ tt; last = lit≤ tt; no_soh = decimal_clear n (omega arith); no_length = refl },
    (
      record { first = lit≤ tt; last = lit≤ tt; no_soh = comp_id_clear id.sender valid.sender; no_length = refl },
      (
        record { first = lit≤ tt; last = lit≤ tt; no_soh = time_text_no_soh 3 time at sent; no_length = refl },
        (
          record { first = lit≤ tt; last = lit≤ tt; no_soh = comp_id_clear id.target valid.target; no_length = refl },
          rest_plain say fits,
        ),
      ),
    ),
  ),
)

-- the text of a time has at most 21 bytes
fraction_long : (digits : List ℕ) → length (fraction_text digits) ≤ suc (length digits)
fraction_long [] = lit≤ tt
fraction_long (d ∷ ds) = omega arith

pub time_short : (time : ℕ) (at : List ℕ) → IsTimeTextOf 3 time at → length at ≤ 64
time_short time at t =
    let m = t.moment in
    let day : List ℕ = four_digits m.year ++ two_digits m.month ++ two_digits m.day ++ 45 ∷ [] ++ two_digits m.hour ++
    58 ∷ [] ++ two_digits m.minute ++ 58 ∷ [] ++ two_digits m.second in
    let whole : length (moment_text m) ≡ length day + length (fraction_text m.fraction) =
    length-append day (fraction_text m.fraction) in
    omega (arith, ap length t.spelled, whole, fraction_long m.fraction, t.many)

pub decimal_short : (n : ℕ) → n < 2 ^ 32 → length (decimal n) ≤ 64
decimal_short n small = let l = length-decimal-le 10 n (lit< tt) (omega arith) (omega arith) in omega arith

rest_short : (say : Say) → IsSayable say → AllByRecursion IsShortField (fields_of say)
rest_short (Logon heart) fits = (
  record { last = lit≤ tt; short = lit≤ tt },
  (record { last = lit≤ tt; short = decimal_short heart fits }, tt),
)
rest_short Logout fits = tt

rest_few : (say : Say) → length (fields_of say) ≤ 2
rest_few (Logon heart) = lit≤ tt
rest_few Logout = lit≤ tt

message_short : (id : Identity) (n time : ℕ) (at : List ℕ) (say : Say) → IsValidIdentity id → n ≤ 999999999 →
    IsTimeTextOf 3 time at → IsSayable say →
    length (fields_text (original_fields id (decimal n) at (kind_of say ∷ []) (fields_of say))) ≤ 1048576
message_short id n time at say valid small sent fits =
    let each : AllByRecursion IsShortField (original_fields id (decimal n) at (kind_of say ∷ []) (fields_of say)) = (
      record { last = lit≤ tt; short = lit≤ tt },
      (
        record { last = lit≤ tt; short = decimal_short n (omega arith) },
        (
          record { last = lit≤ tt; short = comp_id_short id.sender valid.sender },
          (
            record { last = lit≤ tt; short = time_short time at sent },
            (record { last = lit≤ tt; short = comp_id_short id.target valid.target }, rest_short say fits),
          ),
        ),
      ),
    ) in
    omega (
      arith,
      short_fields (original_fields id (decimal n) at (kind_of say ∷ []) (fields_of say)) each,
      rest_few say,
    )

rest_behind : (say : Say) → AllByRecursion IsBehindType (fields_of say)
rest_behind (Logon heart) = (
  record {
    no_begin = λ e. omega arith;
    no_length = λ e. omega arith;
    no_sum = λ e. omega arith;
    no_type = λ e. omega arith;
  },
  (
    record {
      no_begin = λ e. omega arith;
      no_length = λ e. omega arith;
      no_sum = λ e. omega arith;
      no_type = λ e. omega arith;
    },
    tt,
  ),
)
rest_behind Logout = tt

all_behind : (id : Identity) (n : ℕ) (at : List ℕ) (say : Say) → AllByRecursion IsBehindType (behind id n at say)
all_behind id n at say = (
  record {
    no_begin = λ e. omega arith;
    no_length = λ e. omega arith;
    no_sum = λ e. omega arith;
    no_type = λ e. omega arith;
  },
  (
    record {
      no_begin = λ e. omega arith;
      no_length = λ e. omega arith;
      no_sum = λ e. omega arith;
      no_type = λ e. omega arith;
    },
    (
      record {
        no_begin = λ e. omega arith;
        no_length = λ e. omega arith;
        no_sum = λ e. omega arith;
        no_type = λ e. omega arith;
      },
      (
        record {
          no_begin = λ e. omega arith;
          no_length = λ e. omega arith;
          no_sum = λ e. omega arith;
          no_type = λ e. omega arith;
        },
        rest_behind say,
      ),
    ),
  ),
)

-- what is said may be sealed
pub said_sealable : (id : Identity) (n time : ℕ) (say : Say) (header rest : List ℕ) → IsValidIdentity id →
    n ≤ 999999999 → IsSayable say → IsHeaderText id n time header → rest ≡ fields_text (fields_of say) →
    IsSealable (kind_of say ∷ []) header rest
said_sealable id n time say header rest valid small fits h r = record {
  named = lit< tt;
  fields = behind id n h.at say;
  are = rw (h.spelled, r, message_is id n h.at say)
      (plain_fields (original_fields id (decimal n) h.at (kind_of say ∷ []) (fields_of say))
      (message_plain id n time h.at say valid small h.sent_at fits));
  each = all_behind id n h.at say;
}

-- it is not too long
pub said_fits : (id : Identity) (n time : ℕ) (say : Say) (header rest : List ℕ) → IsValidIdentity id → n ≤ 999999999 →
    IsSayable say → IsHeaderText id n time header → rest ≡ fields_text (fields_of say) →
    length (message_text (kind_of say ∷ []) header rest) ≤ 1048576
said_fits id n time say header rest valid small fits h r =
    rw (h.spelled, r, message_is id n h.at say) (message_short id n time h.at say valid small h.sent_at fits)

-- sealed, it is the frame of what is said
pub said_frame : (id : Identity) (n time : ℕ) (say : Say) (header rest text : List ℕ) → IsValidIdentity id →
    n ≤ 999999999 → IsSayable say → IsHeaderText id n time header → rest ≡ fields_text (fields_of say) →
    text ≡ sealed id.begin (message_text (kind_of say ∷ []) header rest) → IsSaid id n time say text
said_frame id n time say header rest text valid small fits h r e =
    let same : message_text (kind_of say ∷ []) header rest ≡ fields_text
    (original_fields id (decimal n) h.at (kind_of say ∷ []) (fields_of say)) =
    rw (h.spelled, r) (message_is id n h.at say) in
    record {
      at = h.at;
      sent_at = h.sent_at;
      sealed_so = record {
        spelled = e ∙ ap (sealed id.begin) same;
        are = plain_fields (original_fields id (decimal n) h.at (kind_of say ∷ []) (fields_of say))
            (message_plain id n time h.at say valid small h.sent_at fits);
        short = message_short id n time h.at say valid small h.sent_at fits;
      };
    }
