-- Worked examples of frames, streams, fields, times and messages, so that a wrong rule in the
-- definitions does not check.
use Rattle.std.proofs.Common.{◌≡◌, ◌≢◌, ℕ, ◌%◌, ◌^◌, sum, ◌<◌, ◌==◌, nat_le, if◌then◌else◌, codes, true, false, List, [], ◌∷◌, ◌++◌, length, get_or, Some, None, Err, refl, sym, ap, ◌∙◌, lit<, lit≤, arith, inl, inr, pos}
use Rattle.std.specs.List.{list_all}
use Rattle.std.specs.Fmt.{decimal}
use Rattle.std.specs.Str.Parse.{digits_value, AllDigits}
use Rattle.std.proofs.lemmas.Fmt.{decimal-digits_value}
use Rattle.jiff_core.specs.Calendar.{day_count, days_from_civil, days_of_months, days_of_years}
use Rattle.fix_base.specs.Session.{is_comp_id}
use Rattle.fix_base.specs.Front.{NeverBegins, Begins}
use Rattle.fix_base.specs.declared.no_match.NoMatch.TheVariants.{Never}
use Rattle.fix_base.specs.Frame.{HasNoSoh, IsLine, IsLengthOf, IsSumOf, IsHead, IsBody, IsTrailer, IsText, IsLong}
use Rattle.fix_base.specs.Fields.{FieldsAfter}
use Rattle.fix_base.specs.Shape.{Parts, HasShape, IsShape, IsFrame}
use Rattle.fix_base.specs.Stream.{UnreadBytes, Frame, Span, Byte, IsItem, Reads}
use Rattle.fix_base.specs.Times.{Moment, IsTimeTextOf, IsUtcTimestamp}
use Rattle.fix_base.specs.Message.{App, Admin, GapFill, ResetTo}
use Rattle.fix_base.specs.Says.{field_text, fields_text, message_of}
use Rattle.fix_base.specs.Payload.{field}
use Rattle.fix_base.proofs.Digits.{numerals}
use Rattle.fix_base.proofs.ShortFields.{clear_of}
use Rattle.fix_base.proofs.Pieces.{text_wrong}
use Rattle.fix_base.proofs.Places.{body_reads}
use Rattle.fix_base.proofs.Spans.{span_stops_2, shape_free}
use Rattle.fix_base.proofs.Fronted.{nothing_ahead}
use Rattle.fix_base.proofs.TimeTexts.{written_is_read}

-- the text with an SOH for each bar
abbrev wire : List ℕ → List ℕ
wire [] = []
wire (c ∷ cs) = (if c == 124 then 1 else c) ∷ wire cs

clear : (text : List ℕ) → list_all (λ b. nat_le 2 b) text ≡ true → HasNoSoh text
clear text all = clear_of (λ b. nat_le 2 b) text refl all

-- digits with no 0 in front are what is written of their number
digits_of : (ds : List ℕ) → AllDigits 10 ds → 0 < length ds → get_or ds 0 0 ≢ 48 → digits_value 10 ds < 2 ^ 64 → decimal (digits_value 10 ds) ≡ ds
digits_of ds digits some first small = decimal-digits_value numerals ds digits some (λ e. absurd (first e)) small

tag_11 : decimal 11 ≡ codes "11"
tag_11 = digits_of (codes "11") (lit< tt, (lit< tt, tt)) (lit< tt) (λ e. omega (arith, e)) (lit< tt)

tag_35 : decimal 35 ≡ codes "35"
tag_35 = digits_of (codes "35") (lit< tt, (lit< tt, tt)) (lit< tt) (λ e. omega (arith, e)) (lit< tt)

tag_95 : decimal 95 ≡ codes "95"
tag_95 = digits_of (codes "95") (lit< tt, (lit< tt, tt)) (lit< tt) (λ e. omega (arith, e)) (lit< tt)

tag_96 : decimal 96 ≡ codes "96"
tag_96 = digits_of (codes "96") (lit< tt, (lit< tt, tt)) (lit< tt) (λ e. omega (arith, e)) (lit< tt)

-- what is written of a field whose tag has these digits
field_is : (tag : ℕ) (digits value : List ℕ) → decimal tag ≡ digits → digits ++ 61 ∷ value ++ 1 ∷ [] ≡ field_text (field tag value)
field_is tag digits value e = ap (λ (t : List ℕ). t ++ 61 ∷ value ++ 1 ∷ []) (sym e)

-- ---- a Heartbeat (35=0)

-- `8=FIX.4.2|9=` and a line
head_to : (n : ℕ) (l : List ℕ) → IsLine (IsLengthOf n) l → IsHead n (wire (codes "8=FIX.4.2|9=") ++ l)
head_to n l line = record {
  value = tt;
  first = codes "8=FIX";
  second = wire (codes ".4.2|9=") ++ l;
  is_first = refl;
  is_second = record {
    value = tt;
    first = wire (codes ".4.2|");
    second = codes "9=" ++ l;
    is_first = record { value = codes ".4.2"; no_soh = clear (codes ".4.2") refl; is = lit≤ tt; spelled = refl };
    is_second = record { value = tt; first = codes "9="; second = l; is_first = refl; is_second = line; spelled = refl };
    spelled = refl;
  };
  spelled = refl;
}

five : IsLine (IsLengthOf 5) (wire (codes "5|"))
five = record { value = codes "5"; no_soh = clear (codes "5") refl; is = record { digits = (lit< tt, tt); few = lit≤ tt; some = lit< tt; number = refl; low = lit≤ tt; high = lit≤ tt }; spelled = refl }

six : IsLine (IsLengthOf 6) (wire (codes "6|"))
six = record { value = codes "6"; no_soh = clear (codes "6") refl; is = record { digits = (lit< tt, tt); few = lit≤ tt; some = lit< tt; number = refl; low = lit≤ tt; high = lit≤ tt }; spelled = refl }

beat_body : IsBody 5 (wire (codes "35=0|"))
beat_body = record {
  value = tt;
  first = codes "35=";
  second = wire (codes "0|");
  is_first = refl;
  is_second = record { value = tt; first = codes "0"; second = 1 ∷ []; is_first = refl; is_second = refl; spelled = refl };
  spelled = refl;
}

trailer_to : (n : ℕ) (value : List ℕ) → list_all (λ b. nat_le 2 b) value ≡ true → IsSumOf n value → IsTrailer n (codes "10=" ++ (value ++ 1 ∷ []))
trailer_to n value no_soh is = record {
  value = tt;
  first = codes "10=";
  second = value ++ 1 ∷ [];
  is_first = refl;
  is_second = record { value = value; no_soh = clear value no_soh; is = is; spelled = refl };
  spelled = refl;
}

-- a Heartbeat with this CheckSum (10)
abbrev beat_parts : ℕ → Parts
beat_parts sum = record { before_sum = wire (codes "8=FIX.4.2|9=5|35=0|"); body = wire (codes "35=0|"); sum = sum }

beat_shape : (sum : ℕ) (value : List ℕ) → list_all (λ b. nat_le 2 b) value ≡ true → IsSumOf sum value → HasShape (beat_parts sum) (wire (codes "8=FIX.4.2|9=5|35=0|") ++ (codes "10=" ++ (value ++ 1 ∷ [])))
beat_shape sum value no_soh is = record {
  len = 5;
  head = wire (codes "8=FIX.4.2|9=5|");
  trailer = codes "10=" ++ (value ++ 1 ∷ []);
  is_head = head_to 5 (wire (codes "5|")) five;
  is_body = beat_body;
  is_trailer = trailer_to sum value no_soh is;
  front = refl;
  spelled = refl;
}

-- its one field
beat_fields : FieldsAfter None (wire (codes "35=0|")) (field 35 (codes "0") ∷ [])
beat_fields = (
  wire (codes "35=0|"),
  [],
  record { first = lit≤ tt; last = lit≤ tt; value = clear (codes "0") refl; spelled = field_is 35 (codes "35") (codes "0") tag_35 },
  refl,
  refl,
)

abbrev right_beat : List ℕ
right_beat = wire (codes "8=FIX.4.2|9=5|35=0|10=161|")

abbrev wrong_beat : List ℕ
wrong_beat = wire (codes "8=FIX.4.2|9=5|35=0|10=162|")

right_shape : HasShape (beat_parts 161) right_beat
right_shape = beat_shape 161 (codes "161") refl (record { digits = (lit< tt, (lit< tt, (lit< tt, tt))); three = refl; number = refl })

wrong_shape : HasShape (beat_parts 162) wrong_beat
wrong_shape = beat_shape 162 (codes "162") refl (record { digits = (lit< tt, (lit< tt, (lit< tt, tt))); three = refl; number = refl })

-- with the right CheckSum it is a frame
pub right_sum_is_a_frame : IsFrame right_beat
right_sum_is_a_frame = record {
  parts = beat_parts 161;
  shape = right_shape;
  right = record { checksum = refl; fields = record { list = field 35 (codes "0") ∷ []; are = beat_fields; each = (record { no_begin = λ e. omega (arith, e); no_length = λ e. omega (arith, e); no_sum = λ e. omega (arith, e) }, tt) } };
}

-- with another it has the shape of one
pub wrong_sum_is_a_shape : IsShape wrong_beat
wrong_sum_is_a_shape = (beat_parts 162, wrong_shape)

-- and is none
pub wrong_sum_is_no_frame : IsFrame wrong_beat → ⊥
wrong_sum_is_no_frame f =
    let same : f.parts ≡ beat_parts 162 = shape_free.value f.parts (beat_parts 162) wrong_beat f.shape wrong_shape in
    let written : f.parts.sum ≡ 162 = ap (λ (p : Parts). p.sum) same in
    let right : f.parts.sum ≡ 161 = f.right.checksum ∙ ap (λ (p : Parts). sum p.before_sum % 256) same in
    omega (arith, written, right)

-- ---- streams

abbrev at_start : List ℕ → UnreadBytes
at_start bytes = record { may_mark = true; bytes = bytes }

-- the frame with the wrong sum is skipped as one span, and the one behind it is read
pub a_wrong_sum_is_skipped : Reads (at_start (wrong_beat ++ right_beat)) (Span wrong_beat ∷ Frame right_beat ∷ []) (at_start [])
a_wrong_sum_is_skipped = record {
  all = (
    at_start right_beat,
    record { is = (refl, wrong_sum_is_a_shape, wrong_sum_is_no_frame); spelled = refl; mark = refl },
    (at_start [], record { is = (refl, right_sum_is_a_frame); spelled = refl; mark = refl }, refl),
  );
  end = nothing_ahead true [] refl;
}

-- where BodyLength (9) is 6, the sixth byte of the body is no SOH: no shape begins so, whatever comes
pub a_wrong_length_is_no_shape : NeverBegins IsShape (wire (codes "8=FIX.4.2|9=6|35=0|10=161|"))
a_wrong_length_is_no_shape =
    let all = wire (codes "8=FIX.4.2|9=6|35=0|10=161|") in
    let behind_head = wire (codes "35=0|10=161|") in
    let behind_type = wire (codes "0|10=161|") in
    let behind_value = wire (codes "10=161|") in
    let head : Begins (IsHead 6) all behind_head = record { text = wire (codes "8=FIX.4.2|9=6|"); is = head_to 6 (wire (codes "6|")) six; spelled = refl } in
    let type : Begins (IsText (codes "35=")) behind_head behind_type = record { text = codes "35="; is = refl; spelled = refl } in
    let value : Begins (IsLong 2) behind_type behind_value = record { text = wire (codes "0|"); is = refl; spelled = refl } in
    let no_soh : NeverBegins (IsText (1 ∷ [])) behind_value = text_wrong behind_value (1 ∷ []) 0 (lit< tt) (lit< tt) (λ e. omega (arith, e)) in
    span_stops_2 6 all behind_head Never head (body_reads (λ (w : List ℕ). w) 6 behind_head behind_type behind_value (Err Never) type value no_soh)

-- so its first byte is skipped
pub its_first_byte_is_skipped : IsItem (at_start (wire (codes "8=FIX.4.2|9=6|35=0|10=161|"))) (Byte 56)
its_first_byte_is_skipped = λ marked. a_wrong_length_is_no_shape

-- ---- fields

-- RawDataLength (95) says that RawData (96) has three bytes, one of which is an SOH
pub data_may_have_an_soh : FieldsAfter None (wire (codes "95=3|96=a|b|")) (field 95 (codes "3") ∷ field 96 (wire (codes "a|b")) ∷ [])
data_may_have_an_soh = (
  wire (codes "95=3|"),
  wire (codes "96=a|b|"),
  record { first = lit≤ tt; last = lit≤ tt; value = clear (codes "3") refl; spelled = field_is 95 (codes "95") (codes "3") tag_95 },
  refl,
  (wire (codes "96=a|b|"), [], record { first = lit≤ tt; last = lit≤ tt; value = refl; spelled = field_is 96 (codes "96") (wire (codes "a|b")) tag_96 }, refl, refl),
)

-- a CompID has 1 to 64 bytes and no SOH
pub comp_ids : (is_comp_id (codes "BROKER 1") ≡ true) × (is_comp_id [] ≡ false) × (is_comp_id (wire (codes "A|B")) ≡ false)
comp_ids = (refl, refl, refl)

-- ---- times

abbrev ten_o_clock : Moment
ten_o_clock = record { year = 2024; month = 1; day = 2; hour = 10; minute = 0; second = 0; fraction = codes "000" }

-- 1704189600 seconds after 1970 it is ten o'clock on 2024-01-02
pub ten_o_clock_in_milliseconds : IsTimeTextOf 3 1704189600000000 (codes "20240102-10:00:00.000")
unfolding days_from_civil day_count days_of_years days_of_months
ten_o_clock_in_milliseconds = record {
  moment = ten_o_clock;
  is = record { date = ((omega arith, omega arith), (lit≤ tt, lit≤ tt), (lit≤ tt, lit≤ tt)); hour = lit< tt; minute = lit< tt; second = lit≤ tt; digits = (lit< tt, (lit< tt, (lit< tt, tt))) };
  no_leap = lit< tt;
  many = refl;
  spelled = refl;
  says = refl;
}

-- digits of a microsecond are cut off
pub micros_are_cut : IsTimeTextOf 3 1704189600000999 (codes "20240102-10:00:00.000")
micros_are_cut =
    let t = ten_o_clock_in_milliseconds in
    record { moment = t.moment; is = t.is; no_leap = t.no_leap; many = t.many; spelled = t.spelled; says = t.says }

-- and it is read as that time
pub ten_o_clock_is_read : IsUtcTimestamp (codes "20240102-10:00:00.000") (pos 1704189600000000)
ten_o_clock_is_read = written_is_read 3 1704189600000000 (codes "20240102-10:00:00.000") (inr (inl refl)) ten_o_clock_in_milliseconds

-- ---- what the fields of a frame say

-- PossDupFlag (43) marks an order, and the header is no part of its body
pub a_marked_order : message_of (field 35 (codes "D") ∷ field 34 (codes "7") ∷ field 43 (codes "Y") ∷ field 49 (codes "A") ∷ field 11 (codes "X1") ∷ []) ≡ Some (App 7 true (wire (codes "35=D|11=X1|")))
a_marked_order =
    let body : fields_text (field 35 (codes "D") ∷ field 11 (codes "X1") ∷ []) ≡ wire (codes "35=D|11=X1|") = rw (tag_35, tag_11) refl in
    ap (λ (w : List ℕ). Some (App 7 true w)) body

-- PossDupFlag (43) = N doesn't
pub an_unmarked_order : message_of (field 35 (codes "D") ∷ field 34 (codes "7") ∷ field 43 (codes "N") ∷ []) ≡ Some (App 7 false (wire (codes "35=D|")))
an_unmarked_order =
    let body : fields_text (field 35 (codes "D") ∷ []) ≡ wire (codes "35=D|") = rw tag_35 refl in
    ap (λ (w : List ℕ). Some (App 7 false w)) body

pub a_heartbeat : message_of (field 35 (codes "0") ∷ field 34 (codes "12") ∷ []) ≡ Some (Admin 12)
a_heartbeat = refl

-- SequenceReset (35=4) with GapFillFlag (123) = Y
pub a_gap_fill : message_of (field 35 (codes "4") ∷ field 34 (codes "3") ∷ field 36 (codes "9") ∷ field 123 (codes "Y") ∷ []) ≡ Some (GapFill 3 9)
a_gap_fill = refl

-- without it, and with another value
pub a_reset : message_of (field 35 (codes "4") ∷ field 34 (codes "3") ∷ field 36 (codes "9") ∷ []) ≡ Some (ResetTo 3 9)
a_reset = refl

pub a_flag_of_no : message_of (field 35 (codes "4") ∷ field 34 (codes "3") ∷ field 123 (codes "N") ∷ field 36 (codes "9") ∷ []) ≡ Some (ResetTo 3 9)
a_flag_of_no = refl

-- without a readable NewSeqNo (36) it says its number alone
pub a_reset_to_nothing : message_of (field 35 (codes "4") ∷ field 34 (codes "3") ∷ field 36 (codes "0") ∷ []) ≡ Some (Admin 3)
a_reset_to_nothing = refl

-- a MsgSeqNum (34) that stands twice is not readable, nor is one of 0, of ten digits or with a sign
pub unreadable_numbers :
    (message_of (field 35 (codes "0") ∷ field 34 (codes "12") ∷ field 34 (codes "12") ∷ []) ≡ None)
    × (message_of (field 35 (codes "0") ∷ field 34 (codes "0") ∷ []) ≡ None)
    × (message_of (field 35 (codes "0") ∷ field 34 (codes "1000000000") ∷ []) ≡ None)
    × (message_of (field 35 (codes "0") ∷ field 34 (codes "+1") ∷ []) ≡ None)
    × (message_of (field 35 (codes "0") ∷ []) ≡ None)
unreadable_numbers = (refl, refl, refl, refl, refl)

-- digits with 0 in front are readable
pub a_padded_number : message_of (field 35 (codes "0") ∷ field 34 (codes "0012") ∷ []) ≡ Some (Admin 12)
a_padded_number = refl
