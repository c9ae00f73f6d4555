-- The frames that an end may write are frames, and say what they are meant to.
use Rattle.std.proofs.Common.{◌≡◌, inl, inr, ℕ, ◌+◌, ◌^◌, ◌<◌, ◌≤◌, ◌==◌, if◌then◌else◌, nat_lt, nat_le, codes, bytes_eq, List, [], ◌∷◌, ◌++◌, length, length-append, true, false, Option, Some, None, option_map, refl, sym, ap, ◌∙◌, subst, lt-ltb, lit<, le_refl, arith}
use Rattle.std.specs.List.{AllByRecursion, list_any}
use Rattle.std.specs.Fmt.{decimal}
use Rattle.std.specs.Str.{all_ascii_digits}
use Rattle.std.specs.Str.Parse.{digits_value}
use Rattle.std.proofs.lemmas.Bool.{eqb-true, le-leb}
use Rattle.std.proofs.lemmas.Fmt.{digits_decimal, digits_value-decimal, decimal_nonempty, length-decimal-le}
use Rattle.std.proofs.lemmas.Str.Parse.{IsNumeralModel, numerals_by_value, tells_all_ascii_digits}
use Rattle.std.proofs.lemmas.Slice.Eq.{bytes_eq-Decides}
use Rattle.fix_base.specs.Tags.{is_session_tag}
use Rattle.fix_base.specs.Session.{Identity}
use Rattle.fix_base.specs.Fields.{Field}
use Rattle.fix_base.specs.Shape.{IsBodyField, IsFrame}
use Rattle.fix_base.specs.Message as message
use Rattle.fix_base.specs.Message.{Message}
use Rattle.fix_base.specs.Says.{value_of, times_of, field_text, fields_text, body_of, number_in, seq_num_in, seq_num_of, new_seq_no_in, is_yes, is_admin_type, reset_of, message_with, message_from, message_of, Says}
use Rattle.fix_base.specs.End.{Entry, End, IsEntry}
use Rattle.fix_base.specs.Payload.{field, IsEntryField, IsAppType}
use Rattle.fix_base.specs.Wrote as wrote
use Rattle.fix_base.specs.Wrote.{IsSealed, original_fields, repeat_fields, gap_fields, optional, AdminFields, Carries, IsOriginal, IsRepeat, SkipsBetween, Gap, Writes, Wrote}
use Rattle.fix_base.proofs.WroteLemmas.{IsSkipped-some}
use Rattle.fix_base.proofs.HandledLemmas.{test}
use Rattle.fix_base.proofs.Seals.{AreOfMessage, sealed_is_frame, sealed_has_fields}
use Rattle.fix_base.proofs.Told as told
use Rattle.fix_base.proofs.Told.{OriginalSays, WritesMessages, SaysEach, WroteMessages}

-- ---- numbers as texts

number_from : (low high : ℕ) (d : List ℕ) (n : ℕ) → all_ascii_digits d ≡ true → 0 < length d → digits_value 10 d ≡ n → low ≤ n → n ≤ high → number_in low high d ≡ Some n
number_from low high d n digits some value above below =
    let long : nat_lt 0 (length d) ≡ true = lt-ltb 0 (length d) some in
    let at_least : nat_le low n ≡ true = le-leb low n above in
    let at_most : nat_le n high ≡ true = le-leb n high below in
    rw (digits, long, value, at_least, at_most) refl

numerals : IsNumeralModel (λ ds. all_ascii_digits ds ≡ true) (digits_value 10)
numerals = numerals_by_value (λ ds. all_ascii_digits ds ≡ true) tells_all_ascii_digits

number_decimal : (low high n : ℕ) → low ≤ n → n ≤ high → high < 2 ^ 64 → number_in low high (decimal n) ≡ Some n
number_decimal low high n above below fits =
    let small : n < 2 ^ 64 = omega arith in
    number_from low high (decimal n) n (digits_decimal numerals n small) (decimal_nonempty n small) (digits_value-decimal numerals n small) above below

short_number : (d : List ℕ) (n : ℕ) → length d ≤ 9 → number_in 1 999999999 d ≡ Some n → seq_num_in (Some d) ≡ Some n
short_number d n short e = let s : nat_le (length d) 9 ≡ true = le-leb (length d) 9 short in rw s e

-- a MsgSeqNum (34) as it is written is readable
pub seq_num_decimal : (n : ℕ) → 1 ≤ n → n ≤ 999999999 → seq_num_in (Some (decimal n)) ≡ Some n
seq_num_decimal n above below =
    let small : n < 2 ^ 64 = omega arith in
    short_number (decimal n) n (length-decimal-le 9 n (lit< tt) (omega arith) small) (number_decimal 1 999999999 n above below (lit< tt))

-- and so is a NewSeqNo (36)
new_seq_no_decimal : (n : ℕ) → 1 ≤ n → n ≤ 1000000000 → new_seq_no_in (Some (decimal n)) ≡ Some n
new_seq_no_decimal n above below = number_decimal 1 1000000000 n above below (lit< tt)

-- ---- the fields behind the header

-- a header tag is none of theirs
not_header : (f : Field) (tag : ℕ) → is_session_tag tag ≡ true → IsEntryField f → (f.tag == tag) ≡ false
not_header f tag header h = elim (test (f.tag == tag)) as (λ t. (f.tag == tag) ≡ false) [
  | inl t ↦ (let wrong : is_session_tag tag ≡ false = subst (λ k. is_session_tag k ≡ false) (eqb-true f.tag tag t) h.no_header in cc)
  | inr t ↦ t
]

none_of_these : (tag : ℕ) → is_session_tag tag ≡ true → (rest : List Field) → AllByRecursion IsEntryField rest → times_of tag rest ≡ 0
none_of_these tag header [] each = refl
none_of_these tag header (f ∷ rest) each = let no = not_header f tag header each.0 in rw no (none_of_these tag header rest each.1)

no_value : (tag : ℕ) → is_session_tag tag ≡ true → (rest : List Field) → AllByRecursion IsEntryField rest → value_of tag rest ≡ None
no_value tag header [] each = refl
no_value tag header (f ∷ rest) each = let no = not_header f tag header each.0 in rw no (no_value tag header rest each.1)

body_is : (rest : List Field) → AllByRecursion IsEntryField rest → body_of rest ≡ fields_text rest
body_is [] each = refl
body_is (f ∷ rest) each = let in_body : is_session_tag f.tag ≡ false = each.0.no_header in rw in_body (ap (λ w. field_text f ++ w) (body_is rest each.1))

body_fields : (rest : List Field) → AllByRecursion IsEntryField rest → AllByRecursion IsBodyField rest
body_fields [] each = tt
body_fields (f ∷ rest) each = (record { no_begin = each.0.no_begin; no_length = each.0.no_length; no_sum = each.0.no_sum }, body_fields rest each.1)

-- ---- the three kinds of frames are fields of a message

body_field : (tag : ℕ) (value : List ℕ) → 10 < tag → IsBodyField (field tag value)
body_field tag value high = record { no_begin = λ e. omega arith; no_length = λ e. omega arith; no_sum = λ e. omega arith }

two_long : (a b others : List ℕ) → 3 ≤ length a → 3 ≤ length b → 5 ≤ length (a ++ (b ++ others))
two_long a b others p q = omega (arith, length-append a (b ++ others), length-append b others)

three_long : (tag value : List ℕ) → 0 < length tag → 3 ≤ length (tag ++ 61 ∷ value ++ 1 ∷ [])
three_long tag value some = omega (arith, length-append (tag ++ 61 ∷ value) (1 ∷ []), length-append tag (61 ∷ value))

-- MsgType (35) and MsgSeqNum (34) alone have five bytes
long_enough : (type number : List ℕ) (fs : List Field) → 5 ≤ length (fields_text (field 35 type ∷ field 34 number ∷ fs))
long_enough type number fs =
    two_long (field_text (field 35 type)) (field_text (field 34 number)) (fields_text fs)
    (three_long (decimal 35) type (decimal_nonempty 35 (lit< tt))) (three_long (decimal 34) number (decimal_nonempty 34 (lit< tt)))

-- the fields behind the first
abbrev behind : List Field → List Field
behind [] = []
behind (f ∷ fs) = fs

pub original_is : (id : Identity) (number at type : List ℕ) (rest : List Field) → AllByRecursion IsEntryField rest → AreOfMessage (original_fields id number at type rest)
original_is id number at type rest each =
    let fields = original_fields id number at type rest in
    record {
      first = field 35 type;
      others = behind fields;
      spelled = refl;
      type = refl;
      long = long_enough type number (behind (behind fields));
      each = (body_field 35 type (lit< tt), (body_field 34 number (lit< tt), (body_field 49 id.sender (lit< tt), (body_field 52 at (lit< tt), (body_field 56 id.target (lit< tt), body_fields rest each)))));
    }

pub repeat_is : (id : Identity) (number at was type : List ℕ) (rest : List Field) → AllByRecursion IsEntryField rest → AreOfMessage (repeat_fields id number at was type rest)
repeat_is id number at was type rest each =
    let fields = repeat_fields id number at was type rest in
    record {
      first = field 35 type;
      others = behind fields;
      spelled = refl;
      type = refl;
      long = long_enough type number (behind (behind fields));
      each = (body_field 35 type (lit< tt), (body_field 34 number (lit< tt), (body_field 43 _ (lit< tt), (body_field 49 id.sender (lit< tt), (body_field 52 at (lit< tt), (body_field 56 id.target (lit< tt), (body_field 122 was (lit< tt), body_fields rest each)))))));
    }

pub gap_is : (id : Identity) (number next at : List ℕ) → AreOfMessage (gap_fields id number next at)
gap_is id number next at =
    let fields = gap_fields id number next at in
    record {
      first = field 35 (codes "4");
      others = behind fields;
      spelled = refl;
      type = refl;
      long = long_enough (codes "4") number (behind (behind fields));
      each = (body_field 35 _ (lit< tt), (body_field 34 number (lit< tt), (body_field 43 _ (lit< tt), (body_field 49 id.sender (lit< tt), (body_field 52 at (lit< tt), (body_field 56 id.target (lit< tt), (body_field 122 at (lit< tt), (body_field 36 next (lit< tt), (body_field 123 _ (lit< tt), tt)))))))));
    }

-- ---- what the fields say

-- an application message is no SequenceReset
no_reset : (type : List ℕ) → is_admin_type type ≡ false → bytes_eq type (codes "4") ≡ false
no_reset type app = elim (test (bytes_eq type (codes "4"))) as (λ t. bytes_eq type (codes "4") ≡ false) [
  | inl t ↦ (let wrong : is_admin_type (codes "4") ≡ false = subst (λ w. is_admin_type w ≡ false) ((bytes_eq-Decides type (codes "4")).0 t) app in cc)
  | inr t ↦ t
]

app_from : (type : List ℕ) (n : ℕ) (fs : List Field) → IsAppType type → message_with type n fs ≡ message.App n (is_yes (value_of 43 fs)) (body_of fs)
app_from type n fs app = rw (no_reset type app.no_admin, app.no_admin) refl

admin_from : (type : List ℕ) (n : ℕ) (fs : List Field) → bytes_eq type (codes "4") ≡ false → is_admin_type type ≡ true → message_with type n fs ≡ message.Admin n
admin_from type n fs reset admin = rw (reset, admin) refl

-- the one MsgSeqNum (34) among fields that have none behind it
one_number : (number : List ℕ) (n times : ℕ) → times ≡ 0 → seq_num_in (Some number) ≡ Some n → (if 1 + times == 1 then seq_num_in (Some number) else None) ≡ Some n
one_number number n times none is = rw none is

pub original_number : (id : Identity) (number : List ℕ) (n : ℕ) (at type : List ℕ) (rest : List Field) → seq_num_in (Some number) ≡ Some n → AllByRecursion IsEntryField rest → seq_num_of (original_fields id number at type rest) ≡ Some n
original_number id number n at type rest is each = one_number number n (times_of 34 rest) (none_of_these 34 refl rest each) is

repeat_number : (id : Identity) (number : List ℕ) (n : ℕ) (at was type : List ℕ) (rest : List Field) → seq_num_in (Some number) ≡ Some n → AllByRecursion IsEntryField rest → seq_num_of (repeat_fields id number at was type rest) ≡ Some n
repeat_number id number n at was type rest is each = one_number number n (times_of 34 rest) (none_of_these 34 refl rest each) is

original_app : (id : Identity) (number : List ℕ) (n : ℕ) (at type : List ℕ) (rest : List Field) → seq_num_in (Some number) ≡ Some n → IsAppType type → AllByRecursion IsEntryField rest → message_of (original_fields id number at type rest) ≡ Some (message.App n false (fields_text (field 35 type ∷ rest)))
original_app id number n at type rest is app each =
    ap (λ o. message_from (Some type) o (original_fields id number at type rest)) (original_number id number n at type rest is each) ∙ ap Some (app_from type n (original_fields id number at type rest) app) ∙
    ap (λ o. Some (message.App n (is_yes o) (field_text (field 35 type) ++ body_of rest))) (no_value 43 refl rest each) ∙
    ap (λ w. Some (message.App n false (field_text (field 35 type) ++ w))) (body_is rest each)

original_admin : (id : Identity) (number : List ℕ) (n : ℕ) (at type : List ℕ) (rest : List Field) → seq_num_in (Some number) ≡ Some n → bytes_eq type (codes "4") ≡ false → is_admin_type type ≡ true → AllByRecursion IsEntryField rest → message_of (original_fields id number at type rest) ≡ Some (message.Admin n)
original_admin id number n at type rest is reset admin each =
    ap (λ o. message_from (Some type) o (original_fields id number at type rest)) (original_number id number n at type rest is each) ∙ ap Some (admin_from type n (original_fields id number at type rest) reset admin)

repeat_app : (id : Identity) (number : List ℕ) (n : ℕ) (at was type : List ℕ) (rest : List Field) → seq_num_in (Some number) ≡ Some n → IsAppType type → AllByRecursion IsEntryField rest → message_of (repeat_fields id number at was type rest) ≡ Some (message.App n true (fields_text (field 35 type ∷ rest)))
repeat_app id number n at was type rest is app each =
    ap (λ o. message_from (Some type) o (repeat_fields id number at was type rest)) (repeat_number id number n at was type rest is each) ∙ ap Some (app_from type n (repeat_fields id number at was type rest) app) ∙
    ap (λ w. Some (message.App n true (field_text (field 35 type) ++ w))) (body_is rest each)

gap_says : (id : Identity) (number next : List ℕ) (n m : ℕ) (at : List ℕ) → seq_num_in (Some number) ≡ Some n → new_seq_no_in (Some next) ≡ Some m → message_of (gap_fields id number next at) ≡ Some (message.GapFill n m)
gap_says id number next n m at is next_is =
    ap (λ o. message_from (Some (codes "4")) o (gap_fields id number next at)) (one_number number n 0 refl is) ∙ ap (λ o. Some (reset_of n true o)) next_is

-- ---- the frames

-- an original, and what it says
pub record Original (n : ℕ) (e : Entry) (text : List ℕ) : Type 0 where
  pub message : Message
  pub is : OriginalSays n e message
  pub frame : IsFrame text
  pub says : Says text message

says_of : (id : Identity) (fields : List Field) (text : List ℕ) (x : Message) → AreOfMessage fields → IsSealed id fields text → message_of fields ≡ Some x → Says text x
says_of id fields text x are s e = record { fields = fields; has = sealed_has_fields id fields text are s; says = e }

pub app_original : (id : Identity) (n : ℕ) (text at : List ℕ) (type : List ℕ) (rest : List Field) → 1 ≤ n → n ≤ 999999999 → IsAppType type → AllByRecursion IsEntryField rest → IsSealed id (original_fields id (decimal n) at type rest) text → Says text (message.App n false (fields_text (field 35 type ∷ rest)))
app_original id n text at type rest some le app each sealed_so =
    says_of id (original_fields id (decimal n) at type rest) text _ (original_is id (decimal n) at type rest each) sealed_so (original_app id (decimal n) n at type rest (seq_num_decimal n some le) app each)

pub app_repeat : (id : Identity) (n : ℕ) (text at was type : List ℕ) (rest : List Field) → 1 ≤ n → n ≤ 999999999 → IsAppType type → AllByRecursion IsEntryField rest → IsSealed id (repeat_fields id (decimal n) at was type rest) text → Says text (message.App n true (fields_text (field 35 type ∷ rest)))
app_repeat id n text at was type rest some le app each sealed_so =
    says_of id (repeat_fields id (decimal n) at was type rest) text _ (repeat_is id (decimal n) at was type rest each) sealed_so (repeat_app id (decimal n) n at was type rest (seq_num_decimal n some le) app each)

pub gap_fill_says : (id : Identity) (n m : ℕ) (text at : List ℕ) → 1 ≤ n → n ≤ 999999999 → 1 ≤ m → m ≤ 1000000000 → IsSealed id (gap_fields id (decimal n) (decimal m) at) text → Says text (message.GapFill n m)
gap_fill_says id n m text at some le more fits sealed_so =
    says_of id (gap_fields id (decimal n) (decimal m) at) text _ (gap_is id (decimal n) (decimal m) at) sealed_so (gap_says id (decimal n) (decimal m) n m at (seq_num_decimal n some le) (new_seq_no_decimal m more fits))

-- ---- the fields of administrative messages

-- a field whose tag is one of a header or trailer that the engine writes is told by its number
entry_field : (tag : ℕ) (value : List ℕ) → list_any (λ t. t == tag) (8 ∷ 9 ∷ 10 ∷ 35 ∷ []) ≡ false → is_session_tag tag ≡ false → IsEntryField (field tag value)
entry_field tag value other header =
    let among : (n : ℕ) → tag ≡ n → list_any (λ t. t == n) (8 ∷ 9 ∷ 10 ∷ 35 ∷ []) ≡ false = λ n e. subst (λ m. list_any (λ t. t == m) (8 ∷ 9 ∷ 10 ∷ 35 ∷ []) ≡ false) e other in
    record {
      no_begin = λ e. (let w = among 8 e in cc);
      no_length = λ e. (let w = among 9 e in cc);
      no_sum = λ e. (let w = among 10 e in cc);
      no_type = λ e. (let w = among 35 e in cc);
      no_header = header;
    }

optional_fields : (tag : ℕ) (value : Option (List ℕ)) (others : List Field) → ((v : List ℕ) → IsEntryField (field tag v)) → AllByRecursion IsEntryField others → AllByRecursion IsEntryField (optional tag value ++ others)
optional_fields tag None others is each = each
optional_fields tag (Some v) others is each = (is v, each)

optional_field : (tag : ℕ) (value : Option (List ℕ)) → ((v : List ℕ) → IsEntryField (field tag v)) → AllByRecursion IsEntryField (optional tag value)
optional_field tag None is = tt
optional_field tag (Some v) is = (is v, tt)

-- none of them is one of the header
pub admin_fields : {about kind : ℕ} {rest : List Field} → AdminFields about kind rest → AllByRecursion IsEntryField rest
admin_fields (wrote.heartbeat id) = optional_field 112 id (λ v. entry_field 112 v refl refl)
admin_fields (wrote.test_request id) = (entry_field 112 id refl refl, tt)
admin_fields (wrote.resend_request from to range) = (entry_field 7 (decimal from) refl refl, (entry_field 16 (decimal to) refl refl, tt))
admin_fields {about = about} (wrote.reject tag reason type text) = (
  entry_field 45 (decimal about) refl refl,
  optional_fields 371 (option_map decimal tag) _ (λ v. entry_field 371 v refl refl)
      (entry_field 372 type refl refl, optional_fields 373 (option_map decimal reason) _ (λ v. entry_field 373 v refl refl) (optional_field 58 text (λ v. entry_field 58 v refl refl))),
)
admin_fields (wrote.logout text) = optional_field 58 text (λ v. entry_field 58 v refl refl)
admin_fields (wrote.logon heart reset) = (
  entry_field 98 (codes "0") refl refl,
  (entry_field 108 (decimal heart) refl refl, optional_field 141 (if reset then Some (codes "Y") else None) (λ v. entry_field 141 v refl refl)),
)

-- their MsgType is administrative, and not that of a SequenceReset
pub admin_typed : {about kind : ℕ} {rest : List Field} → AdminFields about kind rest → (bytes_eq (kind ∷ []) (codes "4") ≡ false) × (is_admin_type (kind ∷ []) ≡ true)
admin_typed (wrote.heartbeat id) = (refl, refl)
admin_typed (wrote.test_request id) = (refl, refl)
admin_typed (wrote.resend_request from to range) = (refl, refl)
admin_typed (wrote.reject tag reason type text) = (refl, refl)
admin_typed (wrote.logout text) = (refl, refl)
admin_typed (wrote.logon heart reset) = (refl, refl)

pub admin_original : (id : Identity) (n : ℕ) (text at : List ℕ) {about kind : ℕ} {rest : List Field} → 1 ≤ n → n ≤ 999999999 → AdminFields about kind rest → IsSealed id (original_fields id (decimal n) at (kind ∷ []) rest) text → Says text (message.Admin n)
admin_original id n text at {kind = kind} {rest = rest} some le fields sealed_so =
    let typed = admin_typed fields in
    says_of id (original_fields id (decimal n) at (kind ∷ []) rest) text _ (original_is id (decimal n) at (kind ∷ []) rest (admin_fields fields)) sealed_so (original_admin id (decimal n) n at (kind ∷ []) rest (seq_num_decimal n some le) typed.0 typed.1 (admin_fields fields))

pub original_of : (id : Identity) (n : ℕ) (e : Entry) (text at type : List ℕ) (rest : List Field) → 1 ≤ n → n ≤ 999999999 → Carries e type rest → IsSealed id (original_fields id (decimal n) at type rest) text → Original n e text
original_of id n e text at type rest some le (wrote.app {time = time} {by = by} {body = body} is) sealed_so =
    record {
      message = message.App n false body;
      is = told.app time by body;
      frame = sealed_is_frame id (original_fields id (decimal n) at type rest) text (original_is id (decimal n) at type rest is.each) sealed_so;
      says = subst (λ w. Says text (message.App n false w)) (sym is.spelled) (app_original id n text at type rest some le is.app is.each sealed_so);
    }
original_of id n e text at type rest some le (wrote.admin {time = time} {kind = kind} {about = about} fields) sealed_so =
    record {
      message = message.Admin n;
      is = told.admin time kind about;
      frame = sealed_is_frame id (original_fields id (decimal n) at (kind ∷ []) rest) text (original_is id (decimal n) at (kind ∷ []) rest (admin_fields fields)) sealed_so;
      says = admin_original id n text at some le fields sealed_so;
    }
original_of id n e text at type rest some le (wrote.once {time = time} {kind = kind} {about = about} is app each) sealed_so =
    record {
      message = message.App n false (fields_text (field 35 type ∷ rest));
      is = told.once time kind about (fields_text (field 35 type ∷ rest)) is;
      frame = sealed_is_frame id (original_fields id (decimal n) at type rest) text (original_is id (decimal n) at type rest each) sealed_so;
      says = app_original id n text at type rest some le app each sealed_so;
    }

-- an entry's number is 1 or more
pub entry_some : {out : List Entry} {n : ℕ} {e : Entry} → IsEntry out n e → 1 ≤ n
entry_some h = let at = h.place in omega arith

gap_some : {e : End} {n m : ℕ} → n < m → SkipsBetween e n m → 1 ≤ n
gap_some {n = n} lt h = IsSkipped-some (h.each n (le_refl n) lt)

pub repeat_says : (id : Identity) (n time : ℕ) (body : List ℕ) (t : ℕ) (text : List ℕ) → 1 ≤ n → n ≤ 999999999 → IsRepeat id n time body t text → Says text (message.App n true body)
repeat_says id n time body t text some le is = subst (λ w. Says text (message.App n true w)) (sym is.carries.spelled) (app_repeat id n text is.at is.was is.type is.rest some le is.carries.app is.carries.each is.sealed_so)

-- what the frames say, and that it may be written
record Tells (old new : End) (last : ℕ) (texts : List (List ℕ)) (to : ℕ) : Type 0 where
  messages : List Message
  says : SaysEach texts messages
  writes : WritesMessages old new last messages to

tells : {id : Identity} {old new : End} {last to : ℕ} {gaps : List Gap} {texts : List (List ℕ)} → Writes id old new last gaps texts to → Tells old new last texts to
tells wrote.done = record { messages = []; says = told.done; writes = told.done }
tells {id = id} (wrote.original {text = text} n e le above entry is others) =
    let o = original_of id n e text is.at is.type is.rest (entry_some entry) le is.carries is.sealed_so in
    let t = tells others in
    record { messages = o.message ∷ t.messages; says = told.one o.frame o.says t.says; writes = told.original n e above entry o.is t.writes }
tells {id = id} (wrote.again {text = text} n time by body t le entry free uncovered is others) =
    let fields = repeat_fields id (decimal n) is.at is.was is.type is.rest in
    let are = repeat_is id (decimal n) is.at is.was is.type is.rest is.carries.each in
    let s = repeat_says id n time body t text (entry_some entry) le is in
    let o = tells others in
    record { messages = message.App n true body ∷ o.messages; says = told.one (sealed_is_frame id fields text are is.sealed_so) s o.says; writes = told.again n body (record { time = time; by = by; entry = entry }) free o.writes }
tells {id = id} (wrote.gap_fill {text = text} n m t le some inside skips is others) =
    let fields = gap_fields id (decimal n) (decimal m) is.at in
    let are = gap_is id (decimal n) (decimal m) is.at in
    let above = gap_some some skips in
    let s = says_of id fields text _ are is.sealed_so (gap_says id (decimal n) (decimal m) n m is.at (seq_num_decimal n above (omega arith)) (new_seq_no_decimal m (omega arith) le)) in
    let o = tells others in
    record { messages = message.GapFill n m ∷ o.messages; says = told.one (sealed_is_frame id fields text are is.sealed_so) s o.says; writes = told.gap_fill n m some inside skips o.writes }

-- what may have been written, as messages
pub wrote_of : (id : Identity) (old new : End) (w : List ℕ) → Wrote id old new w → WroteMessages old new w
wrote_of id old new w h =
    let t = tells h.writes in
    record { grew = h.grew; messages = t.messages; last = h.last; writes = t.writes; spells = record { texts = h.texts; says = t.says; front = h.front } }
