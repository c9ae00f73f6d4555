-- What a session says is a message that may be staged.
use Rattle.std.proofs.Common.{◌≡◌, ◌≢◌, ℕ, zero, suc, ◌+◌, ◌/◌, ◌%◌, ◌≤◌, ◌==◌, nat_lt, nat_le, Bool, true, false}
use Rattle.std.proofs.Common.{if◌then◌else◌, List, [], ◌∷◌, ◌++◌, length, length-append, take, codes, Option, Some, None}
use Rattle.std.proofs.Common.{refl, sym, ap, subst, append_assoc, lit≤, lit<, arith}
use Rattle.std.specs.Prelude.{option_map}
use Rattle.std.specs.List.{AllByRecursion, list_all}
use Rattle.std.specs.Fmt.{decimal, digits, digits_onto, digit_glyph}
use Rattle.std.proofs.lemmas.Bool.{leb-true}
use Rattle.std.proofs.lemmas.List.{get_or-take, length-take}
use Rattle.fix_base.specs.declared.identity.Begin.{Begin}
use Rattle.fix_base.specs.Tags.{data_tag}
use Rattle.fix_base.specs.Frame.{HasNoSoh}
use Rattle.fix_base.specs.Fields.{Field, FieldsAfter}
use Rattle.fix_base.specs.Says.{field_text, fields_text}
use Rattle.fix_base.specs.Payload.{field, LAST_TIME, LONGEST_BODY, IsAdminPayload}
use Rattle.fix_base.specs.Wrote as wrote
use Rattle.fix_base.specs.Wrote.{AdminFields, optional}
use Rattle.fix_base.proofs.PlainFields.{IsPlainField, plain_fields}
use Rattle.fix_base.proofs.ShortFields.{clear_of}
use Rattle.fix_admin.specs.declared.say.LogoutText.{LogoutText}
use Rattle.fix_admin.specs.declared.say.LogoutText.TheVariants as text
use Rattle.fix_admin.specs.Say as say
use Rattle.fix_admin.specs.Say.{SaySeen, type_of, fields_of, tag_fields, reason_fields, text_fields, ref_type, reason_text, logout_text, is_named}
use Rattle.fix_stage.specs.Outgoing.{IsOutgoing}
use Rattle.fix_steps.specs.Said.{about_of, said_outgoing, IsSayable}

-- ---- values with no SOH, and how long they are

clear_nil : HasNoSoh []
clear_nil k lt e = omega (arith, lt)

clear_cons : (x : ℕ) (xs : List ℕ) → x ≢ 1 → HasNoSoh xs → HasNoSoh (x ∷ xs)
clear_cons x xs other rest zero lt e = other e
clear_cons x xs other rest (suc k) lt e = rest k (omega (arith, lt)) e

clear_tail : (x : ℕ) (xs : List ℕ) → HasNoSoh (x ∷ xs) → HasNoSoh xs
clear_tail x xs h k lt e = h (suc k) (omega (arith, lt)) e

clear_append : (xs ys : List ℕ) → HasNoSoh xs → HasNoSoh ys → HasNoSoh (xs ++ ys)
clear_append [] ys p q = q
clear_append (x ∷ xs) ys p q = clear_cons x (xs ++ ys) (p zero (omega arith)) (clear_append xs ys (clear_tail x xs p) q)

clear_take : (n : ℕ) (xs : List ℕ) → HasNoSoh xs → HasNoSoh (take n xs)
clear_take n xs h k lt = rw (get_or-take n xs k 0 (omega (arith, lt, length-take n xs))) (h k (omega (arith, lt, length-take n xs)))

-- a value with no SOH, of at most so many bytes
record IsValue (room : ℕ) (v : List ℕ) : Type 0 where
  clear : HasNoSoh v
  short : length v ≤ room

value_if : (b : Bool) (room : ℕ) (x y : List ℕ) → IsValue room x → IsValue room y → IsValue room (if b then x else y)
value_if true room x y p q = p
value_if false room x y p q = q

value_codes : (v : List ℕ) → list_all (λ b. nat_le 2 b) v ≡ true → nat_le (length v) 200 ≡ true → IsValue 200 v
value_codes v above few = record { clear = clear_of (λ b. nat_le 2 b) v refl above; short = leb-true (length v) 200 few }

-- the digits of a number
glyph_other : (d : ℕ) → digit_glyph false d ≢ 1
glyph_other d = by (nat_lt d 10)
  where
    by : (b : Bool) → (if b then 48 + d else 87 + d) ≢ 1
    by true e = omega (arith, e)
    by false e = omega (arith, e)

more_digits : (k n : ℕ) (acc : List ℕ) → HasNoSoh acc → IsValue (k + length acc) (digits_onto k 10 false n acc)
more_digits zero n acc h = record { clear = h; short = omega arith }
more_digits (suc k) n acc h =
    let d = digit_glyph false (n % 10) in
    let one = clear_cons d acc (glyph_other (n % 10)) h in
    let rest = more_digits k (n / 10) (d ∷ acc) one in
    value_if (n / 10 == 0) (suc k + length acc) (d ∷ acc) (digits_onto k 10 false (n / 10) (d ∷ acc)) (record { clear = one; short = omega arith }) (record { clear = rest.clear; short = omega (arith, rest.short) })

digits_value : (n : ℕ) → IsValue 64 (decimal n)
unfolding digits
digits_value n = more_digits 64 n [] clear_nil

-- ---- texts

no_text : IsValue 200 []
no_text = record { clear = clear_nil; short = lit≤ tt }

reason_value : (reason : ℕ) → IsValue 200 (reason_text reason)
reason_value reason =
    value_if (reason == 0) 200 (codes "Invalid tag number") _ (value_codes (codes "Invalid tag number") refl refl)
    (value_if (reason == 1) 200 (codes "Required tag missing") _ (value_codes (codes "Required tag missing") refl refl)
    (value_if (reason == 2) 200 (codes "Tag not defined for this message type") _ (value_codes (codes "Tag not defined for this message type") refl refl)
    (value_if (reason == 4) 200 (codes "Tag specified without a value") _ (value_codes (codes "Tag specified without a value") refl refl)
    (value_if (reason == 5) 200 (codes "Value is incorrect (out of range) for this tag") _ (value_codes (codes "Value is incorrect (out of range) for this tag") refl refl)
    (value_if (reason == 6) 200 (codes "Incorrect data format for value") _ (value_codes (codes "Incorrect data format for value") refl refl)
    (value_if (reason == 9) 200 (codes "CompID problem") _ (value_codes (codes "CompID problem") refl refl)
    (value_if (reason == 10) 200 (codes "SendingTime accuracy problem") _ (value_codes (codes "SendingTime accuracy problem") refl refl)
    (value_if (reason == 11) 200 (codes "Invalid MsgType") _ (value_codes (codes "Invalid MsgType") refl refl)
    (value_if (reason == 13) 200 (codes "Tag appears more than once") _ (value_codes (codes "Tag appears more than once") refl refl)
    (value_if (reason == 14) 200 (codes "Tag specified out of required order") _ (value_codes (codes "Tag specified out of required order") refl refl)
    (value_if (reason == 15) 200 (codes "Repeating group fields out of order") _ (value_codes (codes "Repeating group fields out of order") refl refl)
    (value_if (reason == 16) 200 (codes "Incorrect NumInGroup count") _ (value_codes (codes "Incorrect NumInGroup count") refl refl) no_text))))))))))))

low_text : (a b : List ℕ) (m n : ℕ) → IsValue 200 a → IsValue 200 b → length a + length b ≤ 50 → IsValue 200 (a ++ decimal m ++ b ++ decimal n)
low_text a b m n p q few = record {
  clear = clear_append (a ++ decimal m ++ b) (decimal n) (clear_append (a ++ decimal m) b (clear_append a (decimal m) p.clear (digits_value m).clear) q.clear) (digits_value n).clear;
  short = omega (arith, few, length-append (a ++ decimal m ++ b) (decimal n), length-append (a ++ decimal m) b, length-append a (decimal m), (digits_value m).short, (digits_value n).short);
}

logout_value : (t : LogoutText) → IsValue 200 (logout_text t)
logout_value text.Empty = no_text
logout_value (text.TooLow expected received) =
    low_text (codes "MsgSeqNum too low, expecting ") (codes " but received ") expected received (value_codes _ refl refl) (value_codes _ refl refl) (lit≤ tt)
logout_value text.BeginString = value_codes (codes "Incorrect BeginString") refl refl
logout_value text.NoNumber = value_codes (codes "MsgSeqNum missing") refl refl
logout_value text.CompId = value_codes (codes "CompID problem") refl refl
logout_value text.SendingTime = value_codes (codes "SendingTime accuracy problem") refl refl
logout_value text.OutOfWindow = value_codes (codes "Session time is over") refl refl
logout_value text.ResetFlag = value_codes (codes "ResetSeqNumFlag not supported") refl refl

-- ---- fields

-- fields that announce nothing, with values that are together so long at the most
record AreShort (room : ℕ) (fs : List Field) : Type 0 where
  plain : AllByRecursion IsPlainField fs
  long : length (fields_text fs) ≤ room

none_short : (room : ℕ) → AreShort room []
none_short room = record { plain = tt; long = omega arith }

field_long : (tag value : List ℕ) → length (tag ++ 61 ∷ value ++ 1 ∷ []) ≡ length tag + length value + 2
field_long tag value = omega (arith, length-append (tag ++ 61 ∷ value) (1 ∷ []), length-append tag (61 ∷ value))

-- one field of a tag below 1000, and others
one_more : (room more tag : ℕ) (v : List ℕ) (fs : List Field) → 1 ≤ tag → tag ≤ 999999999 → data_tag tag ≡ None → length (decimal tag) ≤ 4 → IsValue room v → AreShort more fs → AreShort (room + 6 + more) (field tag v ∷ fs)
one_more room more tag v fs first last no_data digits h k = record {
  plain = (record { first = first; last = last; no_soh = h.clear; no_length = no_data }, k.plain);
  long = omega (arith, length-append (field_text (field tag v)) (fields_text fs), field_long (decimal tag) v, digits, h.short, k.long);
}

both_short : (a b : ℕ) (fs gs : List Field) → AreShort a fs → AreShort b gs → AreShort (a + b) (fs ++ gs)
both_short a b [] gs p q = record { plain = q.plain; long = omega (arith, q.long) }
both_short a b (f ∷ fs) gs p q =
    let rest = both_short (length (fields_text fs)) b fs gs (record { plain = p.plain.1; long = omega arith }) q in
    record {
      plain = (p.plain.0, rest.plain);
      long = omega (arith, length-append (field_text f) (fields_text (fs ++ gs)), length-append (field_text f) (fields_text fs), rest.long, p.long);
    }

wider : (few : ℕ) (fs : List Field) → AreShort few fs → few ≤ 1048050 → AreShort 1048050 fs
wider few fs h le = record { plain = h.plain; long = omega (arith, h.long, le) }

text_short : (t : List ℕ) → IsValue 200 t → AreShort 206 (text_fields t)
unfolding digits
text_short [] h = none_short 206
text_short (b ∷ bs) h = one_more 200 0 58 (b ∷ bs) [] (lit≤ tt) (lit≤ tt) refl (lit≤ tt) h (none_short 0)

tag_short : (tag : Option ℕ) → AreShort 70 (tag_fields tag)
unfolding digits
tag_short None = none_short 70
tag_short (Some tag) = one_more 64 0 371 (decimal tag) [] (lit≤ tt) (lit≤ tt) refl (lit≤ tt) (digits_value tag) (none_short 0)

reason_short : (b : Bool) (reason : ℕ) → AreShort 70 (if b then field 373 (decimal reason) ∷ [] else [])
unfolding digits
reason_short true reason = one_more 64 0 373 (decimal reason) [] (lit≤ tt) (lit≤ tt) refl (lit≤ tt) (digits_value reason) (none_short 0)
reason_short false reason = none_short 70

take_value : (n : ℕ) (v : List ℕ) → HasNoSoh v → IsValue n (take n v)
take_value n v clear = record { clear = clear_take n v clear; short = omega (arith, length-take n v) }

reset_short : (reset : Bool) → AreShort 7 (say.reset_fields reset)
unfolding digits
reset_short false = none_short 7
reset_short true = one_more 1 0 141 (codes "Y") [] (lit≤ tt) (lit≤ tt) refl (lit≤ tt) (record { clear = clear_of (λ b. nat_le 2 b) (codes "Y") refl refl; short = lit≤ tt }) (none_short 0)

said_short : (begin : Begin) (s : SaySeen) → IsSayable s → AreShort 1048050 (fields_of begin s)
unfolding digits
said_short begin (say.Heartbeat None) h = none_short 1048050
said_short begin (say.Heartbeat (Some id)) h =
    wider 1048006 _ (one_more 1048000 0 112 (take 1048000 id) [] (lit≤ tt) (lit≤ tt) refl (lit≤ tt) (take_value 1048000 id h) (none_short 0)) (lit≤ tt)
said_short begin say.TestRequest h = wider 206 _ (one_more 200 0 112 (codes "TEST") [] (lit≤ tt) (lit≤ tt) refl (lit≤ tt) (value_codes (codes "TEST") refl refl) (none_short 0)) (lit≤ tt)
said_short begin (say.ResendRequest from to) h =
    wider 140 _ (one_more 64 70 7 (decimal from) _ (lit≤ tt) (lit≤ tt) refl (lit≤ tt) (digits_value from) (one_more 64 0 16 (decimal to) [] (lit≤ tt) (lit≤ tt) refl (lit≤ tt) (digits_value to) (none_short 0))) (lit≤ tt)
said_short begin (say.Reject about type fault) h =
    let reasons = one_more 8 70 372 (take 8 type) _ (lit≤ tt) (lit≤ tt) refl (lit≤ tt) (take_value 8 type h.0) (reason_short (is_named begin fault.reason) fault.reason) in
    let named = both_short 70 84 (tag_fields fault.tag) (ref_type type ∷ reason_fields begin fault.reason) (tag_short fault.tag) reasons in
    let all = both_short 154 206 (tag_fields fault.tag ++ ref_type type ∷ reason_fields begin fault.reason) (text_fields (reason_text fault.reason)) named (text_short (reason_text fault.reason) (reason_value fault.reason)) in
    wider 430 _ (one_more 64 360 45 (decimal about) _ (lit≤ tt) (lit≤ tt) refl (lit≤ tt) (digits_value about) all) (lit≤ tt)
said_short begin (say.GapFill next) h = absurd h
said_short begin (say.Logout t) h = wider 206 _ (text_short (logout_text t) (logout_value t)) (lit≤ tt)
said_short begin (say.Logon heart reset None) h =
    wider 283 _ (one_more 200 77 98 (codes "0") _ (lit≤ tt) (lit≤ tt) refl (lit≤ tt) (value_codes (codes "0") refl refl) (one_more 64 7 108 (decimal heart) _ (lit≤ tt) (lit≤ tt) refl (lit≤ tt) (digits_value heart) (both_short 7 0 (say.reset_fields reset) [] (reset_short reset) (none_short 0)))) (lit≤ tt)
said_short begin (say.Logon heart reset (Some version)) h = cc

-- ---- they are the fields of an administrative message

text_is : (t : List ℕ) → (o : Option (List ℕ)) × (text_fields t ≡ optional 58 o)
text_is [] = (None, refl)
text_is (b ∷ bs) = (Some (b ∷ bs), refl)

tag_is : (tag : Option ℕ) → tag_fields tag ≡ optional 371 (option_map decimal tag)
tag_is None = refl
tag_is (Some tag) = refl

reason_is : (b : Bool) (reason : ℕ) → (o : Option ℕ) × ((if b then field 373 (decimal reason) ∷ [] else []) ≡ optional 373 (option_map decimal o))
reason_is true reason = (Some reason, refl)
reason_is false reason = (None, refl)

rejecting : (tags reasons texts : List Field) (first named : Field) → (first ∷ tags ++ named ∷ reasons ++ texts) ≡ first ∷ (tags ++ (named ∷ (reasons ++ texts)))
rejecting tags reasons texts first named = ap (λ l. first ∷ l) (append_assoc tags (named ∷ reasons) texts)

pub said_fields : (begin : Begin) (s : SaySeen) → IsSayable s → AdminFields (about_of s) (type_of s) (fields_of begin s)
said_fields begin (say.Heartbeat None) h = wrote.heartbeat None
said_fields begin (say.Heartbeat (Some id)) h = wrote.heartbeat (Some (take 1048000 id))
said_fields begin say.TestRequest h = wrote.test_request (codes "TEST")
said_fields begin (say.ResendRequest from to) h = wrote.resend_request from to h
said_fields begin (say.Reject about type fault) h =
    let t = text_is (reason_text fault.reason) in
    let r = reason_is (is_named begin fault.reason) fault.reason in
    let one : AdminFields about 51 (field 45 (decimal about) ∷ (optional 371 (option_map decimal fault.tag) ++ (ref_type type ∷ (optional 373 (option_map decimal r.0) ++ optional 58 t.0)))) = wrote.reject fault.tag r.0 (take 8 type) t.0 in
    subst (λ (l : List Field). AdminFields about 51 l) (sym (rejecting (tag_fields fault.tag) (reason_fields begin fault.reason) (text_fields (reason_text fault.reason)) (field 45 (decimal about)) (ref_type type)))
    (subst (λ (l : List Field). AdminFields about 51 (field 45 (decimal about) ∷ (l ++ (ref_type type ∷ (reason_fields begin fault.reason ++ text_fields (reason_text fault.reason)))))) (sym (tag_is fault.tag))
    (subst (λ (l : List Field). AdminFields about 51 (field 45 (decimal about) ∷ (optional 371 (option_map decimal fault.tag) ++ (ref_type type ∷ (l ++ text_fields (reason_text fault.reason)))))) (sym r.1)
    (subst (λ (l : List Field). AdminFields about 51 (field 45 (decimal about) ∷ (optional 371 (option_map decimal fault.tag) ++ (ref_type type ∷ (optional 373 (option_map decimal r.0) ++ l))))) (sym t.1) one)))
said_fields begin (say.GapFill next) h = absurd h
said_fields begin (say.Logout t) h = let o = text_is (logout_text t) in subst (λ (l : List Field). AdminFields 0 53 l) (sym o.1) (wrote.logout o.0)
said_fields begin (say.Logon heart true None) h = wrote.logon heart true
said_fields begin (say.Logon heart false None) h = wrote.logon heart false
said_fields begin (say.Logon heart reset (Some version)) h = cc

-- ---- its entry may be kept

pub payload : (time : ℕ) (s : SaySeen) → time ≤ LAST_TIME → IsSayable s → IsAdminPayload time (type_of s) (about_of s)
payload time (say.Heartbeat id) small h = record { time_fits = small; kind_known = refl; about_fits = omega arith }
payload time say.TestRequest small h = record { time_fits = small; kind_known = refl; about_fits = omega arith }
payload time (say.ResendRequest from to) small h = record { time_fits = small; kind_known = refl; about_fits = omega arith }
payload time (say.Reject about type fault) small h = record { time_fits = small; kind_known = refl; about_fits = h.1 }
payload time (say.GapFill next) small h = absurd h
payload time (say.Logout t) small h = record { time_fits = small; kind_known = refl; about_fits = omega arith }
payload time (say.Logon heart reset version) small h = record { time_fits = small; kind_known = refl; about_fits = omega arith }

one_clear : (b : ℕ) → b ≢ 1 → HasNoSoh (b ∷ [])
one_clear b other = clear_cons b [] other clear_nil

pub type_clear : (s : SaySeen) → HasNoSoh (type_of s ∷ [])
type_clear (say.Heartbeat id) = one_clear 48 (λ e. omega arith)
type_clear say.TestRequest = one_clear 49 (λ e. omega arith)
type_clear (say.ResendRequest from to) = one_clear 50 (λ e. omega arith)
type_clear (say.Reject about type fault) = one_clear 51 (λ e. omega arith)
type_clear (say.GapFill next) = one_clear 52 (λ e. omega arith)
type_clear (say.Logout t) = one_clear 53 (λ e. omega arith)
type_clear (say.Logon heart reset version) = one_clear 65 (λ e. omega arith)

pub said_are : (begin : Begin) (s : SaySeen) → IsSayable s → FieldsAfter None (fields_text (fields_of begin s)) (fields_of begin s)
said_are begin s h = plain_fields (fields_of begin s) (said_short begin s h).plain

pub said_long : (begin : Begin) (s : SaySeen) → IsSayable s → length (type_of s ∷ []) + length (fields_text (fields_of begin s)) + 4 ≤ LONGEST_BODY
said_long begin s h = let short = said_short begin s h in omega (arith, short.long)

-- what is said may be staged
abbrev pub said_is_outgoing : (begin : Begin) (time : ℕ) (s : SaySeen) → time ≤ LAST_TIME → IsSayable s → IsOutgoing (said_outgoing begin time s)
said_is_outgoing begin time s small h = record {
  payload = payload time s small h;
  named = lit< tt;
  clear = type_clear s;
  fields = fields_of begin s;
  spelled = refl;
  are = said_are begin s h;
  carries = wrote.admin (said_fields begin s h);
  short = said_long begin s h;
}
