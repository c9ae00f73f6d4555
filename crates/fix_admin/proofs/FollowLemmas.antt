-- What a session message says, and a BusinessMessageReject, may stand after the header of a frame.
use Rattle.std.proofs.Common.{◌≡◌, ◌≢◌, ℕ, zero, suc, ◌+◌, ◌/◌, ◌%◌, ◌≤◌, ◌==◌, nat_lt, nat_le, Bool, true, false, if◌then◌else◌, List, [], ◌∷◌, ◌++◌, length, length-append, take, codes, Option, Some, None, refl, sym, ap, subst, ◌∙◌, append_assoc, lit≤, lit<, arith}
use Rattle.std.specs.Prelude.{IfOk, Result, Ok, Err}
use Rattle.std.specs.List.{AllByRecursion, list_all}
use Rattle.std.proofs.lemmas.Bool.{leb-true}
use Rattle.std.specs.Fmt.{decimal, digits, digits_onto, digit_glyph}
use Rattle.std.proofs.lemmas.Fmt.{length-decimal-le}
use Rattle.std.proofs.lemmas.List.{get_or-take, length-take}
use Rattle.fix_base.specs.declared.identity.Begin.{Begin}
use Rattle.fix_base.specs.Tags.{data_tag, is_session_tag}
use Rattle.fix_base.specs.Frame.{HasNoSoh}
use Rattle.fix_base.specs.Fields.{Field, FieldsAfter, data_after}
use Rattle.fix_base.specs.Says.{field_text, fields_text}
use Rattle.fix_base.specs.Payload.{field, IsEntryField, LONGEST_BODY}
use Rattle.fix_base.proofs.PlainFields.{IsPlainField, plain_fields}
use Rattle.fix_base.proofs.ShortFields.{clear_of}
use Rattle.fix_admin.specs.declared.say.LogoutText.{LogoutText}
use Rattle.fix_admin.specs.declared.say.LogoutText.TheVariants as text
use Rattle.fix_admin.specs.Say as say
use Rattle.fix_admin.specs.Say.{SaySeen, fields_of, business_fields, logon_fields, id_fields, tag_fields, reason_fields, text_fields, reset_fields, version_fields, ref_type, reason_text, logout_text}
use Rattle.fix_fields.specs.Faulty.{due_behind}
use Rattle.fix_admin.specs.Follows.{MayFollow, IsClear, GivesBackValues, IsWhole}

-- ---- values with no SOH

clear_nil : HasNoSoh []
clear_nil k lt e = omega (arith, lt)

clear_cons : (x : ℕ) (xs : List ℕ) → x ≢ 1 → HasNoSoh xs → HasNoSoh (x ∷ xs)
clear_cons x xs other rest zero lt e = other e
clear_cons x xs other rest (suc k) lt e = rest k (omega (arith, lt)) e

clear_tail : (x : ℕ) (xs : List ℕ) → HasNoSoh (x ∷ xs) → HasNoSoh xs
clear_tail x xs h k lt e = h (suc k) (omega (arith, lt)) e

clear_append : (xs ys : List ℕ) → HasNoSoh xs → HasNoSoh ys → HasNoSoh (xs ++ ys)
clear_append [] ys p q = q
clear_append (x ∷ xs) ys p q = clear_cons x (xs ++ ys) (p zero (omega arith)) (clear_append xs ys (clear_tail x xs p) q)

clear_take : (n : ℕ) (xs : List ℕ) → HasNoSoh xs → HasNoSoh (take n xs)
clear_take n xs h k lt = rw (get_or-take n xs k 0 (omega (arith, lt, length-take n xs))) (h k (omega (arith, lt, length-take n xs)))

abbrev list_all_above : List ℕ → Bool
list_all_above v = list_all (λ b. nat_le 2 b) v

clear_codes : (v : List ℕ) → list_all_above v ≡ true → HasNoSoh v
clear_codes v e = clear_of (λ b. nat_le 2 b) v refl e

-- the digits of a number: no SOH, and at most 64
glyph_other : (d : ℕ) → digit_glyph false d ≢ 1
glyph_other d = by (nat_lt d 10)
  where
    by : (b : Bool) → (if b then 48 + d else 87 + d) ≢ 1
    by true e = omega (arith, e)
    by false e = omega (arith, e)

-- what holds of one more digit holds of all
record IsDigits (room : ℕ) (ds : List ℕ) : Type 0 where
  clear : HasNoSoh ds
  long : length ds ≤ room

either_digits : (b : Bool) (room : ℕ) (x y : List ℕ) → IsDigits room x → IsDigits room y → IsDigits room (if b then x else y)
either_digits true room x y p q = p
either_digits false room x y p q = q

more_digits : (k n : ℕ) (acc : List ℕ) → HasNoSoh acc → IsDigits (k + length acc) (digits_onto k 10 false n acc)
more_digits zero n acc h = record { clear = h; long = omega arith }
more_digits (suc k) n acc h =
    let d = digit_glyph false (n % 10) in
    let one = clear_cons d acc (glyph_other (n % 10)) h in
    let rest = more_digits k (n / 10) (d ∷ acc) one in
    either_digits (n / 10 == 0) (suc k + length acc) (d ∷ acc) (digits_onto k 10 false (n / 10) (d ∷ acc)) (record { clear = one; long = omega arith }) (record { clear = rest.clear; long = omega (arith, rest.long) })

decimal_digits : (n : ℕ) → IsDigits 64 (decimal n)
unfolding digits
decimal_digits n = more_digits 64 n [] clear_nil

decimal_clear : (n : ℕ) → HasNoSoh (decimal n)
decimal_clear n = (decimal_digits n).clear

-- ---- fields

-- a field that may stand there, with a value of at most so many bytes
record IsOwn (room : ℕ) (f : Field) : Type 0 where
  plain : IsPlainField f
  entry : IsEntryField f
  short : length f.value ≤ room

own : (room tag : ℕ) (v : List ℕ) → 1 ≤ tag → tag ≤ 999999999 → data_tag tag ≡ None → is_session_tag tag ≡ false → (tag ≡ 8 → ⊥) → (tag ≡ 9 → ⊥) → (tag ≡ 10 → ⊥) → (tag ≡ 35 → ⊥) → HasNoSoh v → length v ≤ room → IsOwn room (field tag v)
own room tag v first last no_data no_header no_begin no_length no_sum no_type clear short = record {
  plain = record { first = first; last = last; no_soh = clear; no_length = no_data };
  entry = record { no_begin = no_begin; no_length = no_length; no_sum = no_sum; no_type = no_type; no_header = no_header };
  short = short;
}

own_7 : (room : ℕ) (v : List ℕ) → HasNoSoh v → length v ≤ room → IsOwn room (field 7 v)
own_7 room v clear short = own room 7 v (lit≤ tt) (lit≤ tt) refl refl (λ e. omega (arith, e)) (λ e. omega (arith, e)) (λ e. omega (arith, e)) (λ e. omega (arith, e)) clear short

own_16 : (room : ℕ) (v : List ℕ) → HasNoSoh v → length v ≤ room → IsOwn room (field 16 v)
own_16 room v clear short = own room 16 v (lit≤ tt) (lit≤ tt) refl refl (λ e. omega (arith, e)) (λ e. omega (arith, e)) (λ e. omega (arith, e)) (λ e. omega (arith, e)) clear short

own_36 : (room : ℕ) (v : List ℕ) → HasNoSoh v → length v ≤ room → IsOwn room (field 36 v)
own_36 room v clear short = own room 36 v (lit≤ tt) (lit≤ tt) refl refl (λ e. omega (arith, e)) (λ e. omega (arith, e)) (λ e. omega (arith, e)) (λ e. omega (arith, e)) clear short

own_45 : (room : ℕ) (v : List ℕ) → HasNoSoh v → length v ≤ room → IsOwn room (field 45 v)
own_45 room v clear short = own room 45 v (lit≤ tt) (lit≤ tt) refl refl (λ e. omega (arith, e)) (λ e. omega (arith, e)) (λ e. omega (arith, e)) (λ e. omega (arith, e)) clear short

own_58 : (room : ℕ) (v : List ℕ) → HasNoSoh v → length v ≤ room → IsOwn room (field 58 v)
own_58 room v clear short = own room 58 v (lit≤ tt) (lit≤ tt) refl refl (λ e. omega (arith, e)) (λ e. omega (arith, e)) (λ e. omega (arith, e)) (λ e. omega (arith, e)) clear short

own_98 : (room : ℕ) (v : List ℕ) → HasNoSoh v → length v ≤ room → IsOwn room (field 98 v)
own_98 room v clear short = own room 98 v (lit≤ tt) (lit≤ tt) refl refl (λ e. omega (arith, e)) (λ e. omega (arith, e)) (λ e. omega (arith, e)) (λ e. omega (arith, e)) clear short

own_108 : (room : ℕ) (v : List ℕ) → HasNoSoh v → length v ≤ room → IsOwn room (field 108 v)
own_108 room v clear short = own room 108 v (lit≤ tt) (lit≤ tt) refl refl (λ e. omega (arith, e)) (λ e. omega (arith, e)) (λ e. omega (arith, e)) (λ e. omega (arith, e)) clear short

own_112 : (room : ℕ) (v : List ℕ) → HasNoSoh v → length v ≤ room → IsOwn room (field 112 v)
own_112 room v clear short = own room 112 v (lit≤ tt) (lit≤ tt) refl refl (λ e. omega (arith, e)) (λ e. omega (arith, e)) (λ e. omega (arith, e)) (λ e. omega (arith, e)) clear short

own_123 : (room : ℕ) (v : List ℕ) → HasNoSoh v → length v ≤ room → IsOwn room (field 123 v)
own_123 room v clear short = own room 123 v (lit≤ tt) (lit≤ tt) refl refl (λ e. omega (arith, e)) (λ e. omega (arith, e)) (λ e. omega (arith, e)) (λ e. omega (arith, e)) clear short

own_141 : (room : ℕ) (v : List ℕ) → HasNoSoh v → length v ≤ room → IsOwn room (field 141 v)
own_141 room v clear short = own room 141 v (lit≤ tt) (lit≤ tt) refl refl (λ e. omega (arith, e)) (λ e. omega (arith, e)) (λ e. omega (arith, e)) (λ e. omega (arith, e)) clear short

own_371 : (room : ℕ) (v : List ℕ) → HasNoSoh v → length v ≤ room → IsOwn room (field 371 v)
own_371 room v clear short = own room 371 v (lit≤ tt) (lit≤ tt) refl refl (λ e. omega (arith, e)) (λ e. omega (arith, e)) (λ e. omega (arith, e)) (λ e. omega (arith, e)) clear short

own_372 : (room : ℕ) (v : List ℕ) → HasNoSoh v → length v ≤ room → IsOwn room (field 372 v)
own_372 room v clear short = own room 372 v (lit≤ tt) (lit≤ tt) refl refl (λ e. omega (arith, e)) (λ e. omega (arith, e)) (λ e. omega (arith, e)) (λ e. omega (arith, e)) clear short

own_373 : (room : ℕ) (v : List ℕ) → HasNoSoh v → length v ≤ room → IsOwn room (field 373 v)
own_373 room v clear short = own room 373 v (lit≤ tt) (lit≤ tt) refl refl (λ e. omega (arith, e)) (λ e. omega (arith, e)) (λ e. omega (arith, e)) (λ e. omega (arith, e)) clear short

own_380 : (room : ℕ) (v : List ℕ) → HasNoSoh v → length v ≤ room → IsOwn room (field 380 v)
own_380 room v clear short = own room 380 v (lit≤ tt) (lit≤ tt) refl refl (λ e. omega (arith, e)) (λ e. omega (arith, e)) (λ e. omega (arith, e)) (λ e. omega (arith, e)) clear short

own_1137 : (room : ℕ) (v : List ℕ) → HasNoSoh v → length v ≤ room → IsOwn room (field 1137 v)
own_1137 room v clear short = own room 1137 v (lit≤ tt) (lit≤ tt) refl refl (λ e. omega (arith, e)) (λ e. omega (arith, e)) (λ e. omega (arith, e)) (λ e. omega (arith, e)) clear short

-- fields with values that are together so long at the most
record AreOwn (room : ℕ) (fs : List Field) : Type 0 where
  plain : AllByRecursion IsPlainField fs
  entry : AllByRecursion IsEntryField fs
  long : length (fields_text fs) ≤ room

own_nil : AreOwn 0 []
own_nil = record { plain = tt; entry = tt; long = lit≤ tt }

field_long : (tag value : List ℕ) → length (tag ++ 61 ∷ value ++ 1 ∷ []) ≡ length tag + length value + 2
field_long tag value = omega (arith, length-append (tag ++ 61 ∷ value) (1 ∷ []), length-append tag (61 ∷ value))

text_long : (room : ℕ) (f : Field) → IsOwn room f → length (field_text f) ≤ room + 11
text_long room f h =
    let tag = length-decimal-le 9 f.tag (lit< tt) (omega (arith, h.plain.last)) (omega (arith, h.plain.last)) in
    omega (arith, field_long (decimal f.tag) f.value, tag, h.short)

own_cons : (room more : ℕ) (f : Field) (fs : List Field) → IsOwn room f → AreOwn more fs → AreOwn (room + 11 + more) (f ∷ fs)
own_cons room more f fs h k = record {
  plain = (h.plain, k.plain);
  entry = (h.entry, k.entry);
  long = omega (arith, length-append (field_text f) (fields_text fs), text_long room f h, k.long);
}

own_append : (a b : ℕ) (fs gs : List Field) → AreOwn a fs → AreOwn b gs → AreOwn (a + b) (fs ++ gs)
own_append a b [] gs p q = record { plain = q.plain; entry = q.entry; long = omega (arith, q.long) }
own_append a b (f ∷ fs) gs p q =
    let rest = own_append (length (fields_text fs)) b fs gs (record { plain = p.plain.1; entry = p.entry.1; long = omega arith }) q in
    record {
      plain = (p.plain.0, rest.plain);
      entry = (p.entry.0, rest.entry);
      long = omega (arith, length-append (field_text f) (fields_text (fs ++ gs)), length-append (field_text f) (fields_text fs), rest.long, p.long);
    }

wider : (few : ℕ) (fs : List Field) → AreOwn few fs → few ≤ 1048011 → AreOwn 1048011 fs
wider few fs h le = record { plain = h.plain; entry = h.entry; long = omega (arith, h.long, le) }

follows : (room longest : ℕ) (fs : List Field) → AreOwn room fs → room ≤ longest → MayFollow longest (fields_text fs)
follows room longest fs h fits = record { fields = fs; are = plain_fields fs h.plain; each = h.entry; short = omega (arith, h.long, fits) }

number : (n : ℕ) → HasNoSoh (decimal n) × (length (decimal n) ≤ 64)
number n = ((decimal_digits n).clear, (decimal_digits n).long)

-- ---- texts

-- a text with no SOH, of at most 200 bytes
record IsText (v : List ℕ) : Type 0 where
  clear : HasNoSoh v
  short : length v ≤ 200

text_if : (b : Bool) (x y : List ℕ) → IsText x → IsText y → IsText (if b then x else y)
text_if true x y p q = p
text_if false x y p q = q

is_text : (v : List ℕ) → list_all_above v ≡ true → nat_le (length v) 200 ≡ true → IsText v
is_text v above few = record { clear = clear_codes v above; short = leb-true (length v) 200 few }

no_text : IsText []
no_text = record { clear = clear_nil; short = lit≤ tt }

reason_is_text : (reason : ℕ) → IsText (reason_text reason)
reason_is_text reason =
    text_if (reason == 0) (codes "Invalid tag number") _ (is_text (codes "Invalid tag number") refl refl)
    (text_if (reason == 1) (codes "Required tag missing") _ (is_text (codes "Required tag missing") refl refl)
    (text_if (reason == 2) (codes "Tag not defined for this message type") _ (is_text (codes "Tag not defined for this message type") refl refl)
    (text_if (reason == 4) (codes "Tag specified without a value") _ (is_text (codes "Tag specified without a value") refl refl)
    (text_if (reason == 5) (codes "Value is incorrect (out of range) for this tag") _ (is_text (codes "Value is incorrect (out of range) for this tag") refl refl)
    (text_if (reason == 6) (codes "Incorrect data format for value") _ (is_text (codes "Incorrect data format for value") refl refl)
    (text_if (reason == 9) (codes "CompID problem") _ (is_text (codes "CompID problem") refl refl)
    (text_if (reason == 10) (codes "SendingTime accuracy problem") _ (is_text (codes "SendingTime accuracy problem") refl refl)
    (text_if (reason == 11) (codes "Invalid MsgType") _ (is_text (codes "Invalid MsgType") refl refl)
    (text_if (reason == 13) (codes "Tag appears more than once") _ (is_text (codes "Tag appears more than once") refl refl)
    (text_if (reason == 14) (codes "Tag specified out of required order") _ (is_text (codes "Tag specified out of required order") refl refl)
    (text_if (reason == 15) (codes "Repeating group fields out of order") _ (is_text (codes "Repeating group fields out of order") refl refl)
    (text_if (reason == 16) (codes "Incorrect NumInGroup count") _ (is_text (codes "Incorrect NumInGroup count") refl refl)
    (no_text)))))))))))))

low_text : (a b : List ℕ) (m n : ℕ) → IsText a → IsText b → length a + length b ≤ 50 → IsText (a ++ decimal m ++ b ++ decimal n)
low_text a b m n p q few = record {
  clear = clear_append (a ++ decimal m ++ b) (decimal n) (clear_append (a ++ decimal m) b (clear_append a (decimal m) p.clear (decimal_clear m)) q.clear) (decimal_clear n);
  short = omega (arith, few, length-append (a ++ decimal m ++ b) (decimal n), length-append (a ++ decimal m) b, length-append a (decimal m), (decimal_digits m).long, (decimal_digits n).long);
}

logout_is_text : (t : LogoutText) → IsText (logout_text t)
logout_is_text text.Empty = no_text
logout_is_text (text.TooLow expected received) =
    low_text (codes "MsgSeqNum too low, expecting ") (codes " but received ") expected received (is_text _ refl refl) (is_text _ refl refl) (lit≤ tt)
logout_is_text text.BeginString = is_text (codes "Incorrect BeginString") refl refl
logout_is_text text.NoNumber = is_text (codes "MsgSeqNum missing") refl refl
logout_is_text text.CompId = is_text (codes "CompID problem") refl refl
logout_is_text text.SendingTime = is_text (codes "SendingTime accuracy problem") refl refl
logout_is_text text.OutOfWindow = is_text (codes "Session time is over") refl refl
logout_is_text text.ResetFlag = is_text (codes "ResetSeqNumFlag not supported") refl refl

-- ---- the fields that stand there only where they apply

own_text : (room : ℕ) (t : List ℕ) → HasNoSoh t → length t ≤ room → AreOwn (room + 11) (text_fields t)
own_text room [] clear short = record { plain = tt; entry = tt; long = omega arith }
own_text room (b ∷ bs) clear short = subst (λ (n : ℕ). AreOwn n (field 58 (b ∷ bs) ∷ [])) (omega arith) (own_cons room 0 _ [] (own_58 room (b ∷ bs) clear short) own_nil)

own_tag : (tag : Option ℕ) → AreOwn 75 (tag_fields tag)
own_tag None = record { plain = tt; entry = tt; long = lit≤ tt }
own_tag (Some tag) = own_cons 64 0 _ [] (own_371 64 (decimal tag) (number tag).0 (number tag).1) own_nil

own_reason_if : (b : Bool) (reason : ℕ) → AreOwn 75 (if b then field 373 (decimal reason) ∷ [] else [])
own_reason_if true reason = own_cons 64 0 _ [] (own_373 64 (decimal reason) (number reason).0 (number reason).1) own_nil
own_reason_if false reason = record { plain = tt; entry = tt; long = lit≤ tt }

own_reset : (reset : Bool) → AreOwn 12 (reset_fields reset)
own_reset false = record { plain = tt; entry = tt; long = lit≤ tt }
own_reset true = own_cons 1 0 _ [] (own_141 1 (codes "Y") (clear_codes (codes "Y") refl) (lit≤ tt)) own_nil

own_version : (version : Option ℕ) → AreOwn 75 (version_fields version)
own_version None = record { plain = tt; entry = tt; long = lit≤ tt }
own_version (Some version) = own_cons 64 0 _ [] (own_1137 64 (decimal version) (number version).0 (number version).1) own_nil

own_type : (type : List ℕ) → HasNoSoh type → IsOwn 8 (ref_type type)
own_type type clear = own_372 8 (take 8 type) (clear_take 8 type clear) (omega (arith, length-take 8 type))

own_id : (id : Option (List ℕ)) → IsClear id → AreOwn 1048011 (id_fields id)
own_id None clear = record { plain = tt; entry = tt; long = lit≤ tt }
own_id (Some id) clear = own_cons 1048000 0 _ [] (own_112 1048000 (take 1048000 id) (clear_take 1048000 id clear) (omega (arith, length-take 1048000 id))) own_nil

-- ---- each message

said_own : (begin : Begin) (s : SaySeen) → GivesBackValues s → AreOwn 1048011 (fields_of begin s)
said_own begin (say.Heartbeat id) h = own_id id h
said_own begin say.TestRequest h = wider 15 _ (own_cons 4 0 _ [] (own_112 4 (codes "TEST") (clear_codes (codes "TEST") refl) (lit≤ tt)) own_nil) (lit≤ tt)
said_own begin (say.ResendRequest from to) h =
    wider 150 _ (own_cons 64 75 _ _ (own_7 64 (decimal from) (number from).0 (number from).1) (own_cons 64 0 _ [] (own_16 64 (decimal to) (number to).0 (number to).1) own_nil)) (lit≤ tt)
said_own begin (say.Reject about type fault) h =
    let texts = reason_is_text fault.reason in
    let reasons = own_cons 8 75 (ref_type type) _ (own_type type h) (own_reason_if (say.is_named begin fault.reason) fault.reason) in
    let named = own_append 75 94 (tag_fields fault.tag) (ref_type type ∷ reason_fields begin fault.reason) (own_tag fault.tag) reasons in
    let all = own_append 169 211 (tag_fields fault.tag ++ ref_type type ∷ reason_fields begin fault.reason) (text_fields (reason_text fault.reason)) named (own_text 200 (reason_text fault.reason) texts.clear texts.short) in
    wider 455 _ (own_cons 64 380 _ _ (own_45 64 (decimal about) (number about).0 (number about).1) all) (lit≤ tt)
said_own begin (say.GapFill next) h =
    wider 87 _ (own_cons 64 12 _ _ (own_36 64 (decimal next) (number next).0 (number next).1) (own_cons 1 0 _ [] (own_123 1 (codes "Y") (clear_codes (codes "Y") refl) (lit≤ tt)) own_nil)) (lit≤ tt)
said_own begin (say.Logout t) h = let texts = logout_is_text t in wider 211 _ (own_text 200 (logout_text t) texts.clear texts.short) (lit≤ tt)
said_own begin (say.Logon heart reset version) h =
    wider 174 _ (own_cons 1 162 _ _ (own_98 1 (codes "0") (clear_codes (codes "0") refl) (lit≤ tt)) (own_cons 64 87 _ _ (own_108 64 (decimal heart) (number heart).0 (number heart).1) (own_append 12 75 (reset_fields reset) (version_fields version) (own_reset reset) (own_version version)))) (lit≤ tt)

pub said_follows : (begin : Begin) (s : SaySeen) → GivesBackValues s → MayFollow LONGEST_BODY (fields_text (fields_of begin s))
said_follows begin s h = follows 1048011 LONGEST_BODY (fields_of begin s) (said_own begin s h) (lit≤ tt)

pub business_follows : (about : ℕ) (type : List ℕ) (reason : ℕ) (t : List ℕ) → HasNoSoh type → HasNoSoh t → MayFollow (length t + 200) (fields_text (business_fields about type reason t))
business_follows about type reason t h k =
    let last = own_text (length t) t k (omega arith) in
    let reasons = own_cons 64 (length t + 11) _ _ (own_380 64 (decimal reason) (number reason).0 (number reason).1) last in
    let named = own_cons 8 (64 + 11 + (length t + 11)) (ref_type type) _ (own_type type h) reasons in
    let all = own_cons 64 (8 + 11 + (64 + 11 + (length t + 11))) _ _ (own_45 64 (decimal about) (number about).0 (number about).1) named in
    follows (64 + 11 + (8 + 11 + (64 + 11 + (length t + 11)))) (length t + 200) (business_fields about type reason t) all (omega arith)

-- what holds of the bytes holds of those that are answered
pub ok_also : {E : Type 0} (P : List ℕ → Type 0) (r : Result (List ℕ) E) (bytes : List ℕ) → IfOk r (λ out. out ≡ bytes) → P bytes → IfOk r P
ok_also P (Ok out) bytes is h = subst P (sym is) h
ok_also P (Err e) bytes is h = tt

-- ---- after a front of fields

joined : (due : Option (ℕ × ℕ)) (front bytes : List ℕ) (fs gs : List Field) → FieldsAfter due front fs → due_behind due fs ≡ None → FieldsAfter None bytes gs → FieldsAfter due (front ++ bytes) (fs ++ gs)
joined due front bytes [] gs p e q =
    subst (λ (t : List ℕ). FieldsAfter due (t ++ bytes) gs) (sym p) (subst (λ (d : Option (ℕ × ℕ)). FieldsAfter d bytes gs) (sym e) q)
joined due front bytes (f ∷ fs) gs p e q = (
  p.0,
  p.1 ++ bytes,
  p.2,
  ap (λ (t : List ℕ). t ++ bytes) p.3 ∙ append_assoc p.0 p.1 bytes,
  joined (data_after f) p.1 bytes fs gs p.4 e q,
)

pub whole : (longest : ℕ) (front bytes : List ℕ) (fs : List Field) → FieldsAfter None front fs → due_behind None fs ≡ None → MayFollow longest bytes → IsWhole longest front bytes fs
whole longest front bytes fs are none h = record {
  more = h.fields;
  are = joined None front bytes fs h.fields are none h.are;
  each = h.each;
  short = omega (arith, length-append front bytes, h.short);
}
