-- The fields of a message, sealed, are a frame.
use Rattle.std.proofs.Common.{◌≡◌, ◌≢◌, ℕ, zero, suc, ◌+◌, ◌/◌, ◌%◌, ◌^◌, ◌<◌, ◌≤◌, List, [], ◌∷◌, ◌++◌, length, get_or, sum, Option, refl, sym, ap, subst, ◌∙◌, append_assoc, arith, lit<, lit≤}
use Rattle.std.specs.Prelude.{codes}
use Rattle.std.specs.Char.{digit_value}
use Rattle.std.specs.Fmt.{decimal}
use Rattle.std.specs.List.{AllByRecursion}
use Rattle.std.specs.Str.Parse.{AllDigits}
use Rattle.std.proofs.lemmas.Fmt.{digits_decimal, decimal-digits_value, decimal_is_IsNumeral, length-decimal-le, decimal_nonempty}
use Rattle.std.proofs.lemmas.List.{append-nil, length-append}
use Rattle.std.proofs.lemmas.Str.{digit_value_digit}
use Rattle.std.proofs.lemmas.Nat.{mod_below}
use Rattle.fix_base.specs.Session.{Begin, Fix42, Fix44, Identity}
use Rattle.fix_base.specs.Frame.{IsLine, HasNoSoh, IsLengthOf, IsSumOf, IsHead, IsBody, IsTrailer}
use Rattle.fix_base.specs.Fields.{Field, FieldsAfter, data_after}
use Rattle.fix_base.specs.Shape.{Parts, HasShape, IsBodyField, HasBodyFields, IsFrame}
use Rattle.fix_base.specs.Sealed.{three_digits_of, head_of, trailer_of, sealed}
use Rattle.fix_base.specs.Says.{field_text, fields_text, HasFields}
use Rattle.fix_base.specs.Wrote.{IsSealed}
use Rattle.fix_base.proofs.Digits.{numerals, digits_no_soh}

number_line : (n : ℕ) → 5 ≤ n → n ≤ 1048576 → IsLine (IsLengthOf n) (decimal n ++ 1 ∷ [])
number_line n low high =
    let small : n < 2 ^ 64 = omega arith in
    let digits : AllDigits 10 (decimal n) = digits_decimal numerals n small in
    record {
      value = decimal n;
      no_soh = digits_no_soh (decimal n) digits;
      is = record { digits = digits; few = length-decimal-le 7 n (lit< tt) (omega arith) small; some = decimal_nonempty n small; number = (decimal_is_IsNumeral n small).1; low = low; high = high };
      spelled = refl;
    }

-- `8=FIX..|9=n|` around a version
head_with : (version : List ℕ) (n : ℕ) (text : List ℕ) → HasNoSoh version → length version ≤ 13 → 5 ≤ n → n ≤ 1048576 → text ≡ codes "8=FIX" ++ ((version ++ 1 ∷ []) ++ (codes "9=" ++ (decimal n ++ 1 ∷ []))) → IsHead n text
head_with version n text clear short low high spelled = record {
  value = tt;
  first = codes "8=FIX";
  second = (version ++ 1 ∷ []) ++ (codes "9=" ++ (decimal n ++ 1 ∷ []));
  is_first = refl;
  is_second = record {
    value = tt;
    first = version ++ 1 ∷ [];
    second = codes "9=" ++ (decimal n ++ 1 ∷ []);
    is_first = record { value = version; no_soh = clear; is = short; spelled = refl };
    is_second = record { value = tt; first = codes "9="; second = decimal n ++ 1 ∷ []; is_first = refl; is_second = number_line n low high; spelled = refl };
    spelled = refl;
  };
  spelled = spelled;
}

-- `.4.` and a digit
dotted_no_soh : (d : ℕ) → d ≢ 1 → (k : ℕ) → k < 4 → get_or (46 ∷ 52 ∷ 46 ∷ d ∷ []) k 0 ≡ 1 → ⊥
dotted_no_soh d other zero lt e = omega arith
dotted_no_soh d other (suc zero) lt e = omega arith
dotted_no_soh d other (suc (suc zero)) lt e = omega arith
dotted_no_soh d other (suc (suc (suc zero))) lt e = other e
dotted_no_soh d other (suc (suc (suc (suc k)))) lt e = omega arith

head_is : (begin : Begin) (body : List ℕ) → 5 ≤ length body → length body ≤ 1048576 → IsHead (length body) (head_of begin body)
head_is Fix42 body low high = head_with (codes ".4.2") (length body) (head_of Fix42 body) (dotted_no_soh 50 (λ e. omega arith)) (lit≤ tt) low high refl
head_is Fix44 body low high = head_with (codes ".4.4") (length body) (head_of Fix44 body) (dotted_no_soh 52 (λ e. omega arith)) (lit≤ tt) low high refl

-- a digit
digit_is : (d : ℕ) → d < 10 → digit_value (48 + d) ≡ d
digit_is d lt = let e = digit_value_digit (48 + d) (omega arith, omega arith) in omega arith

sum_line : (n : ℕ) → n < 1000 → IsLine (IsSumOf n) (three_digits_of n ++ 1 ∷ [])
sum_line n lt =
    let a = digit_is (n / 100) (omega arith) in
    let b = digit_is (n / 10 % 10) (omega arith) in
    let d = digit_is (n % 10) (omega arith) in
    let digits : AllDigits 10 (three_digits_of n) = (omega arith, (omega arith, (omega arith, tt))) in
    record { value = three_digits_of n; no_soh = digits_no_soh (three_digits_of n) digits; is = record { digits = digits; three = refl; number = omega (arith, a, b, d) }; spelled = refl }

trailer_is : (n : ℕ) → n < 1000 → IsTrailer n (trailer_of n)
trailer_is n lt = record { value = tt; first = codes "10="; second = three_digits_of n ++ 1 ∷ []; is_first = refl; is_second = sum_line n lt; spelled = refl }

abbrev sealed_parts : Begin → List ℕ → Parts
sealed_parts begin body = record { before_sum = head_of begin body ++ body; body = body; sum = sum (head_of begin body ++ body) % 256 }

-- the shape of a sealed body
sealed_shape : (begin : Begin) (body : List ℕ) → 5 ≤ length body → length body ≤ 1048576 → IsBody (length body) body → HasShape (sealed_parts begin body) (sealed begin body)
sealed_shape begin body low high is = record {
  len = length body;
  head = head_of begin body;
  trailer = trailer_of (sum (head_of begin body ++ body) % 256);
  is_head = head_is begin body low high;
  is_body = is;
  is_trailer = trailer_is (sum (head_of begin body ++ body) % 256) (omega (arith, mod_below (sum (head_of begin body ++ body)) 256 (lit< tt)));
  front = refl;
  spelled = refl;
}

-- a sealed body is a frame
pub sealed_frame : (begin : Begin) (body : List ℕ) → 5 ≤ length body → length body ≤ 1048576 → IsBody (length body) body → HasBodyFields body → IsFrame (sealed begin body)
sealed_frame begin body low high is fields = record {
  parts = sealed_parts begin body;
  shape = sealed_shape begin body low high is;
  right = record { checksum = refl; fields = fields };
}

-- the tag of the first field, and what is behind it
field_opened : (f : Field) (fs : List Field) → fields_text (f ∷ fs) ≡ (decimal f.tag ++ 61 ∷ []) ++ ((f.value ++ 1 ∷ []) ++ fields_text fs)
field_opened f fs = simp append_assoc

-- `35=`
pub type_tag : decimal 35 ++ 61 ∷ [] ≡ codes "35="
type_tag = ap (λ (t : List ℕ). t ++ 61 ∷ []) (decimal-digits_value numerals (codes "35") (lit< tt, (lit< tt, tt)) (lit< tt) (λ e. absurd (omega (arith, e))) (lit< tt))

-- fields end with an SOH
fields_end : (v : List ℕ) (fs : List Field) → (m : List ℕ) × ((v ++ 1 ∷ []) ++ fields_text fs ≡ m ++ 1 ∷ [])
fields_end v [] = (v, append-nil (v ++ 1 ∷ []))
fields_end v (f ∷ fs) =
    let behind = fields_end f.value fs in (
      (v ++ 1 ∷ []) ++ ((decimal f.tag ++ 61 ∷ []) ++ behind.0),
      ap (λ (t : List ℕ). (v ++ 1 ∷ []) ++ t) (field_opened f fs ∙ ap (λ (t : List ℕ). (decimal f.tag ++ 61 ∷ []) ++ t) behind.1 ∙ sym (append_assoc (decimal f.tag ++ 61 ∷ []) behind.0 (1 ∷ []))) ∙ sym (append_assoc (v ++ 1 ∷ []) ((decimal f.tag ++ 61 ∷ []) ++ behind.0) (1 ∷ [])),
    )

-- the fields' texts, one after the other, are the bytes
pub fields_spelled : (due : Option (ℕ × ℕ)) (bytes : List ℕ) (fs : List Field) → FieldsAfter due bytes fs → bytes ≡ fields_text fs
fields_spelled due bytes [] are = are
fields_spelled due bytes (f ∷ fs) are = are.3 ∙ ap (λ (t : List ℕ). t ++ are.1) are.2.spelled ∙ ap (λ (t : List ℕ). field_text f ++ t) (fields_spelled (data_after f) are.1 fs are.4)

-- fields of which the first is MsgType (35) make a body
pub type_first_body : (f : Field) (fs : List Field) → f.tag ≡ 35 → 5 ≤ length (fields_text (f ∷ fs)) → IsBody (length (fields_text (f ∷ fs))) (fields_text (f ∷ fs))
type_first_body f fs type long =
    let end = fields_end f.value fs in
    let tag : decimal f.tag ++ 61 ∷ [] ≡ codes "35=" = ap (λ n. decimal n ++ 61 ∷ []) type ∙ type_tag in
    let whole : fields_text (f ∷ fs) ≡ codes "35=" ++ (end.0 ++ 1 ∷ []) = field_opened f fs ∙ ap (λ (t : List ℕ). t ++ ((f.value ++ 1 ∷ []) ++ fields_text fs)) tag ∙ ap (λ (t : List ℕ). codes "35=" ++ t) end.1 in
    record {
      value = tt;
      first = codes "35=";
      second = end.0 ++ 1 ∷ [];
      is_first = refl;
      is_second = record { value = tt; first = end.0; second = 1 ∷ []; is_first = omega (arith, ap length whole, length-append (codes "35=") (end.0 ++ 1 ∷ []), length-append end.0 (1 ∷ [])); is_second = refl; spelled = refl };
      spelled = whole;
    }

-- MsgType (35) first, and none of the tags 8, 9 and 10
pub record AreOfMessage (fields : List Field) : Type 0 where
  pub first : Field
  pub others : List Field
  pub spelled : fields ≡ first ∷ others
  pub type : first.tag ≡ 35
  pub long : 5 ≤ length (fields_text fields)
  pub each : AllByRecursion IsBodyField fields

-- their texts are a body
pub message_body : (fields : List Field) → AreOfMessage fields → IsBody (length (fields_text fields)) (fields_text fields)
message_body fields m =
    subst (λ (fs : List Field). IsBody (length (fields_text fs)) (fields_text fs)) (sym m.spelled) (type_first_body m.first m.others m.type (subst (λ (fs : List Field). 5 ≤ length (fields_text fs)) m.spelled m.long))

-- sealed fields are a frame
pub sealed_is_frame : (id : Identity) (fields : List Field) (text : List ℕ) → AreOfMessage fields → IsSealed id fields text → IsFrame text
sealed_is_frame id fields text m s = subst IsFrame (sym s.spelled) (sealed_frame id.begin (fields_text fields) m.long s.short (message_body fields m) (record { list = fields; are = s.are; each = m.each }))

-- and these are its fields
pub sealed_has_fields : (id : Identity) (fields : List Field) (text : List ℕ) → AreOfMessage fields → IsSealed id fields text → HasFields text fields
sealed_has_fields id fields text m s =
    subst (λ (t : List ℕ). HasFields t fields) (sym s.spelled) (record { parts = sealed_parts id.begin (fields_text fields); shape = sealed_shape id.begin (fields_text fields) m.long s.short (message_body fields m); are = s.are })
