-- A frame is a list of fields: BeginString (8) and BodyLength (9), those of its body, and CheckSum (10).
use Rattle.std.proofs.Common.{◌≡◌, ℕ, zero, suc, ◌<◌, Bool, true, false, not, ◌&&◌, ◌==◌, if◌then◌else◌, codes, List, [], ◌∷◌, ◌++◌, length, Option, Some, None, refl, sym, ap, ◌∙◌, subst, append_assoc, append-nil, arith, lit<, lit≤}
use Rattle.std.specs.Prelude.{Result, Ok, Err, IfOk, MatchBool, ⊤, option_and_then, decimal}
use Rattle.std.specs.Str.Parse.{digits_value}
use Rattle.std.proofs.lemmas.Bool.{not-true, and_parts}
use Rattle.fix_base.specs.declared.tags.TheConstants.{DATA_PAIRS}
use Rattle.fix_base.specs.Tags.{beside, data_tag}
use Rattle.fix_base.specs.Frame.{HasNoSoh}
use Rattle.fix_base.specs.Fields.{Field, IsValue, FieldsAfter, data_after, is_data_length}
use Rattle.fix_base.specs.Shape.{IsFrame}
use Rattle.fix_base.specs.Says.{field_text}
use Rattle.std.proofs.lemmas.Fmt.{decimal-digits_value}
use Rattle.fix_base.proofs.Digits.{numerals}
use Rattle.fix_validate.specs.Checks.{field_of_tag, HasAllFields}

-- no data is due with tag 10
abbrev NotTen : Option (ℕ × ℕ) → Type 0
NotTen None = ⊤
NotTen (Some d) = (10 == d.0) ≡ false

abbrev IsNotTen : Option ℕ → Type 0
IsNotTen None = ⊤
IsNotTen (Some t) = (10 == t) ≡ false

abbrev ten_free : List (ℕ × ℕ) → Bool
ten_free [] = true
ten_free (p ∷ ps) = not (10 == p.1) && ten_free ps

beside_free : (tag : ℕ) (ps : List (ℕ × ℕ)) → ten_free ps ≡ true → IsNotTen (beside tag ps)
beside_free tag [] h = tt
beside_free tag (p ∷ ps) h = let two = and_parts (not (10 == p.1)) (ten_free ps) h in pick (p.0 == tag) (not-true (10 == p.1) two.0) (beside_free tag ps two.1) where
  pick : (b : Bool) → (10 == p.1) ≡ false → IsNotTen (beside tag ps) → IsNotTen (if b then Some p.1 else beside tag ps)
  pick true first more = first
  pick false first more = more

due_free : (value : List ℕ) (o : Option ℕ) → IsNotTen o → NotTen (option_and_then (λ tag. if is_data_length value then Some (tag, digits_value 10 value) else None) o)
due_free value None h = tt
due_free value (Some t) h = pick (is_data_length value) where
  pick : (b : Bool) → NotTen (if b then Some (t, digits_value 10 value) else None)
  pick true = h
  pick false = tt

after_free : (f : Field) → NotTen (data_after f)
after_free f = due_free f.value (data_tag f.tag) (beside_free f.tag DATA_PAIRS refl)

value_free : (due : Option (ℕ × ℕ)) (value : List ℕ) → NotTen due → HasNoSoh value → IsValue due (field_of_tag 10 value)
value_free None value free clear = clear
value_free (Some d) value free clear = subst (λ (b : Bool). MatchBool b (length value ≡ d.1) (HasNoSoh value)) (sym free) clear

-- a field behind the last
joined_fields : (due : Option (ℕ × ℕ)) (bytes tail : List ℕ) (fs : List Field) (value : List ℕ) → NotTen due → HasNoSoh value → tail ≡ field_text (field_of_tag 10 value) → FieldsAfter due bytes fs → FieldsAfter due (bytes ++ tail) (fs ++ field_of_tag 10 value ∷ [])
joined_fields due bytes tail [] value free clear is are = (
  tail,
  [],
  record { first = lit≤ tt; last = lit≤ tt; value = value_free due value free clear; spelled = is },
  ap (λ (b : List ℕ). b ++ tail) are ∙ sym (append-nil tail),
  refl,
)
joined_fields due bytes tail (f ∷ fs) value free clear is are = (
  are.0,
  are.1 ++ tail,
  are.2,
  ap (λ (b : List ℕ). b ++ tail) are.3 ∙ append_assoc are.0 are.1 tail,
  joined_fields (data_after f) are.1 tail fs value (after_free f) clear is are.4,
)

eight : decimal 8 ≡ codes "8"
eight = decimal-digits_value numerals (codes "8") (lit< tt, tt) (lit< tt) (λ e. absurd (omega (arith, e))) (lit< tt)

nine : decimal 9 ≡ codes "9"
nine = decimal-digits_value numerals (codes "9") (lit< tt, tt) (lit< tt) (λ e. absurd (omega (arith, e))) (lit< tt)

ten : decimal 10 ≡ codes "10"
ten = decimal-digits_value numerals (codes "10") (lit< tt, (lit< tt, tt)) (lit< tt) (λ e. absurd (omega (arith, e))) (lit< tt)

sign_clear : (sign : ℕ) (bytes : List ℕ) → 1 < sign → HasNoSoh bytes → HasNoSoh (sign ∷ bytes)
sign_clear sign bytes more h zero lt = λ e. omega (arith, e, more)
sign_clear sign bytes more h (suc k) lt = h k (omega (arith, lt))

-- a text that is known is the field's
spelled_by : (tag value text sign : List ℕ) → tag ≡ sign → text ≡ (sign ++ 61 ∷ value) ++ 1 ∷ [] → text ≡ (tag ++ 61 ∷ value) ++ 1 ∷ []
spelled_by tag value text sign e h = h ∙ ap (λ (d : List ℕ). (d ++ 61 ∷ value) ++ 1 ∷ []) (sym e)

whole_spelled : (text before head body trailer a b bb c d : List ℕ) → text ≡ before ++ trailer → before ≡ head ++ body → head ≡ a ++ b → b ≡ bb ++ c → text ≡ (a ++ bb) ++ ((c ++ body) ++ trailer)
whole_spelled text before head body trailer a b bb c d e f g h = rw (e, f, g, h) (simp append_assoc)

pub frame_fields : (text : List ℕ) → IsFrame text → (fields : List Field) × HasAllFields text fields
frame_fields text h =
    let head = h.shape.is_head in
    let version = head.is_second.is_first in
    let more = head.is_second.is_second in
    let long = more.is_second in
    let trailer = h.shape.is_trailer in
    let sum = trailer.is_second in
    let fields = h.right.fields in
    let all : List Field = field_of_tag 8 (codes "FIX" ++ version.value) ∷ field_of_tag 9 long.value ∷ fields.list ++ field_of_tag 10 sum.value ∷ [] in (
      all,
      record {
        begin = codes "FIX" ++ version.value;
        long = long.value;
        body = fields.list;
        sum = sum.value;
        has = record { parts = h.parts; shape = h.shape; are = fields.are };
        are = refl;
        spelled = (
          head.first ++ head.is_second.first,
          (head.is_second.second ++ h.parts.body) ++ h.shape.trailer,
          record {
            first = lit≤ tt;
            last = lit≤ tt;
            value = sign_clear 70 (73 ∷ 88 ∷ version.value) (omega arith) (sign_clear 73 (88 ∷ version.value) (omega arith) (sign_clear 88 version.value (omega arith) version.no_soh));
            spelled = spelled_by (decimal 8) (codes "FIX" ++ version.value) _ (codes "8") eight (rw (head.is_first, version.spelled) refl);
          },
          whole_spelled text h.parts.before_sum h.shape.head h.parts.body h.shape.trailer head.first head.second head.is_second.first head.is_second.second [] h.shape.spelled h.shape.front head.spelled head.is_second.spelled,
          (
            head.is_second.second,
            h.parts.body ++ h.shape.trailer,
            record {
              first = lit≤ tt;
              last = lit≤ tt;
              value = long.no_soh;
              spelled = spelled_by (decimal 9) long.value _ (codes "9") nine (more.spelled ∙ rw (more.is_first, long.spelled) refl);
            },
            append_assoc head.is_second.second h.parts.body h.shape.trailer,
            joined_fields None h.parts.body h.shape.trailer fields.list sum.value tt sum.no_soh (spelled_by (decimal 10) sum.value _ (codes "10") ten (trailer.spelled ∙ rw (trailer.is_first, sum.spelled) refl)) fields.are,
          ),
        );
      },
    )

-- what an answer is, where there is one
pub if_ok : {A E : Type 0} (r : Result A E) (P Q : A → Type 0) → ((x : A) → P x → Q x) → IfOk r P → IfOk r Q
if_ok (Ok x) P Q h k = h x k
if_ok (Err e) P Q h k = tt
