-- The lines of a frame, and what its fields say.
use Rattle.std.proofs.Common.{◌≡◌, ◌≢◌, ℕ, zero, suc, ◌-◌, ◌^◌, ◌<◌, ◌≤◌, Bool, true, false, ◌&&◌, ◌==◌, if◌then◌else◌, nat_lt, nat_le, List, [], ◌∷◌, ◌++◌, length, take, drop, codes, Option, Some, None, refl, sym, ap, subst, ◌∙◌, append_assoc, arith, eq-eqb, zero-add, lit<}
use Rattle.std.specs.Prelude.{option_map, IsSome}
use Rattle.std.specs.Fmt.{decimal}
use Rattle.std.specs.Option.{SomeIff}
use Rattle.std.specs.Str.{all_ascii_digits}
use Rattle.std.specs.Str.Parse.{digits_value, AllDigits}
use Rattle.std.proofs.lemmas.List.{append-nil, length-append, same_from_push}
use Rattle.std.proofs.lemmas.Bool.{false_from_ne_true, and_from, lt-ltb, le-leb, ltb-true, leb-true, eqb-true}
use Rattle.std.proofs.lemmas.Str.Parse.{IsNumeralModel, numerals_by_value, tells_all_ascii_digits, digits_value_short}
use Rattle.std.proofs.lemmas.Fmt.{decimal-digits_value}
use Rattle.fix_base.proofs.Digits.{numerals}
use Rattle.fix_base.specs.Front.{Begins}
use Rattle.fix_base.specs.Frame.{HasNoSoh, IsLine, IsBody}
use Rattle.fix_base.specs.Fields.{Field, IsTag, IsField, FieldsAfter}
use Rattle.fix_base.specs.Shape.{Parts, HasShape, IsFrame}
use Rattle.fix_base.specs.Says.{value_of, times_of, number_in, seq_num_in, field_text, body_of}
use Rattle.fix_base.specs.Tags.{is_session_tag}
use Rattle.fix_base.proofs.Pieces.{line_free}
use Rattle.fix_base.proofs.TagTexts.{tag_same}
use Rattle.fix_base.proofs.FieldLists.{field_tag, no_plain}
use Rattle.fix_base.proofs.Spans.{front_is}
use Rattle.fix_fields.specs.Value.{IsDigitsOf}
use Rattle.fix_fields.specs.Lined.{IsLineOf, HasLine}
use Rattle.fix_fields.specs.HeaderValues.{Firsts, firsts_with, no_firsts}
use Rattle.fix_fields.specs.Header.{HasBegin, header_of_fields}

no_soh_more : (byte : ℕ) (bytes : List ℕ) → byte ≢ 1 → HasNoSoh bytes → HasNoSoh (byte ∷ bytes)
no_soh_more byte bytes first rest zero lt = first
no_soh_more byte bytes first rest (suc k) lt = rest k (omega arith)

sign_no_soh : (sign : ℕ) (bytes : List ℕ) → 1 < sign → HasNoSoh bytes → HasNoSoh (sign ∷ bytes)
sign_no_soh sign bytes more h = no_soh_more sign bytes (λ e. omega arith) h

tail_of : (w x y : List ℕ) → w ++ x ≡ w ++ y → x ≡ y
tail_of [] x y e = e
tail_of (b ∷ w) x y e = tail_of w x y cc

tails : (v w x y : List ℕ) → v ≡ w → v ++ x ≡ w ++ y → x ≡ y
tails v w x y same e = tail_of w x y (ap (λ (t : List ℕ). t ++ x) (sym same) ∙ e)

fix_no_soh : (version : List ℕ) → HasNoSoh version → HasNoSoh (codes "FIX" ++ version)
fix_no_soh version h = sign_no_soh 70 (73 ∷ 88 ∷ version) (omega arith) (sign_no_soh 73 (88 ∷ version) (omega arith) (sign_no_soh 88 version (omega arith) h))

-- bytes have one first line
pub line_same : (bytes v w x y : List ℕ) → IsLineOf bytes v x → IsLineOf bytes w y → (v ≡ w) × (x ≡ y)
line_same bytes v w x y p q =
    let any : (t : List ℕ) → HasNoSoh t → IsLine (λ _. Unit {0}) (t ++ 1 ∷ []) = λ t h. record { value = t; no_soh = h; is = tt; spelled = refl } in
    let e : v ++ 1 ∷ x ≡ w ++ 1 ∷ y = sym p.spelled ∙ q.spelled in
    let whole : (v ++ 1 ∷ []) ++ x ≡ (w ++ 1 ∷ []) ++ y = append_assoc v (1 ∷ []) x ∙ e ∙ sym (append_assoc w (1 ∷ []) y) in
    let both : v ++ 1 ∷ [] ≡ w ++ 1 ∷ [] = (line_free (λ (_ : Unit {0}) (_ : List ℕ). Unit {0}) (λ _ _ _ _ _. refl)).same tt tt (v ++ 1 ∷ []) (w ++ 1 ∷ []) x y (any v p.no_soh) (any w q.no_soh) whole in
    let same : v ≡ w = (same_from_push v w 1 1 both).0 in
    let rest : 1 ∷ x ≡ 1 ∷ y = tails v w (1 ∷ x) (1 ∷ y) same e in
    (same, cc)

-- a frame as its two first lines, its body and its trailer
pub record Lines (body text : List ℕ) : Type 0 where
  pub version : List ℕ
  pub digits : List ℕ
  pub trailer : List ℕ
  pub version_no_soh : HasNoSoh version
  pub digits_no_soh : HasNoSoh digits
  pub trailer_long : length trailer ≡ 7
  pub spelled : text ≡ (codes "8=FIX" ++ version) ++ 1 ∷ ((codes "9=" ++ digits) ++ 1 ∷ (body ++ trailer))

cc_head : (a b c d e f version digits : List ℕ) → a ≡ codes "8=FIX" → b ≡ c ++ d → c ≡ version ++ 1 ∷ [] → d ≡ e ++ f → e ≡ codes "9=" → f ≡ digits ++ 1 ∷ [] → a ++ b ≡ (codes "8=FIX" ++ version) ++ 1 ∷ ((codes "9=" ++ digits) ++ 1 ∷ [])
cc_head a b c d e f version digits p q r s t u =
    ap (λ (x : List ℕ). x ++ b) p ∙ ap (λ (x : List ℕ). codes "8=FIX" ++ x) (q ∙ ap (λ (x : List ℕ). x ++ d) r ∙ ap (λ (x : List ℕ). (version ++ 1 ∷ []) ++ x) (s ∙ ap (λ (x : List ℕ). x ++ f) t ∙ ap (λ (x : List ℕ). codes "9=" ++ x) u)) ∙ simp append_assoc

pub lines_of : (parts : Parts) (text : List ℕ) → HasShape parts text → Lines parts.body text
lines_of parts text h =
    let version = h.is_head.is_second.is_first in
    let behind = h.is_head.is_second.is_second in
    let digits = behind.is_second in
    let sum = h.is_trailer.is_second in
    let head : h.head ≡ (codes "8=FIX" ++ version.value) ++ 1 ∷ ((codes "9=" ++ digits.value) ++ 1 ∷ []) =
    h.is_head.spelled ∙ cc_head h.is_head.first h.is_head.second h.is_head.is_second.first h.is_head.is_second.second behind.first behind.second version.value digits.value
    h.is_head.is_first h.is_head.is_second.spelled version.spelled behind.spelled behind.is_first digits.spelled in
    record {
      version = version.value;
      digits = digits.value;
      trailer = h.trailer;
      version_no_soh = version.no_soh;
      digits_no_soh = digits.no_soh;
      trailer_long = omega (arith, ap length h.is_trailer.spelled, length-append h.is_trailer.first h.is_trailer.second, ap length h.is_trailer.is_first, ap length sum.spelled, length-append sum.value (1 ∷ []), sum.is.three);
      spelled = h.spelled ∙ ap (λ (t : List ℕ). t ++ h.trailer) (h.front ∙ ap (λ (t : List ℕ). t ++ parts.body) head)
          ∙ append_assoc ((codes "8=FIX" ++ version.value) ++ 1 ∷ ((codes "9=" ++ digits.value) ++ 1 ∷ [])) parts.body h.trailer
          ∙ append_assoc (codes "8=FIX" ++ version.value) (1 ∷ ((codes "9=" ++ digits.value) ++ 1 ∷ [])) (parts.body ++ h.trailer)
          ∙ ap (λ (t : List ℕ). (codes "8=FIX" ++ version.value) ++ 1 ∷ t) (append_assoc (codes "9=" ++ digits.value) (1 ∷ []) (parts.body ++ h.trailer));
    }

-- the first line, and what is behind it
pub first_line : (body text : List ℕ) → (l : Lines body text) → IsLineOf text (codes "8=FIX" ++ l.version) ((codes "9=" ++ l.digits) ++ 1 ∷ (body ++ l.trailer))
first_line body text l = record {
  no_soh = sign_no_soh 56 (61 ∷ (codes "FIX" ++ l.version)) (omega arith) (sign_no_soh 61 (codes "FIX" ++ l.version) (omega arith) (fix_no_soh l.version l.version_no_soh));
  spelled = l.spelled;
}

pub second_line : (body text : List ℕ) → (l : Lines body text) → IsLineOf ((codes "9=" ++ l.digits) ++ 1 ∷ (body ++ l.trailer)) (codes "9=" ++ l.digits) (body ++ l.trailer)
second_line body text l = record {
  no_soh = sign_no_soh 57 (61 ∷ l.digits) (omega arith) (sign_no_soh 61 l.digits (omega arith) l.digits_no_soh);
  spelled = refl;
}

-- where the two lines of a frame end
pub record Ends (body text first behind : List ℕ) : Type 0 where
  pub lines : Lines body text
  pub first_is : first ≡ codes "8=FIX" ++ lines.version
  pub behind_is : behind ≡ (codes "9=" ++ lines.digits) ++ 1 ∷ (body ++ lines.trailer)

pub ends_of : (parts : Parts) (text first behind : List ℕ) → HasShape parts text → IsLineOf text first behind → Ends parts.body text first behind
ends_of parts text first behind h line =
    let lines = lines_of parts text h in
    let same = line_same text first _ behind _ line (first_line parts.body text lines) in
    record { lines = lines; first_is = same.0; behind_is = same.1 }

-- the lines are there
pub has_first : (text : List ℕ) → IsFrame text → HasLine text
has_first text h = let l = lines_of h.parts text h.shape in record { value = _; rest = _; is = first_line h.parts.body text l }

pub has_second : (text first behind : List ℕ) → IsFrame text → IsLineOf text first behind → HasLine behind
has_second text first behind h line =
    let e = ends_of h.parts text first behind h.shape line in
    record { value = _; rest = _; is = subst (λ (t : List ℕ). IsLineOf t (codes "9=" ++ e.lines.digits) (h.parts.body ++ e.lines.trailer)) (sym e.behind_is) (second_line h.parts.body text e.lines) }

-- behind the second line is the body and the trailer
pub rest_is_body : (parts : Parts) (text first behind second rest : List ℕ) → HasShape parts text → IsLineOf text first behind → IsLineOf behind second rest → (7 ≤ length rest) × (take (length rest - 7) rest ≡ parts.body)
rest_is_body parts text first behind second rest h line more =
    let e = ends_of parts text first behind h line in
    let same = line_same behind second _ rest _ more (subst (λ (t : List ℕ). IsLineOf t (codes "9=" ++ e.lines.digits) (parts.body ++ e.lines.trailer)) (sym e.behind_is) (second_line parts.body text e.lines)) in
    let is : rest ≡ parts.body ++ e.lines.trailer = same.1 in
    let seven = e.lines.trailer_long in
    (omega (arith, ap length is, length-append parts.body e.lines.trailer), ap (λ n. take (length rest - n) rest) (sym seven) ∙ front_is rest parts.body e.lines.trailer is)

-- BeginString (8)
pub begin_is : (text first behind : List ℕ) → IsFrame text → IsLineOf text first behind → HasBegin text (drop 2 first)
begin_is text first behind h line =
    let e = ends_of h.parts text first behind h.shape line in
    let is : drop 2 first ≡ codes "FIX" ++ e.lines.version = ap (drop 2) e.first_is in
    subst (HasBegin text) (sym is) (record {
      no_soh = fix_no_soh e.lines.version e.lines.version_no_soh;
      rest = (codes "9=" ++ e.lines.digits) ++ 1 ∷ (h.parts.body ++ e.lines.trailer);
      spelled = e.lines.spelled;
    })

pub first_long : (text first behind : List ℕ) → IsFrame text → IsLineOf text first behind → 2 ≤ length first
first_long text first behind h line = let e = ends_of h.parts text first behind h.shape line in omega (arith, ap length e.first_is)

-- an SOH is there
pub no_first_line : (bytes : List ℕ) → HasLine bytes → HasNoSoh bytes → ⊥
no_first_line bytes h clear = no_plain bytes clear h.value h.rest h.is.no_soh h.is.spelled

-- ---- the MsgSeqNum

ascii : IsNumeralModel (λ ds. all_ascii_digits ds ≡ true) (digits_value 10)
ascii = numerals_by_value (λ ds. all_ascii_digits ds ≡ true) tells_all_ascii_digits

both : (a b : Bool) → (a && b) ≡ true → (a ≡ true) × (b ≡ true)
both true b e = (refl, e)
both false b e = cc

-- digits that are no number below 10^15 are no MsgSeqNum
no_number_case : (b : Bool) (n : ℕ) → b ≡ false → (if b then Some n else None) ≡ None
no_number_case true n e = cc
no_number_case false n e = refl

number_case : (b : Bool) (n : ℕ) → b ≡ true → (if b then Some n else None) ≡ Some n
number_case true n e = refl
number_case false n e = cc

-- what the test of a MsgSeqNum says
abbrev is_number : List ℕ → Bool
is_number v = all_ascii_digits v && (nat_lt 0 (length v) && (nat_le 1 (digits_value 10 v) && nat_le (digits_value 10 v) 999999999))

pub record NumberFacts (v : List ℕ) : Type 0 where
  pub digits : AllDigits 10 v
  pub some : 0 < length v
  pub low : 1 ≤ digits_value 10 v
  pub high : digits_value 10 v ≤ 999999999

number_facts : (v : List ℕ) → is_number v ≡ true → NumberFacts v
number_facts v e =
    let p = both (all_ascii_digits v) _ e in
    let q = both (nat_lt 0 (length v)) _ p.1 in
    let r = both (nat_le 1 (digits_value 10 v)) _ q.1 in
    record { digits = ascii.to v p.0; some = ltb-true 0 (length v) q.0; low = leb-true 1 (digits_value 10 v) r.0; high = leb-true (digits_value 10 v) 999999999 r.1 }

is_number_here : (v : List ℕ) → NumberFacts v → is_number v ≡ true
is_number_here v h = and_from (all_ascii_digits v) _ (ascii.from v h.digits) (and_from (nat_lt 0 (length v)) _ (lt-ltb 0 (length v) h.some) (and_from (nat_le 1 (digits_value 10 v)) (nat_le (digits_value 10 v) 999999999) (le-leb 1 (digits_value 10 v) h.low) (le-leb (digits_value 10 v) 999999999 h.high)))

pub no_number : (v : List ℕ) → ((n : ℕ) → IsDigitsOf n v → ⊥) → number_in 1 999999999 v ≡ None
no_number v never = no_number_case (is_number v) (digits_value 10 v) (false_from_ne_true (is_number v) (λ e. let h = number_facts v e in never (digits_value 10 v) (record { digits = h.digits; some = h.some; below = omega (arith, h.high); says = refl })))

pub number_is : (v : List ℕ) (n : ℕ) (r : Option ℕ) → IsDigitsOf n v → SomeIff r ((1 ≤ n) × (n ≤ 999999999)) n → r ≡ number_in 1 999999999 v
number_is v n None h iff = sym (no_number_case (is_number v) (digits_value 10 v) (false_from_ne_true (is_number v) (λ e. let f = number_facts v e in iff (omega (arith, h.says, f.low), omega (arith, h.says, f.high)))))
number_is v n (Some k) h iff =
    let low = iff.0.0 in
    let high = iff.0.1 in
    ap Some (iff.1 ∙ h.says) ∙ sym (number_case (is_number v) (digits_value 10 v) (is_number_here v (record { digits = h.digits; some = h.some; low = omega (arith, h.says, low); high = omega (arith, h.says, high) })))

-- nine digits fit
pub nine_small : (v : List ℕ) (n : ℕ) → length v ≤ 9 → IsDigitsOf n v → n < 10 ^ 9
nine_small v n few h = omega (arith, h.says, digits_value_short ascii v 9 (ascii.from v h.digits) few)

within_nine : (b : Bool) (x : Option ℕ) → b ≡ true → (if b then x else None) ≡ x
within_nine true x e = refl
within_nine false x e = cc

pub seq_num_within : (v : List ℕ) → length v ≤ 9 → seq_num_in (Some v) ≡ number_in 1 999999999 v
seq_num_within v few = within_nine (nat_le (length v) 9) (number_in 1 999999999 v) (le-leb (length v) 9 few)

pub seq_num_says : (times : ℕ) (v : List ℕ) (r : Option ℕ) → times ≡ 1 → length v ≤ 9 → r ≡ number_in 1 999999999 v → r ≡ (if times == 1 then seq_num_in (Some v) else None)
seq_num_says times v r one few is = is ∙ sym (seq_num_within v few) ∙ sym (within_nine (times == 1) (seq_num_in (Some v)) (eq-eqb times 1 one))

-- ---- values

value_case : (b : Bool) (v : List ℕ) (x : Option (List ℕ)) → b ≡ true → (if b then Some v else x) ≡ Some v
value_case true v x e = refl
value_case false v x e = cc

past_case : (b : Bool) (v : List ℕ) (x : Option (List ℕ)) → b ≡ false → (if b then Some v else x) ≡ x
past_case true v x e = cc
past_case false v x e = refl

-- the first field has the tag
pub value_here : (tag : ℕ) (f : Field) (fs : List Field) → f.tag ≡ tag → value_of tag (f ∷ fs) ≡ Some f.value
value_here tag f fs e = value_case (f.tag == tag) f.value (value_of tag fs) (eq-eqb f.tag tag e)

-- or another
pub value_past : (tag : ℕ) (f : Field) (fs : List Field) → f.tag ≢ tag → value_of tag (f ∷ fs) ≡ value_of tag fs
value_past tag f fs ne = past_case (f.tag == tag) f.value (value_of tag fs) (false_from_ne_true (f.tag == tag) (λ e. ne (eqb-true f.tag tag e)))

body_case : (b : Bool) (out text rest : List ℕ) → out ++ (if b then rest else text ++ rest) ≡ (out ++ (if b then [] else text)) ++ rest
body_case true out text rest = ap (λ (t : List ℕ). t ++ rest) (sym (append-nil out))
body_case false out text rest = sym (append_assoc out text rest)

-- one more field of a body
pub body_more : (out new text : List ℕ) (f : Field) (fs : List Field) → text ≡ field_text f → new ≡ out ++ (if is_session_tag f.tag then [] else text) → out ++ body_of (f ∷ fs) ≡ new ++ body_of fs
body_more out new text f fs is e = body_case (is_session_tag f.tag) out (field_text f) (body_of fs) ∙ ap (λ (t : List ℕ). (out ++ (if is_session_tag f.tag then [] else t)) ++ body_of fs) (sym is) ∙ ap (λ (t : List ℕ). t ++ body_of fs) (sym e)

-- the bytes of the field at a front
pub field_bytes : (due : Option (ℕ × ℕ)) (f : Field) (bytes rest : List ℕ) → Begins (IsField due f) bytes rest → take (length bytes - length rest) bytes ≡ field_text f
field_bytes due f bytes rest b = front_is bytes b.text rest b.spelled ∙ b.is.spelled

-- ---- the header

pub type_tag : codes "35=" ≡ decimal 35 ++ 61 ∷ []
type_tag = sym (ap (λ (t : List ℕ). t ++ 61 ∷ []) (decimal-digits_value numerals (codes "35") (lit< tt, (lit< tt, tt)) (lit< tt) (λ e. absurd (omega (arith, e))) (lit< tt)))

-- the first field of a frame is MsgType (35)
pub type_first : (n : ℕ) (body : List ℕ) → IsBody n body → (fs : List Field) → FieldsAfter None body fs → (g : Field) × (gs : List Field) × (fs ≡ g ∷ gs) × (g.tag ≡ 35)
type_first n body is [] are = absurd (omega (arith, ap length are, ap length is.spelled, length-append is.first is.second, ap length is.is_first))
type_first n body is (g ∷ gs) are =
    let first : Begins (IsField None g) body are.1 = record { text = are.0; is = are.2; spelled = are.3 } in
    let tag : Begins (IsTag 35) body is.second = record { text = is.first; is = record { first = omega arith; last = omega arith; spelled = is.is_first ∙ type_tag }; spelled = is.spelled } in
    (g, gs, refl, tag_same g.tag 35 body _ _ (field_tag None g body are.1 first) tag)

pub has_type : (text body : List ℕ) → (h : IsFrame text) → ((parts : Parts) → HasShape parts text → body ≡ parts.body) → (fs : List Field) × FieldsAfter None body fs × (v : List ℕ) × (value_of 35 fs ≡ Some v)
has_type text body h is =
    let fields = h.right.fields in
    let t = type_first h.shape.len h.parts.body h.shape.is_body fields.list fields.are in
    (fields.list, subst (λ (b : List ℕ). FieldsAfter None b fields.list) (sym (is h.parts h.shape)) fields.are, t.0.value, ap (value_of 35) t.2 ∙ value_here 35 t.0 t.1 t.3)

pub some_of_map : (A : Type 0) (view : A → List ℕ) (o : Option A) (v : List ℕ) → option_map view o ≡ Some v → IsSome o
some_of_map A view None v e = cc
some_of_map A view (Some x) v e = refl

-- what is known of all the fields is the header
pub header_from : (begin kind : List ℕ) (number : Option ℕ) (n : Firsts) (fs : List Field) → n ≡ firsts_with no_firsts fs → n.type ≡ Some kind → number ≡ (if n.numbers == 1 then seq_num_in n.number else None)
    → record { begin = begin; type = Some kind; number = number; poss_dup = n.poss_dup; sender = n.sender; target = n.target; sending_time = n.sending_time; orig_sending_time = n.orig_sending_time } ≡ header_of_fields begin fs
header_from begin kind number n fs e type is =
    ap (λ (t : Option (List ℕ)). record { begin = begin; type = t; number = number; poss_dup = n.poss_dup; sender = n.sender; target = n.target; sending_time = n.sending_time; orig_sending_time = n.orig_sending_time }) (sym type)
    ∙ ap (λ (k : Option ℕ). record { begin = begin; type = n.type; number = k; poss_dup = n.poss_dup; sender = n.sender; target = n.target; sending_time = n.sending_time; orig_sending_time = n.orig_sending_time }) is
    ∙ ap (λ (m : Firsts). record { begin = begin; type = m.type; number = (if m.numbers == 1 then seq_num_in m.number else None); poss_dup = m.poss_dup; sender = m.sender; target = m.target; sending_time = m.sending_time; orig_sending_time = m.orig_sending_time }) e
    ∙ ap (λ (k : ℕ). record (header_of_fields begin fs) { number = (if k == 1 then seq_num_in (value_of 34 fs) else None) }) (zero-add (times_of 34 fs))
