-- Fields of the sample's messages, by their texts.
use Rattle.std.proofs.Common.{◌≡◌, ◌≢◌, ℕ, ◌%◌, ◌^◌, ◌<◌, ◌≤◌, nat_le, codes, sum, true, List, [], ◌∷◌, ◌++◌, length, get_or, None, refl, ap, ◌∙◌, lit<, lit≤, arith}
use Rattle.std.specs.List.{AllByRecursion, list_all}
use Rattle.std.specs.Fmt.{decimal}
use Rattle.std.specs.Str.Parse.{digits_value, AllDigits}
use Rattle.std.proofs.lemmas.Fmt.{decimal-digits_value}
use Rattle.fix_base.specs.declared.identity.Begin.TheVariants.{Fix42}
use Rattle.fix_base.specs.Tags.{data_tag}
use Rattle.fix_base.specs.Fields.{Field}
use Rattle.fix_base.specs.Says.{fields_text}
use Rattle.fix_base.specs.Payload.{field}
use Rattle.fix_base.specs.Shape.{IsBodyField}
use Rattle.fix_base.specs.Sealed.{sealed, trailer_of}
use Rattle.fix_base.proofs.Digits.{numerals}
use Rattle.fix_base.proofs.PlainFields.{IsPlainField}
use Rattle.fix_base.proofs.ShortFields.{clear_of}

-- digits with no 0 in front are what is written of their number
digits_of : (ds : List ℕ) → AllDigits 10 ds → 0 < length ds → get_or ds 0 0 ≢ 48 → digits_value 10 ds < 2 ^ 64 → decimal (digits_value 10 ds) ≡ ds
digits_of ds digits some first small = decimal-digits_value numerals ds digits some (λ e. absurd (first e)) small

pub number_1 : decimal 1 ≡ codes "1"
number_1 = digits_of (codes "1") (lit< tt, tt) (lit< tt) (λ e. omega (arith, e)) (lit< tt)

pub number_2 : decimal 2 ≡ codes "2"
number_2 = digits_of (codes "2") (lit< tt, tt) (lit< tt) (λ e. omega (arith, e)) (lit< tt)

pub number_30 : decimal 30 ≡ codes "30"
number_30 = digits_of (codes "30") (lit< tt, (lit< tt, tt)) (lit< tt) (λ e. omega (arith, e)) (lit< tt)

pub number_46 : decimal 46 ≡ codes "46"
number_46 = digits_of (codes "46") (lit< tt, (lit< tt, tt)) (lit< tt) (λ e. omega (arith, e)) (lit< tt)

pub number_50 : decimal 50 ≡ codes "50"
number_50 = digits_of (codes "50") (lit< tt, (lit< tt, tt)) (lit< tt) (λ e. omega (arith, e)) (lit< tt)

pub number_58 : decimal 58 ≡ codes "58"
number_58 = digits_of (codes "58") (lit< tt, (lit< tt, tt)) (lit< tt) (λ e. omega (arith, e)) (lit< tt)

pub number_62 : decimal 62 ≡ codes "62"
number_62 = digits_of (codes "62") (lit< tt, (lit< tt, tt)) (lit< tt) (λ e. omega (arith, e)) (lit< tt)

pub number_95 : decimal 95 ≡ codes "95"
number_95 = digits_of (codes "95") (lit< tt, (lit< tt, tt)) (lit< tt) (λ e. omega (arith, e)) (lit< tt)

-- a tag of two digits that announces no data
pub record IsTwo (tag : ℕ) (digits : List ℕ) : Type 0 where
  written : decimal tag ≡ digits
  low : 11 ≤ tag
  last : tag ≤ 999999999
  no_length : data_tag tag ≡ None

two : (ds : List ℕ) → AllDigits 10 ds → 0 < length ds → 11 ≤ digits_value 10 ds → digits_value 10 ds ≤ 999 → get_or ds 0 0 ≢ 48 → data_tag (digits_value 10 ds) ≡ None → IsTwo (digits_value 10 ds) ds
two ds digits some low high first none = record { written = digits_of ds digits some first (omega arith); low = low; last = omega arith; no_length = none }

pub tag_11 : IsTwo 11 (codes "11")
tag_11 = two (codes "11") (lit< tt, (lit< tt, tt)) (lit< tt) (lit≤ tt) (lit≤ tt) (λ e. omega (arith, e)) refl

pub tag_21 : IsTwo 21 (codes "21")
tag_21 = two (codes "21") (lit< tt, (lit< tt, tt)) (lit< tt) (lit≤ tt) (lit≤ tt) (λ e. omega (arith, e)) refl

pub tag_34 : IsTwo 34 (codes "34")
tag_34 = two (codes "34") (lit< tt, (lit< tt, tt)) (lit< tt) (lit≤ tt) (lit≤ tt) (λ e. omega (arith, e)) refl

pub tag_35 : IsTwo 35 (codes "35")
tag_35 = two (codes "35") (lit< tt, (lit< tt, tt)) (lit< tt) (lit≤ tt) (lit≤ tt) (λ e. omega (arith, e)) refl

pub tag_40 : IsTwo 40 (codes "40")
tag_40 = two (codes "40") (lit< tt, (lit< tt, tt)) (lit< tt) (lit≤ tt) (lit≤ tt) (λ e. omega (arith, e)) refl

pub tag_49 : IsTwo 49 (codes "49")
tag_49 = two (codes "49") (lit< tt, (lit< tt, tt)) (lit< tt) (lit≤ tt) (lit≤ tt) (λ e. omega (arith, e)) refl

pub tag_52 : IsTwo 52 (codes "52")
tag_52 = two (codes "52") (lit< tt, (lit< tt, tt)) (lit< tt) (lit≤ tt) (lit≤ tt) (λ e. omega (arith, e)) refl

pub tag_54 : IsTwo 54 (codes "54")
tag_54 = two (codes "54") (lit< tt, (lit< tt, tt)) (lit< tt) (lit≤ tt) (lit≤ tt) (λ e. omega (arith, e)) refl

pub tag_55 : IsTwo 55 (codes "55")
tag_55 = two (codes "55") (lit< tt, (lit< tt, tt)) (lit< tt) (lit≤ tt) (lit≤ tt) (λ e. omega (arith, e)) refl

pub tag_56 : IsTwo 56 (codes "56")
tag_56 = two (codes "56") (lit< tt, (lit< tt, tt)) (lit< tt) (lit≤ tt) (lit≤ tt) (λ e. omega (arith, e)) refl

pub tag_60 : IsTwo 60 (codes "60")
tag_60 = two (codes "60") (lit< tt, (lit< tt, tt)) (lit< tt) (lit≤ tt) (lit≤ tt) (λ e. omega (arith, e)) refl

pub tag_98 : IsTwo 98 (codes "98")
tag_98 = two (codes "98") (lit< tt, (lit< tt, tt)) (lit< tt) (lit≤ tt) (lit≤ tt) (λ e. omega (arith, e)) refl

pub tag_108 : IsTwo 108 (codes "108")
tag_108 = two (codes "108") (lit< tt, (lit< tt, (lit< tt, tt))) (lit< tt) (lit≤ tt) (lit≤ tt) (λ e. omega (arith, e)) refl

-- these fields are this text, and none announces data
pub record IsSpelled (fs : List Field) (text : List ℕ) : Type 0 where
  pub spelled : fields_text fs ≡ text
  pub plain : AllByRecursion IsPlainField fs
  pub each : AllByRecursion IsBodyField fs

pub nothing_more : IsSpelled [] []
nothing_more = record { spelled = refl; plain = tt; each = tt }

-- one more field in front
pub with_field : (tag : ℕ) (digits value : List ℕ) (fs : List Field) (text : List ℕ) → IsTwo tag digits → list_all (λ b. nat_le 2 b) value ≡ true → IsSpelled fs text → IsSpelled (field tag value ∷ fs) ((digits ++ 61 ∷ value ++ 1 ∷ []) ++ text)
with_field tag digits value fs text t clear h = record {
  spelled = ap (λ (d : List ℕ). (d ++ 61 ∷ value ++ 1 ∷ []) ++ fields_text fs) t.written ∙ ap (λ (w : List ℕ). (digits ++ 61 ∷ value ++ 1 ∷ []) ++ w) h.spelled;
  plain = (record { first = let low = t.low in omega arith; last = t.last; no_soh = clear_of (λ b. nat_le 2 b) value refl clear; no_length = t.no_length }, h.plain);
  each = (record { no_begin = λ e. (let low = t.low in omega arith); no_length = λ e. (let low = t.low in omega arith); no_sum = λ e. (let low = t.low in omega arith) }, h.each);
}

-- `8=FIX.4.2|9=` and these digits
abbrev pub head_text : List ℕ → List ℕ
head_text digits = codes "8=" ++ codes "FIX.4.2" ++ 1 ∷ [] ++ codes "9=" ++ digits ++ 1 ∷ []

-- the body sealed, where its length has these digits
abbrev pub sealed_text : List ℕ → List ℕ → List ℕ
sealed_text digits body = head_text digits ++ body ++ trailer_of (sum (head_text digits ++ body) % 256)

pub sealed_is : (body digits : List ℕ) → decimal (length body) ≡ digits → sealed Fix42 body ≡ sealed_text digits body
sealed_is body digits e = ap (λ (d : List ℕ). sealed_text d body) e

-- ---- the fields

abbrev pub LOGON_FIELDS : List Field
LOGON_FIELDS = field 35 (codes "A") ∷ field 34 (codes "1") ∷ field 49 (codes "BUY") ∷ field 52 (codes "20240102-10:00:00") ∷ field 56 (codes "SELL") ∷ field 98 (codes "0") ∷ field 108 (codes "30") ∷ []

abbrev pub ORDER_FIELDS : List Field
ORDER_FIELDS = field 35 (codes "D") ∷ field 34 (codes "2") ∷ field 49 (codes "BUY") ∷ field 52 (codes "20240102-10:00:00") ∷ field 56 (codes "SELL") ∷ field 11 (codes "A1") ∷ field 21 (codes "1") ∷ field 55 (codes "XYZ") ∷ field 54 (codes "1") ∷ field 60 (codes "20240102-10:00:00") ∷ field 40 (codes "1") ∷ []

abbrev pub LOGOUT_FIELDS : List Field
LOGOUT_FIELDS = field 35 (codes "5") ∷ field 34 (codes "3") ∷ field 49 (codes "BUY") ∷ field 52 (codes "20240102-10:00:00") ∷ field 56 (codes "SELL") ∷ []

-- the body of the order
abbrev pub BODY_FIELDS : List Field
BODY_FIELDS = field 35 (codes "D") ∷ field 11 (codes "A1") ∷ field 21 (codes "1") ∷ field 55 (codes "XYZ") ∷ field 54 (codes "1") ∷ field 60 (codes "20240102-10:00:00") ∷ field 40 (codes "1") ∷ []
