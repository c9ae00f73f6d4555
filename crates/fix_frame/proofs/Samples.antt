-- A message of a MsgType and a text (58) may be sealed.
use Rattle.std.proofs.Common.{◌≡◌, ℕ, ◌<◌, List, [], ◌∷◌, ◌++◌, length, replicate, None, refl, sym, ap, ◌∙◌, append_assoc, arith, lit<, lit≤}
use Rattle.std.specs.Prelude.{codes}
use Rattle.std.specs.Fmt.{decimal}
use Rattle.std.proofs.lemmas.Fmt.{decimal-digits_value}
use Rattle.std.proofs.lemmas.List.{append-nil, get_or-replicate, length-replicate}
use Rattle.fix_base.specs.Frame.{HasNoSoh}
use Rattle.fix_base.specs.Fields.{IsField}
use Rattle.fix_base.specs.Payload.{field}
use Rattle.fix_base.specs.Says.{field_text}
use Rattle.fix_base.proofs.Digits.{numerals, digits_no_soh}
use Rattle.fix_frame.specs.Sealable.{IsSealable}

-- the MsgType of a Heartbeat
pub zero_no_soh : HasNoSoh (codes "0")
zero_no_soh = digits_no_soh (codes "0") (lit< tt, tt)

-- a text of `x`
pub text_no_soh : (n : ℕ) → HasNoSoh (replicate n 120)
text_no_soh n k lt e =
    let inside : k < n = omega (arith, length-replicate {A = ℕ} n 120) in
    let same : 120 ≡ 1 = sym (get_or-replicate n k 120 0 inside) ∙ e in
    omega (arith, same)

-- `58=`
text_tag : decimal 58 ++ 61 ∷ [] ≡ codes "58="
text_tag = ap (λ (t : List ℕ). t ++ 61 ∷ []) (decimal-digits_value numerals (codes "58") (lit< tt, (lit< tt, tt)) (lit< tt) (λ e. absurd (omega (arith, e))) (lit< tt))

type_is : (kind : List ℕ) → HasNoSoh kind → IsField None (field 35 kind) (field_text (field 35 kind))
type_is kind clear = record { first = lit≤ tt; last = lit≤ tt; value = clear; spelled = refl }

-- a MsgType and a text
pub sealable_text : (kind value : List ℕ) → 0 < length kind → HasNoSoh kind → HasNoSoh value → IsSealable kind [] (codes "58=" ++ value ++ 1 ∷ [])
sealable_text kind value named clear clear_value =
    let spelled : codes "58=" ++ value ++ 1 ∷ [] ≡ field_text (field 58 value) = simp append_assoc (ap (λ (t : List ℕ). t ++ (value ++ 1 ∷ [])) (sym text_tag) ∙ append_assoc (decimal 58) (61 ∷ []) (value ++ 1 ∷ [])) in
    record {
      named = named;
      fields = field 58 value ∷ [];
      are = (
        field_text (field 35 kind),
        codes "58=" ++ value ++ 1 ∷ [],
        type_is kind clear,
        ap (λ (t : List ℕ). t ++ (codes "58=" ++ value ++ 1 ∷ [])) (append-nil (field_text (field 35 kind))),
        (field_text (field 58 value), [], record { first = lit≤ tt; last = lit≤ tt; value = clear_value; spelled = refl }, spelled ∙ sym (append-nil (field_text (field 58 value))), refl),
      );
      each = (record { no_begin = λ e. omega (arith, e); no_length = λ e. omega (arith, e); no_sum = λ e. omega (arith, e); no_type = λ e. omega (arith, e) }, tt);
    }
