-- What values say, where they are there.
use Rattle.std.proofs.Common.{◌≡◌, ℕ, ◌≤◌, List, Option, Some, None, sym, ap, subst, ◌∙◌}
use Rattle.std.specs.Prelude.{ℤ, pos, IfSome, unwrap_or}
use Rattle.fix_base.specs.Fields.{Field}
use Rattle.fix_base.specs.Says.{value_of}
use Rattle.fix_fields.specs.Value.{IsInt}
use Rattle.fix_engine.specs.Inbound.{IsOnly, HasInt, IsPlainLogon, IsLogon}

pub some_same : {A : Type 0} (x y : A) → Some x ≡ Some y → x ≡ y
some_same x y e = ap (λ o. unwrap_or o x) e

pub int_at : (tag : ℕ) (fields : List Field) (value : List ℕ) (found : Option ℤ) → value_of tag fields ≡ Some value →
    IfSome found (IsInt value) → ((x : ℤ) → IsInt value x → found ≡ Some x) → IsOnly (HasInt tag fields) found
int_at tag fields value None there known each = record {
  known = tt;
  each = λ x h. each x (subst (λ v. IsInt v x) (some_same h.value value (sym h.there ∙ there)) h.int);
}
int_at tag fields value (Some y) there known each = record {
  known = record { value = value; there = there; int = known };
  each = λ x h. each x (subst (λ v. IsInt v x) (some_same h.value value (sym h.there ∙ there)) h.int);
}

-- there is no value that has P
pub only_none : {A : Type 0} (P : A → Type 0) → ((x : A) → P x → ⊥) → IsOnly P None
only_none P never = record { known = tt; each = λ x h. absurd (never x h) }

-- the heart of a plain Logon
pub heart_at : (fields : List Field) (number : ℤ) (found : Option ℕ) → IsPlainLogon fields →
    IsOnly (HasInt 108 fields) (Some number) → IfSome found (λ seconds. (number ≡ pos seconds) × (seconds ≤ 86400)) →
    ((seconds : ℕ) → number ≡ pos seconds → seconds ≤ 86400 → found ≡ Some seconds) → IsOnly (IsLogon fields) found
heart_at fields number None plain int known each = record {
  known = tt;
  each = λ h l. each h (some_same number (pos h) (int.each (pos h) l.heart_bt_int)) l.at_most_a_day;
}
heart_at fields number (Some seconds) plain int known each = record {
  known = record { plain = plain; heart_bt_int = subst (HasInt 108 fields) known.0 int.known; at_most_a_day = known.1 };
  each = λ h l. each h (some_same number (pos h) (int.each (pos h) l.heart_bt_int)) l.at_most_a_day;
}

-- no value has P
pub none_has : {A : Type 0} (P : A → Type 0) (x : A) → IsOnly P None → P x → ⊥
none_has P x only h = let e : None ≡ Some x = only.each x h in cc
