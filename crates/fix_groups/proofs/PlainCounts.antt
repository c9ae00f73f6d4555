-- Counts without leading zeros stay as they are.
use Rattle.std.proofs.Common.{◌≡◌, ℕ, ◌^◌, ◌<◌, ◌≤◌, Bool, true, false, ◌&&◌, nat_lt, nat_le, if◌then◌else◌, List, [], ◌∷◌, ◌++◌, length, Option, Some, None, refl, ap, sym, ◌∙◌, rules, arith}
use Rattle.std.specs.Str.{all_ascii_digits}
use Rattle.std.specs.Str.Parse.{digits_value}
use Rattle.std.proofs.lemmas.Fmt.{decimal-digits_value}
use Rattle.std.proofs.lemmas.Str.Parse.{digits_value_short}
use Rattle.fix_base.specs.Fields.{Field, FieldsAfter, data_after}
use Rattle.fix_base.specs.Says.{field_text, fields_text}
use Rattle.fix_fields.specs.Shapes.{Shapes}
use Rattle.fix_groups.specs.Looked.{group_at}
use Rattle.fix_groups.specs.Nodes.{Nodes}
use Rattle.fix_groups.specs.Fits.{IsTreeOf}
use Rattle.fix_groups.proofs.CountLemmas.{ascii}
use Rattle.fix_groups.proofs.Fronts.{both_true}
use Rattle.fix_groups.specs.Flat.{flat, plainly, plain_value, plain_number, IsPlainNumber, HasPlainCounts}

number_with : (v : List ℕ) (b : Bool) → (all_ascii_digits v && (nat_lt 0 (length v) && nat_le (length v) 9)) ≡ b → IsPlainNumber v → plain_number (if b then Some (digits_value 10 v) else None) v ≡ v
number_with v false is plain = refl
number_with v true is plain =
    let p = both_true (all_ascii_digits v) (nat_lt 0 (length v) && nat_le (length v) 9) is in
    let q = both_true (nat_lt 0 (length v)) (nat_le (length v) 9) p.1 in
    let some : 0 < length v = search (rules, q.0) in
    let few : length v ≤ 9 = search (rules, q.1) in
    let small : digits_value 10 v < 10 ^ 9 = digits_value_short ascii v 9 p.0 few in
    decimal-digits_value ascii v p.0 some plain (omega (arith, small))

value_with : (v : List ℕ) (o : Option Shapes) → ((g : Shapes) → o ≡ Some g → IsPlainNumber v) → plain_value o v ≡ v
value_with v None plain = refl
value_with v (Some g) plain = number_with v (all_ascii_digits v && (nat_lt 0 (length v) && nat_le (length v) 9)) refl (plain g refl)

pub plainly_same : (root : Shapes) (fs : List Field) → HasPlainCounts root fs → plainly root fs ≡ fs
plainly_same root [] plain = refl
plainly_same root (f ∷ fs) plain = ap (λ v. record { tag = f.tag; value = v } ∷ plainly root fs) (value_with f.value (group_at f.tag root) plain.0) ∙ ap (λ l. f ∷ l) (plainly_same root fs plain.1)

-- the bytes are what the fields spell
fields_spell : (due : Option (ℕ × ℕ)) (bytes : List ℕ) (fs : List Field) → FieldsAfter due bytes fs → bytes ≡ fields_text fs
fields_spell due bytes [] are = are
fields_spell due bytes (f ∷ fs) are = are.3 ∙ ap (λ (t : List ℕ). t ++ are.1) are.2.spelled ∙ ap (λ (r : List ℕ). field_text f ++ r) (fields_spell (data_after f) are.1 fs are.4)

pub plain_text : (root : Shapes) (bytes : List ℕ) (fs : List Field) (tree : Nodes) → FieldsAfter None bytes fs → IsTreeOf root fs tree → HasPlainCounts root fs → fields_text (flat tree) ≡ bytes
plain_text root bytes fs tree are t plain = ap fields_text (t.spelled ∙ plainly_same root fs plain) ∙ sym (fields_spell None bytes fs are)
