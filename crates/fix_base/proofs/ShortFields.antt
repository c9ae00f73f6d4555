-- Short fields, as those of a header: what CompIDs are, and how long the fields are together.
use Rattle.std.proofs.Common.{◌≡◌, ℕ, ◌+◌, ◌*◌, ◌≤◌, ◌&&◌, nat_le, Bool, false, true, List, [], ◌∷◌, ◌++◌, length, length-append, refl, ap, ◌∙◌, lit<, lit≤, arith}
use Rattle.std.specs.Prelude.{IsTrue}
use Rattle.std.specs.List.{AllByRecursion, list_all}
use Rattle.std.specs.Fmt.{decimal}
use Rattle.std.proofs.lemmas.Bool.{leb-true}
use Rattle.std.proofs.lemmas.Fmt.{length-decimal-le}
use Rattle.std.proofs.lemmas.List.Folds.{list_all_at}
use Rattle.fix_base.specs.Session.{is_comp_id}
use Rattle.fix_base.specs.Frame.{HasNoSoh}
use Rattle.fix_base.specs.Fields.{Field}
use Rattle.fix_base.specs.Says.{field_text, fields_text}

-- both peers of a test
and_both : (a b : Bool) → (a && b) ≡ true → (a ≡ true) × (b ≡ true)
and_both true b e = (refl, e)
and_both false b e = cc

-- a value of bytes that pass a test, which an SOH does not
pub clear_of : (p : ℕ → Bool) (text : List ℕ) → p 1 ≡ false → list_all p text ≡ true → HasNoSoh text
clear_of p text other all k lt e = let wrong = list_all_at p text k 0 lt (ap p e ∙ other) in cc

pub comp_id_clear : (text : List ℕ) → IsTrue (is_comp_id text) → HasNoSoh text
comp_id_clear text h = clear_of (λ b. nat_le 32 b && nat_le b 126) text refl (and_both _ _ (and_both _ _ h).1).1

pub comp_id_short : (text : List ℕ) → IsTrue (is_comp_id text) → length text ≤ 64
comp_id_short text h = leb-true (length text) 64 (and_both _ _ (and_both _ _ h).1).0

-- a field of a value that is no longer than a CompID
pub record IsShortField (f : Field) : Type 0 where
  pub last : f.tag ≤ 999999999
  pub short : length f.value ≤ 64

text_long : (tag value : List ℕ) → length (tag ++ 61 ∷ value ++ 1 ∷ []) ≡ length tag + length value + 2
text_long tag value = omega (arith, length-append (tag ++ 61 ∷ value) (1 ∷ []), length-append tag (61 ∷ value))

short_field : (f : Field) → IsShortField f → length (field_text f) ≤ 100
short_field f h =
    let low = h.last in
    let tag = length-decimal-le 9 f.tag (lit< tt) (omega arith) (omega arith) in
    omega (arith, text_long (decimal f.tag) f.value, tag, h.short)

pub short_fields : (fs : List Field) → AllByRecursion IsShortField fs → length (fields_text fs) ≤ 100 * length fs
short_fields [] each = lit≤ tt
short_fields (f ∷ fs) each = omega (arith, length-append (field_text f) (fields_text fs), short_field f each.0, short_fields fs each.1)
