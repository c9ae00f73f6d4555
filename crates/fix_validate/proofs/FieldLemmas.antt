-- The table of fields, one field after another.
use Rattle.std.proofs.Common.{◌≡◌, ℕ, ◌+◌, Option, ◌<◌, Bool, true, false, not, ◌&&◌, ◌||◌, ◌==◌, List, [], ◌∷◌, ◌++◌, length, take, drop, get_or, refl, sym, ap, subst, ◌∙◌, arith}
use Rattle.std.specs.List.{list_any}
use Rattle.std.proofs.Math.Seq.{take-add}
use Rattle.std.proofs.lemmas.Grind.{common_steps}
use Rattle.fix_base.specs.Fields.{Field}
use Rattle.fix_fields.specs.Shapes.{Shapes}
use Rattle.fix_dict.specs.Dictionary.{DictionarySeen}
use Rattle.std.specs.Prelude.{nat_lt, is_some}
use Rattle.std.proofs.lemmas.Bool.{both_ways}
use Rattle.fix_base.specs.declared.fault.Fault.{Fault}
use Rattle.fix_fields.specs.declared.kind.ValueKind.{ValueKind}
use Rattle.fix_fields.specs.NoTwice.{has_tag}
use Rattle.fix_dict.specs.Dictionary.{kind_of}
use Rattle.fix_validate.specs.Rows.{Finds}
use Rattle.fix_validate.proofs.RowLemmas.{finds_later}
use Rattle.fix_validate.specs.Table.{has_field, is_member, IsNoValueOf, value_out_of_range, field_rows_by, is_header, is_trailer, is_misplaced, has_left_header, has_trailer, field_rows, fields_rows}

pub take_more : {X : Type 0} (fs : List X) (n : ℕ) (d : X) → n < length fs → take (n + 1) fs ≡ take n fs ++ get_or fs n d ∷ []
take_more fs n d h = grind (arith, common_steps, take-add)

pub drop_more : {X : Type 0} (fs : List X) (n : ℕ) (d : X) → n < length fs → drop n fs ≡ get_or fs n d ∷ drop (n + 1) fs
drop_more fs n d h = grind (arith, common_steps)

pub fields_step : (dictionary : DictionarySeen) (root : Shapes) (order : Bool) (fs : List Field) (i : ℕ) (f : Field) → i < length fs → f ≡ get_or fs i f
    → fields_rows dictionary root order (take i fs) (drop i fs) ≡ field_rows dictionary root order (take i fs) f ++ fields_rows dictionary root order (take (i + 1) fs) (drop (i + 1) fs)
fields_step dictionary root order fs i f lt here =
    ap (fields_rows dictionary root order (take i fs)) (drop_more fs i f lt ∙ ap (λ (g : Field). g ∷ drop (i + 1) fs) (sym here))
    ∙ ap (λ (b : List Field). field_rows dictionary root order (take i fs) f ++ fields_rows dictionary root order b (drop (i + 1) fs)) (ap (λ (g : Field). take i fs ++ g ∷ []) here ∙ sym (take_more fs i f lt))

or_end : (a b : Bool) → (a || (b || false)) ≡ (a || b)
or_end true b = refl
or_end false true = refl
or_end false false = refl

or_or : (a b c : Bool) → (a || (b || c)) ≡ ((a || b) || c)
or_or true b c = refl
or_or false b c = refl

pub any_more : {X : Type 0} (p : X → Bool) (xs : List X) (x : X) → list_any p (xs ++ x ∷ []) ≡ (list_any p xs || p x)
any_more p [] x = or_end false (p x)
any_more p (y ∷ xs) x = ap (λ b. p y || b) (any_more p xs x) ∙ or_or (p y) (list_any p xs) (p x)

ordered : (o a b : Bool) → ((o && a) || (o && b)) ≡ (o && (a || b))
ordered true a b = refl
ordered false a b = refl

-- whether a field with this was passed, where the order is asked for
pub passed_more : {X : Type 0} (p : X → Bool) (order : Bool) (fs : List X) (i : ℕ) (f : X) (old new : Bool) → i < length fs → f ≡ get_or fs i f → old ≡ (order && list_any p (take i fs)) → new ≡ (old || (order && p f)) → new ≡ (order && list_any p (take (i + 1) fs))
passed_more p order fs i f old new lt here was is =
    is ∙ ap (λ b. b || (order && p f)) was ∙ ordered order (list_any p (take i fs)) (p f)
    ∙ ap (λ b. order && b) (sym (any_more p (take i fs) f) ∙ ap (λ l. list_any p (take i fs ++ l ∷ [])) here ∙ ap (list_any p) (sym (take_more fs i f lt)))

misplaced_case : (o h l t b : Bool) → ((h && (o && l)) || (not t && (o && b))) ≡ (o && ((h && l) || (not t && b)))
misplaced_case true h l t b = refl
misplaced_case false true l true b = refl
misplaced_case false true l false b = refl
misplaced_case false false l true b = refl
misplaced_case false false l false b = refl

pub misplaced_is : (dictionary : DictionarySeen) (order : Bool) (before : List Field) (tag : ℕ) (left in_trailer m : Bool) → left ≡ (order && has_left_header dictionary before) → in_trailer ≡ (order && has_trailer dictionary before)
    → m ≡ ((is_header dictionary tag && left) || (not (is_trailer dictionary tag) && in_trailer)) → m ≡ (order && is_misplaced dictionary before tag)
misplaced_is dictionary order before tag left in_trailer m l t is =
    is ∙ ap (λ b. (is_header dictionary tag && b) || (not (is_trailer dictionary tag) && in_trailer)) l ∙ ap (λ b. (is_header dictionary tag && (order && has_left_header dictionary before)) || (not (is_trailer dictionary tag) && b)) t
    ∙ misplaced_case order (is_header dictionary tag) (has_left_header dictionary before) (is_trailer dictionary tag) (has_trailer dictionary before)

-- none of the rows but the last holds
pub last_row : (dictionary : DictionarySeen) (root : Shapes) (again misplaced : Bool) (f : Field) (tag : ℕ) (kind : Option ValueKind) (a : Option Fault) → tag ≡ f.tag → kind ≡ kind_of dictionary tag → (nat_lt tag 5000 && not (is_some kind)) ≡ false → (length f.value == 0) ≡ false
    → (is_some kind && not (has_tag tag root)) ≡ false → again ≡ false → misplaced ≡ false → (IsNoValueOf kind f.value → ⊥) → Finds (value_out_of_range dictionary f ∷ []) a → Finds (field_rows_by dictionary root again misplaced f) a
last_row dictionary root again misplaced f tag kind a t k invalid empty foreign once placed right h =
    let at : kind ≡ kind_of dictionary f.tag = k ∙ ap (kind_of dictionary) t in
    finds_later _ _ a (both_ways _ (ap (λ x. nat_lt x 5000 && not (is_some (kind_of dictionary f.tag))) (sym t) ∙ ap (λ x. nat_lt tag 5000 && not (is_some x)) (sym at) ∙ invalid))
    (finds_later _ _ a (both_ways _ empty)
    (finds_later _ _ a (both_ways _ (ap (λ x. is_some (kind_of dictionary f.tag) && not (has_tag x root)) (sym t) ∙ ap (λ x. is_some x && not (has_tag tag root)) (sym at) ∙ foreign))
    (finds_later _ _ a (both_ways _ once)
    (finds_later _ _ a (both_ways _ placed)
    (finds_later _ _ a (λ e. right (rw at e)) h)))))

-- what is found of a field whose place among those before it is known
pub found_row : (dictionary : DictionarySeen) (root : Shapes) (order : Bool) (before : List Field) (f : Field) (tag : ℕ) (again misplaced left in_trailer : Bool) (a : Option Fault) → tag ≡ f.tag → again ≡ (has_field tag before && not (is_member root tag))
    → left ≡ (order && has_left_header dictionary before) → in_trailer ≡ (order && has_trailer dictionary before) → misplaced ≡ ((is_header dictionary tag && left) || (not (is_trailer dictionary tag) && in_trailer))
    → Finds (field_rows_by dictionary root again misplaced f) a → Finds (field_rows dictionary root order before f) a
found_row dictionary root order before f tag again misplaced left in_trailer a t x l r m h =
    let e : again ≡ (has_field f.tag before && not (is_member root f.tag)) = x ∙ ap (λ (n : ℕ). has_field n before && not (is_member root n)) t in
    let g : misplaced ≡ (order && is_misplaced dictionary before f.tag) = misplaced_is dictionary order before tag left in_trailer misplaced l r m ∙ ap (λ (n : ℕ). order && is_misplaced dictionary before n) t in
    subst (λ (b : Bool). Finds (field_rows_by dictionary root (has_field f.tag before && not (is_member root f.tag)) b f) a) g (subst (λ (b : Bool). Finds (field_rows_by dictionary root b misplaced f) a) e h)
