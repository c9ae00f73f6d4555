-- The table of required tags, member by member, run by run and instance by instance.
use Rattle.std.proofs.Common.{◌≡◌, ℕ, zero, suc, ◌+◌, ◌<◌, ◌≤◌, Bool, true, ◌||◌, if◌then◌else◌, List, [], ◌∷◌, ◌++◌, length, take, drop, get_or, refl, sym, ap, ◌∙◌, arith, append_assoc, append-nil}
use Rattle.std.proofs.lemmas.Grind.{common_steps}
use Rattle.std.proofs.lemmas.Bool.{eq-eqb, ne_eqb}
use Rattle.fix_base.specs.Fields.{Field}
use Rattle.fix_fields.specs.Shapes.{Shapes, shapes_size}
use Rattle.fix_fields.specs.Members.{shapes_of}
use Rattle.fix_fields.specs.declared.layout.Member.{Member}
use Rattle.fix_fields.specs.declared.layout.Member.TheVariants.{Plain, Group}
use Rattle.fix_groups.specs.Tagged.{Tagged, tagged, all_tagged}
use Rattle.fix_groups.specs.Runs.{run_of, lead}
use Rattle.fix_groups.proofs.Slices.{tagged_dropped, tagged_taken}
use Rattle.fix_validate.specs.Rows.{Row}
use Rattle.fix_validate.specs.Required.{is_there, up_to, instances_of, instances_in, rows_of_each, required_tag_missing, required_rows}
use Rattle.fix_validate.proofs.FieldLemmas.{drop_more}

-- ---- members

pub plain_step : (ms : List Member) (i : ℕ) (m : Member) (tag : ℕ) (required : Bool) (fs : List Tagged) → i < length ms → m ≡ get_or ms i m → m ≡ Plain tag required
    → required_rows (shapes_of (drop i ms)) fs ≡ required_tag_missing tag required fs ∷ required_rows (shapes_of (drop (i + 1) ms)) fs
plain_step ms i m tag required fs lt here is = ap (λ (l : List Member). required_rows (shapes_of l) fs) (drop_more ms i m lt ∙ ap (λ (x : Member). x ∷ drop (i + 1) ms) (sym here ∙ is))

pub group_step : (ms : List Member) (i : ℕ) (m : Member) (count : ℕ) (required : Bool) (inner : Shapes) (fs : List Tagged) → i < length ms → m ≡ get_or ms i m → m ≡ Group count required inner
    → required_rows (shapes_of (drop i ms)) fs ≡ required_tag_missing count required fs ∷ (rows_of_each (required_rows inner) (instances_in count inner fs) ++ required_rows (shapes_of (drop (i + 1) ms)) fs)
group_step ms i m count required inner fs lt here is = ap (λ (l : List Member). required_rows (shapes_of l) fs) (drop_more ms i m lt ∙ ap (λ (x : Member). x ∷ drop (i + 1) ms) (sym here ∙ is))

-- ---- runs of a group

append_rows : (xs ys zs : List Row) → (xs ++ ys) ++ zs ≡ xs ++ (ys ++ zs)
append_rows [] ys zs = refl
append_rows (x ∷ xs) ys zs = ap (λ (l : List Row). x ∷ l) (append_rows xs ys zs)

pub each-append : (rows : List Tagged → List Row) (xs ys : List (List Tagged)) → rows_of_each rows (xs ++ ys) ≡ rows_of_each rows xs ++ rows_of_each rows ys
each-append rows [] ys = refl
each-append rows (x ∷ xs) ys = ap (λ (l : List Row). rows x ++ l) (each-append rows xs ys) ∙ sym (append_rows (rows x) (rows_of_each rows xs) (rows_of_each rows ys))

dropped : (fs : List Field) (i : ℕ) (f : Field) → i < length fs → f ≡ get_or fs i f → all_tagged (drop i fs) ≡ tagged f ∷ all_tagged (drop (i + 1) fs)
dropped fs i f lt here = tagged_dropped fs i f lt ∙ ap (λ (x : Field). tagged x ∷ all_tagged (drop (i + 1) fs)) (sym here)

pub count_here : (rows : List Tagged → List Row) (count : ℕ) (g : Shapes) (fs : List Field) (i : ℕ) (f : Field) → i < length fs → f ≡ get_or fs i f → f.tag ≡ count
    → rows_of_each rows (instances_in count g (all_tagged (drop i fs)))
    ≡ rows_of_each rows (instances_of (lead g) (run_of g (all_tagged (drop (i + 1) fs)))) ++ rows_of_each rows (instances_in count g (all_tagged (drop (i + 1) fs)))
count_here rows count g fs i f lt here is =
    ap (λ (l : List Tagged). rows_of_each rows (instances_in count g l)) (dropped fs i f lt here)
    ∙ ap (λ (b : Bool). rows_of_each rows (if b then instances_of (lead g) (run_of g (all_tagged (drop (i + 1) fs))) ++ instances_in count g (all_tagged (drop (i + 1) fs)) else instances_in count g (all_tagged (drop (i + 1) fs)))) (eq-eqb f.tag count is)
    ∙ each-append rows (instances_of (lead g) (run_of g (all_tagged (drop (i + 1) fs)))) (instances_in count g (all_tagged (drop (i + 1) fs)))

pub count_not : (rows : List Tagged → List Row) (count : ℕ) (g : Shapes) (fs : List Field) (i : ℕ) (f : Field) → i < length fs → f ≡ get_or fs i f → (f.tag ≡ count → ⊥)
    → rows_of_each rows (instances_in count g (all_tagged (drop i fs))) ≡ rows_of_each rows (instances_in count g (all_tagged (drop (i + 1) fs)))
count_not rows count g fs i f lt here off =
    ap (λ (l : List Tagged). rows_of_each rows (instances_in count g l)) (dropped fs i f lt here)
    ∙ ap (λ (b : Bool). rows_of_each rows (if b then instances_of (lead g) (run_of g (all_tagged (drop (i + 1) fs))) ++ instances_in count g (all_tagged (drop (i + 1) fs)) else instances_in count g (all_tagged (drop (i + 1) fs)))) (ne_eqb f.tag count off)

-- ---- instances of a run

pub instance_here : (rows : List Tagged → List Row) (d : ℕ) (fs : List Field) (i : ℕ) (f : Field) → i < length fs → f ≡ get_or fs i f → f.tag ≡ d
    → rows_of_each rows (instances_of d (all_tagged (drop i fs))) ≡ rows (tagged f ∷ up_to d (all_tagged (drop (i + 1) fs))) ++ rows_of_each rows (instances_of d (all_tagged (drop (i + 1) fs)))
instance_here rows d fs i f lt here is =
    ap (λ (l : List Tagged). rows_of_each rows (instances_of d l)) (dropped fs i f lt here)
    ∙ ap (λ (b : Bool). rows_of_each rows (if b then (tagged f ∷ up_to d (all_tagged (drop (i + 1) fs))) ∷ instances_of d (all_tagged (drop (i + 1) fs)) else instances_of d (all_tagged (drop (i + 1) fs)))) (eq-eqb f.tag d is)

pub instance_not : (rows : List Tagged → List Row) (d : ℕ) (fs : List Field) (i : ℕ) (f : Field) → i < length fs → f ≡ get_or fs i f → (f.tag ≡ d → ⊥)
    → rows_of_each rows (instances_of d (all_tagged (drop i fs))) ≡ rows_of_each rows (instances_of d (all_tagged (drop (i + 1) fs)))
instance_not rows d fs i f lt here off =
    ap (λ (l : List Tagged). rows_of_each rows (instances_of d l)) (dropped fs i f lt here)
    ∙ ap (λ (b : Bool). rows_of_each rows (if b then (tagged f ∷ up_to d (all_tagged (drop (i + 1) fs))) ∷ instances_of d (all_tagged (drop (i + 1) fs)) else instances_of d (all_tagged (drop (i + 1) fs)))) (ne_eqb f.tag d off)

-- the delimiter and so many fields behind it
pub instance_is : (d n : ℕ) (fs : List Field) (i : ℕ) (f : Field) → i < length fs → f ≡ get_or fs i f → all_tagged (take n (drop (i + 1) fs)) ≡ up_to d (all_tagged (drop (i + 1) fs))
    → all_tagged (take (n + 1) (drop i fs)) ≡ tagged f ∷ up_to d (all_tagged (drop (i + 1) fs))
instance_is d n fs i f lt here is =
    ap (λ (l : List Field). all_tagged (take (n + 1) l)) (drop_more fs i f lt ∙ ap (λ (x : Field). x ∷ drop (i + 1) fs) (sym here))
    ∙ ap all_tagged (one_more n f (drop (i + 1) fs)) ∙ ap (λ (l : List Tagged). tagged f ∷ l) is where
      one_more : (n : ℕ) (x : Field) (xs : List Field) → take (n + 1) (x ∷ xs) ≡ x ∷ take n xs
      one_more n x xs = grind (arith, common_steps)

-- one field more before the delimiter
pub up_to_on : (d : ℕ) (fs : List Field) (n : ℕ) (f : Field) → n < length fs → f ≡ get_or fs n f → (f.tag ≡ d → ⊥) → all_tagged (take n fs) ++ up_to d (all_tagged (drop n fs)) ≡ up_to d (all_tagged fs)
    → all_tagged (take (n + 1) fs) ++ up_to d (all_tagged (drop (n + 1) fs)) ≡ up_to d (all_tagged fs)
up_to_on d fs n f lt here off h =
    let e : up_to d (all_tagged (drop n fs)) ≡ tagged f ∷ up_to d (all_tagged (drop (n + 1) fs)) =
    ap (up_to d) (dropped fs n f lt here) ∙ ap (λ (b : Bool). if b then [] else tagged f ∷ up_to d (all_tagged (drop (n + 1) fs))) (ne_eqb f.tag d off) in
    ap (λ (l : List Tagged). l ++ up_to d (all_tagged (drop (n + 1) fs))) (tagged_taken fs n f lt ∙ ap (λ (x : Field). all_tagged (take n fs) ++ tagged x ∷ []) (sym here))
    ∙ append_assoc (all_tagged (take n fs)) (tagged f ∷ []) (up_to d (all_tagged (drop (n + 1) fs))) ∙ ap (λ (l : List Tagged). all_tagged (take n fs) ++ l) (sym e) ∙ h

pub up_to_stop : (d : ℕ) (fs : List Field) (n : ℕ) (f : Field) → n < length fs → f ≡ get_or fs n f → f.tag ≡ d → all_tagged (take n fs) ++ up_to d (all_tagged (drop n fs)) ≡ up_to d (all_tagged fs) → all_tagged (take n fs) ≡ up_to d (all_tagged fs)
up_to_stop d fs n f lt here is h =
    let e : up_to d (all_tagged (drop n fs)) ≡ [] = ap (up_to d) (dropped fs n f lt here) ∙ ap (λ (b : Bool). if b then [] else tagged f ∷ up_to d (all_tagged (drop (n + 1) fs))) (eq-eqb f.tag d is) in
    sym (append-nil (all_tagged (take n fs))) ∙ ap (λ (l : List Tagged). all_tagged (take n fs) ++ l) (sym e) ∙ h

pub up_to_end : (d : ℕ) (fs : List Field) (n : ℕ) → length fs ≤ n → all_tagged (take n fs) ++ up_to d (all_tagged (drop n fs)) ≡ up_to d (all_tagged fs) → all_tagged (take n fs) ≡ up_to d (all_tagged fs)
up_to_end d fs n le h =
    let e : drop n fs ≡ [] = grind (arith, common_steps) in
    sym (append-nil (all_tagged (take n fs))) ∙ ap (λ (l : List Field). all_tagged (take n fs) ++ up_to d (all_tagged l)) (sym e) ∙ h

-- ---- a field with the tag

pub there_at : (tag : ℕ) (fs : List Field) (i : ℕ) (f : Field) → i < length fs → f ≡ get_or fs i f → f.tag ≡ tag → is_there tag (all_tagged (drop i fs)) ≡ is_there tag (all_tagged fs) → true ≡ is_there tag (all_tagged fs)
there_at tag fs i f lt here is h = sym (ap (is_there tag) (dropped fs i f lt here) ∙ ap (λ (b : Bool). b || is_there tag (all_tagged (drop (i + 1) fs))) (eq-eqb f.tag tag is)) ∙ h

pub there_on : (tag : ℕ) (fs : List Field) (i : ℕ) (f : Field) → i < length fs → f ≡ get_or fs i f → (f.tag ≡ tag → ⊥) → is_there tag (all_tagged (drop i fs)) ≡ is_there tag (all_tagged fs) → is_there tag (all_tagged (drop (i + 1) fs)) ≡ is_there tag (all_tagged fs)
there_on tag fs i f lt here off h = sym (ap (is_there tag) (dropped fs i f lt here) ∙ ap (λ (b : Bool). b || is_there tag (all_tagged (drop (i + 1) fs))) (ne_eqb f.tag tag off)) ∙ h

-- ---- groups are smaller than what has them

pub group_smaller : (ms : List Member) (i : ℕ) (m : Member) (count : ℕ) (required : Bool) (inner : Shapes) → i < length ms → m ≡ get_or ms i m → m ≡ Group count required inner → shapes_size inner < shapes_size (shapes_of ms)
group_smaller [] i m count required inner lt here is = absurd (omega (arith, lt))
group_smaller (x ∷ ms) zero m count required inner lt here is =
    let e : x ≡ Group count required inner = sym here ∙ is in
    rw e (omega arith)
group_smaller (x ∷ ms) (suc i) m count required inner lt here is = grows x (group_smaller ms i m count required inner (omega (arith, lt)) here is) where
  grows : (y : Member) → shapes_size inner < shapes_size (shapes_of ms) → shapes_size inner < shapes_size (shapes_of (y ∷ ms))
  grows (Plain tag needed) h = omega (arith, h)
  grows (Group c needed other) h = omega (arith, h)

at_any : (fs : List Field) (i : ℕ) (d e : Field) → i < length fs → get_or fs i d ≡ get_or fs i e
at_any [] i d e lt = absurd (omega (arith, lt))
at_any (f ∷ fs) zero d e lt = refl
at_any (f ∷ fs) (suc i) d e lt = at_any fs i d e (omega (arith, lt))

pub instance_from : (d n end : ℕ) (fs : List Field) (i : ℕ) (e : Field) → i < length fs → end ≡ n + 1 → all_tagged (take n (drop (i + 1) fs)) ≡ up_to d (all_tagged (drop (i + 1) fs))
    → all_tagged (take end (drop i fs)) ≡ tagged (get_or fs i e) ∷ up_to d (all_tagged (drop (i + 1) fs))
instance_from d n end fs i e lt long is =
    ap (λ (m : ℕ). all_tagged (take m (drop i fs))) long ∙ instance_is d n fs i (get_or fs i e) lt (at_any fs i e (get_or fs i e) lt) is
