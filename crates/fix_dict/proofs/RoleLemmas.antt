-- Roles of tags, one after another, and what they say.
use Rattle.std.proofs.Common.{◌≡◌, ℕ, ◌+◌, ◌<◌, Bool, true, false, ◌||◌, ◌==◌, inl, inr, List, [], ◌∷◌, ◌++◌, length, get_or, refl, sym, ap, ◌∙◌, arith}
use Rattle.std.proofs.lemmas.Bool.{cases_lt}
use Rattle.fix_fields.specs.Shapes.{Shapes, no_more, plain, group}
use Rattle.fix_fields.specs.NoTwice.{has_tag}
use Rattle.fix_dict.specs.declared.noted.Role.{Role}
use Rattle.fix_dict.specs.Roles.{is_grouped, role_by, role_of, is_known, is_of_group, AreRoles}
use Rattle.fix_dict.proofs.NoteLemmas.{old_one, new_one, longer}

pub no_roles : (layout : Shapes) → AreRoles layout []
no_roles layout i d h = absurd (omega (arith, h))

-- with the role of the next tag
pub roles_more : (layout : Shapes) (old new : List Role) (i tag : ℕ) (role : Role) → AreRoles layout old → length old ≡ i → tag ≡ i + 1
    → role ≡ role_of layout tag → new ≡ old ++ role ∷ [] → AreRoles layout new
roles_more layout old new i tag role are n t is e k d h =
    let lt : k < length old + 1 = omega (arith, h, ap length e, longer old role) in
    ap (λ l. get_or l k d) e ∙ elim (cases_lt k (length old)) [
      | inl before ↦ old_one old role d k before ∙ are k d before
      | inr not_before ↦ let same : k ≡ length old = omega (arith, lt, not_before) in
          new_one old role d k same ∙ is ∙ ap (role_of layout) (t ∙ ap (λ m. m + 1) (sym n ∙ sym same))
    ]

-- ---- what a role says

neither : (a b : Bool) → (a || b) ≡ false → (a ≡ false) × (b ≡ false)
neither true b e = cc
neither false b e = (refl, e)

none_of : (a b : Bool) → a ≡ false → b ≡ false → (a || b) ≡ false
none_of a b p q = ap (λ x. x || b) p ∙ q

-- what isn't there is in no group
pub not_grouped : (t : ℕ) (s : Shapes) → has_tag t s ≡ false → is_grouped t s ≡ false
not_grouped t no_more e = refl
not_grouped t (plain u r more) e = not_grouped t more (neither (t == u) (has_tag t more) e).1
not_grouped t (group c r inner more) e =
    let n = neither (t == c) (has_tag t inner || has_tag t more) e in
    let m = neither (has_tag t inner) (has_tag t more) n.1 in
    none_of (t == c || has_tag t inner) (is_grouped t more) (none_of (t == c) (has_tag t inner) n.0 m.0) (not_grouped t more m.1)

known_by : (grouped known : Bool) → (known ≡ false → grouped ≡ false) → is_known (role_by grouped known) ≡ known
known_by true true h = refl
known_by true false h = absurd (apart (h refl)) where
  apart : true ≡ false → ⊥
  apart e = cc
known_by false true h = refl
known_by false false h = refl

pub known_is : (s : Shapes) (t : ℕ) → is_known (role_of s t) ≡ has_tag t s
known_is s t = known_by (is_grouped t s) (has_tag t s) (not_grouped t s)

grouped_by : (grouped known : Bool) → is_of_group (role_by grouped known) ≡ grouped
grouped_by true known = refl
grouped_by false true = refl
grouped_by false false = refl

pub grouped_is : (s : Shapes) (t : ℕ) → is_of_group (role_of s t) ≡ is_grouped t s
grouped_is s t = grouped_by (is_grouped t s) (has_tag t s)
