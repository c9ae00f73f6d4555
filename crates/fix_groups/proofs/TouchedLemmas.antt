-- Where no field is a count or a member of a group, nothing is wrong with the groups.
use Rattle.std.proofs.Common.{◌≡◌, ℕ, Bool, true, false, ◌||◌, ◌==◌, if◌then◌else◌, List, [], ◌∷◌, ◌++◌, Option, Some, None, refl, sym, ap, ◌∙◌}
use Rattle.std.specs.List.{list_any}
use Rattle.fix_fields.specs.Shapes.{Shapes, no_more, plain, group}
use Rattle.fix_fields.specs.NoTwice.{has_tag}
use Rattle.fix_groups.specs.Tagged.{Tagged}
use Rattle.fix_groups.specs.Joined.{joined}
use Rattle.fix_groups.specs.Looked.{or_else, group_at, at_level, owner}
use Rattle.fix_groups.specs.Misfits.{judged_at, count_misfit, stray_at, outside_group, first_misfit}
use Rattle.fix_groups.specs.Touched.{touches, touched, has_field, has_some}

neither : (a b : Bool) → (a || b) ≡ false → (a ≡ false) × (b ≡ false)
neither true b e = cc
neither false b e = (refl, e)

none_of : (a b : Bool) → a ≡ false → b ≡ false → (a || b) ≡ false
none_of a b p q = ap (λ x. x || b) p ∙ q

or_or : (a b c : Bool) → (a || (b || c)) ≡ ((a || b) || c)
or_or true b c = refl
or_or false b c = refl

-- ---- the first field, and those after it

pub record IsFree (s : Shapes) (f : Tagged) (fs : List Tagged) : Type 0 where
  pub first : touched s (f ∷ []) ≡ false
  pub others : touched s fs ≡ false

pub apart : (s : Shapes) (f : Tagged) (fs : List Tagged) → touched s (f ∷ fs) ≡ false → IsFree s f fs
apart no_more f fs e = record { first = refl; others = refl }
apart (plain t r more) f fs e = let rest = apart more f fs e in record { first = rest.first; others = rest.others }
apart (group c r inner more) f fs e =
    let p : Bool = f.tag == c || has_tag f.tag inner in
    let both = neither (touches c inner (f ∷ fs)) (touched more (f ∷ fs)) e in
    let here = neither p (touches c inner fs) both.0 in
    let rest = apart more f fs both.1 in
    record {
      first = none_of (p || false) (touched more (f ∷ [])) (none_of p false here.0 refl) rest.first;
      others = none_of (touches c inner fs) (touched more fs) here.1 rest.others;
    }

-- ---- look-ups that find nothing

unless : {A : Type 0} (b : Bool) (z : A) (x y : Option A) → b ≡ false → x ≡ None → y ≡ None → (if b then Some z else or_else x y) ≡ None
unless true z x y b p q = cc
unless false z x y b p q = ap (λ o. or_else o y) p ∙ q

not_at_level : (t : ℕ) (s : Shapes) → has_tag t s ≡ false → at_level t s ≡ false
not_at_level t no_more e = refl
not_at_level t (plain u r more) e = let n = neither (t == u) (has_tag t more) e in none_of (t == u) (at_level t more) n.0 (not_at_level t more n.1)
not_at_level t (group c r inner more) e =
    let n = neither (t == c) (has_tag t inner || has_tag t more) e in
    let m = neither (has_tag t inner) (has_tag t more) n.1 in
    none_of (t == c) (at_level t more) n.0 (not_at_level t more m.1)

no_group : (t : ℕ) (s : Shapes) → has_tag t s ≡ false → group_at t s ≡ None
no_group t no_more e = refl
no_group t (plain u r more) e = no_group t more (neither (t == u) (has_tag t more) e).1
no_group t (group c r inner more) e =
    let n = neither (t == c) (has_tag t inner || has_tag t more) e in
    let m = neither (has_tag t inner) (has_tag t more) n.1 in
    unless (t == c) inner (group_at t inner) (group_at t more) n.0 (no_group t inner m.0) (no_group t more m.1)

no_owner : (t : ℕ) (s : Shapes) → has_tag t s ≡ false → owner t s ≡ None
no_owner t no_more e = refl
no_owner t (plain u r more) e = no_owner t more (neither (t == u) (has_tag t more) e).1
no_owner t (group c r inner more) e =
    let n = neither (t == c) (has_tag t inner || has_tag t more) e in
    let m = neither (has_tag t inner) (has_tag t more) n.1 in
    unless (at_level t inner) c (owner t inner) (owner t more) (not_at_level t inner m.0) (no_owner t inner m.0) (no_owner t more m.1)

-- what is said of one field of a group that has nothing to do with it
pub record IsAside (c : ℕ) (inner more : Shapes) (f : Tagged) : Type 0 where
  pub no_count : (f.tag == c) ≡ false
  pub no_member : has_tag f.tag inner ≡ false
  pub rest : touched more (f ∷ []) ≡ false

aside : (c : ℕ) (r : Bool) (inner more : Shapes) (f : Tagged) → touched (group c r inner more) (f ∷ []) ≡ false → IsAside c inner more f
aside c r inner more f e =
    let p : Bool = f.tag == c || has_tag f.tag inner in
    let both = neither (p || false) (touched more (f ∷ [])) e in
    let here = neither (f.tag == c) (has_tag f.tag inner) (neither p false both.0).0 in
    record { no_count = here.0; no_member = here.1; rest = both.1 }

group_none : (s : Shapes) (f : Tagged) → touched s (f ∷ []) ≡ false → group_at f.tag s ≡ None
group_none no_more f e = refl
group_none (plain t r more) f e = group_none more f e
group_none (group c r inner more) f e =
    let a = aside c r inner more f e in
    unless (f.tag == c) inner (group_at f.tag inner) (group_at f.tag more) a.no_count (no_group f.tag inner a.no_member) (group_none more f a.rest)

owner_none : (s : Shapes) (f : Tagged) → touched s (f ∷ []) ≡ false → owner f.tag s ≡ None
owner_none no_more f e = refl
owner_none (plain t r more) f e = owner_none more f e
owner_none (group c r inner more) f e =
    let a = aside c r inner more f e in
    unless (at_level f.tag inner) c (owner f.tag inner) (owner f.tag more) (not_at_level f.tag inner a.no_member) (no_owner f.tag inner a.no_member) (owner_none more f a.rest)

-- ---- no fault

count_none : (s : Shapes) (fs : List Tagged) → touched s fs ≡ false → count_misfit s fs ≡ None
count_none s [] e = refl
count_none s (f ∷ fs) e =
    let a = apart s f fs e in
    ap (λ (g : Option Shapes). or_else (judged_at f fs g) (count_misfit s fs)) (group_none s f a.first) ∙ count_none s fs a.others

stray_none : (s : Shapes) (before fs : List Tagged) → touched s fs ≡ false → outside_group s before fs ≡ None
stray_none s before [] e = refl
stray_none s before (f ∷ fs) e =
    let a = apart s f fs e in
    ap (λ (o : Option ℕ). or_else (stray_at s before o) (outside_group s (before ++ f ∷ []) fs)) (owner_none s f a.first) ∙ stray_none s (before ++ f ∷ []) fs a.others

pub untouched : (s : Shapes) (fs : List Tagged) → touched s fs ≡ false → first_misfit s fs ≡ None
untouched s fs e = ap (λ o. or_else o (outside_group s [] fs)) (count_none s fs e) ∙ stray_none s [] fs e

-- ---- layouts that stand one after the other

touched-joined : (a b : Shapes) (fs : List Tagged) → touched (joined a b) fs ≡ (touched a fs || touched b fs)
touched-joined no_more b fs = refl
touched-joined (plain t r more) b fs = touched-joined more b fs
touched-joined (group c r inner more) b fs = ap (λ x. touches c inner fs || x) (touched-joined more b fs) ∙ or_or (touches c inner fs) (touched more fs) (touched b fs)

pub touched_first : (fs : List Tagged) (a b c root : Shapes) → joined a (joined b c) ≡ root → true ≡ touched a fs → true ≡ touched root fs
touched_first fs a b c root v h = ap (λ x. x || touched (joined b c) fs) h ∙ sym (touched-joined a (joined b c) fs) ∙ ap (λ s. touched s fs) v

pub touched_second : (fs : List Tagged) (a b c root : Shapes) → joined a (joined b c) ≡ root → false ≡ touched a fs → true ≡ touched b fs → true ≡ touched root fs
touched_second fs a b c root v off h =
    ap (λ x. x || touched c fs) h ∙ sym (touched-joined b c fs) ∙ ap (λ x. x || touched (joined b c) fs) off ∙ sym (touched-joined a (joined b c) fs) ∙ ap (λ s. touched s fs) v

pub touched_third : (fs : List Tagged) (a b c root : Shapes) (r : Bool) → joined a (joined b c) ≡ root → false ≡ touched a fs → false ≡ touched b fs → r ≡ touched c fs → r ≡ touched root fs
touched_third fs a b c root r v off none h =
    h ∙ ap (λ x. x || touched c fs) none ∙ sym (touched-joined b c fs) ∙ ap (λ x. x || touched (joined b c) fs) off ∙ sym (touched-joined a (joined b c) fs) ∙ ap (λ s. touched s fs) v

pub no_misfit : (b : Bool) (s : Shapes) (fs : List Tagged) → b ≡ false → b ≡ touched s fs → None ≡ first_misfit s fs
no_misfit b s fs e is = sym (untouched s fs (sym is ∙ e))

-- ---- one group, tag by tag

swapped : (a b c d : Bool) → ((a || b) || (c || d)) ≡ ((a || c) || (b || d))
swapped true b c d = refl
swapped false true true d = refl
swapped false true false d = refl
swapped false false c d = refl

any_none : (fs : List Tagged) → list_any (λ (f : Tagged). false) fs ≡ false
any_none [] = refl
any_none (f ∷ fs) = any_none fs

any_or : (p q : Tagged → Bool) (fs : List Tagged) → list_any (λ f. p f || q f) fs ≡ (list_any p fs || list_any q fs)
any_or p q [] = refl
any_or p q (f ∷ fs) = ap (λ b. (p f || q f) || b) (any_or p q fs) ∙ swapped (p f) (q f) (list_any p fs) (list_any q fs)

some_is : (s : Shapes) (fs : List Tagged) → has_some s fs ≡ list_any (λ f. has_tag f.tag s) fs
some_is no_more fs = sym (any_none fs)
some_is (plain u r ms) fs = ap (λ b. has_field u fs || b) (some_is ms fs) ∙ sym (any_or (λ f. f.tag == u) (λ f. has_tag f.tag ms) fs)
some_is (group c r inner ms) fs =
    ap (λ b. has_field c fs || (b || has_some ms fs)) (some_is inner fs) ∙ ap (λ b. has_field c fs || (list_any (λ f. has_tag f.tag inner) fs || b)) (some_is ms fs)
    ∙ ap (λ b. has_field c fs || b) (sym (any_or (λ f. has_tag f.tag inner) (λ f. has_tag f.tag ms) fs)) ∙ sym (any_or (λ f. f.tag == c) (λ f. has_tag f.tag inner || has_tag f.tag ms) fs)

touches_is : (c : ℕ) (inner : Shapes) (fs : List Tagged) → (has_field c fs || has_some inner fs) ≡ touches c inner fs
touches_is c inner fs = ap (λ b. has_field c fs || b) (some_is inner fs) ∙ sym (any_or (λ f. f.tag == c) (λ f. has_tag f.tag inner) fs)

pub touches_count : (c : ℕ) (inner : Shapes) (fs : List Tagged) → has_field c fs ≡ true → true ≡ touches c inner fs
touches_count c inner fs h = sym (ap (λ b. b || has_some inner fs) h) ∙ touches_is c inner fs

pub touches_inner : (c : ℕ) (inner : Shapes) (fs : List Tagged) (r : Bool) → has_field c fs ≡ false → r ≡ has_some inner fs → r ≡ touches c inner fs
touches_inner c inner fs r h is = is ∙ sym (ap (λ b. b || has_some inner fs) h) ∙ touches_is c inner fs
