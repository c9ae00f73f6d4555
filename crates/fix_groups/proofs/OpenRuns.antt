-- The counts that are kept open are those whose runs go on.
use Rattle.std.proofs.Common.{◌≡◌, ℕ, ◌+◌, ◌<◌, length, take, drop, get_or, Bool, true, false, ◌||◌, ◌&&◌, ◌==◌, if◌then◌else◌, List, [], ◌∷◌, ◌++◌, Option, Some, None, refl, sym, ap, subst, ◌∙◌, rules}
use Rattle.fix_fields.specs.Shapes.{Shapes, no_more, plain, group}
use Rattle.fix_base.specs.Fields.{Field}
use Rattle.fix_groups.specs.Tagged.{Tagged, tagged, all_tagged}
use Rattle.fix_groups.proofs.Slices.{tagged_taken, tagged_dropped}
use Rattle.fix_groups.specs.Looked.{or_else, group_at, at_level, owner, is_in}
use Rattle.fix_groups.specs.Misfits.{is_within, stray_at, outside_group}
use Rattle.fix_groups.specs.Open.{contains, kept, passed, passed_at, left_out}
use Rattle.fix_groups.specs.declared.misfit.Misfit.{Misfit}
use Rattle.fix_groups.specs.declared.misfit.Misfit.TheVariants.{Order}

pub record Opened (root : Shapes) (before : List Tagged) (open_ : List ℕ) : Type 0 where
  pub flags : (c : ℕ) (g : Shapes) → group_at c root ≡ Some g → is_within root c false before ≡ contains c open_

pub none_some : {A : Type 0} {x : A} → Some x ≡ None → ⊥
none_some h = search rules

pub same_tag : (t u : ℕ) → (t == u) ≡ true → t ≡ u
same_tag t u h = search (rules, h)

pub true_false : true ≡ false → ⊥
true_false h = search (rules, h)

-- a tag that is a member of a group has a group that its owner counts
some_else : {A : Type 0} (x : Option A) (y : A) → (z : A) × (or_else x (Some y) ≡ Some z)
some_else (Some x) y = (x, refl)
some_else None y = (y, refl)

abbrev HasGroupAt : ℕ → Shapes → Type 0
HasGroupAt c g = (h : Shapes) × (group_at c g ≡ Some h)

found_with : (c d : ℕ) (inner ms : Shapes) (b : Bool) → HasGroupAt c inner → (h : Shapes) × ((if b then Some inner else or_else (group_at c inner) (group_at c ms)) ≡ Some h)
found_with c d inner ms true h = (inner, refl)
found_with c d inner ms false h = (h.0, rw h.1 refl)

later_with : (c d : ℕ) (inner ms : Shapes) (b : Bool) → HasGroupAt c ms → (h : Shapes) × ((if b then Some inner else or_else (group_at c inner) (group_at c ms)) ≡ Some h)
later_with c d inner ms true h = (inner, refl)
later_with c d inner ms false h = let s = some_else (group_at c inner) h.0 in (s.0, ap (or_else (group_at c inner)) h.1 ∙ s.1)

here_with : (c d : ℕ) (inner ms : Shapes) → d ≡ c → (h : Shapes) × ((if c == d then Some inner else or_else (group_at c inner) (group_at c ms)) ≡ Some h)
here_with c d inner ms e = (inner, let q : (c == d) ≡ true = search (rules, e) in rw q refl)

owner_with : (t c d : ℕ) (inner ms : Shapes) (b : Bool) (o : Option ℕ) → owner t inner ≡ o → (owner t inner ≡ Some c → HasGroupAt c inner) → (owner t ms ≡ Some c → HasGroupAt c ms)
    → (if b then Some d else or_else o (owner t ms)) ≡ Some c → (h : Shapes) × ((if c == d then Some inner else or_else (group_at c inner) (group_at c ms)) ≡ Some h)
owner_with t c d inner ms true o is own later h = here_with c d inner ms (search (rules, h))
owner_with t c d inner ms false (Some e) is own later h = found_with c d inner ms (c == d) (own (is ∙ h))
owner_with t c d inner ms false None is own later h = later_with c d inner ms (c == d) (later h)

pub owner_group : (t c : ℕ) (root : Shapes) → owner t root ≡ Some c → HasGroupAt c root
owner_group t c no_more h = absurd (none_some (sym h))
owner_group t c (plain u r ms) h = owner_group t c ms h
owner_group t c (group d r inner ms) h = owner_with t c d inner ms (at_level t inner) (owner t inner) refl (owner_group t c inner) (owner_group t c ms) h

-- ---- one field more

pub within-more : (root : Shapes) (c : ℕ) (inside : Bool) (a : List Tagged) (f : Tagged) → is_within root c inside (a ++ f ∷ []) ≡ (f.tag == c || (is_within root c inside a && is_in root c f.tag))
within-more root c inside [] f = refl
within-more root c inside (g ∷ a) f = within-more root c (g.tag == c || (inside && is_in root c g.tag)) a f

eq_with : (b i j m x : Bool) → (b ≡ true → i ≡ j) → x ≡ (m && j) → (if i then b || x else x) ≡ ((b || m) && j)
eq_with true true j m x same h = same refl
eq_with true false true m x same h = absurd (true_false (sym (same refl)))
eq_with true false false true x same h = h
eq_with true false false false x same h = h
eq_with false true j m x same h = h
eq_with false false j m x same h = h

if_contains : (c d : ℕ) (i : Bool) (rest : List ℕ) → contains c (if i then d ∷ rest else rest) ≡ (if i then (c == d) || contains c rest else contains c rest)
if_contains c d true rest = refl
if_contains c d false rest = refl

pub contains-kept : (root : Shapes) (t c : ℕ) (ds : List ℕ) → contains c (kept root t ds) ≡ (contains c ds && is_in root c t)
contains-kept root t c [] = refl
contains-kept root t c (d ∷ ds) =
    if_contains c d (is_in root d t) (kept root t ds) ∙ eq_with (c == d) (is_in root d t) (is_in root c t) (contains c ds) (contains c (kept root t ds)) (λ e. ap (λ x. is_in root x t) (sym (same_tag c d e))) (contains-kept root t c ds)

or_or : (a b c : Bool) → (a || (b || c)) ≡ ((a || b) || c)
or_or true b c = refl
or_or false b c = refl

contains-more : (c t : ℕ) (ds : List ℕ) → contains c (ds ++ t ∷ []) ≡ (contains c ds || (c == t))
contains-more c t [] = last (c == t) where
  last : (b : Bool) → (b || false) ≡ b
  last true = refl
  last false = refl
contains-more c t (d ∷ ds) = ap (λ x. (c == d) || x) (contains-more c t ds) ∙ or_or (c == d) (contains c ds) (c == t)

swapped : (t c : ℕ) → (t == c) ≡ (c == t)
swapped t c = search rules

or_swap : (a b : Bool) → (a || b) ≡ (b || a)
or_swap true true = refl
or_swap true false = refl
or_swap false true = refl
or_swap false false = refl

pub opens : (root : Shapes) (before : List Tagged) (f : Tagged) (ds : List ℕ) → Opened root before ds → Opened root (before ++ f ∷ []) (kept root f.tag ds ++ f.tag ∷ [])
opens root before f ds h = record {
  flags = λ c g at.
      within-more root c false before f
      ∙ ap (λ x. f.tag == c || (x && is_in root c f.tag)) (h.flags c g at)
      ∙ ap (λ x. x || (contains c ds && is_in root c f.tag)) (swapped f.tag c)
      ∙ or_swap (c == f.tag) (contains c ds && is_in root c f.tag)
      ∙ sym (contains-more c f.tag (kept root f.tag ds) ∙ ap (λ x. x || (c == f.tag)) (contains-kept root f.tag c ds));
}

off_with : (root g : Shapes) (t c : ℕ) (b : Bool) → (t == c) ≡ b → group_at t root ≡ None → group_at c root ≡ Some g → b ≡ false
off_with root g t c true is none at = absurd (none_some (sym at ∙ subst (λ x. group_at x root ≡ None) (same_tag t c is) none))
off_with root g t c false is none at = refl

pub goes_on : (root : Shapes) (before : List Tagged) (f : Tagged) (ds : List ℕ) → group_at f.tag root ≡ None → Opened root before ds → Opened root (before ++ f ∷ []) (kept root f.tag ds)
goes_on root before f ds none h = record {
  flags = λ c g at.
      within-more root c false before f
      ∙ ap (λ x. x || (is_within root c false before && is_in root c f.tag)) (off_with root g f.tag c (f.tag == c) refl none at)
      ∙ ap (λ x. x && is_in root c f.tag) (h.flags c g at)
      ∙ sym (contains-kept root f.tag c ds);
}

pub opened_none : (root : Shapes) → Opened root [] []
opened_none root = record { flags = λ c g at. refl }

passes_with : (root : Shapes) (before : List Tagged) (f : Tagged) (ds : List ℕ) (o : Option Shapes) → group_at f.tag root ≡ o → Opened root before ds → Opened root (before ++ f ∷ []) (passed_at o f.tag (kept root f.tag ds))
passes_with root before f ds None is h = goes_on root before f ds is h
passes_with root before f ds (Some g) is h = opens root before f ds h

pub passes : (root : Shapes) (before : List Tagged) (f : Tagged) (ds : List ℕ) → Opened root before ds → Opened root (before ++ f ∷ []) (passed root f.tag ds)
passes root before f ds h = passes_with root before f ds (group_at f.tag root) refl h

-- ---- strays

owned_here : (root : Shapes) (before fs : List Tagged) (f : Tagged) (c : ℕ) (ds : List ℕ) (b : Bool) → Opened root before ds → owner f.tag root ≡ Some c → contains c ds ≡ b → outside_group root before (f ∷ fs) ≡ or_else (if b then None else Some (Order c)) (outside_group root (before ++ f ∷ []) fs)
owned_here root before fs f c ds b h own is =
    let g = owner_group f.tag c root own in
    ap (λ o. or_else (stray_at root before o) (outside_group root (before ++ f ∷ []) fs)) own ∙ ap (λ w. or_else (if w then None else Some (Order c)) (outside_group root (before ++ f ∷ []) fs)) (h.flags c g.0 g.1 ∙ is)

out_same : (c d : ℕ) (b : Bool) → (if b then None else Some d) ≡ Some c → (b ≡ false) × (d ≡ c)
out_same c d true h = absurd (none_some (sym h))
out_same c d false h = (refl, search (rules, h))

out_none : (d : ℕ) (b : Bool) → (if b then None else Some d) ≡ None → b ≡ true
out_none d true h = refl
out_none d false h = absurd (none_some h)

here_in : (root : Shapes) (before fs : List Tagged) (f : Tagged) (c : ℕ) (ds : List ℕ) (o : Option ℕ) → Opened root before ds → owner f.tag root ≡ o → left_out o ds ≡ Some c → outside_group root before (f ∷ fs) ≡ Some (Order c)
here_in root before fs f c ds None h own out = absurd (none_some (sym out))
here_in root before fs f c ds (Some d) h own out = let s = out_same c d (contains d ds) out in owned_here root before fs f d ds false h own s.0 ∙ ap (λ x. Some (Order x)) s.1

-- a member of a group whose run does not go on is a stray
pub stray_here : (root : Shapes) (before fs : List Tagged) (f : Tagged) (c : ℕ) (ds : List ℕ) → Opened root before ds → left_out (owner f.tag root) ds ≡ Some c → outside_group root before (f ∷ fs) ≡ Some (Order c)
stray_here root before fs f c ds h out = here_in root before fs f c ds (owner f.tag root) h refl out

past_in : (root : Shapes) (before fs : List Tagged) (f : Tagged) (ds : List ℕ) (o : Option ℕ) → Opened root before ds → owner f.tag root ≡ o → left_out o ds ≡ None → outside_group root before (f ∷ fs) ≡ outside_group root (before ++ f ∷ []) fs
past_in root before fs f ds None h own out = ap (λ x. or_else (stray_at root before x) (outside_group root (before ++ f ∷ []) fs)) own
past_in root before fs f ds (Some d) h own out = owned_here root before fs f d ds true h own (out_none d (contains d ds) out)

pub stray_past : (root : Shapes) (before fs : List Tagged) (f : Tagged) (ds : List ℕ) → Opened root before ds → left_out (owner f.tag root) ds ≡ None → outside_group root before (f ∷ fs) ≡ outside_group root (before ++ f ∷ []) fs
stray_past root before fs f ds h out = past_in root before fs f ds (owner f.tag root) h refl out

-- ---- over a slice

pub stray_stop : (root : Shapes) (fs : List Field) (i : ℕ) (f : Field) (t c : ℕ) (held open_ : List ℕ) {S : Option Misfit} → i < length fs → f ≡ get_or fs i f → t ≡ f.tag → held ≡ open_ → Opened root (all_tagged (take i fs)) open_
    → left_out (owner t root) held ≡ Some c → outside_group root (all_tagged (take i fs)) (all_tagged (drop i fs)) ≡ S → Some (Order c) ≡ S
stray_stop root fs i f t c held open_ lt here tag same h out is =
    let e : all_tagged (drop i fs) ≡ tagged f ∷ all_tagged (drop (i + 1) fs) = tagged_dropped fs i f lt ∙ ap (λ x. tagged x ∷ all_tagged (drop (i + 1) fs)) (sym here) in
    let o : left_out (owner f.tag root) open_ ≡ Some c = ap (λ x. left_out (owner x root) open_) (sym tag) ∙ ap (left_out (owner t root)) (sym same) ∙ out in
    sym (stray_here root (all_tagged (take i fs)) (all_tagged (drop (i + 1) fs)) (tagged f) c open_ h o) ∙ ap (outside_group root (all_tagged (take i fs))) (sym e) ∙ is

pub stray_step : (root : Shapes) (fs : List Field) (i : ℕ) (f : Field) (t : ℕ) (held open_ new : List ℕ) {S : Option Misfit} → i < length fs → f ≡ get_or fs i f → t ≡ f.tag → held ≡ open_ → Opened root (all_tagged (take i fs)) open_
    → left_out (owner t root) held ≡ None → new ≡ passed root t open_ → outside_group root (all_tagged (take i fs)) (all_tagged (drop i fs)) ≡ S
    → (outside_group root (all_tagged (take (i + 1) fs)) (all_tagged (drop (i + 1) fs)) ≡ S) × Opened root (all_tagged (take (i + 1) fs)) new
stray_step root fs i f t held open_ new lt here tag same h out went is =
    let e : all_tagged (drop i fs) ≡ tagged f ∷ all_tagged (drop (i + 1) fs) = tagged_dropped fs i f lt ∙ ap (λ x. tagged x ∷ all_tagged (drop (i + 1) fs)) (sym here) in
    let m : all_tagged (take (i + 1) fs) ≡ all_tagged (take i fs) ++ tagged f ∷ [] = tagged_taken fs i f lt ∙ ap (λ x. all_tagged (take i fs) ++ tagged x ∷ []) (sym here) in
    let o : left_out (owner f.tag root) open_ ≡ None = ap (λ x. left_out (owner x root) open_) (sym tag) ∙ ap (left_out (owner t root)) (sym same) ∙ out in
    let n : new ≡ passed root f.tag open_ = went ∙ ap (λ x. passed root x open_) tag in (
      rw m (sym (stray_past root (all_tagged (take i fs)) (all_tagged (drop (i + 1) fs)) (tagged f) open_ h o) ∙ ap (outside_group root (all_tagged (take i fs))) (sym e) ∙ is),
      rw (m, n) (passes root (all_tagged (take i fs)) (tagged f) open_ h),
    )
