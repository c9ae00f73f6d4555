-- Runs and what stands behind them: where a front of fields has no fault at its counts.
use Rattle.std.proofs.Common.{◌≡◌, ℕ, ◌==◌, Bool, true, false, ◌++◌, List, [], ◌∷◌, drop, rules, refl, ap, sym, subst, ◌∙◌, Option, Some, None, if◌then◌else◌, ◌&&◌}
use Rattle.fix_fields.specs.Shapes.{Shapes}
use Rattle.fix_fields.specs.NoTwice.{has_tag}
use Rattle.fix_groups.specs.Tagged.{Tagged}
use Rattle.fix_groups.specs.Looked.{group_at}
use Rattle.fix_groups.specs.Runs.{run_of, starts, begins_well, in_order, lead}
use Rattle.fix_groups.specs.Misfits.{judged, judged_at, count_misfit}
use Rattle.fix_groups.specs.Fits.{IsAllOf}
use Rattle.fix_groups.specs.declared.misfit.Misfit.TheVariants.{Count, Order}
use Rattle.fix_groups.proofs.OpenRuns.{none_some}
use Rattle.fix_groups.proofs.Apart.{IsApart, or_nones, off_by}

-- the first tag, if there is one, is not of the group
abbrev pub IsOut : Shapes → List Tagged → Type 0
IsOut g [] = Unit {0}
IsOut g (f ∷ fs) = has_tag f.tag g ≡ false

pub record AreOut (root g : Shapes) (fs : List Tagged) : Type 0 where
  pub each : (t : ℕ) (h : Shapes) → has_tag t g ≡ true → group_at t root ≡ Some h → IsOut h fs

-- a run goes no further than its group
pub run_front : (h : Shapes) (a b : List Tagged) → IsOut h b → run_of h (a ++ b) ≡ run_of h a
run_front h [] [] out = refl
run_front h [] (f ∷ b) out = rw out refl
run_front h (f ∷ a) b out = ap (λ r. if has_tag f.tag h then f ∷ r else []) (run_front h a b out)

judged_front : (root g : Shapes) (f : Tagged) (a b : List Tagged) (found : Option Shapes) → group_at f.tag root ≡ found → has_tag f.tag g ≡ true → AreOut root g b
    → judged_at f (a ++ b) found ≡ judged_at f a found
judged_front root g f a b None is has out = refl
judged_front root g f a b (Some h) is has out = ap (judged f.tag f.count h) (run_front h a b (out.each f.tag h has is))

pub fault_front : (root g : Shapes) (a b : List Tagged) → IsAllOf g a → AreOut root g b → count_misfit root (a ++ b) ≡ None → count_misfit root a ≡ None
fault_front root g [] b all out h = refl
fault_front root g (f ∷ a) b all out h =
    let p = or_nones _ _ h in
    let q : judged_at f a (group_at f.tag root) ≡ None = sym (judged_front root g f a b (group_at f.tag root) refl all.0 out) ∙ p.0 in
    rw q (fault_front root g a b all.1 out p.1)

pub fault_back : (root : Shapes) (a b : List Tagged) → count_misfit root (a ++ b) ≡ None → count_misfit root b ≡ None
fault_back root [] b h = h
fault_back root (f ∷ a) b h = fault_back root a b (or_nones _ _ h).1

pub all_front : (g : Shapes) (a b : List Tagged) → IsAllOf g (a ++ b) → IsAllOf g a
all_front g [] b h = tt
all_front g (f ∷ a) b h = (h.0, all_front g a b h.1)

pub all_back : (g : Shapes) (a b : List Tagged) → IsAllOf g (a ++ b) → IsAllOf g b
all_back g [] b h = h
all_back g (f ∷ a) b h = all_back g a b h.1

if_all : (g : Shapes) (f : Tagged) (r : List Tagged) (t : Bool) → has_tag f.tag g ≡ t → IsAllOf g r → IsAllOf g (if t then f ∷ r else [])
if_all g f r true is h = (is, h)
if_all g f r false is h = tt

pub run_all : (g : Shapes) (fs : List Tagged) → IsAllOf g (run_of g fs)
run_all g [] = tt
run_all g (f ∷ fs) = if_all g f (run_of g fs) (has_tag f.tag g) refl (run_all g fs)

cons_same : {A : Type 0} {x y : A} {xs ys : List A} → x ∷ xs ≡ y ∷ ys → xs ≡ ys
cons_same h = ap (drop 1) h

nil_cons : {A : Type 0} {x : A} {xs : List A} → x ∷ xs ≡ [] → ⊥
nil_cons h = search (rules, h)

empty_with : (f : Tagged) (r : List Tagged) (t : Bool) → (if t then f ∷ r else []) ≡ [] → t ≡ false
empty_with f r true h = absurd (nil_cons h)
empty_with f r false h = refl

more_with : (f : Tagged) (r a : List Tagged) (t : Bool) → (if t then f ∷ r else []) ≡ f ∷ a → r ≡ a
more_with f r a true h = cons_same h
more_with f r a false h = absurd (nil_cons (sym h))

-- what stands behind a run is not of its group
pub run_ends : (g : Shapes) (a b : List Tagged) → run_of g (a ++ b) ≡ a → IsOut g b
run_ends g [] [] h = tt
run_ends g [] (f ∷ b) h = empty_with f (run_of g b) (has_tag f.tag g) h
run_ends g (f ∷ a) b h = run_ends g a b (more_with f (run_of g (a ++ b)) a (has_tag f.tag g) h)

pub out_within : (g h : Shapes) (fs : List Tagged) → ((u : ℕ) → has_tag u h ≡ true → has_tag u g ≡ true) → IsOut g fs → IsOut h fs
out_within g h [] w out = tt
out_within g h (f ∷ fs) w out = off_by (has_tag f.tag h) (has_tag f.tag g) (w f.tag) out

-- behind the run of a group no group inside it goes on
pub out_behind : (root g : Shapes) (c : ℕ) (fs : List Tagged) → IsApart root → group_at c root ≡ Some g → IsOut g fs → AreOut root g fs
out_behind root g c fs apart at out = record { each = λ t h has is. out_within g h fs (λ u. apart.within c t u g h at has is) out }

out_at_lead : (root g h : Shapes) (c t : ℕ) (fs : List Tagged) → IsApart root → group_at c root ≡ Some g → has_tag t g ≡ true → group_at t root ≡ Some h → begins_well g fs ≡ true → IsOut h fs
out_at_lead root g h c t [] apart at has is well = tt
out_at_lead root g h c t (f ∷ fs) apart at has is well =
    let e : f.tag ≡ lead g = search (rules, well) in
    subst (λ u. has_tag u h ≡ false) (sym e) (apart.lead_apart c t g h at has is)

-- nor where the next instance begins
pub out_next : (root g : Shapes) (c : ℕ) (fs : List Tagged) → IsApart root → group_at c root ≡ Some g → begins_well g fs ≡ true → AreOut root g fs
out_next root g c fs apart at well = record { each = λ t h has is. out_at_lead root g h c t fs apart at has is well }

two_ifs : {A : Type 0} (x y : A) (p q : Bool) → (if p then (if q then None else Some x) else Some y) ≡ None → (p ≡ true) × (q ≡ true)
two_ifs x y true true h = (refl, refl)
two_ifs x y true false h = absurd (none_some h)
two_ifs x y false q h = absurd (none_some h)

pub both_true : (p q : Bool) → (p && q) ≡ true → (p ≡ true) × (q ≡ true)
both_true true q h = (refl, h)
both_true false q h = absurd (search (rules, h))

-- what a count says of its run
pub record IsRight (says : Option ℕ) (g : Shapes) (run : List Tagged) : Type 0 where
  pub number : ℕ
  pub is : says ≡ Some number
  pub count : starts g run ≡ number
  pub begins : begins_well g run ≡ true
  pub ordered : in_order g g run ≡ true

pub judged_none : (c : ℕ) (says : Option ℕ) (g : Shapes) (run : List Tagged) → judged c says g run ≡ None → IsRight says g run
judged_none c None g run h = absurd (none_some h)
judged_none c (Some k) g run h =
    let p = two_ifs (Order c) (Count c) (starts g run == k) (begins_well g run && in_order g g run) h in
    let q = both_true _ _ p.1 in
    record { number = k; is = refl; count = search (rules, p.0); begins = q.0; ordered = q.1 }
