-- Members of a group: who owns them, and how they come in order.
use Rattle.std.proofs.Common.{◌≡◌, ℕ, ◌+◌, Bool, true, false, ◌||◌, ◌==◌, if◌then◌else◌, List, [], ◌∷◌, ◌++◌, Option, Some, None, refl, sym, ap, subst, ◌∙◌, rules, arith}
use Rattle.fix_fields.specs.Shapes.{Shapes, no_more, plain, group}
use Rattle.fix_fields.specs.NoTwice.{has_tag, HasNoTwice}
use Rattle.fix_groups.specs.Tagged.{Tagged}
use Rattle.fix_groups.specs.Looked.{or_else, group_at, at_level, owner}
use Rattle.fix_groups.specs.Runs.{lead, behind_lead, starts, behind, left_after, if_some, in_order}
use Rattle.fix_groups.specs.Fits.{IsAllOf}
use Rattle.fix_groups.specs.Flat.{mark}
use Rattle.fix_groups.specs.Instances.{Instances, Stands, pass_plain, pass_group, takes_plain, takes_group, HasGroup, here, behind_plain, behind_group}
use Rattle.fix_groups.proofs.OpenRuns.{none_some, same_tag, true_false}
use Rattle.fix_groups.proofs.Apart.{on_right, on_left, both_off, off_by, not_found, some_same, level_tag, found_tag, owned_tag, in_inner, in_rest, owner_inner, owner_rest, inside}

pub false_true : false ≡ true → ⊥
false_true h = true_false (sym h)

pub same_here : (d : ℕ) → (d == d) ≡ true
same_here d = search rules

-- ---- the owner

pub record IsOwned (g : Shapes) (t : ℕ) : Type 0 where
  pub count : ℕ
  pub inner : Shapes
  pub owned : owner t g ≡ Some count
  pub at : group_at count g ≡ Some inner
  pub has : has_tag t inner ≡ true

owned_plain : (u t : ℕ) (r : Bool) (ms : Shapes) → IsOwned ms t → IsOwned (plain u r ms) t
owned_plain u t r ms o = record { count = o.count; inner = o.inner; owned = o.owned; at = o.at; has = o.has }

owned_rest : (d t : ℕ) (r : Bool) (inner ms : Shapes) → HasNoTwice (group d r inner ms) → IsOwned ms t → IsOwned (group d r inner ms) t
owned_rest d t r inner ms twice o = record {
  count = o.count;
  inner = o.inner;
  owned = owner_rest t d r inner ms twice (owned_tag t o.count ms o.owned) ∙ o.owned;
  at = in_rest o.count d r inner ms twice (found_tag o.count ms o.inner o.at) ∙ o.at;
  has = o.has;
}

owned_inner : (d t : ℕ) (r : Bool) (inner ms : Shapes) → HasNoTwice (group d r inner ms) → at_level t inner ≡ false → IsOwned inner t → IsOwned (group d r inner ms) t
owned_inner d t r inner ms twice off o = record {
  count = o.count;
  inner = o.inner;
  owned = owner_inner t d r inner ms twice (owned_tag t o.count inner o.owned) ∙ ap (λ b. if b then Some d else owner t inner) off ∙ o.owned;
  at = in_inner o.count d r inner ms twice (found_tag o.count inner o.inner o.at) ∙ o.at;
  has = o.has;
}

owned_here : (d t : ℕ) (r : Bool) (inner ms : Shapes) → HasNoTwice (group d r inner ms) → at_level t inner ≡ true → IsOwned (group d r inner ms) t
owned_here d t r inner ms twice on = record {
  count = d;
  inner = inner;
  owned = owner_inner t d r inner ms twice (level_tag t inner on) ∙ ap (λ b. if b then Some d else owner t inner) on;
  at = ap (λ b. if b then Some inner else or_else (group_at d inner) (group_at d ms)) (same_here d);
  has = level_tag t inner on;
}

deep_with : (d t : ℕ) (r : Bool) (inner ms : Shapes) (l i : Bool) → at_level t inner ≡ l → has_tag t inner ≡ i → HasNoTwice (group d r inner ms) → (at_level t inner ≡ false → has_tag t inner ≡ true → IsOwned inner t) → (has_tag t ms ≡ true → IsOwned ms t)
    → (i || has_tag t ms) ≡ true → IsOwned (group d r inner ms) t
deep_with d t r inner ms true i lv on twice own later h = owned_here d t r inner ms twice lv
deep_with d t r inner ms false true lv on twice own later h = owned_inner d t r inner ms twice lv (own lv on)
deep_with d t r inner ms false false lv on twice own later h = owned_rest d t r inner ms twice (later h)

second_on : (a b : Bool) → a ≡ false → (a || b) ≡ true → b ≡ true
second_on true b off h = absurd (true_false off)
second_on false b off h = h

-- a tag of a group that is none of its level is a member of a group inside
pub deep_owned : (t : ℕ) (g : Shapes) → HasNoTwice g → has_tag t g ≡ true → at_level t g ≡ false → IsOwned g t
deep_owned t no_more twice on off = absurd (false_true on)
deep_owned t (plain u r ms) twice on off =
    let p = both_off (t == u) (at_level t ms) off in
    owned_plain u t r ms (deep_owned t ms twice.1 (second_on (t == u) (has_tag t ms) p.0 on) p.1)
deep_owned t (group d r inner ms) twice on off =
    let p = both_off (t == d) (at_level t ms) off in
    deep_with d t r inner ms (at_level t inner) (has_tag t inner) refl refl twice (λ a b. deep_owned t inner twice.4 b a) (λ b. deep_owned t ms twice.5 b p.1) (second_on (t == d) (has_tag t inner || has_tag t ms) p.0 on)

has_with : (d t c : ℕ) (r : Bool) (inner ms : Shapes) (l : Bool) (o : Option ℕ) → at_level t inner ≡ l → owner t inner ≡ o → HasNoTwice (group d r inner ms) → ((x : ℕ) → owner t inner ≡ Some x → IsOwned inner t) → (owner t ms ≡ Some c → IsOwned ms t)
    → (if l then Some d else or_else o (owner t ms)) ≡ Some c → IsOwned (group d r inner ms) t
has_with d t c r inner ms true o lv is twice own later h = owned_here d t r inner ms twice lv
has_with d t c r inner ms false (Some x) lv is twice own later h = owned_inner d t r inner ms twice lv (own x is)
has_with d t c r inner ms false None lv is twice own later h = owned_rest d t r inner ms twice (later h)

-- an owner has its member
pub owner_has : (t c : ℕ) (g : Shapes) → HasNoTwice g → owner t g ≡ Some c → IsOwned g t
owner_has t c no_more twice h = absurd (none_some (sym h))
owner_has t c (plain u r ms) twice h = owned_plain u t r ms (owner_has t c ms twice.1 h)
owner_has t c (group d r inner ms) twice h = has_with d t c r inner ms (at_level t inner) (owner t inner) refl refl twice (λ x k. owner_has t x inner twice.4 k) (owner_has t c ms twice.5) h

-- ---- a group of the layout itself

unowned : (c : ℕ) (inner : Shapes) (l : Bool) → at_level c inner ≡ l → HasNoTwice inner → has_tag c inner ≡ true → (d : ℕ) → (if l then Some d else owner c inner) ≡ None → ⊥
unowned c inner true lv twice on d h = none_some h
unowned c inner false lv twice on d h = none_some (sym (deep_owned c inner twice on lv).owned ∙ h)

top_with : (d c : ℕ) (r : Bool) (inner ms g : Shapes) (b : Bool) (o : Option Shapes) → (c == d) ≡ b → group_at c inner ≡ o → HasNoTwice (group d r inner ms) → owner c (group d r inner ms) ≡ None → (group_at c ms ≡ Some g → owner c ms ≡ None → HasGroup c g ms)
    → (if b then Some inner else or_else o (group_at c ms)) ≡ Some g → HasGroup c g (group d r inner ms)
top_with d c r inner ms g true o same is twice none later e =
    subst (λ x. HasGroup x g (group d r inner ms)) (sym (same_tag c d same)) (subst (λ x. HasGroup d x (group d r inner ms)) (some_same e) (here r ms))
top_with d c r inner ms g false (Some x) same is twice none later e =
    let on = found_tag c inner x is in
    absurd (unowned c inner (at_level c inner) refl twice.4 on d (sym (owner_inner c d r inner ms twice on) ∙ none))
top_with d c r inner ms g false None same is twice none later e = behind_group d r inner ms (later e (sym (owner_rest c d r inner ms twice (found_tag c ms g e)) ∙ none))

pub top_group : (root : Shapes) (c : ℕ) (g : Shapes) → HasNoTwice root → group_at c root ≡ Some g → owner c root ≡ None → HasGroup c g root
top_group no_more c g twice e none = absurd (none_some (sym e))
top_group (plain u r ms) c g twice e none = behind_plain u r ms (top_group ms c g twice.1 e none)
top_group (group d r inner ms) c g twice e none = top_with d c r inner ms g (c == d) (group_at c inner) refl refl twice none (λ a b. top_group ms c g twice.5 a b) e

-- ---- what stands in a part of the layout is what its look-ups find

-- the layout or a group in it
pub record IsPart (root g : Shapes) : Type 0 where
  pub twice : HasNoTwice g
  pub found : (t : ℕ) → has_tag t g ≡ true → group_at t root ≡ group_at t g
  pub owned : (t : ℕ) → has_tag t g ≡ true → at_level t g ≡ false → owner t root ≡ owner t g

pub root_part : (root : Shapes) → HasNoTwice root → IsPart root root
root_part root twice = record { twice = twice; found = λ t on. refl; owned = λ t on off. refl }

pub group_part : (root : Shapes) (c : ℕ) (g : Shapes) → HasNoTwice root → group_at c root ≡ Some g → IsPart root g
group_part root c g twice at =
    let i = inside root c g twice at in
    record { twice = i.twice; found = i.found; owned = λ t on off. i.owned t on ∙ ap (λ b. if b then Some c else owner t g) off }

abbrev pub IsKnown : Shapes → Shapes → Type 0
IsKnown root no_more = Unit {0}
IsKnown root (plain t r ms) = (group_at t root ≡ None) × IsKnown root ms
IsKnown root (group c r inner ms) = (group_at c root ≡ Some inner) × IsKnown root ms

pub known_part : (root g : Shapes) → HasNoTwice g → ((t : ℕ) → has_tag t g ≡ true → group_at t root ≡ group_at t g) → IsKnown root g
known_part root no_more twice found = tt
known_part root (plain u r ms) twice found = (
  found u (on_left (u == u) (has_tag u ms) (same_here u)) ∙ not_found u ms twice.0,
  known_part root ms twice.1 (λ t on. found t (on_right (t == u) (has_tag t ms) on)),
)
known_part root (group d r inner ms) twice found = (
  found d (on_left (d == d) (has_tag d inner || has_tag d ms) (same_here d)) ∙ ap (λ b. if b then Some inner else or_else (group_at d inner) (group_at d ms)) (same_here d),
  known_part root ms twice.5 (λ t on. found t (on_right (t == d) (has_tag t inner || has_tag t ms) (on_right (has_tag t inner) (has_tag t ms) on)) ∙ in_rest t d r inner ms twice on),
)

-- ---- members that come next

abbrev Next : Shapes → Shapes → ℕ → List Tagged → Type 0
Next g left t fs = (ms : Shapes) × (behind t left ≡ Some ms) × (in_order g ms fs ≡ true)

next_with : (g left : Shapes) (t : ℕ) (fs : List Tagged) (b l : Bool) (o : Option Shapes) → b ≡ false → l ≡ true → behind t left ≡ o
    → if_some (if b then Some (behind_lead g) else or_else o (if l then None else Some left)) (λ more. in_order g more fs) ≡ true → Next g left t fs
next_with g left t fs true l o off on is h = absurd (true_false off)
next_with g left t fs false false o off on is h = absurd (false_true on)
next_with g left t fs false true None off on is h = absurd (false_true h)
next_with g left t fs false true (Some ms) off on is h = (ms, is, h)

pub member_next : (g left : Shapes) (f : Tagged) (fs : List Tagged) → (f.tag == lead g) ≡ false → at_level f.tag g ≡ true → in_order g left (f ∷ fs) ≡ true → Next g left f.tag fs
member_next g left f fs off on h = next_with g left f.tag fs (f.tag == lead g) (at_level f.tag g) (behind f.tag left) off on refl h

known_with : (root more ms : Shapes) (t : ℕ) (b : Bool) → IsKnown root more → (IsKnown root more → behind t more ≡ Some ms → IsKnown root ms) → (if b then Some more else behind t more) ≡ Some ms → IsKnown root ms
known_with root more ms t true k ih h = subst (IsKnown root) (some_same h) k
known_with root more ms t false k ih h = ih k h

pub known_next : (root left ms : Shapes) (t : ℕ) → IsKnown root left → behind t left ≡ Some ms → IsKnown root ms
known_next root no_more ms t k h = absurd (none_some (sym h))
known_next root (plain u r more) ms t k h = known_with root more ms t (t == u) k.1 (λ a b. known_next root more ms t a b) h
known_next root (group c r inner more) ms t k h = known_with root more ms t (t == c) k.1 (λ a b. known_next root more ms t a b) h

level_with : (more ms : Shapes) (t u : ℕ) (a b : Bool) → (behind t more ≡ Some ms → at_level u ms ≡ true → at_level u more ≡ true) → (if b then Some more else behind t more) ≡ Some ms → at_level u ms ≡ true → (a || at_level u more) ≡ true
level_with more ms t u a true ih h on = on_right a (at_level u more) (subst (λ m. at_level u m ≡ true) (sym (some_same h)) on)
level_with more ms t u a false ih h on = on_right a (at_level u more) (ih h on)

pub level_next : (left ms : Shapes) (t u : ℕ) → behind t left ≡ Some ms → at_level u ms ≡ true → at_level u left ≡ true
level_next no_more ms t u h on = absurd (none_some (sym h))
level_next (plain w r more) ms t u h on = level_with more ms t u (u == w) (t == w) (level_next more ms t u) h on
level_next (group c r inner more) ms t u h on = level_with more ms t u (u == c) (t == c) (level_next more ms t u) h on

-- a plain member that comes next
plain_with : (more ms : Shapes) (t u : ℕ) (v : Option ℕ) (r : Bool) (fs : List Tagged) (b : Bool) → (t == u) ≡ b → (behind t more ≡ Some ms → Stands more (mark t v ∷ fs)) → (if b then Some more else behind t more) ≡ Some ms → Stands ms fs → Stands (plain u r more) (mark t v ∷ fs)
plain_with more ms t u v r fs true is ih h s = subst (λ x. Stands (plain u r more) (mark x v ∷ fs)) (sym (same_tag t u is)) (takes_plain u v r more fs (subst (λ m. Stands m fs) (sym (some_same h)) s))
plain_with more ms t u v r fs false is ih h s = pass_plain u r more _ (ih h)

plain_past : (root inner more ms : Shapes) (t c : ℕ) (v : Option ℕ) (r : Bool) (fs : List Tagged) (b : Bool) → (t == c) ≡ b → group_at t root ≡ None → group_at c root ≡ Some inner → (behind t more ≡ Some ms → Stands more (mark t v ∷ fs)) → (if b then Some more else behind t more) ≡ Some ms → Stands (group c r inner more) (mark t v ∷ fs)
plain_past root inner more ms t c v r fs true is miss hit ih h = absurd (none_some (sym hit ∙ subst (λ x. group_at x root ≡ None) (same_tag t c is) miss))
plain_past root inner more ms t c v r fs false is miss hit ih h = pass_group c r inner more _ (ih h)

pub stands_plain : (root left ms : Shapes) (t : ℕ) (v : Option ℕ) (fs : List Tagged) → group_at t root ≡ None → IsKnown root left → behind t left ≡ Some ms → Stands ms fs → Stands left (mark t v ∷ fs)
stands_plain root no_more ms t v fs miss k h s = absurd (none_some (sym h))
stands_plain root (plain u r more) ms t v fs miss k h s = plain_with more ms t u v r fs (t == u) refl (λ b. stands_plain root more ms t v fs miss k.1 b s) h s
stands_plain root (group c r inner more) ms t v fs miss k h s = plain_past root inner more ms t c v r fs (t == c) refl miss k.0 (λ b. stands_plain root more ms t v fs miss k.1 b s) h

-- a group that comes next
group_past : (root g more ms : Shapes) (t k u : ℕ) (r : Bool) (run fs : List Tagged) (b : Bool) → (t == u) ≡ b → group_at t root ≡ Some g → group_at u root ≡ None → (behind t more ≡ Some ms → Stands more (mark t (Some k) ∷ run ++ fs)) → (if b then Some more else behind t more) ≡ Some ms → Stands (plain u r more) (mark t (Some k) ∷ run ++ fs)
group_past root g more ms t k u r run fs true is hit miss ih h = absurd (none_some (sym hit ∙ subst (λ x. group_at x root ≡ None) (sym (same_tag t u is)) miss))
group_past root g more ms t k u r run fs false is hit miss ih h = pass_plain u r more _ (ih h)

group_with : (root g inner more ms : Shapes) (t k c : ℕ) (r : Bool) (run fs : List Tagged) (b : Bool) → (t == c) ≡ b → group_at t root ≡ Some g → group_at c root ≡ Some inner → Instances g run k → (behind t more ≡ Some ms → Stands more (mark t (Some k) ∷ run ++ fs)) → (if b then Some more else behind t more) ≡ Some ms → Stands ms fs → Stands (group c r inner more) (mark t (Some k) ∷ run ++ fs)
group_with root g inner more ms t k c r run fs true is at own i ih h s =
    let e : g ≡ inner = some_same (sym at ∙ subst (λ x. group_at x root ≡ Some inner) (sym (same_tag t c is)) own) in
    subst (λ x. Stands (group c r inner more) (mark x (Some k) ∷ run ++ fs)) (sym (same_tag t c is)) (takes_group c k r inner more run fs (subst (λ m. Instances m run k) e i) (subst (λ m. Stands m fs) (sym (some_same h)) s))
group_with root g inner more ms t k c r run fs false is at own i ih h s = pass_group c r inner more _ (ih h)

pub stands_group : (root g left ms : Shapes) (t k : ℕ) (run fs : List Tagged) → group_at t root ≡ Some g → IsKnown root left → Instances g run k → behind t left ≡ Some ms → Stands ms fs → Stands left (mark t (Some k) ∷ run ++ fs)
stands_group root g no_more ms t k run fs at n i h s = absurd (none_some (sym h))
stands_group root g (plain u r more) ms t k run fs at n i h s = group_past root g more ms t k u r run fs (t == u) refl at n.0 (λ b. stands_group root g more ms t k run fs at n.1 i b s) h
stands_group root g (group c r inner more) ms t k run fs at n i h s = group_with root g inner more ms t k c r run fs (t == c) refl at n.0 i (λ b. stands_group root g more ms t k run fs at n.1 i b s) h s

-- ---- tags of a group inside change nothing

pub behind_none : (left : Shapes) (t : ℕ) → at_level t left ≡ false → behind t left ≡ None
behind_none no_more t h = refl
behind_none (plain u r more) t h = let p = both_off (t == u) (at_level t more) h in rw p.0 (behind_none more t p.1)
behind_none (group c r inner more) t h = let p = both_off (t == c) (at_level t more) h in rw p.0 (behind_none more t p.1)

pub not_lead : (g : Shapes) (t : ℕ) → at_level (lead g) g ≡ true → at_level t g ≡ false → (t == lead g) ≡ false
not_lead g t on off = off_by (t == lead g) (at_level t g) (λ e. subst (λ x. at_level x g ≡ true) (sym (same_tag t (lead g) e)) on) off

pub order_skip : (g h ms : Shapes) (a b : List Tagged) → at_level (lead g) g ≡ true → ((u : ℕ) → has_tag u h ≡ true → at_level u g ≡ false) → ((u : ℕ) → at_level u ms ≡ true → at_level u g ≡ true) → IsAllOf h a → in_order g ms (a ++ b) ≡ in_order g ms b
order_skip g h ms [] b on apart sub all = refl
order_skip g h ms (f ∷ a) b on apart sub all =
    let off : at_level f.tag g ≡ false = apart f.tag all.0 in
    rw (not_lead g f.tag on off, behind_none ms f.tag (off_by (at_level f.tag ms) (at_level f.tag g) (sub f.tag) off), off) (order_skip g h ms a b on apart sub all.1)

-- ---- fields in order are so in front and behind

front_with : (g : Shapes) (a b : List Tagged) (o : Option Shapes) → ((left : Shapes) → in_order g left (a ++ b) ≡ true → in_order g left a ≡ true) → if_some o (λ m. in_order g m (a ++ b)) ≡ true → if_some o (λ m. in_order g m a) ≡ true
front_with g a b None ih h = h
front_with g a b (Some m) ih h = ih m h

pub order_front : (g left : Shapes) (a b : List Tagged) → in_order g left (a ++ b) ≡ true → in_order g left a ≡ true
order_front g left [] b h = refl
order_front g left (f ∷ a) b h = front_with g a b (left_after g left f.tag) (λ m k. order_front g m a b k) h

abbrev pub SomeLeft : Shapes → List Tagged → Type 0
SomeLeft g b = (left : Shapes) × (in_order g left b ≡ true)

back_with : (g : Shapes) (a b : List Tagged) (o : Option Shapes) → ((left : Shapes) → in_order g left (a ++ b) ≡ true → SomeLeft g b) → if_some o (λ m. in_order g m (a ++ b)) ≡ true → SomeLeft g b
back_with g a b None ih h = absurd (false_true h)
back_with g a b (Some m) ih h = ih m h

pub order_back : (g left : Shapes) (a b : List Tagged) → in_order g left (a ++ b) ≡ true → SomeLeft g b
order_back g left [] b h = (left, h)
order_back g left (f ∷ a) b h = back_with g a b (left_after g left f.tag) (λ m k. order_back g m a b k) h

zero_with : (b : Bool) (n : ℕ) → (if b then n + 1 else n) ≡ 0 → (b ≡ false) × (n ≡ 0)
zero_with true n h = absurd (omega (arith, h))
zero_with false n h = (refl, h)

pub starts_none : (g : Shapes) (f : Tagged) (fs : List Tagged) → starts g (f ∷ fs) ≡ 0 → ((f.tag == lead g) ≡ false) × (starts g fs ≡ 0)
starts_none g f fs h = zero_with (f.tag == lead g) (starts g fs) h

pub starts_back : (g : Shapes) (a b : List Tagged) → starts g (a ++ b) ≡ 0 → starts g b ≡ 0
starts_back g [] b h = h
starts_back g (f ∷ a) b h = starts_back g a b (starts_none g f (a ++ b) h).1
