-- What follows from no tag standing twice in a layout.
use Rattle.std.proofs.Common.{◌≡◌, ℕ, Bool, true, false, ◌||◌, ◌==◌, if◌then◌else◌, Option, Some, None, refl, sym, ap, subst, ◌∙◌, rules}
use Rattle.fix_fields.specs.Shapes.{Shapes, no_more, plain, group}
use Rattle.fix_fields.specs.NoTwice.{has_tag, IsLed, HasNoTwice}
use Rattle.fix_groups.specs.Looked.{or_else, group_at, at_level, owner}
use Rattle.fix_groups.specs.Runs.{lead}
use Rattle.fix_groups.proofs.OpenRuns.{none_some, same_tag, true_false}

-- ---- truth values

pub on_right : (a b : Bool) → b ≡ true → (a || b) ≡ true
on_right true b h = refl
on_right false b h = h

pub on_left : (a b : Bool) → a ≡ true → (a || b) ≡ true
on_left true b h = refl
on_left false b h = absurd (true_false (sym h))

pub both_off : (a b : Bool) → (a || b) ≡ false → (a ≡ false) × (b ≡ false)
both_off true b h = absurd (true_false h)
both_off false b h = (refl, h)

pub off_by : (a b : Bool) → (a ≡ true → b ≡ true) → b ≡ false → a ≡ false
off_by true b h off = absurd (true_false (sym (h refl) ∙ off))
off_by false b h off = refl

pub off_if : (a : Bool) → (a ≡ true → ⊥) → a ≡ false
off_if true h = absurd (h refl)
off_if false h = refl

pub some_same : {A : Type 0} {x y : A} → Some x ≡ Some y → x ≡ y
some_same h = search (rules, h)

or_none_right : {A : Type 0} (x y : Option A) → y ≡ None → or_else x y ≡ x
or_none_right None y h = h
or_none_right (Some a) y h = refl

or_none_left : {A : Type 0} (x y : Option A) → x ≡ None → or_else x y ≡ y
or_none_left x y h = ap (λ o. or_else o y) h

pub or_nones : {A : Type 0} (a b : Option A) → or_else a b ≡ None → (a ≡ None) × (b ≡ None)
or_nones None b h = (refl, h)
or_nones (Some x) b h = absurd (none_some h)

-- ---- tags

differ_with : (t d : ℕ) (g : Shapes) (b : Bool) → (t == d) ≡ b → has_tag t g ≡ true → has_tag d g ≡ false → b ≡ false
differ_with t d g true is on off = absurd (true_false (sym on ∙ ap (λ x. has_tag x g) (same_tag t d is) ∙ off))
differ_with t d g false is on off = refl

-- a tag of the layout is not one that it lacks
pub differ : (t d : ℕ) (g : Shapes) → has_tag t g ≡ true → has_tag d g ≡ false → (t == d) ≡ false
differ t d g on off = differ_with t d g (t == d) refl on off

pub level_tag : (t : ℕ) (g : Shapes) → at_level t g ≡ true → has_tag t g ≡ true
level_tag t no_more h = h
level_tag t (plain u r ms) h = level_or (t == u) (at_level t ms) (has_tag t ms) h (level_tag t ms) where
  level_or : (a b c : Bool) → (a || b) ≡ true → (b ≡ true → c ≡ true) → (a || c) ≡ true
  level_or true b c h k = refl
  level_or false b c h k = k h
level_tag t (group d r inner ms) h = level_or (t == d) (at_level t ms) (has_tag t inner) (has_tag t ms) h (level_tag t ms) where
  level_or : (a b i c : Bool) → (a || b) ≡ true → (b ≡ true → c ≡ true) → (a || (i || c)) ≡ true
  level_or true b i c h k = refl
  level_or false b i c h k = on_right i c (k h)

pub level_off : (t : ℕ) (g : Shapes) → has_tag t g ≡ false → at_level t g ≡ false
level_off t g off = off_by (at_level t g) (has_tag t g) (level_tag t g) off

-- ---- the group of a count

found_case : (t : ℕ) (inner ms h : Shapes) (b : Bool) (o : Option Shapes) → group_at t inner ≡ o → ((x : Shapes) → group_at t inner ≡ Some x → has_tag t inner ≡ true) → (group_at t ms ≡ Some h → has_tag t ms ≡ true)
    → (if b then Some inner else or_else o (group_at t ms)) ≡ Some h → (b || (has_tag t inner || has_tag t ms)) ≡ true
found_case t inner ms h true o is own later e = refl
found_case t inner ms h false (Some x) is own later e = on_left (has_tag t inner) (has_tag t ms) (own x is)
found_case t inner ms h false None is own later e = on_right (has_tag t inner) (has_tag t ms) (later e)

pub found_tag : (t : ℕ) (g h : Shapes) → group_at t g ≡ Some h → has_tag t g ≡ true
found_tag t no_more h e = absurd (none_some (sym e))
found_tag t (plain u r ms) h e = on_right (t == u) (has_tag t ms) (found_tag t ms h e)
found_tag t (group c r inner ms) h e = found_case t inner ms h (t == c) (group_at t inner) refl (λ x k. found_tag t inner x k) (found_tag t ms h) e

none_with : (t : ℕ) (g : Shapes) (o : Option Shapes) → group_at t g ≡ o → has_tag t g ≡ false → o ≡ None
none_with t g None is off = refl
none_with t g (Some h) is off = absurd (true_false (sym (found_tag t g h is) ∙ off))

pub not_found : (t : ℕ) (g : Shapes) → has_tag t g ≡ false → group_at t g ≡ None
not_found t g off = none_with t g (group_at t g) refl off

-- ---- the owner of a member

owned_case : (t c d : ℕ) (inner ms : Shapes) (b l : Bool) (o : Option ℕ) → at_level t inner ≡ l → owner t inner ≡ o → ((x : ℕ) → owner t inner ≡ Some x → has_tag t inner ≡ true) → (owner t ms ≡ Some c → has_tag t ms ≡ true)
    → (if l then Some d else or_else o (owner t ms)) ≡ Some c → (b || (has_tag t inner || has_tag t ms)) ≡ true
owned_case t c d inner ms b true o on is own later e = on_right b (has_tag t inner || has_tag t ms) (on_left (has_tag t inner) (has_tag t ms) (level_tag t inner on))
owned_case t c d inner ms b false (Some x) on is own later e = on_right b (has_tag t inner || has_tag t ms) (on_left (has_tag t inner) (has_tag t ms) (own x is))
owned_case t c d inner ms b false None on is own later e = on_right b (has_tag t inner || has_tag t ms) (on_right (has_tag t inner) (has_tag t ms) (later e))

pub owned_tag : (t c : ℕ) (g : Shapes) → owner t g ≡ Some c → has_tag t g ≡ true
owned_tag t c no_more e = absurd (none_some (sym e))
owned_tag t c (plain u r ms) e = on_right (t == u) (has_tag t ms) (owned_tag t c ms e)
owned_tag t c (group d r inner ms) e = owned_case t c d inner ms (t == d) (at_level t inner) (owner t inner) refl refl (λ x k. owned_tag t x inner k) (owned_tag t c ms) e

unowned_with : (t : ℕ) (g : Shapes) (o : Option ℕ) → owner t g ≡ o → has_tag t g ≡ false → o ≡ None
unowned_with t g None is off = refl
unowned_with t g (Some c) is off = absurd (true_false (sym (owned_tag t c g is) ∙ off))

pub not_owned : (t : ℕ) (g : Shapes) → has_tag t g ≡ false → owner t g ≡ None
not_owned t g off = unowned_with t g (owner t g) refl off

-- ---- a group's part of the layout, and what stands behind it

pub off_inside : (t : ℕ) (inner ms : Shapes) → ((u : ℕ) → has_tag u inner ≡ true → has_tag u ms ≡ false) → has_tag t ms ≡ true → has_tag t inner ≡ false
off_inside t inner ms apart on = off_if (has_tag t inner) (λ e. true_false (sym on ∙ apart t e))

pub in_inner : (t d : ℕ) (r : Bool) (inner ms : Shapes) → HasNoTwice (group d r inner ms) → has_tag t inner ≡ true → group_at t (group d r inner ms) ≡ group_at t inner
in_inner t d r inner ms twice on =
    ap (λ b. if b then Some inner else or_else (group_at t inner) (group_at t ms)) (differ t d inner on twice.0) ∙ or_none_right (group_at t inner) (group_at t ms) (not_found t ms (twice.2 t on))

pub in_rest : (t d : ℕ) (r : Bool) (inner ms : Shapes) → HasNoTwice (group d r inner ms) → has_tag t ms ≡ true → group_at t (group d r inner ms) ≡ group_at t ms
in_rest t d r inner ms twice on =
    ap (λ b. if b then Some inner else or_else (group_at t inner) (group_at t ms)) (differ t d ms on twice.1) ∙ or_none_left (group_at t inner) (group_at t ms) (not_found t inner (off_inside t inner ms twice.2 on))

pub owner_inner : (t d : ℕ) (r : Bool) (inner ms : Shapes) → HasNoTwice (group d r inner ms) → has_tag t inner ≡ true → owner t (group d r inner ms) ≡ (if at_level t inner then Some d else owner t inner)
owner_inner t d r inner ms twice on = ap (λ o. if at_level t inner then Some d else o) (or_none_right (owner t inner) (owner t ms) (not_owned t ms (twice.2 t on)))

pub owner_rest : (t d : ℕ) (r : Bool) (inner ms : Shapes) → HasNoTwice (group d r inner ms) → has_tag t ms ≡ true → owner t (group d r inner ms) ≡ owner t ms
owner_rest t d r inner ms twice on =
    let off = off_inside t inner ms twice.2 on in
    ap (λ b. if b then Some d else or_else (owner t inner) (owner t ms)) (level_off t inner off) ∙ or_none_left (owner t inner) (owner t ms) (not_owned t inner off)

-- ---- a group inside, its tags and its look-ups

-- what holds of the group that a count finds, by where it stands
pub record IsInside (root : Shapes) (c : ℕ) (g : Shapes) : Type 0 where
  pub twice : HasNoTwice g
  pub led : IsLed g
  pub own : has_tag c g ≡ false
  pub tags : (u : ℕ) → has_tag u g ≡ true → has_tag u root ≡ true
  pub off_level : (u : ℕ) → has_tag u g ≡ true → at_level u root ≡ false
  pub found : (t : ℕ) → has_tag t g ≡ true → group_at t root ≡ group_at t g
  pub owned : (t : ℕ) → has_tag t g ≡ true → owner t root ≡ (if at_level t g then Some c else owner t g)

inside_plain : (u c : ℕ) (r : Bool) (ms g : Shapes) → HasNoTwice (plain u r ms) → IsInside ms c g → IsInside (plain u r ms) c g
inside_plain u c r ms g twice i = record {
  twice = i.twice;
  led = i.led;
  own = i.own;
  tags = λ t on. on_right (t == u) (has_tag t ms) (i.tags t on);
  off_level = λ t on. ap (λ b. b || at_level t ms) (differ t u ms (i.tags t on) twice.0) ∙ i.off_level t on;
  found = i.found;
  owned = i.owned;
}

inside_inner : (d c : ℕ) (r : Bool) (inner ms g : Shapes) → HasNoTwice (group d r inner ms) → IsInside inner c g → IsInside (group d r inner ms) c g
inside_inner d c r inner ms g twice i = record {
  twice = i.twice;
  led = i.led;
  own = i.own;
  tags = λ t on. on_right (t == d) (has_tag t inner || has_tag t ms) (on_left (has_tag t inner) (has_tag t ms) (i.tags t on));
  off_level = λ t on. ap (λ b. b || at_level t ms) (differ t d inner (i.tags t on) twice.0) ∙ level_off t ms (twice.2 t (i.tags t on));
  found = λ t on. in_inner t d r inner ms twice (i.tags t on) ∙ i.found t on;
  owned = λ t on. owner_inner t d r inner ms twice (i.tags t on) ∙ ap (λ b. if b then Some d else owner t inner) (i.off_level t on) ∙ i.owned t on;
}

inside_rest : (d c : ℕ) (r : Bool) (inner ms g : Shapes) → HasNoTwice (group d r inner ms) → IsInside ms c g → IsInside (group d r inner ms) c g
inside_rest d c r inner ms g twice i = record {
  twice = i.twice;
  led = i.led;
  own = i.own;
  tags = λ t on. on_right (t == d) (has_tag t inner || has_tag t ms) (on_right (has_tag t inner) (has_tag t ms) (i.tags t on));
  off_level = λ t on. ap (λ b. b || at_level t ms) (differ t d ms (i.tags t on) twice.1) ∙ i.off_level t on;
  found = λ t on. in_rest t d r inner ms twice (i.tags t on) ∙ i.found t on;
  owned = λ t on. owner_rest t d r inner ms twice (i.tags t on) ∙ i.owned t on;
}

inside_here : (d : ℕ) (r : Bool) (inner ms : Shapes) → HasNoTwice (group d r inner ms) → IsInside (group d r inner ms) d inner
inside_here d r inner ms twice = record {
  twice = twice.4;
  led = twice.3;
  own = twice.0;
  tags = λ t on. on_right (t == d) (has_tag t inner || has_tag t ms) (on_left (has_tag t inner) (has_tag t ms) on);
  off_level = λ t on. ap (λ b. b || at_level t ms) (differ t d inner on twice.0) ∙ level_off t ms (twice.2 t on);
  found = λ t on. in_inner t d r inner ms twice on;
  owned = λ t on. owner_inner t d r inner ms twice on;
}

inside_with : (d c : ℕ) (r : Bool) (inner ms g : Shapes) (b : Bool) (o : Option Shapes) → (c == d) ≡ b → group_at c inner ≡ o → HasNoTwice (group d r inner ms) → ((x : Shapes) → group_at c inner ≡ Some x → IsInside inner c x) → (group_at c ms ≡ Some g → IsInside ms c g)
    → (if b then Some inner else or_else o (group_at c ms)) ≡ Some g → IsInside (group d r inner ms) c g
inside_with d c r inner ms g true o same is twice own later e = subst (λ x. IsInside (group d r inner ms) x g) (sym (same_tag c d same)) (subst (IsInside (group d r inner ms) d) (some_same e) (inside_here d r inner ms twice))
inside_with d c r inner ms g false (Some x) same is twice own later e = subst (IsInside (group d r inner ms) c) (some_same e) (inside_inner d c r inner ms x twice (own x is))
inside_with d c r inner ms g false None same is twice own later e = inside_rest d c r inner ms g twice (later e)

pub inside : (root : Shapes) (c : ℕ) (g : Shapes) → HasNoTwice root → group_at c root ≡ Some g → IsInside root c g
inside no_more c g twice e = absurd (none_some (sym e))
inside (plain u r ms) c g twice e = inside_plain u c r ms g twice (inside ms c g twice.1 e)
inside (group d r inner ms) c g twice e = inside_with d c r inner ms g (c == d) (group_at c inner) refl refl twice (λ x k. inside inner c x twice.4 k) (inside ms c g twice.5) e

-- ---- what building needs

-- a group inside another has its tags, but not its delimiter
pub record IsApart (root : Shapes) : Type 0 where
  pub within : (c t u : ℕ) (g h : Shapes) → group_at c root ≡ Some g → has_tag t g ≡ true → group_at t root ≡ Some h → has_tag u h ≡ true → has_tag u g ≡ true
  pub lead_apart : (c t : ℕ) (g h : Shapes) → group_at c root ≡ Some g → has_tag t g ≡ true → group_at t root ≡ Some h → has_tag (lead g) h ≡ false

lead_off : (g : Shapes) (t : ℕ) (h : Shapes) → IsLed g → HasNoTwice g → group_at t g ≡ Some h → has_tag (lead g) h ≡ false
lead_off no_more t h led twice at = absurd led
lead_off (plain l r ms) t h led twice at = off_by (has_tag l h) (has_tag l ms) ((inside ms t h twice.1 at).tags l) twice.0
lead_off (group d r inner ms) t h led twice at = absurd led

pub apart : (root : Shapes) → HasNoTwice root → IsApart root
apart root twice = record {
  within = λ c t u g h at on at_t k. let i = inside root c g twice at in (inside g t h i.twice (sym (i.found t on) ∙ at_t)).tags u k;
  lead_apart = λ c t g h at on at_t. let i = inside root c g twice at in lead_off g t h i.led i.twice (sym (i.found t on) ∙ at_t);
}
