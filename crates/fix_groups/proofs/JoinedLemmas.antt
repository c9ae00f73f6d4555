-- Look-ups in layouts that stand one behind the other.
use Rattle.std.proofs.Common.{◌≡◌, ℕ, Bool, true, false, ◌||◌, ◌==◌, if◌then◌else◌, Option, Some, None, refl, sym, ap, ◌∙◌}
use Rattle.fix_fields.specs.Shapes.{Shapes, no_more, plain, group}
use Rattle.fix_fields.specs.NoTwice.{has_tag}
use Rattle.fix_groups.specs.Joined.{joined}
use Rattle.fix_groups.specs.Looked.{or_else, group_at, at_level, owner}

or_or : (a b c : Bool) → (a || (b || c)) ≡ ((a || b) || c)
or_or true b c = refl
or_or false b c = refl

or_else_else : {A : Type 0} (a b c : Option A) → or_else a (or_else b c) ≡ or_else (or_else a b) c
or_else_else (Some x) b c = refl
or_else_else None b c = refl

chosen : {A : Type 0} (b : Bool) (x y : Option A) (z : A) → (if b then Some z else or_else x y) ≡ or_else (if b then Some z else x) y
chosen true x y z = refl
chosen false x y z = refl

pub joined-nil : (a : Shapes) → joined a no_more ≡ a
joined-nil no_more = refl
joined-nil (plain t r ms) = ap (plain t r) (joined-nil ms)
joined-nil (group c r inner ms) = ap (group c r inner) (joined-nil ms)

pub has_tag-joined : (t : ℕ) (a b : Shapes) → has_tag t (joined a b) ≡ (has_tag t a || has_tag t b)
has_tag-joined t no_more b = refl
has_tag-joined t (plain u r ms) b = ap (λ x. t == u || x) (has_tag-joined t ms b) ∙ or_or (t == u) (has_tag t ms) (has_tag t b)
has_tag-joined t (group c r inner ms) b =
    ap (λ x. t == c || (has_tag t inner || x)) (has_tag-joined t ms b) ∙ ap (λ x. t == c || x) (or_or (has_tag t inner) (has_tag t ms) (has_tag t b)) ∙ or_or (t == c) (has_tag t inner || has_tag t ms) (has_tag t b)

pub group_at-joined : (t : ℕ) (a b : Shapes) → group_at t (joined a b) ≡ or_else (group_at t a) (group_at t b)
group_at-joined t no_more b = refl
group_at-joined t (plain u r ms) b = group_at-joined t ms b
group_at-joined t (group c r inner ms) b =
    ap (λ x. if t == c then Some inner else or_else (group_at t inner) x) (group_at-joined t ms b)
    ∙ ap (λ x. if t == c then Some inner else x) (or_else_else (group_at t inner) (group_at t ms) (group_at t b))
    ∙ chosen (t == c) (or_else (group_at t inner) (group_at t ms)) (group_at t b) inner

pub owner-joined : (t : ℕ) (a b : Shapes) → owner t (joined a b) ≡ or_else (owner t a) (owner t b)
owner-joined t no_more b = refl
owner-joined t (plain u r ms) b = owner-joined t ms b
owner-joined t (group c r inner ms) b =
    ap (λ x. if at_level t inner then Some c else or_else (owner t inner) x) (owner-joined t ms b)
    ∙ ap (λ x. if at_level t inner then Some c else x) (or_else_else (owner t inner) (owner t ms) (owner t b))
    ∙ chosen (at_level t inner) (or_else (owner t inner) (owner t ms)) (owner t b) c

-- ---- of three that stand one behind the other

pub tag_first : (t : ℕ) (a b c root : Shapes) → joined a (joined b c) ≡ root → true ≡ has_tag t a → true ≡ has_tag t root
tag_first t a b c root v h = ap (λ x. x || has_tag t (joined b c)) h ∙ sym (has_tag-joined t a (joined b c)) ∙ ap (has_tag t) v

pub tag_second : (t : ℕ) (a b c root : Shapes) → joined a (joined b c) ≡ root → false ≡ has_tag t a → true ≡ has_tag t b → true ≡ has_tag t root
tag_second t a b c root v off h =
    ap (λ x. x || has_tag t c) h ∙ sym (has_tag-joined t b c) ∙ ap (λ x. x || has_tag t (joined b c)) off ∙ sym (has_tag-joined t a (joined b c)) ∙ ap (has_tag t) v

pub tag_third : (t : ℕ) (a b c root : Shapes) (r : Bool) → joined a (joined b c) ≡ root → false ≡ has_tag t a → false ≡ has_tag t b → r ≡ has_tag t c → r ≡ has_tag t root
tag_third t a b c root r v off none h =
    h ∙ ap (λ x. x || has_tag t c) none ∙ sym (has_tag-joined t b c) ∙ ap (λ x. x || has_tag t (joined b c)) off ∙ sym (has_tag-joined t a (joined b c)) ∙ ap (has_tag t) v

pub group_first : (t : ℕ) (a b c root x : Shapes) → joined a (joined b c) ≡ root → Some x ≡ group_at t a → Some x ≡ group_at t root
group_first t a b c root x v h = ap (λ o. or_else o (group_at t (joined b c))) h ∙ sym (group_at-joined t a (joined b c)) ∙ ap (group_at t) v

pub group_second : (t : ℕ) (a b c root x : Shapes) → joined a (joined b c) ≡ root → None ≡ group_at t a → Some x ≡ group_at t b → Some x ≡ group_at t root
group_second t a b c root x v off h =
    ap (λ o. or_else o (group_at t c)) h ∙ sym (group_at-joined t b c) ∙ ap (λ o. or_else o (group_at t (joined b c))) off ∙ sym (group_at-joined t a (joined b c)) ∙ ap (group_at t) v

pub group_third : (t : ℕ) (a b c root : Shapes) (r : Option Shapes) → joined a (joined b c) ≡ root → None ≡ group_at t a → None ≡ group_at t b → r ≡ group_at t c → r ≡ group_at t root
group_third t a b c root r v off none h =
    h ∙ ap (λ o. or_else o (group_at t c)) none ∙ sym (group_at-joined t b c) ∙ ap (λ o. or_else o (group_at t (joined b c))) off ∙ sym (group_at-joined t a (joined b c)) ∙ ap (group_at t) v

pub owner_first : (t : ℕ) (a b c root : Shapes) (x : ℕ) → joined a (joined b c) ≡ root → Some x ≡ owner t a → Some x ≡ owner t root
owner_first t a b c root x v h = ap (λ o. or_else o (owner t (joined b c))) h ∙ sym (owner-joined t a (joined b c)) ∙ ap (owner t) v

pub owner_second : (t : ℕ) (a b c root : Shapes) (x : ℕ) → joined a (joined b c) ≡ root → None ≡ owner t a → Some x ≡ owner t b → Some x ≡ owner t root
owner_second t a b c root x v off h =
    ap (λ o. or_else o (owner t c)) h ∙ sym (owner-joined t b c) ∙ ap (λ o. or_else o (owner t (joined b c))) off ∙ sym (owner-joined t a (joined b c)) ∙ ap (owner t) v

pub owner_third : (t : ℕ) (a b c root : Shapes) (r : Option ℕ) → joined a (joined b c) ≡ root → None ≡ owner t a → None ≡ owner t b → r ≡ owner t c → r ≡ owner t root
owner_third t a b c root r v off none h =
    h ∙ ap (λ o. or_else o (owner t c)) none ∙ sym (owner-joined t b c) ∙ ap (λ o. or_else o (owner t (joined b c))) off ∙ sym (owner-joined t a (joined b c)) ∙ ap (owner t) v
