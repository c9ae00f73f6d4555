-- What is tried of a layout is that no tag stands twice.
use Rattle.std.proofs.Common.{◌≡◌, ℕ, Bool, true, false, ◌||◌, ◌==◌, if◌then◌else◌, refl, ap, ◌∙◌}
use Rattle.fix_fields.specs.Shapes.{Shapes, no_more, plain, group}
use Rattle.fix_fields.specs.NoTwice.{has_tag, IsLed, HasNoTwice}
use Rattle.fix_groups.specs.Distinct.{shares_a_tag, begins_plain, has_distinct_tags}
use Rattle.fix_groups.proofs.OpenRuns.{same_tag, true_false}
use Rattle.fix_groups.proofs.Apart.{both_off, on_left, on_right}
use Rattle.fix_groups.proofs.Members.{same_here, false_true}

if_off : (a b : Bool) → (if a then false else b) ≡ true → (a ≡ false) × (b ≡ true)
if_off true b h = absurd (false_true h)
if_off false b h = (refl, h)

if_on : (a b : Bool) → (if a then b else false) ≡ true → (a ≡ true) × (b ≡ true)
if_on true b h = (refl, h)
if_on false b h = absurd (false_true h)

or_off : (a b : Bool) → a ≡ false → b ≡ false → (a || b) ≡ false
or_off true b x y = absurd (true_false x)
or_off false b x y = y

here_or : (t u : ℕ) (ms : Shapes) (b on : Bool) → (t == u) ≡ b → has_tag u ms ≡ false → (on ≡ true → has_tag t ms ≡ false) → (b || on) ≡ true → has_tag t ms ≡ false
here_or t u ms true on is off later h = ap (λ x. has_tag x ms) (same_tag t u is) ∙ off
here_or t u ms false on is off later h = later h

either : (t : ℕ) (ms : Shapes) (a b : Bool) → (a ≡ true → has_tag t ms ≡ false) → (b ≡ true → has_tag t ms ≡ false) → (a || b) ≡ true → has_tag t ms ≡ false
either t ms true b x y h = x refl
either t ms false b x y h = y h

meets_off : (a ms : Shapes) → shares_a_tag a ms ≡ false → (t : ℕ) → has_tag t a ≡ true → has_tag t ms ≡ false
meets_off no_more ms off t on = absurd (false_true on)
meets_off (plain u r more) ms off t on =
    let p = both_off (has_tag u ms) (shares_a_tag more ms) off in
    here_or t u ms (t == u) (has_tag t more) refl p.0 (meets_off more ms p.1 t) on
meets_off (group c r inner more) ms off t on =
    let p = both_off (has_tag c ms) (shares_a_tag inner ms || shares_a_tag more ms) off in
    let q = both_off (shares_a_tag inner ms) (shares_a_tag more ms) p.1 in
    here_or t c ms (t == c) (has_tag t inner || has_tag t more) refl p.0 (either t ms (has_tag t inner) (has_tag t more) (meets_off inner ms q.0 t) (meets_off more ms q.1 t)) on

off_meets : (a ms : Shapes) → ((t : ℕ) → has_tag t a ≡ true → has_tag t ms ≡ false) → shares_a_tag a ms ≡ false
off_meets no_more ms off = refl
off_meets (plain u r more) ms off = or_off (has_tag u ms) (shares_a_tag more ms) (off u (on_left (u == u) (has_tag u more) (same_here u))) (off_meets more ms (λ t on. off t (on_right (t == u) (has_tag t more) on)))
off_meets (group c r inner more) ms off =
    or_off (has_tag c ms) (shares_a_tag inner ms || shares_a_tag more ms) (off c (on_left (c == c) (has_tag c inner || has_tag c more) (same_here c)))
    (or_off (shares_a_tag inner ms) (shares_a_tag more ms) (off_meets inner ms (λ t on. off t (on_right (t == c) (has_tag t inner || has_tag t more) (on_left (has_tag t inner) (has_tag t more) on)))) (off_meets more ms (λ t on. off t (on_right (t == c) (has_tag t inner || has_tag t more) (on_right (has_tag t inner) (has_tag t more) on)))))

led_is : (g : Shapes) → begins_plain g ≡ true → IsLed g
led_is no_more h = absurd (false_true h)
led_is (plain t r ms) h = tt
led_is (group c r inner ms) h = absurd (false_true h)

is_led_of : (g : Shapes) → IsLed g → begins_plain g ≡ true
is_led_of no_more led = absurd led
is_led_of (plain t r ms) led = refl
is_led_of (group c r inner ms) led = absurd led

pub told_is : (g : Shapes) → has_distinct_tags g ≡ true → HasNoTwice g
told_is no_more h = tt
told_is (plain t r ms) h = let p = if_off (has_tag t ms) (has_distinct_tags ms) h in (p.0, told_is ms p.1)
told_is (group c r inner ms) h =
    let a = if_off (has_tag c inner) _ h in
    let b = if_off (has_tag c ms) _ a.1 in
    let d = if_off (shares_a_tag inner ms) _ b.1 in
    let e = if_on (begins_plain inner) _ d.1 in
    let f = if_on (has_distinct_tags inner) (has_distinct_tags ms) e.1 in
    (a.0, b.0, meets_off inner ms d.0, led_is inner e.0, told_is inner f.0, told_is ms f.1)

pub is_told : (g : Shapes) → HasNoTwice g → has_distinct_tags g ≡ true
is_told no_more h = refl
is_told (plain t r ms) h = rw h.0 (is_told ms h.1)
is_told (group c r inner ms) h = rw (h.0, h.1, off_meets inner ms h.2, is_led_of inner h.3, is_told inner h.4) (is_told ms h.5)
