-- Where nothing is wrong, every group is of its instances, and no member stands outside.
use Rattle.std.proofs.Common.{◌≡◌, ℕ, zero, suc, ◌+◌, ◌≤◌, Bool, true, false, ◌||◌, ◌&&◌, ◌==◌, if◌then◌else◌, length, List, [], ◌∷◌, ◌++◌, drop, Option, Some, None, refl, sym, ap, subst, ◌∙◌, arith, append_assoc, ◌⊎◌, inl, inr}
use Rattle.std.proofs.lemmas.Grind.{common_steps}
use Rattle.fix_fields.specs.Shapes.{Shapes, no_more, plain, group}
use Rattle.fix_fields.specs.NoTwice.{has_tag, IsLed, HasNoTwice}
use Rattle.fix_groups.specs.Tagged.{Tagged}
use Rattle.fix_groups.specs.Looked.{some_has, group_at, at_level, owner, is_in}
use Rattle.fix_groups.specs.Runs.{run_of, lead, behind, starts, begins_well, in_order}
use Rattle.fix_groups.specs.Misfits.{count_misfit, is_within, stray_at, outside_group, first_misfit}
use Rattle.fix_groups.specs.Fits.{IsAllOf}
use Rattle.fix_groups.specs.Flat.{mark}
use Rattle.fix_groups.specs.Instances.{Instances, none, one, Stands, end, IsWhole, over, other, grouped}
use Rattle.fix_groups.specs.declared.misfit.Misfit.TheVariants.{Order}
use Rattle.fix_groups.proofs.OpenRuns.{none_some, same_tag, true_false, within-more}
use Rattle.fix_groups.proofs.Apart.{apart, on_right, or_nones, some_same, found_tag, inside}
use Rattle.fix_groups.proofs.Fronts.{IsOut, AreOut, fault_front, fault_back, all_front, all_back, run_all, run_ends, out_within, out_behind, out_next, both_true}
use Rattle.fix_groups.proofs.Building.{right_of}
use Rattle.fix_groups.proofs.Members.{false_true, same_here, deep_owned, owner_has, top_group, IsPart, group_part, IsKnown, known_part, known_next, level_next, member_next, stands_plain, stands_group, order_skip, order_front, order_back, starts_none, starts_back}

-- ---- strays in front and behind

pub stray_front : (root : Shapes) (before a b : List Tagged) → outside_group root before (a ++ b) ≡ None → outside_group root before a ≡ None
stray_front root before [] b h = refl
stray_front root before (f ∷ a) b h = let p = or_nones (stray_at root before (owner f.tag root)) (outside_group root (before ++ f ∷ []) (a ++ b)) h in rw p.0 (stray_front root (before ++ f ∷ []) a b p.1)

pub stray_behind : (root : Shapes) (before a b : List Tagged) → outside_group root before (a ++ b) ≡ None → outside_group root (before ++ a) b ≡ None
stray_behind root before [] b h = subst (λ l. outside_group root l b ≡ None) (grind (arith, common_steps)) h
stray_behind root before (f ∷ a) b h = subst (λ l. outside_group root l b ≡ None) (append_assoc before (f ∷ []) a) (stray_behind root (before ++ f ∷ []) a b (or_nones (stray_at root before (owner f.tag root)) (outside_group root (before ++ f ∷ []) (a ++ b)) h).1)

within_of : (c : ℕ) (b : Bool) → (if b then None else Some (Order c)) ≡ None → b ≡ true
within_of c true h = refl
within_of c false h = absurd (none_some h)

-- a member that is no stray stands in a run of its group
pub stray_within : (root : Shapes) (before fs : List Tagged) (f : Tagged) (c : ℕ) → outside_group root before (f ∷ fs) ≡ None → owner f.tag root ≡ Some c → is_within root c false before ≡ true
stray_within root before fs f c h own = within_of c (is_within root c false before) (ap (stray_at root before) (sym own) ∙ (or_nones _ _ h).0)

-- ---- what runs are open

-- no run of a group inside g goes on
pub record Closed (root g : Shapes) (before fs : List Tagged) : Type 0 where
  pub each : (c : ℕ) (h : Shapes) → has_tag c g ≡ true → group_at c root ≡ Some h → is_within root c false before ≡ true → IsOut h fs

in_group : (root h : Shapes) (c t : ℕ) → group_at c root ≡ Some h → is_in root c t ≡ has_tag t h
in_group root h c t at = ap (some_has t) at

or_cases : (a b : Bool) → (a || b) ≡ true → (a ≡ true) ⊎ (b ≡ true)
or_cases true b h = inl refl
or_cases false b h = inr h

-- a run goes on behind a field: it began there, or was open and has the tag
pub within_cases : (root h : Shapes) (before : List Tagged) (f : Tagged) (c : ℕ) → group_at c root ≡ Some h → is_within root c false (before ++ f ∷ []) ≡ true → (f.tag ≡ c) ⊎ ((is_within root c false before ≡ true) × (has_tag f.tag h ≡ true))
within_cases root h before f c at on = elim (or_cases (f.tag == c) (is_within root c false before && is_in root c f.tag) (sym (within-more root c false before f) ∙ on)) [
  | inl e ↦ inl (same_tag f.tag c e)
  | inr e ↦ inr (let p = both_true _ _ e in (p.0, sym (in_group root h c f.tag at) ∙ p.1))
]

pub within-append : (root : Shapes) (c : ℕ) (inside_ : Bool) (a b : List Tagged) → is_within root c inside_ (a ++ b) ≡ is_within root c (is_within root c inside_ a) b
within-append root c inside_ [] b = refl
within-append root c inside_ (f ∷ a) b = within-append root c (f.tag == c || (inside_ && is_in root c f.tag)) a b

-- behind fields of a group a run that goes on was open before them, or its count is in the group
within_all : (root h : Shapes) (c : ℕ) (inside_ : Bool) (run : List Tagged) → IsAllOf h run → is_within root c inside_ run ≡ true → (inside_ ≡ true) ⊎ (has_tag c h ≡ true)
within_all root h c inside_ [] all on = inl on
within_all root h c inside_ (f ∷ run) all on = elim (within_all root h c (f.tag == c || (inside_ && is_in root c f.tag)) run all.1 on) [
  | inr e ↦ inr e
  | inl e ↦ elim (or_cases (f.tag == c) (inside_ && is_in root c f.tag) e) [
    | inl s ↦ inr (subst (λ x. has_tag x h ≡ true) (same_tag f.tag c s) all.0)
    | inr s ↦ inl (both_true inside_ (is_in root c f.tag) s).0
  ]
]

-- behind a field that counts no group, no run of a group inside goes on
pub closed_plain : (root g : Shapes) (before fs after : List Tagged) (f : Tagged) → group_at f.tag root ≡ None → Closed root g before (f ∷ fs) → Closed root g (before ++ f ∷ []) after
closed_plain root g before fs after f miss closed = record {
  each = λ c h on at within. elim (within_cases root h before f c at within) [
    | inl e ↦ absurd (none_some (sym at ∙ ap (λ x. group_at x root) (sym e) ∙ miss))
    | inr p ↦ absurd (true_false (sym p.1 ∙ closed.each c h on at p.0))
  ];
}

-- behind the count of a group its run begins, and no run of a group inside it goes on
pub closed_inside : (root h : Shapes) (before after : List Tagged) (f : Tagged) → HasNoTwice root → group_at f.tag root ≡ Some h → Closed root h (before ++ f ∷ []) after
closed_inside root h before after f twice at = record {
  each = λ c k on at_c within. elim (within_cases root k before f c at_c within) [
    | inl e ↦ absurd (true_false (sym on ∙ ap (λ x. has_tag x h) (sym e) ∙ (inside root f.tag h twice at).own))
    | inr p ↦ absurd (true_false (sym ((apart root twice).within f.tag c f.tag h k at on at_c p.1) ∙ (inside root f.tag h twice at).own))
  ];
}

-- behind the run of a group, that run and those inside it have ended
pub closed_behind : (root g h : Shapes) (before run rest fs : List Tagged) (f : Tagged) → HasNoTwice root → group_at f.tag root ≡ Some h → IsAllOf h run → IsOut h rest → Closed root g before (f ∷ fs) → Closed root g ((before ++ f ∷ []) ++ run) rest
closed_behind root g h before run rest fs f twice at all out closed = record {
  each = λ c k on at_c within. elim (within_all root h c (is_within root c false (before ++ f ∷ [])) run all (sym (within-append root c false (before ++ f ∷ []) run) ∙ within)) [
    | inr e ↦ out_within h k rest (λ u. (apart root twice).within f.tag c u h k at e at_c) out
    | inl e ↦ elim (within_cases root k before f c at_c e) [
      | inl s ↦ subst (λ x. IsOut x rest) (some_same (sym at ∙ ap (λ x. group_at x root) s ∙ at_c)) out
      | inr p ↦ absurd (true_false (sym p.1 ∙ closed.each c k on at_c p.0))
    ]
  ];
}

-- where the next instance begins, or none, no run of a group inside goes on
pub closed_next : (root g : Shapes) (d : ℕ) (before fs : List Tagged) → HasNoTwice root → group_at d root ≡ Some g → begins_well g fs ≡ true → Closed root g before fs
closed_next root g d before fs twice at well = record { each = λ c h on at_c within. (out_next root g d fs (apart root twice) at well).each c h on at_c }

-- ---- the instance at the front

-- the fields before the next delimiter, and those from it on
abbrev until : Shapes → List Tagged → List Tagged
until g [] = []
until g (f ∷ fs) = if f.tag == lead g then [] else f ∷ until g fs

abbrev beyond : Shapes → List Tagged → List Tagged
beyond g [] = []
beyond g (f ∷ fs) = if f.tag == lead g then f ∷ fs else beyond g fs

parts_with : (f : Tagged) (fs a b : List Tagged) (t : Bool) → a ++ b ≡ fs → (if t then [] else f ∷ a) ++ (if t then f ∷ fs else b) ≡ f ∷ fs
parts_with f fs a b true h = refl
parts_with f fs a b false h = ap (λ l. f ∷ l) h

parts : (g : Shapes) (fs : List Tagged) → until g fs ++ beyond g fs ≡ fs
parts g [] = refl
parts g (f ∷ fs) = parts_with f fs (until g fs) (beyond g fs) (f.tag == lead g) (parts g fs)

none_with : (g : Shapes) (f : Tagged) (a : List Tagged) (t : Bool) → (f.tag == lead g) ≡ t → starts g a ≡ 0 → starts g (if t then [] else f ∷ a) ≡ 0
none_with g f a true is h = refl
none_with g f a false is h = ap (λ b. if b then starts g a + 1 else starts g a) is ∙ h

until_none : (g : Shapes) (fs : List Tagged) → starts g (until g fs) ≡ 0
until_none g [] = refl
until_none g (f ∷ fs) = none_with g f (until g fs) (f.tag == lead g) refl (until_none g fs)

begins_with : (g : Shapes) (f : Tagged) (fs b : List Tagged) (t : Bool) → (f.tag == lead g) ≡ t → begins_well g b ≡ true → begins_well g (if t then f ∷ fs else b) ≡ true
begins_with g f fs b true is h = is
begins_with g f fs b false is h = h

beyond_begins : (g : Shapes) (fs : List Tagged) → begins_well g (beyond g fs) ≡ true
beyond_begins g [] = refl
beyond_begins g (f ∷ fs) = begins_with g f fs (beyond g fs) (f.tag == lead g) refl (beyond_begins g fs)

count_with : (g : Shapes) (f : Tagged) (fs b : List Tagged) (t : Bool) → (f.tag == lead g) ≡ t → starts g fs ≡ starts g b → starts g (f ∷ fs) ≡ starts g (if t then f ∷ fs else b)
count_with g f fs b true is h = refl
count_with g f fs b false is h = ap (λ x. if x then starts g fs + 1 else starts g fs) is ∙ h

beyond_count : (g : Shapes) (fs : List Tagged) → starts g fs ≡ starts g (beyond g fs)
beyond_count g [] = refl
beyond_count g (f ∷ fs) = count_with g f fs (beyond g fs) (f.tag == lead g) refl (beyond_count g fs)

-- ---- what is known of fields that stand in a group

-- nothing is wrong with the fields, which stand in the group behind these
record AreRight (root g : Shapes) (before fs : List Tagged) : Type 0 where
  all : IsAllOf g fs
  counts : count_misfit root fs ≡ None
  strays : outside_group root before fs ≡ None

right_back : (root g : Shapes) (before a b : List Tagged) → AreRight root g before (a ++ b) → AreRight root g (before ++ a) b
right_back root g before a b r = record { all = all_back g a b r.all; counts = fault_back root a b r.counts; strays = stray_behind root before a b r.strays }

right_front : (root g : Shapes) (before a b : List Tagged) → AreOut root g b → AreRight root g before (a ++ b) → AreRight root g before a
right_front root g before a b out r = record { all = all_front g a b r.all; counts = fault_front root g a b (all_front g a b r.all) out r.counts; strays = stray_front root before a b r.strays }

level_with : (root g : Shapes) (before fs : List Tagged) (f : Tagged) (l : Bool) → at_level f.tag g ≡ l → IsPart root g → Closed root g before (f ∷ fs) → has_tag f.tag g ≡ true → outside_group root before (f ∷ fs) ≡ None → l ≡ true
level_with root g before fs f true is part closed on h = refl
level_with root g before fs f false is part closed on h =
    let o = deep_owned f.tag g part.twice on is in
    let within = stray_within root before fs f o.count h (part.owned f.tag on is ∙ o.owned) in
    let tag = found_tag o.count g o.inner o.at in
    absurd (true_false (sym o.has ∙ closed.each o.count o.inner tag (part.found o.count tag ∙ o.at) within))

-- a member of the group that is no stray, where no run inside goes on, is one of its own level
level_of : (root g : Shapes) (before fs : List Tagged) (f : Tagged) → IsPart root g → Closed root g before (f ∷ fs) → has_tag f.tag g ≡ true → outside_group root before (f ∷ fs) ≡ None → at_level f.tag g ≡ true
level_of root g before fs f part closed on h = level_with root g before fs f (at_level f.tag g) refl part closed on h

-- the run behind a count
record Behind (root h : Shapes) (before : List Tagged) (f : Tagged) (fs run rest : List Tagged) (k : ℕ) : Type 0 where
  whole : run ++ rest ≡ fs
  out : IsOut h rest
  says : f.count ≡ Some k
  starts_ : starts h run ≡ k
  begins : begins_well h run ≡ true
  ordered : in_order h h run ≡ true
  right : AreRight root h (before ++ f ∷ []) run

drop_whole : (g : Shapes) (fs : List Tagged) → run_of g fs ++ drop (length (run_of g fs)) fs ≡ fs
drop_whole g [] = refl
drop_whole g (f ∷ fs) = drop_with f fs (run_of g fs) (has_tag f.tag g) (drop_whole g fs) where
  drop_with : (f : Tagged) (fs r : List Tagged) (t : Bool) → r ++ drop (length r) fs ≡ fs → (if t then f ∷ r else []) ++ drop (length (if t then f ∷ r else [])) (f ∷ fs) ≡ f ∷ fs
  drop_with f fs r true h = ap (λ l. f ∷ l) h
  drop_with f fs r false h = refl

behind_count : (root h : Shapes) (before fs : List Tagged) (f : Tagged) → HasNoTwice root → group_at f.tag root ≡ Some h → count_misfit root (f ∷ fs) ≡ None → outside_group root before (f ∷ fs) ≡ None
    → (k : ℕ) × Behind root h before f fs (run_of h fs) (drop (length (run_of h fs)) fs) k
behind_count root h before fs f twice at counts strays =
    let r = right_of root h f fs at counts in
    let whole = drop_whole h fs in
    let rest = drop (length (run_of h fs)) fs in
    let out : IsOut h rest = run_ends h (run_of h fs) rest (ap (run_of h) whole) in
    let inner_counts : count_misfit root (run_of h fs ++ rest) ≡ None = subst (λ l. count_misfit root l ≡ None) (sym whole) (or_nones _ _ counts).1 in
    let inner_strays : outside_group root (before ++ f ∷ []) (run_of h fs ++ rest) ≡ None = subst (λ l. outside_group root (before ++ f ∷ []) l ≡ None) (sym whole) (or_nones _ _ strays).1 in (
      r.number,
      record {
        whole = whole;
        out = out;
        says = r.is;
        starts_ = r.count;
        begins = r.begins;
        ordered = r.ordered;
        right = record {
          all = run_all h fs;
          counts = fault_front root h (run_of h fs) rest (run_all h fs) (out_behind root h f.tag rest (apart root twice) at out) inner_counts;
          strays = stray_front root (before ++ f ∷ []) (run_of h fs) rest inner_strays;
        };
      },
    )

-- ---- up to a length

abbrev AllInstances : ℕ → Shapes → Type 0
AllInstances n root = (g left : Shapes) (d : ℕ) (run before : List Tagged) → length run ≤ n → group_at d root ≡ Some g → begins_well g run ≡ true → in_order g left run ≡ true → AreRight root g before run → Instances g run (starts g run)

abbrev AllStand : ℕ → Shapes → Type 0
AllStand n root = (g left : Shapes) (fs before : List Tagged) → length fs ≤ n → IsPart root g → at_level (lead g) g ≡ true → ((u : ℕ) → at_level u left ≡ true → at_level u g ≡ true) → IsKnown root left
    → starts g fs ≡ 0 → in_order g left fs ≡ true → AreRight root g before fs → Closed root g before fs → Stands left fs

abbrev AllWhole : ℕ → Shapes → Type 0
AllWhole n root = (fs before : List Tagged) → length fs ≤ n → count_misfit root fs ≡ None → outside_group root before fs ≡ None → Closed root root before fs → IsWhole root fs

shorter_front : (a b fs : List Tagged) (n : ℕ) → a ++ b ≡ fs → length fs ≤ n → length a ≤ n
shorter_front a b fs n e h = let l : length (a ++ b) ≡ length fs = ap length e in grind (arith, common_steps, l, h)

shorter_back : (a b fs : List Tagged) (n : ℕ) → a ++ b ≡ fs → length fs ≤ n → length b ≤ n
shorter_back a b fs n e h = let l : length (a ++ b) ≡ length fs = ap length e in grind (arith, common_steps, l, h)

none_left : (f : Tagged) (fs : List Tagged) → length (f ∷ fs) ≤ 0 → ⊥
none_left f fs h = omega (arith, h)

less : (f : Tagged) (fs : List Tagged) (n : ℕ) → length (f ∷ fs) ≤ suc n → length fs ≤ n
less f fs n h = omega (arith, h)

lead_level : (u : ℕ) (r : Bool) (ms : Shapes) → at_level u (plain u r ms) ≡ true
lead_level u r ms = ap (λ b. b || at_level u ms) (same_here u)

one_more : (g : Shapes) (u : ℕ) (r : Bool) (ms : Shapes) (f : Tagged) (fs stretch more : List Tagged) → f.tag ≡ u → (f.tag == u) ≡ true → stretch ++ more ≡ fs → starts (plain u r ms) fs ≡ starts (plain u r ms) more → Stands ms stretch → Instances (plain u r ms) more (starts (plain u r ms) more)
    → Instances (plain u r ms) (f ∷ fs) (starts (plain u r ms) (f ∷ fs))
one_more g u r ms f fs stretch more e begins whole same s i =
    let first : Instances (plain u r ms) (mark u f.count ∷ stretch ++ more) (starts (plain u r ms) more + 1) = one u (starts (plain u r ms) more) f.count r ms stretch more s i in
    let named : Instances (plain u r ms) (f ∷ stretch ++ more) (starts (plain u r ms) more + 1) = subst (λ x. Instances (plain u r ms) (mark x f.count ∷ stretch ++ more) (starts (plain u r ms) more + 1)) (sym e) first in
    let joined : Instances (plain u r ms) (f ∷ fs) (starts (plain u r ms) more + 1) = subst (λ l. Instances (plain u r ms) (f ∷ l) (starts (plain u r ms) more + 1)) whole named in
    let count : starts (plain u r ms) (f ∷ fs) ≡ starts (plain u r ms) more + 1 = ap (λ b. if b then starts (plain u r ms) fs + 1 else starts (plain u r ms) fs) begins ∙ ap (λ k. k + 1) same in
    subst (Instances (plain u r ms) (f ∷ fs)) (sym count) joined

inst_at : (n : ℕ) (root : Shapes) → HasNoTwice root → AllInstances n root → AllStand n root → (g left : Shapes) (d : ℕ) (f : Tagged) (fs before : List Tagged) → IsLed g → length fs ≤ n → group_at d root ≡ Some g → begins_well g (f ∷ fs) ≡ true → in_order g left (f ∷ fs) ≡ true → AreRight root g before (f ∷ fs) → Instances g (f ∷ fs) (starts g (f ∷ fs))
inst_at n root twice inst stand no_more left d f fs before led fits at begins ordered right = absurd led
inst_at n root twice inst stand (group c r inner ms) left d f fs before led fits at begins ordered right = absurd led
inst_at n root twice inst stand (plain u r ms) left d f fs before led fits at begins ordered right =
    let g : Shapes = plain u r ms in
    let e : f.tag ≡ u = same_tag f.tag u begins in
    let part : IsPart root (plain u r ms) = group_part root d (plain u r ms) twice at in
    let known : IsKnown root (plain u r ms) = known_part root (plain u r ms) part.twice part.found in
    let miss : group_at f.tag root ≡ None = ap (λ x. group_at x root) e ∙ known.0 in
    let stretch = until (plain u r ms) fs in
    let more = beyond (plain u r ms) fs in
    let whole : stretch ++ more ≡ fs = parts (plain u r ms) fs in
    let ord : in_order (plain u r ms) ms fs ≡ true = rw begins at ordered in
    let ord_whole : in_order (plain u r ms) ms (stretch ++ more) ≡ true = subst (λ l. in_order (plain u r ms) ms l ≡ true) (sym whole) ord in
    let right_whole : AreRight root (plain u r ms) (before ++ f ∷ []) (stretch ++ more) = subst (AreRight root (plain u r ms) (before ++ f ∷ [])) (sym whole) (right_back root (plain u r ms) before (f ∷ []) fs right) in
    let out : AreOut root (plain u r ms) more = out_next root (plain u r ms) d more (apart root twice) at (beyond_begins (plain u r ms) fs) in
    let closed : Closed root (plain u r ms) (before ++ f ∷ []) stretch = closed_plain root (plain u r ms) before fs stretch f miss (closed_next root (plain u r ms) d before (f ∷ fs) twice at begins) in
    let s : Stands ms stretch =
    stand (plain u r ms) ms stretch (before ++ f ∷ []) (shorter_front stretch more fs n whole fits) part (lead_level u r ms) (λ w q. on_right (w == u) (at_level w ms) q) known.1
    (until_none (plain u r ms) fs) (order_front (plain u r ms) ms stretch more ord_whole) (right_front root (plain u r ms) (before ++ f ∷ []) stretch more out right_whole) closed in
    let back = order_back (plain u r ms) ms stretch more ord_whole in
    let i : Instances (plain u r ms) more (starts (plain u r ms) more) =
    inst (plain u r ms) back.0 d more ((before ++ f ∷ []) ++ stretch) (shorter_back stretch more fs n whole fits) at (beyond_begins (plain u r ms) fs) back.1 (right_back root (plain u r ms) (before ++ f ∷ []) stretch more right_whole) in
    one_more g u r ms f fs stretch more e begins whole (beyond_count (plain u r ms) fs) s i

inst_suc : (n : ℕ) (root : Shapes) → HasNoTwice root → AllInstances n root → AllStand n root → AllInstances (suc n) root
inst_suc n root twice inst stand g left d [] before fits at begins ordered right = none g
inst_suc n root twice inst stand g left d (f ∷ fs) before fits at begins ordered right = inst_at n root twice inst stand g left d f fs before (inside root d g twice at).led (less f fs n fits) at begins ordered right

stand_at : (n : ℕ) (root : Shapes) → HasNoTwice root → AllInstances n root → AllStand n root → (g left ms : Shapes) (f : Tagged) (fs before : List Tagged) (o : Option Shapes) → group_at f.tag root ≡ o → length fs ≤ n → IsPart root g → at_level (lead g) g ≡ true
    → ((u : ℕ) → at_level u left ≡ true → at_level u g ≡ true) → ((u : ℕ) → at_level u ms ≡ true → at_level u g ≡ true) → IsKnown root left → IsKnown root ms → starts g fs ≡ 0 → behind f.tag left ≡ Some ms → in_order g ms fs ≡ true → AreRight root g before (f ∷ fs) → Closed root g before (f ∷ fs) → Stands left (f ∷ fs)
stand_at n root twice inst stand g left ms f fs before None miss fits part on sub sub_next known known_ms zero_ next ordered right closed =
    stands_plain root left ms f.tag f.count fs miss known next
    (stand g ms fs (before ++ f ∷ []) fits part on sub_next known_ms zero_ ordered (right_back root g before (f ∷ []) fs right) (closed_plain root g before fs fs f miss closed))
stand_at n root twice inst stand g left ms f fs before (Some h) at fits part on sub sub_next known known_ms zero_ next ordered right closed =
    let b = behind_count root h before fs f twice at right.counts right.strays in
    let run = run_of h fs in
    let rest = drop (length (run_of h fs)) fs in
    let i : Instances h run b.0 = subst (Instances h run) b.1.starts_ (inst h h f.tag run (before ++ f ∷ []) (shorter_front run rest fs n b.1.whole fits) at b.1.begins b.1.ordered b.1.right) in
    let own : group_at f.tag g ≡ Some h = sym (part.found f.tag right.all.0) ∙ at in
    let skip = order_skip g h ms run rest on (λ u. (inside g f.tag h part.twice own).off_level u) sub_next b.1.right.all in
    let rest_right : AreRight root g ((before ++ f ∷ []) ++ run) rest = right_back root g (before ++ f ∷ []) run rest (subst (AreRight root g (before ++ f ∷ [])) (sym b.1.whole) (right_back root g before (f ∷ []) fs right)) in
    let s : Stands ms rest =
    stand g ms rest ((before ++ f ∷ []) ++ run) (shorter_back run rest fs n b.1.whole fits) part on sub_next known_ms
    (starts_back g run rest (subst (λ l. starts g l ≡ 0) (sym b.1.whole) zero_)) (sym skip ∙ subst (λ l. in_order g ms l ≡ true) (sym b.1.whole) ordered) rest_right (closed_behind root g h before run rest fs f twice at b.1.right.all b.1.out closed) in
    let whole : Stands left (mark f.tag (Some b.0) ∷ run ++ rest) = stands_group root h left ms f.tag b.0 run rest at known i next s in
    let named : Stands left (f ∷ run ++ rest) = subst (λ x. Stands left (mark f.tag x ∷ run ++ rest)) (sym b.1.says) whole in
    subst (λ l. Stands left (f ∷ l)) b.1.whole named

stand_suc : (n : ℕ) (root : Shapes) → HasNoTwice root → AllInstances n root → AllStand n root → AllStand (suc n) root
stand_suc n root twice inst stand g left [] before fits part on sub known zero_ ordered right closed = end left
stand_suc n root twice inst stand g left (f ∷ fs) before fits part on sub known zero_ ordered right closed =
    let z = starts_none g f fs zero_ in
    let level = level_of root g before fs f part closed right.all.0 right.strays in
    let next = member_next g left f fs z.0 level ordered in
    stand_at n root twice inst stand g left next.0 f fs before (group_at f.tag root) refl (less f fs n fits) part on sub (λ u e. sub u (level_next left next.0 f.tag u next.1 e)) known (known_next root left next.0 f.tag known next.1) z.1 next.1 next.2 right closed

inst_zero : (root : Shapes) → AllInstances 0 root
inst_zero root g left d [] before fits at begins ordered right = none g
inst_zero root g left d (f ∷ fs) before fits at begins ordered right = absurd (none_left f fs fits)

stand_zero : (root : Shapes) → AllStand 0 root
stand_zero root g left [] before fits part on sub known zero_ ordered right closed = end left
stand_zero root g left (f ∷ fs) before fits part on sub known zero_ ordered right closed = absurd (none_left f fs fits)

both : (n : ℕ) (root : Shapes) → HasNoTwice root → AllInstances n root × AllStand n root
both zero root twice = (inst_zero root, stand_zero root)
both (suc n) root twice = let ih = both n root twice in (inst_suc n root twice ih.0 ih.1, stand_suc n root twice ih.0 ih.1)

-- ---- the whole list

unowned_with : (root : Shapes) (before fs : List Tagged) (f : Tagged) (o : Option ℕ) → owner f.tag root ≡ o → HasNoTwice root → outside_group root before (f ∷ fs) ≡ None → Closed root root before (f ∷ fs) → o ≡ None
unowned_with root before fs f None is twice h closed = refl
unowned_with root before fs f (Some c) is twice h closed =
    let o = owner_has f.tag c root twice is in
    let within = stray_within root before fs f o.count h o.owned in
    absurd (true_false (sym o.has ∙ closed.each o.count o.inner (found_tag o.count root o.inner o.at) o.at within))

whole_at : (n : ℕ) (root : Shapes) → HasNoTwice root → AllWhole n root → (f : Tagged) (fs before : List Tagged) (o : Option Shapes) → group_at f.tag root ≡ o → owner f.tag root ≡ None → length fs ≤ n → count_misfit root (f ∷ fs) ≡ None → outside_group root before (f ∷ fs) ≡ None → Closed root root before (f ∷ fs) → IsWhole root (f ∷ fs)
whole_at n root twice ih f fs before None miss none_ fits counts strays closed =
    other f.tag f.count fs miss none_ (ih fs (before ++ f ∷ []) fits (or_nones _ _ counts).1 (or_nones _ _ strays).1 (closed_plain root root before fs fs f miss closed))
whole_at n root twice ih f fs before (Some h) at none_ fits counts strays closed =
    let b = behind_count root h before fs f twice at counts strays in
    let run = run_of h fs in
    let rest = drop (length (run_of h fs)) fs in
    let i : Instances h run b.0 = subst (Instances h run) b.1.starts_ ((both n root twice).0 h h f.tag run (before ++ f ∷ []) (shorter_front run rest fs n b.1.whole fits) at b.1.begins b.1.ordered b.1.right) in
    let counts_rest : count_misfit root rest ≡ None = fault_back root run rest (subst (λ l. count_misfit root l ≡ None) (sym b.1.whole) (or_nones _ _ counts).1) in
    let strays_rest : outside_group root ((before ++ f ∷ []) ++ run) rest ≡ None = stray_behind root (before ++ f ∷ []) run rest (subst (λ l. outside_group root (before ++ f ∷ []) l ≡ None) (sym b.1.whole) (or_nones _ _ strays).1) in
    let w : IsWhole root rest = ih rest ((before ++ f ∷ []) ++ run) (shorter_back run rest fs n b.1.whole fits) counts_rest strays_rest (closed_behind root root h before run rest fs f twice at b.1.right.all b.1.out closed) in
    let g : IsWhole root (mark f.tag (Some b.0) ∷ run ++ rest) = grouped f.tag b.0 h run rest (top_group root f.tag h twice at none_) i w in
    subst (λ l. IsWhole root (f ∷ l)) b.1.whole (subst (λ x. IsWhole root (mark f.tag x ∷ run ++ rest)) (sym b.1.says) g)

whole_suc : (n : ℕ) (root : Shapes) → HasNoTwice root → AllWhole n root → AllWhole (suc n) root
whole_suc n root twice ih [] before fits counts strays closed = over
whole_suc n root twice ih (f ∷ fs) before fits counts strays closed =
    whole_at n root twice ih f fs before (group_at f.tag root) refl (unowned_with root before fs f (owner f.tag root) refl twice strays closed) (less f fs n fits) counts strays closed

whole_zero : (root : Shapes) → AllWhole 0 root
whole_zero root [] before fits counts strays closed = over
whole_zero root (f ∷ fs) before fits counts strays closed = absurd (none_left f fs fits)

whole_to : (n : ℕ) (root : Shapes) → HasNoTwice root → AllWhole n root
whole_to zero root twice = whole_zero root
whole_to (suc n) root twice = whole_suc n root twice (whole_to n root twice)

-- where nothing is wrong, each group is of its instances, and no member stands outside
pub right_is_whole : (root : Shapes) (fs : List Tagged) → HasNoTwice root → first_misfit root fs ≡ None → IsWhole root fs
right_is_whole root fs twice h =
    let p = or_nones _ _ h in
    whole_to (length fs) root twice fs [] (omega arith) p.0 p.1 (record { each = λ c k on at within. absurd (false_true within) })
