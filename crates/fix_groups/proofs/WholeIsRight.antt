-- Where each group is of its instances, and no member stands outside, nothing is wrong.
use Rattle.std.proofs.Common.{◌≡◌, ℕ, ◌+◌, Bool, true, false, ◌||◌, ◌&&◌, ◌==◌, if◌then◌else◌, List, [], ◌∷◌, ◌++◌, Option, Some, None, refl, sym, ap, subst, ◌∙◌, arith, append_assoc, append-nil}
use Rattle.fix_fields.specs.Shapes.{Shapes, plain, group}
use Rattle.fix_fields.specs.NoTwice.{has_tag, HasNoTwice}
use Rattle.fix_groups.specs.Tagged.{Tagged}
use Rattle.fix_groups.specs.Looked.{or_else, some_has, group_at, at_level, owner, is_in}
use Rattle.fix_groups.specs.Runs.{run_of, lead, behind_lead, behind, if_some, starts, begins_well, in_order}
use Rattle.fix_groups.specs.Misfits.{judged, judged_at, count_misfit, is_within, stray_at, outside_group, first_misfit}
use Rattle.fix_groups.specs.Fits.{IsAllOf}
use Rattle.fix_groups.specs.Flat.{mark}
use Rattle.fix_groups.specs.Instances.{Instances, none, one, Stands, end, pass_plain, pass_group, takes_plain, takes_group, HasGroup, here, behind_plain, behind_group, IsWhole, over, other, grouped}
use Rattle.fix_groups.specs.declared.misfit.Misfit.TheVariants.{Order}
use Rattle.fix_groups.proofs.OpenRuns.{none_some, true_false}
use Rattle.fix_groups.proofs.Apart.{apart, on_right, on_left, off_if, differ, off_inside, level_tag, level_off, not_owned, in_rest, owner_rest, inside}
use Rattle.fix_groups.proofs.Fronts.{IsOut, AreOut, run_front, out_behind, out_next}
use Rattle.fix_groups.proofs.Building.{starts-append}
use Rattle.fix_groups.proofs.Members.{same_here, deep_owned, group_part, IsKnown, known_part, order_skip}
use Rattle.fix_groups.proofs.Wholes.{within-append}

-- ---- lists whose tags are all of a group

all_sub : (ms g : Shapes) (fs : List Tagged) → ((u : ℕ) → has_tag u ms ≡ true → has_tag u g ≡ true) → IsAllOf ms fs → IsAllOf g fs
all_sub ms g [] sub all = tt
all_sub ms g (f ∷ fs) sub all = (sub f.tag all.0, all_sub ms g fs sub all.1)

all_append : (g : Shapes) (a b : List Tagged) → IsAllOf g a → IsAllOf g b → IsAllOf g (a ++ b)
all_append g [] b x y = y
all_append g (f ∷ a) b x y = (x.0, all_append g a b x.1 y)

run_same : (g : Shapes) (a : List Tagged) → IsAllOf g a → run_of g a ≡ a
run_same g [] all = refl
run_same g (f ∷ a) all = rw all.0 (ap (λ l. f ∷ l) (run_same g a all.1))

run_exact : (g : Shapes) (a b : List Tagged) → IsAllOf g a → IsOut g b → run_of g (a ++ b) ≡ a
run_exact g a b all out = run_front g a b out ∙ run_same g a all

no_starts : (g ms : Shapes) (fs : List Tagged) → has_tag (lead g) ms ≡ false → IsAllOf ms fs → starts g fs ≡ 0
no_starts g ms [] off all = refl
no_starts g ms (f ∷ fs) off all = rw (differ f.tag (lead g) ms all.0 off) (no_starts g ms fs off all.1)

-- ---- a run that goes on

stays : (root g : Shapes) (d : ℕ) (run : List Tagged) → group_at d root ≡ Some g → IsAllOf g run → is_within root d true run ≡ true
stays root g d [] at all = refl
stays root g d (f ∷ run) at all =
    let on : is_in root d f.tag ≡ true = ap (some_has f.tag) at ∙ all.0 in
    subst (λ b. is_within root d b run ≡ true) (sym (on_right (f.tag == d) (true && is_in root d f.tag) on)) (stays root g d run at all.1)

within_keep : (root g : Shapes) (d : ℕ) (before run : List Tagged) → group_at d root ≡ Some g → IsAllOf g run → is_within root d false before ≡ true → is_within root d false (before ++ run) ≡ true
within_keep root g d before run at all on = within-append root d false before run ∙ ap (λ b. is_within root d b run) on ∙ stays root g d run at all

within_begins : (root : Shapes) (c : ℕ) (n : Option ℕ) (before : List Tagged) → is_within root c false (before ++ mark c n ∷ []) ≡ true
within_begins root c n before = within-append root c false before (mark c n ∷ []) ∙ on_left (c == c) (is_within root c false before && is_in root c c) (same_here c)

-- a member whose group's run goes on is no stray
no_stray : (root : Shapes) (before fs : List Tagged) (f : Tagged) (d : ℕ) → owner f.tag root ≡ Some d → is_within root d false before ≡ true → outside_group root before (f ∷ fs) ≡ outside_group root (before ++ f ∷ []) fs
no_stray root before fs f d own on = ap (λ o. or_else (stray_at root before o) (outside_group root (before ++ f ∷ []) fs)) own ∙ ap (λ b. or_else (if b then None else Some (Order d)) (outside_group root (before ++ f ∷ []) fs)) on

no_owner : (root : Shapes) (before fs : List Tagged) (f : Tagged) → owner f.tag root ≡ None → outside_group root before (f ∷ fs) ≡ outside_group root (before ++ f ∷ []) fs
no_owner root before fs f own = ap (λ o. or_else (stray_at root before o) (outside_group root (before ++ f ∷ []) fs)) own

no_count : (root : Shapes) (fs : List Tagged) (f : Tagged) → group_at f.tag root ≡ None → count_misfit root (f ∷ fs) ≡ count_misfit root fs
no_count root fs f at = ap (λ o. or_else (judged_at f fs o) (count_misfit root fs)) at

judged_right : (c k : ℕ) (g : Shapes) (run : List Tagged) → starts g run ≡ k → begins_well g run ≡ true → in_order g g run ≡ true → judged c (Some k) g run ≡ None
judged_right c k g run count begins ordered = rw (count, same_here k, begins, ordered) refl

right_count : (root g : Shapes) (c k : ℕ) (run fs : List Tagged) → group_at c root ≡ Some g → run_of g fs ≡ run → starts g run ≡ k → begins_well g run ≡ true → in_order g g run ≡ true → count_misfit root (mark c (Some k) ∷ fs) ≡ count_misfit root fs
right_count root g c k run fs at is count begins ordered =
    ap (λ o. or_else (judged_at (mark c (Some k)) fs o) (count_misfit root fs)) at ∙ ap (λ r. or_else (judged c (Some k) g r) (count_misfit root fs)) is ∙ ap (λ o. or_else o (count_misfit root fs)) (judged_right c k g run count begins ordered)

-- ---- the end of a group's members

record IsEnd (root : Shapes) (d : ℕ) (g left : Shapes) : Type 0 where
  twice : HasNoTwice left
  sub : (u : ℕ) → has_tag u left ≡ true → has_tag u g ≡ true
  level : (u : ℕ) → at_level u left ≡ true → at_level u g ≡ true
  not_lead : has_tag (lead g) left ≡ false
  known : IsKnown root left

off_plain : (u t : ℕ) (ms : Shapes) → (t == u || has_tag t ms) ≡ false → has_tag t ms ≡ false
off_plain u t ms off = off_if (has_tag t ms) (λ e. true_false (sym (on_right (t == u) (has_tag t ms) e) ∙ off))

end_plain : (root : Shapes) (d : ℕ) (g : Shapes) (u : ℕ) (r : Bool) (ms : Shapes) → IsEnd root d g (plain u r ms) → IsEnd root d g ms
end_plain root d g u r ms e = record {
  twice = e.twice.1;
  sub = λ w on. e.sub w (on_right (w == u) (has_tag w ms) on);
  level = λ w on. e.level w (on_right (w == u) (at_level w ms) on);
  not_lead = off_plain u (lead g) ms e.not_lead;
  known = e.known.1;
}

end_group : (root : Shapes) (d : ℕ) (g : Shapes) (c : ℕ) (r : Bool) (inner ms : Shapes) → IsEnd root d g (group c r inner ms) → IsEnd root d g ms
end_group root d g c r inner ms e = record {
  twice = e.twice.5;
  sub = λ w on. e.sub w (on_right (w == c) (has_tag w inner || has_tag w ms) (on_right (has_tag w inner) (has_tag w ms) on));
  level = λ w on. e.level w (on_right (w == c) (at_level w ms) on);
  not_lead = off_if (has_tag (lead g) ms) (λ k. true_false (sym (on_right (lead g == c) (has_tag (lead g) inner || has_tag (lead g) ms) (on_right (has_tag (lead g) inner) (has_tag (lead g) ms) k)) ∙ e.not_lead));
  known = e.known.1;
}

-- ---- the order, where more members are left

abbrev AnyOrder : Shapes → List Tagged → Type 0
AnyOrder g more = (left : Shapes) → in_order g left more ≡ true

wider_with : (g left ms : Shapes) (fs : List Tagged) (b l : Bool) (o : Option Shapes) → b ≡ false → (in_order g ms fs ≡ true → in_order g left fs ≡ true)
    → if_some (if b then Some (behind_lead g) else or_else o (if l then None else Some ms)) (λ x. in_order g x fs) ≡ true → if_some (if b then Some (behind_lead g) else or_else o (if l then None else Some left)) (λ x. in_order g x fs) ≡ true
wider_with g left ms fs true l o off ih h = absurd (true_false off)
wider_with g left ms fs false l (Some x) off ih h = h
wider_with g left ms fs false true None off ih h = h
wider_with g left ms fs false false None off ih h = ih h

wider : (g left ms : Shapes) (fs more : List Tagged) → ((u : ℕ) → has_tag u ms ≡ true → behind u left ≡ behind u ms) → has_tag (lead g) ms ≡ false → IsAllOf ms fs → AnyOrder g more → in_order g ms (fs ++ more) ≡ true → in_order g left (fs ++ more) ≡ true
wider g left ms [] more same off all any h = any left
wider g left ms (f ∷ fs) more same off all any h =
    subst (λ o. if_some (if f.tag == lead g then Some (behind_lead g) else or_else o (if at_level f.tag g then None else Some left)) (λ x. in_order g x (fs ++ more)) ≡ true) (sym (same f.tag all.0))
    (wider_with g left ms (fs ++ more) (f.tag == lead g) (at_level f.tag g) (behind f.tag ms) (differ f.tag (lead g) ms all.0 off) (wider g left ms fs more same off all.1 any) h)

-- a member that is next of those that are left
takes_next : (g left ms : Shapes) (f : Tagged) (fs : List Tagged) → (f.tag == lead g) ≡ false → behind f.tag left ≡ Some ms → in_order g ms fs ≡ true → in_order g left (f ∷ fs) ≡ true
takes_next g left ms f fs off next h = rw (off, next) h

-- ---- what instances, and the fields of one, come to

record InstanceFacts (root : Shapes) (d : ℕ) (g : Shapes) (run : List Tagged) (k : ℕ) : Type 0 where
  all : IsAllOf g run
  count : starts g run ≡ k
  begins : begins_well g run ≡ true
  ordered : AnyOrder g run
  counts : (b : List Tagged) → AreOut root g b → count_misfit root (run ++ b) ≡ count_misfit root b
  strays : (before b : List Tagged) → is_within root d false before ≡ true → outside_group root before (run ++ b) ≡ outside_group root (before ++ run) b

record StandFacts (root : Shapes) (d : ℕ) (g left : Shapes) (fs : List Tagged) : Type 0 where
  all : IsAllOf left fs
  ordered : (more : List Tagged) → AnyOrder g more → in_order g left (fs ++ more) ≡ true
  counts : (b : List Tagged) → AreOut root g b → count_misfit root (fs ++ b) ≡ count_misfit root b
  strays : (before b : List Tagged) → is_within root d false before ≡ true → outside_group root before (fs ++ b) ≡ outside_group root (before ++ fs) b

no_instance : (root : Shapes) (d : ℕ) (g : Shapes) → InstanceFacts root d g [] 0
no_instance root d g = record {
  all = tt;
  count = refl;
  begins = refl;
  ordered = λ left. refl;
  counts = λ b out. refl;
  strays = λ before b on. ap (λ l. outside_group root l b) (sym (append-nil before));
}

out_or : (root g : Shapes) (d : ℕ) (more b : List Tagged) → HasNoTwice root → group_at d root ≡ Some g → begins_well g more ≡ true → AreOut root g b → AreOut root g (more ++ b)
out_or root g d [] b twice at begins out = out
out_or root g d (f ∷ more) b twice at begins out = out_next root g d (f ∷ more ++ b) (apart root twice) at begins

owner_level : (root : Shapes) (d : ℕ) (g : Shapes) (t : ℕ) → HasNoTwice root → group_at d root ≡ Some g → at_level t g ≡ true → owner t root ≡ Some d
owner_level root d g t twice at on = (inside root d g twice at).owned t (level_tag t g on) ∙ ap (λ b. if b then Some d else owner t g) on

one_facts : (root : Shapes) (d t k : ℕ) (n : Option ℕ) (r : Bool) (ms : Shapes) (stretch more : List Tagged) → HasNoTwice root → group_at d root ≡ Some (plain t r ms) → StandFacts root d (plain t r ms) ms stretch → InstanceFacts root d (plain t r ms) more k
    → InstanceFacts root d (plain t r ms) (mark t n ∷ stretch ++ more) (k + 1)
one_facts root d t k n r ms stretch more twice at s i =
    let part = group_part root d (plain t r ms) twice at in
    let known : IsKnown root (plain t r ms) = known_part root (plain t r ms) part.twice part.found in
    let on : has_tag t (plain t r ms) ≡ true = on_left (t == t) (has_tag t ms) (same_here t) in
    let stretch_all : IsAllOf (plain t r ms) stretch = all_sub ms (plain t r ms) stretch (λ u e. on_right (u == t) (has_tag u ms) e) s.all in
    record {
      all = (on, all_append (plain t r ms) stretch more stretch_all i.all);
      count =
          let z : starts (plain t r ms) (stretch ++ more) ≡ k = starts-append (plain t r ms) stretch more ∙ omega (arith, no_starts (plain t r ms) ms stretch part.twice.0 s.all, i.count) in
          ap (λ b. if b then starts (plain t r ms) (stretch ++ more) + 1 else starts (plain t r ms) (stretch ++ more)) (same_here t) ∙ ap (λ x. x + 1) z;
      begins = same_here t;
      ordered = λ left. ap (λ b. if_some (if b then Some ms else or_else (behind t left) (if at_level t (plain t r ms) then None else Some left)) (λ x. in_order (plain t r ms) x (stretch ++ more))) (same_here t) ∙ s.ordered more i.ordered;
      counts = λ b out. no_count root ((stretch ++ more) ++ b) (mark t n) known.0 ∙ ap (count_misfit root) (append_assoc stretch more b) ∙ s.counts (more ++ b) (out_or root (plain t r ms) d more b twice at i.begins out) ∙ i.counts b out;
      strays = λ before b within.
          let here_ : is_within root d false (before ++ mark t n ∷ []) ≡ true = within_keep root (plain t r ms) d before (mark t n ∷ []) at (on, tt) within in
          let there : is_within root d false ((before ++ mark t n ∷ []) ++ stretch) ≡ true = within_keep root (plain t r ms) d (before ++ mark t n ∷ []) stretch at stretch_all here_ in
          let lists : ((before ++ mark t n ∷ []) ++ stretch) ++ more ≡ before ++ (mark t n ∷ (stretch ++ more)) = append_assoc (before ++ mark t n ∷ []) stretch more ∙ append_assoc before (mark t n ∷ []) (stretch ++ more) in
          no_stray root before ((stretch ++ more) ++ b) (mark t n) d (owner_level root d (plain t r ms) t twice at (on_left (t == t) (at_level t ms) (same_here t))) within
          ∙ ap (outside_group root (before ++ mark t n ∷ [])) (append_assoc stretch more b) ∙ s.strays (before ++ mark t n ∷ []) (more ++ b) here_ ∙ i.strays ((before ++ mark t n ∷ []) ++ stretch) b there ∙ ap (λ l. outside_group root l b) lists;
    }

end_facts : (root : Shapes) (d : ℕ) (g left : Shapes) → StandFacts root d g left []
end_facts root d g left = record {
  all = tt;
  ordered = λ more any. any left;
  counts = λ b out. refl;
  strays = λ before b on. ap (λ l. outside_group root l b) (sym (append-nil before));
}

pass_plain_facts : (root : Shapes) (d : ℕ) (g : Shapes) (t : ℕ) (r : Bool) (ms : Shapes) (fs : List Tagged) → IsEnd root d g (plain t r ms) → StandFacts root d g ms fs → StandFacts root d g (plain t r ms) fs
pass_plain_facts root d g t r ms fs e s = record {
  all = all_sub ms (plain t r ms) fs (λ u on. on_right (u == t) (has_tag u ms) on) s.all;
  ordered = λ more any. wider g (plain t r ms) ms fs more (λ u on. ap (λ b. if b then Some ms else behind u ms) (differ u t ms on e.twice.0)) (end_plain root d g t r ms e).not_lead s.all any (s.ordered more any);
  counts = s.counts;
  strays = s.strays;
}

pass_group_facts : (root : Shapes) (d : ℕ) (g : Shapes) (c : ℕ) (r : Bool) (inner ms : Shapes) (fs : List Tagged) → IsEnd root d g (group c r inner ms) → StandFacts root d g ms fs → StandFacts root d g (group c r inner ms) fs
pass_group_facts root d g c r inner ms fs e s = record {
  all = all_sub ms (group c r inner ms) fs (λ u on. on_right (u == c) (has_tag u inner || has_tag u ms) (on_right (has_tag u inner) (has_tag u ms) on)) s.all;
  ordered = λ more any. wider g (group c r inner ms) ms fs more (λ u on. ap (λ b. if b then Some ms else behind u ms) (differ u c ms on e.twice.1)) (end_group root d g c r inner ms e).not_lead s.all any (s.ordered more any);
  counts = s.counts;
  strays = s.strays;
}

takes_plain_facts : (root : Shapes) (d : ℕ) (g : Shapes) (t : ℕ) (n : Option ℕ) (r : Bool) (ms : Shapes) (fs : List Tagged) → HasNoTwice root → group_at d root ≡ Some g → IsEnd root d g (plain t r ms) → StandFacts root d g ms fs → StandFacts root d g (plain t r ms) (mark t n ∷ fs)
takes_plain_facts root d g t n r ms fs twice at e s =
    let on : has_tag t (plain t r ms) ≡ true = on_left (t == t) (has_tag t ms) (same_here t) in
    record {
      all = (on, all_sub ms (plain t r ms) fs (λ u k. on_right (u == t) (has_tag u ms) k) s.all);
      ordered = λ more any. takes_next g (plain t r ms) ms (mark t n) (fs ++ more) (differ t (lead g) (plain t r ms) on e.not_lead) (ap (λ b. if b then Some ms else behind t ms) (same_here t)) (s.ordered more any);
      counts = λ b out. no_count root (fs ++ b) (mark t n) e.known.0 ∙ s.counts b out;
      strays = λ before b within.
          no_stray root before (fs ++ b) (mark t n) d (owner_level root d g t twice at (e.level t (on_left (t == t) (at_level t ms) (same_here t)))) within
          ∙ s.strays (before ++ mark t n ∷ []) b (within_keep root g d before (mark t n ∷ []) at (e.sub t on, tt) within) ∙ ap (λ l. outside_group root l b) (append_assoc before (mark t n ∷ []) fs);
    }

out_after : (root g : Shapes) (c : ℕ) (r : Bool) (inner ms : Shapes) (fs b : List Tagged) → HasNoTwice (group c r inner ms) → has_tag c g ≡ true → group_at c root ≡ Some inner → IsAllOf ms fs → AreOut root g b → IsOut inner (fs ++ b)
out_after root g c r inner ms [] b twice on at all out = out.each c inner on at
out_after root g c r inner ms (f ∷ fs) b twice on at all out = off_inside f.tag inner ms twice.2 all.0

takes_group_facts : (root : Shapes) (d : ℕ) (g : Shapes) (c k : ℕ) (r : Bool) (inner ms : Shapes) (run fs : List Tagged) → HasNoTwice root → group_at d root ≡ Some g → at_level (lead g) g ≡ true → IsEnd root d g (group c r inner ms) → InstanceFacts root c inner run k → StandFacts root d g ms fs
    → StandFacts root d g (group c r inner ms) (mark c (Some k) ∷ run ++ fs)
takes_group_facts root d g c k r inner ms run fs twice at led e i s =
    let left : Shapes = group c r inner ms in
    let on : has_tag c (group c r inner ms) ≡ true = on_left (c == c) (has_tag c inner || has_tag c ms) (same_here c) in
    let run_all : IsAllOf (group c r inner ms) run = all_sub inner (group c r inner ms) run (λ u q. on_right (u == c) (has_tag u inner || has_tag u ms) (on_left (has_tag u inner) (has_tag u ms) q)) i.all in
    let fs_all : IsAllOf (group c r inner ms) fs = all_sub ms (group c r inner ms) fs (λ u q. on_right (u == c) (has_tag u inner || has_tag u ms) (on_right (has_tag u inner) (has_tag u ms) q)) s.all in
    let part = group_part root d g twice at in
    let own : group_at c g ≡ Some inner = sym (part.found c (e.sub c on)) ∙ e.known.0 in
    record {
      all = (on, all_append (group c r inner ms) run fs run_all fs_all);
      ordered = λ more any.
          let skip = order_skip g inner ms run (fs ++ more) led (λ u q. (inside g c inner part.twice own).off_level u q) (end_group root d g c r inner ms e).level i.all in
          takes_next g (group c r inner ms) ms (mark c (Some k)) ((run ++ fs) ++ more) (differ c (lead g) (group c r inner ms) on e.not_lead) (ap (λ b. if b then Some ms else behind c ms) (same_here c))
          (ap (in_order g ms) (append_assoc run fs more) ∙ skip ∙ s.ordered more any);
      counts = λ b out.
          let after : IsOut inner (fs ++ b) = out_after root g c r inner ms fs b e.twice (e.sub c on) e.known.0 s.all out in
          right_count root inner c k run ((run ++ fs) ++ b) e.known.0 (ap (run_of inner) (append_assoc run fs b) ∙ run_exact inner run (fs ++ b) i.all after) i.count i.begins (i.ordered inner)
          ∙ ap (count_misfit root) (append_assoc run fs b) ∙ i.counts (fs ++ b) (out_behind root inner c (fs ++ b) (apart root twice) e.known.0 after) ∙ s.counts b out;
      strays = λ before b within.
          let here_ : is_within root d false (before ++ mark c (Some k) ∷ []) ≡ true = within_keep root g d before (mark c (Some k) ∷ []) at (e.sub c on, tt) within in
          let there : is_within root d false ((before ++ mark c (Some k) ∷ []) ++ run) ≡ true = within_keep root g d (before ++ mark c (Some k) ∷ []) run at (all_sub (group c r inner ms) g run e.sub run_all) here_ in
          let lists : ((before ++ mark c (Some k) ∷ []) ++ run) ++ fs ≡ before ++ (mark c (Some k) ∷ (run ++ fs)) = append_assoc (before ++ mark c (Some k) ∷ []) run fs ∙ append_assoc before (mark c (Some k) ∷ []) (run ++ fs) in
          no_stray root before ((run ++ fs) ++ b) (mark c (Some k)) d (owner_level root d g c twice at (e.level c (on_left (c == c) (at_level c ms) (same_here c)))) within
          ∙ ap (outside_group root (before ++ mark c (Some k) ∷ [])) (append_assoc run fs b) ∙ i.strays (before ++ mark c (Some k) ∷ []) (fs ++ b) (within_begins root c (Some k) before) ∙ s.strays ((before ++ mark c (Some k) ∷ []) ++ run) b there ∙ ap (λ l. outside_group root l b) lists;
    }

-- ---- by cases

first_end : (root : Shapes) (d t : ℕ) (r : Bool) (ms : Shapes) → HasNoTwice root → group_at d root ≡ Some (plain t r ms) → IsEnd root d (plain t r ms) ms
first_end root d t r ms twice at =
    let part = group_part root d (plain t r ms) twice at in
    let known : IsKnown root (plain t r ms) = known_part root (plain t r ms) part.twice part.found in
    record { twice = part.twice.1; sub = λ u on. on_right (u == t) (has_tag u ms) on; level = λ u on. on_right (u == t) (at_level u ms) on; not_lead = part.twice.0; known = known.1 }

mutual
  instances_say : {g : Shapes} {run : List Tagged} {k : ℕ} → Instances g run k → (root : Shapes) (d : ℕ) → HasNoTwice root → group_at d root ≡ Some g → InstanceFacts root d g run k
  instances_say (none g) root d twice at = no_instance root d g
  instances_say (one t k n r ms stretch more s i) root d twice at =
      one_facts root d t k n r ms stretch more twice at (stands_say s root d (plain t r ms) twice at (on_left (t == t) (at_level t ms) (same_here t)) (first_end root d t r ms twice at)) (instances_say i root d twice at)

  stands_say : {left : Shapes} {fs : List Tagged} → Stands left fs → (root : Shapes) (d : ℕ) (g : Shapes) → HasNoTwice root → group_at d root ≡ Some g → at_level (lead g) g ≡ true → IsEnd root d g left → StandFacts root d g left fs
  stands_say (end left) root d g twice at led e = end_facts root d g left
  stands_say (pass_plain t r ms fs s) root d g twice at led e = pass_plain_facts root d g t r ms fs e (stands_say s root d g twice at led (end_plain root d g t r ms e))
  stands_say (pass_group c r inner ms fs s) root d g twice at led e = pass_group_facts root d g c r inner ms fs e (stands_say s root d g twice at led (end_group root d g c r inner ms e))
  stands_say (takes_plain t n r ms fs s) root d g twice at led e = takes_plain_facts root d g t n r ms fs twice at e (stands_say s root d g twice at led (end_plain root d g t r ms e))
  stands_say (takes_group c k r inner ms run fs i s) root d g twice at led e =
      takes_group_facts root d g c k r inner ms run fs twice at led e (instances_say i root c twice e.known.0) (stands_say s root d g twice at led (end_group root d g c r inner ms e))

-- ---- the whole list

-- a group of the layout itself is found, and is nobody's member
record IsTop (root : Shapes) (c : ℕ) (inner : Shapes) : Type 0 where
  at : group_at c root ≡ Some inner
  none_ : owner c root ≡ None

owner_here : (c : ℕ) (r : Bool) (inner g : Shapes) → HasNoTwice (group c r inner g) → owner c (group c r inner g) ≡ None
owner_here c r inner g twice =
    ap (λ b. if b then Some c else or_else (owner c inner) (owner c g)) (level_off c inner twice.0) ∙ ap (λ o. or_else o (owner c g)) (not_owned c inner twice.0) ∙ not_owned c g twice.1

has_top : {c : ℕ} {inner root : Shapes} → HasGroup c inner root → has_tag c root ≡ true
has_top {c} {inner} (here r g) = on_left (c == c) (has_tag c inner || has_tag c g) (same_here c)
has_top {c} {inner} (behind_plain t r g h) = on_right (c == t) (has_tag c g) (has_top h)
has_top {c} {inner} (behind_group d r other_ g h) = on_right (c == d) (has_tag c other_ || has_tag c g) (on_right (has_tag c other_) (has_tag c g) (has_top h))

top_is : {c : ℕ} {inner root : Shapes} → HasGroup c inner root → HasNoTwice root → IsTop root c inner
top_is {c} {inner} (here r g) twice = record {
  at = ap (λ b. if b then Some inner else or_else (group_at c inner) (group_at c g)) (same_here c);
  none_ = owner_here c r inner g twice;
}
top_is {c} {inner} (behind_plain t r g h) twice = let i = top_is h twice.1 in record { at = i.at; none_ = i.none_ }
top_is {c} {inner} (behind_group d r other_ g h) twice =
    let i = top_is h twice.5 in
    let on = has_top h in
    record { at = in_rest c d r other_ g twice on ∙ i.at; none_ = owner_rest c d r other_ g twice on ∙ i.none_ }

unowned_with : (root h : Shapes) (c u : ℕ) (l : Bool) → at_level u h ≡ l → HasNoTwice h → has_tag u h ≡ true → (if l then Some c else owner u h) ≡ None → ⊥
unowned_with root h c u true lv twice on none_ = none_some none_
unowned_with root h c u false lv twice on none_ = none_some (sym (deep_owned u h twice on lv).owned ∙ none_)

-- a tag that nobody owns is in no group
unowned_off : (root h : Shapes) (c u : ℕ) → HasNoTwice root → group_at c root ≡ Some h → owner u root ≡ None → has_tag u h ≡ false
unowned_off root h c u twice at none_ = let i = inside root c h twice at in off_if (has_tag u h) (λ on. unowned_with root h c u (at_level u h) refl i.twice on (sym (i.owned u on) ∙ none_))

whole_out : {root : Shapes} {fs : List Tagged} → IsWhole root fs → (c : ℕ) (h : Shapes) → HasNoTwice root → group_at c root ≡ Some h → IsOut h fs
whole_out over c h twice at = tt
whole_out {root} (other t n fs miss none_ w) c h twice at = unowned_off root h c t twice at none_
whole_out {root} (grouped d k inner run fs top i w) c h twice at = unowned_off root h c d twice at (top_is top twice).none_

whole_says : {root : Shapes} {fs : List Tagged} → IsWhole root fs → HasNoTwice root → (count_misfit root fs ≡ None) × ((before : List Tagged) → outside_group root before fs ≡ None)
whole_says over twice = (refl, λ before. refl)
whole_says {root} (other t n fs miss none_ w) twice =
    let ih = whole_says w twice in
    (no_count root fs (mark t n) miss ∙ ih.0, λ before. no_owner root before fs (mark t n) none_ ∙ ih.1 (before ++ mark t n ∷ []))
whole_says {root} (grouped c k inner run fs top i w) twice =
    let ih = whole_says w twice in
    let t = top_is top twice in
    let f = instances_say i root c twice t.at in (
      right_count root inner c k run (run ++ fs) t.at (run_exact inner run fs f.all (whole_out w c inner twice t.at)) f.count f.begins (f.ordered inner)
          ∙ f.counts fs (record { each = λ u h on at. whole_out w u h twice at }) ∙ ih.0,
      λ before. no_owner root before (run ++ fs) (mark c (Some k)) t.none_ ∙ f.strays (before ++ mark c (Some k) ∷ []) fs (within_begins root c (Some k) before) ∙ ih.1 ((before ++ mark c (Some k) ∷ []) ++ run),
    )

-- where each group is of its instances, and no member stands outside, nothing is wrong
pub whole_is_right : (root : Shapes) (fs : List Tagged) → HasNoTwice root → IsWhole root fs → first_misfit root fs ≡ None
whole_is_right root fs twice w = let s = whole_says w twice in ap (λ o. or_else o (outside_group root [] fs)) s.0 ∙ s.1 []
