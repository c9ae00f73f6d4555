-- The steps of building a tree.
use Rattle.std.proofs.Common.{◌≡◌, ℕ, ◌+◌, ◌*◌, ◌<◌, ◌≤◌, ◌==◌, Bool, true, false, length, ◌++◌, List, [], ◌∷◌, take, drop, get_or, append_assoc, append-nil, arith, refl, ap, sym, subst, ◌∙◌, Some, None, if◌then◌else◌, Vec, Global}
use Rattle.std.specs.Fmt.{decimal}
use Rattle.std.proofs.lemmas.List.{take-append-drop}
use Rattle.std.proofs.lemmas.Grind.{common_steps}
use Rattle.fix_base.specs.Fields.{Field}
use Rattle.fix_fields.specs.Shapes.{Shapes}
use Rattle.fix_fields.specs.NoTwice.{HasNoTwice}
use Rattle.fix_groups.specs.Tagged.{Tagged, tagged, all_tagged, count_in}
use Rattle.fix_groups.specs.Looked.{group_at}
use Rattle.fix_groups.specs.Runs.{run_of, starts, begins_well, lead}
use Rattle.fix_groups.specs.Misfits.{count_misfit, judged_at}
use Rattle.fix_groups.specs.Fits.{IsAllOf, IsPiece, Fits, FitItems, IsTreeOf, AreItemsOf}
use Rattle.fix_groups.specs.Nodes.{Nodes, items_count}
use Rattle.fix_groups.specs.NodesOf.{nodes_of, items_of}
use Rattle.fix_groups.specs.Flat.{flat, marks, mark, plainly, plain_value, plain_number}
use Rattle.fix_groups.specs.declared.tree.Node.{Node}
use Rattle.fix_groups.specs.declared.tree.Node.TheVariants.{Plain, Group}
use Rattle.fix_groups.proofs.Apart.{IsApart, apart, or_nones}
use Rattle.fix_groups.proofs.Slices.{tagged-append, tagged-length, tagged_taken}
use Rattle.fix_groups.proofs.FlatSteps.{items_count-items_of}
use Rattle.fix_groups.proofs.Fronts.{IsOut, fault_front, fault_back, all_front, all_back, run_all, run_ends, out_behind, out_next, IsRight, judged_none}

if_start : (b : Bool) (m n : ℕ) → (if b then m + n + 1 else m + n) ≡ (if b then m + 1 else m) + n
if_start true m n = omega arith
if_start false m n = refl

pub starts-append : (g : Shapes) (a b : List Tagged) → starts g (a ++ b) ≡ starts g a + starts g b
starts-append g [] b = omega arith
starts-append g (f ∷ a) b = ap (λ n. if f.tag == lead g then n + 1 else n) (starts-append g a b) ∙ if_start (f.tag == lead g) (starts g a) (starts g b)

begins_more : (g : Shapes) (a b : List Tagged) → 0 < length a → begins_well g a ≡ true → begins_well g (a ++ b) ≡ true
begins_more g [] b h e = absurd (omega (arith, h))
begins_more g (f ∷ a) b h e = e

off : (g : Shapes) (f : Tagged) → (f.tag ≡ lead g → ⊥) → starts g (f ∷ []) ≡ 0
off g f h = grind (arith, common_steps)

pub piece_more : (g : Shapes) (fs : List Field) (n : ℕ) (d : Field) → 0 < n → n < length fs → ((get_or fs n d).tag ≡ lead g → ⊥) → IsPiece g (all_tagged (take n fs)) → IsPiece g (all_tagged (take (n + 1) fs))
piece_more g fs n d some within not p =
    let e = tagged_taken fs n d within in
    let long : 0 < length (all_tagged (take n fs)) = grind (arith, common_steps, tagged-length (take n fs)) in
    record {
      begins = rw e (begins_more g (all_tagged (take n fs)) (tagged (get_or fs n d) ∷ []) long p.begins);
      once = rw e (omega (arith, starts-append g (all_tagged (take n fs)) (tagged (get_or fs n d) ∷ []), off g (tagged (get_or fs n d)) not, p.once));
    }

-- so far the nodes are those of the fields that were taken
pub record Builds (root : Shapes) (fs : List Field) (nodes : List Node) (left : List Field) : Type 0 where
  pub fits : Fits root (nodes_of nodes)
  pub marked : marks (nodes_of nodes) ++ all_tagged left ≡ all_tagged fs
  pub spelled : flat (nodes_of nodes) ++ plainly root left ≡ plainly root fs
  pub right : count_misfit root (all_tagged left) ≡ None

pub record BuildsItems (root g : Shapes) (fs : List Field) (items : List Nodes) (left : List Field) : Type 0 where
  pub fits : FitItems root g (items_of items)
  pub marked : marks (items_of items) ++ all_tagged left ≡ all_tagged fs
  pub spelled : flat (items_of items) ++ plainly root left ≡ plainly root fs
  pub right : count_misfit root (all_tagged left) ≡ None
  pub all : IsAllOf g (all_tagged left)
  pub begins : begins_well g (all_tagged left) ≡ true
  pub count : length items + starts g (all_tagged left) ≡ starts g (all_tagged fs)

plainly-append : (root : Shapes) (a b : List Field) → plainly root (a ++ b) ≡ plainly root a ++ plainly root b
plainly-append root [] b = refl
plainly-append root (f ∷ a) b = ap (λ l. record { tag = f.tag; value = plain_value (group_at f.tag root) f.value } ∷ l) (plainly-append root a b)

flat_more : (ns ms : List Node) → flat (nodes_of (ns ++ ms)) ≡ flat (nodes_of ns) ++ flat (nodes_of ms)
flat_more [] ms = refl
flat_more (Plain t v ∷ ns) ms = ap (λ l. record { tag = t; value = v } ∷ l) (flat_more ns ms)
flat_more (Group c is ∷ ns) ms =
    ap (λ l. record { tag = c; value = decimal (items_count (items_of is.items)) } ∷ flat (items_of is.items) ++ l) (flat_more ns ms)
    ∙ ap (λ l. record { tag = c; value = decimal (items_count (items_of is.items)) } ∷ l) (sym (append_assoc (flat (items_of is.items)) (flat (nodes_of ns)) (flat (nodes_of ms))))

marks_more : (ns ms : List Node) → marks (nodes_of (ns ++ ms)) ≡ marks (nodes_of ns) ++ marks (nodes_of ms)
marks_more [] ms = refl
marks_more (Plain t v ∷ ns) ms = ap (λ l. mark t (count_in v) ∷ l) (marks_more ns ms)
marks_more (Group c is ∷ ns) ms =
    ap (λ l. mark c (Some (items_count (items_of is.items))) ∷ marks (items_of is.items) ++ l) (marks_more ns ms)
    ∙ ap (λ l. mark c (Some (items_count (items_of is.items))) ∷ l) (sym (append_assoc (marks (items_of is.items)) (marks (nodes_of ns)) (marks (nodes_of ms))))

fits_more : (root : Shapes) (ns ms : List Node) → Fits root (nodes_of ns) → Fits root (nodes_of ms) → Fits root (nodes_of (ns ++ ms))
fits_more root [] ms a b = b
fits_more root (Plain t v ∷ ns) ms a b = (a.0, fits_more root ns ms a.1 b)
fits_more root (Group c is ∷ ns) ms a b = (a.0, a.1, a.2, fits_more root ns ms a.3 b)

flat_items_more : (is js : List Nodes) → flat (items_of (is ++ js)) ≡ flat (items_of is) ++ flat (items_of js)
flat_items_more [] js = refl
flat_items_more (t ∷ is) js = ap (λ l. flat t ++ l) (flat_items_more is js) ∙ sym (append_assoc (flat t) (flat (items_of is)) (flat (items_of js)))

marks_items_more : (is js : List Nodes) → marks (items_of (is ++ js)) ≡ marks (items_of is) ++ marks (items_of js)
marks_items_more [] js = refl
marks_items_more (t ∷ is) js = ap (λ l. marks t ++ l) (marks_items_more is js) ∙ sym (append_assoc (marks t) (marks (items_of is)) (marks (items_of js)))

items_more : (root g : Shapes) (is js : List Nodes) → FitItems root g (items_of is) → FitItems root g (items_of js) → FitItems root g (items_of (is ++ js))
items_more root g [] js a b = b
items_more root g (t ∷ is) js a b = (a.0, a.1, items_more root g is js a.2 b)

pub builds_plain : (root : Shapes) (fs : List Field) (nodes : List Node) (f : Field) (behind : List Field) → group_at f.tag root ≡ None → Builds root fs nodes (f ∷ behind) → Builds root fs (nodes ++ Plain f.tag f.value ∷ []) behind
builds_plain root fs nodes f behind at b = record {
  fits = fits_more root nodes (Plain f.tag f.value ∷ []) b.fits (at, tt);
  marked = rw (marks_more nodes (Plain f.tag f.value ∷ [])) (append_assoc (marks (nodes_of nodes)) (tagged f ∷ []) (all_tagged behind) ∙ b.marked);
  spelled =
      let e : plainly root (f ∷ behind) ≡ f ∷ plainly root behind = ap (λ o. record { tag = f.tag; value = plain_value o f.value } ∷ plainly root behind) at in
      rw (flat_more nodes (Plain f.tag f.value ∷ [])) (append_assoc (flat (nodes_of nodes)) (f ∷ []) (plainly root behind) ∙ ap (λ l. flat (nodes_of nodes) ++ l) (sym e) ∙ b.spelled);
  right = fault_back root (tagged f ∷ []) (all_tagged behind) b.right;
}

-- what a count's own field says where it has no fault
pub right_of : (root g : Shapes) (f : Tagged) (behind : List Tagged) → group_at f.tag root ≡ Some g → count_misfit root (f ∷ behind) ≡ None → IsRight f.count g (run_of g behind)
right_of root g f behind at h = judged_none f.tag f.count g (run_of g behind) (subst (λ o. judged_at f behind o ≡ None) at ((or_nones _ _ h).0))

pub record IsRun (g : Shapes) (behind run rest : List Field) : Type 0 where
  pub is : all_tagged run ≡ run_of g (all_tagged behind)
  pub whole : run ++ rest ≡ behind

run_parts : (g : Shapes) (behind run rest : List Field) → IsRun g behind run rest → all_tagged run ++ all_tagged rest ≡ all_tagged behind
run_parts g behind run rest r = sym (tagged-append run rest) ∙ ap all_tagged r.whole

run_out : (g : Shapes) (behind run rest : List Field) → IsRun g behind run rest → IsOut g (all_tagged rest)
run_out g behind run rest r = run_ends g (all_tagged run) (all_tagged rest) (ap (run_of g) (run_parts g behind run rest r) ∙ sym r.is)

pub run_right : (root g : Shapes) (f : Tagged) (behind run rest : List Field) → IsApart root → group_at f.tag root ≡ Some g → count_misfit root (f ∷ all_tagged behind) ≡ None → IsRun g behind run rest → count_misfit root (all_tagged run) ≡ None
run_right root g f behind run rest far at h r =
    fault_front root g (all_tagged run) (all_tagged rest) (subst (IsAllOf g) (sym r.is) (run_all g (all_tagged behind))) (out_behind root g f.tag (all_tagged rest) far at (run_out g behind run rest r))
    (subst (λ l. count_misfit root l ≡ None) (sym (run_parts g behind run rest r)) (fault_back root (f ∷ []) (all_tagged behind) h))

pub builds_group : (root g : Shapes) (fs : List Field) (nodes : List Node) (f : Field) (behind run rest : List Field) (items : Vec Nodes Global) → group_at f.tag root ≡ Some g → IsRun g behind run rest
    → AreItemsOf root g run (items_of items.items) → length items.items ≡ starts g (all_tagged run)
    → Builds root fs nodes (f ∷ behind) → Builds root fs (nodes ++ Group f.tag items ∷ []) rest
builds_group root g fs nodes f behind run rest items at ran are long b =
    let r = right_of root g (tagged f) (all_tagged behind) at b.right in
    let n : items_count (items_of items.items) ≡ r.number = items_count-items_of items.items ∙ long ∙ ap (starts g) ran.is ∙ r.count in
    let own : marks (nodes_of (Group f.tag items ∷ [])) ≡ tagged f ∷ all_tagged run =
    ap (λ k. mark f.tag (Some k) ∷ marks (items_of items.items) ++ []) n ∙ ap (λ o. mark f.tag o ∷ marks (items_of items.items) ++ []) (sym r.is)
    ∙ ap (λ l. tagged f ∷ l) (append-nil (marks (items_of items.items)) ∙ are.marked) in
    let value : plain_value (group_at f.tag root) f.value ≡ decimal r.number = ap (λ o. plain_value o f.value) at ∙ ap (λ o. plain_number o f.value) r.is in
    let text : flat (nodes_of (Group f.tag items ∷ [])) ≡ plainly root (f ∷ run) =
    ap (λ k. record { tag = f.tag; value = decimal k } ∷ flat (items_of items.items) ++ []) n ∙ ap (λ v. record { tag = f.tag; value = v } ∷ flat (items_of items.items) ++ []) (sym value)
    ∙ ap (λ l. record { tag = f.tag; value = plain_value (group_at f.tag root) f.value } ∷ l) (append-nil (flat (items_of items.items)) ∙ are.spelled) in
    let parts : plainly root run ++ plainly root rest ≡ plainly root behind = sym (plainly-append root run rest) ∙ ap (plainly root) ran.whole in
    record {
      fits = fits_more root nodes (Group f.tag items ∷ []) b.fits (g, at, are.fits, tt);
      marked = rw (marks_more nodes (Group f.tag items ∷ []), own) (append_assoc (marks (nodes_of nodes)) (tagged f ∷ all_tagged run) (all_tagged rest) ∙ ap (λ l. marks (nodes_of nodes) ++ tagged f ∷ l) (run_parts g behind run rest ran) ∙ b.marked);
      spelled = rw (flat_more nodes (Group f.tag items ∷ []), text) (append_assoc (flat (nodes_of nodes)) (plainly root (f ∷ run)) (plainly root rest) ∙ ap (λ l. flat (nodes_of nodes) ++ record { tag = f.tag; value = plain_value (group_at f.tag root) f.value } ∷ l) parts ∙ b.spelled);
      right = fault_back root (all_tagged run) (all_tagged rest) (subst (λ l. count_misfit root l ≡ None) (sym (run_parts g behind run rest ran)) (fault_back root (tagged f ∷ []) (all_tagged behind) b.right));
    }

-- ---- one more instance

tagged_parts : (n : ℕ) (left : List Field) → all_tagged (take n left) ++ all_tagged (drop n left) ≡ all_tagged left
tagged_parts n left = sym (tagged-append (take n left) (drop n left)) ∙ ap all_tagged (take-append-drop n left)

pub piece_right : (root g : Shapes) (c n : ℕ) (fs : List Field) (items : List Nodes) (left piece : List Field) → HasNoTwice root → group_at c root ≡ Some g → piece ≡ take n left → begins_well g (all_tagged (drop n left)) ≡ true
    → BuildsItems root g fs items left → count_misfit root (all_tagged piece) ≡ None
piece_right root g c n fs items left piece twice at is next b =
    rw is (fault_front root g (all_tagged (take n left)) (all_tagged (drop n left)) (all_front g (all_tagged (take n left)) (all_tagged (drop n left)) (rw (tagged_parts n left) b.all)) (out_next root g c _ (apart root twice) at next) (rw (tagged_parts n left) b.right))

pub take_item : (root g : Shapes) (n : ℕ) (fs : List Field) (items new : List Nodes) (left piece rest : List Field) (tree : Nodes) → IsPiece g (all_tagged (take n left)) → begins_well g (all_tagged (drop n left)) ≡ true
    → piece ≡ take n left → IsTreeOf root piece tree → new ≡ items ++ tree ∷ [] → rest ≡ drop n left → BuildsItems root g fs items left → BuildsItems root g fs new rest
take_item root g n fs items new left piece rest tree good next cut tree_is grown went b =
    let is : IsTreeOf root ((take n left)) tree = subst (λ p. IsTreeOf root p tree) cut tree_is in
    let marked : marks tree ≡ all_tagged (take n left) = is.marked in
    let parts = tagged_parts n left in
    let texts : plainly root ((take n left)) ++ plainly root ((drop n left)) ≡ plainly root left =
    sym (plainly-append root ((take n left)) ((drop n left))) ∙ ap (plainly root) (take-append-drop n left) in
    rw (grown, went) (record {
      fits = items_more root g items (tree ∷ []) b.fits (subst (IsPiece g) (sym marked) good, is.fits, tt);
      marked = rw (marks_items_more items (tree ∷ []), append-nil (marks tree), marked) (append_assoc (marks (items_of items)) (all_tagged (take n left)) (all_tagged (drop n left)) ∙ ap (λ l. marks (items_of items) ++ l) parts ∙ b.marked);
      spelled = rw (flat_items_more items (tree ∷ []), append-nil (flat tree), is.spelled) (append_assoc (flat (items_of items)) (plainly root ((take n left))) (plainly root ((drop n left))) ∙ ap (λ l. flat (items_of items) ++ l) texts ∙ b.spelled);
      right = fault_back root (all_tagged (take n left)) (all_tagged (drop n left)) (rw parts b.right);
      all = all_back g (all_tagged (take n left)) (all_tagged (drop n left)) (rw parts b.all);
      begins = next;
      count =
          let e : starts g (all_tagged left) ≡ starts g (all_tagged (take n left)) + starts g (all_tagged (drop n left)) = ap (starts g) (sym parts) ∙ starts-append g (all_tagged (take n left)) (all_tagged (drop n left)) in
          let m : length (items ++ tree ∷ []) ≡ length items + 1 = grind (arith, common_steps) in
          omega (arith, e, m, good.once, b.count);
    })

-- ---- one more node

pub cons_of : (left : List Field) (f : Field) → 0 < length left → f ≡ get_or left 0 f → left ≡ f ∷ drop 1 left
cons_of [] f h is = absurd (omega (arith, h))
cons_of (g ∷ fs) f h is = ap (λ x. x ∷ fs) (sym is)

taken : (root : Shapes) (fs : List Field) (nodes : List Node) (left behind : List Field) (f : Field) → 0 < length left → f ≡ get_or left 0 f → behind ≡ drop 1 left → Builds root fs nodes left → Builds root fs nodes (f ∷ behind)
taken root fs nodes left behind f some here is b = subst (Builds root fs nodes) (cons_of left f some here ∙ ap (λ l. f ∷ l) (sym is)) b

pub take_plain : (root : Shapes) (fs : List Field) (nodes new : List Node) (left behind : List Field) (f : Field) (t : ℕ) (value : List ℕ) → 0 < length left → f ≡ get_or left 0 f → behind ≡ drop 1 left → t ≡ f.tag → group_at t root ≡ None
    → value ≡ f.value → new ≡ nodes ++ Plain t value ∷ [] → Builds root fs nodes left → Builds root fs new behind
take_plain root fs nodes new left behind f t value some here is tag at same grown b =
    rw (grown, same, tag) (builds_plain root fs nodes f behind (ap (λ x. group_at x root) (sym tag) ∙ at) (taken root fs nodes left behind f some here is b))

pub run_is : (g : Shapes) (behind run rest : List Field) (n : ℕ) → all_tagged (take n behind) ≡ run_of g (all_tagged behind) → run ≡ take n behind → rest ≡ drop n behind → IsRun g behind run rest
run_is g behind run rest n is cut went = record { is = ap all_tagged cut ∙ is; whole = rw (cut, went) (take-append-drop n behind) }

pub run_needs : (root g : Shapes) (fs : List Field) (nodes : List Node) (left behind run : List Field) (f : Field) (t n : ℕ) → HasNoTwice root → 0 < length left → f ≡ get_or left 0 f → behind ≡ drop 1 left → t ≡ f.tag → group_at t root ≡ Some g
    → all_tagged (take n behind) ≡ run_of g (all_tagged behind) → run ≡ take n behind → Builds root fs nodes left → IsAllOf g (all_tagged run) × (begins_well g (all_tagged run) ≡ true) × (count_misfit root (all_tagged run) ≡ None)
run_needs root g fs nodes left behind run f t n twice some here is tag at ran cut b =
    let r : IsRun g behind run (drop n behind) = run_is g behind run (drop n behind) n ran cut refl in
    let own : group_at f.tag root ≡ Some g = ap (λ x. group_at x root) (sym tag) ∙ at in
    let h : count_misfit root (tagged f ∷ all_tagged behind) ≡ None = (taken root fs nodes left behind f some here is b).right in
    (subst (IsAllOf g) (sym r.is) (run_all g (all_tagged behind)), subst (λ l. begins_well g l ≡ true) (sym r.is) ((right_of root g (tagged f) (all_tagged behind) own h).begins), run_right root g (tagged f) behind run (drop n behind) (apart root twice) own h r)

pub run_falls : (root : Shapes) (fs : List Field) (nodes : List Node) (left behind run : List Field) (n : ℕ) → 0 < length left → behind ≡ drop 1 left → run ≡ take n behind → length left ≤ length fs → 2 * length run + 1 < 2 * length fs
run_falls root fs nodes left behind run n some is cut shorter =
    let a : length run ≤ length behind = grind (arith, common_steps, cut) in
    let b : length behind < length left = grind (arith, common_steps, is) in
    omega (arith, a, b, shorter)

pub left_shorter : (root : Shapes) (fs : List Field) (nodes : List Node) (left : List Field) → Builds root fs nodes left → length left ≤ length fs
left_shorter root fs nodes left b = let e : length (marks (nodes_of nodes) ++ all_tagged left) ≡ length (all_tagged fs) = ap length b.marked in grind (arith, common_steps, e, tagged-length left, tagged-length fs)

pub items_shorter : (root g : Shapes) (fs : List Field) (items : List Nodes) (left : List Field) → BuildsItems root g fs items left → length left ≤ length fs
items_shorter root g fs items left b = let e : length (marks (items_of items) ++ all_tagged left) ≡ length (all_tagged fs) = ap length b.marked in grind (arith, common_steps, e, tagged-length left, tagged-length fs)

pub take_group : (root g : Shapes) (fs : List Field) (nodes new : List Node) (left behind run rest : List Field) (items : Vec Nodes Global) (f : Field) (t n : ℕ) → 0 < length left → f ≡ get_or left 0 f → behind ≡ drop 1 left → t ≡ f.tag → group_at t root ≡ Some g
    → all_tagged (take n behind) ≡ run_of g (all_tagged behind) → run ≡ take n behind
    → AreItemsOf root g run (items_of items.items) → length items.items ≡ starts g (all_tagged run) → new ≡ nodes ++ Group t items ∷ [] → rest ≡ drop n behind
    → Builds root fs nodes left → Builds root fs new rest
take_group root g fs nodes new left behind run rest items f t n some here is tag at ran cut are long grown went b =
    rw (grown, tag) (builds_group root g fs nodes f behind run rest items (ap (λ x. group_at x root) (sym tag) ∙ at) (run_is g behind run rest n ran cut went) are long (taken root fs nodes left behind f some here is b))

-- before the first field is taken, and behind the last
pub builds_none : (root : Shapes) (fs : List Field) → count_misfit root (all_tagged fs) ≡ None → Builds root fs [] fs
builds_none root fs h = record { fits = tt; marked = refl; spelled = refl; right = h }

pub builds_all : (root : Shapes) (fs : List Field) (nodes : List Node) (left : List Field) → left ≡ [] → Builds root fs nodes left → IsTreeOf root fs (nodes_of nodes)
builds_all root fs nodes left none b =
    let c : Builds root fs nodes [] = subst (Builds root fs nodes) none b in
    record { fits = c.fits; marked = sym (append-nil (marks (nodes_of nodes))) ∙ c.marked; spelled = sym (append-nil (flat (nodes_of nodes))) ∙ c.spelled }

pub items_none : (root g : Shapes) (fs : List Field) → IsAllOf g (all_tagged fs) → begins_well g (all_tagged fs) ≡ true → count_misfit root (all_tagged fs) ≡ None → BuildsItems root g fs [] fs
items_none root g fs all begins h = record { fits = tt; marked = refl; spelled = refl; right = h; all = all; begins = begins; count = omega arith }

pub items_all : (root g : Shapes) (fs : List Field) (items : List Nodes) (left : List Field) → left ≡ [] → BuildsItems root g fs items left → AreItemsOf root g fs (items_of items)
items_all root g fs items left none b =
    let c : BuildsItems root g fs items [] = subst (BuildsItems root g fs items) none b in
    record { fits = c.fits; marked = sym (append-nil (marks (items_of items))) ∙ c.marked; spelled = sym (append-nil (flat (items_of items))) ∙ c.spelled }

pub items_number : (root g : Shapes) (fs : List Field) (items : List Nodes) (left : List Field) → left ≡ [] → BuildsItems root g fs items left → length items ≡ starts g (all_tagged fs)
items_number root g fs items left none b =
    let c : BuildsItems root g fs items [] = subst (BuildsItems root g fs items) none b in
    omega (arith, c.count)
