-- Each move of a pass keeps the order.
use Rattle.std.proofs.Common.{◌≡◌, ◌≢◌, ◌⊎◌, ℕ, zero, suc, ◌+◌, ◌<◌, ◌≤◌, ◌==◌, List, [], ◌∷◌, ◌++◌, length, set, Bool, true, false, true≢false, refl, sym, ap, ◌∙◌, subst, ⊎_elim, inl, inr, arith, append_assoc, eq-eqb, ne_eqb, cond}
use Rattle.std.specs.Prelude.{All, filter}
use mathlib.Core.Option.{Option, none, some, some-ne-none, some-injective}
use mathlib.Core.Logic.{dite}
use native.Mathlib.Decide.{ℕ_discrete}
use lib.ListN.{get_elem?}
use Rattle.std.proofs.lemmas.List.{append-nil}
use Rattle.std.proofs.lemmas.List.Elements.{filter-append, All-weaker, All-cons, All-nil}
use Rattle.crossbeam_queue.specs.Fifo.{Pushes, Pops, Forks, Merges, Learns}
use Rattle.crossbeam_queue.proofs.Lists.{at_set}
use Rattle.fix_outbox.specs.declared.queue.Item.{Item}
use Rattle.fix_outbox.specs.declared.queue.Ended.{Ended}
use Rattle.fix_outbox.specs.declared.queue.Part.{Part}
use Rattle.std.specs.List.{AllByRecursion}
use Rattle.std.proofs.lemmas.List.{length-append}
use Rattle.std.proofs.lemmas.List.Elements.{recursion_from_All}
use Rattle.fix_outbox.specs.Queue.{of, ended, taker, sender, spent, with_list, count_posted, numbers, AreApart, items_of, senders_of, total, Rests, Fits, InOrder, Appended, Took, CanContain}
use Rattle.fix_outbox.proofs.TotalLemmas.{total_set, total_append_one, all_of_one, items_of_taker, senders_of_taker, items_of_sender, senders_of_sender, idle_holds_nothing}

off : {A : Type 0} → false ≡ true → A
off e = absurd (true≢false (sym e))

-- an item joins those of its sender, and no others
of_own : (i : ℕ) (xs : List Item) (x : Item) → x.sender ≡ i → of i (xs ++ x ∷ []) ≡ of i xs ++ x ∷ []
of_own i xs x e = filter-append (λ y. y.sender == i) xs (x ∷ []) ∙ ap (λ b. of i xs ++ cond b (x ∷ []) []) (eq-eqb x.sender i e)

of_other : (i : ℕ) (xs : List Item) (x : Item) → x.sender ≢ i → of i (xs ++ x ∷ []) ≡ of i xs
of_other i xs x e = filter-append (λ y. y.sender == i) xs (x ∷ []) ∙ ap (λ b. of i xs ++ cond b (x ∷ []) []) (ne_eqb x.sender i e) ∙ append-nil (of i xs)

pub of_both : (i : ℕ) (xs ys : List Item) → of i (xs ++ ys) ≡ of i xs ++ of i ys
of_both i xs ys = filter-append (λ y. y.sender == i) xs ys

abbrev Each : (ℕ → Part → Type 0) → List Part → Type 0
Each F views = (pass : ℕ) (v : Part) → get_elem? views pass ≡ some v → F pass v

each_set : (F : ℕ → Part → Type 0) (views : List Part) (pass : ℕ) (w : Part) → F pass w → ((j : ℕ) (u : Part) → j ≢ pass → get_elem? views j ≡ some u → F j u) → Each F (set views pass w)
each_set F views pass w mine others j u e =
    ⊎_elim
    (λ (x : (j ≡ pass) × (w ≡ u)). subst (λ (y : ℕ × Part). F y.0 y.1) (λ i. (sym x.0 i, x.1 i)) mine)
    (λ (x : (j ≢ pass) × (get_elem? views j ≡ some u)). others j u x.0 x.1)
    (at_set views pass j w u e)

-- a view in a longer list is one of the former, or the new one, at the end
at_longer_by : (l : List Part) (a b : Part) (j : ℕ) → get_elem? (l ++ a ∷ []) j ≡ some b → (get_elem? l j ≡ some b) ⊎ ((j ≡ length l) × (a ≡ b))
at_longer_by [] a b zero e = inr (refl, some-injective a b e)
at_longer_by [] a b (suc j) e = absurd (some-ne-none b (sym e))
at_longer_by (x ∷ xs) a b zero e = inl e
at_longer_by (x ∷ xs) a b (suc j) e = ⊎_elim (λ t. inl t) (λ (t : (j ≡ length xs) × (a ≡ b)). inr (ap suc t.0, t.1)) (at_longer_by xs a b j e)

pub begins : InOrder [] (taker 0 [] [] ∷ [])
begins = (0, 0, (λ _. none), [], [], refl, refl, refl, one)
  where
    one : (pass : ℕ) (v : Part) → get_elem? (taker 0 [] [] ∷ []) pass ≡ some v → Fits 0 0 (λ _. none) [] [] pass v
    one zero v e = subst (Fits 0 0 (λ _. none) [] [] 0) (some-injective _ _ e) ((λ _. (refl, refl, refl, (λ i _. (refl, refl)), tt, All-nil _)), (λ s. off s))
    one (suc pass) v e = absurd (some-ne-none v (sym e))

-- the sums of the views' counts, before and after a step
counts_one_more : (v vl w sum sum' all all' : ℕ) → v ≡ vl → w ≡ vl + 1 → v + sum' ≡ w + sum → sum ≡ all → all' ≡ all + 1 → sum' ≡ all'
counts_one_more v vl w sum sum' all all' a b c d e = omega arith

counts_same : (v sum sum' all : ℕ) → v + sum' ≡ v + sum → sum ≡ all → sum' ≡ all
counts_same v sum sum' all a b = omega arith

counts_alike : (v w sum sum' all : ℕ) → w ≡ v → v + sum' ≡ w + sum → sum ≡ all → sum' ≡ all
counts_alike v w sum sum' all a b c = omega arith

counts_joined : (r v sum sum' sum'' all : ℕ) → v ≡ 0 → v + sum' ≡ 0 + sum → sum'' ≡ sum' + r → sum ≡ all → sum'' ≡ all + r
counts_joined r v sum sum' sum'' all a b c d = omega arith

one_first : (n : ℕ) → suc n ≡ 1 + n
one_first n = omega arith

plus_nought : (n : ℕ) → n + 0 ≡ n
plus_nought n = omega arith

counts_merged : (v vk u uk w sum sum' sum'' all : ℕ) → v ≡ vk → u ≡ uk → w ≡ uk + vk → v + sum' ≡ w + sum → u + sum'' ≡ 0 + sum' → sum ≡ all → sum'' ≡ all
counts_merged v vk u uk w sum sum' sum'' all a b c d e f = omega arith

at_most_all : (longer list got items all posted : ℕ) → longer ≡ list + 1 → list ≡ got → all ≡ got + suc items → all ≡ posted → longer ≤ posted
at_most_all longer list got items all posted a b c d = omega arith

-- a number at rest is not that of a pass that sends
at_rest : (seat : ℕ → Option ℕ) (i k pass : ℕ) → seat i ≡ none → seat k ≡ some pass → k ≢ i
at_rest seat i k pass none_there there e = some-ne-none pass (sym there ∙ ap seat e ∙ none_there)

rests_on : (seat : ℕ → Option ℕ) (all : List Item) (x : Item) (k pass i : ℕ) (list : List Item) → x.sender ≡ k → seat k ≡ some pass → Rests seat all i list → Rests seat (all ++ x ∷ []) i list
rests_on seat all x k pass i list from there r = (r.0, r.1 ∙ sym (of_other i all x (λ e. at_rest seat i k pass r.0 there (sym from ∙ e))))

-- a number that no pass sends under isn't that of one that does
apart_from : (seat : ℕ → Option ℕ) (all : List Item) (k pass : ℕ) → seat k ≡ some pass → (es : List Ended) → AllByRecursion (λ (e : Ended). Rests seat all e.number e.posted) es → AllByRecursion (λ m. m ≡ k → ⊥) (numbers es)
apart_from seat all k pass there [] rests = tt
apart_from seat all k pass there (e ∷ es) rests = ((λ same. at_rest seat e.number k pass rests.0.0 there (sym same)), apart_from seat all k pass there es rests.1)

one_more : (xs : List Item) (x : Item) → length (xs ++ x ∷ []) ≡ length xs + 1
one_more xs x = length-append xs (x ∷ [])

-- where the taker has taken in all senders, their items are all that were pushed
pub all_counted : (views : List Part) (pass : ℕ) (v : Part) (all : List Item) (made : ℕ) → get_elem? views pass ≡ some v → v.takes ≡ true → total items_of views ≡ length all → total senders_of views ≡ made → v.number ≡ made → length v.known ≡ v.number → length all ≡ count_posted v.known
all_counted views pass v all made at may items senders same every =
    sym items ∙ all_of_one senders_of items_of idle_holds_nothing views pass v at (senders ∙ sym same ∙ sym every ∙ sym (senders_of_taker v may)) ∙ items_of_taker v may

pub pushes : (n pass : ℕ) (v : Part) (x : Item) → v.sends ≡ true → v.takes ≡ false → x.sender ≡ v.number → Pushes InOrder n pass v x (Appended v x)
pushes n pass v x sends none_taken from items views room h at =
    let reader = h.0 in
    let made = h.1 in
    let seat = h.2 in
    let got = h.3 in
    let all = h.4 in
    let w = with_list v (v.list ++ x ∷ []) in
    let mine = (h.8 pass v at).1 sends in
    let was = items_of_sender v none_taken sends in
    let is = items_of_sender w none_taken sends ∙ one_more v.list x in
    let long = one_more all x in
    let items_moved = total_set items_of views pass v w at in
    let senders_moved = total_set senders_of views pass v w at in
    let items_before = h.6 in
    let senders_before = h.7 in (
      w,
      (
        reader,
        made,
        seat,
        got,
        all ++ x ∷ [],
        sym (append_assoc got items (x ∷ [])) ∙ ap (λ l. l ++ x ∷ []) h.5,
        counts_one_more (items_of v) (length v.list) (items_of w) (total items_of views) (total items_of (set views pass w)) (length all) (length (all ++ x ∷ [])) was is items_moved items_before long,
        counts_same (senders_of v) (total senders_of views) (total senders_of (set views pass w)) made senders_moved senders_before,
        each_set (Fits reader made seat got (all ++ x ∷ [])) views pass w
            ((λ t. off (sym none_taken ∙ t)), (λ _. (mine.0, ap (λ l. l ++ x ∷ []) mine.1 ∙ sym (of_own v.number all x from))))
            (λ j u apart e.
            let o = h.8 j u e in (
              (λ t. let k = o.0 t in (k.0, k.1, k.2, (λ i big. rests_on seat all x v.number pass i [] from mine.0 (k.3 i big)), k.4, All-weaker _ _ (λ y r. rests_on seat all x v.number pass y.number y.posted from mine.0 r) u.known k.5)),
              (λ s. let k = o.1 s in (k.0, k.1 ∙ sym (of_other u.number all x (λ same. apart (some-injective j pass (sym k.0 ∙ ap seat (sym same ∙ from) ∙ mine.0)))))),
            )),
      ),
      refl,
    )

pub takes : (pass : ℕ) (v : Part) → v.takes ≡ true → v.sends ≡ false → Pops InOrder pass v (Took v)
takes pass v may none_sent x items views h at =
    let reader = h.0 in
    let made = h.1 in
    let seat = h.2 in
    let got = h.3 in
    let all = h.4 in
    let w = with_list v (v.list ++ x ∷ []) in
    let mine = (h.8 pass v at).0 may in
    let same = items_of_taker w may ∙ sym (items_of_taker v may) in
    let items_moved = total_set items_of views pass v w at in
    let senders_moved = total_set senders_of views pass v w at in (
      w,
      (
        reader,
        made,
        seat,
        got ++ x ∷ [],
        all,
        append_assoc got (x ∷ []) items ∙ h.5,
        counts_alike (items_of v) (items_of w) (total items_of views) (total items_of (set views pass w)) (length all) same items_moved h.6,
        counts_same (senders_of v) (total senders_of views) (total senders_of (set views pass w)) made senders_moved h.7,
        each_set (Fits reader made seat (got ++ x ∷ []) all) views pass w
            ((λ _. (mine.0, mine.1, ap (λ l. l ++ x ∷ []) mine.2, mine.3, mine.4, mine.5)), (λ s. off (sym none_sent ∙ s)))
            (λ j u apart e. ((λ t. absurd (apart (((h.8 j u e).0 t).0 ∙ sym mine.0))), (h.8 j u e).1)),
      ),
      (
        refl,
        (λ every. at_most_all (length (v.list ++ x ∷ [])) (length v.list) (length got) (length items) (length all) (count_posted v.known)
            (one_more v.list x) (ap (λ (l : List Item). length l) mine.2) (sym (ap (λ (l : List Item). length l) h.5) ∙ length-append got (x ∷ items))
            (all_counted views pass v all made at may h.6 h.7 mine.1 every)),
      ),
    )

-- who sends under a number, once pass p sends under k
abbrev seat_at : (ℕ → Option ℕ) → ℕ → Option ℕ → ℕ → Option ℕ
seat_at seat k p i = cond (i == k) p (seat i)

seat_here : (seat : ℕ → Option ℕ) (k : ℕ) (p : Option ℕ) (i : ℕ) → i ≡ k → seat_at seat k p i ≡ p
seat_here seat k p i e = ap (λ b. cond b p (seat i)) (eq-eqb i k e)

seat_else : (seat : ℕ → Option ℕ) (k : ℕ) (p : Option ℕ) (i : ℕ) → i ≢ k → seat_at seat k p i ≡ seat i
seat_else seat k p i e = ap (λ b. cond b p (seat i)) (ne_eqb i k e)

pub forks : (pass : ℕ) (v : Part) → v.takes ≡ true → v.sends ≡ false → v.known ≡ [] → Forks InOrder pass v (taker (v.number + 1) v.list []) (sender (v.number + 1) [])
forks pass v may none_sent none_in items views h at =
    let reader = h.0 in
    let made = h.1 in
    let got = h.3 in
    let all = h.4 in
    let k = v.number + 1 in
    let l = taker k v.list [] in
    let r = sender k [] in
    let vs = set views pass l in
    let seat = seat_at h.2 k (some (length vs)) in
    let mine = (h.8 pass v at).0 may in
    let idle = mine.3 k (omega arith) in
    let old : Each (Fits reader (made + 1) seat got all) vs = each_set (Fits reader (made + 1) seat got all) views pass l
    ((λ _. (mine.0, ap (λ n. n + 1) mine.1, mine.2, (λ i big. let q = mine.3 i (omega arith) in (seat_else h.2 k (some (length vs)) i (λ e. omega arith) ∙ q.0, q.1)), tt, All-nil _)), (λ s. off s))
    (λ j u apart e. let o = h.8 j u e in ((λ t. absurd (apart ((o.0 t).0 ∙ sym mine.0))), (λ s. let q = o.1 s in (seat_else h.2 k (some (length vs)) u.number (at_rest h.2 k u.number j idle.0 q.0) ∙ q.0, q.1)))) in (
      reader,
      made + 1,
      seat,
      got,
      all,
      h.5,
      counts_joined 0 (items_of v) (total items_of views) (total items_of vs) (total items_of (vs ++ r ∷ [])) (length all) (items_of_taker v may ∙ ap count_posted none_in) (total_set items_of views pass v l at) (total_append_one items_of vs r) h.6 ∙ plus_nought (length all),
      counts_joined 1 (senders_of v) (total senders_of views) (total senders_of vs) (total senders_of (vs ++ r ∷ [])) made (senders_of_taker v may ∙ ap (λ (es : List Ended). length es) none_in) (total_set senders_of views pass v l at) (total_append_one senders_of vs r) h.7,
      (λ j u e. ⊎_elim
          (λ was. old j u was)
          (λ (new : (j ≡ length vs) × (r ≡ u)). subst (Fits reader (made + 1) seat got all j) new.1 ((λ t. off t), (λ _. (seat_here h.2 k (some (length vs)) k refl ∙ ap some (sym new.0), idle.1))))
          (at_longer_by vs r u j e)),
    )

rests_too : (seat : ℕ → Option ℕ) (k : ℕ) (all : List Item) (i : ℕ) (list : List Item) → Rests seat all i list → Rests (seat_at seat k none) all i list
rests_too seat k all i list r = (dite (ℕ_discrete i k) (λ e. seat_here seat k none i e) (λ e. seat_else seat k none i e ∙ r.0), r.1)

pub merges : (pass : ℕ) (v : Part) (other : ℕ) (u : Part) → v.takes ≡ true → u.takes ≡ false → u.sends ≡ true → Merges InOrder pass v other u (taker v.number v.list (ended u.number u.list ∷ v.known)) spent
merges pass v other u may none_taken sends items views h at apart there =
    let reader = h.0 in
    let made = h.1 in
    let got = h.3 in
    let all = h.4 in
    let w = taker v.number v.list (ended u.number u.list ∷ v.known) in
    let vs = set views pass w in
    let us = set vs other spent in
    let seat = seat_at h.2 u.number none in
    let mine = (h.8 pass v at).0 may in
    let was : get_elem? views other ≡ some u = ⊎_elim (λ x. absurd (apart x.0)) (λ x. x.1) (at_set views pass other w u there) in
    let theirs = (h.8 other u was).1 sends in
    let now : Each (λ j y. j ≢ other → Fits reader made seat got all j y) vs = each_set (λ j y. j ≢ other → Fits reader made seat got all j y) views pass w
    (λ _. (
      (λ _. (
        mine.0,
        mine.1,
        mine.2,
        (λ i big. rests_too h.2 u.number all i [] (mine.3 i big)),
        (apart_from h.2 all u.number other theirs.0 v.known (recursion_from_All (λ (e : Ended). Rests h.2 all e.number e.posted) v.known mine.5), mine.4),
        All-cons (λ (e : Ended). Rests seat all e.number e.posted) _ _ (seat_here h.2 u.number none u.number refl, theirs.1) (All-weaker _ _ (λ y r. rests_too h.2 u.number all y.number y.posted r) v.known mine.5),
      )),
      (λ s. off s),
    ))
    (λ j y else e away.
    let o = h.8 j y e in (
      (λ t. absurd (else ((o.0 t).0 ∙ sym mine.0))),
      (λ s. let q = o.1 s in (seat_else h.2 u.number none y.number (λ same. away (some-injective j other (sym q.0 ∙ ap h.2 same ∙ theirs.0))) ∙ q.0, q.1)),
    )) in (
      reader,
      made,
      seat,
      got,
      all,
      h.5,
      counts_merged (items_of v) (count_posted v.known) (items_of u) (length u.list) (items_of w) (total items_of views) (total items_of vs) (total items_of us) (length all) (items_of_taker v may) (items_of_sender u none_taken sends) refl (total_set items_of views pass v w at) (total_set items_of vs other u spent there) h.6,
      counts_merged (senders_of v) (length v.known) (senders_of u) 1 (senders_of w) (total senders_of views) (total senders_of vs) (total senders_of us) made (senders_of_taker v may) (senders_of_sender u none_taken sends) (one_first (length v.known)) (total_set senders_of views pass v w at) (total_set senders_of vs other u spent there) h.7,
      each_set (Fits reader made seat got all) vs other spent ((λ t. off t), (λ s. off s)) (λ j y away e. now j y e away),
    )

-- whatever the queue holds at a look, the outbox may hold it
pub learns : (pass : ℕ) (v : Part) → Learns InOrder pass v (CanContain v)
learns pass v items views h at = (pass, views, h, at)
