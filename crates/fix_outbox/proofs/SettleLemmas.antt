-- What `settle` answers.
use Rattle.std.proofs.Common.{◌≡◌, ◌≤◌, ◌+◌, ℕ, List, [], ◌∷◌, ◌++◌, map, length, true, refl, sym, ap, ◌∙◌, subst, arith}
use Rattle.std.specs.Prelude.{All}
use Rattle.std.specs.List.{AllByRecursion}
use Rattle.std.proofs.lemmas.List.{append-nil, length-append, length-map}
use Rattle.crossbeam_queue.specs.Fifo.{Held}
use Rattle.std.proofs.lemmas.List.Elements.{All-from_recursion, recursion_from_All, All-weaker, All-same, All-push}
use Rattle.fix_outbox.specs.declared.queue.Item.{Item}
use Rattle.fix_outbox.specs.declared.queue.Ended.{Ended}
use Rattle.fix_outbox.specs.declared.queue.Part.{Part}
use Rattle.fix_outbox.specs.declared.pass.SenderPass.{SenderPass}
use Rattle.fix_outbox.specs.Queue.{of, taker, with_list, total, count_posted, numbers, AreApart, Rests, CanContain}
use Rattle.fix_outbox.specs.Passes.{posted, found, ended_of, Settles, AreClean}
use Rattle.fix_outbox.specs.Merge.{Merge}
use Rattle.fix_outbox.specs.Closing.{Clean}
use Rattle.fix_outbox.proofs.OrderLemmas.{of_both, all_counted}
use Rattle.fix_outbox.proofs.MergeLemmas.{is_merge}

-- what the taker knows at a look: of each sender that it took in, all that it posted
abbrev Known : Part → List Item → Type 0
Known v items = AreApart (numbers v.known) × AllByRecursion (λ (e : Ended). e.posted ≡ of e.number (v.list ++ items)) v.known

known : (v : Part) (items : List Item) → v.takes ≡ true → CanContain v items → Known v items
known v items may m =
    let h = m.2 in
    let mine = (h.8 m.0 v m.3).0 may in
    let whole : h.4 ≡ v.list ++ items = sym h.5 ∙ ap (λ l. l ++ items) (sym mine.2) in (
      mine.4,
      recursion_from_All (λ (e : Ended). e.posted ≡ of e.number (v.list ++ items)) v.known (All-weaker (λ (e : Ended). Rests h.2 h.4 e.number e.posted) (λ (e : Ended). e.posted ≡ of e.number (v.list ++ items)) (λ e r. r.1 ∙ ap (of e.number) whole) v.known mine.5),
    )

-- where it took in all of them, what they posted is what it took and what the queue holds
pub counted : (v : Part) (items : List Item) → v.takes ≡ true → length v.known ≡ v.number → CanContain v items → length v.list + length items ≡ count_posted v.known
counted v items may every m =
    let h = m.2 in
    let mine = (h.8 m.0 v m.3).0 may in
    sym (length-append v.list items) ∙ ap (λ (l : List Item). length l) (ap (λ l. l ++ items) mine.2 ∙ h.5) ∙ all_counted m.1 m.0 v h.4 h.1 m.3 may h.6 h.7 mine.1 every

-- all senders are taken in
pub in_all : (v w : Part) (senders : List SenderPass) → w ≡ taker v.number v.list (map ended_of senders ++ v.known) → v.known ≡ [] → length senders ≡ v.number → length w.known ≡ w.number
in_all v w senders is none_in every =
    ap (λ (u : Part). length u.known) is ∙ ap (λ (es : List Ended). length (map ended_of senders ++ es)) none_in ∙ ap (λ (es : List Ended). length es) (append-nil (map ended_of senders)) ∙ length-map senders ended_of ∙ every ∙ sym (ap (λ (u : Part). u.number) is)

-- the room that has the queue's capacity is enough for what the queue holds
pub room_enough : (w : Part) (n cap room : ℕ) → w.takes ≡ true → length w.known ≡ w.number → n ≤ cap → Held n (CanContain w) → cap ≤ room → count_posted w.known ≤ length w.list + room
room_enough w n cap room may every few held more =
    let sum = counted w held.0 may every held.2 in
    let many = held.1 in
    omega arith

each_sender : (P : Ended → Type 0) (senders : List SenderPass) → AllByRecursion P (map ended_of senders) → AllByRecursion (λ p. P (ended_of p)) senders
each_sender P [] h = tt
each_sender P (x ∷ xs) h = (h.0, each_sender P xs h.1)

abbrev Whole : List Item → Ended → Type 0
Whole all e = e.posted ≡ of e.number all

lists_are : (all : List Item) (senders : List SenderPass) → AllByRecursion (Whole all) (map ended_of senders) → map posted senders ≡ map (λ i. of i all) (numbers (map ended_of senders))
lists_are all [] h = refl
lists_are all (p ∷ ps) h = ap (λ l. l ∷ map posted ps) h.0 ∙ ap (λ ls. of p.number all ∷ ls) (lists_are all ps h.1)

sizes_are : (all : List Item) (es : List Ended) → AllByRecursion (Whole all) es → total (λ i. length (of i all)) (numbers es) ≡ count_posted es
sizes_are all [] h = refl
sizes_are all (e ∷ es) h =
    let first = ap (λ (l : List Item). length l) h.0 in
    let more = sizes_are all es h.1 in
    omega arith

settled : (number : ℕ) (before rest : List Item) (senders : List SenderPass) → length senders ≡ number → CanContain (taker number (before ++ rest) (map ended_of senders)) [] → Settles before rest senders
settled number before rest senders every m =
    let es = map ended_of senders in
    let all = before ++ rest in
    let v = taker number all es in
    let told = known v [] refl m in
    let whole : AllByRecursion (Whole all) es = subst (λ (l : List Item). AllByRecursion (Whole l) es) (append-nil all) told.1 in
    let sum = counted v [] refl (length-map senders ended_of ∙ every) m in
    let sizes = sizes_are all es whole in (
      All-weaker (λ (p : SenderPass). Whole all (ended_of p)) (λ (p : SenderPass). posted p ≡ of p.number before ++ of p.number rest) (λ p r. r ∙ of_both p.number before rest) senders
          (All-from_recursion (λ (p : SenderPass). Whole all (ended_of p)) senders (each_sender (Whole all) senders whole)),
      subst (λ ls. Merge ls all) (sym (lists_are all senders whole)) (is_merge (numbers es) all told.0 (omega arith)),
    )

-- the taker as it is once it took in all senders and took what was left
all_in : (v w : Part) (senders : List SenderPass) (rest : List Item) → w ≡ taker v.number v.list (map ended_of senders ++ v.known) → v.known ≡ [] → with_list w (w.list ++ rest) ≡ taker v.number (v.list ++ rest) (map ended_of senders)
all_in v w senders rest is none_in = ap (λ (u : Part). with_list u (u.list ++ rest)) is ∙ ap (λ es. taker v.number (v.list ++ rest) (map ended_of senders ++ es)) none_in ∙ ap (λ es. taker v.number (v.list ++ rest) es) (append-nil (map ended_of senders))

pub settles : (v w : Part) (senders : List SenderPass) (rest : List Item) → w ≡ taker v.number v.list (map ended_of senders ++ v.known) → v.known ≡ [] → length senders ≡ v.number → CanContain (with_list w (w.list ++ rest)) [] → Settles v.list rest senders
settles v w senders rest is none_in every m = settled v.number v.list rest senders every (subst (λ (u : Part). CanContain u []) (all_in v w senders rest is none_in) m)

-- no more is left than the capacity
pub few_left : (w : Part) (rest : List Item) (n cap : ℕ) → w.takes ≡ true → length w.known ≡ w.number → n ≤ cap → Held n (CanContain w) → CanContain (with_list w (w.list ++ rest)) [] → length rest ≤ cap
few_left w rest n cap may every few held m =
    let sum = counted w held.0 may every held.2 in
    let end = counted (with_list w (w.list ++ rest)) [] may every m in
    let long = length-append w.list rest in
    let many = held.1 in
    omega arith

nil_of : (xs : List Item) → length xs ≡ 0 → xs ≡ []
nil_of [] e = refl
nil_of (x ∷ xs) e = absurd (omega arith)

-- a look at an empty queue
pub at_empty : (v w : Part) → v ≡ w → Held 0 (CanContain v) → CanContain w []
at_empty v w same held = subst (λ (u : Part). CanContain u []) same (subst (λ (l : List Item). CanContain v l) (nil_of held.0 held.1) held.2)

parts : (P : ℕ → Type 0) (xs ys : List ℕ) → AllByRecursion P (xs ++ ys) → AllByRecursion P xs × AllByRecursion P ys
parts P [] ys h = (tt, h)
parts P (x ∷ xs) ys h = let r = parts P xs ys h.1 in ((h.0, r.0), r.1)

-- the last sender's loads, taken in
pub cleaned : (now old : List ℕ) (less more first : List SenderPass) (p : SenderPass) → now ≡ found p ++ old → more ≡ less ++ p ∷ [] → (Clean old → AreClean more → AreClean first) → Clean now → AreClean less → AreClean first
cleaned now old less more first p is was before h rest =
    let P : ℕ → Type 0 = λ n. n ≡ 0 in
    let both = parts P (found p) old (recursion_from_All P (found p ++ old) (subst (All P) is h)) in
    before (All-from_recursion P old both.1) (All-same (λ (q : SenderPass). Clean (found q)) more (less ++ p ∷ []) was (All-push (λ (q : SenderPass). Clean (found q)) less p rest (All-from_recursion P (found p) both.0)))
