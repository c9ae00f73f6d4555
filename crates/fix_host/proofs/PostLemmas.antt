-- Posting the drafts of a list, one after another.
use Rattle.std.proofs.Common.{◌≡◌, ◌∙◌, ℕ, ◌+◌, ◌<◌, List, [], ◌∷◌, ◌++◌, length, take, drop, Option, Some, None, Err, refl, sym, ap, subst, append_assoc, arith}
use Rattle.std.specs.Prelude.{slice_index_or, slice_set, replicate}
use Rattle.std.proofs.lemmas.List.{drop_more, take_more, drop-set-lt, take_more_set, replicate_more, replicate-append-replicate}
use Rattle.fix_fields.specs.Drafted.{DraftText}
use Rattle.fix_outbox.specs.declared.queue.Item.{Item}
use Rattle.fix_outbox.specs.declared.queue.Part.{Part}
use Rattle.fix_outbox.specs.declared.pass.PostFault.{PostFault}
use Rattle.fix_outbox.specs.declared.pass.PostFault.TheVariants.{Full}
use Rattle.fix_outbox.specs.Passes.{item, HasCause}
use Rattle.fix_host.specs.Posting.{items_of, Loads, LoadsClosed}

pub same_at : {X : Type 0} (xs ys : List X) (k : ℕ) (d : X) → k < length xs → length xs ≡ length ys → drop k xs ≡ drop k ys → (slice_index_or xs k d ≡ slice_index_or ys k d) × (drop (k + 1) xs ≡ drop (k + 1) ys)
same_at xs ys k d lt size is =
    let e = sym (drop_more xs k d lt) ∙ (is ∙ drop_more ys k d (omega (arith, lt, size))) in
    (ap (λ l. slice_index_or l 0 d) e, ap (drop 1) e)

items_push : (i : ℕ) (xs : List (Option DraftText)) (d : Option DraftText) → items_of i (xs ++ d ∷ []) ≡ items_of i xs ++ items_of i (d ∷ [])
items_push i [] d = refl
items_push i (None ∷ xs) d = items_push i xs d
items_push i (Some x ∷ xs) d = ap (λ l. item i x ∷ l) (items_push i xs d)

-- the rest after one that was changed
pub rest_on : (xs ys : List (Option DraftText)) (k : ℕ) (d new : Option DraftText) → k < length xs → length xs ≡ length ys → drop k xs ≡ drop k ys → drop (k + 1) (slice_set xs k new) ≡ drop (k + 1) ys
rest_on xs ys k d new lt size is = drop-set-lt (k + 1) xs k new (omega arith) ∙ (same_at xs ys k d lt size is).1

-- what was posted, with one more
pub posted_on : (i j : ℕ) (before mid new : List Item) (xs ys : List (Option DraftText)) (k : ℕ) (d : Option DraftText) → k < length xs → length xs ≡ length ys → drop k xs ≡ drop k ys → j ≡ i → mid ≡ before ++ items_of i (take k ys) → new ≡ mid ++ items_of j (slice_index_or xs k d ∷ []) → new ≡ before ++ items_of i (take (k + 1) ys)
posted_on i j before mid new xs ys k d lt size is same first second =
    let at = (same_at xs ys k d lt size is).0 in
    let more = take_more ys k d (omega (arith, lt, size)) in
    second ∙ (rw (same, first, at) (append_assoc before (items_of i (take k ys)) (items_of i (slice_index_or ys k d ∷ [])))
    ∙ ap (λ l. before ++ l) (sym (items_push i (take k ys) (slice_index_or ys k d)) ∙ ap (items_of i) (sym more)))

-- the first ones are gone, with one more
pub gone_on : (xs : List (Option DraftText)) (k : ℕ) (new : Option DraftText) → k < length xs → new ≡ None → take k xs ≡ replicate k None → take (k + 1) (slice_set xs k new) ≡ replicate (k + 1) None
gone_on xs k new lt none gone = rw none (take_more_set xs k None lt ∙ (ap (λ l. l ++ None ∷ []) gone ∙ replicate_more k None))

-- ---- what the loads gave

pub loads_on : (a b c : List ℕ) → Loads a b → Loads b c → Loads a c
loads_on a b c (m, first) (n, second) =
    (m + n, second ∙ (ap (λ l. l ++ replicate n 0) first ∙ (append_assoc a (replicate m 0) (replicate n 0) ∙ ap (λ l. a ++ l) (replicate-append-replicate m n 0))))

pub loads_one : (a b c : List ℕ) (n : ℕ) → Loads a b → c ≡ b ++ n ∷ [] → n ≡ 0 → Loads a c
loads_one a b c n before more none = loads_on a b c before (1, more ∙ ap (λ x. b ++ x ∷ []) none)

pub loads_end : (a b c : List ℕ) → Loads a b → LoadsClosed b c → LoadsClosed a c
loads_end a b c before (n, second) =
    let (m, all) = loads_on a b (b ++ replicate n 0) before (n, refl) in
    (m, second ∙ ap (λ l. l ++ 1 ∷ []) all)

-- a post that found no room
pub loads_full : (a b c : List ℕ) (n size : ℕ) (v : Part) (e : PostFault) (d : DraftText) → e ≡ Full d → Loads a b → c ≡ b ++ n ∷ [] → HasCause n size v (Err e) → Loads a c
loads_full a b c n size v e d is before more cause = loads_one a b c n before more (subst (λ x. HasCause n size v (Err x)) is cause).0
