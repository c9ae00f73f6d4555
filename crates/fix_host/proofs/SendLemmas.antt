-- What was posted of a file's drafts.
use Rattle.std.proofs.Common.{◌≡◌, ◌∙◌, ℕ, zero, suc, ◌≤◌, List, [], ◌∷◌, length, map, take, Option, Some, ◌++◌, inl, inr, refl, sym, ap, arith}
use Rattle.std.specs.Prelude.{All, IsSome}
use Rattle.std.proofs.lemmas.List.{length-map}
use Rattle.std.proofs.lemmas.List.Elements.{All-map}
use Rattle.fix_fields.specs.Drafted.{DraftText}
use Rattle.fix_outbox.specs.declared.queue.Item.{Item}
use Rattle.fix_outbox.specs.declared.pass.SenderPass.{SenderPass}
use Rattle.fix_outbox.specs.Passes.{item, number_of, posted}
use Rattle.fix_host.specs.DraftFile.{AreDraftsOf}
use Rattle.fix_host.specs.Sending.{HasSent}
use Rattle.fix_host.specs.Posting.{items_of, PostsEnd}

pub all_some : (ds : List DraftText) → All (λ d. IsSome d) (map Some ds)
all_some ds = All-map (λ d. IsSome d) Some ds (λ k d lt. refl)

-- the first k of them, as items
pub sent_is : (i k : ℕ) (ds : List DraftText) → items_of i (take k (map Some ds)) ≡ map (item i) (take k ds)
sent_is i zero ds = refl
sent_is i (suc k) [] = refl
sent_is i (suc k) (d ∷ ds) = ap (λ l. item i d ∷ l) (sent_is i k ds)

pub no_more : (k n : ℕ) (a b : List ℕ) → PostsEnd k n a b → k ≤ n
no_more k n a b (inl (all, loads)) = omega (arith, all)
no_more k n a b (inr (fewer, loads)) = omega (arith, fewer)

-- a pass that had posted nothing
pub has_sent : (new : SenderPass) (i k n : ℕ) (before : List Item) (file : List ℕ) (xs : List (Option DraftText)) (ds : List DraftText) → xs ≡ map Some ds → AreDraftsOf file ds → n ≡ length xs → k ≤ length xs → number_of new ≡ i → before ≡ [] → posted new ≡ before ++ items_of i (take k xs) → HasSent new file n k
has_sent new i k n before file xs ds is lines size few same none went = (
  ds,
  lines,
  omega (arith, length-map ds Some, ap length is, size),
  omega (arith, few, size),
  went ∙ (rw (none, is) (sent_is i k ds) ∙ sym (ap (λ j. map (item j) (take k ds)) same)),
)
