-- Each step on the closing word keeps its rule.
use Rattle.std.proofs.Common.{◌≡◌, ◌≢◌, ◌⊎◌, ℕ, zero, suc, ◌<◌, List, [], ◌∷◌, ◌++◌, length, set, Bool, true, false, true≢false, refl, sym, ap, ◌∙◌, subst, ⊎_elim, inl, inr, arith}
use Rattle.std.specs.Prelude.{All, slice_index}
use mathlib.Core.Option.{Option, none, some, some-ne-none, some-injective}
use lib.ListN.{get_elem?}
use Rattle.std.proofs.lemmas.List.Elements.{All-push, All-nil, All-append}
use Rattle.atomic_table.specs.Table.{State, Me, Allows, Splits, Joins, opening, keeps}
use Rattle.atomic_table.proofs.Lists.{at_set, at_snoc, set_again}
use Rattle.fix_outbox.specs.declared.closing.ClosingView.{ClosingView}
use Rattle.fix_outbox.specs.Closing.{closing_view, word_of, FitsLook, IsClosingWord, Found, Closes, Checked, Clean}

off : {A : Type 0} → false ≡ true → A
off e = absurd (true≢false (sym e))

each_set : (F : ℕ → ClosingView → Type 0) (views : List ClosingView) (seat : ℕ) (w : ClosingView) → F seat w → ((j : ℕ) (u : ClosingView) → j ≢ seat → get_elem? views j ≡ some u → F j u) → (j : ℕ) (u : ClosingView) → get_elem? (set views seat w) j ≡ some u → F j u
each_set F views seat w mine others j u e =
    ⊎_elim
    (λ (x : (j ≡ seat) × (w ≡ u)). subst (λ (y : ℕ × ClosingView). F y.0 y.1) (λ i. (sym x.0 i, x.1 i)) mine)
    (λ (x : (j ≢ seat) × (get_elem? views j ≡ some u)). others j u x.0 x.1)
    (at_set views seat j w u e)

pub begins : (xs : List ℕ) → IsClosingWord (opening (0 ∷ []) xs (closing_view true false []))
begins xs = (0, false, refl, one)
  where
    one : (seat : ℕ) (v : ClosingView) → get_elem? (closing_view true false [] ∷ []) seat ≡ some v → FitsLook 0 false seat v
    one zero v e = subst (FitsLook 0 false 0) (some-injective _ _ e) ((λ _. (refl, refl)), (λ _. All-nil _))
    one (suc seat) v e = absurd (some-ne-none v (sym e))

bit : (shut : Bool) (n : ℕ) → n ≡ word_of shut → ((n ≡ 0) ⊎ (n ≡ 1)) × (shut ≡ false → n ≡ 0)
bit true n e = (inr e, λ f. off (sym f))
bit false n e = (inl e, λ _. e)

set_same : (xs : List ℕ) (n : ℕ) → xs ≡ n ∷ [] → set xs 0 (slice_index xs 0) ≡ n ∷ []
set_same xs n e = ap (λ ys. set ys 0 (slice_index ys 0)) e

-- a load that adds what it found
pub finds : {S : Type 0} (slots id : ℕ) (me : Me S ClosingView) → me.0.takes ≡ false → Allows IsClosingWord slots id me 0 (λ n. n) (Found me)
finds slots id me apart_from s h homes at bound =
    let n = slice_index s.words 0 in
    let reader = h.0 in
    let shut = h.1 in
    let w = closing_view me.0.takes me.0.closed (me.0.found ++ n ∷ []) in
    let is = bit shut n (ap (λ ws. slice_index ws 0) h.2) in (
      w,
      keeps,
      tt,
      (
        reader,
        shut,
        set_same s.words (word_of shut) h.2,
        each_set (FitsLook reader shut) s.views id w ((λ t. off (sym apart_from ∙ t)), (λ f. All-push (λ x. x ≡ 0) me.0.found n ((h.3 id me.0 at).1 f) (is.1 f))) (λ j u apart e. h.3 j u e),
      ),
      (refl, refl, is.0),
    )

-- the taker stores 1
pub closes : {S : Type 0} (slots id : ℕ) (me : Me S ClosingView) → me.0.takes ≡ true → Allows IsClosingWord slots id me 0 (λ _. 1) (λ _. Closes me 1)
closes slots id me may s h homes at bound =
    let w = closing_view me.0.takes true me.0.found in
    let mine = (h.3 id me.0 at).0 may in (
      w,
      keeps,
      tt,
      (
        h.0,
        true,
        ap (λ ws. set ws 0 1) h.2,
        each_set (FitsLook h.0 true) s.views id w ((λ _. (mine.0, refl)), (λ f. off (sym f))) (λ j u apart e. ((λ t. absurd (apart (((h.3 j u e).0 t).0 ∙ sym mine.0))), (λ f. off (sym f)))),
      ),
      refl,
    )

-- a seat for a sender
pub splits : {S : Type 0} (id : ℕ) (v : ClosingView) → Splits {S = S} IsClosingWord id v v (closing_view false false [])
splits {S} id v s h at = (
  h.0,
  h.1,
  h.2,
  (λ j u e. ⊎_elim
      (λ was. h.3 j u (subst (λ l. get_elem? l j ≡ some u) (set_again s.views id v at) was))
      (λ (is : closing_view false false [] ≡ u). subst (FitsLook h.0 h.1 j) is ((λ t. off t), (λ _. All-nil _)))
      (at_snoc (set s.views id v) (closing_view false false []) u j e)),
)

-- the taker takes in a sender's seat
pub joins : {S : Type 0} (id : ℕ) (v : ClosingView) (other : ℕ) (w : ClosingView) → Joins {S = S} IsClosingWord id v other w (closing_view v.takes v.closed (w.found ++ v.found)) (closing_view false false [])
joins {S} id v other w s h at apart there =
    let both = closing_view v.takes v.closed (w.found ++ v.found) in
    let mine = h.3 id v at in
    let was : get_elem? s.views other ≡ some w = ⊎_elim (λ x. absurd (apart x.0)) (λ x. x.1) (at_set s.views id other both w there) in
    let theirs = h.3 other w was in
    let now = each_set (FitsLook h.0 h.1) s.views id both (mine.0, (λ f. All-append (λ x. x ≡ 0) w.found v.found (theirs.1 f) (mine.1 f))) (λ j u _ e. h.3 j u e) in
    (h.0, h.1, h.2, each_set (FitsLook h.0 h.1) (set s.views id both) other (closing_view false false []) ((λ t. off t), (λ _. All-nil _)) (λ j u _ e. now j u e))

pub checks : {S : Type 0} (slots id : ℕ) (me : Me S ClosingView) → me.0.takes ≡ true → Allows IsClosingWord slots id me 0 (λ n. n) (Checked me)
checks slots id me may s h homes at bound =
    let mine = h.3 id me.0 at in (
      me.0,
      keeps,
      tt,
      (h.0, h.1, set_same s.words (word_of h.1) h.2, each_set (FitsLook h.0 h.1) s.views id me.0 mine (λ j u _ e. h.3 j u e)),
      (refl, λ f. mine.1 (sym (mine.0 may).1 ∙ f)),
    )
