-- Loops over what is done in turn: each lemma closes one exit of a loop.
use Rattle.std.proofs.Common.{◌≡◌, ℕ, ◌<◌, ◌≤◌, List, [], ◌∷◌, ◌++◌, Result, Ok, Err, sym, ap, subst, append_assoc}
use Rattle.std.proofs.Common.{arith, ◌+◌, length, get_or, drop, drop-cons, add-one, map, ◌-◌, suc, replicate}
use Rattle.std.proofs.lemmas.List.{append-nil, drop_all}
use Rattle.std.specs.Prelude.{⊤}
use Rattle.fix_base.specs.Trace.{OutsideSeen}
use Rattle.fix_outside.specs.Calls.{Call, Called, HasCalls}
use Rattle.fix_outside.proofs.CallLemmas.{Called-nil, Called-append}
use Rattle.fix_stage.specs.Combine.{Each, none, ends, goes}

-- What was done so far: whatever the rest does makes the whole.
pub record SoFar {S X E : Type 0} (R : S → X → List Call → Result ⊤ E → S → Type 0) (from at : OutsideSeen) (s : S)
    (xs : List X) (mid : S) (rest : List X) : Type 0 where
  pub calls : List Call
  pub moves : Called from at calls
  pub goes_on : (more : List Call) (r : Result ⊤ E) (s' : S) → Each R mid rest more r s' →
      Each R s xs (calls ++ more) r s'

module _ {S X E : Type 0} (R : S → X → List Call → Result ⊤ E → S → Type 0) where
  pub started : (w : OutsideSeen) (s : S) (xs : List X) → SoFar R w w s xs s xs
  started w s xs = record { calls = []; moves = Called-nil w; goes_on = λ more r s' e. e }

  pub goes_on : (a b c : OutsideSeen) (s mid mid' : S) (xs : List X) (x : X) (rest : List X) →
      SoFar R a b s xs mid (x ∷ rest) → HasCalls b c (λ calls. R mid x calls (Ok tt) mid') → SoFar R a c s xs mid' rest
  goes_on a b c s mid mid' xs x rest before step = record {
    calls = before.calls ++ step.0;
    moves = Called-append _ _ _ _ _ before.moves step.1;
    goes_on = λ more r s' e. subst (λ calls. Each R s xs calls r s') (sym (append_assoc before.calls step.0 more))
        (before.goes_on _ _ _ (goes step.2 e));
  }

  pub stopped : (a b c : OutsideSeen) (s mid s' : S) (xs : List X) (x : X) (rest : List X) (e : E) →
      SoFar R a b s xs mid (x ∷ rest) → HasCalls b c (λ calls. R mid x calls (Err e) s') →
      HasCalls a c (λ calls. Each R s xs calls (Err e) s')
  stopped a b c s mid s' xs x rest e before step =
      (before.calls ++ step.0, Called-append _ _ _ _ _ before.moves step.1, before.goes_on _ _ _ (ends step.2))

  pub finished : (a b : OutsideSeen) (s mid : S) (xs : List X) → SoFar R a b s xs mid [] →
      HasCalls a b (λ calls. Each R s xs calls (Ok tt) mid)
  finished a b s mid xs before = (
    before.calls,
    before.moves,
    subst (λ calls. Each R s xs calls (Ok tt) mid) (append-nil before.calls) (before.goes_on _ _ _ none),
  )

-- the same in a loop over a slice, at an index
module _ {S X E : Type 0} (R : S → X → List Call → Result ⊤ E → S → Type 0) where
  pub goes_on_at : (a b c : OutsideSeen) (s mid mid' : S) (xs : List X) (i : ℕ) (d : X) → i < length xs →
      SoFar R a b s xs mid (drop i xs) → HasCalls b c (λ calls. R mid (get_or xs i d) calls (Ok tt) mid') →
      SoFar R a c s xs mid' (drop (i + 1) xs)
  goes_on_at a b c s mid mid' xs i d h before step =
      rw add-one (goes_on R a b c s mid mid' xs _ _
      (subst (λ rest. SoFar R a b s xs mid rest) (drop-cons xs i d h) before) step)

  pub stopped_at : (a b c : OutsideSeen) (s mid s' : S) (xs : List X) (i : ℕ) (d : X) (e : E) → i < length xs →
      SoFar R a b s xs mid (drop i xs) → HasCalls b c (λ calls. R mid (get_or xs i d) calls (Err e) s') →
      HasCalls a c (λ calls. Each R s xs calls (Err e) s')
  stopped_at a b c s mid s' xs i d e h before step =
      stopped R a b c s mid s' xs _ _ e (subst (λ rest. SoFar R a b s xs mid rest) (drop-cons xs i d h) before) step

  pub finished_at : (a b : OutsideSeen) (s mid : S) (xs : List X) (i : ℕ) → length xs ≤ i →
      SoFar R a b s xs mid (drop i xs) → HasCalls a b (λ calls. Each R s xs calls (Ok tt) mid)
  finished_at a b s mid xs i h before =
      finished R a b s mid xs (subst (λ rest. SoFar R a b s xs mid rest) (drop_all i xs h) before)

-- the same in a loop that counts
replicate-more : (n i : ℕ) → i < n → replicate {A = ⊤} (n - i) tt ≡ tt ∷ replicate {A = ⊤} (n - (i + 1)) tt
replicate-more n i h = let e : n - i ≡ suc (n - (i + 1)) = omega arith in ap (λ k. replicate {A = ⊤} k tt) e

module _ {S E : Type 0} (R : S → ⊤ → List Call → Result ⊤ E → S → Type 0) where
  pub count_started : (w : OutsideSeen) (s : S) (n : ℕ) → SoFar R w w s (replicate n tt) s (replicate (n - 0) tt)
  count_started w s n = let same : n ≡ n - 0 = omega arith in
      subst (λ k. SoFar R w w s (replicate n tt) s (replicate k tt)) same (started R w s (replicate n tt))

  pub counts_on : (a b c : OutsideSeen) (s mid mid' : S) (n i : ℕ) → i < n →
      SoFar R a b s (replicate n tt) mid (replicate (n - i) tt) → HasCalls b c (λ calls. R mid tt calls (Ok tt) mid') →
      SoFar R a c s (replicate n tt) mid' (replicate (n - (i + 1)) tt)
  counts_on a b c s mid mid' n i h before step =
      goes_on R a b c s mid mid' _ tt _ (subst (λ rest. SoFar R a b s (replicate n tt) mid rest)
      (replicate-more n i h) before) step

  pub count_stopped : (a b c : OutsideSeen) (s mid s' : S) (n i : ℕ) (e : E) → i < n →
      SoFar R a b s (replicate n tt) mid (replicate (n - i) tt) → HasCalls b c (λ calls. R mid tt calls (Err e) s') →
      HasCalls a c (λ calls. Each R s (replicate n tt) calls (Err e) s')
  count_stopped a b c s mid s' n i e h before step =
      stopped R a b c s mid s' _ tt _ e (subst (λ rest. SoFar R a b s (replicate n tt) mid rest)
      (replicate-more n i h) before) step

  pub count_finished : (a b : OutsideSeen) (s mid : S) (n i : ℕ) → n ≤ i →
      SoFar R a b s (replicate n tt) mid (replicate (n - i) tt) →
      HasCalls a b (λ calls. Each R s (replicate n tt) calls (Ok tt) mid)
  count_finished a b s mid n i h before =
      let e : n - i ≡ 0 = omega arith in
      finished R a b s mid _ (subst (λ rest. SoFar R a b s (replicate n tt) mid rest)
      (ap (λ k. replicate {A = ⊤} k tt) e) before)

-- the same in a loop over a slice whose items are seen by a function
module _ {S X Y E : Type 0} (seen : Y → X) (R : S → X → List Call → Result ⊤ E → S → Type 0) where
  pub goes_on_seen : (a b c : OutsideSeen) (s mid mid' : S) (ys : List Y) (i : ℕ) (d : Y) → i < length ys →
      SoFar R a b s (map seen ys) mid (map seen (drop i ys)) →
      HasCalls b c (λ calls. R mid (seen (get_or ys i d)) calls (Ok tt) mid') →
      SoFar R a c s (map seen ys) mid' (map seen (drop (i + 1) ys))
  goes_on_seen a b c s mid mid' ys i d h before step =
      rw add-one (goes_on R a b c s mid mid' (map seen ys) _ _
      (subst (λ rest. SoFar R a b s (map seen ys) mid (map seen rest)) (drop-cons ys i d h) before) step)

  pub stopped_seen : (a b c : OutsideSeen) (s mid s' : S) (ys : List Y) (i : ℕ) (d : Y) (e : E) → i < length ys →
      SoFar R a b s (map seen ys) mid (map seen (drop i ys)) →
      HasCalls b c (λ calls. R mid (seen (get_or ys i d)) calls (Err e) s') →
      HasCalls a c (λ calls. Each R s (map seen ys) calls (Err e) s')
  stopped_seen a b c s mid s' ys i d e h before step =
      stopped R a b c s mid s' (map seen ys) _ _ e
      (subst (λ rest. SoFar R a b s (map seen ys) mid (map seen rest)) (drop-cons ys i d h) before) step

  pub finished_seen : (a b : OutsideSeen) (s mid : S) (ys : List Y) (i : ℕ) → length ys ≤ i →
      SoFar R a b s (map seen ys) mid (map seen (drop i ys)) →
      HasCalls a b (λ calls. Each R s (map seen ys) calls (Ok tt) mid)
  finished_seen a b s mid ys i h before =
      finished R a b s mid (map seen ys) (subst (λ rest. SoFar R a b s (map seen ys) mid (map seen rest))
      (drop_all i ys h) before)
