-- The writes and syncs that a disk in memory keeps, and what a crash since a moment might have left.
use Rattle.std.specs.Prelude.{◌⊎◌, ℕ, ◌<◌, ◌≤◌, max, List, [], ◌∷◌}
use Rattle.std.proofs.Common.{inl, inr}
use Rattle.std.proofs.Math.Nat.{le_trans, le-max_left, le-max_right}
use Rattle.std.specs.Cmp.{below_irrefl}
use Rattle.fix_disk.specs.State.{State, Leaves, after_write, after_sync}

pub data Change : Type 0 where
  Wrote : (at : ℕ) (bytes : List ℕ) → Change
  Synced : Change

-- a change, and the moment after it
pub record Step : Type 0 where
  pub moment : ℕ
  pub change : Change

abbrev pub after : Change → State → State
after (Wrote at bytes) s = after_write at bytes s
after Synced s = after_sync s

abbrev pub replayed : List Step → State → State
replayed [] s = s
replayed (step ∷ later) s = replayed later (after step.change s)

-- what was there before a step lasted until the moment after it
abbrev pub LeavesSince : List Step → State → ℕ → List ℕ → Type 0
LeavesSince [] s t c = Leaves s c
LeavesSince (step ∷ later) s t c = ((t < step.moment) × Leaves s c) ⊎ LeavesSince later (after step.change s) t c

abbrev pub latest : List Step → ℕ
latest [] = 0
latest (step ∷ later) = max step.moment (latest later)

pub counts_now : (steps : List Step) (s : State) (t : ℕ) (c : List ℕ) → Leaves (replayed steps s) c
    → LeavesSince steps s t c
counts_now [] s t c now = now
counts_now (step ∷ later) s t c now = inr (counts_now later (after step.change s) t c now)

pub only_now : (steps : List Step) (s : State) (now : ℕ) (c : List ℕ) → latest steps ≤ now
    → LeavesSince steps s now c → Leaves (replayed steps s) c
only_now [] s now c le left = left
only_now (step ∷ later) s now c le (inl before) = absurd
    (below_irrefl now (le_trans before.0 (le_trans (le-max_left step.moment (latest later)) le)))
only_now (step ∷ later) s now c le (inr left) = only_now later (after step.change s) now c
    (le_trans (le-max_right step.moment (latest later)) le) left
