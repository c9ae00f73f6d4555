-- Frames that wait until the numbers before them have come, each under its MsgSeqNum (34).
use Rattle.std.specs.Prelude.{◌≡◌, ◌⊎◌, ℕ, ◌+◌, ◌<◌, ◌≤◌, List, [], ◌∷◌, length, nat_le, IsSome}
use Rattle.std.specs.Ordering.{nat_cmp}
use Rattle.std.specs.FinMap as map

-- pairs of a number and a frame, no number twice
abbrev pub Waiting : Type 0
Waiting = map.FinMap nat_cmp (List ℕ)

-- how many bytes these frames have
abbrev pub bytes_in : List (ℕ × List ℕ) → ℕ
bytes_in [] = 0
bytes_in (e ∷ es) = length e.1 + bytes_in es

abbrev pub bytes_of : Waiting → ℕ
bytes_of w = bytes_in (map.entries w)

-- there is no room for a frame of this length
abbrev pub IsFull : Waiting → ℕ → Type 0
IsFull w size = (1024 ≤ map.len w) ⊎ (16777216 < bytes_of w + size)

-- no more waits than there is room for
pub record IsBounded (w : Waiting) : Type 0 where
  pub frames : map.len w ≤ 1024
  pub bytes : bytes_of w ≤ 16777216

-- those whose number is this one or above
abbrev pub from_number : ℕ → Waiting → Waiting
from_number n w = map.retain_keys w (λ k. nat_le n k)

-- all have this number or one above
abbrev pub StandsFrom : ℕ → Waiting → Type 0
StandsFrom n w = (k : ℕ) → IsSome (map.get w k) → n ≤ k

-- one of a number below this one is dropped
pub record DropsBelow (n : ℕ) (old new : Waiting) : Type 0 where
  pub number : ℕ
  pub below : number < n
  pub waits : IsSome (map.get old number)
  pub rest : new ≡ map.remove old number

-- what the code keeps beside the frames: how many there are, and how many bytes
pub record IsHeld (frames : List (ℕ × List ℕ)) (bytes : ℕ) : Type 0 where
  pub counted : length frames ≡ map.len {R = nat_cmp} (map.from_entries frames)
  pub summed : bytes ≡ bytes_of (map.from_entries frames)
  pub bounded : IsBounded (map.from_entries frames)
