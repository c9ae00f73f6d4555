-- What a frame says, as far as sessions count and compare it.
use Rattle.std.specs.Prelude.{◌≡◌, ℕ, List, Bool}

pub data Message : Type 0 where
  -- an application message, marked where PossDupFlag (43) is Y
  App : (number : ℕ) (marked : Bool) (body : List ℕ) → Message
  -- an administrative message but for the two below
  Admin : (number : ℕ) → Message
  -- a SequenceReset with GapFillFlag (123) = Y, whose NewSeqNo (36) is `next`
  GapFill : (number next : ℕ) → Message
  -- a SequenceReset without it
  ResetTo : (number next : ℕ) → Message

-- an Admin frame of this number
abbrev pub IsAdminNumbered : ℕ → Message → Type 0
IsAdminNumbered n (App k marked body) = ⊥
IsAdminNumbered n (Admin k) = k ≡ n
IsAdminNumbered n (GapFill k next) = k ≡ n
IsAdminNumbered n (ResetTo k next) = k ≡ n
