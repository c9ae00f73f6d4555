-- The room that a disk in memory tells, and when one that tells it fails.
use Rattle.std.proofs.Common.{◌≡◌, ◌↔◌, ◌⊎◌, inl, inr, ⊎_elim, ℕ, ◌==◌, Bool, true, false, true≢false, List, [], ◌∷◌, Option, Some, None, Result, Ok, Err, refl, sym, ◌∙◌, ap, arith}
use Rattle.std.specs.Prelude.{IsErr, IsTrue, OnErr, if◌then◌else◌}
use Rattle.fix_disk.specs.Disk.{MayFail}
use Rattle.fix_disk.specs.Fuse.{IsStruck}
use Rattle.fix_disk.specs.MemoryDisk.{room_of}
use Rattle.fix_disk.specs.declared.disk.DiskFailed.{DiskFailed}

-- of what it tells no call is struck
pub may_fail : (fail : List ℕ) (fuse : Option ℕ) (past capacity end call : ℕ) → IsStruck fail fuse call → MayFail (room_of fail fuse past capacity) end
may_fail fail (Some first) past capacity end call struck = tt
may_fail (n ∷ fail) None past capacity end call struck = untold (past == 0)
  where
    untold : (keeps_none : Bool) → MayFail (if keeps_none then None else None) end
    untold true = tt
    untold false = tt
may_fail [] None past capacity end call (inl (i, lt, is)) = absurd (omega (arith, lt))
may_fail [] None past capacity end call (inr blown) = absurd blown

pub same_room : (fail now : List ℕ) (fuse : Option ℕ) (past kept capacity room : ℕ) → now ≡ fail → kept ≡ past → room ≡ capacity → room_of now fuse kept room ≡ room_of fail fuse past capacity
same_room fail now fuse past kept capacity room is is_kept is_room =
    ap (λ l. room_of l fuse kept room) is ∙ ap (λ n. room_of fail fuse n room) is_kept ∙ ap (room_of fail fuse past) is_room

-- a call that can be done fails only where it is struck
pub needed : {T : Type 0} (answer : Result T DiskFailed) (fails can : Bool) (fail : List ℕ) (fuse : Option ℕ) (past capacity end call : ℕ) → can ≡ true → (IsErr answer ↔ IsTrue fails)
    → (IsTrue fails ↔ (IsStruck fail fuse call ⊎ (can ≡ false))) → OnErr answer (MayFail (room_of fail fuse past capacity) end)
needed (Ok x) fails can fail fuse past capacity end call can_be answers struck = tt
needed (Err e) fails can fail fuse past capacity end call can_be answers struck =
    ⊎_elim (may_fail fail fuse past capacity end call) (λ cannot. absurd (true≢false (sym can_be ∙ cannot))) (struck.0 (answers.0 refl))
