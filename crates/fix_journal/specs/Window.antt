-- The part of a file that an opening keeps while it goes over it, and how many calls of the disk that takes.
use Rattle.std.specs.Prelude.{◌≡◌, ℕ, ◌+◌, ◌-◌, ◌*◌, ◌/◌, ◌≤◌, min, List, length, take, drop, vec_capacity, Option}
use Rattle.std.specs.Prelude.{IsSome, IfSome}
use Rattle.fix_disk.specs.Disk.{DiskSeen}
use Rattle.fix_journal.specs.declared.window.Window.{Window}
use Rattle.fix_journal.specs.Format.{IsMade}

abbrev pub MOST_HELD : ℕ
MOST_HELD = 65536

-- the bytes of a file of `end` bytes from a place on, all of them or as many as are kept
pub record IsWindow (told : Option (List ℕ)) (end : ℕ) (w : Window) : Type 0 where
  pub room : MOST_HELD ≤ vec_capacity w.held
  pub long : length w.held.items ≡ min (end - w.from) MOST_HELD
  pub is : IfSome told (λ file. w.held.items ≡ take (length w.held.items) (drop w.from file))

-- at most one call for each 65,532 bytes that a window went on
abbrev pub GoesOn : ℕ → ℕ → DiskSeen → DiskSeen → Type 0
GoesOn from to old new = IsSome old.bytes → 65532 * new.clock + from ≤ 65532 * old.clock + to

-- at most so many calls
abbrev pub CallsAtMost : ℕ → DiskSeen → DiskSeen → Type 0
CallsAtMost most old new = IsSome old.bytes → new.clock ≤ old.clock + most

-- how many calls an opening makes: of a made file four, and one for each 65,532 bytes of it; of any other nine
pub record OpensWithin (old new : DiskSeen) (file : List ℕ) : Type 0 where
  pub made : IsMade file → new.clock ≤ old.clock + 4 + length file / 65532
  pub unmade : (IsMade file → ⊥) → new.clock ≤ old.clock + 9

abbrev pub OpenCalls : DiskSeen → DiskSeen → Type 0
OpenCalls old new = IfSome old.bytes (OpensWithin old new)
