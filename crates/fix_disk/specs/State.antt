-- What a disk in memory holds between its calls, and what a crash may leave of that.
use Rattle.std.specs.Prelude.{◌≡◌, ℕ, ◌<◌, ◌≤◌, Bool, true, false, List, [], length, replicate, slice_index}
use Rattle.std.specs.Prelude.{slice_index_or}
use Rattle.fix_disk.specs.Disk.{overwritten}

pub record State : Type 0 where
  pub bytes : List ℕ  -- as they are read
  pub synced : List ℕ  -- as they were at the last sync
  pub changed : List Bool  -- of each byte, whether it was written since

-- a disk on which nothing was written
abbrev pub blank : State
blank = record { bytes = []; synced = []; changed = [] }

abbrev pub after_write : ℕ → List ℕ → State → State
after_write at bytes s = record {
  bytes = overwritten at bytes s.bytes;
  synced = s.synced;
  changed = overwritten at (replicate (length bytes) true) s.changed;
}

abbrev pub after_sync : State → State
after_sync s = record { bytes = s.bytes; synced = s.bytes; changed = replicate (length s.bytes) false }

-- a crash leaves each synced byte that was not written since; any other byte may be anything
pub record Leaves (s : State) (c : List ℕ) : Type 0 where
  pub no_shorter : length s.synced ≤ length c
  pub no_longer : length c ≤ length s.bytes
  pub same : (i : ℕ) → i < length s.synced → slice_index_or s.changed i true ≡ false → slice_index c i
      ≡ slice_index s.synced i
