-- What is seen of a disk, what a crash may leave of it, and what its calls do to that.
use Rattle.std.specs.Prelude.{◌≡◌, ◌⊎◌, ◌↔◌, ℕ, ◌+◌, ◌<◌, ◌≤◌, min, max, List, ◌++◌, length, take, drop}
use Rattle.std.specs.Prelude.{slice_index, Option, Some, None, IsSome, IfSome, Result, Ok, Err, OnOk, OnErr, IfOk}
use Rattle.std.specs.Prelude.{⊤}
use Rattle.fix_base.specs.Trace.{LAST_COUNT, Rises}
use Rattle.fix_disk.specs.declared.disk.DiskFailed.{DiskFailed}

pub record DiskSeen : Type 1 where
  pub bytes : Option (List ℕ)  -- what a read gives, where it is told
  pub TellsImages : Type 0
  pub image : List ℕ → Type 0  -- what a crash now may leave, where it is told
  pub TellsPast : Type 0
  pub image_since : ℕ → List ℕ → Type 0  -- what a crash since a moment might have left, where it is told
  pub clock : ℕ  -- the moment now, where the bytes are told
  pub faults : ℕ  -- how often the disk failed
  pub room : Option ℕ  -- where it is told, the disk fails only at a write that ends past this place

-- what always holds of it
pub record IsLawfulDisk (s : DiskSeen) : Type 0 where
  pub tells_bytes : s.TellsImages → IsSome s.bytes
  pub tells_now : s.TellsPast → s.TellsImages
  pub in_time : s.TellsPast → s.clock < LAST_COUNT
  -- a disk as it reads is one of its images
  pub as_read : s.TellsImages → IfSome s.bytes s.image
  -- this moment is one of those since an earlier one, and since this moment there is no other
  pub counts_now : s.TellsPast → (t : ℕ) (c : List ℕ) → t ≤ s.clock → s.image c → s.image_since t c
  pub only_now : s.TellsPast → (c : List ℕ) → s.image_since s.clock c → s.image c

-- a list with these in place of what stood from there on
abbrev pub overwritten : {A : Type 0} → ℕ → List A → List A → List A
overwritten at items old = take at old ++ items ++ drop (at + length items) old

-- after a write of so many bytes that a crash may cut short: any bytes in its range and past the old end, the
-- same elsewhere
pub record Torn (at count : ℕ) (old new : List ℕ) : Type 0 where
  pub no_shorter : length old ≤ length new
  pub no_longer : length new ≤ max (length old) (at + count)
  pub before : (i : ℕ) → i < length old → i < at → slice_index new i ≡ slice_index old i
  pub after : (i : ℕ) → i < length old → at + count ≤ i → slice_index new i ≡ slice_index old i

-- each new image is an old one after a step
abbrev pub Follows : (List ℕ → List ℕ → Type 0) → (List ℕ → Type 0) → (List ℕ → Type 0) → Type 0
Follows step old new = (c : List ℕ) → new c → (d : List ℕ) × old d × step d c

-- a crash leaves this and nothing else
abbrev pub Only : List ℕ → (List ℕ → Type 0) → Type 0
Only bytes image = (c : List ℕ) → image c → c ≡ bytes

abbrev pub failures : {T : Type 0} → Result T DiskFailed → ℕ
failures (Ok x) = 0
failures (Err e) = 1

-- a disk with this room may fail at a call that needs so much of it
abbrev pub MayFail : Option ℕ → ℕ → Type 0
MayFail None end = ⊤
MayFail (Some room) end = room < end

abbrev pub next_moment : ℕ → ℕ
next_moment t = min (t + 1) LAST_COUNT

-- a call is one moment, and what was told stays told; a crash since t might have left what it might have left
-- before, or what it may leave now
pub record Elapses (old new : DiskSeen) : Type 0 where
  pub clock : IsSome old.bytes → new.clock ≡ next_moment old.clock
  pub room : new.room ≡ old.room
  pub tells_images : new.TellsImages ↔ old.TellsImages
  pub tells_past : new.TellsPast ↔ (old.TellsPast × (new.clock < LAST_COUNT))
  pub nothing_else : new.TellsPast → (t : ℕ) (c : List ℕ) → t ≤ old.clock → new.image_since t c
      → old.image_since t c ⊎ new.image c
  pub keeps : new.TellsPast → (t : ℕ) (c : List ℕ) → t ≤ old.clock → old.image_since t c → new.image_since t c

-- a call that writes nothing
pub record LeavesAsIs (old new : DiskSeen) : Type 0 where
  pub bytes : new.bytes ≡ old.bytes
  pub images : old.TellsImages → (c : List ℕ) → new.image c ↔ old.image c

pub record DiskMeasures (answer : Result ℕ DiskFailed) (old new : DiskSeen) : Type 0 where
  pub length : IfOk answer (λ n. IfSome old.bytes (λ bytes. n ≡ length bytes))
  pub same : LeavesAsIs old new
  pub time : Elapses old new
  pub cause : Rises (failures answer) old.faults new.faults
  pub need : OnErr answer (MayFail old.room 0)

pub record DiskReads {T : Type 0} (answer : Result T DiskFailed) (at : ℕ) (room : List ℕ)
    (old new : DiskSeen) : Type 0 where
  pub read : OnOk answer (IfSome old.bytes (λ bytes. room ≡ take (length room) (drop at bytes)))
  pub same : LeavesAsIs old new
  pub time : Elapses old new
  pub cause : Rises (failures answer) old.faults new.faults
  pub need : OnErr answer (MayFail old.room 0)

-- what a write does to the bytes; one that failed may have changed its range
abbrev pub WrittenAfter : {T : Type 0} → Result T DiskFailed → ℕ → List ℕ → Option (List ℕ) → Option (List ℕ) → Type 0
WrittenAfter answer at bytes None new = new ≡ None
WrittenAfter (Ok x) at bytes (Some old) new = new ≡ Some (overwritten at bytes old)
WrittenAfter (Err e) at bytes (Some old) new = (torn : List ℕ) × Torn at (length bytes) old torn × (new ≡ Some torn)

pub record DiskWrites {T : Type 0} (answer : Result T DiskFailed) (at : ℕ) (bytes : List ℕ)
    (old new : DiskSeen) : Type 0 where
  pub written : WrittenAfter answer at bytes old.bytes new.bytes
  pub torn : old.TellsImages → Follows (Torn at (length bytes)) old.image new.image
  -- until a sync a crash may take it all back
  pub lost : old.TellsImages → (c : List ℕ) → old.image c → new.image c
  pub time : Elapses old new
  pub cause : Rises (failures answer) old.faults new.faults
  pub need : OnErr answer (MayFail old.room (at + length bytes))

pub record DiskSyncs {T : Type 0} (answer : Result T DiskFailed) (old new : DiskSeen) : Type 0 where
  pub bytes : new.bytes ≡ old.bytes
  pub durable : OnOk answer (old.TellsImages → IfSome old.bytes (λ bytes. Only bytes new.image))
  pub no_more : old.TellsImages → (c : List ℕ) → new.image c → old.image c
  pub time : Elapses old new
  pub cause : Rises (failures answer) old.faults new.faults
  pub need : OnErr answer (MayFail old.room 0)

-- so many bytes stand there
abbrev pub HasRange : Option (List ℕ) → ℕ → ℕ → Type 0
HasRange told at count = IfSome told (λ bytes. at + count ≤ length bytes)
