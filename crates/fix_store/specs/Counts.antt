-- How many entries the records of a store have: one number for every 64 records.
use Rattle.std.specs.Prelude.{◌≡◌, ℕ, ◌+◌, ◌*◌, ◌/◌, ◌%◌, ◌^◌, ◌<◌, ◌≤◌, ◌==◌, if◌then◌else◌, List, [], ◌∷◌, ◌++◌, length}
use Rattle.std.specs.Prelude.{slice_get, Some, vec_len, vec_capacity}
use Rattle.fix_store.specs.declared.counts.Counts.{Counts}

-- how many entries stand before the records 0, 64, 128 and so on, how many there are in all, and how many of
-- these stand after the last reset
pub record Counted : Type 0 where
  pub before : List ℕ
  pub total : ℕ
  pub last : ℕ

abbrev pub counted_in : Counts → Counted
counted_in c = record { before = c.before.items; total = c.total; last = c.last }

abbrev pub none_counted : Counted
none_counted = record { before = []; total = 0; last = 0 }

-- the number of entries before the record of this index, where 64 divides it
abbrev pub with_mark : ℕ → ℕ → List ℕ → List ℕ
with_mark index total before = if index % 64 == 0 then before ++ total ∷ [] else before

-- after the record of this index, with so many entries in all and since the last reset
abbrev pub counted_with : ℕ → Counted → ℕ → ℕ → Counted
counted_with index c total last = record { before = with_mark index c.total c.before; total = total; last = last }

-- a record of so many entries can be taken in without memory
pub record HasRoomToCount (c : Counts) (count : ℕ) : Type 0 where
  pub room : vec_len c.before + 1 ≤ vec_capacity c.before
  pub fits : c.total + count < 2 ^ 64

-- of so many records
pub record IsCounted (c : Counted) (count : ℕ) : Type 0 where
  pub few : c.last ≤ c.total
  pub long : length c.before ≡ (count + 63) / 64
  pub none : count ≡ 0 → (c.total ≡ 0) × (c.before ≡ [])
  pub first : 1 ≤ count → slice_get c.before 0 ≡ Some 0

-- an entry can be looked for in them, of a journal with so many records
pub record IsSearchable (c : Counted) (records : ℕ) : Type 0 where
  pub few : c.last ≤ c.total
  pub first : 1 ≤ c.total → slice_get c.before 0 ≡ Some 0
  pub within : (k : ℕ) → k < length c.before → 64 * k < records

-- the last of these numbers that are at most this one
pub record IsMark (before : List ℕ) (target k : ℕ) : Type 0 where
  pub at : ℕ
  pub is : slice_get before k ≡ Some at
  pub below : at ≤ target
  pub above : (next : ℕ) → slice_get before (k + 1) ≡ Some next → target < next
