-- Which places of a journal's file are kept: those of the gates of every 64th record, and that of the closed gate.
use Rattle.std.specs.Prelude.{◌≡◌, ℕ, ◌+◌, ◌*◌, ◌/◌, ◌%◌, ◌<◌, ◌≤◌, List, [], ◌∷◌, ◌++◌, length, take, slice_index}
use Rattle.fix_journal.specs.declared.index.Index.{Index}
use Rattle.fix_journal.specs.Format.{front}

-- A mark is kept for each index that 64 divides, up to the count; each record takes a byte or more. It holds over
-- any disk.
pub record IsShaped (index : Index) : Type 0 where
  pub few : index.count ≤ index.closed
  pub enough : index.count < 64 * length index.marks.items
  pub no_more : 64 * length index.marks.items ≤ index.count + 64

-- these records: how many, the place of the closed gate after them, and the places of the gates 0, 64, 128 ..
pub record IsIndexOf (index : Index) (payloads : List (List ℕ)) : Type 0 where
  pub count : index.count ≡ length payloads
  pub closed : index.closed ≡ length (front payloads)
  pub marks : (k : ℕ) → 64 * k ≤ length payloads
      → slice_index index.marks.items k ≡ length (front (take (64 * k) payloads))

-- the same places
pub record IsSameIndex (old new : Index) : Type 0 where
  pub count : new.count ≡ old.count
  pub closed : new.closed ≡ old.closed
  pub marks : new.marks.items ≡ old.marks.items

-- with one record more, after which the closed gate stands at this place
pub record Adds (next : ℕ) (old new : Index) : Type 0 where
  pub count : new.count ≡ old.count + 1
  pub closed : new.closed ≡ next
  pub marked : new.count % 64 ≡ 0 → new.marks.items ≡ old.marks.items ++ next ∷ []
  pub unmarked : (new.count % 64 ≡ 0 → ⊥) → new.marks.items ≡ old.marks.items

-- the place of a gate after the record of this index
abbrev pub IsLimit : List (List ℕ) → ℕ → ℕ → Type 0
IsLimit payloads index place = (n : ℕ) × (index < n) × (place ≡ length (front (take n payloads)))

-- the place of the gate from which that record is found, and of one after it
pub record IsUnderMark (payloads : List (List ℕ)) (mark limit index : ℕ) : Type 0 where
  pub within : index < length payloads
  pub at : mark ≡ length (front (take (64 * (index / 64)) payloads))
  pub limited : IsLimit payloads index limit
