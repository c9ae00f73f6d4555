-- An index of fields by their tags.
use Rattle.std.specs.Prelude.{◌≡◌, ℕ, ◌+◌, ◌*◌, ◌%◌, ◌==◌, ◌<◌, ◌≤◌, Bool, false, List, [], ◌∷◌, length, take}
use Rattle.std.specs.Prelude.{slice_index_or, slice_set, if◌then◌else◌, IsPermutation}
use Rattle.std.specs.List.{list_any}
use Rattle.std.specs.List.Sorted.{IsNonDecreasing}
use Rattle.fix_base.specs.Fields.{Field}

-- a tag with a place
abbrev pub key : ℕ → ℕ → ℕ
key tag place = tag * 18446744073709551616 + place

-- those of the fields, of which the first stands at this place
abbrev pub keys_from : ℕ → List Field → List ℕ
keys_from place [] = []
keys_from place (f ∷ fs) = key f.tag place ∷ keys_from (place + 1) fs

abbrev pub HasTagAt : List Field → ℕ → ℕ → Type 0
HasTagAt fs place tag = (d : Field) → (slice_index_or fs place d).tag ≡ tag

-- the keys of the fields in their order
pub record IsSortedIndex (fs : List Field) (index : List ℕ) : Type 0 where
  pub all : IsPermutation (keys_from 0 fs) index
  pub sorted : IsNonDecreasing index

-- more than 48 fields have an index
abbrev pub IsIndexOf : List Field → List ℕ → Type 0
IsIndexOf fs index = 48 < length fs → IsSortedIndex fs index

-- a field's tag ends in this byte
abbrev pub ends_in : ℕ → List Field → Bool
ends_in byte fs = list_any (λ f. f.tag % 256 == byte) fs

-- by the last byte of a tag one more than a place before which no tag ends in it
pub record IsSeated (fs : List Field) (seats : List ℕ) : Type 0 where
  pub before : (byte place : ℕ) → slice_index_or seats byte 0 ≡ place + 1 → ends_in byte (take place fs) ≡ false

-- the first that comes is seated
abbrev pub seat_taken : ℕ → ℕ → List ℕ → List ℕ
seat_taken byte place seats = if slice_index_or seats byte 0 == 0 then slice_set seats byte (place + 1) else seats

-- of at most 48 fields
abbrev pub AreSeats : List Field → List ℕ → Type 0
AreSeats fs seats = length fs ≤ 48 → IsSeated fs seats

-- the key at this place of the index is the least that isn't below what is looked for
pub record IsLeast (index : List ℕ) (wanted at : ℕ) : Type 0 where
  pub bound : at < length index
  pub enough : wanted ≤ slice_index_or index at 0
  pub least : (k : ℕ) → k < length index → wanted ≤ slice_index_or index k 0
      → slice_index_or index at 0 ≤ slice_index_or index k 0
