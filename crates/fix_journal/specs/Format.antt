-- The journal's file.
--
--   place 0        the file's gate: 1 is made, anything else is unmade
--   places 1 to 8  the name FIXJRNL1
--   from 9 on      records, then one closed gate
--
-- A record is an open gate, its payload's length as four bytes with the most significant first, and the payload.
use Rattle.std.specs.Prelude.{◌≡◌, ◌≢◌, ◌⊎◌, ℕ, ◌+◌, ◌≤◌, List, [], ◌∷◌, ◌++◌, length, take, drop, slice_index, All}
use Rattle.std.specs.Int.{w32, to_be_bytes}

-- a gate that lets what stands after it count; any other byte is a closed gate
abbrev pub OPEN : ℕ
OPEN = 1

-- FIXJRNL1 in ASCII
abbrev pub NAME : List ℕ
NAME = 70 ∷ 73 ∷ 88 ∷ 74 ∷ 82 ∷ 78 ∷ 76 ∷ 49 ∷ []

abbrev pub MOST_PAYLOAD : ℕ
MOST_PAYLOAD = 1114112

abbrev pub IsPayload : List ℕ → Type 0
IsPayload payload = (1 ≤ length payload) × (length payload ≤ MOST_PAYLOAD)

-- the length and the payload, as they stand after a record's gate
abbrev pub body_of : List ℕ → List ℕ
body_of payload = to_be_bytes w32 (length payload) ++ payload

abbrev pub recorded : List (List ℕ) → List ℕ
recorded [] = []
recorded (payload ∷ payloads) = OPEN ∷ (body_of payload ++ recorded payloads)

-- a made file up to the gate after these records
abbrev pub front : List (List ℕ) → List ℕ
front payloads = OPEN ∷ (NAME ++ recorded payloads)

-- the length of a file up to the closed gate after these records, and with it
abbrev pub file_size : List (List ℕ) → ℕ
file_size payloads = length (front payloads) + 1

abbrev pub IsMade : List ℕ → Type 0
IsMade file = (10 ≤ length file) × (slice_index file 0 ≡ OPEN)

-- the records before the first closed gate are these; what stands after it has no meaning
pub record IsJournal (file : List ℕ) (payloads : List (List ℕ)) : Type 0 where
  pub gate : ℕ
  pub behind : List ℕ
  pub is : file ≡ front payloads ++ gate ∷ behind
  pub closed : gate ≢ OPEN
  pub each : All IsPayload payloads

-- an unmade file has no records
abbrev pub HasRecords : List ℕ → List (List ℕ) → Type 0
HasRecords file payloads = ((IsMade file → ⊥) × (payloads ≡ [])) ⊎ IsJournal file payloads

-- no record stands there with one more byte after it
abbrev pub HoldsNoRecord : List ℕ → Type 0
HoldsNoRecord rest = (payload : List ℕ) (next : ℕ) (later : List ℕ) → IsPayload payload → rest ≡ body_of payload
    ++ next ∷ later → ⊥

-- an open gate after these records, and no record there
pub record Breaks (file : List ℕ) (place : ℕ) : Type 0 where
  pub payloads : List (List ℕ)
  pub rest : List ℕ
  pub is : file ≡ front payloads ++ OPEN ∷ rest
  pub each : All IsPayload payloads
  pub at : place ≡ length (front payloads)
  pub none : HoldsNoRecord rest

-- the first place at which a made file breaks the format
abbrev pub IsDamagedAt : List ℕ → ℕ → Type 0
IsDamagedAt file place = IsMade file × (((place ≡ 1) × (take 8 (drop 1 file) ≢ NAME)) ⊎ Breaks file place)
