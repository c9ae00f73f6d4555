-- The records of a file as a function of its bytes. Of a file that has records they are these.
use Rattle.std.specs.Prelude.{ℕ, zero, suc, ◌==◌, nat_le, if◌then◌else◌, List, [], ◌∷◌, length, take, drop, slice_index}
use Rattle.std.specs.Int.{w32, from_be_bytes}
use Rattle.fix_journal.specs.Format.{OPEN}

-- the length of the payload whose record has these bytes after its gate
abbrev pub size_in : List ℕ → ℕ
size_in rest = from_be_bytes w32 (take 4 rest)

-- at most so many records from a gate on
abbrev pub payloads_from : ℕ → List ℕ → List (List ℕ)
payloads_from zero rest = []
payloads_from (suc most) [] = []
payloads_from (suc most) (gate ∷ rest) = if gate == OPEN then take (size_in rest) (drop 4 rest) ∷ payloads_from most
    (drop (size_in rest) (drop 4 rest)) else []

-- an unmade file has none
abbrev pub payloads_in : List ℕ → List (List ℕ)
payloads_in file = if nat_le 10 (length file) then
    (if slice_index file 0 == OPEN then payloads_from (length file) (drop 9 file) else []) else []
