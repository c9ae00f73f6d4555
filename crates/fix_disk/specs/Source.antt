-- What is seen of a place that files come from, and what a read gives.
use Rattle.std.specs.Prelude.{◌≡◌, ◌⊎◌, ℕ, ◌<◌, ◌≤◌, List, [], ◌∷◌, length, Option, IfSome, Result, Ok, Err, IfOk, ⊤}
use Rattle.fix_base.specs.Trace.{Rises}
use Rattle.fix_disk.specs.declared.source.SourceFault.{SourceFault}
use Rattle.fix_disk.specs.declared.source.SourceFault.TheVariants.{Failed, TooLong, OutOfMemory}

pub record SourceSeen : Type 0 where
  pub files : Option (List (List ℕ × List ℕ))  -- pairs of a name and its bytes
  pub faults : ℕ

-- the first file of this name has these bytes
abbrev pub IsFile : List ℕ → List ℕ → List (List ℕ × List ℕ) → Type 0
IsFile name bytes [] = ⊥
IsFile name bytes (file ∷ later) = ((file.0 ≡ name) × (file.1 ≡ bytes))
    ⊎ ((file.0 ≡ name → ⊥) × IsFile name bytes later)

-- what a read gives, where the files are told
abbrev pub ReadFrom : Result (List ℕ) SourceFault → List ℕ → ℕ → List (List ℕ × List ℕ) → Type 0
ReadFrom (Ok bytes) name limit files = IsFile name bytes files × (length bytes ≤ limit)
ReadFrom (Err Failed) name limit files = ⊤
ReadFrom (Err TooLong) name limit files = (bytes : List ℕ) × IsFile name bytes files × (limit < length bytes)
ReadFrom (Err OutOfMemory) name limit files = (bytes : List ℕ) × IsFile name bytes files × (length bytes ≤ limit)

-- what was read is never more than was asked for
abbrev pub IsWithin : Result (List ℕ) SourceFault → ℕ → Type 0
IsWithin answer limit = IfOk answer (λ bytes. length bytes ≤ limit)

-- how often a read failed
abbrev pub source_failures : Result (List ℕ) SourceFault → ℕ
source_failures (Ok bytes) = 0
source_failures (Err Failed) = 1
source_failures (Err TooLong) = 0
source_failures (Err OutOfMemory) = 0

pub record SourceReads (answer : Result (List ℕ) SourceFault) (name : List ℕ) (limit : ℕ)
    (old new : SourceSeen) : Type 0 where
  pub read : IfSome old.files (ReadFrom answer name limit)
  pub within : IsWithin answer limit
  pub files : new.files ≡ old.files
  pub faults : Rises (source_failures answer) old.faults new.faults
