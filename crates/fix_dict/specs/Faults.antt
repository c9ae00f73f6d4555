-- Why a JSON value is no dictionary: the first wrong place, and its path.
use Rattle.std.specs.Prelude.{◌≡◌, ℕ, List, [], ◌∷◌, ◌++◌, Option, Some, None, Result, Ok, Err}
use Rattle.std.specs.Fmt.{decimal}
use Rattle.fix_dict.specs.declared.fault.DictFault.{DictFault}
use Rattle.fix_dict.specs.declared.fault.DictFault.TheVariants.{NotJson, BadShape, DuplicateTag, UnknownTag}
use Rattle.fix_dict.specs.declared.fault.DictFault.TheVariants.{DuplicateType, DepthPassed, OutOfMemory}

-- ---- paths

-- what stands after an item's index
abbrev pub behind_index : List ℕ → List ℕ
behind_index [] = []
behind_index (b ∷ path) = 46 ∷ b ∷ path

-- the path of a place inside the item at the index of the array with the name
abbrev pub item_path : List ℕ → ℕ → List ℕ → List ℕ
item_path name index path = name ++ 91 ∷ [] ++ decimal index ++ 93 ∷ [] ++ behind_index path

-- a fault of an item, as one of the whole
abbrev pub within : List ℕ → ℕ → DictFault → DictFault
within name index NotJson = NotJson
within name index (BadShape path) = BadShape (item_path name index path)
within name index (DuplicateTag tag) = DuplicateTag tag
within name index (UnknownTag tag) = UnknownTag tag
within name index (DuplicateType type) = DuplicateType type
within name index DepthPassed = DepthPassed
within name index OutOfMemory = OutOfMemory

-- ---- one after another

-- goes on after what is right, so the first that is wrong is the answer
abbrev pub and_then : {A B : Type 0} → Result A DictFault → (A → Result B DictFault) → Result B DictFault
and_then (Ok a) f = f a
and_then (Err fault) f = Err fault

abbrev pub inside : {A : Type 0} → List ℕ → ℕ → Result A DictFault → Result A DictFault
inside name index (Ok a) = Ok a
inside name index (Err fault) = Err (within name index fault)

-- what has to be there and of its form
abbrev pub need : {A : Type 0} → Option A → List ℕ → Result A DictFault
need (Some a) path = Ok a
need None path = Err (BadShape path)

-- ---- what contracts say of an answer

abbrev pub IsMemory : DictFault → Type 0
IsMemory fault = fault ≡ OutOfMemory

-- the fault of this answer, unless it is out of memory
abbrev pub Tells : {A : Type 0} → Result A DictFault → DictFault → Type 0
Tells answer fault = (IsMemory fault → ⊥) → answer ≡ Err fault
