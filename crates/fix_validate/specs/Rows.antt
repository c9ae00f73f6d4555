-- A table of faults in their order, and what a message has of them.
use Rattle.std.specs.Prelude.{◌≡◌, ◌⊎◌, ℕ, Bool, IsTrue, List, [], ◌∷◌, Option, Some, None}
use Rattle.fix_base.specs.declared.fault.Fault.{Fault}

-- a fault, and what has to hold of a message for it to have the fault
pub record Row : Type 1 where
  pub holds : Type 0
  pub fault : Fault

-- SessionRejectReason (373) and RefTagID (371)
abbrev pub fault_at : ℕ → ℕ → Fault
fault_at reason tag = record { reason = reason; tag = Some tag }

-- a row that a test decides
abbrev pub tested : Bool → ℕ → ℕ → Row
tested test reason tag = record { holds = IsTrue test; fault = fault_at reason tag }

-- the faults of the rows that hold, in the order of the table
abbrev pub AreFaults : List Row → List Fault → Type 0
AreFaults [] faults = faults ≡ []
AreFaults (r ∷ rs) faults = (r.holds × (more : List Fault) × (faults ≡ r.fault ∷ more) × AreFaults rs more)
    ⊎ ((r.holds → ⊥) × AreFaults rs faults)

-- the first of a list
abbrev pub first : List Fault → Option Fault
first [] = None
first (fault ∷ faults) = Some fault

-- the fault of the first row that holds, or None where no row does
abbrev pub IsFirst : List Row → Option Fault → Type 0
IsFirst [] answer = answer ≡ None
IsFirst (r ∷ rs) answer = (r.holds × (answer ≡ Some r.fault)) ⊎ ((r.holds → ⊥) × IsFirst rs answer)

pub record Finds (rows : List Row) (answer : Option Fault) : Type 0 where
  pub is : IsFirst rows answer
