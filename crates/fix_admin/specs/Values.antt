-- What a value of a session message says, or what is wrong with it: 1 where it is absent, 4 where it
-- is empty, 6 where it isn't of its form, 5 where it lies outside the bounds.
use Rattle.std.specs.Prelude.{ℕ, ◌-◌, ◌==◌, ◌&&◌, ◌||◌, nat_lt, nat_le, if◌then◌else◌, Bool, true, false, List, []}
use Rattle.std.specs.Prelude.{◌∷◌, length, bytes_eq, codes, ℤ, pos, negsuc, neg_ℤ, Option, Some, None, option_map}
use Rattle.std.specs.Prelude.{Result, Ok, Err}
use Rattle.std.specs.Str.{all_ascii_digits}
use Rattle.std.specs.Str.Parse.{digits_value}
use Rattle.fix_base.specs.Fields.{Field}
use Rattle.fix_base.specs.Says.{value_of}
pub use Rattle.fix_base.specs.declared.fault.Fault.{Fault}

-- SessionRejectReason (373) and RefTagID (371)
abbrev pub fault_of : ℕ → ℕ → Fault
fault_of reason tag = record { reason = reason; tag = Some tag }

-- goes on where nothing is wrong, so that the first fault is the answer
abbrev pub and_then : {A B : Type 0} → Result A Fault → (A → Result B Fault) → Result B Fault
and_then (Ok a) f = f a
and_then (Err fault) f = Err fault

-- ---- forms

-- digits, at most 15 of them after leading zeros
abbrev pub size_in : List ℕ → Option ℕ
size_in v =
    if all_ascii_digits v && (nat_lt 0 (length v) && nat_lt (digits_value 10 v) 1000000000000000) then Some
    (digits_value 10 v)
    else None

-- an `int`: digits, before which a minus may stand
abbrev pub int_in : List ℕ → Option ℤ
int_in [] = None
int_in (b ∷ bs) = if b == 45 then option_map (λ n. neg_ℤ (pos n)) (size_in bs) else option_map pos (size_in (b ∷ bs))

-- the int, where it lies from `low` to `high`
abbrev pub within : ℕ → ℕ → ℕ → Option ℤ → Result ℕ Fault
within tag low high None = Err (fault_of 6 tag)
within tag low high (Some (pos n)) = if nat_le low n && nat_le n high then Ok n else Err (fault_of 5 tag)
within tag low high (Some (negsuc n)) = Err (fault_of 5 tag)

-- a `Boolean`
abbrev pub yes_or_no : ℕ → List ℕ → Result Bool Fault
yes_or_no tag v = if bytes_eq v (codes "Y") then Ok true else
    (if bytes_eq v (codes "N") then Ok false else Err (fault_of 6 tag))

-- a flag is not set where it is absent
abbrev pub flag_in : ℕ → Option (List ℕ) → Result Bool Fault
flag_in tag None = Ok false
flag_in tag (Some v) = yes_or_no tag v

-- ---- presence

-- a value that has to be there
abbrev pub need : ℕ → Option (List ℕ) → Result (List ℕ) Fault
need tag None = Err (fault_of 1 tag)
need tag (Some []) = Err (fault_of 4 tag)
need tag (Some (b ∷ bs)) = Ok (b ∷ bs)

-- a value that may be absent
abbrev pub allow : ℕ → Option (List ℕ) → Result (Option (List ℕ)) Fault
allow tag None = Ok None
allow tag (Some []) = Err (fault_of 4 tag)
allow tag (Some (b ∷ bs)) = Ok (Some (b ∷ bs))

-- ---- fields

-- a number that has to be there, from `low` to `high`
abbrev pub number_at : ℕ → ℕ → ℕ → List Field → Result ℕ Fault
number_at tag low high fs = and_then (need tag (value_of tag fs)) (λ v. within tag low high (int_in v))

-- a flag that may be absent
abbrev pub flag_at : ℕ → List Field → Result Bool Fault
flag_at tag fs = and_then (allow tag (value_of tag fs)) (flag_in tag)

-- the versions 4 and 6 to 9, as digits
abbrev pub is_known : ℕ → Bool
is_known b = b == 52 || (b == 54 || (b == 55 || (b == 56 || b == 57)))

-- DefaultApplVerID (1137) of a version that is known: 4 and 6 to 9
abbrev pub version_in : Option (List ℕ) → Option ℕ
version_in None = None
version_in (Some []) = None
version_in (Some (b ∷ [])) = if is_known b then Some (b - 48) else None
version_in (Some (b ∷ c ∷ bs)) = None
