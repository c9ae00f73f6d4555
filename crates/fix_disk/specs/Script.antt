-- Which calls of a thing in memory fail, and how much it may keep.
use Rattle.std.specs.Prelude.{ℕ, ◌+◌, min, List, [], ◌∷◌, Option, Some, None, Contains}
use Rattle.fix_base.specs.Trace.{LAST_COUNT}
use Rattle.fix_disk.specs.declared.failing.Failing.{Failing}

-- the calls that are listed to fail, how many calls there were, and how much may be kept
pub record Script : Type 0 where
  pub fail : List ℕ
  pub calls : ℕ
  pub capacity : ℕ

-- the room that is told: none where calls are listed to fail
abbrev pub told_room : List ℕ → ℕ → Option ℕ
told_room [] room = Some room
told_room (number ∷ numbers) room = None

-- one that was just made
abbrev pub script_from : List ℕ → ℕ → Script
script_from fail capacity = record { fail = fail; calls = 0; capacity = capacity }

-- calls are numbered from 1; the last number stays
abbrev pub next_number : ℕ → ℕ
next_number calls = min (calls + 1) LAST_COUNT

abbrev pub next_call : Script → ℕ
next_call s = next_number s.calls

-- the next call is listed to fail
abbrev pub FailsNext : Script → Type 0
FailsNext s = Contains s.fail (next_call s)

abbrev pub script_with : Failing → ℕ → Script
script_with failing capacity = record { fail = failing.numbers.items; calls = failing.calls; capacity = capacity }
