-- A journal between its calls, and the steps of an append.
use Rattle.std.specs.Prelude.{◌≡◌, ◌⊎◌, ◌↔◌, ℕ, ◌+◌, ◌≤◌, List, [], ◌∷◌, ◌++◌, length, Some, IsSome, IfSome, Result}
use Rattle.std.specs.Prelude.{OnOk}
use Rattle.fix_base.specs.Trace.{Rises}
use Rattle.fix_disk.specs.Disk.{DiskSeen, Only, failures}
use Rattle.fix_disk.specs.Moments.{LeavesOnly}
use Rattle.fix_disk.specs.declared.disk.DiskFailed.{DiskFailed}
use Rattle.fix_journal.specs.Format.{IsPayload, body_of, front, IsJournal}

-- the file has these records, and all of it is on the disk
pub record IsAtRest (seen : DiskSeen) (end : ℕ) (payloads : List (List ℕ)) : Type 0 where
  pub file : List ℕ
  pub is : seen.bytes ≡ Some file
  pub journal : IsJournal file payloads
  pub at : end ≡ length (front payloads)
  pub durable : seen.TellsImages → Only file seen.image

-- the records from before, or those and one more
abbrev pub IsEither : List (List ℕ) → List ℕ → List ℕ → Type 0
IsEither payloads payload file = IsJournal file payloads ⊎ IsJournal file (payloads ++ payload ∷ [])

-- What an append does to a disk: at the closed gate's place, of the payload whose length, bytes and closed
-- gate are staged.
pub record Appends {T : Type 0} (answer : Result T DiskFailed) (gate : ℕ) (staged : List ℕ)
    (old new : DiskSeen) : Type 0 where
  pub kept : (payloads : List (List ℕ)) (payload : List ℕ) → IsAtRest old gate payloads → IsPayload payload → staged
      ≡ body_of payload ++ 0 ∷ []
      → OnOk answer (IsAtRest new (gate + length staged) (payloads ++ payload ∷ []))
  -- a crash at any moment of it leaves the records from before, or those and the new one
  pub any_moment : (payloads : List (List ℕ)) (payload : List ℕ) → IsAtRest old gate payloads → IsPayload payload
      → staged ≡ body_of payload ++ 0 ∷ []
      → LeavesOnly old new (IsEither payloads payload)
  pub now : (payloads : List (List ℕ)) (payload : List ℕ) → IsAtRest old gate payloads → IsPayload payload → staged
      ≡ body_of payload ++ 0 ∷ []
      → new.TellsImages → (c : List ℕ) → new.image c → IsEither payloads payload c
  -- and so does what is read after it
  pub as_read : (payloads : List (List ℕ)) (payload : List ℕ) → IsAtRest old gate payloads → IsPayload payload
      → staged ≡ body_of payload ++ 0 ∷ []
      → IfSome new.bytes (IsEither payloads payload)
  pub tells_bytes : IsSome new.bytes ↔ IsSome old.bytes
  pub tells_images : new.TellsImages ↔ old.TellsImages
  pub cause : Rises (failures answer) old.faults new.faults
  pub calls : IsSome old.bytes → new.clock ≤ old.clock + 4
