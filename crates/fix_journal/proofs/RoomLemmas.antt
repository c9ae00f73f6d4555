-- When the calls of a journal may fail on a disk that tells its room.
use Rattle.std.proofs.Common.{◌≡◌, ℕ, ◌+◌, ◌≤◌, List, [], ◌∷◌, ◌++◌, length, Option, Some, None, Result, Ok, Err, ◌∙◌, ap, subst, arith, length-append}
use Rattle.std.specs.Prelude.{OnErr}
use Rattle.fix_disk.specs.Disk.{DiskSeen, MayFail, failures}
use Rattle.fix_disk.specs.Moments.{NeedsRoom}
use Rattle.fix_disk.specs.declared.disk.DiskFailed.{DiskFailed}
use Rattle.fix_journal.specs.Format.{OPEN, body_of, front, file_size}
use Rattle.fix_journal.proofs.Records.{front_push}

may_fail_more : (room : Option ℕ) (end more : ℕ) → end ≤ more → MayFail room end → MayFail room more
may_fail_more None end more le may = tt
may_fail_more (Some room) end more le may = omega (arith, le, may)

pub needs_more : (failed end more : ℕ) (old new : DiskSeen) → end ≤ more → NeedsRoom failed end old new → NeedsRoom failed more old new
needs_more failed end more old new le needs = record { same = needs.same; need = λ some. may_fail_more old.room end more le (needs.need some) }

pub needs_then : (failed end : ℕ) (old mid new : DiskSeen) → mid.room ≡ old.room → NeedsRoom failed end mid new → NeedsRoom failed end old new
needs_then failed end old mid new same needs = record { same = needs.same ∙ same; need = λ some. subst (λ room. MayFail room end) same (needs.need some) }

-- of one call
pub needs : {T : Type 0} (answer : Result T DiskFailed) (end : ℕ) (old new : DiskSeen) → new.room ≡ old.room → OnErr answer (MayFail old.room end) → NeedsRoom (failures answer) end old new
needs (Ok x) end old new same need = record { same = same; need = λ some. absurd (omega (arith, some)) }
needs (Err e) end old new same need = record { same = same; need = λ some. need }

-- one record more
pub size_push : (payloads : List (List ℕ)) (payload : List ℕ) → file_size (payloads ++ payload ∷ []) ≡ length (front payloads) + 1 + length (body_of payload ++ 0 ∷ [])
size_push payloads payload = omega (arith, ap length (front_push payloads payload (0 ∷ [])), length-append (front payloads) (OPEN ∷ (body_of payload ++ 0 ∷ [])), length-append (front (payloads ++ payload ∷ [])) (0 ∷ []))

-- an append at the gate behind the records
pub needs_record : (failed gate : ℕ) (payloads : List (List ℕ)) (payload staged : List ℕ) (old new : DiskSeen) → gate ≡ length (front payloads) → staged ≡ body_of payload ++ 0 ∷ []
    → NeedsRoom failed (gate + 1 + length staged) old new → NeedsRoom failed (file_size (payloads ++ payload ∷ [])) old new
needs_record failed gate payloads payload staged old new at is = needs_more failed (gate + 1 + length staged) (file_size (payloads ++ payload ∷ [])) old new (omega (arith, size_push payloads payload, at, ap length is))
