-- One step more in a list of writes and syncs.
use Rattle.std.proofs.Common.{◌≡◌, ℕ, ◌+◌, ◌≤◌, List, [], ◌∷◌, ◌++◌, length, refl, ap, arith, length-drop}
use Rattle.std.proofs.lemmas.List.{take_all, take-append-le, drop-append-le}
use Rattle.fix_disk.specs.Past.{Wrote, Synced}
use Rattle.fix_disk.specs.Log.{steps_of, change_of, rest_of, count_of, counted}
use Rattle.fix_disk.specs.declared.log.Step.{Step}
use Rattle.fix_disk.specs.declared.log.Change.{Change}
use Rattle.fix_disk.specs.declared.log.Change.TheVariants.{Write, Sync}

pub counted_push : (steps : List Step) (step : Step) → counted (steps ++ step ∷ []) ≡ counted steps + count_of step.change
counted_push [] step = omega arith
counted_push (s ∷ steps) step = omega (arith, counted_push steps step)

-- the written bytes of a step stand before those of a later one
change_front : (change : Change) (written bytes : List ℕ) → count_of change ≤ length written → change_of change (written ++ bytes) ≡ change_of change written
change_front (Write at count) written bytes le = ap (Wrote at) (take-append-le count written bytes le)
change_front Sync written bytes le = refl

rest_front : (change : Change) (written bytes : List ℕ) → count_of change ≤ length written → rest_of change (written ++ bytes) ≡ rest_of change written ++ bytes
rest_front (Write at count) written bytes le = drop-append-le count written bytes le
rest_front Sync written bytes le = refl

length-rest_of : (change : Change) (written : List ℕ) → count_of change ≤ length written → length (rest_of change written) + count_of change ≡ length written
length-rest_of (Write at count) written le = omega (arith, le, length-drop count written)
length-rest_of Sync written le = omega arith

pub steps_push_write : (steps : List Step) (moment at : ℕ) (written bytes : List ℕ) → counted steps ≡ length written
    → steps_of (steps ++ record { moment = moment; change = Write at (length bytes) } ∷ []) (written ++ bytes) ≡ steps_of steps written ++ record { moment = moment; change = Wrote at bytes } ∷ []
steps_push_write [] moment at [] bytes counts = ap (λ (l : List ℕ). record { moment = moment; change = Wrote at l } ∷ []) (take_all (length bytes) bytes (omega arith))
steps_push_write [] moment at (w ∷ written) bytes counts = absurd (omega (arith, counts))
steps_push_write (s ∷ steps) moment at written bytes counts =
    let le : count_of s.change ≤ length written = omega (arith, counts) in
    let rest = rest_of s.change written in
    rw (change_front s.change written bytes le, rest_front s.change written bytes le)
    (ap (λ l. record { moment = s.moment; change = change_of s.change written } ∷ l) (steps_push_write steps moment at rest bytes (omega (arith, counts, length-rest_of s.change written le))))

pub steps_push_sync : (steps : List Step) (step : Step) (written : List ℕ) → step.change ≡ Sync → steps_of (steps ++ step ∷ []) written ≡ steps_of steps written ++ record { moment = step.moment; change = Synced } ∷ []
steps_push_sync [] step written is = ap (λ (change : Change). record { moment = step.moment; change = change_of change written } ∷ []) is
steps_push_sync (s ∷ steps) step written is = ap (λ l. record { moment = s.moment; change = change_of s.change written } ∷ l) (steps_push_sync steps step (rest_of s.change written) is)
