-- How a list of writes and syncs is kept: the written bytes stand one after another.
use Rattle.std.specs.Prelude.{ℕ, ◌+◌, List, [], ◌∷◌, take, drop}
use Rattle.fix_disk.specs.Past.{Step as PastStep, Change as PastChange, Wrote, Synced}
use Rattle.fix_disk.specs.declared.log.Step.{Step}
use Rattle.fix_disk.specs.declared.log.Change.{Change}
use Rattle.fix_disk.specs.declared.log.Change.TheVariants.{Write, Sync}

abbrev pub change_of : Change → List ℕ → PastChange
change_of (Write at count) written = Wrote at (take count written)
change_of Sync written = Synced

abbrev pub rest_of : Change → List ℕ → List ℕ
rest_of (Write at count) written = drop count written
rest_of Sync written = written

abbrev pub steps_of : List Step → List ℕ → List PastStep
steps_of [] written = []
steps_of (step ∷ later) written = record {
  moment = step.moment;
  change = change_of step.change written;
} ∷ steps_of later (rest_of step.change written)

abbrev pub count_of : Change → ℕ
count_of (Write at count) = count
count_of Sync = 0

abbrev pub counted : List Step → ℕ
counted [] = 0
counted (step ∷ later) = count_of step.change + counted later
