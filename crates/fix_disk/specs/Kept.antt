use Rattle.std.specs.Prelude.{◌≡◌, ◌⊎◌, ℕ, ◌+◌, ◌<◌, ◌≤◌, List, vec_len, if◌then◌else◌, ◌==◌}
use Rattle.fix_disk.specs.declared.log.Log.{Log}
use Rattle.fix_disk.specs.Past.{Step}
use Rattle.fix_disk.specs.Log.{steps_of}

abbrev pub log_steps : Log → List Step
log_steps l = steps_of l.steps.items l.written.items

-- nothing is kept, or there is room for one step more with so many bytes
abbrev pub LogTakes : Log → ℕ → Type 0
LogTakes l count = (l.most ≡ 0) ⊎ ((vec_len l.steps < l.most) × (vec_len l.written + count ≤ l.capacity))

-- how much is kept after a step with so many bytes
abbrev pub LogGrows : Log → ℕ → Log → Type 0
LogGrows old count new = (vec_len new.steps ≡ (if old.most == 0 then vec_len old.steps else vec_len old.steps + 1))
    × (vec_len new.written ≡ (if old.most == 0 then vec_len old.written else vec_len old.written + count))
