-- How often threads couldn't be started.
use Rattle.std.specs.Prelude.{ℕ}
use Rattle.fix_host.specs.declared.spawner.ThreadSpawner.{ThreadSpawner}
use Rattle.fix_host.specs.declared.spawner.FailingSpawner.{FailingSpawner}

abbrev pub thread_faults : ThreadSpawner → ℕ
thread_faults s = s.faults

abbrev pub failing_faults : FailingSpawner → ℕ
failing_faults s = s.faults
