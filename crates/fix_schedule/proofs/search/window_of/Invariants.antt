use Rattle.std.proofs.Common.{ℕ, ℤ, pos, ◌-ℤ◌, ◌<ℤ◌}
use Rattle.fix_schedule.specs.Window.{IsWindowOn}
use Rattle.fix_schedule.proofs.search.window_of.Given as goal

-- no later day has a window that the time lies in
abbrev pub invariant-loop-back : goal.invariant-loop-back
invariant-loop-back l = (later : ℤ) (window : ℕ × ℕ) → (l.last -ℤ pos l.back) <ℤ later → IsWindowOn l.hours l.time later window → ⊥
