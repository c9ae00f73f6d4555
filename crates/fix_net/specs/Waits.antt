-- How long reads of a socket wait.
use Rattle.std.specs.Prelude.{ℕ, ◌*◌, ◌==◌, min, if◌then◌else◌}
use Rattle.fix_outside.specs.declared.connection.ReadTurn.{ReadTurn}
use Rattle.fix_outside.specs.declared.connection.ReadTurn.TheVariants as read

-- after a read that came to this and waited so many milliseconds: only where nothing came there is a wait, at first
-- of one, then of twice the last, and of 16 at most
abbrev pub wait_after : ReadTurn → ℕ → ℕ
wait_after read.Idle wait = if wait == 0 then 1 else min (2 * wait) 16
wait_after (read.Bytes n) wait = 0
wait_after read.End wait = 0
wait_after read.Failed wait = 0
wait_after read.OutOfMemory wait = 0
