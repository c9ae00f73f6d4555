-- The search for the first frame of a connection.
use Rattle.std.specs.Prelude.{ℕ, ◌-◌, ◌≤◌, List, length, take, drop}
use Rattle.fix_base.specs.Stream.{ahead_of}
use Rattle.fix_frame.specs.Seeks.{SkipsBy}
use Rattle.fix_host.specs.declared.looking.Looked.{Looked}
use Rattle.fix_host.specs.declared.looking.Looked.TheVariants as looked
use Rattle.fix_host.specs.Known.{stream_of, HasFirstFrame, HasNoFrame}

-- no frame stands before the place
abbrev pub IsLookedTo : List ℕ → ℕ → Type 0
IsLookedTo bytes place = SkipsBy (stream_of bytes) place (ahead_of bytes place).may_mark

-- the frame is the first
pub record LooksAt (bytes : List ℕ) (start end : ℕ) : Type 0 where
  pub order : start ≤ end
  pub inside : end ≤ length bytes
  pub first : HasFirstFrame bytes (take (end - start) (drop start bytes))

abbrev pub Looks : List ℕ → Looked → Type 0
Looks bytes (looked.Frame start end) = LooksAt bytes start end
Looks bytes (looked.Nothing place) = HasNoFrame bytes × IsLookedTo bytes place
