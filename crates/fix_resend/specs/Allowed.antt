-- What an end may answer a ResendRequest with.
use Rattle.std.specs.Prelude.{ℕ, ◌<◌, List, [], ◌∷◌}
use Rattle.fix_base.specs.End.{End, MayComeAgain}
use Rattle.fix_base.specs.Wrote.{SkipsBetween}
use Rattle.fix_resend.specs.Cut.{Out, Repeat, Gap}

-- a repeat is of a message that may come again, and a gap fill passes only over others
pub data IsAllowed (e : End) : Out → Type 0 where
  repeat : (n : ℕ) → MayComeAgain e n → IsAllowed e (Repeat n)
  gap : (from next : ℕ) → from < next → SkipsBetween e from next → IsAllowed e (Gap from next)

pub data AreAllowed (e : End) : List Out → Type 0 where
  none : AreAllowed e []
  more : {out : Out} {outs : List Out} → IsAllowed e out → AreAllowed e outs → AreAllowed e (out ∷ outs)
