-- The search for the next frame among bytes.
use Rattle.std.specs.Prelude.{◌≡◌, ℕ, ◌-◌, ◌≤◌, Bool, List, [], length, take, drop}
use Rattle.fix_base.specs.Stream.{UnreadBytes, Item, Frame, Takes, TakesAll, frames}
use Rattle.fix_frame.specs.Answer.{Waits}
use Rattle.fix_frame.specs.declared.seeking.Sought.{Sought}
use Rattle.fix_frame.specs.declared.seeking.Sought.TheVariants.{Here, Nowhere}

-- so many bytes are skipped
pub record SkipsBy (a : UnreadBytes) (n : ℕ) (mark : Bool) : Type 0 where
  pub items : List Item
  pub take : TakesAll a items (record { may_mark = mark; bytes = drop n a.bytes })
  pub none : frames items ≡ []
  pub inside : n ≤ length a.bytes

-- a frame stands after what is skipped
pub record SeeksFrame (a : UnreadBytes) (start end : ℕ) (mark : Bool) : Type 0 where
  pub before : Bool
  pub skips : SkipsBy a start before
  pub frame : Takes (record { may_mark = before; bytes = drop start a.bytes })
      (Frame (take (end - start) (drop start a.bytes))) (record { may_mark = mark; bytes = drop end a.bytes })
  pub order : start ≤ end
  pub inside : end ≤ length a.bytes

-- nothing stands after it yet
pub record SeeksNone (a : UnreadBytes) (end : ℕ) (mark : Bool) : Type 0 where
  pub skips : SkipsBy a end mark
  pub none : Waits (record { may_mark = mark; bytes = drop end a.bytes })

abbrev pub Seeks : UnreadBytes → Sought → Type 0
Seeks a (Here start end mark) = SeeksFrame a start end mark
Seeks a (Nowhere end mark) = SeeksNone a end mark
