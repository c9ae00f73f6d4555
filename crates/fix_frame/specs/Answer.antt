-- What stands at a place of a stream, as `frame_at` answers it.
use Rattle.std.specs.Prelude.{◌≡◌, ◌<◌, ℕ, List, [], ◌∷◌, ◌++◌, length}
use Rattle.fix_base.specs.Stream.{UnreadBytes, Item, Frame, text_of, IsItem, HasNoItem, frames}
use Rattle.fix_frame.specs.declared.item.Framed.{Framed}
use Rattle.fix_frame.specs.declared.item.Framed.TheVariants as answers

-- the item stands at the front
pub record Stands (a : UnreadBytes) (item : Item) : Type 0 where
  pub is : IsItem a item
  pub rest : List ℕ
  pub spelled : a.bytes ≡ text_of item ++ rest

-- an item that is no frame and takes so many bytes
pub record Skipped (a : UnreadBytes) (n : ℕ) : Type 0 where
  pub item : Item
  pub stands : Stands a item
  pub no_frame : frames (item ∷ []) ≡ []
  pub long : length (text_of item) ≡ n

-- no item stands there, and fewer bytes are there than the longest frame has
pub record Waits (a : UnreadBytes) : Type 0 where
  pub none : HasNoItem a
  pub few : length a.bytes < 1048612

abbrev pub Answers : UnreadBytes → Framed → Type 0
Answers a (answers.Frame frame) = Stands a (Frame frame.now)
Answers a (answers.Skip n) = Skipped a n
Answers a answers.More = Waits a
