-- The items of a stream, from a place on.
use Rattle.std.specs.Prelude.{◌≡◌, ℕ, Bool, true, ◌==◌, ◌||◌, IsTrue, List, [], ◌∷◌, ◌++◌, length, drop}
use Rattle.std.specs.Prelude.{slice_index, ◌-◌}
use Rattle.fix_base.specs.Front.{NeverBegins}
use Rattle.fix_base.specs.Shape.{IsShape, IsFrame}

-- the bytes from a place on, and whether the place may be a mark
pub record UnreadBytes : Type 0 where
  pub may_mark : Bool
  pub bytes : List ℕ

-- the place is the first, or follows an SOH
abbrev pub ahead_of : List ℕ → ℕ → UnreadBytes
ahead_of stream place = record {
  may_mark = place == 0 || slice_index stream (place - 1) == 1;
  bytes = drop place stream;
}

pub data Item : Type 0 where
  Frame : (text : List ℕ) → Item
  Span : (text : List ℕ) → Item
  Byte : (byte : ℕ) → Item

abbrev pub text_of : Item → List ℕ
text_of (Frame text) = text
text_of (Span text) = text
text_of (Byte byte) = byte ∷ []

-- what the item says of the place where it stands
abbrev pub IsItem : UnreadBytes → Item → Type 0
IsItem a (Frame text) = IsTrue a.may_mark × IsFrame text
IsItem a (Span text) = IsTrue a.may_mark × IsShape text × (IsFrame text → ⊥)
IsItem a (Byte byte) = IsTrue a.may_mark → NeverBegins IsShape a.bytes

-- whether a mark may follow the text
abbrev pub ends_in_soh : List ℕ → Bool
ends_in_soh text = slice_index text (length text - 1) == 1

-- the item stands there, and this is after it
pub record Takes (a : UnreadBytes) (item : Item) (b : UnreadBytes) : Type 0 where
  pub is : IsItem a item
  pub spelled : a.bytes ≡ text_of item ++ b.bytes
  pub mark : b.may_mark ≡ ends_in_soh (text_of item)

-- no item stands there
pub record HasNoItem (a : UnreadBytes) : Type 0 where
  pub none : (item : Item) (b : UnreadBytes) → Takes a item b → ⊥

-- these items stand there one after the other, and this is after them
abbrev pub TakesAll : UnreadBytes → List Item → UnreadBytes → Type 0
TakesAll a [] b = a ≡ b
TakesAll a (item ∷ items) b = (between : UnreadBytes) × Takes a item between × TakesAll between items b

abbrev pub frames : List Item → List (List ℕ)
frames [] = []
frames (Frame text ∷ items) = text ∷ frames items
frames (Span text ∷ items) = frames items
frames (Byte byte ∷ items) = frames items

-- these are the items of the bytes, and the rest has none
pub record Reads (a : UnreadBytes) (items : List Item) (rest : UnreadBytes) : Type 0 where
  pub all : TakesAll a items rest
  pub end : HasNoItem rest

-- these are the frames of the stream's reading
pub record AreFramesOf (stream : List ℕ) (given : List (List ℕ)) : Type 0 where
  pub items : List Item
  pub rest : UnreadBytes
  pub reads : Reads (record { may_mark = true; bytes = stream }) items rest
  pub frames_are : given ≡ frames items
