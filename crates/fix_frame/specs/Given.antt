-- What is seen of a reader, and what it gives.
use Rattle.std.specs.Prelude.{◌≡◌, ◌+◌, ◌<◌, ℕ, List, [], ◌++◌, length, Option, None, Some}
use Rattle.fix_base.specs.Stream.{UnreadBytes, Item, Frame, Takes, TakesAll, frames}
use Rattle.fix_frame.specs.Answer.{Waits}

-- the bytes from its place on, and how many bytes it keeps in all: these, and those before them
-- that were read and not let go of
pub record ReaderSeen : Type 0 where
  pub unread : UnreadBytes
  pub kept : ℕ

-- beside the bytes from its place on it keeps fewer than 65,536
abbrev pub KeepsFew : ReaderSeen → Type 0
KeepsFew r = r.kept < length r.unread.bytes + 65536

-- with fewer than so many bytes from the place on no item stands there, whichever bytes come
pub record WaitsBelow (a : UnreadBytes) (n : ℕ) : Type 0 where
  pub waits : (more : List ℕ) → length (a.bytes ++ more) < n
      → Waits (record { may_mark = a.may_mark; bytes = a.bytes ++ more })

-- items without a frame, from one place to another
pub record Skips (a b : UnreadBytes) : Type 0 where
  pub items : List Item
  pub take : TakesAll a items b
  pub none : frames items ≡ []

-- the first frame from a on, after which is b
pub record GivesFrame (a b : UnreadBytes) (frame : List ℕ) : Type 0 where
  pub at : UnreadBytes
  pub skips : Skips a at
  pub frame_there : Takes at (Frame frame) b

-- no frame from a on: what is garbled is skipped up to b, where the bytes do not decide yet
pub record GivesNone (a b : UnreadBytes) : Type 0 where
  pub skips : Skips a b
  pub end : Waits b

-- a frame was given; nothing was let go of, since the frame is lent from what is kept
pub record NextFrame (a b : ReaderSeen) (frame : List ℕ) : Type 0 where
  pub gives : GivesFrame a.unread b.unread frame
  pub kept : b.kept ≡ a.kept

-- none was, and little is kept beside the bytes that wait
pub record NextNone (a b : ReaderSeen) : Type 0 where
  pub gives : GivesNone a.unread b.unread
  pub few : KeepsFew b

abbrev pub GivesNext : ReaderSeen → ReaderSeen → Option (List ℕ) → Type 0
GivesNext a b (Some frame) = NextFrame a b frame
GivesNext a b None = NextNone a b
