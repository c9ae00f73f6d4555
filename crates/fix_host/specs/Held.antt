-- A connection of which bytes were read ahead.
use Rattle.std.specs.Prelude.{◌≡◌, ℕ, ◌+◌, ◌<◌, ◌≤◌, vec_len, vec_capacity, min, List, [], length, take, drop, option_map}
use Rattle.fix_base.specs.Parts.{left_before}
use Rattle.fix_parts.specs.Link.{LinkSeen, LinkReads}
use Rattle.fix_outside.specs.declared.connection.ReadTurn.{ReadTurn}
use Rattle.fix_outside.specs.declared.connection.ReadTurn.TheVariants as read
use Rattle.fix_host.specs.declared.held.Held.{Held}

-- the bytes that it gives first
abbrev pub ahead_of : {L : Type 0} → Held L → List ℕ
ahead_of h = drop h.given h.unread.items

-- the connection itself
abbrev pub inner_of : {L : Type 0} → Held L → L
inner_of h = h.link

-- it can keep so many more bytes ahead, without memory
abbrev pub HasRoomFor : {L : Type 0} → Held L → ℕ → Type 0
HasRoomFor h count = vec_len h.unread + count ≤ vec_capacity h.unread

-- what is seen of it, where this is seen of the connection itself: the bytes come as a piece in front
abbrev pub held_seen : List ℕ → LinkSeen → LinkSeen
held_seen unread inner = record {
  to_come = option_map (left_before unread) inner.to_come;
  written = inner.written;
  room = inner.room;
  faults = inner.faults;
}

-- a read gives of the bytes ahead, and only after these of the connection
pub data HeldReads (turn : ReadTurn) (room : List ℕ) : (old new : List ℕ) → (inner inner' : LinkSeen) → Type 0 where
  of_ahead : (n : ℕ) (old : List ℕ) (inner : LinkSeen) → 0 < length old → n ≡ min (length old) (length room) → turn
      ≡ read.Bytes n → take n room ≡ take n old → HeldReads turn room old (drop n old) inner inner
  of_link : {inner inner' : LinkSeen} → LinkReads turn room inner inner' → HeldReads turn room [] [] inner inner'
