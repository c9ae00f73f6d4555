-- The bytes of a payload.
--
--   01  time in eight bytes, body                                        an App entry of the application
--   02  time in eight bytes, body                                        an App entry of the engine
--   03  time in eight bytes, kind in one byte, RefSeqNum in four bytes   an Admin entry
--   04  number in four bytes                                             the expected number
--   05  time in eight bytes                                              a store reset
--   06  how many entries in four bytes, expected number in four bytes    several entries, and the number that is
--       or 0, then of each entry the length of its payload in four       expected then
--       bytes and the payload
--   07  number in four bytes                                             a message that isn't to be sent again
--   08  time in eight bytes                                              a store reset that the counterparty is
--                                                                        asked for too
--   09  four bytes 0                                                     the counterparty has reset
--   0a  00000002                                                         the mark of version 2
--
-- Numbers have the most significant byte first.
use Rattle.std.specs.Prelude.{ℕ, List, [], ◌∷◌, ◌++◌, length}
use Rattle.std.specs.Int.{w32, w64, to_be_bytes}
use Rattle.fix_base.specs.declared.entry.By.{By}
use Rattle.fix_base.specs.declared.entry.Entry.{Entry}
use Rattle.fix_base.specs.declared.entry.Record.{Record}
use Rattle.fix_base.specs.declared.entry.By.TheVariants.{Caller, Engine}
use Rattle.fix_base.specs.declared.entry.Entry.TheVariants.{App, Admin}
use Rattle.fix_base.specs.declared.entry.Record.TheVariants.{Push, Expect, Many, Withhold, Reset, ResetAsk, Confirm}

-- who made an application message
abbrev pub mark_of : By → ℕ
mark_of Caller = 1
mark_of Engine = 2

abbrev pub spelled_entry : Entry → List ℕ
spelled_entry (App time by body) = mark_of by ∷ (to_be_bytes w64 time ++ body)
spelled_entry (Admin time kind about) = 3 ∷ (to_be_bytes w64 time ++ kind ∷ to_be_bytes w32 about)

-- entries one after another, each with its length before it
abbrev pub spelled_entries : List Entry → List ℕ
spelled_entries [] = []
spelled_entries (entry ∷ entries) = to_be_bytes w32 (length (spelled_entry entry))
    ++ (spelled_entry entry ++ spelled_entries entries)

abbrev pub spelled_many : List Entry → ℕ → List ℕ
spelled_many pushes number = to_be_bytes w32 (length pushes) ++ (to_be_bytes w32 number ++ spelled_entries pushes)

abbrev pub spelled : Record → List ℕ
spelled (Push entry) = spelled_entry entry
spelled (Expect number) = 4 ∷ to_be_bytes w32 number
spelled (Reset time) = 5 ∷ to_be_bytes w64 time
spelled (Many pushes number) = 6 ∷ spelled_many pushes number
spelled (Withhold number) = 7 ∷ to_be_bytes w32 number
spelled (ResetAsk time) = 8 ∷ to_be_bytes w64 time
spelled Confirm = 9 ∷ 0 ∷ 0 ∷ 0 ∷ 0 ∷ []

-- what a payload is
pub data Item : Type 0 where
  keeps : Record → Item
  marks : Item

abbrev pub MARK : List ℕ
MARK = 10 ∷ 0 ∷ 0 ∷ 0 ∷ 2 ∷ []

abbrev pub spelled_item : Item → List ℕ
spelled_item (keeps r) = spelled r
spelled_item marks = MARK
