-- What a file comes to as a function of its bytes: what is told of a store's end.
use Rattle.std.specs.Prelude.{ℕ, zero, suc, ◌==◌, if◌then◌else◌, Bool, List, [], ◌∷◌, take, drop, map, slice_index}
use Rattle.std.specs.Prelude.{Option, option_map}
use Rattle.std.specs.Int.{w32, w64, from_be_bytes}
use Rattle.fix_base.specs.declared.entry.Entry.{Entry}
use Rattle.fix_base.specs.declared.entry.By.TheVariants.{Caller, Engine}
use Rattle.fix_base.specs.declared.entry.Entry.TheVariants.{App, Admin}
use Rattle.fix_base.specs.declared.entry.Record.TheVariants.{Push, Expect, Many, Withhold, Reset, ResetAsk, Confirm}
use Rattle.fix_base.specs.End.{End}
use Rattle.fix_disk.specs.Disk.{DiskSeen}
use Rattle.fix_journal.specs.Payloads.{payloads_in, size_in}
use Rattle.fix_store.specs.Spelling.{Item, keeps, marks}
use Rattle.fix_store.specs.Reading.{Content, new_content, taken_all}

-- the entry that is spelled so; of other bytes any entry
abbrev pub entry_in : List ℕ → Entry
entry_in [] = Admin 0 0 0
entry_in (mark ∷ rest) =
    if mark == 1 then App (from_be_bytes w64 (take 8 rest)) Caller (drop 8 rest)
    else (if mark == 2 then App (from_be_bytes w64 (take 8 rest)) Engine (drop 8 rest)
    else Admin (from_be_bytes w64 (take 8 rest)) (slice_index rest 8) (from_be_bytes w32 (drop 9 rest)))

-- so many entries that are spelled one after another
abbrev pub entries_in : ℕ → List ℕ → List Entry
entries_in zero rest = []
entries_in (suc n) rest = entry_in (take (size_in rest) (drop 4 rest))
    ∷ entries_in n (drop (size_in rest) (drop 4 rest))

-- what is spelled so; of other bytes any item
abbrev pub item_in : List ℕ → Item
item_in [] = marks
item_in (mark ∷ rest) =
    if mark == 4 then keeps (Expect (from_be_bytes w32 rest))
    else (if mark == 5 then keeps (Reset (from_be_bytes w64 rest))
    else (if mark == 6 then keeps
    (Many (entries_in (from_be_bytes w32 (take 4 rest)) (drop 8 rest)) (from_be_bytes w32 (take 4 (drop 4 rest))))
    else (if mark == 7 then keeps (Withhold (from_be_bytes w32 rest))
    else (if mark == 8 then keeps (ResetAsk (from_be_bytes w64 rest))
    else (if mark == 9 then keeps Confirm
    else (if mark == 10 then marks else keeps (Push (entry_in (mark ∷ rest)))))))))

-- what a file of a store comes to
abbrev pub content_in : List ℕ → Content
content_in file = taken_all new_content (map item_in (payloads_in file))

-- the end of a file that has one
abbrev pub end_in : List ℕ → End
end_in file = (content_in file).end

-- whether the mark of version 2 is in a file
abbrev pub is_marked : List ℕ → Bool
is_marked file = (content_in file).marked

-- the end that a disk tells
abbrev pub told_end : DiskSeen → Option End
told_end seen = option_map end_in seen.bytes
