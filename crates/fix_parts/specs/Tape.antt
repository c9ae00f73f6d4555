-- The acts that are noted on a tape.
use Rattle.std.specs.Prelude.{ℕ, List, [], length}
use Rattle.fix_base.specs.declared.act.Act.{Act}
use Rattle.fix_base.specs.declared.act.Act.TheVariants as act
use Rattle.fix_base.specs.declared.entry.Entry.{Entry}
use Rattle.fix_base.specs.declared.entry.Entry.TheVariants.{App, Admin}
use Rattle.fix_base.specs.declared.entry.Record.{Record}
use Rattle.fix_base.specs.declared.entry.Record.TheVariants.{Push, Expect, Many, Withhold, Reset, ResetAsk, Confirm}
use Rattle.fix_parts.specs.declared.noted.Noted.{Noted}
use Rattle.fix_parts.specs.declared.noted.Noted.TheVariants as noted

-- the act itself
abbrev pub act_of : Noted → Act
act_of noted.Opened = act.Opened
act_of (noted.Now time) = act.Now time
act_of (noted.Read bytes) = act.Read bytes.now
act_of noted.Idle = act.Idle
act_of noted.Ended = act.Ended
act_of (noted.Wrote bytes) = act.Wrote bytes.now
act_of (noted.Kept r) = act.Kept r.now
act_of (noted.KeepLost r) = act.KeepLost r.now
act_of (noted.Handed h) = act.Handed h.now.number h.now.marked h.now.body.now
act_of (noted.HandLost h) = act.HandLost h.now.number h.now.marked h.now.body.now
act_of (noted.Withheld n) = act.Withheld n
act_of (noted.Allowed n) = act.Allowed n
act_of noted.Cut = act.Cut
act_of noted.Stop = act.Stop

-- how many bytes of a body an entry has, and a record that isn't of several entries
abbrev pub bytes_in_entry : Entry → ℕ
bytes_in_entry (App time by body) = length body
bytes_in_entry (Admin time kind about) = 0

abbrev pub bytes_in_record : Record → ℕ
bytes_in_record (Push entry) = bytes_in_entry entry
bytes_in_record (Expect number) = 0
bytes_in_record (Many pushes expect) = 0
bytes_in_record (Withhold number) = 0
bytes_in_record (Reset time) = 0
bytes_in_record (ResetAsk time) = 0
bytes_in_record Confirm = 0

-- the entries of a record of several
abbrev pub entries_in_record : Record → List Entry
entries_in_record (Push entry) = []
entries_in_record (Expect number) = []
entries_in_record (Many pushes expect) = pushes
entries_in_record (Withhold number) = []
entries_in_record (Reset time) = []
entries_in_record (ResetAsk time) = []
entries_in_record Confirm = []

-- how many bytes an act has, beside the entries of such a record
abbrev pub bytes_in : Noted → ℕ
bytes_in noted.Opened = 0
bytes_in (noted.Now time) = 0
bytes_in (noted.Read bytes) = length bytes.now
bytes_in noted.Idle = 0
bytes_in noted.Ended = 0
bytes_in (noted.Wrote bytes) = length bytes.now
bytes_in (noted.Kept r) = bytes_in_record r.now
bytes_in (noted.KeepLost r) = bytes_in_record r.now
bytes_in (noted.Handed h) = length h.now.body.now
bytes_in (noted.HandLost h) = length h.now.body.now
bytes_in (noted.Withheld n) = 0
bytes_in (noted.Allowed n) = 0
bytes_in noted.Cut = 0
bytes_in noted.Stop = 0

-- the entries of such a record in an act
abbrev pub entries_in : Noted → List Entry
entries_in noted.Opened = []
entries_in (noted.Now time) = []
entries_in (noted.Read bytes) = []
entries_in noted.Idle = []
entries_in noted.Ended = []
entries_in (noted.Wrote bytes) = []
entries_in (noted.Kept r) = entries_in_record r.now
entries_in (noted.KeepLost r) = entries_in_record r.now
entries_in (noted.Handed h) = []
entries_in (noted.HandLost h) = []
entries_in (noted.Withheld n) = []
entries_in (noted.Allowed n) = []
entries_in noted.Cut = []
entries_in noted.Stop = []
