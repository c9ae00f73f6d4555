-- What is seen of a disk in memory.
use Rattle.std.specs.Prelude.{◌≡◌, ◌⊎◌, ℕ, ◌+◌, ◌<◌, ◌≤◌, length, vec_len, List, Option, Some, None, ⊤, refl}
use Rattle.std.specs.Prelude.{if◌then◌else◌, ◌==◌}
use Rattle.std.proofs.Common.{subst, sym}
use Rattle.std.proofs.Math.Nat.{le_refl}
use Rattle.fix_base.specs.Trace.{LAST_COUNT}
use Rattle.fix_disk.specs.declared.memory_disk.MemoryDisk.{MemoryDisk}
use Rattle.fix_disk.specs.Disk.{DiskSeen, IsLawfulDisk, next_moment}
use Rattle.fix_disk.specs.Fuse.{IsStruck}
use Rattle.fix_disk.specs.State.{State, Leaves, blank}
use Rattle.fix_disk.specs.Script.{told_room}
use Rattle.fix_disk.specs.Contents.{state_of}
use Rattle.fix_disk.specs.Past.{Step, LeavesSince, counts_now, only_now}
use Rattle.fix_disk.specs.Kept.{log_steps}

-- a disk that tells its bytes and its images, and where it keeps its steps those since a moment
-- the room that is told: none where calls are to fail, or steps are kept
abbrev pub room_of : List ℕ → Option ℕ → ℕ → ℕ → Option ℕ
room_of fail None past capacity = if past == 0 then told_room fail capacity else None
room_of fail (Some first) past capacity = None

abbrev pub told : State → List Step → ℕ → ℕ → ℕ → Option ℕ → DiskSeen
told state steps past clock faults room = record {
  bytes = Some state.bytes;
  TellsImages = ⊤;
  image = Leaves state;
  TellsPast = (0 < past) × (clock < LAST_COUNT);
  image_since = LeavesSince steps blank;
  clock = clock;
  faults = faults;
  room = room;
}

abbrev pub disk_of : MemoryDisk → DiskSeen
disk_of d = told (state_of d.contents) (log_steps d.log) d.log.most d.failing.calls d.failing.faults
    (room_of d.failing.numbers.items d.fuse d.log.most d.contents.capacity)

-- the bytes, those of the last sync and which were written since
abbrev pub disk_state : MemoryDisk → State
disk_state d = state_of d.contents

-- which calls fail, and how much is kept and may be kept
pub record DiskScript : Type 0 where
  pub fail : List ℕ
  pub fuse : Option ℕ  -- from this call on all fail
  pub calls : ℕ
  pub capacity : ℕ  -- how many bytes fit
  pub past : ℕ  -- how many writes and syncs are kept; at 0 none is
  pub steps : ℕ  -- how many of them there are
  pub written : ℕ  -- how many written bytes they have

abbrev pub disk_script : MemoryDisk → DiskScript
disk_script d = record {
  fail = d.failing.numbers.items;
  fuse = d.fuse;
  calls = d.failing.calls;
  capacity = d.contents.capacity;
  past = d.log.most;
  steps = vec_len d.log.steps;
  written = vec_len d.log.written;
}

-- the next call is listed, or stands at the fuse or after it
abbrev pub Strikes : DiskScript → Type 0
Strikes s = IsStruck s.fail s.fuse (next_moment s.calls)

-- the list has room for one step more with so many bytes, or none is kept
abbrev pub KeepsOneMore : DiskScript → ℕ → Type 0
KeepsOneMore s count = (s.past ≡ 0) ⊎ ((s.steps < s.past) × (s.written + count ≤ s.capacity))

-- a write of so many bytes has room
abbrev pub HasPlace : DiskScript → ℕ → ℕ → Type 0
HasPlace s at count = (at + count ≤ s.capacity) × KeepsOneMore s count

abbrev pub after_call : DiskScript → DiskScript
after_call s = record s { calls = next_moment s.calls }

-- after a call that wrote so many bytes, or synced
abbrev pub after_step : DiskScript → ℕ → DiskScript
after_step s count = record s {
  calls = next_moment s.calls;
  steps = if s.past == 0 then s.steps else s.steps + 1;
  written = if s.past == 0 then s.written else s.written + count;
}

abbrev pub script_of : List ℕ → Option ℕ → ℕ → ℕ → DiskScript
script_of fail fuse capacity past = record {
  fail = fail;
  fuse = fuse;
  calls = 0;
  capacity = capacity;
  past = past;
  steps = 0;
  written = 0;
}

pub lawful : (d : MemoryDisk) → IsLawfulDisk (disk_of d)
lawful d = record {
  tells_bytes = λ told. refl;
  tells_now = λ past. tt;
  in_time = λ past. past.1;
  as_read = λ told.
      record {
        no_shorter = d.contents.grows;
        no_longer = le_refl (length d.contents.bytes.items);
        same = d.contents.same;
      };
  counts_now = λ past t c le image. counts_now (log_steps d.log) blank t c (subst
      (λ s. Leaves s c) (sym (d.replays past.0)) image);
  only_now = λ past c left. subst
      (λ s. Leaves s c) (d.replays past.0) (only_now (log_steps d.log) blank d.failing.calls c (d.in_time past.0) left);
}
