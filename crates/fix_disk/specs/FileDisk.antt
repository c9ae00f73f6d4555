-- What is seen of the adapters: how often they failed, and nothing else.
use Rattle.std.specs.Prelude.{ℕ, Option, Some, None, Result, Ok, Err}
use Rattle.fix_disk.specs.declared.file_disk.FileDisk.{FileDisk}
use Rattle.fix_disk.specs.declared.file_disk.FileRefusal.{FileRefusal}
use Rattle.fix_disk.specs.Disk.{DiskSeen, IsLawfulDisk}

-- a disk that tells nothing
abbrev pub untold : ℕ → DiskSeen
untold faults = record {
  bytes = None;
  TellsImages = ⊥;
  image = λ c. ⊥;
  TellsPast = ⊥;
  image_since = λ t c. ⊥;
  clock = 0;
  faults = faults;
  room = None;
}

abbrev pub file_disk_of : FileDisk → DiskSeen
file_disk_of d = untold d.faults

pub untold_lawful : (faults : ℕ) → IsLawfulDisk (untold faults)
untold_lawful faults = record {
  tells_bytes = λ told. absurd told;
  tells_now = λ told. absurd told;
  in_time = λ told. absurd told;
  as_read = λ told. absurd told;
  counts_now = λ told t c le image. absurd told;
  only_now = λ told c left. absurd told;
}

pub lawful : (d : FileDisk) → IsLawfulDisk (file_disk_of d)
lawful d = untold_lawful d.faults

-- why a file can't be used, if it can't
abbrev pub refused : {F : Type 0} → Result F FileRefusal → Option FileRefusal
refused (Ok file) = None
refused (Err refusal) = Some refusal

abbrev pub refusal_of : FileDisk → Option FileRefusal
refusal_of d = refused d.file
