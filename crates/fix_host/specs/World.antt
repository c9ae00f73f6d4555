-- What is seen of the world outside, and what its calls do to that.
use Rattle.std.specs.Prelude.{◌≡◌, ℕ, zero, suc, ◌+◌, ◌*◌, min, List, Option, Some, None, Result}
use Rattle.fix_base.specs.Trace.{Rises, LAST_COUNT}
use Rattle.fix_host.specs.declared.world.MakeFault.{MakeFault}
use Rattle.fix_host.specs.Made.{failures_with}

-- how often each kind of part failed
pub record Faults : Type 0 where
  pub store : ℕ
  pub link : ℕ
  pub app : ℕ
  pub threads : ℕ
  pub files : ℕ

pub record WorldSeen : Type 0 where
  pub faults : Faults
  pub opens : ℕ  -- how often it listened or dialled
  pub retired : ℕ  -- how many disks came back
  pub last : Option (List ℕ)  -- the bytes of the last of these, where they are told

abbrev pub no_faults : Faults
no_faults = record { store = 0; link = 0; app = 0; threads = 0; files = 0 }

-- nothing was done with it
abbrev pub new_world : WorldSeen
new_world = record { faults = no_faults; opens = 0; retired = 0; last = None }

-- one fault of each kind
abbrev pub of_store : Faults
of_store = record no_faults { store = 1 }

abbrev pub of_link : Faults
of_link = record no_faults { link = 1 }

abbrev pub of_app : Faults
of_app = record no_faults { app = 1 }

abbrev pub of_threads : Faults
of_threads = record no_faults { threads = 1 }

abbrev pub of_files : Faults
of_files = record no_faults { files = 1 }

-- ---- makers

-- no count falls, and that of this kind rises so many times
pub record FaultsRise (times : ℕ) (kind old new : Faults) : Type 0 where
  pub store : Rises (times * kind.store) old.store new.store
  pub link : Rises (times * kind.link) old.link new.link
  pub app : Rises (times * kind.app) old.app new.app
  pub threads : Rises (times * kind.threads) old.threads new.threads
  pub files : Rises (times * kind.files) old.files new.files

-- one more, up to the last count
abbrev pub next : ℕ → ℕ
next n = min (n + 1) LAST_COUNT

-- a part of this kind is made, or not
pub record Makes {T : Type 0} (kind : Faults) (result : Result T MakeFault) (old new : WorldSeen) : Type 0 where
  pub faults : FaultsRise (failures_with result) kind old.faults new.faults
  pub opens : new.opens ≡ old.opens
  pub retired : new.retired ≡ old.retired
  pub last : new.last ≡ old.last

-- the same, where it listened or dialled
pub record Opens {T : Type 0} (result : Result T MakeFault) (old new : WorldSeen) : Type 0 where
  pub faults : FaultsRise (failures_with result) of_link old.faults new.faults
  pub opens : new.opens ≡ next old.opens
  pub retired : new.retired ≡ old.retired
  pub last : new.last ≡ old.last

-- ---- parts that come back

-- a count after a part that failed so often, where the part is of its kind
abbrev pub raised : (kind faults old : ℕ) → ℕ
raised zero faults old = old
raised (suc kind) zero old = old
raised (suc kind) (suc faults) old = next old

-- the counts after it
abbrev pub raised_by : (kind : Faults) → ℕ → Faults → Faults
raised_by kind faults old = record {
  store = raised kind.store faults old.store;
  link = raised kind.link faults old.link;
  app = raised kind.app faults old.app;
  threads = raised kind.threads faults old.threads;
  files = raised kind.files faults old.files;
}

abbrev pub Retires : (kind : Faults) → ℕ → WorldSeen → WorldSeen → Type 0
Retires kind faults old new = new ≡ record old { faults = raised_by kind faults old.faults }

-- a place at which its file is damaged counts as a fault of the disk
abbrev pub faults_with : ℕ → Option ℕ → ℕ
faults_with faults None = faults
faults_with faults (Some place) = suc faults

abbrev pub RetiresDisk : ℕ → Option (List ℕ) → Option ℕ → WorldSeen → WorldSeen → Type 0
RetiresDisk faults bytes damaged old new = new ≡ record {
  faults = raised_by of_store (faults_with faults damaged) old.faults;
  opens = old.opens;
  retired = next old.retired;
  last = bytes;
}
