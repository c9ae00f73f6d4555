-- A disk as it is read is a disk of its own, whose one image is what a read gives. What holds of the images of any disk
-- holds so of what is read, also where a disk tells no images.
use Rattle.std.proofs.Common.{◌≡◌, ℕ, List, length, Option, Some, None, Result, Ok, Err, refl, sym, ◌∙◌, ap, subst, true≢false}
use Rattle.std.specs.Prelude.{IsSome, IfSome, OnOk, is_some}
use Rattle.fix_disk.specs.Disk.{DiskSeen, IsLawfulDisk, Torn, Only}
use Rattle.fix_disk.specs.declared.disk.DiskFailed.{DiskFailed}
use Rattle.fix_journal.specs.Synced.{WritesSynced}
use Rattle.fix_journal.specs.AtRest.{IsAtRest}
use Rattle.fix_journal.specs.Opening.{Rests}
use Rattle.fix_journal.proofs.SoundLemmas.{some_same, told_case}

pub at_told : (o : Option (List ℕ)) → IsSome o → (file : List ℕ) × (o ≡ Some file)
at_told None some = absurd (true≢false (sym some))
at_told (Some file) some = (file, refl)

abbrev pub as_read : DiskSeen → DiskSeen
as_read seen = record {
  bytes = seen.bytes;
  TellsImages = IsSome seen.bytes;
  image = λ c. seen.bytes ≡ Some c;
  TellsPast = ⊥;
  image_since = λ t c. ⊥;
  clock = seen.clock;
  faults = seen.faults;
  room = None;
}

pub lawful : (seen : DiskSeen) → IsLawfulDisk (as_read seen)
lawful seen = record {
  tells_bytes = λ told. told;
  tells_now = λ p. absurd p;
  in_time = λ p. absurd p;
  as_read = λ told. told_case seen.bytes (λ c. seen.bytes ≡ Some c) (λ file is. is);
  counts_now = λ p. absurd p;
  only_now = λ p. absurd p;
}

only : (o : Option (List ℕ)) → IfSome o (λ file. Only file (λ c. o ≡ Some c))
only o = told_case o (λ file. Only file (λ c. o ≡ Some c)) (λ file is c left. some_same c file (sym left ∙ is))

on_any : {T : Type 0} (answer : Result T DiskFailed) {P : Type 0} → P → OnOk answer P
on_any (Ok x) p = p
on_any (Err e) p = tt

pub writes : {T : Type 0} (answer : Result T DiskFailed) (at : ℕ) (bytes : List ℕ) (old new : DiskSeen) → WritesSynced answer at bytes old new → WritesSynced answer at bytes (as_read old) (as_read new)
writes answer at bytes old new w = record {
  file = w.file;
  durable = on_any answer (λ told. only new.bytes);
  as_read = w.as_read;
  tells_bytes = w.tells_bytes;
  tells_images = w.tells_bytes;
  now = λ told c left.
      let there = at_told old.bytes (w.tells_bytes.0 told) in
      let torn : IfSome new.bytes (Torn at (length bytes) there.0) = subst (λ o. IfSome o (λ file. IfSome new.bytes (Torn at (length bytes) file))) there.1 w.as_read in
      (there.0, there.1, subst (λ o. IfSome o (Torn at (length bytes) there.0)) left torn);
  moments = record { told = λ p. absurd p; later = λ p. absurd p; each = λ p. absurd p; before = λ p. absurd p };
  cause = w.cause;
  calls = w.calls;
}

pub at_rest : (seen : DiskSeen) (end : ℕ) (payloads : List (List ℕ)) → IsAtRest seen end payloads → IsAtRest (as_read seen) end payloads
at_rest seen end payloads rests = record {
  file = rests.file;
  is = rests.is;
  journal = rests.journal;
  at = rests.at;
  durable = λ told c left. some_same c rests.file (sym left ∙ rests.is);
}

pub rests : (seen : DiskSeen) (P : List ℕ → Type 0) → Rests seen P → Rests (as_read seen) P
rests seen P r = record { holds = r.holds; durable = λ told. only seen.bytes }

-- what its images have, what is read has
pub read_has : (seen : DiskSeen) (P : List ℕ → Type 0) → ((as_read seen).TellsImages → (c : List ℕ) → (as_read seen).image c → P c) → IfSome seen.bytes P
read_has seen P each = told_case seen.bytes P (λ file is. each (ap is_some is) file is)
