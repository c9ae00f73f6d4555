-- Calls that read a file, one after another.
use Rattle.std.proofs.Common.{ℕ, ◌+◌, ◌≤◌, List, Result, Ok, Err, ◌∙◌, ap, refl, arith}
use Rattle.std.specs.Prelude.{OnOk, is_some}
use Rattle.fix_disk.specs.Disk.{DiskSeen, IsLawfulDisk, DiskReads, failures}
use Rattle.fix_disk.specs.declared.disk.DiskFailed.{DiskFailed}
use Rattle.fix_journal.specs.Cursors.{ReadsFile}
use Rattle.fix_journal.proofs.Moments.{started, goes_on, then_on, weaker}

pub on_ok : {T : Type 0} (answer : Result T DiskFailed) {P Q : Type 0} → (P → Q) → OnOk answer P → OnOk answer Q
on_ok (Ok x) f p = f p
on_ok (Err e) f p = tt

pub reads_none : (old : DiskSeen) (most : ℕ) → IsLawfulDisk old → ReadsFile 0 most old old
reads_none old most laws = record {
  same = record { bytes = refl; images = λ told c. (λ left. left, λ left. left) };
  any_moment = started old old.image laws (λ p c left. left);
  tells_images = (λ t. t, λ t. t);
  cause = omega arith;
  calls = λ some. omega arith;
}

pub reads_once : {T : Type 0} (answer : Result T DiskFailed) (at : ℕ) (room : List ℕ) (old new : DiskSeen) → IsLawfulDisk old → DiskReads answer at room old new → ReadsFile (failures answer) 1 old new
reads_once answer at room old new laws reads = record {
  same = reads.same;
  any_moment = goes_on old old new old.image laws (started old old.image laws (λ p c left. left)) reads.time (λ p c left. (reads.same.images (laws.tells_now (reads.time.tells_past.0 p).0) c).0 left);
  tells_images = reads.time.tells_images;
  cause = reads.cause;
  calls = λ some. omega (arith, reads.time.clock some);
}

pub reads_then : (failed m n most : ℕ) (old mid new : DiskSeen) → IsLawfulDisk mid → m + n ≤ most → ReadsFile 0 m old mid → ReadsFile failed n mid new → ReadsFile failed most old new
reads_then failed m n most old mid new laws few first second = record {
  same = record {
    bytes = second.same.bytes ∙ first.same.bytes;
    images = λ told c. (
      λ left. (first.same.images told c).0 ((second.same.images (first.tells_images.1 told) c).0 left),
      λ left. (second.same.images (first.tells_images.1 told) c).1 ((first.same.images told c).1 left),
    );
  };
  any_moment = then_on old mid new old.image first.any_moment (weaker mid new mid.image old.image second.any_moment (λ p c left. (first.same.images (first.tells_images.0 (laws.tells_now (second.any_moment.told p))) c).0 left));
  tells_images = (λ t. first.tells_images.0 (second.tells_images.0 t), λ t. second.tells_images.1 (first.tells_images.1 t));
  cause = omega (arith, first.cause, second.cause);
  calls = λ some. omega (arith, few, first.calls some, second.calls (ap is_some first.same.bytes ∙ some));
}

pub reads_at_most : (failed n most : ℕ) (old new : DiskSeen) → n ≤ most → ReadsFile failed n old new → ReadsFile failed most old new
reads_at_most failed n most old new few reads = record {
  same = reads.same;
  any_moment = reads.any_moment;
  tells_images = reads.tells_images;
  cause = reads.cause;
  calls = λ some. omega (arith, few, reads.calls some);
}
