-- A write, and a write with a sync behind it.
use Rattle.std.proofs.Common.{◌≡◌, ◌↔◌, ℕ, List, length, Option, Some, None, Result, Ok, Err, refl, sym, ◌∙◌, ap, subst, arith}
use Rattle.std.specs.Prelude.{IsSome, IfSome, OnOk, is_some}
use Rattle.fix_disk.specs.Disk.{DiskSeen, IsLawfulDisk, DiskWrites, DiskSyncs, WrittenAfter, Torn, Only, HasRange, overwritten}
use Rattle.fix_disk.specs.Moments.{LeavesOnly}
use Rattle.fix_disk.specs.declared.disk.DiskFailed.{DiskFailed}
use Rattle.fix_disk.proofs.WriteLemmas.{written_torn}
use Rattle.fix_journal.specs.Synced.{WritesSynced, TornFrom}
use Rattle.fix_journal.proofs.Moments.{started, goes_on}

still_told : {T : Type 0} (answer : Result T DiskFailed) (at : ℕ) (bytes : List ℕ) (old new : Option (List ℕ)) → WrittenAfter answer at bytes old new → IsSome new ↔ IsSome old
still_told answer at bytes None new is = (λ some. sym (ap is_some is) ∙ some, λ some. ap is_some is ∙ some)
still_told (Ok x) at bytes (Some old) new is = (λ some. refl, λ some. ap is_some is)
still_told (Err e) at bytes (Some old) new is = (λ some. refl, λ some. ap is_some is.2)

written : {T : Type 0} (x : T) (at : ℕ) (bytes : List ℕ) (old new : Option (List ℕ)) → WrittenAfter (Ok x) at bytes old new → IfSome old (λ file. new ≡ Some (overwritten at bytes file))
written x at bytes None new is = tt
written x at bytes (Some old) new is = is

-- what is read behind a write
read_torn : {T : Type 0} (answer : Result T DiskFailed) (at : ℕ) (bytes : List ℕ) (old new : Option (List ℕ)) → HasRange old at 0 → WrittenAfter answer at bytes old new → IfSome old (λ file. IfSome new (Torn at (length bytes) file))
read_torn answer at bytes None new range is = tt
read_torn (Ok x) at bytes (Some old) new range is = subst (λ o. IfSome o (Torn at (length bytes) old)) (sym is) (written_torn at bytes old (omega (arith, range)))
read_torn (Err e) at bytes (Some old) new range is = subst (λ o. IfSome o (Torn at (length bytes) old)) (sym is.2) is.1

torn_self : (at count : ℕ) (c : List ℕ) → Torn at count c c
torn_self at count c = record { no_shorter = omega arith; no_longer = omega arith; before = λ i lt below. refl; after = λ i lt behind. refl }

module _ {T : Type 0} (answer : Result T DiskFailed) (at : ℕ) (bytes : List ℕ) (old mid : DiskSeen) (laws : IsLawfulDisk old) (range : HasRange old.bytes at 0) (writes : DiskWrites answer at bytes old mid) where
  now_torn : mid.TellsImages → (c : List ℕ) → mid.image c → TornFrom old at bytes c
  now_torn told c left = writes.torn (writes.time.tells_images.0 told) c left

  past_told : mid.TellsPast → mid.TellsImages
  past_told p = writes.time.tells_images.1 (laws.tells_now (writes.time.tells_past.0 p).0)

  pub moments_of_write : LeavesOnly old mid (TornFrom old at bytes)
  moments_of_write = goes_on old old mid (TornFrom old at bytes) laws (started old (TornFrom old at bytes) laws (λ p c left. (c, left, torn_self at (length bytes) c))) writes.time (λ p c left. now_torn (past_told p) c left)

  pub failed_write : (e : DiskFailed) → answer ≡ Err e → WritesSynced answer at bytes old mid
  failed_write e is = record {
    file = rw is tt;
    durable = rw is tt;
    as_read = read_torn answer at bytes old.bytes mid.bytes range writes.written;
    tells_bytes = still_told answer at bytes old.bytes mid.bytes writes.written;
    tells_images = writes.time.tells_images;
    now = now_torn;
    moments = moments_of_write;
    cause = writes.cause;
    calls = λ some. omega (arith, writes.time.clock some);
  }

on_ok : {T : Type 0} (answer : Result T DiskFailed) {P Q : Type 0} → (P → Q) → OnOk answer P → OnOk answer Q
on_ok (Ok x) f p = f p
on_ok (Err e) f p = tt

on_any : {T : Type 0} (answer : Result T DiskFailed) {P : Type 0} → P → OnOk answer P
on_any (Ok x) p = p
on_any (Err e) p = tt

pub write_and_sync : {T : Type 0} (x : T) (answer : Result T DiskFailed) (at : ℕ) (bytes : List ℕ) (old mid new : DiskSeen) → IsLawfulDisk old → IsLawfulDisk mid → HasRange old.bytes at 0 → DiskWrites (Ok x) at bytes old mid → DiskSyncs answer mid new → WritesSynced answer at bytes old new
write_and_sync x answer at bytes old mid new laws mid_laws range writes syncs = record {
  file = on_any answer (subst (λ b. IfSome old.bytes (λ file. b ≡ Some (overwritten at bytes file))) (sym syncs.bytes) (written x at bytes old.bytes mid.bytes writes.written));
  durable = on_ok answer (λ only told. subst (λ b. IfSome b (λ file. Only file new.image)) (sym syncs.bytes) (only (syncs.time.tells_images.0 told))) syncs.durable;
  as_read = subst (λ b. IfSome old.bytes (λ file. IfSome b (Torn at (length bytes) file))) (sym syncs.bytes) (read_torn (Ok x) at bytes old.bytes mid.bytes range writes.written);
  tells_bytes = subst (λ b. IsSome b ↔ IsSome old.bytes) (sym syncs.bytes) (still_told (Ok x) at bytes old.bytes mid.bytes writes.written);
  tells_images = (λ t. writes.time.tells_images.0 (syncs.time.tells_images.0 t), λ t. syncs.time.tells_images.1 (writes.time.tells_images.1 t));
  now = now;
  moments = goes_on old mid new (TornFrom old at bytes) mid_laws (moments_of_write (Ok x) at bytes old mid laws range writes) syncs.time (λ p c left. now (told p) c left);
  cause = omega (arith, writes.cause, syncs.cause);
  calls = λ some. omega (arith, writes.time.clock some, syncs.time.clock ((still_told (Ok x) at bytes old.bytes mid.bytes writes.written).1 some));
}
  where
    now : new.TellsImages → (c : List ℕ) → new.image c → TornFrom old at bytes c
    now t c left = writes.torn (writes.time.tells_images.0 (syncs.time.tells_images.0 t)) c (syncs.no_more (syncs.time.tells_images.0 t) c left)

    told : new.TellsPast → new.TellsImages
    told p = syncs.time.tells_images.1 (mid_laws.tells_now (syncs.time.tells_past.0 p).0)
