-- The way from a mark to a record.
use Rattle.std.proofs.Common.{◌≡◌, ℕ, ◌+◌, ◌-◌, ◌*◌, ◌/◌, ◌<◌, ◌≤◌, List, length, take, refl, sym, ◌∙◌, ap, arith}
use Rattle.std.specs.Prelude.{IsSome, is_some}
use Rattle.fix_disk.specs.Disk.{DiskSeen, IsLawfulDisk}
use Rattle.fix_disk.specs.Moments.{NeedsRoom}
use Rattle.fix_journal.specs.Format.{front}
use Rattle.fix_journal.specs.Journal.{Holds}
use Rattle.fix_journal.specs.Index.{IsUnderMark}
use Rattle.fix_journal.specs.Cursors.{ReadsFile}
use Rattle.fix_journal.proofs.RoomLemmas.{needs_then}
use Rattle.fix_journal.proofs.ReadLemmas.{reads_none, reads_then}
use Rattle.fix_journal.proofs.CursorLemmas.{IsAtRecord}

-- so many records after the mark
pub record IsPassing (old now : DiskSeen) (mark limit index done place : ℕ) : Type 0 where
  pub stands : (payloads : List (List ℕ)) → Holds old payloads → place ≡ length (front (take (64 * (index / 64) + done) payloads))
  pub left : limit - place ≤ limit - mark
  pub reads : ReadsFile 0 done old now
  pub room : NeedsRoom 0 0 old now

module _ (old : DiskSeen) (mark limit index : ℕ) (told : IsSome old.bytes → (payloads : List (List ℕ)) × Holds old payloads) (there : (payloads : List (List ℕ)) → Holds old payloads → IsUnderMark payloads mark limit index) where
  pub passing_starts : IsLawfulDisk old → IsPassing old old mark limit index 0 mark
  passing_starts laws = record {
    stands = λ payloads holds. (there payloads holds).at ∙ ap (λ n. length (front (take n payloads))) (omega arith);
    left = omega arith;
    reads = reads_none old 0 laws;
    room = record { same = refl; need = λ some. absurd (omega (arith, some)) };
  }

  module _ (now : DiskSeen) (done place : ℕ) (so_far : IsPassing old now mark limit index done place) where
    was : (payloads : List (List ℕ)) → Holds now payloads → Holds old payloads
    was payloads holds = (holds.0, sym so_far.reads.same.bytes ∙ holds.1, holds.2)

    pub at_pass : done ≤ index - 64 * (index / 64) → IsAtRecord now (64 * (index / 64) + done) place limit
    at_pass le = record {
      told = λ some. let got = told (ap is_some (sym so_far.reads.same.bytes) ∙ some) in (got.0, (got.1.0, so_far.reads.same.bytes ∙ got.1.1, got.1.2));
      there = λ payloads holds.
          let old_holds = was payloads holds in
          let under = there payloads old_holds in
          let n = under.limited in
          (omega (arith, under.within, le), so_far.stands payloads old_holds, (n.0, omega (arith, n.1, le), n.2));
    }

    pub passes_on : (new : DiskSeen) (next : ℕ) → IsLawfulDisk now → done < index - 64 * (index / 64) → ReadsFile 0 1 now new → NeedsRoom 0 0 now new → limit - next ≤ limit - place
        → ((payloads : List (List ℕ)) → Holds now payloads → next ≡ length (front (take (64 * (index / 64) + done + 1) payloads))) → IsPassing old new mark limit index (done + 1) next
    passes_on new next laws lt reads room fewer at = record {
      stands = λ payloads holds. at payloads (holds.0, so_far.reads.same.bytes ∙ holds.1, holds.2) ∙ ap (λ n. length (front (take n payloads))) (omega arith);
      left = omega (arith, fewer, so_far.left);
      reads = reads_then 0 done 1 (done + 1) old now new laws (omega arith) so_far.reads reads;
      room = needs_then 0 0 old now new so_far.room.same room;
    }
