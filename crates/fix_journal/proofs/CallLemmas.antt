-- What the calls of a journal do to its disk.
use Rattle.std.proofs.Common.{◌≡◌, ℕ, ◌+◌, ◌≤◌, Bool, false, List, [], ◌∷◌, ◌++◌, length, take, Result, Ok, Err, refl, sym, ◌∙◌, ap, subst, arith, length-append, true≢false}
use Rattle.std.specs.Prelude.{IfOk, is_err, is_some}
use Rattle.std.proofs.lemmas.List.{take-append-le}
use Rattle.fix_disk.specs.Disk.{DiskSeen}
use Rattle.fix_disk.specs.declared.disk.DiskFailed.{DiskFailed}
use Rattle.fix_journal.specs.declared.fault.AppendFault.TheVariants.{DiskFault}
use Rattle.fix_journal.specs.Format.{IsPayload, body_of, front, IsJournal}
use Rattle.fix_journal.specs.AtRest.{IsAtRest, Appends}
use Rattle.fix_journal.specs.Journal.{IsSound, Holds, Lasts, JournalAppends}
use Rattle.fix_journal.specs.declared.index.Index.{Index}
use Rattle.fix_journal.specs.Index.{Adds}
use Rattle.fix_journal.proofs.IndexLemmas.{still_shaped, added}
use Rattle.fix_journal.proofs.SoundLemmas.{some_same, at_gate}
use Rattle.fix_journal.proofs.Unique.{unique}

-- what holds of an Ok, behind a test of the answer
pub when_ok : {T E : Type 0} (answer : Result T E) {P : Type 0} → false ≡ is_err answer → IfOk answer (λ x. P) → P
when_ok (Ok x) same p = p
when_ok (Err e) same p = absurd (true≢false (sym same))

pub lasts : (seen : DiskSeen) (end : ℕ) (payloads : List (List ℕ)) → IsAtRest seen end payloads → Lasts seen payloads
lasts seen end payloads rests told c left = subst (λ f. IsJournal f payloads) (sym (rests.durable told c left)) rests.journal

module _ (old new : DiskSeen) (index : Index) (sound : IsSound old index false) (payload staged : List ℕ) (fits : IsPayload payload) (is : staged ≡ body_of payload ++ 0 ∷ []) where
  pub append_failed : (e : DiskFailed) → Appends {T = Unit {0}} (Err e) index.closed staged old new → JournalAppends (Err DiskFault) payload old new
  append_failed e done = record {
    kept = tt;
    any_moment = λ payloads holds. done.any_moment payloads payload (at_gate old index sound payloads holds) fits is;
    now = λ payloads holds. done.now payloads payload (at_gate old index sound payloads holds) fits is;
    as_read = λ payloads holds. done.as_read payloads payload (at_gate old index sound payloads holds) fits is;
    tells_bytes = done.tells_bytes;
    tells_images = done.tells_images;
    cause = done.cause;
    calls = done.calls;
  }

  module _ (x : Unit {0}) (done : Appends {T = Unit {0}} (Ok x) index.closed staged old new) where
    pub appended : (number : ℕ) → JournalAppends (Ok number) payload old new
    appended number = record {
      kept = λ payloads holds.
          let rests = done.kept payloads payload (at_gate old index sound payloads holds) fits is in
          ((rests.file, rests.is, rests.journal), lasts new (index.closed + length staged) (payloads ++ payload ∷ []) rests);
      any_moment = λ payloads holds. done.any_moment payloads payload (at_gate old index sound payloads holds) fits is;
      now = λ payloads holds. done.now payloads payload (at_gate old index sound payloads holds) fits is;
      as_read = λ payloads holds. done.as_read payloads payload (at_gate old index sound payloads holds) fits is;
      tells_bytes = done.tells_bytes;
      tells_images = done.tells_images;
      cause = done.cause;
      calls = done.calls;
    }

    -- the places with those of the new record
    pub sound_after : (further : Index) (stopped : Bool) → stopped ≡ false → Adds (index.closed + length staged) index further → IsSound new further stopped
    sound_after further stopped still adds = record {
      shaped = still_shaped index further (index.closed + length staged) sound.shaped adds (omega (arith, fits.0, ap length is, length-append (body_of payload) (0 ∷ [])));
      rests = λ calm told.
          let got = sound.rests refl (done.tells_bytes.0 told) in
          let rests = done.kept got.0 payload (at_gate old index sound got.0 (got.1.file, got.1.is, got.1.journal)) fits is in
          let more = got.0 ++ payload ∷ [] in (
            more,
            subst (λ n. IsAtRest new n more) rests.at rests,
            added index further (index.closed + length staged) sound.shaped adds got.0 payload got.2 rests.at,
          );
    }

    -- a cursor stays at its record, or at the closed gate, where the new one comes to stand
    pub stays : (number place : ℕ) → number ≤ index.count → ((payloads : List (List ℕ)) → Holds old payloads → place ≡ length (front (take number payloads)))
        → (payloads : List (List ℕ)) → Holds new payloads → place ≡ length (front (take number payloads))
    stays number place few stood payloads holds =
        let got = sound.rests refl (done.tells_bytes.0 (ap is_some holds.1)) in
        let was : Holds old got.0 = (got.1.file, got.1.is, got.1.journal) in
        let rests = done.kept got.0 payload (at_gate old index sound got.0 was) fits is in
        let same : holds.0 ≡ rests.file = some_same holds.0 rests.file (sym holds.1 ∙ rests.is) in
        let list : got.0 ++ payload ∷ [] ≡ payloads = unique rests.file (got.0 ++ payload ∷ []) payloads rests.journal (subst (λ f. IsJournal f payloads) same holds.2) in
        stood got.0 was
        ∙ ap (λ l. length (front l)) (sym (take-append-le number got.0 (payload ∷ []) (omega (arith, few, got.2.count))) ∙ ap (take number) list)
