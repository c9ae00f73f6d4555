-- The two steps of an append, each a write with a sync behind it.
use Rattle.std.proofs.Common.{◌≡◌, inl, ℕ, ◌+◌, ◌≤◌, List, [], ◌∷◌, ◌++◌, length, drop, get_or, Some, Result, Ok, Err, refl, ◌∙◌, ap, subst, arith, append_assoc, length-append}
use Rattle.std.specs.Prelude.{OnOk, IfSome, Option, All}
use Rattle.fix_disk.specs.Disk.{DiskSeen, IsLawfulDisk, Torn, Only, overwritten}
use Rattle.fix_disk.specs.Moments.{LeavesOnly}
use Rattle.fix_disk.specs.declared.disk.DiskFailed.{DiskFailed}
use Rattle.fix_journal.specs.Format.{OPEN, IsPayload, body_of, front, IsJournal}
use Rattle.fix_journal.specs.Synced.{WritesSynced, TornFrom}
use Rattle.fix_journal.specs.AtRest.{IsAtRest, IsEither, Appends}
use Rattle.fix_journal.proofs.AsRead as read
use Rattle.fix_journal.proofs.Files.{torn_front, gate_stays, staged, gate_torn, gate_written}
use Rattle.fix_journal.proofs.Records.{front_push, is_before, is_after, gate_decides}
use Rattle.fix_journal.proofs.Moments.{weaker, then_on}

-- the file with a record behind the closed gate
pub record IsStaged (seen : DiskSeen) (payloads : List (List ℕ)) (payload : List ℕ) : Type 0 where
  pub gate : ℕ
  pub rest : List ℕ
  pub is : seen.bytes ≡ Some (front payloads ++ gate ∷ (body_of payload ++ 0 ∷ rest))
  pub durable : seen.TellsImages → Only (front payloads ++ gate ∷ (body_of payload ++ 0 ∷ rest)) seen.image

some_is : {A : Type 0} (P : A → Type 0) (o : Option A) (x : A) → o ≡ Some x → IfSome o P → P x
some_is P o x is p = subst (λ q. IfSome q P) is p

-- a list with one item and another list behind it
lengths : (f g b : List ℕ) (gate : ℕ) → f ++ gate ∷ (b ++ []) ≡ g ++ [] → length g ≡ length f + 1 + length b
lengths f g b gate is = omega (arith, ap length is, length-append f (gate ∷ (b ++ [])), length-append b [], length-append g [])

module _ (old mid : DiskSeen) (laws : IsLawfulDisk mid) (gate : ℕ) (bytes : List ℕ) (payloads : List (List ℕ)) (payload : List ℕ) (rests : IsAtRest old gate payloads) (fits : IsPayload payload) (is : bytes ≡ body_of payload ++ 0 ∷ []) where
  behind : gate + 1 ≡ length (front payloads) + 1
  behind = omega (arith, rests.at)

  stage_left : old.TellsImages → (c : List ℕ) → TornFrom old (gate + 1) bytes c → IsJournal c payloads
  stage_left told c from =
      let j = rests.journal in
      let torn : Torn (gate + 1) (length bytes) (front payloads ++ j.gate ∷ j.behind) c = subst (λ f. Torn (gate + 1) (length bytes) f c) (rests.durable told from.0 from.1 ∙ j.is) from.2 in
      let long : gate + 1 ≤ length (front payloads ++ j.gate ∷ j.behind) = omega (arith, behind, length-append (front payloads) (j.gate ∷ j.behind)) in
      is_before payloads payload j.each fits c j.gate (drop (gate + 1) c) (gate_stays (front payloads) j.gate (gate + 1) j.behind behind c (torn_front (gate + 1) (length bytes) (front payloads ++ j.gate ∷ j.behind) c long torn)) j.closed

  module _ {T : Type 0} (answer : Result T DiskFailed) (writes : WritesSynced answer (gate + 1) bytes old mid) where
    pub stage_now : mid.TellsImages → (c : List ℕ) → mid.image c → IsEither payloads payload c
    stage_now told c left = inl (stage_left (writes.tells_images.0 told) c (writes.now told c left))

    pub stage_moments : LeavesOnly old mid (IsEither payloads payload)
    stage_moments = weaker old mid (TornFrom old (gate + 1) bytes) (IsEither payloads payload) writes.moments (λ p c from. inl (stage_left (writes.tells_images.0 (laws.tells_now p)) c from))

  pub is_staged : {T : Type 0} (x : T) → WritesSynced (Ok x) (gate + 1) bytes old mid → IsStaged mid payloads payload
  is_staged x writes =
      let j = rests.journal in
      let file : overwritten (gate + 1) bytes rests.file ≡ front payloads ++ j.gate ∷ (body_of payload ++ 0 ∷ drop (length bytes) j.behind) =
      ap (overwritten (gate + 1) bytes) j.is
      ∙ staged (front payloads) j.gate (gate + 1) j.behind behind bytes
      ∙ ap (λ l. front payloads ++ j.gate ∷ (l ++ drop (length bytes) j.behind)) is
      ∙ ap (λ l. front payloads ++ j.gate ∷ l) (append_assoc (body_of payload) (0 ∷ []) (drop (length bytes) j.behind)) in
      let now = some_is (λ file. mid.bytes ≡ Some (overwritten (gate + 1) bytes file)) old.bytes rests.file rests.is writes.file ∙ ap Some file in
      record { gate = j.gate; rest = drop (length bytes) j.behind; is = now; durable = λ told. some_is (λ file. Only file mid.image) mid.bytes _ now (writes.durable told) }

module _ (mid new : DiskSeen) (laws : IsLawfulDisk new) (gate : ℕ) (payloads : List (List ℕ)) (payload : List ℕ) (each : All IsPayload payloads) (fits : IsPayload payload) (at : gate ≡ length (front payloads)) (held : IsStaged mid payloads payload) where
  gate_left : mid.TellsImages → (c : List ℕ) → TornFrom mid gate (1 ∷ []) c → IsEither payloads payload c
  gate_left told c from =
      let behind = body_of payload ++ 0 ∷ held.rest in
      let torn : Torn gate 1 (front payloads ++ held.gate ∷ behind) c = subst (λ f. Torn gate 1 f c) (held.durable told from.0 from.1) from.2 in
      gate_decides payloads payload each fits c (get_or c gate 0) 0 held.rest (gate_torn (front payloads) held.gate gate behind c at torn) (λ e. omega (arith, e))

  module _ {T : Type 0} (answer : Result T DiskFailed) (writes : WritesSynced answer gate (1 ∷ []) mid new) where
    pub gate_now : new.TellsImages → (c : List ℕ) → new.image c → IsEither payloads payload c
    gate_now told c left = gate_left (writes.tells_images.0 told) c (writes.now told c left)

    pub gate_moments : LeavesOnly mid new (IsEither payloads payload)
    gate_moments = weaker mid new (TornFrom mid gate (1 ∷ [])) (IsEither payloads payload) writes.moments (λ p c from. gate_left (writes.tells_images.0 (laws.tells_now p)) c from)

  length-front_push : length (front (payloads ++ payload ∷ [])) ≡ length (front payloads) + 1 + length (body_of payload)
  length-front_push = lengths (front payloads) (front (payloads ++ payload ∷ [])) (body_of payload) OPEN (front_push payloads payload [])

  pub is_at_rest : {T : Type 0} (x : T) → WritesSynced (Ok x) gate (1 ∷ []) mid new → IsAtRest new (gate + (length (body_of payload) + 1)) (payloads ++ payload ∷ [])
  is_at_rest x writes =
      let behind = body_of payload ++ 0 ∷ held.rest in
      let file = front payloads ++ OPEN ∷ behind in
      let now : new.bytes ≡ Some file = some_is (λ file. new.bytes ≡ Some (overwritten gate (1 ∷ []) file)) mid.bytes _ held.is writes.file ∙ ap Some (gate_written (front payloads) held.gate 1 gate behind at) in
      record {
        file = file;
        is = now;
        journal = is_after payloads payload each fits file 0 held.rest refl (λ e. omega (arith, e));
        at = omega (arith, at, length-front_push);
        durable = λ told. some_is (λ file. Only file new.image) new.bytes file now (writes.durable told);
      }

module _ (gate : ℕ) (bytes : List ℕ) (old mid : DiskSeen) (mid_laws : IsLawfulDisk mid) where
  pub append_failed : {T : Type 0} (e : DiskFailed) → WritesSynced {T = T} (Err e) (gate + 1) bytes old mid → Appends {T = T} (Err e) gate bytes old mid
  append_failed e writes = record {
    kept = λ payloads payload rests fits is. tt;
    any_moment = λ payloads payload rests fits is. stage_moments old mid mid_laws gate bytes payloads payload rests fits is (Err e) writes;
    now = λ payloads payload rests fits is. stage_now old mid mid_laws gate bytes payloads payload rests fits is (Err e) writes;
    as_read = λ payloads payload rests fits is.
        read.read_has mid (IsEither payloads payload)
        (stage_now (read.as_read old) (read.as_read mid) (read.lawful mid) gate bytes payloads payload (read.at_rest old gate payloads rests) fits is (Err e) (read.writes (Err e) (gate + 1) bytes old mid writes));
    tells_bytes = writes.tells_bytes;
    tells_images = writes.tells_images;
    cause = writes.cause;
    calls = λ some. omega (arith, writes.calls some);
  }

  module _ {T U : Type 0} (x : U) (new : DiskSeen) (laws : IsLawfulDisk new) (first : WritesSynced {T = U} (Ok x) (gate + 1) bytes old mid) where
    kept_at : (answer : Result T DiskFailed) → WritesSynced answer gate (1 ∷ []) mid new → (payloads : List (List ℕ)) (payload : List ℕ) → IsAtRest old gate payloads → IsPayload payload → bytes ≡ body_of payload ++ 0 ∷ []
        → OnOk answer (IsAtRest new (gate + length bytes) (payloads ++ payload ∷ []))
    kept_at (Err e) second payloads payload rests fits is = tt
    kept_at (Ok y) second payloads payload rests fits is =
        let long : length (body_of payload) + 1 ≡ length bytes = omega (arith, ap length is, length-append (body_of payload) (0 ∷ [])) in
        subst (λ n. IsAtRest new (gate + n) (payloads ++ payload ∷ [])) long (is_at_rest mid new laws gate payloads payload rests.journal.each fits rests.at (is_staged old mid mid_laws gate bytes payloads payload rests fits is x first) y second)

    pub append_both : (answer : Result T DiskFailed) → WritesSynced answer gate (1 ∷ []) mid new → Appends answer gate bytes old new
    append_both answer second = record {
      kept = kept_at answer second;
      any_moment = λ payloads payload rests fits is.
          let held = is_staged old mid mid_laws gate bytes payloads payload rests fits is x first in
          then_on old mid new (IsEither payloads payload) (stage_moments old mid mid_laws gate bytes payloads payload rests fits is (Ok x) first) (gate_moments mid new laws gate payloads payload rests.journal.each fits rests.at held answer second);
      now = λ payloads payload rests fits is. gate_now mid new laws gate payloads payload rests.journal.each fits rests.at (is_staged old mid mid_laws gate bytes payloads payload rests fits is x first) answer second;
      as_read = λ payloads payload rests fits is.
          let held = is_staged (read.as_read old) (read.as_read mid) (read.lawful mid) gate bytes payloads payload (read.at_rest old gate payloads rests) fits is x (read.writes (Ok x) (gate + 1) bytes old mid first) in
          read.read_has new (IsEither payloads payload)
          (gate_now (read.as_read mid) (read.as_read new) (read.lawful new) gate payloads payload rests.journal.each fits rests.at held answer (read.writes answer gate (1 ∷ []) mid new second));
      tells_images = (λ told. first.tells_images.0 (second.tells_images.0 told), λ told. second.tells_images.1 (first.tells_images.1 told));
      tells_bytes = (λ some. first.tells_bytes.0 (second.tells_bytes.0 some), λ some. second.tells_bytes.1 (first.tells_bytes.1 some));
      cause = omega (arith, first.cause, second.cause);
      calls = λ some. omega (arith, first.calls some, second.calls (first.tells_bytes.1 some));
    }
