-- The making of a journal in an unmade file.
use Rattle.std.proofs.Common.{◌≡◌, inl, inr, ℕ, List, [], ◌∷◌, ◌++◌, length, drop, get_or, Option, Some, None, Result, Ok, Err, refl, sym, ◌∙◌, ap, subst, arith, true≢false}
use Rattle.std.specs.Prelude.{IfSome, IsSome, is_some, OnOk}
use Rattle.std.proofs.lemmas.Bool.{cases_eq}
use Rattle.std.proofs.lemmas.List.Elements.{All-nil}
use Rattle.fix_disk.specs.Disk.{DiskSeen, IsLawfulDisk, Torn, overwritten}
use Rattle.fix_disk.specs.Moments.{LeavesOnly}
use Rattle.fix_disk.specs.declared.disk.DiskFailed.{DiskFailed}
use Rattle.fix_journal.specs.Format.{OPEN, NAME, IsPayload, IsJournal, HasRecords}
use Rattle.fix_journal.specs.Synced.{WritesSynced, TornFrom}
use Rattle.fix_journal.specs.Opening.{Rests, IsClosed, IsShort, KeepsBehind, Makes}
use Rattle.fix_journal.proofs.Files.{gate_torn, gate_written}
use Rattle.fix_journal.proofs.Moments.{weaker, then_on}
use Rattle.fix_journal.proofs.AsRead.{at_told}
use Rattle.fix_journal.proofs.AsRead as read
use Rattle.fix_journal.proofs.SoundLemmas.{some_same, told_case}

-- what a crash leaves of a file at rest
pub left_has : (seen : DiskSeen) (P : List ℕ → Type 0) → IsLawfulDisk seen → Rests seen P → seen.TellsImages → (d : List ℕ) → seen.image d → P d
left_has seen P laws rests told d left =
    let there = at_told seen.bytes (laws.tells_bytes told) in
    let only = subst (λ o. IfSome o (λ file. (c : List ℕ) → seen.image c → c ≡ file)) there.1 (rests.durable told) in
    subst P (sym (only d left)) (subst (λ o. IfSome o P) there.1 rests.holds)

module _ {T : Type 0} (answer : Result T DiskFailed) (at : ℕ) (bytes : List ℕ) (old new : DiskSeen) (P Q : List ℕ → Type 0) (laws : IsLawfulDisk old) (new_laws : IsLawfulDisk new) (rests : Rests old P) (writes : WritesSynced answer at bytes old new) (gives : (d c : List ℕ) → P d → Torn at (length bytes) d c → Q c) where
  left_by : old.TellsImages → (c : List ℕ) → TornFrom old at bytes c → Q c
  left_by told c from = gives from.0 c (left_has old P laws rests told from.0 from.1) from.2

  step_now : new.TellsImages → (c : List ℕ) → new.image c → Q c
  step_now told c left = left_by (writes.tells_images.0 told) c (writes.now told c left)

  step_moments : LeavesOnly old new Q
  step_moments = weaker old new (TornFrom old at bytes) Q writes.moments (λ p c from. left_by (writes.tells_images.0 (new_laws.tells_now p)) c from)

step_read : {T : Type 0} (answer : Result T DiskFailed) (at : ℕ) (bytes : List ℕ) (old new : DiskSeen) (P Q : List ℕ → Type 0) → Rests old P → WritesSynced answer at bytes old new → ((d c : List ℕ) → P d → Torn at (length bytes) d c → Q c) → IfSome new.bytes Q
step_read answer at bytes old new P Q rests writes gives =
    read.read_has new Q (step_now answer at bytes (read.as_read old) (read.as_read new) P Q (read.lawful old) (read.lawful new) (read.rests old P rests) (read.writes answer at bytes old new writes) gives)

rests_after : {T : Type 0} (x : T) (at : ℕ) (bytes : List ℕ) (old new : DiskSeen) (P Q : List ℕ → Type 0) → Rests old P → WritesSynced (Ok x) at bytes old new → ((file : List ℕ) → P file → Q (overwritten at bytes file)) → Rests new Q
rests_after x at bytes old new P Q rests writes does = record {
  holds = told_case new.bytes Q (λ file is.
      let there = at_told old.bytes (writes.tells_bytes.0 (ap is_some is)) in
      let now : new.bytes ≡ Some (overwritten at bytes there.0) = subst (λ o. IfSome o (λ f. new.bytes ≡ Some (overwritten at bytes f))) there.1 writes.file in
      subst Q (some_same (overwritten at bytes there.0) file (sym now ∙ is)) (does there.0 (subst (λ o. IfSome o P) there.1 rests.holds)));
  durable = writes.durable;
}

-- the name and a closed gate stand behind the file's gate
abbrev IsReady : List ℕ → Type 0
IsReady file = (first : ℕ) × (rest : List ℕ) × (file ≡ first ∷ (NAME ++ 0 ∷ rest))

empty_journal : (file rest : List ℕ) → file ≡ OPEN ∷ (NAME ++ 0 ∷ rest) → IsJournal file []
empty_journal file rest is = record { gate = 0; behind = rest; is = is; closed = λ e. omega (arith, e); each = All-nil IsPayload }

short_torn : (d c : List ℕ) → IsShort d → Torn 0 1 d c → HasRecords c []
short_torn d c short torn = inl (λ made. omega (arith, made.0, torn.no_longer, short), refl)

short_closed : (file : List ℕ) → IsShort file → IsClosed (overwritten 0 (0 ∷ []) file)
short_closed [] short = (omega arith, λ e. omega (arith, e))
short_closed (x ∷ file) short = (omega arith, λ e. omega (arith, e))

closed_torn : (d c : List ℕ) → IsClosed d → Torn 1 9 d c → HasRecords c []
closed_torn d c shut torn = inl (λ made. shut.1 (sym (torn.before 0 (omega (arith, shut.0)) (omega arith)) ∙ made.1), refl)

closed_ready : (file : List ℕ) → IsClosed file → IsReady (overwritten 1 (NAME ++ 0 ∷ []) file)
closed_ready [] shut = absurd (omega (arith, shut.0))
closed_ready (x ∷ file) shut = (x, drop 10 (x ∷ file), refl)

ready_torn : (d c : List ℕ) → IsReady d → Torn 0 1 d c → HasRecords c []
ready_torn d c ready torn =
    let is : c ≡ get_or c 0 0 ∷ (NAME ++ 0 ∷ ready.1) = gate_torn [] ready.0 0 (NAME ++ 0 ∷ ready.1) c refl (subst (λ f. Torn 0 1 f c) ready.2 torn) in
    elim (cases_eq (get_or c 0 0) OPEN) [
      | inl open_gate ↦ inr (empty_journal c ready.1 (is ∙ ap (λ g. g ∷ (NAME ++ 0 ∷ ready.1)) open_gate))
      | inr shut ↦ inl (λ made. shut made.1, refl)
    ]

ready_made : (file : List ℕ) → IsReady file → IsJournal (overwritten 0 (1 ∷ []) file) []
ready_made file ready = empty_journal (overwritten 0 (1 ∷ []) file) ready.1 (ap (overwritten 0 (1 ∷ [])) ready.2 ∙ gate_written [] ready.0 1 0 (NAME ++ 0 ∷ ready.1) refl)

-- a write that keeps what stands behind, and two of them
keeps_behind : {T : Type 0} (x : T) (at : ℕ) (bytes : List ℕ) (old new : DiskSeen) (P : List ℕ → Type 0) → Rests old P → WritesSynced (Ok x) at bytes old new → ((file : List ℕ) → P file → drop 10 (overwritten at bytes file) ≡ drop 10 file) → KeepsBehind old.bytes new.bytes
keeps_behind x at bytes old new P rests writes does = told_case old.bytes (λ file. IfSome new.bytes (λ now. drop 10 now ≡ drop 10 file)) (λ file is.
    let now : new.bytes ≡ Some (overwritten at bytes file) = subst (λ o. IfSome o (λ f. new.bytes ≡ Some (overwritten at bytes f))) is writes.file in
    subst (λ o. IfSome o (λ l. drop 10 l ≡ drop 10 file)) (sym now) (does file (subst (λ o. IfSome o P) is rests.holds)))

keeps_both : (a b c : Option (List ℕ)) → (IsSome a → IsSome b) → KeepsBehind a b → KeepsBehind b c → KeepsBehind a c
keeps_both None b c some first second = tt
keeps_both (Some x) None c some first second = absurd (true≢false (sym (some refl)))
keeps_both (Some x) (Some y) None some first second = tt
keeps_both (Some x) (Some y) (Some z) some first second = second ∙ first

short_behind : (file : List ℕ) → IsShort file → drop 10 (overwritten 0 (0 ∷ []) file) ≡ drop 10 file
short_behind [] short = refl
short_behind (x ∷ file) short = refl

closed_behind : (file : List ℕ) → IsClosed file → drop 10 (overwritten 1 (NAME ++ 0 ∷ []) file) ≡ drop 10 file
closed_behind [] shut = absurd (omega (arith, shut.0))
closed_behind (x ∷ file) shut = refl

ready_behind : (file : List ℕ) → IsReady file → drop 10 (overwritten 0 (1 ∷ []) file) ≡ drop 10 file
ready_behind [] ready = refl
ready_behind (x ∷ file) ready = refl

module _ (old mid : DiskSeen) (laws : IsLawfulDisk old) (mid_laws : IsLawfulDisk mid) where
  module _ (rests : Rests old IsClosed) where
    pub closed_failed : {T : Type 0} (e : DiskFailed) → WritesSynced {T = T} (Err e) 1 (NAME ++ 0 ∷ []) old mid → Makes {T = T} (Err e) old mid
    closed_failed e writes = record {
      kept = tt;
      behind = tt;
      tells_bytes = writes.tells_bytes;
      tells_images = writes.tells_images;
      any_moment = step_moments (Err e) 1 (NAME ++ 0 ∷ []) old mid IsClosed (λ c. HasRecords c []) laws mid_laws rests writes closed_torn;
      now = step_now (Err e) 1 (NAME ++ 0 ∷ []) old mid IsClosed (λ c. HasRecords c []) laws mid_laws rests writes closed_torn;
      as_read = step_read (Err e) 1 (NAME ++ 0 ∷ []) old mid IsClosed (λ c. HasRecords c []) rests writes closed_torn;
      cause = writes.cause;
    }

    pub closed_done : {T U : Type 0} (x : U) (answer : Result T DiskFailed) (new : DiskSeen) → IsLawfulDisk new → WritesSynced {T = U} (Ok x) 1 (NAME ++ 0 ∷ []) old mid → WritesSynced answer 0 (1 ∷ []) mid new → Makes answer old new
    closed_done x answer new new_laws first second = record {
      kept = kept answer second;
      behind = behind answer second;
      tells_bytes = (λ t. first.tells_bytes.0 (second.tells_bytes.0 t), λ t. second.tells_bytes.1 (first.tells_bytes.1 t));
      tells_images = (λ t. first.tells_images.0 (second.tells_images.0 t), λ t. second.tells_images.1 (first.tells_images.1 t));
      any_moment = then_on old mid new (λ c. HasRecords c [])
          (step_moments (Ok x) 1 (NAME ++ 0 ∷ []) old mid IsClosed (λ c. HasRecords c []) laws mid_laws rests first closed_torn)
          (step_moments answer 0 (1 ∷ []) mid new IsReady (λ c. HasRecords c []) mid_laws new_laws ready second ready_torn);
      now = step_now answer 0 (1 ∷ []) mid new IsReady (λ c. HasRecords c []) mid_laws new_laws ready second ready_torn;
      as_read = step_read answer 0 (1 ∷ []) mid new IsReady (λ c. HasRecords c []) ready second ready_torn;
      cause = omega (arith, first.cause, second.cause);
    }
      where
        ready : Rests mid IsReady
        ready = rests_after x 1 (NAME ++ 0 ∷ []) old mid IsClosed IsReady rests first closed_ready

        kept : {S : Type 0} (answer : Result S DiskFailed) → WritesSynced answer 0 (1 ∷ []) mid new → OnOk answer (Rests new (λ file. IsJournal file []))
        kept (Ok y) second = rests_after y 0 (1 ∷ []) mid new IsReady (λ file. IsJournal file []) ready second ready_made
        kept (Err e) second = tt

        behind : {S : Type 0} (answer : Result S DiskFailed) → WritesSynced answer 0 (1 ∷ []) mid new → OnOk answer (KeepsBehind old.bytes new.bytes)
        behind (Ok y) second = keeps_both old.bytes mid.bytes new.bytes first.tells_bytes.1
            (keeps_behind x 1 (NAME ++ 0 ∷ []) old mid IsClosed rests first closed_behind)
            (keeps_behind y 0 (1 ∷ []) mid new IsReady ready second ready_behind)
        behind (Err e) second = tt

  module _ (rests : Rests old IsShort) where
    pub short_failed : {T : Type 0} (e : DiskFailed) → WritesSynced {T = T} (Err e) 0 (0 ∷ []) old mid → Makes {T = T} (Err e) old mid
    short_failed e writes = record {
      kept = tt;
      behind = tt;
      tells_bytes = writes.tells_bytes;
      tells_images = writes.tells_images;
      any_moment = step_moments (Err e) 0 (0 ∷ []) old mid IsShort (λ c. HasRecords c []) laws mid_laws rests writes short_torn;
      now = step_now (Err e) 0 (0 ∷ []) old mid IsShort (λ c. HasRecords c []) laws mid_laws rests writes short_torn;
      as_read = step_read (Err e) 0 (0 ∷ []) old mid IsShort (λ c. HasRecords c []) rests writes short_torn;
      cause = writes.cause;
    }

    pub shut_first : {T : Type 0} (x : T) → WritesSynced (Ok x) 0 (0 ∷ []) old mid → Rests mid IsClosed
    shut_first x first = rests_after x 0 (0 ∷ []) old mid IsShort IsClosed rests first short_closed

    pub short_done : {T U : Type 0} (x : U) (answer : Result T DiskFailed) (new : DiskSeen) → WritesSynced {T = U} (Ok x) 0 (0 ∷ []) old mid → Makes answer mid new → Makes answer old new
    short_done x answer new first second = record {
      kept = second.kept;
      behind = behind answer second;
      tells_bytes = (λ t. first.tells_bytes.0 (second.tells_bytes.0 t), λ t. second.tells_bytes.1 (first.tells_bytes.1 t));
      tells_images = (λ t. first.tells_images.0 (second.tells_images.0 t), λ t. second.tells_images.1 (first.tells_images.1 t));
      any_moment = then_on old mid new (λ c. HasRecords c [])
          (step_moments (Ok x) 0 (0 ∷ []) old mid IsShort (λ c. HasRecords c []) laws mid_laws rests first short_torn)
          second.any_moment;
      now = second.now;
      as_read = second.as_read;
      cause = omega (arith, first.cause, second.cause);
    }
      where
        behind : {S : Type 0} (answer : Result S DiskFailed) → Makes answer mid new → OnOk answer (KeepsBehind old.bytes new.bytes)
        behind (Ok y) second = keeps_both old.bytes mid.bytes new.bytes first.tells_bytes.1 (keeps_behind x 0 (0 ∷ []) old mid IsShort rests first short_behind) second.behind
        behind (Err e) second = tt
