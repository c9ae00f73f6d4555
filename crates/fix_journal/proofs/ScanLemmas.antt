-- A walk over the records of a file.
use Rattle.std.proofs.Common.{◌≡◌, ℕ, ◌+◌, ◌-◌, ◌<◌, ◌≤◌, List, [], ◌∷◌, ◌++◌, length, take, drop, get_or, refl, sym, ◌∙◌, ap, subst, arith, length-append, length-drop, take-append-drop}
use Rattle.std.specs.Prelude.{All, IfSome}
use Rattle.std.proofs.lemmas.List.{take_at, drop-drop}
use Rattle.std.proofs.lemmas.List.Elements.{All-push, All-nil}
use Rattle.fix_base.specs.Trace.{Rises}
use Rattle.fix_disk.specs.Disk.{DiskSeen, IsLawfulDisk}
use Rattle.fix_journal.specs.declared.heads.Head.{Head}
use Rattle.fix_journal.specs.declared.heads.Head.TheVariants.{Closed, Record, Broken}
use Rattle.fix_journal.specs.Format.{OPEN, IsPayload, body_of, front, IsJournal, Breaks}
use Rattle.fix_journal.specs.declared.index.Index.{Index}
use Rattle.fix_journal.specs.Index.{IsShaped, IsIndexOf, Adds}
use Rattle.fix_journal.specs.Opening.{Judges, IsWithin, IsUntouched, HasLength, IsNamed}
use Rattle.fix_journal.proofs.Records.{front_push}
use Rattle.fix_journal.proofs.IndexLemmas.{still_shaped, added}
use Rattle.fix_journal.proofs.Moments.{started, then_on, weaker}
use Rattle.fix_journal.proofs.SoundLemmas.{told_case}

-- the records up to a gate
pub record IsUpTo (file : List ℕ) (index : Index) : Type 0 where
  pub payloads : List (List ℕ)
  pub is : file ≡ front payloads ++ drop index.closed file
  pub each : All IsPayload payloads
  pub kept : IsIndexOf index payloads

pub record IsScanning (old now : DiskSeen) (end : ℕ) (index : Index) : Type 0 where
  pub within : index.closed < end
  pub shaped : IsShaped index
  pub long : HasLength old.bytes end
  pub up_to : IfSome old.bytes (λ file. IsUpTo file index)
  pub untouched : IsUntouched old now
  pub cause : Rises 0 old.faults now.faults

pub untouched_start : (old : DiskSeen) → IsLawfulDisk old → IsUntouched old old
untouched_start old laws = record { bytes = refl; tells_images = (λ t. t, λ t. t); images = λ told c left. left; moments = started old old.image laws (λ p c left. left) }

pub untouched_on : (old mid new : DiskSeen) → IsLawfulDisk mid → IsUntouched old mid → IsUntouched mid new → IsUntouched old new
untouched_on old mid new mid_laws first second = record {
  bytes = second.bytes ∙ first.bytes;
  tells_images = (λ t. first.tells_images.0 (second.tells_images.0 t), λ t. second.tells_images.1 (first.tells_images.1 t));
  images = λ told c left. first.images told c (second.images (first.tells_images.1 told) c left);
  moments = then_on old mid new old.image first.moments (weaker mid new mid.image old.image second.moments (λ p c left. first.images (first.tells_images.0 (mid_laws.tells_now (second.moments.told p))) c left));
}

pub begins : (old : DiskSeen) (end : ℕ) (index : Index) → IsLawfulDisk old → 10 ≤ end → HasLength old.bytes end → IfSome old.bytes IsNamed → IsShaped index → IsIndexOf index [] → IsScanning old old end index
begins old end index laws le long named shaped kept = record {
  within = omega (arith, le, kept.closed);
  shaped = shaped;
  long = long;
  up_to = told_case old.bytes (λ file. IsUpTo file index) (λ file is.
      let name = subst (λ o. IfSome o IsNamed) is named in
      record {
        payloads = [];
        is = sym (take-append-drop 9 file) ∙ ap (λ l. l ++ drop 9 file) name.1 ∙ ap (λ n. (front []) ++ drop n file) (sym kept.closed);
        each = All-nil IsPayload;
        kept = kept;
      });
  untouched = untouched_start old laws;
  cause = omega arith;
}

-- the gate is closed
pub ends : (file : List ℕ) (index : Index) → index.closed < length file → IsUpTo file index → Judges Closed (drop index.closed file) → (payloads : List (List ℕ)) × IsJournal file payloads × IsIndexOf index payloads
ends file index lt so_far shut =
    let gate = index.closed in
    let first = get_or (drop gate file) 0 0 in (
      so_far.payloads,
      record {
        gate = first;
        behind = drop 1 (drop gate file);
        is = so_far.is ∙ ap (λ l. front so_far.payloads ++ l) (split (drop gate file) (omega (arith, lt, length-drop gate file)));
        closed = shut;
        each = so_far.each;
      },
      so_far.kept,
    )
  where
    split : (l : List ℕ) → 1 ≤ length l → l ≡ get_or l 0 0 ∷ drop 1 l
    split [] le = absurd (omega (arith, le))
    split (x ∷ l) le = refl

-- it is open and there is no record
pub breaks : (file : List ℕ) (index : Index) → index.closed < length file → IsUpTo file index → Judges Broken (drop index.closed file) → Breaks file index.closed
breaks file index lt so_far broken = record {
  payloads = so_far.payloads;
  rest = drop 1 (drop index.closed file);
  is = so_far.is ∙ ap (λ l. front so_far.payloads ++ l) (split (drop index.closed file) (omega (arith, lt, length-drop index.closed file)) ∙ ap (λ g. g ∷ drop 1 (drop index.closed file)) broken.0);
  each = so_far.each;
  at = so_far.kept.closed;
  none = broken.1;
}
  where
    split : (l : List ℕ) → 1 ≤ length l → l ≡ get_or l 0 0 ∷ drop 1 l
    split [] le = absurd (omega (arith, le))
    split (x ∷ l) le = refl

pub breaks_told : (old now : DiskSeen) (end : ℕ) (index : Index) (head : Head) → head ≡ Broken → IsScanning old now end index → IfSome now.bytes (λ file. Judges head (drop index.closed file)) → IfSome old.bytes (λ file. Breaks file index.closed)
breaks_told old now end index head head_is so_far broken = told_case old.bytes (λ file. Breaks file index.closed) (λ file is.
    let long : length file ≡ end = subst (λ o. IfSome o (λ f. length f ≡ end)) is so_far.long in
    breaks file index (omega (arith, so_far.within, long)) (subst (λ o. IfSome o (λ f. IsUpTo f index)) is so_far.up_to) (subst (λ o. IfSome o (λ f. Judges Broken (drop index.closed f))) (so_far.untouched.bytes ∙ is) (subst (λ h. IfSome now.bytes (λ f. Judges h (drop index.closed f))) head_is broken)))

-- a record, and the gate behind it
pub goes_past : (file : List ℕ) (index next : Index) (size : ℕ) → IsShaped index → Adds (index.closed + (5 + size)) index next → IsUpTo file index → Judges (Record size) (drop index.closed file) → IsUpTo file next
goes_past file index next size shaped adds so_far there =
    let gate = index.closed in
    let payload = there.0 in
    let later = drop (gate + (5 + size)) file in
    let behind : drop size (drop 5 (drop gate file)) ≡ later =
    ap (drop size) (drop-drop 5 gate file) ∙ drop-drop size (gate + 5) file ∙ ap (λ n. drop n file) (omega arith) in
    let more : front so_far.payloads ++ OPEN ∷ (body_of payload ++ later) ≡ front (so_far.payloads ++ payload ∷ []) ++ later = front_push so_far.payloads payload later in
    let long : gate + (5 + size) ≡ length (front (so_far.payloads ++ payload ∷ [])) = omega (arith, so_far.kept.closed, there.2, ap length more, length-append (front so_far.payloads) (OPEN ∷ (body_of payload ++ later)), length-append (body_of payload) later, length-append (front (so_far.payloads ++ payload ∷ [])) later) in
    record {
      payloads = so_far.payloads ++ payload ∷ [];
      is = so_far.is ∙ ap (λ l. front so_far.payloads ++ l) (there.3 ∙ ap (λ l. OPEN ∷ (body_of payload ++ l)) behind) ∙ more ∙ ap (λ n. front (so_far.payloads ++ payload ∷ []) ++ drop n file) (sym adds.closed);
      each = All-push IsPayload so_far.payloads payload so_far.each there.1;
      kept = added index next (gate + (5 + size)) shaped adds so_far.payloads payload so_far.kept long;
    }

pub passes : (old mid new : DiskSeen) (end size : ℕ) (index next : Index) (head : Head) → head ≡ Record size → IsLawfulDisk mid → IsScanning old mid end index → Adds (index.closed + (5 + size)) index next → IfSome mid.bytes (λ file. Judges head (drop index.closed file)) → IsWithin head (end - index.closed) → IsUntouched mid new → Rises 0 mid.faults new.faults
    → IsScanning old new end next
passes old mid new end size index next head head_is laws so_far adds there within untouched cause = record {
  within = omega (arith, lt, so_far.within, adds.closed);
  shaped = still_shaped index next (index.closed + (5 + size)) so_far.shaped adds (omega arith);
  long = so_far.long;
  up_to = told_case old.bytes (λ file. IsUpTo file next) (λ file is.
      goes_past file index next size so_far.shaped adds (subst (λ o. IfSome o (λ f. IsUpTo f index)) is so_far.up_to)
      (subst (λ o. IfSome o (λ f. Judges (Record size) (drop index.closed f))) (so_far.untouched.bytes ∙ is) (subst (λ h. IfSome mid.bytes (λ f. Judges h (drop index.closed f))) head_is there)));
  untouched = untouched_on old mid new laws so_far.untouched untouched;
  cause = omega (arith, so_far.cause, cause);
}
  where
    lt : 5 + size < end - index.closed
    lt = subst (λ h. IsWithin h (end - index.closed)) head_is within

-- the first bytes of a list, however many of them there are
pub filled_up_to : (most : ℕ) (room zeros rest : List ℕ) (count : ℕ) → length room ≡ count → count ≡ length (take most rest) → room ≡ take (length room) rest → take count (room ++ zeros) ≡ take most rest
filled_up_to most room zeros rest count long few is =
    take_at room zeros count long
    ∙ is
    ∙ ap (λ l. take (length room) l) (sym (take-append-drop most rest))
    ∙ take_at (take most rest) (drop most rest) (length room) (omega (arith, long, few))
