-- What the places that a journal keeps say of its file.
use Rattle.std.proofs.Common.{◌≡◌, ℕ, ◌+◌, ◌≤◌, Bool, true, false, true≢false, List, ◌∷◌, length, Option, Some, None, refl, sym, ◌∙◌, ap, subst, arith, length-append}
use Rattle.std.specs.Prelude.{IfSome, IsSome, is_some, slice_index}
use Rattle.fix_disk.specs.Disk.{DiskSeen, HasRange}
use Rattle.fix_journal.specs.Format.{front, IsJournal}
use Rattle.fix_journal.specs.AtRest.{IsAtRest}
use Rattle.fix_journal.specs.declared.index.Index.{Index}
use Rattle.fix_journal.specs.Index.{IsShaped, IsIndexOf, IsSameIndex}
use Rattle.fix_journal.specs.Journal.{IsSound, Holds}
use Rattle.fix_journal.proofs.Unique.{unique}

pub some_same : (file other : List ℕ) → Some file ≡ Some other → file ≡ other
some_same file other is = subst (λ o. IfSome o (λ x. file ≡ x)) is refl

pub told_case : (o : Option (List ℕ)) (P : List ℕ → Type 0) → ((file : List ℕ) → o ≡ Some file → P file) → IfSome o P
told_case None P each = tt
told_case (Some file) P each = each file refl

pub calm : (seen : DiskSeen) (index : Index) (stopped : Bool) → stopped ≡ false → IsSound seen index stopped → IsSound seen index false
calm seen index stopped is sound = subst (λ b. IsSound seen index b) is sound

-- room that was taken changes nothing
same_shape : (index other : Index) → IsSameIndex index other → IsShaped index → IsShaped other
same_shape index other same shaped = record {
  few = omega (arith, shaped.few, same.count, same.closed);
  enough = omega (arith, shaped.enough, same.count, ap length same.marks);
  no_more = omega (arith, shaped.no_more, same.count, ap length same.marks);
}

pub same_sound : (seen : DiskSeen) (index other : Index) (stopped : Bool) → IsSameIndex index other → IsSound seen index stopped → IsSound seen other stopped
same_sound seen index other stopped same sound = record {
  shaped = same_shape index other same sound.shaped;
  rests = λ still told.
      let got = sound.rests still told in (
        got.0,
        got.1,
        record {
          count = same.count ∙ got.2.count;
          closed = same.closed ∙ got.2.closed;
          marks = λ k le. ap (λ l. slice_index l k) same.marks ∙ got.2.marks k le;
        },
      );
}

-- a journal that has failed
pub failed_sound : (seen now : DiskSeen) (index other : Index) (stopped : Bool) → IsSameIndex index other → IsSound seen index stopped → IsSound now other true
failed_sound seen now index other stopped same sound = record {
  shaped = same_shape index other same sound.shaped;
  rests = λ still. absurd (true≢false still);
}

module _ (seen : DiskSeen) (index : Index) (sound : IsSound seen index false) where
  pub holds_of : IsSome seen.bytes → (payloads : List (List ℕ)) × Holds seen payloads
  holds_of some = let got = sound.rests refl some in (got.0, (got.1.file, got.1.is, got.1.journal))

  -- the file's records are those that the places are of
  pub rested : (payloads : List (List ℕ)) → Holds seen payloads → IsAtRest seen (length (front payloads)) payloads × IsIndexOf index payloads
  rested payloads holds =
      let got = sound.rests refl (ap is_some holds.1) in
      let same : holds.0 ≡ got.1.file = some_same holds.0 got.1.file (sym holds.1 ∙ got.1.is) in
      let list : got.0 ≡ payloads = unique got.1.file got.0 payloads got.1.journal (subst (λ f. IsJournal f payloads) same holds.2) in
      subst (λ ps. IsAtRest seen (length (front ps)) ps × IsIndexOf index ps) list (got.1, got.2)

  -- the closed gate is after them
  pub at_gate : (payloads : List (List ℕ)) → Holds seen payloads → IsAtRest seen index.closed payloads
  at_gate payloads holds =
      let r = rested payloads holds in
      subst (λ n. IsAtRest seen n payloads) (sym r.1.closed) r.0

  pub place : HasRange seen.bytes index.closed 1
  place = told_case seen.bytes (λ file. index.closed + 1 ≤ length file) (λ file is.
      let some = holds_of (ap is_some is) in
      let rests = at_gate some.0 some.1 in
      let same : rests.file ≡ file = some_same rests.file file (sym rests.is ∙ is) in
      omega (arith, rests.at, ap length same, ap length rests.journal.is, length-append (front some.0) (rests.journal.gate ∷ rests.journal.behind)))
