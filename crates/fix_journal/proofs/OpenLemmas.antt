-- The opening of a journal.
use Rattle.std.proofs.Common.{◌≡◌, inl, inr, ℕ, Bool, true, false, List, [], length, Option, Some, None, Result, Ok, sym, ◌∙◌, ap, subst, arith}
use Rattle.std.specs.Prelude.{IfSome, IsSome, is_some}
use Rattle.fix_base.specs.Trace.{Rises}
use Rattle.fix_disk.specs.Disk.{DiskSeen, IsLawfulDisk, failures}
use Rattle.fix_disk.specs.declared.disk.DiskFailed.{DiskFailed}
use Rattle.fix_journal.specs.declared.fault.OpenFault.{OpenFault}
use Rattle.fix_journal.specs.declared.fault.OpenFault.TheVariants.{DiskFault, Damaged, OutOfMemory}
use Rattle.fix_journal.specs.Format.{IsMade, HasRecords, front}
use Rattle.fix_journal.specs.Journal.{Holds, Lasts}
use Rattle.fix_journal.specs.Opening.{Rests, IsUntouched, IsUnmadeBy, Makes, Finds, IsLeftByOpening, StaysWithoutMemory, KeepsBehind, KeepsWhereOpened, Opens, open_failures}
use Rattle.fix_journal.proofs.Moments.{weaker, then_on}
use Rattle.fix_journal.proofs.SoundLemmas.{told_case}
use Rattle.fix_journal.proofs.AsRead.{at_told}
use Rattle.fix_journal.specs.declared.index.Index.{Index}
use Rattle.fix_journal.proofs.CallLemmas.{lasts}

not_made : (is_short : Bool) (file : List ℕ) → IsUnmadeBy is_short file → IsMade file → ⊥
not_made true file short made = omega (arith, short, made.0)
not_made false file shut made = shut.1 made.1

stays_later : (fault : Option OpenFault) (old mid new : DiskSeen) → mid.bytes ≡ old.bytes → StaysWithoutMemory fault mid new → StaysWithoutMemory fault old new
stays_later None old mid new is stays = tt
stays_later (Some DiskFault) old mid new is stays = tt
stays_later (Some (Damaged place)) old mid new is stays = tt
stays_later (Some OutOfMemory) old mid new is stays = stays ∙ is

behind_later : (fault : Option OpenFault) (old mid new : DiskSeen) → mid.bytes ≡ old.bytes → KeepsWhereOpened fault mid new → KeepsWhereOpened fault old new
behind_later None old mid new is behind = subst (λ o. KeepsBehind o new.bytes) is behind
behind_later (Some fault) old mid new is behind = tt

-- an opening behind calls that write nothing
pub opens_later : (fault : Option OpenFault) (old mid new : DiskSeen) → IsLawfulDisk mid → IsUntouched old mid → Rises 0 old.faults mid.faults → Opens fault mid new → Opens fault old new
opens_later fault old mid new laws untouched before opens = record {
  made_same = subst (λ o. IfSome o (λ file. IsMade file → new.bytes ≡ o)) untouched.bytes opens.made_same;
  behind = behind_later fault old mid new untouched.bytes opens.behind;
  refused_same = stays_later fault old mid new untouched.bytes opens.refused_same;
  any_moment = then_on old mid new (IsLeftByOpening old)
      (weaker old mid old.image (IsLeftByOpening old) untouched.moments (λ p c left. inl left))
      (weaker mid new (IsLeftByOpening mid) (IsLeftByOpening old) opens.any_moment (λ p c left. left_later (laws.tells_now (opens.any_moment.told p)) c left));
  now = λ told c left. left_later (opens.tells_images.0 told) c (opens.now told c left);
  as_read = subst (λ o. IfSome o (λ file. (IsMade file → ⊥) → IfSome new.bytes (λ c. HasRecords c []))) untouched.bytes opens.as_read;
  tells_bytes = (λ some. ap is_some (sym untouched.bytes) ∙ opens.tells_bytes.0 some, λ some. opens.tells_bytes.1 (ap is_some untouched.bytes ∙ some));
  tells_images = (λ told. untouched.tells_images.0 (opens.tells_images.0 told), λ told. opens.tells_images.1 (untouched.tells_images.1 told));
  cause = omega (arith, before, opens.cause);
}
  where
    left_later : mid.TellsImages → (c : List ℕ) → IsLeftByOpening mid c → IsLeftByOpening old c
    left_later told c (inl left) = inl (untouched.images (untouched.tells_images.0 told) c left)
    left_later told c (inr left) = inr ((left.0.0, sym untouched.bytes ∙ left.0.1, left.0.2), left.1)

module _ {T : Type 0} (answer : Result T DiskFailed) (is_short : Bool) (old new : DiskSeen) (laws : IsLawfulDisk old) (new_laws : IsLawfulDisk new) (rests : Rests old (IsUnmadeBy is_short)) (makes : Makes answer old new) where
  unmade : IsSome old.bytes → (file : List ℕ) × (old.bytes ≡ Some file) × (IsMade file → ⊥)
  unmade some =
      let there = at_told old.bytes some in
      (there.0, there.1, not_made is_short there.0 (subst (λ o. IfSome o (IsUnmadeBy is_short)) there.1 rests.holds))

  pub opens_making : (fault : Option OpenFault) → open_failures fault ≡ failures answer → StaysWithoutMemory fault old new → KeepsWhereOpened fault old new → Opens fault old new
  opens_making fault same stays behind = record {
    refused_same = stays;
    behind = behind;
    made_same = told_case old.bytes (λ file. IsMade file → new.bytes ≡ old.bytes) (λ file is made. absurd (not_made is_short file (subst (λ o. IfSome o (IsUnmadeBy is_short)) is rests.holds) made));
    any_moment = weaker old new (λ c. HasRecords c []) (IsLeftByOpening old) makes.any_moment (λ p c has. inr (unmade (laws.tells_bytes (laws.tells_now (makes.any_moment.told p))), has));
    now = λ told c left. inr (unmade (laws.tells_bytes (makes.tells_images.0 told)), makes.now told c left);
    as_read = told_case old.bytes (λ file. (IsMade file → ⊥) → IfSome new.bytes (λ c. HasRecords c [])) (λ file is unmade. makes.as_read);
    tells_bytes = makes.tells_bytes;
    tells_images = makes.tells_images;
    cause = omega (arith, makes.cause, same);
  }

-- what was found is what is kept
pub opened : (index : Index) (old new : DiskSeen) → IfSome old.bytes (Finds (Ok index) new)
    → IfSome old.bytes (λ file. (payloads : List (List ℕ)) × HasRecords file payloads × (index.count ≡ length payloads) × Holds new payloads × Lasts new payloads)
opened index old new finds = told_case old.bytes (λ file. (payloads : List (List ℕ)) × HasRecords file payloads × (index.count ≡ length payloads) × Holds new payloads × Lasts new payloads) (λ file is.
    let found = subst (λ o. IfSome o (Finds (Ok index) new)) is finds in
    (found.0, found.1, found.3.count, (found.2.file, found.2.is, found.2.journal), lasts new (length (front found.0)) found.0 found.2))
