-- The opening of a store: that of its journal, the walk over the records, and the mark.
use Rattle.std.proofs.Common.{◌≡◌, ◌⊎◌, ◌↔◌, inl, inr, ℕ, Bool, true, false, List, [], ◌∷◌, ◌++◌, length, Option, Some, None, Result, Ok, Err, refl, sym, ◌∙◌, ap, subst, arith, length-append, true≢false}
use Rattle.std.proofs.lemmas.Bool.{cases_lt, cases_eq}
use Rattle.std.specs.Prelude.{⊤, map, IfSome, IfOk, IsSome, is_some, slice_index, if◌then◌else◌}
use Rattle.fix_base.specs.End.{End, new_end}
use Rattle.fix_disk.specs.Disk.{DiskSeen, IsLawfulDisk}
use Rattle.fix_disk.specs.Moments.{LeavesOnly}
use Rattle.fix_journal.specs.declared.fault.OpenFault.{OpenFault}
use Rattle.fix_journal.specs.declared.fault.OpenFault.TheVariants.{DiskFault, Damaged, OutOfMemory}
use Rattle.fix_journal.specs.Format.{OPEN, front, IsMade, IsJournal, HasRecords}
use Rattle.fix_journal.specs.AtRest.{IsEither}
use Rattle.fix_journal.specs.Journal.{JournalSeen, Holds, Lasts}
use Rattle.fix_journal.specs.Opening as journal
use Rattle.fix_journal.specs.Opening.{Opens, open_failures}
use Rattle.fix_journal.proofs.Moments.{weaker, then_on}
use Rattle.fix_journal.proofs.SoundLemmas.{told_case, some_same}
use Rattle.fix_journal.proofs.Gates.{length-front}
use Rattle.fix_journal.proofs.AsRead.{at_told}
use Rattle.fix_store.specs.declared.fault.StoreFault.{StoreFault}
use Rattle.fix_store.specs.declared.fault.StoreFault.TheVariants as fault
use Rattle.fix_store.specs.declared.folding.Folded.{Folded}
use Rattle.fix_store.specs.declared.changing.Change.TheVariants as change
use Rattle.fix_store.specs.Spelling.{Item, marks, spelled_item, MARK}
use Rattle.fix_store.specs.Reading.{new_content, taken_all, MayFollow, IsStoreOf, HasEnd}
use Rattle.fix_store.specs.Store.{stored_of, withheld_of, TellsEnd, HoldsEnd, LastsEnd, store_failures, fault_of}
use Rattle.fix_store.specs.Keeping.{AppendAnswers, Appends}
use Rattle.fix_store.specs.Opening.{marked_items, HoldsItems, IsCause, IsLeftByOpening, HasSameEnd, StaysWhereRefused, StoreOpens}
use Rattle.fix_store.specs.Folding.{Fold, fold_of, fold_with, stored_in, IsWithin, IsKeptOf, GoesOn, Reads, Folds}
use Rattle.fix_store.specs.Sound.{IsSound}
use Rattle.fix_store.specs.Marking.{adding_fault, Marks}
use Rattle.fix_store.proofs.RecordLists.{length-map, fold-push}
use Rattle.fix_store.proofs.Places.{within_step}
use Rattle.fix_store.proofs.KeepLemmas.{end_of, end_with, kept_read, kept_then}

-- a file with records is made
made_of : (file : List ℕ) (ps : List (List ℕ)) → IsJournal file ps → IsMade file
made_of file ps j = (
  omega (arith, ap length j.is, length-append (front ps) (j.gate ∷ j.behind), length-front ps),
  ap (λ f. slice_index f 0) j.is,
)

-- a file without records has the new end
new_in : (file : List ℕ) → HasRecords file [] → HasEnd file new_end
new_in file has = record { items = []; is = record { is = has; each = tt }; folds = refl }

-- ---- of a disk before and after

told_both : (old new : Option (List ℕ)) (P : List ℕ → List ℕ → Type 0) → ((file now : List ℕ) → old ≡ Some file → new ≡ Some now → P file now) → IfSome old (λ file. IfSome new (P file))
told_both old new P all = told_case old (λ file. IfSome new (P file)) (λ file is. told_case new (P file) (λ now is'. all file now is is'))

-- where moments are told, so are the bytes
past_tells : (old new : DiskSeen) → IsLawfulDisk new → (IsSome new.bytes ↔ IsSome old.bytes) → new.TellsPast → IsSome old.bytes
past_tells old new laws tells past = tells.0 (laws.tells_bytes (laws.tells_now past))

moments_where : (old new : DiskSeen) (P : List ℕ → Type 0) → (new.TellsPast → LeavesOnly old new P) → LeavesOnly old new P
moments_where old new P leaves = record {
  told = λ past. (leaves past).told past;
  later = λ past. (leaves past).later past;
  each = λ past. (leaves past).each past;
  before = λ past. (leaves past).before past;
}

-- ---- the journal is opened, and its records are read

from_journal : (old : DiskSeen) (c : List ℕ) → journal.IsLeftByOpening old c → IsLeftByOpening old c
from_journal old c (inl left) = inl left
from_journal old c (inr unmade) =
    let file = unmade.0 in
    inr (new_end, (file.0, file.1, new_in file.0 (inl (file.2, refl))), new_in c unmade.1)

module _ (failed : Option OpenFault) (old mid : DiskSeen) (opens : Opens failed old mid) where
  -- what is read then
  mid_read : (file now : List ℕ) → old.bytes ≡ Some file → mid.bytes ≡ Some now → (IsMade file ⊎ (IsMade file → ⊥)) → HasSameEnd file now
  mid_read file now is is' (inl made) =
      inl (some_same now file (sym is' ∙ subst (λ o. IfSome o (λ f. IsMade f → mid.bytes ≡ old.bytes)) is opens.made_same made ∙ is))
  mid_read file now is is' (inr unmade) =
      inr (new_end, new_in file (inl (unmade, refl)), new_in now (subst (λ o. IfSome o (λ c. HasRecords c [])) is' (subst (λ o. IfSome o (λ f. (IsMade f → ⊥) → IfSome mid.bytes (λ c. HasRecords c []))) is opens.as_read unmade)))

  mid_same : IfSome old.bytes (λ file. IsMade file → mid.bytes ≡ old.bytes)
  mid_same = opens.made_same

pub made_or_not : (file : List ℕ) → IsMade file ⊎ (IsMade file → ⊥)
made_or_not file = elim (cases_lt (length file) 10) [
  | inl short ↦ inr (λ made. omega (arith, short, made.0))
  | inr long ↦ elim (cases_eq (slice_index file 0) OPEN) [
    | inl open_gate ↦ inl (long, open_gate)
    | inr shut ↦ inr (λ made. shut made.1)
  ]
]

-- a journal that wasn't opened
stays : (failed : OpenFault) (old new : DiskSeen) → IfSome old.bytes (λ file. IsMade file → new.bytes ≡ old.bytes) → StaysWhereRefused (Some failed) old new
stays DiskFault old new same = tt
stays (Damaged place) old new same = same
stays OutOfMemory old new same = same

pub journal_unopened : (failed : OpenFault) (old new : DiskSeen) → Opens (Some failed) old new → StoreOpens (Some failed) old new
journal_unopened failed old new opens = record {
  refused_same = stays failed old new opens.made_same;
  any_moment = weaker old new (journal.IsLeftByOpening old) (IsLeftByOpening old) opens.any_moment (λ p c left. from_journal old c left);
  now = λ told c left. from_journal old c (opens.now told c left);
  as_read = told_both old.bytes new.bytes HasSameEnd (λ file now is is'. mid_read (Some failed) old new opens file now is is' (made_or_not file));
  tells_bytes = opens.tells_bytes;
  tells_images = opens.tells_images;
  cause = opens.cause;
}

module _ (old mid new : DiskSeen) (laws : IsLawfulDisk mid) (opens : Opens None old mid) where
  -- after the walk
  module _ (failures : ℕ) (reads : Reads failures mid new) where
    walk_moments : LeavesOnly old new (IsLeftByOpening old)
    walk_moments =
        then_on old mid new (IsLeftByOpening old)
        (weaker old mid (journal.IsLeftByOpening old) (IsLeftByOpening old) opens.any_moment (λ p c left. from_journal old c left))
        (weaker mid new mid.image (IsLeftByOpening old) reads.any_moment (λ p c left. from_journal old c (opens.now (laws.tells_now (reads.any_moment.told p)) c left)))

    walk_now : new.TellsImages → (c : List ℕ) → new.image c → IsLeftByOpening old c
    walk_now told c left = from_journal old c (opens.now (reads.tells_images.0 told) c ((reads.same.images (reads.tells_images.0 told) c).0 left))

    walk_read : IfSome old.bytes (λ file. IfSome new.bytes (HasSameEnd file))
    walk_read = told_both old.bytes new.bytes HasSameEnd (λ file now is is'. mid_read None old mid opens file now is (sym reads.same.bytes ∙ is') (made_or_not file))

    pub walk_tells : IsSome new.bytes ↔ IsSome old.bytes
    walk_tells = (λ some. opens.tells_bytes.0 (ap is_some (sym reads.same.bytes) ∙ some), λ some. ap is_some reads.same.bytes ∙ opens.tells_bytes.1 some)

    walk_images : new.TellsImages ↔ old.TellsImages
    walk_images = (λ told. opens.tells_images.0 (reads.tells_images.0 told), λ told. reads.tells_images.1 (opens.tells_images.1 told))

    walk_same : IfSome old.bytes (λ file. IsMade file → new.bytes ≡ old.bytes)
    walk_same = told_case old.bytes (λ file. IsMade file → new.bytes ≡ old.bytes) (λ file is made. reads.same.bytes ∙ subst (λ o. IfSome o (λ f. IsMade f → mid.bytes ≡ old.bytes)) is opens.made_same made)

  pub walk_refused : (failed : OpenFault) → Reads (open_failures (Some failed)) mid new → StoreOpens (Some failed) old new
  walk_refused failed reads = record {
    refused_same = stays failed old new (walk_same (open_failures (Some failed)) reads);
    any_moment = walk_moments (open_failures (Some failed)) reads;
    now = walk_now (open_failures (Some failed)) reads;
    as_read = walk_read (open_failures (Some failed)) reads;
    tells_bytes = walk_tells (open_failures (Some failed)) reads;
    tells_images = walk_images (open_failures (Some failed)) reads;
    cause = omega (arith, opens.cause, reads.cause);
  }

  -- a marked file is opened
  pub walk_whole : Reads 0 mid new → StoreOpens None old new
  walk_whole reads = record {
    refused_same = tt;
    any_moment = walk_moments 0 reads;
    now = walk_now 0 reads;
    as_read = walk_read 0 reads;
    tells_bytes = walk_tells 0 reads;
    tells_images = walk_images 0 reads;
    cause = omega (arith, opens.cause, reads.cause);
  }

-- ---- what it finds

-- the place that a journal names comes first
pub journal_cause : (failed : OpenFault) (told : Option (List ℕ)) → IfSome told (journal.IsCause failed) → IfSome told (IsCause failed)
journal_cause DiskFault told cause = told_case told (IsCause DiskFault) (λ file is. tt)
journal_cause OutOfMemory told cause = told_case told (IsCause OutOfMemory) (λ file is. tt)
journal_cause (Damaged place) None cause = tt
journal_cause (Damaged place) (Some file) cause = inl cause

cause_of : (failed : OpenFault) (file : List ℕ) (payloads : List (List ℕ)) → HasRecords file payloads → Folds (Err failed) payloads → IsCause failed file
cause_of DiskFault file payloads has folds = tt
cause_of OutOfMemory file payloads has folds = tt
cause_of (Damaged place) file payloads has bad = inr (record {
  items = bad.items;
  payload = bad.payload;
  later = bad.later;
  is = subst (HasRecords file) bad.is has;
  each = bad.each;
  none = bad.none;
  at = bad.at;
})

abbrev is_damage : OpenFault → Type 0
is_damage DiskFault = ⊥
is_damage (Damaged place) = ⊤
is_damage OutOfMemory = ⊥

abbrev is_memory : OpenFault → Type 0
is_memory DiskFault = ⊥
is_memory (Damaged place) = ⊥
is_memory OutOfMemory = ⊤

pub no_damage : (answer : Result ℕ StoreFault) (place : ℕ) → Some (Damaged place) ≡ adding_fault answer → ⊥
no_damage (Ok index) place is = true≢false (ap is_some is)
no_damage (Err fault.Stopped) place is = true≢false (ap is_some is)
no_damage (Err fault.NumbersSpent) place is = true≢false (ap is_some is)
no_damage (Err fault.OutOfMemory) place is = subst (λ o. IfSome o is_damage) is tt
no_damage (Err fault.DiskFault) place is = subst (λ o. IfSome o is_damage) is tt

-- where memory ran out nothing was done
pub memory_same : {D : Type 0} (old new : JournalSeen D) (answer : Result ℕ StoreFault) → Some OutOfMemory ≡ adding_fault answer → AppendAnswers answer old new → new ≡ old
memory_same old new (Ok index) is answers = absurd (true≢false (ap is_some is))
memory_same old new (Err fault.Stopped) is answers = absurd answers
memory_same old new (Err fault.NumbersSpent) is answers = absurd answers
memory_same old new (Err fault.OutOfMemory) is answers = answers
memory_same old new (Err fault.DiskFault) is answers = absurd (subst (λ o. IfSome o is_memory) is tt)

-- an addition of the mark fails by the disk or by memory alone
pub adding_cause : (answer : Result ℕ StoreFault) (failed : OpenFault) (told : Option (List ℕ)) → Some failed ≡ adding_fault answer → IfSome told (IsCause failed)
adding_cause answer DiskFault told is = told_case told (IsCause DiskFault) (λ file is. tt)
adding_cause answer OutOfMemory told is = told_case told (IsCause OutOfMemory) (λ file is. tt)
adding_cause answer (Damaged place) told is = absurd (no_damage answer place is)

-- as many failures as the disk had
pub failures_are : (answer : Result ℕ StoreFault) (failed : OpenFault) → Some failed ≡ adding_fault answer → open_failures (Some failed) ≡ store_failures (fault_of answer)
failures_are (Ok index) failed is = absurd (true≢false (ap is_some is))
failures_are (Err fault.Stopped) failed is = absurd (true≢false (ap is_some is))
failures_are (Err fault.NumbersSpent) failed is = absurd (true≢false (ap is_some is))
failures_are (Err fault.OutOfMemory) failed is = ap open_failures is
failures_are (Err fault.DiskFault) failed is = ap open_failures is

none_failed : (answer : Result ℕ StoreFault) → None ≡ adding_fault answer → 0 ≡ store_failures (fault_of answer)
none_failed (Ok index) is = refl
none_failed (Err fault.Stopped) is = refl
none_failed (Err fault.NumbersSpent) is = refl
none_failed (Err fault.OutOfMemory) is = refl
none_failed (Err fault.DiskFault) is = absurd (true≢false (sym (ap is_some is)))

-- what a walk over a file that is told found
pub record Found {D : Type 0} (disk : D → DiskSeen) (count : ℕ) (new : JournalSeen D) (f : Fold) (file : List ℕ) : Type 0 where
  pub items : List Item
  pub has : HasRecords file (map spelled_item items)
  pub kept : IsKeptOf (disk new.disk) count items f

module _ {D : Type 0} (disk : D → DiskSeen) (old : DiskSeen) (mid : JournalSeen D) (opened : journal.IsOpened disk old mid) where
  pub walk_cause : (failed : OpenFault) → ((payloads : List (List ℕ)) → Holds (disk mid.disk) payloads → mid.count ≡ length payloads → Folds (Err failed) payloads) → IfSome old.bytes (IsCause failed)
  walk_cause failed folds = told_case old.bytes (IsCause failed) (λ file is.
      let there = subst (λ o. IfSome o (λ f. (payloads : List (List ℕ)) × HasRecords f payloads × (mid.count ≡ length payloads) × Holds (disk mid.disk) payloads × Lasts (disk mid.disk) payloads)) is opened.records in
      cause_of failed file there.0 there.1 (folds there.0 there.3 there.2))

  pub found : (new : JournalSeen D) (folded : Folded) → Reads 0 (disk mid.disk) (disk new.disk) → ((payloads : List (List ℕ)) → Holds (disk mid.disk) payloads → mid.count ≡ length payloads → Folds (Ok folded) payloads) → (file : List ℕ) → old.bytes ≡ Some file → Found disk mid.count new (fold_of folded) file
  found new folded reads folds file is =
      let there = subst (λ o. IfSome o (λ f. (payloads : List (List ℕ)) × HasRecords f payloads × (mid.count ≡ length payloads) × Holds (disk mid.disk) payloads × Lasts (disk mid.disk) payloads)) is opened.records in
      let got = folds there.0 there.3 there.2 in
      record {
        items = got.0;
        has = subst (HasRecords file) got.1 there.1;
        kept = kept_read (disk mid.disk) (disk new.disk) mid.count got.0 (fold_of folded) reads.same reads.tells_images (record {
          holds = subst (Holds (disk mid.disk)) got.1 there.3;
          lasts = subst (Lasts (disk mid.disk)) got.1 there.4;
          counts = there.2 ∙ ap length got.1 ∙ length-map spelled_item got.0;
          folds = got.2;
        });
      }

-- ---- the mark

pub bool_cases : (b : Bool) → (b ≡ true) ⊎ (b ≡ false)
bool_cases true = inl refl
bool_cases false = inr refl

when_true : {A : Type 0} (b : Bool) (x y : A) → b ≡ true → (if b then x else y) ≡ x
when_true b x y is = subst (λ c. (if c then x else y) ≡ x) (sym is) refl

when_false : {A : Type 0} (b : Bool) (x y : A) → b ≡ false → (if b then x else y) ≡ y
when_false b x y is = subst (λ c. (if c then x else y) ≡ y) (sym is) refl

-- the mark was appended
pub appended : {D : Type 0} (disk : D → DiskSeen) (walked new : JournalSeen D) (f g : Fold) → f.marked ≡ false → (answer : Result ℕ StoreFault) → None ≡ adding_fault answer → AppendAnswers answer walked new → Appends answer MARK (disk walked.disk) (disk new.disk) → IfOk answer (λ index. g ≡ fold_with index f change.Mark)
    → (items : List Item) → IsKeptOf (disk walked.disk) walked.count items f → IsKeptOf (disk new.disk) new.count (items ++ marks ∷ []) g × (g.marked ≡ true)
appended disk walked new f g unmarked (Ok index) none answers moves g_is items k = (
  subst (IsKeptOf (disk new.disk) new.count (items ++ marks ∷ [])) (sym g_is) (kept_then disk walked new items f marks index MARK k (sym k.folds.marked ∙ unmarked) refl answers moves),
  ap (λ h. h.marked) g_is,
)
appended disk walked new f g unmarked (Err fault.Stopped) none answers moves g_is items k = absurd answers
appended disk walked new f g unmarked (Err fault.NumbersSpent) none answers moves g_is items k = absurd answers
appended disk walked new f g unmarked (Err fault.OutOfMemory) none answers moves g_is items k = absurd (true≢false (sym (ap is_some none)))
appended disk walked new f g unmarked (Err fault.DiskFault) none answers moves g_is items k = absurd (true≢false (sym (ap is_some none)))

-- it changes nothing of the end
same_end : (items : List Item) → (taken_all new_content (marked_items items)).end ≡ (taken_all new_content items).end
same_end items = by_mark (taken_all new_content items).marked
  where
    by_mark : (b : Bool) → (taken_all new_content (if b then items else items ++ marks ∷ [])).end ≡ (taken_all new_content items).end
    by_mark true = refl
    by_mark false = ap (λ s. s.end) (fold-push new_content items marks)

module _ {D : Type 0} (disk : D → DiskSeen) (old : DiskSeen) (mid walked new : JournalSeen D) (laws : (d : D) → IsLawfulDisk (disk d)) (opened : journal.IsOpened disk old mid) (opens : Opens None old (disk mid.disk)) (folded : Folded) (g : Fold) (reads : Reads 0 (disk mid.disk) (disk walked.disk)) (goes : GoesOn mid walked) (folds : (payloads : List (List ℕ)) → Holds (disk mid.disk) payloads → mid.count ≡ length payloads → Folds (Ok folded) payloads) where
  abbrev f : Fold
  f = fold_of folded

  pub walk_found : (file : List ℕ) → old.bytes ≡ Some file → Found disk mid.count walked f file
  walk_found = found disk old mid opened walked folded reads folds

  pub kept_there : (file : List ℕ) (is : old.bytes ≡ Some file) → IsKeptOf (disk walked.disk) walked.count (walk_found file is).items f
  kept_there file is = subst (λ n. IsKeptOf (disk walked.disk) n (walk_found file is).items f) (sym goes.count) (walk_found file is).kept

  module _ (unmarked : f.marked ≡ false) where
    may_mark : (file : List ℕ) (is : old.bytes ≡ Some file) → MayFollow (taken_all new_content (walk_found file is).items) marks
    may_mark file is = sym (walk_found file is).kept.folds.marked ∙ unmarked

    -- whichever way an addition went, the end is the same
    marked_end : (file : List ℕ) (is : old.bytes ≡ Some file) (c : List ℕ) → IsEither (map spelled_item (walk_found file is).items) MARK c → HasEnd c (taken_all new_content (walk_found file is).items).end
    marked_end file is c (inl j) = end_of (walk_found file is).items (walk_found file is).kept.folds.each c j
    marked_end file is c (inr j) = end_with (walk_found file is).items marks (walk_found file is).kept.folds.each (may_mark file is) c j

    has_end : (file : List ℕ) (is : old.bytes ≡ Some file) → HasEnd file (taken_all new_content (walk_found file is).items).end
    has_end file is = record { items = (walk_found file is).items; is = record { is = (walk_found file is).has; each = (walk_found file is).kept.folds.each }; folds = refl }

    left_so : (file : List ℕ) (is : old.bytes ≡ Some file) (c : List ℕ) → IsEither (map spelled_item (walk_found file is).items) MARK c → IsLeftByOpening old c
    left_so file is c either = inr ((taken_all new_content (walk_found file is).items).end, (file, is, has_end file is), marked_end file is c either)

    module _ (answer : Result ℕ StoreFault) (done : Appends answer MARK (disk walked.disk) (disk new.disk)) where
      old_told : IsSome (disk new.disk).bytes → (file : List ℕ) × (old.bytes ≡ Some file)
      old_told some = at_told old.bytes ((walk_tells old (disk mid.disk) (disk walked.disk) (laws mid.disk) opens 0 reads).0 (done.tells_bytes.0 some))

      mark_moments : LeavesOnly old (disk new.disk) (IsLeftByOpening old)
      mark_moments =
          then_on old (disk walked.disk) (disk new.disk) (IsLeftByOpening old)
          (walk_moments old (disk mid.disk) (disk walked.disk) (laws mid.disk) opens 0 reads)
          (moments_where (disk walked.disk) (disk new.disk) (IsLeftByOpening old) (λ past.
          let file = old_told ((laws new.disk).tells_bytes ((laws new.disk).tells_now past)) in
          weaker (disk walked.disk) (disk new.disk) (IsEither (map spelled_item (walk_found file.0 file.1).items) MARK) (IsLeftByOpening old)
          (done.any_moment (map spelled_item (walk_found file.0 file.1).items) (walk_found file.0 file.1).kept.holds)
          (λ p c. left_so file.0 file.1 c)))

      mark_now : (disk new.disk).TellsImages → (c : List ℕ) → (disk new.disk).image c → IsLeftByOpening old c
      mark_now told c left =
          let file = old_told ((laws new.disk).tells_bytes told) in
          left_so file.0 file.1 c (done.now (map spelled_item (walk_found file.0 file.1).items) (walk_found file.0 file.1).kept.holds told c left)

      mark_read : IfSome old.bytes (λ file. IfSome (disk new.disk).bytes (HasSameEnd file))
      mark_read = told_both old.bytes (disk new.disk).bytes HasSameEnd (λ file now is is'.
          inr (
            (taken_all new_content (walk_found file is).items).end,
            has_end file is,
            marked_end file is now (subst (λ o. IfSome o (IsEither (map spelled_item (walk_found file is).items) MARK)) is' (done.as_read (map spelled_item (walk_found file is).items) (walk_found file is).kept.holds)),
          ))

      mark_tells : IsSome (disk new.disk).bytes ↔ IsSome old.bytes
      mark_tells =
          let walk = walk_tells old (disk mid.disk) (disk walked.disk) (laws mid.disk) opens 0 reads in
          (λ some. walk.0 (done.tells_bytes.0 some), λ some. done.tells_bytes.1 (walk.1 some))

      mark_images : (disk new.disk).TellsImages ↔ old.TellsImages
      mark_images =
          let walk = walk_images old (disk mid.disk) (disk walked.disk) (laws mid.disk) opens 0 reads in
          (λ told. walk.0 (done.tells_images.0 told), λ told. done.tells_images.1 (walk.1 told))

      pub mark_opens : (failed : Option OpenFault) → failed ≡ adding_fault answer → open_failures failed ≡ store_failures (fault_of answer) → StaysWhereRefused failed old (disk new.disk) → StoreOpens failed old (disk new.disk)
      mark_opens failed is count same = record {
        refused_same = same;
        any_moment = mark_moments;
        now = mark_now;
        as_read = mark_read;
        tells_bytes = mark_tells;
        tells_images = mark_images;
        cause = omega (arith, opens.cause, reads.cause, done.cause, count);
      }

      -- where memory ran out the disk wasn't called
      mark_stays : (failed : OpenFault) → Some failed ≡ adding_fault answer → AppendAnswers answer walked new → StaysWhereRefused (Some failed) old (disk new.disk)
      mark_stays DiskFault is answers = tt
      mark_stays (Damaged place) is answers = absurd (no_damage answer place is)
      mark_stays OutOfMemory is answers = subst (λ j. StaysWhereRefused (Some OutOfMemory) old (disk j.disk)) (sym (memory_same walked new answer is answers)) (walk_same old (disk mid.disk) (disk walked.disk) (laws mid.disk) opens 0 reads)

  -- the addition failed
  pub mark_refused : (failed : OpenFault) → Marks disk (Some failed) f g walked new → StoreOpens (Some failed) old (disk new.disk)
  mark_refused failed marked = elim (bool_cases f.marked) [
    | inl was ↦ absurd (true≢false (ap is_some (marked.was was).0))
    | inr unmarked ↦ (
        let a = marked.added unmarked in
        mark_opens unmarked a.answer a.moves (Some failed) a.is (failures_are a.answer failed a.is) (mark_stays unmarked a.answer a.moves failed a.is a.answers))
  ]

  pub mark_cause : (failed : OpenFault) → Marks disk (Some failed) f g walked new → IfSome old.bytes (IsCause failed)
  mark_cause failed marked = elim (bool_cases f.marked) [
    | inl was ↦ absurd (true≢false (ap is_some (marked.was was).0))
    | inr unmarked ↦ (let a = marked.added unmarked in adding_cause a.answer failed old.bytes a.is)
  ]

  module _ (marked : Marks disk None f g walked new) where
    kept_new : (file : List ℕ) (is : old.bytes ≡ Some file) → IsKeptOf (disk new.disk) new.count (marked_items (walk_found file is).items) g
    kept_new file is =
        let items = (walk_found file is).items in
        let same = (walk_found file is).kept.folds.marked in
        elim (bool_cases f.marked) [
          | inl was ↦ (
              let w = marked.was was in
              subst (λ l. IsKeptOf (disk new.disk) new.count l g) (sym (when_true (taken_all new_content items).marked items (items ++ marks ∷ []) (sym same ∙ was)))
              (subst (IsKeptOf (disk new.disk) new.count items) (sym w.2) (subst (λ j. IsKeptOf (disk j.disk) j.count items f) (sym w.1) (kept_there file is))))
          | inr unmarked ↦ (
              let a = marked.added unmarked in
              subst (λ l. IsKeptOf (disk new.disk) new.count l g) (sym (when_false (taken_all new_content items).marked items (items ++ marks ∷ []) (sym same ∙ unmarked)))
              ((appended disk walked new f g unmarked a.answer a.is a.answers a.moves a.fold items (kept_there file is)).0))
        ]

    store_of : (file : List ℕ) (is : old.bytes ≡ Some file) → IsStoreOf file (walk_found file is).items
    store_of file is = record { is = (walk_found file is).has; each = (walk_found file is).kept.folds.each }

    pub end_found : IfSome old.bytes (λ file. (e : End) × HasEnd file e × TellsEnd (stored_in g) g.withheld e × HoldsEnd (disk new.disk) e × LastsEnd (disk new.disk) e)
    end_found = told_case old.bytes (λ file. (e : End) × HasEnd file e × TellsEnd (stored_in g) g.withheld e × HoldsEnd (disk new.disk) e × LastsEnd (disk new.disk) e) (λ file is.
        let items = (walk_found file is).items in
        let k = kept_new file is in
        let same = same_end items in (
          (taken_all new_content items).end,
          record { items = items; is = store_of file is; folds = refl },
          record { stored = k.folds.stored ∙ ap stored_of same; withheld = k.folds.withheld ∙ ap withheld_of same },
          subst (HoldsEnd (disk new.disk)) same (k.holds.0, k.holds.1, end_of (marked_items items) k.folds.each k.holds.0 k.holds.2),
          subst (LastsEnd (disk new.disk)) same (λ told c left. end_of (marked_items items) k.folds.each c (k.lasts told c left)),
        ))

    pub items_found : IfSome old.bytes (λ file. (items : List Item) × IsStoreOf file items × HoldsItems (disk new.disk) (marked_items items))
    items_found = told_case old.bytes (λ file. (items : List Item) × IsStoreOf file items × HoldsItems (disk new.disk) (marked_items items)) (λ file is.
        let k = kept_new file is in
        ((walk_found file is).items, store_of file is, (k.holds.0, k.holds.1, record { is = inr k.holds.2; each = k.folds.each })))

    pub mark_whole : StoreOpens None old (disk new.disk)
    mark_whole = elim (bool_cases f.marked) [
      | inl was ↦ subst (λ j. StoreOpens None old (disk j.disk)) (sym (marked.was was).1) (walk_whole old (disk mid.disk) (disk walked.disk) (laws mid.disk) opens reads)
      | inr unmarked ↦ (
          let a = marked.added unmarked in
          mark_opens unmarked a.answer a.moves None a.is (none_failed a.answer a.is) tt)
    ]

    new_told : IsSome (disk new.disk).bytes → IsSome old.bytes
    new_told some = mark_whole.tells_bytes.0 some

    -- what the store has is sound
    then_within : (unmarked : f.marked ≡ false) (answer : Result ℕ StoreFault) → None ≡ adding_fault answer → AppendAnswers answer walked new → IfOk answer (λ index. g ≡ fold_with index f change.Mark) → IsWithin f walked.count → IsWithin g new.count × (g.marked ≡ true) × (new.stopped ≡ false)
    then_within unmarked (Ok index) none answers g_is within =
        subst (λ h. IsWithin h new.count × (h.marked ≡ true) × (new.stopped ≡ false)) (sym g_is)
        (within_step f walked.count index new.count within answers.0 answers.1 marks tt unmarked, refl, answers.2)
    then_within unmarked (Err fault.Stopped) none answers g_is within = absurd answers
    then_within unmarked (Err fault.NumbersSpent) none answers g_is within = absurd answers
    then_within unmarked (Err fault.OutOfMemory) none answers g_is within = absurd (true≢false (sym (ap is_some none)))
    then_within unmarked (Err fault.DiskFault) none answers g_is within = absurd (true≢false (sym (ap is_some none)))

    goes_so : IsWithin f mid.count → IsWithin g new.count × (g.marked ≡ true) × (new.stopped ≡ false)
    goes_so within = elim (bool_cases f.marked) [
      | inl was ↦ (
          let w = marked.was was in
          subst (λ h. IsWithin h new.count × (h.marked ≡ true) × (new.stopped ≡ false)) (sym w.2)
          (subst (λ (j : JournalSeen D). IsWithin f j.count × (f.marked ≡ true) × (j.stopped ≡ false)) (sym w.1) (subst (IsWithin f) (sym goes.count) within, was, goes.stopped)))
      | inr unmarked ↦ (
          let a = marked.added unmarked in
          then_within unmarked a.answer a.is a.answers a.fold (subst (IsWithin f) (sym goes.count) within))
    ]

    pub mark_sound : IsWithin f mid.count → (stopped : Bool) → stopped ≡ false → IsSound disk new g None stopped
    mark_sound within stopped is =
        let so = goes_so within in
        record {
          stops = is ∙ sym so.2;
          within = so.0;
          marked = so.1;
          spots = tt;
          kept = λ still some.
              let file = at_told old.bytes (new_told some) in
              (marked_items (walk_found file.0 file.1).items, kept_new file.0 file.1, tt);
        }
