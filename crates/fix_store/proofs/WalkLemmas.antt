-- The walk over a journal's records.
use Rattle.std.proofs.Common.{◌≡◌, ℕ, ◌+◌, ◌*◌, ◌<◌, ◌≤◌, suc, Bool, true, false, Result, true≢false, ◌↔◌, List, [], ◌∷◌, ◌++◌, length, take, drop, Option, Some, None, Ok, Err, refl, sym, ◌∙◌, ap, subst, arith, take-append-drop}
use Rattle.std.specs.Prelude.{slice_get, IfSome, IfOk, IfErr, IsTrue}
use Rattle.std.proofs.lemmas.List.{length-take, length-take-le, take_all}
use Rattle.fix_base.specs.End.{IsAppAt, IsEntry}
use Rattle.fix_base.specs.declared.entry.Entry.{Entry}
use Rattle.fix_base.specs.declared.entry.Entry.TheVariants.{App, Admin}
use Rattle.fix_base.proofs.WroteLemmas.{IsEntry-one}
use Rattle.fix_disk.specs.Disk.{DiskSeen, IsLawfulDisk, LeavesAsIs}
use Rattle.fix_journal.specs.declared.fault.OpenFault.{OpenFault}
use Rattle.fix_journal.specs.declared.fault.OpenFault.TheVariants.{DiskFault, Damaged, OutOfMemory}
use Rattle.fix_journal.specs.Format.{front}
use Rattle.fix_journal.specs.Journal.{JournalSeen, Holds}
use Rattle.fix_journal.specs.Cursors.{CursorSeen, Stands}
use Rattle.fix_journal.proofs.Moments.{started, weaker, then_on}
use Rattle.fix_journal.proofs.RoomLemmas.{needs_then}
use Rattle.fix_store.specs.declared.folding.Folded.{Folded}
use Rattle.fix_store.specs.Spelling.{Item, spelled_item}
use Rattle.fix_store.specs.Reading.{new_content, taken_all, MayFollow}
use Rattle.fix_store.specs.Folding.{Fold, new_fold, fold_of, fold_with, change_of, IsFit, IsApp, NamesApp, MayTake, IsReadFault, IsFoldOf, IsWithin, GoesOn, Reads, IsUpTo, Steps, Takes, Folds}
use Rattle.fix_store.specs.Finding.{StandFirst}
use Rattle.fix_store.proofs.RecordLists.{splits, take_more, map-push, length-map, fits}
use Rattle.fix_store.proofs.CountLemmas.{counted_none}
use Rattle.fix_store.proofs.Spellings.{one_item}
use Rattle.fix_store.proofs.Places.{nothing_yet, may_follow, may_take, names, fold_step, within_step}

-- ---- calls that read

pub reads_none : (seen : DiskSeen) → IsLawfulDisk seen → Reads 0 seen seen
reads_none seen laws = record {
  same = record { bytes = refl; images = λ told c. (λ left. left, λ left. left) };
  any_moment = started seen seen.image laws (λ p c left. left);
  tells_images = (λ told. told, λ told. told);
  cause = omega arith;
  room = record { same = refl; need = λ some. absurd (omega (arith, some)) };
}

pub reads_then : (n : ℕ) (old mid new : DiskSeen) → IsLawfulDisk mid → Reads 0 old mid → Reads n mid new → Reads n old new
reads_then n old mid new laws first second = record {
  same = record {
    bytes = second.same.bytes ∙ first.same.bytes;
    images = λ told c. (
      λ left. (first.same.images told c).0 ((second.same.images (first.tells_images.1 told) c).0 left),
      λ left. (second.same.images (first.tells_images.1 told) c).1 ((first.same.images told c).1 left),
    );
  };
  any_moment = then_on old mid new old.image first.any_moment
      (weaker mid new mid.image old.image second.any_moment (λ p c left. (first.same.images (first.tells_images.0 (laws.tells_now (second.any_moment.told p))) c).0 left));
  tells_images = (λ told. first.tells_images.0 (second.tells_images.0 told), λ told. second.tells_images.1 (first.tells_images.1 told));
  cause = omega (arith, first.cause, second.cause);
  room = needs_then n 0 old mid new first.room.same second.room;
}

-- ---- the walk up to an index

pub record IsWalking {D : Type 0} (disk : D → DiskSeen) (old now : JournalSeen D) (cursor : CursorSeen) (index : ℕ) (f : Fold) : Type 0 where
  pub goes_on : GoesOn old now
  pub here : cursor.index ≡ index
  pub stands : Stands disk now cursor
  pub within : IsWithin f index
  pub found : (payloads : List (List ℕ)) → Holds (disk old.disk) payloads → index ≤ length payloads → (items : List Item) × IsUpTo payloads index items f
  pub reads : Reads 0 (disk old.disk) (disk now.disk)

pub nothing_within : IsWithin new_fold 0
nothing_within = record { few = omega arith; expected = (omega arith, omega arith); since = tt; counted = counted_none }

pub walk_begins : {D : Type 0} (disk : D → DiskSeen) (old : JournalSeen D) (cursor : CursorSeen) (f : Fold) → IsLawfulDisk (disk old.disk) → old.stopped ≡ false → cursor.index ≡ 64 * 0 → Stands disk old cursor → f ≡ new_fold → IsWalking disk old old cursor 0 f
walk_begins disk old cursor f laws still here stands new = record {
  goes_on = record { count = refl; stopped = still };
  here = omega (arith, here);
  stands = stands;
  within = subst (λ g. IsWithin g 0) (sym new) nothing_within;
  found = λ payloads holds le. ([], record { is = refl; folds = subst (IsFoldOf []) (sym new) nothing_yet });
  reads = reads_none (disk old.disk) laws;
}

-- a file without records
pub walks_nothing : (folded : Folded) (count : ℕ) (payloads : List (List ℕ)) → fold_of folded ≡ new_fold → count ≡ 0 → count ≡ length payloads → Folds (Ok folded) payloads
walks_nothing folded count [] new empty same = ([], refl, subst (IsFoldOf []) (sym new) nothing_yet)
walks_nothing folded count (p ∷ payloads) new empty same = absurd (omega (arith, empty, same))

-- a cursor stands where it did, after calls that read
pub stands_still : {D : Type 0} (disk : D → DiskSeen) (old new : JournalSeen D) (c : CursorSeen) → old.stopped ≡ false → LeavesAsIs (disk old.disk) (disk new.disk) → Stands disk old c → Stands disk new c
stands_still disk old new c still same stands = λ after payloads holds. stands still payloads (holds.0, sym same.bytes ∙ holds.1, holds.2)

-- a step from this index on takes in what stands there
abbrev pub AreTaken : {D : Type 0} → (D → DiskSeen) → JournalSeen D → Option OpenFault → Fold → Fold → ℕ → Type 0
AreTaken disk now fault f g index = (payloads : List (List ℕ)) (items : List Item) → Holds (disk now.disk) payloads → IsUpTo payloads index items f → Takes fault index payloads items f g

module _ {D : Type 0} (disk : D → DiskSeen) (old now : JournalSeen D) (cursor : CursorSeen) (index : ℕ) (f : Fold) (laws : IsLawfulDisk (disk now.disk)) (walk : IsWalking disk old now cursor index f) where
  -- the file is still the one that was held
  still_holds : (payloads : List (List ℕ)) → Holds (disk old.disk) payloads → Holds (disk now.disk) payloads
  still_holds payloads holds = (holds.0, walk.reads.same.bytes ∙ holds.1, holds.2)

  module _ (new : JournalSeen D) (g : Fold) (steps : Steps index f g) (takes : (payloads : List (List ℕ)) (items : List Item) → Holds (disk now.disk) payloads → IsUpTo payloads index items f → Takes None index payloads items f g) (goes : GoesOn now new) (reads : Reads 0 (disk now.disk) (disk new.disk)) where
    found_next : (payloads : List (List ℕ)) → Holds (disk old.disk) payloads → index + 1 ≤ length payloads → (items : List Item) × IsUpTo payloads (index + 1) items g
    found_next payloads holds le =
        let so_far = walk.found payloads holds (omega (arith, le)) in
        let items = so_far.0 in
        let up_to = so_far.1 in
        let step = takes payloads items (still_holds payloads holds) up_to in
        let i = step.0 in
        let next_index : index + 1 ≡ suc index = omega arith in
        let long : index ≡ length items = omega (arith, le, length-take-le index payloads (omega (arith, le)), ap length up_to.is, length-map spelled_item items) in (
          items ++ i ∷ [],
          record {
            is = ap (λ n. take n payloads) next_index ∙ take_more payloads index (spelled_item i) step.1 ∙ ap (λ l. l ++ spelled_item i ∷ []) up_to.is ∙ sym (map-push spelled_item items i);
            folds = subst (IsFoldOf (items ++ i ∷ [])) (sym step.3) (fold_step items f up_to.folds i index long step.2);
          },
        )

    pub walks_on : (next : CursorSeen) → next.index ≡ cursor.index + 1 → Stands disk new next → IsWalking disk old new next (index + 1) g
    walks_on next moved stands = record {
      here = moved ∙ ap (λ n. n + 1) walk.here;
      stands = stands;
      goes_on = record { count = goes.count ∙ walk.goes_on.count; stopped = goes.stopped };
      within = subst (λ h. IsWithin h (index + 1)) (sym steps.3) (within_step f index index (index + 1) walk.within refl refl steps.0 steps.1 steps.2);
      found = found_next;
      reads = reads_then 0 (disk old.disk) (disk now.disk) (disk new.disk) laws walk.reads reads;
    }

  module _ (g : Fold) where
    pub walk_fails : (fault : OpenFault) → ((payloads : List (List ℕ)) (items : List Item) → Holds (disk now.disk) payloads → IsUpTo payloads index items f → Takes (Some fault) index payloads items f g) → (payloads : List (List ℕ)) → Holds (disk old.disk) payloads → index < length payloads → Folds (Err fault) payloads
    walk_fails DiskFault takes payloads holds lt = tt
    walk_fails OutOfMemory takes payloads holds lt = tt
    walk_fails (Damaged place) takes payloads holds lt =
        let so_far = walk.found payloads holds (omega (arith, lt)) in
        let up_to = so_far.1 in
        let bad = takes payloads so_far.0 (still_holds payloads holds) up_to in
        let s = splits payloads index lt in
        record {
          items = so_far.0;
          payload = s.item;
          later = drop (suc index) payloads;
          is = s.is ∙ ap (λ l. l ++ s.item ∷ drop (suc index) payloads) up_to.is;
          each = up_to.folds.each;
          none = λ i may is. bad.0 i may (s.there ∙ ap Some is);
          at = bad.1 ∙ ap (λ l. length (front l)) up_to.is;
        }

-- at the end
pub walk_ends : {D : Type 0} (disk : D → DiskSeen) (old now : JournalSeen D) (cursor : CursorSeen) (index : ℕ) (folded : Folded) → IsWalking disk old now cursor index (fold_of folded) → index ≡ old.count → (payloads : List (List ℕ)) → Holds (disk old.disk) payloads → old.count ≡ length payloads → Folds (Ok folded) payloads
walk_ends disk old now cursor index folded walk is payloads holds count =
    let all = walk.found payloads holds (omega (arith, is, count)) in
    (all.0, sym (take_all index payloads (omega (arith, is, count))) ∙ all.1.is, all.1.folds)

-- the same in memory
pub folds_same : (answer : Result Folded OpenFault) (folded : Folded) (payloads : List (List ℕ)) → IfOk answer (λ f. fold_of f ≡ fold_of folded) → IfErr answer (λ e. e ≡ OutOfMemory) → Folds (Ok folded) payloads → Folds answer payloads
folds_same (Ok f) folded payloads same memory folds = (folds.0, folds.1, subst (IsFoldOf folds.0) (sym same) folds.2)
folds_same (Err e) folded payloads same memory folds = subst (λ x. Folds (Err x) payloads) (sym memory) tt

-- ---- one step

-- a fault of a read
pub takes_fault : (fault : OpenFault) → IsReadFault fault → (index : ℕ) (payloads : List (List ℕ)) (items : List Item) (f g : Fold) → Takes (Some fault) index payloads items f g
takes_fault DiskFault is index payloads items f g = tt
takes_fault (Damaged place) is index payloads items f g = absurd is
takes_fault OutOfMemory is index payloads items f g = tt

-- what was read there is this item
same_item : (payloads : List (List ℕ)) (index : ℕ) (payload : List ℕ) (i j : Item) → slice_get payloads index ≡ Some payload → IsFit i → payload ≡ spelled_item i → IsFit j → slice_get payloads index ≡ Some (spelled_item j) → j ≡ i
same_item payloads index payload i j there fit is fit' there' = one_item j i fit' fit (subst (λ o. IfSome o (λ p. spelled_item j ≡ p)) (sym there' ∙ there) refl ∙ is)

module _ (payloads : List (List ℕ)) (index : ℕ) (items : List Item) (f g : Fold) (payload : List ℕ) (place : ℕ) (up_to : IsUpTo payloads index items f) (there : slice_get payloads index ≡ Some payload) (at : place ≡ length (front (take index payloads))) where
  -- the payload is none
  pub takes_none : ((i : Item) → IsFit i → payload ≡ spelled_item i → ⊥) → Takes (Some (Damaged place)) index payloads items f g
  takes_none none = (λ i may is. none i (fits (taken_all new_content items) i may) (subst (λ o. IfSome o (λ p. payload ≡ p)) (sym there ∙ is) refl), at)

  module _ (i : Item) (fit : IsFit i) (is : payload ≡ spelled_item i) where
    -- or none that may come next
    pub takes_untaken : (MayTake f (change_of i) → ⊥) → Takes (Some (Damaged place)) index payloads items f g
    takes_untaken not = (
      λ j may is'.
          let same = same_item payloads index payload i j there fit is (fits (taken_all new_content items) j may) is' in
          not (may_take items f up_to.folds i (subst (MayFollow (taken_all new_content items)) same may)),
      at,
    )

    pub takes_unnamed : (NamesApp (change_of i) (taken_all new_content items).end → ⊥) → Takes (Some (Damaged place)) index payloads items f g
    takes_unnamed not = (
      λ j may is'.
          let same = same_item payloads index payload i j there fit is (fits (taken_all new_content items) j may) is' in
          not (names items f up_to.folds i (subst (MayFollow (taken_all new_content items)) same may)),
      at,
    )

    pub takes_it : f.counts.last ≤ 999999999 → MayTake f (change_of i) → NamesApp (change_of i) (taken_all new_content items).end → (g ≡ fold_with index f (change_of i)) → Takes None index payloads items f g
    takes_it few may named is_next = (i, there ∙ ap Some is, may_follow items f up_to.folds i fit few may named, is_next)

-- ---- whether a number that is withheld is one of an application message

-- an entry is one of an application message, or not
pub is_app_at : (out : List Entry) (n : ℕ) (entry : Entry) → IsEntry out n entry → IsApp entry → (body : List ℕ) × IsAppAt out n body
is_app_at out n (App time by body) is app = (body, record { time = time; by = by; entry = is })
is_app_at out n (Admin time kind about) is app = absurd app

pub app_is : (out : List Entry) (n : ℕ) (entry : Entry) → IsEntry out n entry → (body : List ℕ) × IsAppAt out n body → IsApp entry
app_is out n entry is at = subst IsApp (IsEntry-one at.1.entry is) tt

-- the items up to an index stand first among the payloads
pub up_first : (payloads : List (List ℕ)) (index count : ℕ) (items : List Item) (f : Fold) → IsUpTo payloads index items f → length items ≤ count → StandFirst count payloads items
up_first payloads index count items f up few = record {
  later = drop index payloads;
  is = sym (take-append-drop index payloads) ∙ ap (λ l. l ++ drop index payloads) up.is;
  few = few;
  each = up.folds.each;
}

pub up_few : (payloads : List (List ℕ)) (index : ℕ) (items : List Item) (f : Fold) → IsUpTo payloads index items f → length items ≤ index
up_few payloads index items f up = omega (arith, length-take index payloads, ap length up.is, length-map spelled_item items)

-- whether it is one of an application message
pub names_entry : (out : List Entry) (n : ℕ) (entry : Entry) → IsEntry out n entry → (b : Bool) → (IsTrue b ↔ IsApp entry) → IsTrue b ↔ ((body : List ℕ) × IsAppAt out n body)
names_entry out n entry is b so = (λ t. is_app_at out n entry is (so.0 t), λ app. so.1 (app_is out n entry is app))

pub app_so : (entry e : Entry) → entry ≡ e → IsApp e → IsTrue true ↔ IsApp entry
app_so entry e same app = (λ t. subst IsApp (sym same) app, λ t. refl)

pub admin_so : (entry e : Entry) → entry ≡ e → (IsApp e → ⊥) → IsTrue false ↔ IsApp entry
admin_so entry e same not = (λ t. absurd (true≢false (sym t)), λ app. absurd (not (subst IsApp same app)))

pub names_by : (o : Result Bool OpenFault) (P Q : Type 0) → (P ↔ Q) → IfOk o (λ x. IsTrue x ↔ P) → IfOk o (λ x. IsTrue x ↔ Q)
names_by (Ok x) P Q both is = (λ t. both.0 (is.0 t), λ q. is.1 (both.1 q))
names_by (Err e) P Q both is = tt
