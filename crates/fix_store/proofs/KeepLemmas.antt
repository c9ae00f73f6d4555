-- A record that is kept: from the journal's records to the store's end.
use Rattle.std.proofs.Common.{◌≡◌, ◌↔◌, inl, inr, ℕ, ◌+◌, ◌≤◌, zero, suc, Bool, true, false, List, [], ◌∷◌, ◌++◌, Option, Some, None, Result, Ok, Err, refl, sym, ◌∙◌, ap, subst, arith, length-append, append-nil, true≢false}
use Rattle.std.specs.Prelude.{map, slice_get, IfSome, IsSome, is_some, is_err, OnOk}
use Rattle.std.specs.List.{AllByRecursion}
use Rattle.fix_base.specs.declared.entry.Entry.{Entry}
use Rattle.fix_base.specs.declared.entry.Record.{Record}
use Rattle.fix_base.specs.declared.entry.Record.TheVariants.{Push, Expect, Many, Withhold, Reset, ResetAsk, Confirm}
use Rattle.fix_base.specs.End.{End, folded, IsEntry}
use Rattle.fix_base.specs.Payload.{HasPayload, IsKeepable, IsKeepableAt}
use Rattle.fix_disk.specs.Disk.{DiskSeen, IsLawfulDisk, LeavesAsIs}
use Rattle.fix_journal.specs.Format.{IsJournal, HasRecords}
use Rattle.fix_journal.specs.AtRest.{IsEither}
use Rattle.fix_journal.specs.Journal.{JournalSeen, Holds, Lasts}
use Rattle.fix_journal.specs.Cursors.{CursorSeen, Stands}
use Rattle.fix_journal.proofs.Moments.{weaker, started}
use Rattle.fix_journal.proofs.Meaning.{one_list_of_records}
use Rattle.fix_journal.proofs.SoundLemmas.{some_same, told_case}
use Rattle.fix_store.specs.declared.fault.StoreFault.{StoreFault}
use Rattle.fix_store.specs.declared.fault.StoreFault.TheVariants as fault
use Rattle.fix_store.specs.declared.finding.Spot.{Spot}
use Rattle.fix_store.specs.declared.finding.Found.{Found}
use Rattle.fix_store.specs.Spelling.{spelled, spelled_entry, Item, keeps, marks, spelled_item}
use Rattle.fix_store.specs.Reading.{new_content, taken, taken_all, MayFollow, MayAllFollow, HasEnd}
use Rattle.fix_store.specs.Store.{fault_of, HoldsEnd, LastsEnd, IsEitherEnd, MayKeep, StoreKeeps, store_failures, ReadsAs, StoreReads}
use Rattle.fix_store.specs.Opening.{HoldsItems, StandsAt}
use Rattle.fix_store.specs.Keeping.{AppendAnswers, Appends}
use Rattle.fix_store.specs.Folding.{Fold, fold_with, pushes_of, change_of, IsFit, MayTake, NamesApp, IsCountOf, IsWithin, IsKeptOf, Reads}
use Rattle.fix_store.specs.Finding.{StandFirst, StandsIn, IsFoundAt, IsSpotOn, IsSpotOf, AreSpotsOn, AreSpotsOf, index_in}
use Rattle.fix_store.specs.Sound.{IsSound}
use Rattle.fix_store.proofs.RecordLists.{map-push, fold-push, follow-push, one_list}
use Rattle.fix_store.proofs.Spellings.{one_entry}
use Rattle.fix_store.proofs.CountLemmas.{before_more}
use Rattle.fix_store.proofs.Places.{may_follow, fold_step, within_step}

-- a journal of items has their end
pub end_of : (items : List Item) → MayAllFollow new_content items → (file : List ℕ) → IsJournal file (map spelled_item items) → HasEnd file (taken_all new_content items).end
end_of items each file journal = record { items = items; is = record { is = inr journal; each = each }; folds = refl }

-- and with one more
pub end_with : (items : List Item) (i : Item) → MayAllFollow new_content items → MayFollow (taken_all new_content items) i → (file : List ℕ) → IsJournal file (map spelled_item items ++ spelled_item i ∷ []) → HasEnd file (taken (taken_all new_content items) i).end
end_with items i each may file journal =
    subst (λ s. HasEnd file s.end) (fold-push new_content items i)
    (end_of (items ++ i ∷ []) (follow-push new_content items i each may) file (subst (IsJournal file) (sym (map-push spelled_item items i)) journal))

module _ (seen : DiskSeen) (count : ℕ) (items : List Item) (f : Fold) (kept : IsKeptOf seen count items f) where
  -- the file has no other items
  pub these_items : (others : List Item) → HoldsItems seen others → others ≡ items
  these_items others holds =
      let same : holds.0 ≡ kept.holds.0 = some_same holds.0 kept.holds.0 (sym holds.1 ∙ kept.holds.1) in
      one_list new_content new_content others items holds.2.each kept.folds.each
      (one_list_of_records holds.0 (map spelled_item others) (map spelled_item items) holds.2.is (subst (λ file. HasRecords file (map spelled_item items)) (sym same) (inr kept.holds.2)))

  pub holds_items : HoldsItems seen items
  holds_items = (kept.holds.0, kept.holds.1, record { is = inr kept.holds.2; each = kept.folds.each })

  -- the end of the file is that of these items
  pub this_end : (e : End) → HoldsEnd seen e → e ≡ (taken_all new_content items).end
  this_end e holds = holds.2.folds ∙ ap (λ l. (taken_all new_content l).end) (these_items holds.2.items (holds.0, holds.1, holds.2.is))

  pub holds_this : HoldsEnd seen (taken_all new_content items).end
  holds_this = (kept.holds.0, kept.holds.1, end_of items kept.folds.each kept.holds.0 kept.holds.2)

-- a disk that holds an end tells its bytes
pub tells : (seen : DiskSeen) (e : End) → HoldsEnd seen e → IsSome seen.bytes
tells seen e holds = ap is_some holds.1

-- an item that may come next in the file that the disk tells
pub record IsNext (old : DiskSeen) (i : Item) : Type 0 where
  pub count : ℕ
  pub items : List Item
  pub fold : Fold
  pub kept : IsKeptOf old count items fold
  pub may : MayFollow (taken_all new_content items) i

module _ (old new : DiskSeen) (r : Record) (told : IsSome old.bytes → IsNext old (keeps r)) where
  -- what a crash leaves, as an end
  either : (e : End) (holds : HoldsEnd old e) (c : List ℕ) → IsEither (map spelled_item (told (tells old e holds)).items) (spelled r) c → IsEitherEnd e r c
  either e holds c (inl j) =
      let k = told (tells old e holds) in
      inl (subst (HasEnd c) (sym (this_end old k.count k.items k.fold k.kept e holds)) (end_of k.items k.kept.folds.each c j))
  either e holds c (inr j) =
      let k = told (tells old e holds) in
      inr (subst (λ x. HasEnd c (folded x r)) (sym (this_end old k.count k.items k.fold k.kept e holds)) (end_with k.items (keeps r) k.kept.folds.each k.may c j))

  kept_by : (answer : Result ℕ StoreFault) → Appends answer (spelled r) old new → fault_of answer ≡ None → (e : End) → HoldsEnd old e → HoldsEnd new (folded e r) × LastsEnd new (folded e r)
  kept_by (Err fault) done none e holds = absurd (true≢false (ap is_some none))
  kept_by (Ok index) done none e holds =
      let k = told (tells old e holds) in
      let got = done.kept (map spelled_item k.items) k.kept.holds in
      let has : (c : List ℕ) → IsJournal c (map spelled_item k.items ++ spelled r ∷ []) → HasEnd c (folded e r) = λ c j. subst (λ x. HasEnd c (folded x r)) (sym (this_end old k.count k.items k.fold k.kept e holds)) (end_with k.items (keeps r) k.kept.folds.each k.may c j) in
      ((got.0.0, got.0.1, has got.0.0 got.0.2), λ images c left. has c (got.1 images c left))

  pub keeps_record : (answer : Result ℕ StoreFault) → Appends answer (spelled r) old new → StoreKeeps (fault_of answer) r old new
  keeps_record answer done = record {
    kept = kept_by answer done;
    as_read = λ e holds.
        let k = told (tells old e holds) in
        told_case new.bytes (IsEitherEnd e r) (λ file is. either e holds file (subst (λ o. IfSome o (IsEither (map spelled_item k.items) (spelled r))) is (done.as_read (map spelled_item k.items) k.kept.holds)));
    any_moment = λ e holds.
        let k = told (tells old e holds) in
        weaker old new (IsEither (map spelled_item k.items) (spelled r)) (IsEitherEnd e r) (done.any_moment (map spelled_item k.items) k.kept.holds) (λ p c. either e holds c);
    now = λ e holds images c left. (let k = told (tells old e holds) in either e holds c (done.now (map spelled_item k.items) k.kept.holds images c left));
    tells_bytes = done.tells_bytes;
    tells_images = done.tells_images;
    cause = done.cause;
    calls = done.calls;
  }

-- ---- a call that keeps a record

pub calm : {D : Type 0} (disk : D → DiskSeen) (journal : JournalSeen D) (f : Fold) (near : Option Found) (stopped : Bool) → stopped ≡ false → IsSound disk journal f near stopped → IsSound disk journal f near false
calm disk journal f near stopped still sound = subst (λ b. IsSound disk journal f near b) still sound

names_of : (e : End) (r : Record) → IsKeepableAt e r → NamesApp (change_of (keeps r)) e
names_of e (Push entry) may = tt
names_of e (Expect number) may = tt
names_of e (Many pushes number) may = tt
names_of e (Withhold number) may = may
names_of e (Reset time) may = tt
names_of e (ResetAsk time) may = tt
names_of e Confirm may = tt

stays_marked : (index : ℕ) (f : Fold) (r : Record) → f.marked ≡ true → (fold_with index f (change_of (keeps r))).marked ≡ true
stays_marked index f (Push entry) is = is
stays_marked index f (Expect number) is = is
stays_marked index f (Many pushes number) is = is
stays_marked index f (Withhold number) is = is
stays_marked index f (Reset time) is = is
stays_marked index f (ResetAsk time) is = is
stays_marked index f Confirm is = is

-- an item was appended to a journal with these
pub kept_then : {D : Type 0} (disk : D → DiskSeen) (journal new : JournalSeen D) (items : List Item) (f : Fold) (i : Item) (index : ℕ) (payload : List ℕ) → IsKeptOf (disk journal.disk) journal.count items f → MayFollow (taken_all new_content items) i → payload ≡ spelled_item i
    → AppendAnswers (Ok index) journal new → Appends (Ok index) payload (disk journal.disk) (disk new.disk) → IsKeptOf (disk new.disk) new.count (items ++ i ∷ []) (fold_with index f (change_of i))
kept_then disk journal new items f i index payload k may is answers done =
    let got = done.kept (map spelled_item items) k.holds in
    let list = ap (λ p. map spelled_item items ++ p ∷ []) is ∙ sym (map-push spelled_item items i) in
    record {
      holds = subst (Holds (disk new.disk)) list got.0;
      lasts = subst (Lasts (disk new.disk)) list got.1;
      counts = omega (arith, answers.1, k.counts, length-append items (i ∷ []));
      folds = fold_step items f k.folds i index (answers.0 ∙ k.counts) may;
    }

-- ---- where the entry was found that was read last

-- cursors of a journal stand where they did
abbrev pub HasCursors : {D : Type 0} → (D → DiskSeen) → JournalSeen D → JournalSeen D → Type 0
HasCursors disk old new = (c : CursorSeen) → c.index ≤ old.count → Stands disk old c → Stands disk new c

spot_on : {D : Type 0} (disk : D → DiskSeen) (old new : JournalSeen D) → HasCursors disk old new → old.count ≤ new.count → (s : Spot) → IsSpotOn disk old s → IsSpotOn disk new s
spot_on disk old new cursors le s on = record { within = omega (arith, on.within, le); stands = cursors s.cursor on.within on.stands }

pub spots_on : {D : Type 0} (disk : D → DiskSeen) (old new : JournalSeen D) (near : Option Found) → HasCursors disk old new → old.count ≤ new.count → IfSome near (AreSpotsOn disk old) → IfSome near (AreSpotsOn disk new)
spots_on disk old new None cursors le on = tt
spots_on disk old new (Some f) cursors le on = record { at = spot_on disk old new cursors le f.at on.at; after = spot_on disk old new cursors le f.after on.after }

spot_more : (items : List Item) (i : Item) (s : Spot) → IsSpotOf items s → IsSpotOf (items ++ i ∷ []) s
spot_more items i s of = record { within = omega (arith, of.within, length-append items (i ∷ [])); before = of.before ∙ sym (before_more items i s.cursor.index of.within) }

pub spots_more : (items : List Item) (i : Item) (near : Option Found) → IfSome near (AreSpotsOf items) → IfSome near (AreSpotsOf (items ++ i ∷ []))
spots_more items i None of = tt
spots_more items i (Some f) of = record { at = spot_more items i f.at of.at; after = spot_more items i f.after of.after; next = of.next }

module _ {D : Type 0} (disk : D → DiskSeen) (journal : JournalSeen D) (f : Fold) (near : Option Found) (sound : IsSound disk journal f near false) (r : Record) (fits : IsKeepable r) (may : MayKeep (disk journal.disk) r) (has : MayTake f (change_of (keeps r))) where
  pub follows : (items : List Item) → IsKeptOf (disk journal.disk) journal.count items f → MayFollow (taken_all new_content items) (keeps r)
  follows items k =
      may_follow items f k.folds (keeps r) fits sound.within.few has (names_of (taken_all new_content items).end r (may (taken_all new_content items).end (holds_this (disk journal.disk) journal.count items f k)))

  next : IsSome (disk journal.disk).bytes → IsNext (disk journal.disk) (keeps r)
  next some =
      let k = sound.kept refl some in
      record { count = journal.count; items = k.0; fold = f; kept = k.1; may = follows k.0 k.1 }

  pub keeps_at : (answer : Result ℕ StoreFault) (payload : List ℕ) (new : JournalSeen D) → payload ≡ spelled r → Appends answer payload (disk journal.disk) (disk new.disk) → StoreKeeps (fault_of answer) r (disk journal.disk) (disk new.disk)
  keeps_at answer payload new is done = keeps_record (disk journal.disk) (disk new.disk) r next answer (subst (λ p. Appends answer p (disk journal.disk) (disk new.disk)) is done)

  module _ (index : ℕ) (payload : List ℕ) (new : JournalSeen D) (is : payload ≡ spelled r) (answers : AppendAnswers (Ok index) journal new) (done : Appends (Ok index) payload (disk journal.disk) (disk new.disk)) where
    then_kept : IsSome (disk new.disk).bytes → (items : List Item) × IsKeptOf (disk new.disk) new.count items (fold_with index f (change_of (keeps r))) × IfSome near (AreSpotsOf items)
    then_kept some =
        let k = sound.kept refl (done.tells_bytes.0 some) in
        (k.0 ++ keeps r ∷ [], kept_then disk journal new k.0 f (keeps r) index payload k.1 (follows k.0 k.1) is answers done, spots_more k.0 (keeps r) near k.2)

    pub sound_at : HasCursors disk journal new → (stopped : Bool) → stopped ≡ new.stopped → IsSound disk new (fold_with index f (change_of (keeps r))) near stopped
    sound_at cursors stopped same = record {
      stops = same;
      within = within_step f journal.count index new.count sound.within answers.0 answers.1 (keeps r) fits has;
      marked = stays_marked index f r sound.marked;
      spots = spots_on disk journal new near cursors (omega (arith, answers.1)) sound.spots;
      kept = λ still some. then_kept some;
    }

-- an append that failed
pub sound_failed : {D : Type 0} (disk : D → DiskSeen) (journal new : JournalSeen D) (f g : Fold) (near : Option Found) (said : StoreFault) (stopped : Bool) → IsSound disk journal f near false → g ≡ f → stopped ≡ new.stopped → AppendAnswers (Err said) journal new → HasCursors disk journal new → IsSound disk new g near stopped
sound_failed disk journal new f g near fault.Stopped stopped sound same is answers cursors = absurd answers
sound_failed disk journal new f g near fault.NumbersSpent stopped sound same is answers cursors = absurd answers
sound_failed disk journal new f g near fault.OutOfMemory stopped sound same is answers cursors =
    let still : stopped ≡ false = is ∙ ap (λ j. j.stopped) answers ∙ sym sound.stops in
    subst (λ h. IsSound disk new h near stopped) (sym same) (subst (λ j. IsSound disk j f near stopped) (sym answers) (subst (λ b. IsSound disk journal f near b) (sym still) sound))
sound_failed disk journal new f g near fault.DiskFault stopped sound same is answers cursors =
    subst (λ h. IsSound disk new h near stopped) (sym same) (record {
      stops = is;
      within = subst (IsWithin f) (sym answers.0) sound.within;
      marked = sound.marked;
      spots = spots_on disk journal new near cursors (omega (arith, answers.0)) sound.spots;
      kept = λ still some. absurd (true≢false (sym answers.1 ∙ sym is ∙ still));
    })

-- a call that is refused before the disk is called
module _ {D : Type 0} (disk : D → DiskSeen) (journal : JournalSeen D) (f : Fold) (near : Option Found) (sound : IsSound disk journal f near false) (r : Record) (laws : IsLawfulDisk (disk journal.disk)) where
  here : (e : End) → HoldsEnd (disk journal.disk) e → (disk journal.disk).TellsImages → (c : List ℕ) → (disk journal.disk).image c → IsEitherEnd e r c
  here e holds images c left =
      let k = sound.kept refl (tells (disk journal.disk) e holds) in
      inl (subst (HasEnd c) (sym (this_end (disk journal.disk) journal.count k.0 f k.1 e holds)) (end_of k.0 k.1.folds.each c (k.1.lasts images c left)))

  pub refused : (said : StoreFault) → store_failures (Some said) ≡ 0 → StoreKeeps (Some said) r (disk journal.disk) (disk journal.disk)
  refused said none = record {
    kept = λ same. absurd (true≢false (ap is_some same));
    as_read = λ e holds. subst (λ o. IfSome o (IsEitherEnd e r)) (sym holds.1) (inl holds.2);
    any_moment = λ e holds. started (disk journal.disk) (IsEitherEnd e r) laws (λ p c left. here e holds (laws.tells_now p) c left);
    now = here;
    tells_bytes = (λ some. some, λ some. some);
    tells_images = (λ told. told, λ told. told);
    cause = omega (arith, none);
    calls = λ some. omega arith;
  }

-- ---- a call that reads

pub kept_read : (old new : DiskSeen) (count : ℕ) (items : List Item) (f : Fold) → LeavesAsIs old new → (new.TellsImages ↔ old.TellsImages) → IsKeptOf old count items f → IsKeptOf new count items f
kept_read old new count items f same images kept = record {
  holds = (kept.holds.0, same.bytes ∙ kept.holds.1, kept.holds.2);
  lasts = λ told c left. kept.lasts (images.0 told) c ((same.images (images.0 told) c).0 left);
  counts = kept.counts;
  folds = kept.folds;
}

-- a journal that was only read, and where the entry was found
pub sound_read : {D : Type 0} (disk : D → DiskSeen) (journal new : JournalSeen D) (f : Fold) (near then_near : Option Found) → IsSound disk journal f near false → new.count ≡ journal.count → LeavesAsIs (disk journal.disk) (disk new.disk) → ((disk new.disk).TellsImages ↔ (disk journal.disk).TellsImages)
    → IfSome then_near (AreSpotsOn disk new) → ((items : List Item) → IsKeptOf (disk journal.disk) journal.count items f → IfSome near (AreSpotsOf items) → IfSome then_near (AreSpotsOf items)) → (stopped : Bool) → stopped ≡ new.stopped → IsSound disk new f then_near stopped
sound_read disk journal new f near then_near sound count same images on of stopped is = record {
  stops = is;
  within = subst (IsWithin f) (sym count) sound.within;
  marked = sound.marked;
  spots = on;
  kept = λ still some.
      let k = sound.kept refl (ap is_some (sym same.bytes) ∙ some) in
      (k.0, subst (λ n. IsKeptOf (disk new.disk) n k.0 f) (sym count) (kept_read (disk journal.disk) (disk new.disk) journal.count k.0 f same images k.1), of k.0 k.1 k.2);
}

-- a disk fault of a read
pub sound_lost : {D : Type 0} (disk : D → DiskSeen) (journal new : JournalSeen D) (f : Fold) (near : Option Found) → IsSound disk journal f near false → new.count ≡ journal.count → new.stopped ≡ true → IsSound disk new f near true
sound_lost disk journal new f near sound count stops = record {
  stops = sym stops;
  within = subst (IsWithin f) (sym count) sound.within;
  marked = sound.marked;
  spots = spots_on disk journal new near (λ c le stands still. absurd (true≢false (sym stops ∙ still))) (omega (arith, count)) sound.spots;
  kept = λ still some. absurd (true≢false still);
}

-- the items of a journal stand first among its payloads
pub all_first : (seen : DiskSeen) (count : ℕ) (items : List Item) (f : Fold) → IsKeptOf seen count items f → StandFirst count (map spelled_item items) items
all_first seen count items f k = record { later = []; is = sym (append-nil (map spelled_item items)); few = omega (arith, k.counts); each = k.folds.each }

-- what was read of an entry's payload is the entry
this_entry : (part : List ℕ) (entry other : Entry) → HasPayload other → part ≡ spelled_entry other → ReadsAs part entry → entry ≡ other
this_entry part entry other fits is (inl found) = one_entry entry other found.0 fits (sym found.1 ∙ is)
this_entry part entry other fits is (inr none) = absurd (none.0 other fits is)

-- the entries of an item that fits may be kept
pub each_at : (es : List Entry) → AllByRecursion HasPayload es → (n : ℕ) (e : Entry) → slice_get es n ≡ Some e → HasPayload e
each_at [] all n e is = absurd (subst (λ o. IfSome o (λ z. ⊥)) is tt)
each_at (x ∷ es) all zero e is = subst (λ o. IfSome o HasPayload) is all.0
each_at (x ∷ es) all (suc n) e is = each_at es all.1 n e is

none_at : {A : Type 0} (n : ℕ) (x : A) {P : Type 0} → slice_get [] n ≡ Some x → P
none_at n x is = absurd (subst (λ o. IfSome o (λ z. ⊥)) is tt)

pub entry_fits : (i : Item) → IsFit i → (n : ℕ) (e : Entry) → slice_get (pushes_of i) n ≡ Some e → HasPayload e
entry_fits (keeps (Push entry)) fits n e is = each_at (entry ∷ []) (fits, tt) n e is
entry_fits (keeps (Many pushes number)) fits n e is = each_at pushes fits.each n e is
entry_fits (keeps (Expect number)) fits n e is = none_at n e is
entry_fits (keeps (Withhold number)) fits n e is = none_at n e is
entry_fits (keeps (Reset time)) fits n e is = none_at n e is
entry_fits (keeps (ResetAsk time)) fits n e is = none_at n e is
entry_fits (keeps Confirm) fits n e is = none_at n e is
entry_fits marks fits n e is = none_at n e is

at_near : (near : Option Found) (j : ℕ) → index_in near ≡ Some j → (f : Found) × (near ≡ Some f) × (f.at.cursor.index ≡ j)
at_near None j is = absurd (true≢false (sym (ap is_some is)))
at_near (Some f) j is = (f, refl, subst (λ o. IfSome o (λ z. f.at.cursor.index ≡ z)) is refl)

module _ {D : Type 0} (disk : D → DiskSeen) (journal : JournalSeen D) (f : Fold) (near : Option Found) (sound : IsSound disk journal f near false) where
  pub reads_at : (n : ℕ) (payload : List ℕ) (at : Found) (entry : Entry) (new : DiskSeen)
      → ((payloads : List (List ℕ)) (items : List Item) (out : List Entry) → Holds (disk journal.disk) payloads → StandFirst journal.count payloads items → IsCountOf items f.counts out → IfSome near (AreSpotsOf items) → IsFoundAt items out n payload at × AreSpotsOf items at)
      → ((part : List ℕ) × ReadsAs part entry × ((i : Item) (other : Entry) → IsFit i → payload ≡ spelled_item i → slice_get (pushes_of i) at.nth ≡ Some other → part ≡ spelled_entry other))
      → HasPayload entry → Reads 0 (disk journal.disk) new → (IsSome (disk journal.disk).bytes → new.clock ≤ (disk journal.disk).clock + 65) → StoreReads (Ok entry) n (disk journal.disk) new
  reads_at n payload at entry new found reads fits done calls = record {
    entry = λ e holds.
        let k = sound.kept refl (tells (disk journal.disk) e holds) in
        let out = (taken_all new_content k.0).end.out in
        let got = (found (map spelled_item k.0) k.0 out k.1.holds (all_first (disk journal.disk) journal.count k.0 f k.1) k.1.folds.counts k.2).0 in
        let part_is = reads.2 got.part.item got.entry got.part.fit got.part.is got.part.there in
        let same = this_entry reads.0 entry got.entry (entry_fits got.part.item got.part.fit at.nth got.entry got.part.there) part_is reads.1 in
        subst (λ l. IsEntry l n entry) (ap (λ (z : End). z.out) (sym (this_end (disk journal.disk) journal.count k.0 f k.1 e holds)))
        (subst (λ z. IsEntry out n z) (sym same) got.at);
    reads = (fits, reads.0, reads.1);
    same = done.same;
    any_moment = done.any_moment;
    tells_images = done.tells_images;
    cause = done.cause;
    calls = calls;
  }

  -- the record in which it was found
  pub stands_at : (n : ℕ) (payload : List ℕ) (at : Found)
      → ((payloads : List (List ℕ)) (items : List Item) (out : List Entry) → Holds (disk journal.disk) payloads → StandFirst journal.count payloads items → IsCountOf items f.counts out → IfSome near (AreSpotsOf items) → IsFoundAt items out n payload at × AreSpotsOf items at)
      → StandsAt (disk journal.disk) n at.at.cursor.index
  stands_at n payload at found = λ items holds.
      let k = sound.kept refl (ap is_some holds.1) in
      let out = (taken_all new_content k.0).end.out in
      let got = (found (map spelled_item k.0) k.0 out k.1.holds (all_first (disk journal.disk) journal.count k.0 f k.1) k.1.folds.counts k.2).0 in
      subst (λ l. StandsIn l (taken_all new_content l).end.out n at.at.cursor.index) (sym (these_items (disk journal.disk) journal.count k.0 f k.1 items holds)) got.stands

  -- the next entry
  pub read_soon : (n j k : ℕ) (then_clock : ℕ) → IsSome (disk journal.disk).bytes → index_in near ≡ Some j → StandsAt (disk journal.disk) n k → j ≤ k → k ≤ j + 1
      → ((payloads : List (List ℕ)) (items : List Item) (out : List Entry) (at : Found) (m : ℕ) → Holds (disk journal.disk) payloads → StandFirst journal.count payloads items → IsCountOf items f.counts out → near ≡ Some at → AreSpotsOf items at → StandsIn items out n m → at.at.cursor.index ≤ m → m ≤ at.at.cursor.index + 1 → then_clock ≤ (disk journal.disk).clock + 2)
      → then_clock ≤ (disk journal.disk).clock + 2
  read_soon n j k then_clock some is stands low high soon =
      let kept = sound.kept refl some in
      let found = at_near near j is in
      let index = found.2 in
      soon (map spelled_item kept.0) kept.0 (taken_all new_content kept.0).end.out found.0 k kept.1.holds (all_first (disk journal.disk) journal.count kept.0 f kept.1) kept.1.folds.counts found.1
      (subst (λ o. IfSome o (AreSpotsOf kept.0)) found.1 kept.2) (stands kept.0 (holds_items (disk journal.disk) journal.count kept.0 f kept.1)) (omega (arith, low, index)) (omega (arith, high, index))

  pub found_near : (at : Found) (n : ℕ) (payload : List ℕ)
      → ((payloads : List (List ℕ)) (items : List Item) (out : List Entry) → Holds (disk journal.disk) payloads → StandFirst journal.count payloads items → IsCountOf items f.counts out → IfSome near (AreSpotsOf items) → IsFoundAt items out n payload at × AreSpotsOf items at)
      → (items : List Item) → IsKeptOf (disk journal.disk) journal.count items f → IfSome near (AreSpotsOf items) → AreSpotsOf items at
  found_near at n payload found items k of = (found (map spelled_item items) items (taken_all new_content items).end.out k.holds (all_first (disk journal.disk) journal.count items f k) k.folds.counts of).1

-- what holds of an Ok, after a test of the answer
pub when_ok : {T E : Type 0} (answer : Result T E) {P : Type 0} → false ≡ is_err answer → OnOk answer P → P
when_ok (Ok x) same p = p
when_ok (Err e) same p = absurd (true≢false (sym same))
