-- The room of a store, behind each of its calls.
use Rattle.std.proofs.Common.{◌≡◌, ◌↔◌, ◌⊎◌, inl, inr, ℕ, ◌+◌, ◌-◌, ◌<◌, ◌≤◌, Bool, true, false, List, [], ◌∷◌, ◌++◌, length, Option, Some, None, Result, Ok, Err, refl, sym, ◌∙◌, ap, subst, arith, length-append, true≢false}
use Rattle.std.specs.Prelude.{map, IfSome, IsSome, is_some, nat_le, if◌then◌else◌}
use Rattle.std.proofs.lemmas.Bool.{lt-leb, le-leb, cases_lt}
use Rattle.fix_base.specs.declared.entry.Record.{Record}
use Rattle.fix_base.specs.declared.entry.Record.TheVariants.{Push, Expect, Many, Withhold, Reset, ResetAsk, Confirm}
use Rattle.fix_base.specs.Parts.{HasNoRoom, TakesRoom, KeepsRoom}
use Rattle.fix_base.specs.Payload.{record_size}
use Rattle.fix_disk.specs.Disk.{DiskSeen, IsLawfulDisk, MayFail}
use Rattle.fix_disk.specs.Moments.{NeedsRoom}
use Rattle.fix_journal.specs.declared.fault.OpenFault.{OpenFault}
use Rattle.fix_journal.specs.declared.fault.OpenFault.TheVariants as open_fault
use Rattle.fix_journal.specs.Format.{body_of, file_size, IsMade, IsJournal, HasRecords}
use Rattle.fix_journal.specs.Journal.{JournalSeen, Holds}
use Rattle.fix_journal.specs.Opening as journal
use Rattle.fix_journal.specs.Opening.{Opens, open_failures}
use Rattle.fix_journal.specs.Payloads.{payloads_in}
use Rattle.fix_journal.proofs.PayloadLemmas.{computed}
use Rattle.fix_journal.proofs.RoomLemmas.{size_push, needs_more, needs_then}
use Rattle.fix_journal.proofs.SoundLemmas.{some_same}
use Rattle.fix_journal.proofs.AsRead.{at_told}
use Rattle.fix_store.proofs.RecordLists.{map-push, fold-push, follow-push}
use Rattle.fix_store.proofs.OpenLemmas.{made_or_not, bool_cases, no_damage, memory_same, failures_are, appended, walk_tells, walk_found, kept_there}
use Rattle.fix_store.specs.declared.folding.Folded.{Folded}
use Rattle.fix_store.specs.Marking.{Adds, Marks}
use Rattle.fix_store.specs.declared.fault.StoreFault.{StoreFault}
use Rattle.fix_store.specs.declared.fault.StoreFault.TheVariants.{Stopped, NumbersSpent, OutOfMemory, DiskFault}
use Rattle.fix_store.specs.Spelling.{spelled, Item, keeps, marks, spelled_item, MARK}
use Rattle.fix_store.specs.Reading.{new_content, taken_all, MayFollow, IsStoreOf}
use Rattle.fix_store.specs.Ends.{item_in, is_marked}
use Rattle.fix_store.specs.Store.{fault_of, store_failures}
use Rattle.fix_store.specs.Keeping.{Appends}
use Rattle.fix_store.specs.Folding.{Fold, fold_of, IsKeptOf, GoesOn, Reads, Folds}
use Rattle.fix_store.specs.declared.finding.Found.{Found}
use Rattle.fix_store.specs.Sound.{IsSound}
use Rattle.fix_store.specs.Rooms.{used, needed, room_in, room_left, KeepRoom, OpenRoom}
use Rattle.fix_store.proofs.Ends.{content_is}
use Rattle.fix_store.proofs.Spellings.{length_entry, length_many}

-- ---- of a room and the bytes of a file

-- of a marked file whose records take so much
abbrev room_marked : Option ℕ → ℕ → Option ℕ
room_marked None size = None
room_marked (Some room) size = if nat_le 10 room then Some (room - size) else None

-- of one that has no mark yet
abbrev room_unmarked : Option ℕ → ℕ → Option ℕ
room_unmarked None size = None
room_unmarked (Some room) size = if nat_le (size + 10) room then Some (room - (size + 10)) else None

abbrev room_by : Bool → Option ℕ → ℕ → Option ℕ
room_by true room size = room_marked room size
room_by false room size = room_unmarked room size

in_case : (b : Bool) (size : ℕ) (room : ℕ) → (if nat_le (if b then 10 else (if b then size else size + 10)) room then Some (room - (if b then size else size + 10)) else None) ≡ room_by b (Some room) size
in_case true size room = refl
in_case false size room = refl

by_none : (b : Bool) (size : ℕ) → None ≡ room_by b None size
by_none true size = refl
by_none false size = refl

is_room : (room : Option ℕ) (file : List ℕ) (b : Bool) (size : ℕ) → is_marked file ≡ b → file_size (payloads_in file) ≡ size → room_in room (Some file) ≡ room_by b room size
is_room None file b size marked long = by_none b size
is_room (Some room) file b size marked long = in_case (is_marked file) (file_size (payloads_in file)) room ∙ ap (λ c. room_by c (Some room) (file_size (payloads_in file))) marked ∙ ap (room_by b (Some room)) long

-- of a file of a store
room_of : (seen : DiskSeen) (items : List Item) (file : List ℕ) → seen.bytes ≡ Some file → IsStoreOf file items → room_left seen ≡ room_by (taken_all new_content items).marked seen.room (file_size (map spelled_item items))
room_of seen items file is store =
    ap (room_in seen.room) is
    ∙ is_room seen.room file (taken_all new_content items).marked (file_size (map spelled_item items)) (ap (λ s. s.marked) (content_is file items store)) (ap file_size (computed file (map spelled_item items) store.is))

-- of a disk that holds items
room_kept_of : (seen : DiskSeen) (count : ℕ) (items : List Item) (f : Fold) → IsKeptOf seen count items f → room_left seen ≡ room_by f.marked seen.room (file_size (map spelled_item items))
room_kept_of seen count items f kept =
    room_of seen items kept.holds.0 kept.holds.1 (record { is = inr kept.holds.2; each = kept.folds.each })
    ∙ ap (λ b. room_by b seen.room (file_size (map spelled_item items))) (sym kept.folds.marked)

-- of one that tells no bytes
some_or_not : (o : Option (List ℕ)) → IsSome o ⊎ (o ≡ None)
some_or_not None = inr refl
some_or_not (Some x) = inl refl

no_room : (room : Option ℕ) → room_in room None ≡ None
no_room None = refl
no_room (Some room) = refl

untold_left : (seen : DiskSeen) → seen.bytes ≡ None → room_left seen ≡ None
untold_left seen none = ap (room_in seen.room) none ∙ no_room seen.room

not_told : (o : Option (List ℕ)) → o ≡ None → IsSome o → ⊥
not_told o none some = true≢false (sym some ∙ ap is_some none)

none_then : (old new : Option (List ℕ)) → (IsSome new ↔ IsSome old) → old ≡ None → new ≡ None
none_then old new tells none = elim (some_or_not new) [
  | inl some ↦ absurd (not_told old none (tells.0 some))
  | inr is ↦ is
]

-- ---- of a record

takes_if : (fits : Bool) (r : Record) (left then_left : ℕ) → left - record_size r ≤ then_left → TakesRoom r (if fits then Some left else None) (if fits then Some then_left else None)
takes_if true r left then_left le = (then_left, refl, le)
takes_if false r left then_left le = refl

takes_marked : (room : Option ℕ) (r : Record) (size : ℕ) → TakesRoom r (room_marked room size) (room_marked room (size + record_size r))
takes_marked None r size = refl
takes_marked (Some room) r size = takes_if (nat_le 10 room) r (room - size) (room - (size + record_size r)) (omega arith)

lacks_if : (fits : Bool) (size left : ℕ) → left < size → HasNoRoom size (if fits then Some left else None)
lacks_if true size left lt = lt
lacks_if false size left lt = tt

-- the disk failed, where so much was needed
lacks_marked : (room : Option ℕ) (size used : ℕ) → 1 ≤ size → MayFail room (used + size) → HasNoRoom size (room_marked room used)
lacks_marked None size used some may = tt
lacks_marked (Some room) size used some may = lacks_if (nat_le 10 room) size (room - used) (omega (arith, some, may))

length_spelled : (r : Record) → 5 + length (spelled r) ≡ record_size r
length_spelled (Push entry) = omega (arith, length_entry entry)
length_spelled (Expect number) = omega arith
length_spelled (Reset time) = omega arith
length_spelled (Many pushes number) = omega (arith, length_many pushes number)
length_spelled (Withhold number) = omega arith
length_spelled (ResetAsk time) = omega arith
length_spelled Confirm = omega arith

some_size : (r : Record) → 1 ≤ record_size r
some_size r = omega (arith, length_spelled r)

-- a file with one payload more
size_more : (payloads : List (List ℕ)) (payload : List ℕ) → file_size (payloads ++ payload ∷ []) ≡ file_size payloads + (5 + length payload)
size_more payloads payload = omega (arith, size_push payloads payload, length-append (body_of payload) (0 ∷ []))

size_with : (payloads : List (List ℕ)) (r : Record) → file_size (payloads ++ spelled r ∷ []) ≡ file_size payloads + record_size r
size_with payloads r = size_more payloads (spelled r) ∙ ap (λ n. file_size payloads + n) (length_spelled r)

-- what a disk with these records has left
left_of : (seen : DiskSeen) (count : ℕ) (items : List Item) (f : Fold) → IsKeptOf seen count items f → f.marked ≡ true → room_left seen ≡ room_marked seen.room (file_size (map spelled_item items))
left_of seen count items f kept marked = room_kept_of seen count items f kept ∙ ap (λ b. room_by b seen.room (file_size (map spelled_item items))) marked

-- ---- a record that is kept

module _ {D : Type 0} (disk : D → DiskSeen) (journal : JournalSeen D) (f : Fold) (near : Option Found) (sound : IsSound disk journal f near false) (r : Record) (payload : List ℕ) (new : JournalSeen D) (is : payload ≡ spelled r) (same : (disk new.disk).room ≡ (disk journal.disk).room) where
  with_payload : (payloads : List (List ℕ)) → file_size (payloads ++ payload ∷ []) ≡ file_size payloads + record_size r
  with_payload payloads = ap (λ p. file_size (payloads ++ p ∷ [])) is ∙ size_with payloads r

  -- the room of the disk before
  left_before : (items : List Item) → IsKeptOf (disk journal.disk) journal.count items f → room_left (disk journal.disk) ≡ room_marked (disk journal.disk).room (file_size (map spelled_item items))
  left_before items k = left_of (disk journal.disk) journal.count items f k sound.marked

  module _ (follows : (items : List Item) → IsKeptOf (disk journal.disk) journal.count items f → MayFollow (taken_all new_content items) (keeps r)) where
    pub room_kept : (index : ℕ) → Appends (Ok index) payload (disk journal.disk) (disk new.disk) → TakesRoom r (room_left (disk journal.disk)) (room_left (disk new.disk))
    room_kept index done = elim (some_or_not (disk journal.disk).bytes) [
      | inl some ↦ (
          let k = sound.kept refl some in
          let items = k.0 in
          let then_items = items ++ keeps r ∷ [] in
          let size = file_size (map spelled_item items) in
          let got = (done.kept (map spelled_item items) k.1.holds).0 in
          let list : map spelled_item items ++ payload ∷ [] ≡ map spelled_item then_items = ap (λ p. map spelled_item items ++ p ∷ []) is ∙ sym (map-push spelled_item items (keeps r)) in
          let store : IsStoreOf got.0 then_items = record { is = inr (subst (IsJournal got.0) list got.2); each = follow-push new_content items (keeps r) k.1.folds.each (follows items k.1) } in
          let marked : (taken_all new_content then_items).marked ≡ true = ap (λ s. s.marked) (fold-push new_content items (keeps r)) ∙ sym k.1.folds.marked ∙ sound.marked in
          let longer : file_size (map spelled_item then_items) ≡ size + record_size r = ap file_size (map-push spelled_item items (keeps r)) ∙ size_with (map spelled_item items) r in
          let then_left : room_left (disk new.disk) ≡ room_marked (disk journal.disk).room (size + record_size r) =
          room_of (disk new.disk) then_items got.0 got.1 store
          ∙ ap (λ b. room_by b (disk new.disk).room (file_size (map spelled_item then_items))) marked
          ∙ ap (room_marked (disk new.disk).room) longer
          ∙ ap (λ room. room_marked room (size + record_size r)) same in
          subst (λ left. TakesRoom r left (room_left (disk new.disk))) (sym (left_before items k.1))
          (subst (TakesRoom r (room_marked (disk journal.disk).room size)) (sym then_left) (takes_marked (disk journal.disk).room r size)))
      | inr none ↦ (
          subst (λ left. TakesRoom r left (room_left (disk new.disk))) (sym (untold_left (disk journal.disk) none))
          (untold_left (disk new.disk) (none_then (disk journal.disk).bytes (disk new.disk).bytes done.tells_bytes none)))
    ]

    pub room_lacks : ((payloads : List (List ℕ)) → Holds (disk journal.disk) payloads → NeedsRoom 1 (file_size (payloads ++ payload ∷ [])) (disk journal.disk) (disk new.disk)) → HasNoRoom (record_size r) (room_left (disk journal.disk))
    room_lacks need = elim (some_or_not (disk journal.disk).bytes) [
      | inl some ↦ (
          let k = sound.kept refl some in
          let size = file_size (map spelled_item k.0) in
          subst (HasNoRoom (record_size r)) (sym (left_before k.0 k.1))
          (lacks_marked (disk journal.disk).room (record_size r) size (some_size r) (subst (MayFail (disk journal.disk).room) (with_payload (map spelled_item k.0)) ((need (map spelled_item k.0) k.1.holds).need (omega arith)))))
      | inr none ↦ subst (HasNoRoom (record_size r)) (sym (untold_left (disk journal.disk) none)) tt
    ]

    pub room_at : (answer : Result ℕ StoreFault) → Appends answer payload (disk journal.disk) (disk new.disk) → ((payloads : List (List ℕ)) → Holds (disk journal.disk) payloads → NeedsRoom (store_failures (fault_of answer)) (file_size (payloads ++ payload ∷ [])) (disk journal.disk) (disk new.disk)) → KeepRoom (fault_of answer) r (disk journal.disk) (disk new.disk)
    room_at (Ok index) done need = room_kept index done
    room_at (Err DiskFault) done need = room_lacks need
    room_at (Err Stopped) done need = tt
    room_at (Err NumbersSpent) done need = tt
    room_at (Err OutOfMemory) done need = tt

-- ---- an opening

-- the same payloads and the same mark leave the same room
pub same_left : (old new : DiskSeen) → new.room ≡ old.room → (IsSome new.bytes ↔ IsSome old.bytes) → ((file now : List ℕ) → old.bytes ≡ Some file → new.bytes ≡ Some now → payloads_in now ≡ payloads_in file) → room_left new ≡ room_left old
same_left old new is tells same = elim (some_or_not old.bytes) [
  | inl some ↦ (
      let file = at_told old.bytes some in
      let now = at_told new.bytes (tells.1 some) in
      let payloads = same file.0 now.0 file.1 now.1 in
      let marked : is_marked now.0 ≡ is_marked file.0 = ap (λ ps. (taken_all new_content (map item_in ps)).marked) payloads in
      ap (room_in new.room) now.1
      ∙ is_room new.room now.0 (is_marked file.0) (file_size (payloads_in file.0)) marked (ap file_size payloads)
      ∙ ap (λ room. room_by (is_marked file.0) room (file_size (payloads_in file.0))) is
      ∙ sym (is_room old.room file.0 (is_marked file.0) (file_size (payloads_in file.0)) refl refl)
      ∙ ap (room_in old.room) (sym file.1))
  | inr none ↦ (untold_left new (none_then old.bytes new.bytes tells none) ∙ sym (untold_left old none))
]

pub keeps_room : (left : Option ℕ) → KeepsRoom left left
keeps_room None = tt
keeps_room (Some left) = (left, refl, omega arith)

pub read_left : (old new : DiskSeen) → new.room ≡ old.room → new.bytes ≡ old.bytes → room_left new ≡ room_left old
read_left old new is same = ap (λ room. room_in room new.bytes) is ∙ ap (room_in old.room) same

-- a disk that can't hold the ten bytes of an empty journal tells no room
ten_needed : (b : Bool) (size : ℕ) → 10 ≤ (if b then 10 else (if b then size else size + 10))
ten_needed true size = omega arith
ten_needed false size = omega arith

no_failure : (room : Option ℕ) (bytes : Option (List ℕ)) → MayFail room 10 → HasNoRoom 0 (room_in room bytes)
no_failure None bytes may = tt
no_failure (Some room) None may = tt
no_failure (Some room) (Some file) may =
    let ten = ten_needed (is_marked file) (file_size (payloads_in file)) in
    subst (λ fits. HasNoRoom 0 (if fits then Some (room - used file) else None)) (sym (lt-leb (needed file) room (omega (arith, may, ten)))) tt

pub read_fails : (old new : DiskSeen) → NeedsRoom 1 0 old new → HasNoRoom 0 (room_left old)
read_fails old new needs = no_failure old.room old.bytes ((needs_more 1 0 10 old new (omega arith) needs).need (omega arith))

pub open_fails : (old new : DiskSeen) → NeedsRoom 1 10 old new → HasNoRoom 0 (room_left old)
open_fails old new needs = no_failure old.room old.bytes (needs.need (omega arith))

-- a file of which a journal was made, or that is the same, has the same payloads
payloads_same : (failed : Option OpenFault) (old mid : DiskSeen) → Opens failed old mid → (file now : List ℕ) → old.bytes ≡ Some file → mid.bytes ≡ Some now → payloads_in now ≡ payloads_in file
payloads_same failed old mid opens file now is is' = elim (made_or_not file) [
  | inl made ↦ ap payloads_in (some_same now file (sym is' ∙ subst (λ o. IfSome o (λ f. IsMade f → mid.bytes ≡ old.bytes)) is opens.made_same made ∙ is))
  | inr unmade ↦ (
      computed now [] (subst (λ o. IfSome o (λ c. HasRecords c [])) is' (subst (λ o. IfSome o (λ f. (IsMade f → ⊥) → IfSome mid.bytes (λ c. HasRecords c []))) is opens.as_read unmade))
      ∙ sym (computed file [] (inl (unmade, refl))))
]

-- the journal wasn't opened
pub journal_refused : (failed : OpenFault) (old new : DiskSeen) → Opens (Some failed) old new → journal.OpenRoom (Some failed) old new → OpenRoom (Some failed) old new
journal_refused open_fault.DiskFault old new opens room = open_fails old new room.unmade
journal_refused open_fault.OutOfMemory old new opens room = same_left old new room.unmade.same opens.tells_bytes (payloads_same (Some open_fault.OutOfMemory) old new opens)
journal_refused (open_fault.Damaged place) old new opens room = same_left old new room.unmade.same opens.tells_bytes (payloads_same (Some (open_fault.Damaged place)) old new opens)

-- the journal was opened, and records were read
module _ (old mid new : DiskSeen) (opens : Opens None old mid) (room : journal.OpenRoom None old mid) where
  pub walk_left : (failures : ℕ) → Reads failures mid new → room_left new ≡ room_left old
  walk_left failures reads =
      read_left mid new reads.room.same reads.same.bytes
      ∙ same_left old mid room.unmade.same opens.tells_bytes (payloads_same None old mid opens)

  pub walk_lacks : (failed : OpenFault) → Reads (open_failures (Some failed)) mid new → OpenRoom (Some failed) old new
  walk_lacks open_fault.DiskFault reads = read_fails old new (needs_then 1 0 old mid new room.unmade.same reads.room)
  walk_lacks open_fault.OutOfMemory reads = walk_left 0 reads
  walk_lacks (open_fault.Damaged place) reads = walk_left 0 reads

-- ---- the mark

-- a file of version 1 has room for its mark set aside
keeps_marked : (room : Option ℕ) (size : ℕ) → KeepsRoom (room_unmarked room size) (room_marked room (size + 10))
keeps_marked None size = tt
keeps_marked (Some room) size = elim (cases_lt room (size + 10)) [
  | inl short ↦ subst (λ fits. KeepsRoom (if fits then Some (room - (size + 10)) else None) (room_marked (Some room) (size + 10))) (sym (lt-leb (size + 10) room short)) tt
  | inr long ↦ subst (λ fits. KeepsRoom (if fits then Some (room - (size + 10)) else None) (room_marked (Some room) (size + 10))) (sym (le-leb (size + 10) room long))
      (subst (λ fits. KeepsRoom (Some (room - (size + 10))) (if fits then Some (room - (size + 10)) else None)) (sym (le-leb 10 room (omega (arith, long)))) (room - (size + 10), refl, omega arith))
]

lacks_unmarked : (room : Option ℕ) (size : ℕ) → MayFail room (size + 10) → HasNoRoom 0 (room_unmarked room size)
lacks_unmarked None size may = tt
lacks_unmarked (Some room) size may = subst (λ fits. HasNoRoom 0 (if fits then Some (room - (size + 10)) else None)) (sym (lt-leb (size + 10) room may)) tt

mark_size : (items : List Item) → file_size (map spelled_item (items ++ marks ∷ [])) ≡ file_size (map spelled_item items) + 10
mark_size items = ap file_size (map-push spelled_item items marks) ∙ size_more (map spelled_item items) MARK

module _ {D : Type 0} (disk : D → DiskSeen) (walked new : JournalSeen D) (f : Fold) (unmarked : f.marked ≡ false) (kept : IsSome (disk walked.disk).bytes → (items : List Item) × IsKeptOf (disk walked.disk) walked.count items f) where
  left_walked : (items : List Item) → IsKeptOf (disk walked.disk) walked.count items f → room_left (disk walked.disk) ≡ room_unmarked (disk walked.disk).room (file_size (map spelled_item items))
  left_walked items k = room_kept_of (disk walked.disk) walked.count items f k ∙ ap (λ b. room_by b (disk walked.disk).room (file_size (map spelled_item items))) unmarked

  pub mark_lacks : ((payloads : List (List ℕ)) → Holds (disk walked.disk) payloads → NeedsRoom 1 (file_size (payloads ++ MARK ∷ [])) (disk walked.disk) (disk new.disk)) → HasNoRoom 0 (room_left (disk walked.disk))
  mark_lacks need = elim (some_or_not (disk walked.disk).bytes) [
    | inl some ↦ (
        let k = kept some in
        let size = file_size (map spelled_item k.0) in
        subst (HasNoRoom 0) (sym (left_walked k.0 k.1))
        (lacks_unmarked (disk walked.disk).room size (subst (MayFail (disk walked.disk).room) (size_more (map spelled_item k.0) MARK) ((need (map spelled_item k.0) k.1.holds).need (omega arith)))))
    | inr none ↦ subst (HasNoRoom 0) (sym (untold_left (disk walked.disk) none)) tt
  ]

  pub mark_keeps : (g : Fold) → (disk new.disk).room ≡ (disk walked.disk).room → (IsSome (disk new.disk).bytes ↔ IsSome (disk walked.disk).bytes) → ((items : List Item) → IsKeptOf (disk walked.disk) walked.count items f → IsKeptOf (disk new.disk) new.count (items ++ marks ∷ []) g × (g.marked ≡ true)) → KeepsRoom (room_left (disk walked.disk)) (room_left (disk new.disk))
  mark_keeps g same tells then_kept = elim (some_or_not (disk walked.disk).bytes) [
    | inl some ↦ (
        let k = kept some in
        let size = file_size (map spelled_item k.0) in
        let then_left : room_left (disk new.disk) ≡ room_marked (disk walked.disk).room (size + 10) = left_of (disk new.disk) new.count (k.0 ++ marks ∷ []) g (then_kept k.0 k.1).0 (then_kept k.0 k.1).1 ∙ ap (room_marked (disk new.disk).room) (mark_size k.0) ∙ ap (λ room. room_marked room (size + 10)) same in
        subst (λ left. KeepsRoom left (room_left (disk new.disk))) (sym (left_walked k.0 k.1))
        (subst (KeepsRoom (room_unmarked (disk walked.disk).room size)) (sym then_left) (keeps_marked (disk walked.disk).room size)))
    | inr none ↦ subst (λ left. KeepsRoom left (room_left (disk new.disk))) (sym (untold_left (disk walked.disk) none)) tt
  ]

module _ {D : Type 0} (disk : D → DiskSeen) (old : DiskSeen) (mid walked new : JournalSeen D) (laws : (d : D) → IsLawfulDisk (disk d)) (opened : journal.IsOpened disk old mid) (opens : Opens None old (disk mid.disk)) (folded : Folded) (g : Fold) (reads : Reads 0 (disk mid.disk) (disk walked.disk)) (goes : GoesOn mid walked) (folds : (payloads : List (List ℕ)) → Holds (disk mid.disk) payloads → mid.count ≡ length payloads → Folds (Ok folded) payloads) (room : journal.OpenRoom None old (disk mid.disk)) where
  left_so : room_left (disk walked.disk) ≡ room_left old
  left_so = walk_left old (disk mid.disk) (disk walked.disk) opens room 0 reads

  walked_kept : IsSome (disk walked.disk).bytes → (items : List Item) × IsKeptOf (disk walked.disk) walked.count items (fold_of folded)
  walked_kept some =
      let file = at_told old.bytes ((walk_tells old (disk mid.disk) (disk walked.disk) (laws mid.disk) opens 0 reads).0 some) in
      ((walk_found disk old mid walked new laws opened opens folded g reads goes folds file.0 file.1).items, kept_there disk old mid walked new laws opened opens folded g reads goes folds file.0 file.1)

  pub mark_room : Marks disk None (fold_of folded) g walked new → OpenRoom None old (disk new.disk)
  mark_room marked = elim (bool_cases (fold_of folded).marked) [
    | inl was ↦ subst (λ (j : JournalSeen D). KeepsRoom (room_left old) (room_left (disk j.disk))) (sym (marked.was was).1) (subst (KeepsRoom (room_left old)) (sym left_so) (keeps_room (room_left old)))
    | inr unmarked ↦ (
        let a = marked.added unmarked in
        subst (λ left. KeepsRoom left (room_left (disk new.disk))) left_so
        (mark_keeps disk walked new (fold_of folded) unmarked walked_kept g a.room a.moves.tells_bytes (appended disk walked new (fold_of folded) g unmarked a.answer a.is a.answers a.moves a.fold)))
  ]

  refused_room : (unmarked : (fold_of folded).marked ≡ false) (failed : OpenFault) → Adds disk (Some failed) (fold_of folded) g walked new → OpenRoom (Some failed) old (disk new.disk)
  refused_room unmarked open_fault.DiskFault a =
      subst (HasNoRoom 0) left_so (mark_lacks disk walked new (fold_of folded) unmarked walked_kept (λ payloads holds.
      subst (λ n. NeedsRoom n (file_size (payloads ++ MARK ∷ [])) (disk walked.disk) (disk new.disk)) (sym (failures_are a.answer open_fault.DiskFault a.is)) (a.need payloads holds)))
  refused_room unmarked open_fault.OutOfMemory a = ap (λ (j : JournalSeen D). room_left (disk j.disk)) (memory_same walked new a.answer a.is a.answers) ∙ left_so
  refused_room unmarked (open_fault.Damaged place) a = absurd (no_damage a.answer place a.is)

  pub mark_room_refused : (failed : OpenFault) → Marks disk (Some failed) (fold_of folded) g walked new → OpenRoom (Some failed) old (disk new.disk)
  mark_room_refused failed marked = elim (bool_cases (fold_of folded).marked) [
    | inl was ↦ absurd (true≢false (ap is_some (marked.was was).0))
    | inr unmarked ↦ refused_room unmarked failed (marked.added unmarked)
  ]
