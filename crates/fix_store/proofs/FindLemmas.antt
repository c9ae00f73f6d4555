-- Where the entry of a number stands among a store's records.
use Rattle.std.proofs.Common.{◌≡◌, inl, inr, ℕ, ◌+◌, ◌-◌, ◌*◌, ◌<◌, ◌≤◌, ◌^◌, zero, suc, false, List, [], ◌∷◌, ◌++◌, length, take, get_or, Option, Some, refl, sym, ◌∙◌, ap, subst, arith, length-append}
use Rattle.std.specs.Prelude.{min, map, slice_get, IfSome, IfOk, Result, Ok, Err}
use Rattle.std.specs.Int.{w32, from_be_bytes}
use Rattle.std.proofs.lemmas.Nat.{from_be_bytes-to_be_bytes_4}
use Rattle.std.proofs.lemmas.Bool.{cases_lt}
use Rattle.std.proofs.lemmas.List.{take_all}
use Rattle.fix_base.specs.declared.entry.By.TheVariants.{Caller, Engine}
use Rattle.fix_base.specs.declared.entry.Entry.{Entry}
use Rattle.fix_base.specs.declared.entry.Entry.TheVariants.{App, Admin}
use Rattle.fix_base.specs.declared.entry.Record.TheVariants.{Push, Expect, Many, Withhold, Reset, ResetAsk, Confirm}
use Rattle.fix_base.specs.End.{IsEntry}
use Rattle.fix_disk.specs.Disk.{DiskSeen, LeavesAsIs}
use Rattle.fix_journal.specs.Journal.{JournalSeen, Holds}
use Rattle.fix_journal.specs.Cursors.{IsPeek, head_of}
use Rattle.fix_journal.specs.declared.cursor.Peek.{Peek}
use Rattle.fix_store.specs.declared.finding.Spot.{Spot}
use Rattle.fix_store.specs.declared.finding.Found.{Found}
use Rattle.fix_store.specs.Spelling.{Item, keeps, marks, spelled_item}
use Rattle.fix_store.specs.Reading.{new_content}
use Rattle.fix_store.specs.Counts.{Counted, IsMark}
use Rattle.fix_store.specs.Folding.{IsFit, pushes_of, pushed, entries_before, IsCountOf}
use Rattle.fix_store.specs.Finding.{StandFirst, IsAt, IsFoundAt, StandsIn, IsSpotOn, AreSpotsOn, IsSpotOf, AreSpotsOf, IsOneOf, IsNearest}
use Rattle.fix_store.proofs.RecordLists.{get_front, get_map, get_past, splits, take_more, fits_at}
use Rattle.fix_store.proofs.CountLemmas.{pushed_push}

-- ---- what the first bytes tell

abbrev number_shown : List ℕ → ℕ
number_shown head = from_be_bytes w32 (get_or head 1 0 ∷ get_or head 2 0 ∷ get_or head 3 0 ∷ get_or head 4 0 ∷ [])

many_is : (i : Item) → IsFit i → get_or (head_of (spelled_item i)) 0 0 ≡ 6 → number_shown (head_of (spelled_item i)) ≡ length (pushes_of i)
many_is (keeps (Push (App time Caller body))) fit is = absurd (omega (arith, is))
many_is (keeps (Push (App time Engine body))) fit is = absurd (omega (arith, is))
many_is (keeps (Push (Admin time kind about))) fit is = absurd (omega (arith, is))
many_is (keeps (Expect number)) fit is = absurd (omega (arith, is))
many_is (keeps (Many pushes number)) fit is = from_be_bytes-to_be_bytes_4 (length pushes) (omega (arith, fit.few))
many_is (keeps (Withhold number)) fit is = absurd (omega (arith, is))
many_is (keeps (Reset time)) fit is = absurd (omega (arith, is))
many_is (keeps (ResetAsk time)) fit is = absurd (omega (arith, is))
many_is (keeps Confirm) fit is = absurd (omega (arith, is))
many_is marks fit is = absurd (omega (arith, is))

none_is : (i : Item) → 3 < get_or (head_of (spelled_item i)) 0 0 → (get_or (head_of (spelled_item i)) 0 0 ≡ 6 → ⊥) → 0 ≡ length (pushes_of i)
none_is (keeps (Push (App time Caller body))) above not = absurd (omega (arith, above))
none_is (keeps (Push (App time Engine body))) above not = absurd (omega (arith, above))
none_is (keeps (Push (Admin time kind about))) above not = absurd (omega (arith, above))
none_is (keeps (Expect number)) above not = refl
none_is (keeps (Many pushes number)) above not = absurd (not refl)
none_is (keeps (Withhold number)) above not = refl
none_is (keeps (Reset time)) above not = refl
none_is (keeps (ResetAsk time)) above not = refl
none_is (keeps Confirm) above not = refl
none_is marks above not = refl

one_is : (i : Item) → get_or (head_of (spelled_item i)) 0 0 ≤ 3 → 1 ≡ length (pushes_of i)
one_is (keeps (Push (App time Caller body))) low = refl
one_is (keeps (Push (App time Engine body))) low = refl
one_is (keeps (Push (Admin time kind about))) low = refl
one_is (keeps (Expect number)) low = absurd (omega (arith, low))
one_is (keeps (Many pushes number)) low = absurd (omega (arith, low))
one_is (keeps (Withhold number)) low = absurd (omega (arith, low))
one_is (keeps (Reset time)) low = absurd (omega (arith, low))
one_is (keeps (ResetAsk time)) low = absurd (omega (arith, low))
one_is (keeps Confirm) low = absurd (omega (arith, low))
one_is marks low = absurd (omega (arith, low))

module _ (head : List ℕ) (i : Item) (fit : IsFit i) (is : head ≡ head_of (spelled_item i)) where
  pub shows_many : get_or head 0 0 ≡ 6 → number_shown head ≡ length (pushes_of i)
  shows_many six = ap number_shown is ∙ many_is i fit (sym (ap (λ h. get_or h 0 0) is) ∙ six)

  pub shows_none : 3 < get_or head 0 0 → (get_or head 0 0 ≡ 6 → ⊥) → 0 ≡ length (pushes_of i)
  shows_none above not = none_is i (subst (λ h. 3 < get_or h 0 0) is above) (λ six. not (ap (λ h. get_or h 0 0) is ∙ six))

  pub shows_one : get_or head 0 0 ≤ 3 → 1 ≡ length (pushes_of i)
  shows_one low = one_is i (subst (λ h. get_or h 0 0 ≤ 3) is low)

-- ---- how many entries stand before an item

before_none : (n : ℕ) → entries_before [] n ≡ 0
before_none zero = refl
before_none (suc n) = refl

pub before_order : (items : List Item) (a b : ℕ) → a ≤ b → entries_before items a ≤ entries_before items b
before_order [] a b le = omega (arith, before_none a)
before_order (x ∷ items) zero b le = omega arith
before_order (x ∷ items) (suc a) zero le = absurd (omega (arith, le))
before_order (x ∷ items) (suc a) (suc b) le = omega (arith, before_order items a b (omega (arith, le)), length-append (pushes_of x) (pushed (take a items)), length-append (pushes_of x) (pushed (take b items)))

before_all : (items : List Item) (n : ℕ) → length items ≤ n → entries_before items n ≡ length (pushed items)
before_all items n le = ap (λ l. length (pushed l)) (take_all n items le)

before_most : (items : List Item) (n : ℕ) → entries_before items n ≤ length (pushed items)
before_most items n = omega (arith, before_order items n (n + length items) (omega arith), before_all items (n + length items) (omega arith))

-- an item's entries stand after those before it
pushed_at : (items : List Item) (index : ℕ) (i : Item) (nth : ℕ) (entry : Entry) → slice_get items index ≡ Some i → slice_get (pushes_of i) nth ≡ Some entry → slice_get (pushed items) (entries_before items index + nth) ≡ Some entry
pushed_at [] index i nth entry is at = absurd (subst (λ o. IfSome o (λ z. ⊥)) is tt)
pushed_at (x ∷ items) zero i nth entry is at =
    let same : x ≡ i = subst (λ o. IfSome o (λ z. x ≡ z)) is refl in
    let none : 0 + nth ≡ nth = omega arith in
    ap (slice_get (pushes_of x ++ pushed items)) none ∙ get_front (pushes_of x) (pushed items) nth entry (subst (λ z. slice_get (pushes_of z) nth ≡ Some entry) (sym same) at)
pushed_at (x ∷ items) (suc index) i nth entry is at =
    let place : entries_before (x ∷ items) (suc index) + nth ≡ length (pushes_of x) + (entries_before items index + nth) = omega (arith, length-append (pushes_of x) (pushed (take index items))) in
    ap (slice_get (pushes_of x ++ pushed items)) place ∙ get_past (pushes_of x) (pushed items) (entries_before items index + nth) ∙ pushed_at items index i nth entry is at

-- ---- a record on the way

module _ (items : List Item) (s : Spot) (end target : ℕ) (of : IsSpotOf items s) (order : s.before ≤ target) (above : target < entries_before items end) where
  pub before_end : end ≤ s.cursor.index → ⊥
  before_end le = let most = before_order items end s.cursor.index le in absurd (omega (arith, of.before, order, above, most))

  pub inside : s.cursor.index < length items
  inside = elim (cases_lt s.cursor.index (length items)) [
    | inl lt ↦ lt
    | inr le ↦ (
        let all = before_all items s.cursor.index le in
        let most = before_most items end in
        absurd (omega (arith, of.before, order, above, all, most)))
  ]

module _ (count : ℕ) (payloads : List (List ℕ)) (items : List Item) (first : StandFirst count payloads items) (s : Spot) (of : IsSpotOf items s) (lt : s.cursor.index < length items) where
  abbrev pub item : Item
  item = (splits items s.cursor.index lt).item

  item_at : slice_get items s.cursor.index ≡ Some item
  item_at = (splits items s.cursor.index lt).there

  pub item_fits : IsFit item
  item_fits = fits_at new_content items s.cursor.index item first.each item_at

  payload_at : slice_get payloads s.cursor.index ≡ Some (spelled_item item)
  payload_at = ap (λ l. slice_get l s.cursor.index) first.is ∙ get_front (map spelled_item items) first.later s.cursor.index (spelled_item item) (get_map spelled_item items s.cursor.index item item_at)

  pub payload_is : (payload : List ℕ) → slice_get payloads s.cursor.index ≡ Some payload → payload ≡ spelled_item item
  payload_is payload there = subst (λ o. IfSome o (λ p. payload ≡ p)) (sym there ∙ payload_at) refl

  next_before : entries_before items (s.cursor.index + 1) ≡ s.before + length (pushes_of item)
  next_before =
      let next : s.cursor.index + 1 ≡ suc s.cursor.index = omega arith in
      let more : entries_before items (s.cursor.index + 1) ≡ length (pushed (take s.cursor.index items) ++ pushes_of item) =
      ap (entries_before items) next ∙ ap (λ l. length (pushed l)) (take_more items s.cursor.index item item_at) ∙ ap length (pushed_push (take s.cursor.index items) item) in
      omega (arith, more, of.before, length-append (pushed (take s.cursor.index items)) (pushes_of item))

  pub next_of : (after : Spot) (n : ℕ) → n ≡ length (pushes_of item) → after.cursor.index ≡ s.cursor.index + 1 → (s.before + n < 2 ^ 64 → after.before ≡ s.before + n) → length (pushed items) < 2 ^ 64 → IsSpotOf items after
  next_of after n same index before small =
      let most = before_most items (s.cursor.index + 1) in
      let next = next_before in
      let is : after.before ≡ s.before + n = before (omega (arith, most, next, same, small)) in
      record {
        within = omega (arith, index, lt);
        before = is ∙ ap (λ m. s.before + m) same ∙ sym next ∙ ap (entries_before items) (sym index);
      }

  pub is_here : (f : Found) (target n : ℕ) → f.at ≡ s → f.nth ≡ target - s.before → s.before ≤ target → n ≡ length (pushes_of item) → target - s.before < n → (payload : List ℕ) → slice_get payloads s.cursor.index ≡ Some payload → IsAt items target payload f
  is_here f target n same is order long below payload there =
      let nth = splits (pushes_of item) (target - s.before) (omega (arith, long, below)) in
      let place : target ≡ entries_before items s.cursor.index + (target - s.before) = omega (arith, order, of.before) in
      let next = next_before in
      let index : f.at.cursor.index ≡ s.cursor.index = ap (λ (z : Spot). z.cursor.index) same in
      record {
        entry = nth.item;
        at = ap (slice_get (pushed items)) place ∙ pushed_at items s.cursor.index item (target - s.before) nth.item item_at nth.there;
        part = record { item = item; fit = item_fits; is = payload_is payload there; there = ap (slice_get (pushes_of item)) is ∙ nth.there };
        from = subst (λ m. entries_before items m ≤ target) (sym index) (omega (arith, order, of.before));
        to = subst (λ m. target < entries_before items (m + 1)) (sym index) (omega (arith, next, order, long, below));
      }

  -- it isn't here, so it isn't in this record
  pub not_here : (target n : ℕ) → s.before ≤ target → n ≡ length (pushes_of item) → (target - s.before < n → ⊥) → target < entries_before items (s.cursor.index + 1) → ⊥
  not_here target n order long not below = let next = next_before in not (omega (arith, next, order, long, below))

-- ---- from a number to a record

entry_of : (out : List Entry) (m : ℕ) (entry : Entry) → slice_get out m ≡ Some entry → IsEntry out (suc m) entry
entry_of [] m entry is = absurd (subst (λ o. IfSome o (λ z. ⊥)) is tt)
entry_of (x ∷ out) zero entry is = record { before = []; after = out; is = ap (λ z. z ∷ out) (subst (λ o. IfSome o (λ z. x ≡ z)) is refl); place = refl }
entry_of (x ∷ out) (suc m) entry is =
    let found = entry_of out m entry is in
    record { before = x ∷ found.before; after = found.after; is = ap (λ l. x ∷ l) found.is; place = omega (arith, found.place) }

module _ (items : List Item) (c : Counted) (out : List Entry) (is : IsCountOf items c out) where
  pub found_number : (number target : ℕ) → 1 ≤ number → number ≤ c.last → target ≡ c.total - (c.last - number) - 1 → (payload : List ℕ) (f : Found) → IsAt items target payload f → IsFoundAt items out number payload f
  found_number number target first last place payload f at =
      let long = ap length is.is in
      let next : suc (number - 1) ≡ number = omega (arith, first) in
      let here : target ≡ length is.front + (number - 1) = omega (arith, place, first, last, is.total, is.last, long, length-append is.front out) in
      let there : slice_get out (number - 1) ≡ Some at.entry = sym (get_past is.front out (number - 1)) ∙ ap (slice_get (is.front ++ out)) (sym here) ∙ ap (λ l. slice_get l target) (sym is.is) ∙ at.at in
      record {
        entry = at.entry;
        at = subst (λ m. IsEntry out m at.entry) next (entry_of out (number - 1) at.entry there);
        part = at.part;
        stands = record { front = is.front; is = is.is; from = omega (arith, here, at.from); to = omega (arith, here, at.to) };
      }

  -- where an entry stands, in entries before it
  pub target_in : (number target k : ℕ) → 1 ≤ number → number ≤ c.last → target ≡ c.total - (c.last - number) - 1 → StandsIn items out number k → (entries_before items k ≤ target) × (target < entries_before items (k + 1))
  target_in number target k first last place stands =
      let long = ap length stands.is in
      let here : target ≡ length stands.front + (number - 1) = omega (arith, place, first, last, is.total, is.last, long, length-append stands.front out) in
      (omega (arith, here, stands.from), omega (arith, here, stands.to))

  module _ (records target k : ℕ) (few : length items ≤ records) (below : target < c.total) (mark : IsMark c.before target k) (inside : k < length c.before) where
    pub mark_of : (s : Spot) → s.cursor.index ≡ 64 * k → slice_get c.before k ≡ Some s.before → IsSpotOf items s
    mark_of s index before = record {
      within = omega (arith, index, inside, is.long);
      before = subst (λ o. IfSome o (λ n. s.before ≡ n)) (sym before ∙ is.each k inside) refl ∙ ap (entries_before items) (sym index);
    }

    pub mark_above : target < entries_before items (min (64 * k + 64) records)
    mark_above = elim (cases_lt (k + 1) (length c.before)) [
      | inl lt ↦ (
          let place : min (64 * k + 64) records ≡ 64 * (k + 1) = omega (arith, lt, is.long, few) in
          subst (λ n. target < entries_before items n) (sym place) (mark.above (entries_before items (64 * (k + 1))) (is.each (k + 1) lt)))
      | inr le ↦ (
          let all = before_all items (min (64 * k + 64) records) (omega (arith, le, is.long, few)) in
          omega (arith, all, below, is.total))
    ]

-- one of several spots of these items is one
pub one_of : (items : List Item) (marked : Spot) (near : Option Found) (s : Spot) → IsSpotOf items marked → IfSome near (AreSpotsOf items) → IsOneOf marked near s → IsSpotOf items s
one_of items marked near s is all (inl same) = subst (IsSpotOf items) (sym same) is
one_of items marked near s is all (inr other) =
    let both = subst (λ o. IfSome o (AreSpotsOf items)) other.1 all in
    elim other.2 [
      | inl same ↦ subst (IsSpotOf items) (sym same) both.at
      | inr same ↦ subst (IsSpotOf items) (sym same) both.after
    ]

-- a record that can be reached, and stands before no nearer one, is that of the entry
pub spot_is : (items : List Item) (s : Spot) (target k : ℕ) → IsSpotOf items s → s.before ≤ target → target < entries_before items (k + 1) → k ≤ s.cursor.index → s.cursor.index ≡ k
spot_is items s target k of order to le = elim (cases_lt k s.cursor.index) [
  | inl past ↦ (
      let most = before_order items (k + 1) s.cursor.index (omega (arith, past)) in
      absurd (omega (arith, most, of.before, order, to)))
  | inr at ↦ omega (arith, le, at)
]

pub nearest_is : (items : List Item) (marked : Spot) (near : Option Found) (f : Found) (s : Spot) (target k : ℕ) → near ≡ Some f → AreSpotsOf items f → IsSpotOf items s → IsNearest marked near target s → entries_before items k ≤ target → target < entries_before items (k + 1) → f.at.cursor.index ≤ k → k ≤ f.at.cursor.index + 1 → s.cursor.index ≡ k
nearest_is items marked near f s target k is both of nearest from to low high = elim (cases_lt f.at.cursor.index k) [
  | inl past ↦ (
      let at : f.after.cursor.index ≡ k = omega (arith, both.next, past, high) in
      let before : f.after.before ≤ target = omega (arith, both.after.before ∙ ap (entries_before items) at, from) in
      let reached = nearest.after f is before in
      spot_is items s target k of nearest.before to (omega (arith, reached, at)))
  | inr same ↦ (
      let at : f.at.cursor.index ≡ k = omega (arith, low, same) in
      let after : f.after.cursor.index ≡ k + 1 = omega (arith, both.next, at) in
      let not_past : target < f.after.before = omega (arith, both.after.before ∙ ap (entries_before items) after, to) in
      let before : f.at.before ≤ target = omega (arith, both.at.before ∙ ap (entries_before items) at, from) in
      let reached = nearest.at f is not_past before in
      spot_is items s target k of nearest.before to (omega (arith, reached, at)))
]

-- ---- looking at records

pub one_on : {D : Type 0} (disk : D → DiskSeen) (journal : JournalSeen D) (marked : Spot) (near : Option Found) (s : Spot) → IsSpotOn disk journal marked → IfSome near (AreSpotsOn disk journal) → IsOneOf marked near s → IsSpotOn disk journal s
one_on disk journal marked near s is all (inl same) = subst (IsSpotOn disk journal) (sym same) is
one_on disk journal marked near s is all (inr other) =
    let both = subst (λ o. IfSome o (AreSpotsOn disk journal)) other.1 all in
    elim other.2 [
      | inl same ↦ subst (IsSpotOn disk journal) (sym same) both.at
      | inr same ↦ subst (IsSpotOn disk journal) (sym same) both.after
    ]

module _ {D : Type 0} (disk : D → DiskSeen) (old mid : JournalSeen D) (s : Spot) (p : Peek) (n : ℕ) (same : LeavesAsIs (disk old.disk) (disk mid.disk)) (still : mid.stopped ≡ false) (shows : IsPeek disk mid s.cursor p) (counts : (i : Item) → IsFit i → p.head ≡ head_of (spelled_item i) → n ≡ length (pushes_of i))
    (payloads : List (List ℕ)) (items : List Item) (holds : Holds (disk old.disk) payloads) (first : StandFirst old.count payloads items) (of : IsSpotOf items s) (lt : s.cursor.index < length items) where
  pub holds_mid : Holds (disk mid.disk) payloads
  holds_mid = (holds.0, same.bytes ∙ holds.1, holds.2)

  pub looked : n ≡ length (pushes_of (item old.count payloads items first s of lt))
  looked =
      let shown = shows still payloads holds_mid in
      let head = shown.2.1 ∙ ap head_of (payload_is old.count payloads items first s of lt shown.0 shown.1) in
      counts (item old.count payloads items first s of lt) (item_fits old.count payloads items first s of lt) head

-- what follows of an answer
pub ok_so : {T E : Type 0} (answer : Result T E) (P Q : T → Type 0) → ((x : T) → P x → Q x) → IfOk answer P → IfOk answer Q
ok_so (Ok x) P Q so p = so x p
ok_so (Err e) P Q so p = tt
