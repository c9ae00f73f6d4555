-- The payloads of entries one after another.
use Rattle.std.proofs.Common.{◌≡◌, ◌↔◌, ℕ, ◌+◌, ◌-◌, ◌<◌, ◌≤◌, zero, suc, Bool, false, List, [], ◌∷◌, ◌++◌, length, take, drop, Some, refl, sym, ◌∙◌, ap, subst, arith, append_assoc, append-nil, true≢false, get_or}
use Rattle.std.specs.Prelude.{slice_get, IfSome, IsTrue}
use Rattle.std.specs.Int.{w32, to_be_bytes}
use Rattle.std.specs.List.{AllByRecursion}
use Rattle.fix_base.specs.declared.entry.Entry.{Entry}
use Rattle.fix_base.specs.Payload.{HasPayload, IsManyPayload}
use Rattle.fix_journal.specs.Payloads.{size_in}
use Rattle.fix_base.specs.declared.entry.By.TheVariants.{Caller, Engine}
use Rattle.fix_base.specs.declared.entry.Entry.TheVariants.{App, Admin}
use Rattle.fix_base.specs.declared.entry.Record.TheVariants.{Push, Expect, Many, Withhold, Reset, ResetAsk, Confirm}
use Rattle.fix_store.specs.Ends.{entries_in}
use Rattle.fix_store.specs.Spelling.{spelled_entry, spelled_entries, spelled_many, spelled, Item, keeps, marks, spelled_item}
use Rattle.fix_store.specs.Folding.{HasManyCounts, AreEntries, IsFit, pushes_of}
use Rattle.fix_store.proofs.Spellings.{small_entry, part_there, later_there, length_many, back_entries}

-- bytes with their length before them, and others after them
abbrev pub with_size : List ℕ → List ℕ → List ℕ
with_size part later = to_be_bytes w32 (length part) ++ (part ++ later)

abbrev pub HasNoPart : List ℕ → Type 0
HasNoPart bytes = (part later : List ℕ) → length part < 4294967296 → bytes ≡ with_size part later → ⊥

-- what stands at the front is one
pub one_part : (p x q y : List ℕ) → length p < 4294967296 → length q < 4294967296 → with_size p x ≡ with_size q y → p ≡ q
one_part p x q y small small' same = sym (part_there p x small) ∙ ap (λ b. take (size_in b) (drop 4 b)) same ∙ part_there q y small'

pub one_later : (p x q y : List ℕ) → length p < 4294967296 → length q < 4294967296 → with_size p x ≡ with_size q y → x ≡ y
one_later p x q y small small' same = sym (later_there p x small) ∙ ap (λ b. drop (size_in b) (drop 4 b)) same ∙ later_there q y small'

pub further : (n first w r : List ℕ) → n ++ (first ++ (w ++ r)) ≡ (n ++ (first ++ w)) ++ r
further n first w r = sym (append_assoc n (first ++ w) r ∙ ap (λ l. n ++ l) (append_assoc first w r))

none_there : {A : Type 0} (n : ℕ) (x : A) {P : Type 0} → slice_get [] n ≡ Some x → P
none_there n x is = absurd (subst (λ o. IfSome o (λ z. ⊥)) is tt)

-- ---- whether bytes are so many

no_entries : (bytes : List ℕ) → HasNoPart bytes → (count : ℕ) → (count ≡ 0 → ⊥) → (es : List Entry) → length es ≡ count → AllByRecursion HasPayload es → bytes ≡ spelled_entries es → ⊥
no_entries bytes absent count some [] many each is = some (sym many)
no_entries bytes absent count some (e ∷ es) many each is = absent (spelled_entry e) (spelled_entries es) (small_entry e each.0) is

pub are_none : (bytes : List ℕ) (count : ℕ) → HasNoPart bytes → (count ≡ 0 → ⊥) → IsTrue false ↔ AreEntries count bytes
are_none bytes count absent some = (λ not. absurd (true≢false (sym not)), λ are. absurd (no_entries bytes absent count some are.entries are.many are.each are.is))

module _ (bytes first later : List ℕ) (count : ℕ) (some : count ≡ 0 → ⊥) (small : length first < 4294967296) (is : bytes ≡ with_size first later) where
  bad_entries : ((e : Entry) → HasPayload e → first ≡ spelled_entry e → ⊥) → (es : List Entry) → length es ≡ count → AllByRecursion HasPayload es → bytes ≡ spelled_entries es → ⊥
  bad_entries bad [] many each same = some (sym many)
  bad_entries bad (e ∷ es) many each same = bad e each.0 (one_part first later (spelled_entry e) (spelled_entries es) small (small_entry e each.0) (sym is ∙ same))

  pub are_bad : ((e : Entry) → HasPayload e → first ≡ spelled_entry e → ⊥) → IsTrue false ↔ AreEntries count bytes
  are_bad bad = (λ not. absurd (true≢false (sym not)), λ are. absurd (bad_entries bad are.entries are.many are.each are.is))

  others : (es : List Entry) → length es ≡ count → AllByRecursion HasPayload es → bytes ≡ spelled_entries es → AreEntries (count - 1) later
  others [] many each same = absurd (some (sym many))
  others (e ∷ es) many each same = record {
    entries = es;
    many = omega (arith, many);
    each = each.1;
    is = one_later first later (spelled_entry e) (spelled_entries es) small (small_entry e each.0) (sym is ∙ same);
  }

  pub are_more : (e : Entry) → HasPayload e → first ≡ spelled_entry e → (found : Bool) → (IsTrue found ↔ AreEntries (count - 1) later) → IsTrue found ↔ AreEntries count bytes
  are_more e fits first_is found rest = (
    λ so. (
        let are = rest.0 so in
        record {
          entries = e ∷ are.entries;
          many = omega (arith, are.many, some);
          each = (fits, are.each);
          is = is ∙ (λ i. with_size (first_is i) (are.is i));
        }),
    λ are. rest.1 (others are.entries are.many are.each are.is),
  )

-- ---- the entry of a place

pub nth_none : (bytes : List ℕ) (nth : ℕ) → HasNoPart bytes → (es : List Entry) (e : Entry) → AllByRecursion HasPayload es → bytes ≡ spelled_entries es → slice_get es nth ≡ Some e → ⊥
nth_none bytes nth absent [] e each is at = none_there nth e at
nth_none bytes nth absent (x ∷ es) e each is at = absent (spelled_entry x) (spelled_entries es) (small_entry x each.0) is

module _ (bytes first later : List ℕ) (small : length first < 4294967296) (is : bytes ≡ with_size first later) where
  pub nth_first : (nth : ℕ) → nth ≡ 0 → (es : List Entry) (e : Entry) → AllByRecursion HasPayload es → bytes ≡ spelled_entries es → slice_get es nth ≡ Some e → first ≡ spelled_entry e
  nth_first nth zero_is [] e each same at = none_there nth e at
  nth_first nth zero_is (x ∷ es) e each same at =
      one_part first later (spelled_entry x) (spelled_entries es) small (small_entry x each.0) (sym is ∙ same)
      ∙ ap spelled_entry (subst (λ o. IfSome o (λ z. x ≡ z)) (ap (slice_get (x ∷ es)) (sym zero_is) ∙ at) refl)

  pub nth_later : (nth : ℕ) → (nth ≡ 0 → ⊥) → (found : List ℕ) → ((es : List Entry) (e : Entry) → AllByRecursion HasPayload es → later ≡ spelled_entries es → slice_get es (nth - 1) ≡ Some e → found ≡ spelled_entry e)
      → (es : List Entry) (e : Entry) → AllByRecursion HasPayload es → bytes ≡ spelled_entries es → slice_get es nth ≡ Some e → found ≡ spelled_entry e
  nth_later nth some found rest [] e each same at = none_there nth e at
  nth_later zero some found rest (x ∷ es) e each same at = absurd (some refl)
  nth_later (suc n) some found rest (x ∷ es) e each same at =
      let before : suc n - 1 ≡ n = omega arith in
      rest es e each.1 (one_later first later (spelled_entry x) (spelled_entries es) small (small_entry x each.0) (sym is ∙ same)) (ap (slice_get es) before ∙ at)

-- ---- an entry of a record

-- the first byte tells a record of several entries
pub first_byte : (e : Entry) → get_or (spelled_entry e) 0 0 ≡ 6 → ⊥
first_byte (App time Caller body) is = omega (arith, is)
first_byte (App time Engine body) is = omega (arith, is)
first_byte (Admin time kind about) is = omega (arith, is)

-- of a record of one entry, or of another
pub single_part : (payload : List ℕ) (nth : ℕ) → (9 ≤ length payload → get_or payload 0 0 ≡ 6 → ⊥) → (i : Item) (e : Entry) → IsFit i → payload ≡ spelled_item i → slice_get (pushes_of i) nth ≡ Some e → payload ≡ spelled_entry e
single_part payload zero alone (keeps (Push entry)) e fit is at = is ∙ ap spelled_entry (subst (λ o. IfSome o (λ z. entry ≡ z)) at refl)
single_part payload (suc n) alone (keeps (Push entry)) e fit is at = none_there n e at
single_part payload nth alone (keeps (Many pushes number)) e fit is at = absurd (alone (omega (arith, ap length is, length_many pushes number)) (ap (λ l. get_or l 0 0) is))
single_part payload nth alone (keeps (Expect number)) e fit is at = none_there nth e at
single_part payload nth alone (keeps (Withhold number)) e fit is at = none_there nth e at
single_part payload nth alone (keeps (Reset time)) e fit is at = none_there nth e at
single_part payload nth alone (keeps (ResetAsk time)) e fit is at = none_there nth e at
single_part payload nth alone (keeps Confirm) e fit is at = none_there nth e at
single_part payload nth alone marks e fit is at = none_there nth e at

-- of a record of several
pub many_part : (payload : List ℕ) (nth : ℕ) (part : List ℕ) → get_or payload 0 0 ≡ 6 → ((es : List Entry) (e : Entry) → AllByRecursion HasPayload es → drop 9 payload ≡ spelled_entries es → slice_get es nth ≡ Some e → part ≡ spelled_entry e)
    → (i : Item) (e : Entry) → IsFit i → payload ≡ spelled_item i → slice_get (pushes_of i) nth ≡ Some e → part ≡ spelled_entry e
many_part payload nth part six found (keeps (Push entry)) e fit is at = absurd (first_byte entry (sym (ap (λ l. get_or l 0 0) is) ∙ six))
many_part payload nth part six found (keeps (Many pushes number)) e fit is at = found pushes e fit.each (ap (drop 9) is) at
many_part payload nth part six found (keeps (Expect number)) e fit is at = none_there nth e at
many_part payload nth part six found (keeps (Withhold number)) e fit is at = none_there nth e at
many_part payload nth part six found (keeps (Reset time)) e fit is at = none_there nth e at
many_part payload nth part six found (keeps (ResetAsk time)) e fit is at = none_there nth e at
many_part payload nth part six found (keeps Confirm) e fit is at = none_there nth e at
many_part payload nth part six found marks e fit is at = none_there nth e at

-- ---- a record of several entries

-- its counts and its entries
pub record HasParts (rest : List ℕ) (count expect : ℕ) (entries : List ℕ) : Type 0 where
  pub count_fits : count < 4294967296
  pub expect_fits : expect < 4294967296
  pub is : rest ≡ to_be_bytes w32 count ++ (to_be_bytes w32 expect ++ entries)

-- it is no longer than a journal's payload
pub too_long : (rest : List ℕ) → 1114111 < length rest → (pushes : List Entry) (number : ℕ) → IsManyPayload pushes number → rest ≡ spelled_many pushes number → ⊥
too_long rest long pushes number fits same = omega (arith, long, ap length same, length_many pushes number, fits.short)

-- what was read is such a record
pub many_read : (rest : List ℕ) (count expect : ℕ) (entries : List ℕ) → HasParts rest count expect entries → length rest ≤ 1114111 → HasManyCounts count expect → AreEntries count entries
    → IsManyPayload (entries_in count entries) expect × (6 ∷ rest ≡ spelled (Many (entries_in count entries) expect))
many_read rest count expect entries parts short counts are =
    let es = are.entries in
    let read : entries_in count entries ≡ es = ap (λ l. entries_in count l) are.is ∙ ap (λ n. entries_in n (spelled_entries es)) (sym are.many) ∙ back_entries es are.each in
    let is : rest ≡ spelled_many es expect = parts.is ∙ (λ i. to_be_bytes w32 (sym are.many i) ++ (to_be_bytes w32 expect ++ are.is i)) in
    let fits : IsManyPayload es expect = record {
      each = are.each;
      some = omega (arith, are.many, counts.some);
      few = omega (arith, are.many, counts.few);
      two = λ none. omega (arith, are.many, counts.two none);
      number_fits = counts.fits;
      short = omega (arith, short, ap length is, length_many es expect);
    } in
    (subst (λ l. IsManyPayload l expect) (sym read) fits, subst (λ l. 6 ∷ rest ≡ spelled (Many l expect)) (sym read) (ap (λ l. 6 ∷ l) is))

-- ---- writing entries

-- one entry more
pub entries_more : (es : List Entry) (i : ℕ) (e : Entry) → i < length es → e ≡ get_or es i e → spelled_entries (take (i + 1) es) ≡ spelled_entries (take i es) ++ (to_be_bytes w32 (length (spelled_entry e)) ++ spelled_entry e)
entries_more [] i e lt is = absurd (omega (arith, lt))
entries_more (x ∷ es) zero e lt is = append-nil (to_be_bytes w32 (length (spelled_entry x)) ++ spelled_entry x) ∙ ap (λ z. to_be_bytes w32 (length (spelled_entry z)) ++ spelled_entry z) (sym is)
entries_more (x ∷ es) (suc i) e lt is =
    let next : suc i + 1 ≡ suc (i + 1) = omega arith in
    let n = to_be_bytes w32 (length (spelled_entry x)) in
    ap (λ k. spelled_entries (take k (x ∷ es))) next
    ∙ ap (λ l. n ++ (spelled_entry x ++ l)) (entries_more es i e (omega (arith, lt)) is)
    ∙ further n (spelled_entry x) (spelled_entries (take i es)) (to_be_bytes w32 (length (spelled_entry e)) ++ spelled_entry e)
