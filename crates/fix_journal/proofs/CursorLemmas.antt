-- Where the record of an index stands in a journal's file, and what its first bytes show.
use Rattle.std.proofs.Common.{◌≡◌, inl, inr, ℕ, ◌+◌, ◌-◌, ◌<◌, ◌≤◌, min, zero, suc, false, List, [], ◌∷◌, ◌++◌, length, take, drop, get_or, Some, Result, Ok, Err, refl, sym, ◌∙◌, ap, subst, arith, append_assoc, length-append, take-append-drop}
use Rattle.std.specs.Prelude.{slice_get, IsSome, IfSome, OnOk, is_some}
use Rattle.std.specs.Int.{w32, to_be_bytes, from_be_bytes}
use Rattle.std.proofs.Math.Seq.{take-suc}
use Rattle.std.proofs.lemmas.Bool.{cases_eq}
use Rattle.std.proofs.lemmas.Nat.{from_be_bytes-to_be_bytes_4}
use Rattle.std.proofs.lemmas.List.{take_at, drop_at, drop_more, drop-drop, drop-take, take-take, get_or-take, get_or-drop, get_or_append_left}
use Rattle.std.proofs.lemmas.Option.{slice_get-get_or, slice_get_within}
use Rattle.fix_journal.specs.Format.{OPEN, NAME, body_of, recorded, front, IsJournal}
use Rattle.fix_disk.specs.Disk.{DiskSeen, HasRange}
use Rattle.fix_disk.specs.declared.disk.DiskFailed.{DiskFailed}
use Rattle.fix_journal.specs.Journal.{IsSound, Holds}
use Rattle.fix_journal.specs.declared.index.Index.{Index}
use Rattle.fix_journal.specs.Index.{IsLimit}
use Rattle.fix_journal.specs.Cursors.{Gives, IsShortRead, Lies, Begins}
use Rattle.fix_journal.proofs.SoundLemmas.{some_same, told_case, holds_of, rested}
use Rattle.fix_journal.proofs.Gates.{length-front}
use Rattle.fix_journal.proofs.HeadLemmas.{size_of}

recorded-append : (ps qs : List (List ℕ)) → recorded (ps ++ qs) ≡ recorded ps ++ recorded qs
recorded-append [] qs = refl
recorded-append (p ∷ ps) qs = ap (λ l. OPEN ∷ (body_of p ++ l)) (recorded-append ps qs) ∙ ap (λ l. OPEN ∷ l) (sym (append_assoc (body_of p) (recorded ps) (recorded qs)))

-- more records take more bytes
grows : (ps : List (List ℕ)) (i n : ℕ) → i ≤ n → length (recorded (take i ps)) ≤ length (recorded (take n ps))
grows ps zero n le = omega arith
grows [] (suc i) n le = omega arith
grows (p ∷ ps) (suc i) zero le = absurd (omega (arith, le))
grows (p ∷ ps) (suc i) (suc n) le = omega (arith, grows ps i n (omega (arith, le)), length-append (body_of p) (recorded (take i ps)), length-append (body_of p) (recorded (take n ps)))

no_more_than_all : (ps : List (List ℕ)) (n : ℕ) → length (recorded (take n ps)) ≤ length (recorded ps)
no_more_than_all ps zero = omega arith
no_more_than_all [] (suc n) = omega arith
no_more_than_all (p ∷ ps) (suc n) = omega (arith, no_more_than_all ps n, length-append (body_of p) (recorded (take n ps)), length-append (body_of p) (recorded ps))

-- the record of this index, which ends where the next one begins, and at a limit or before it
pub record Found (file : List ℕ) (payloads : List (List ℕ)) (index place limit : ℕ) : Type 0 where
  pub payload : List ℕ
  pub is : slice_get payloads index ≡ Some payload
  pub lies : Lies file place limit payload
  pub next : length (front (take (suc index) payloads)) ≡ place + 5 + length payload

pub found : (file : List ℕ) (ps : List (List ℕ)) → IsJournal file ps → (index n : ℕ) → index < length ps → index < n → Found file ps index (length (front (take index ps))) (length (front (take n ps)))
found file ps j index n lt further =
    let p = get_or ps index [] in
    let first = take index ps in
    let last = drop (index + 1) ps in
    let split : ps ≡ first ++ p ∷ last = sym (take-append-drop index ps) ∙ ap (λ l. first ++ l) (drop_more ps index [] lt) in
    let later = recorded last ++ j.gate ∷ j.behind in
    let rest : recorded ps ++ j.gate ∷ j.behind ≡ recorded first ++ OPEN ∷ (body_of p ++ later) =
    ap (λ l. recorded l ++ j.gate ∷ j.behind) split
    ∙ ap (λ l. l ++ j.gate ∷ j.behind) (recorded-append first (p ∷ last))
    ∙ append_assoc (recorded first) (OPEN ∷ (body_of p ++ recorded last)) (j.gate ∷ j.behind)
    ∙ ap (λ l. recorded first ++ OPEN ∷ l) (append_assoc (body_of p) (recorded last) (j.gate ∷ j.behind)) in
    let whole : file ≡ front first ++ OPEN ∷ (body_of p ++ later) = j.is ∙ ap (λ l. OPEN ∷ (NAME ++ l)) rest in
    let more : length (front (take (suc index) ps)) ≡ length (front first) + 5 + length p =
    omega (arith, length-front (take (suc index) ps), length-front first, ap (λ l. length (recorded l)) (take-suc ps index [] lt), ap length (recorded-append first (p ∷ [])), length-append (recorded first) (recorded (p ∷ [])), length-append (body_of p) [], length-append (to_be_bytes w32 (length p)) p) in
    record {
      payload = p;
      is = slice_get-get_or ps index [] lt;
      lies = record {
        later = later;
        is = ap (drop (length (front first))) whole ∙ drop_at (front first) (OPEN ∷ (body_of p ++ later)) (length (front first)) refl;
        fits = j.each index [] lt;
        within = omega (arith, more, grows ps (suc index) n (omega (arith, further)), length-front (take (suc index) ps), length-front (take n ps));
        inside = omega (arith, length-front (take n ps), no_more_than_all ps n, length-front ps, ap length j.is, length-append (front ps) (j.gate ∷ j.behind));
      };
      next = more;
    }

-- the payload is after the gate and the length
pub payload_there : (file payload : List ℕ) (place limit start count : ℕ) → Lies file place limit payload → start ≡ place + 5 → count ≡ length payload → take count (drop start file) ≡ payload
payload_there file payload place limit start count lies start_is count_is =
    let size = to_be_bytes w32 (length payload) in
    ap (λ n. take n (drop start file)) count_is
    ∙ ap (λ n. take (length payload) (drop n file)) start_is
    ∙ ap (take (length payload)) (sym (drop-drop 5 place file) ∙ ap (drop 5) lies.is ∙ ap (λ l. drop 5 (OPEN ∷ l)) (append_assoc size payload lies.later) ∙ drop_at (OPEN ∷ size) (payload ++ lies.later) 5 refl)
    ∙ take_at payload lies.later (length payload) refl

-- a place is that of a record, and a limit is that of a gate after it, of whatever records a disk tells
pub record IsAtRecord (seen : DiskSeen) (index place limit : ℕ) : Type 0 where
  pub told : IsSome seen.bytes → (payloads : List (List ℕ)) × Holds seen payloads
  pub there : (payloads : List (List ℕ)) → Holds seen payloads → (index < length payloads) × (place ≡ length (front (take index payloads))) × IsLimit payloads index limit

-- a cursor at a record of an open journal, by what was read of it
pub at_cursor : (seen : DiskSeen) (kept : Index) → IsSound seen kept false → (index place i p limit : ℕ) → i ≡ index → p ≡ place → index < kept.count
    → ((payloads : List (List ℕ)) → Holds seen payloads → place ≡ length (front (take index payloads))) → ((payloads : List (List ℕ)) → Holds seen payloads → IsLimit payloads i limit) → IsAtRecord seen index p limit
at_cursor seen kept sound index place i p limit i_is p_is lt stands limited = record {
  told = λ some. holds_of seen kept sound some;
  there = λ payloads holds.
      let r = rested seen kept sound payloads holds in
      (omega (arith, lt, r.1.count), p_is ∙ stands payloads holds, subst (λ n. IsLimit payloads n limit) i_is (limited payloads holds));
}

module _ (seen : DiskSeen) (index place limit : ℕ) (at : IsAtRecord seen index place limit) where
  pub found_at : (payloads : List (List ℕ)) (holds : Holds seen payloads) → Found holds.0 payloads index place limit
  found_at payloads holds =
      let there = at.there payloads holds in
      let n = there.2 in
      subst (λ p. Found holds.0 payloads index p limit) (sym there.1)
      (subst (λ l. Found holds.0 payloads index (length (front (take index payloads))) l) (sym n.2) (found holds.0 payloads holds.2 index n.0 there.0 n.1))

  pub range : HasRange seen.bytes place (limit - place)
  range = told_case seen.bytes (λ file. place + (limit - place) ≤ length file) (λ file is.
      let some = at.told (ap is_some is) in
      let there = found_at some.0 some.1 in
      omega (arith, there.lies.within, there.lies.inside, ap length (some_same some.1.0 file (sym some.1.1 ∙ is))))

  -- the payload alone
  pub payload_range : (start size : ℕ) → (place + 5 ≤ limit → start ≡ place + 5)
      → ((payloads : List (List ℕ)) → Holds seen payloads → (payload : List ℕ) → slice_get payloads index ≡ Some payload → place + 5 + length payload ≤ limit → size ≡ length payload) → HasRange seen.bytes start size
  payload_range start size start_is long = told_case seen.bytes (λ file. start + size ≤ length file) (λ file is.
      let some = at.told (ap is_some is) in
      let there = found_at some.0 some.1 in
      omega (arith, there.lies.within, there.lies.inside, ap length (some_same some.1.0 file (sym some.1.1 ∙ is)), long some.0 some.1 there.payload there.is there.lies.within, start_is (omega (arith, there.lies.within))))

  pub payload_read : (start : ℕ) (room : List ℕ) → (place + 5 ≤ limit → start ≡ place + 5)
      → ((payloads : List (List ℕ)) → Holds seen payloads → (payload : List ℕ) → slice_get payloads index ≡ Some payload → place + 5 + length payload ≤ limit → length room ≡ length payload)
      → IfSome seen.bytes (λ bytes. room ≡ take (length room) (drop start bytes)) → Gives seen index room
  payload_read start room start_is long reads payloads holds =
      let there = found_at payloads holds in
      let filled : room ≡ take (length room) (drop start holds.0) = subst (λ o. IfSome o (λ bytes. room ≡ take (length room) (drop start bytes))) holds.1 reads in
      there.is ∙ ap Some (sym (filled ∙ payload_there holds.0 there.payload place limit start (length room) there.lies (start_is (omega (arith, there.lies.within))) (long payloads holds there.payload there.is there.lies.within)))

  -- what holds of a payload that stands there
  pub each_there : (P : List ℕ → Type 0) → ((file payload : List ℕ) → seen.bytes ≡ Some file → Lies file place limit payload → P payload)
      → (payloads : List (List ℕ)) → Holds seen payloads → (payload : List ℕ) × (slice_get payloads index ≡ Some payload) × P payload
  each_there P each payloads holds =
      let there = found_at payloads holds in
      (there.payload, there.is, each holds.0 there.payload holds.1 there.lies)

  -- what was read is the payload there
  pub gives_each : (into : List ℕ) → ((file payload : List ℕ) → seen.bytes ≡ Some file → Lies file place limit payload → into ≡ payload) → Gives seen index into
  gives_each into each payloads holds =
      let there = found_at payloads holds in
      there.is ∙ ap Some (sym (each holds.0 there.payload holds.1 there.lies))

  pub gives_on_ok : {T : Type 0} (answer : Result T DiskFailed) (into : List ℕ) → ((file payload : List ℕ) → seen.bytes ≡ Some file → Lies file place limit payload → OnOk answer (into ≡ payload)) → OnOk answer (Gives seen index into)
  gives_on_ok (Ok x) into each = gives_each into each
  gives_on_ok (Err e) into each = tt

  pub short_there : (new : DiskSeen) → ((file payload : List ℕ) → seen.bytes ≡ Some file → Lies file place limit payload → length payload ≤ 4091 → IsSome seen.bytes → new.clock ≤ seen.clock + 1) → IsShortRead index seen new
  short_there new each payloads payload holds is few =
      let there = found_at payloads holds in
      let same : there.payload ≡ payload = some_same there.payload payload (sym there.is ∙ is) in
      each holds.0 there.payload holds.1 there.lies (omega (arith, few, ap length same)) (ap is_some holds.1)

pub one_payload : (payloads : List (List ℕ)) (index : ℕ) (p q : List ℕ) → slice_get payloads index ≡ Some p → slice_get payloads index ≡ Some q → p ≡ q
one_payload payloads index p q is also = some_same p q (sym is ∙ also)

-- the gate after a record
pub next_gate : (seen : DiskSeen) (payloads : List (List ℕ)) → Holds seen payloads → (index place limit next : ℕ) (payload : List ℕ) → slice_get payloads index ≡ Some payload → place ≡ length (front (take index payloads)) → IsLimit payloads index limit
    → (place + 5 + length payload ≤ limit → next ≡ place + (5 + length payload)) → next ≡ length (front (take (index + 1) payloads))
next_gate seen payloads holds index place limit next payload is at limited next_is =
    let there = found holds.0 payloads holds.2 index limited.0 (slice_get_within payloads index payload is) limited.1 in
    let same : there.payload ≡ payload = one_payload payloads index there.payload payload there.is is in
    let one : suc index ≡ index + 1 = omega arith in
    omega (arith, next_is (omega (arith, at, limited.2, there.lies.within, ap length same)), at, there.next, ap length same, ap (λ n. length (front (take n payloads))) one)

-- enough bytes from its gate on show it
pub begins : (file head payload : List ℕ) (place limit : ℕ) → Lies file place limit payload → 5 + min 5 (length payload) ≤ length head → head ≡ take (length head) (drop place file) → Begins head payload
begins file head payload place limit lies long is =
    let size = to_be_bytes w32 (length payload) in
    let all = (OPEN ∷ size) ++ (payload ++ lies.later) in
    let there : drop place file ≡ all = lies.is ∙ ap (λ l. OPEN ∷ l) (append_assoc size payload lies.later) in
    let shown : head ≡ take (length head) all = is ∙ ap (take (length head)) there in
    record {
      long = long;
      size = ap (take 5) shown ∙ take-take 5 (length head) all (omega (arith, long)) ∙ take_at (OPEN ∷ size) (payload ++ lies.later) 5 refl;
      each = λ i lt lt'.
          ap (λ l. get_or l (5 + i) 0) shown
          ∙ get_or-take (length head) all (5 + i) 0 (omega (arith, lt, lt', long))
          ∙ sym (get_or-drop 5 all i 0)
          ∙ ap (λ l. get_or l i 0) (drop_at (OPEN ∷ size) (payload ++ lies.later) 5 refl)
          ∙ get_or_append_left payload lies.later 0 i lt';
    }

-- they have the payload, where there are enough for it
pub payload_in : (file head payload : List ℕ) (place limit size : ℕ) → Lies file place limit payload → size ≡ length payload → 5 + size ≤ length head → head ≡ take (length head) (drop place file) → take size (drop 5 head) ≡ payload
payload_in file head payload place limit size lies size_is long is =
    let more = length head - 5 in
    ap (λ l. take size (drop 5 l)) (is ∙ ap (λ n. take n (drop place file)) (omega (arith, long)))
    ∙ ap (take size) (drop-take 5 more (drop place file))
    ∙ take-take size more (drop 5 (drop place file)) (omega (arith, long))
    ∙ ap (take size) (drop-drop 5 place file)
    ∙ payload_there file payload place limit (place + 5) size lies refl size_is

-- a second read stays before the limit
pub second_range : (place limit start size most left long : ℕ) → (place + 5 ≤ limit → start ≡ place + 5) → start ≤ limit → size ≤ most → most ≡ left - 5 → left ≡ limit - place → place + (limit - place) ≤ long → start + size ≤ long
second_range place limit start size most left long is within few most_is left_is inside = elim (cases_eq (place + 5 - limit) 0) [
  | inl fits ↦ omega (arith, is (omega (arith, fits)), few, most_is, left_is, inside, fits)
  | inr past ↦ omega (arith, within, few, most_is, left_is, inside, past)
]

-- the four bytes after the gate are the length
pub size_shown : (head payload : List ℕ) → Begins head payload → length payload ≤ 1114112 → from_be_bytes w32 (size_of head) ≡ length payload
size_shown head payload b few =
    ap (from_be_bytes w32) (shown head (omega (arith, b.long)) ∙ ap (drop 1) b.size)
    ∙ from_be_bytes-to_be_bytes_4 (length payload) (omega (arith, few))
  where
    shown : (l : List ℕ) → 5 ≤ length l → size_of l ≡ drop 1 (take 5 l)
    shown [] le = absurd (omega (arith, le))
    shown (a ∷ []) le = absurd (omega (arith, le))
    shown (a ∷ b ∷ []) le = absurd (omega (arith, le))
    shown (a ∷ b ∷ c ∷ []) le = absurd (omega (arith, le))
    shown (a ∷ b ∷ c ∷ d ∷ []) le = absurd (omega (arith, le))
    shown (a ∷ b ∷ c ∷ d ∷ e ∷ l) le = refl
