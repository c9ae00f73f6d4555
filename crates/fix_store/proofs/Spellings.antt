-- What a payload's spelling says of it.
use Rattle.std.proofs.Common.{◌≡◌, ℕ, ◌+◌, ◌<◌, ◌≤◌, zero, suc, List, [], ◌∷◌, ◌++◌, length, take, drop, get_or, refl, sym, ◌∙◌, ap, arith, length-append}
use Rattle.std.specs.Int.{w32, w64, to_be_bytes, from_be_bytes}
use Rattle.std.specs.List.{AllByRecursion}
use Rattle.std.proofs.lemmas.Nat.{from_be_bytes-to_be_bytes_4, from_be_bytes-to_be_bytes_8}
use Rattle.std.proofs.lemmas.List.{take_at, drop_at}
use Rattle.fix_base.specs.declared.entry.By.TheVariants.{Caller, Engine}
use Rattle.fix_base.specs.declared.entry.Entry.{Entry}
use Rattle.fix_base.specs.declared.entry.Entry.TheVariants.{App, Admin}
use Rattle.fix_base.specs.declared.entry.Record.{Record}
use Rattle.fix_base.specs.declared.entry.Record.TheVariants.{Push, Expect, Many, Withhold, Reset, ResetAsk, Confirm}
use Rattle.fix_base.specs.Payload.{HasPayload, IsKeepable, payload_size, payloads_size}
use Rattle.fix_journal.specs.Format.{IsPayload}
use Rattle.fix_journal.specs.Payloads.{size_in}
use Rattle.fix_store.specs.Spelling.{spelled, spelled_entry, spelled_entries, Item, keeps, marks, spelled_item}
use Rattle.fix_store.specs.Ends.{entry_in, entries_in, item_in}
use Rattle.fix_store.specs.Folding.{IsFit}

-- ---- entries

-- an entry is read back from its spelling
pub back_entry : (e : Entry) → HasPayload e → entry_in (spelled_entry e) ≡ e
back_entry (App time Caller body) fits =
    let t = to_be_bytes w64 time in
    let number = ap (from_be_bytes w64) (take_at t body 8 refl) ∙ from_be_bytes-to_be_bytes_8 time (omega (arith, fits.time_fits)) in
    let rest = drop_at t body 8 refl in
    λ i. App (number i) Caller (rest i)
back_entry (App time Engine body) fits =
    let t = to_be_bytes w64 time in
    let number = ap (from_be_bytes w64) (take_at t body 8 refl) ∙ from_be_bytes-to_be_bytes_8 time (omega (arith, fits.time_fits)) in
    let rest = drop_at t body 8 refl in
    λ i. App (number i) Engine (rest i)
back_entry (Admin time kind about) fits =
    let number = from_be_bytes-to_be_bytes_8 time (omega (arith, fits.time_fits)) in
    let named = from_be_bytes-to_be_bytes_4 about fits.about_fits in
    λ i. Admin (number i) kind (named i)

-- how long it is
pub length_entry : (e : Entry) → length (spelled_entry e) ≡ payload_size e
length_entry (App time Caller body) = omega (arith, length-append (to_be_bytes w64 time) body)
length_entry (App time Engine body) = omega (arith, length-append (to_be_bytes w64 time) body)
length_entry (Admin time kind about) = omega (arith, length-append (to_be_bytes w64 time) (kind ∷ to_be_bytes w32 about))

pub short_entry : (e : Entry) → HasPayload e → payload_size e ≤ 1048073
short_entry (App time by body) fits = omega (arith, fits.short)
short_entry (Admin time kind about) fits = omega arith

pub small_entry : (e : Entry) → HasPayload e → length (spelled_entry e) < 4294967296
small_entry e fits = omega (arith, length_entry e, short_entry e fits)

pub length_entries : (es : List Entry) → length (spelled_entries es) ≡ payloads_size es
length_entries [] = refl
length_entries (e ∷ es) =
    let n = to_be_bytes w32 (length (spelled_entry e)) in
    omega (arith, length-append n (spelled_entry e ++ spelled_entries es), length-append (spelled_entry e) (spelled_entries es), length_entry e, length_entries es)

-- what stands at the front of bytes after a length
module _ (part later : List ℕ) (small : length part < 4294967296) where
  abbrev n : List ℕ
  n = to_be_bytes w32 (length part)

  pub size_there : size_in (n ++ (part ++ later)) ≡ length part
  size_there = ap (from_be_bytes w32) (take_at n (part ++ later) 4 refl) ∙ from_be_bytes-to_be_bytes_4 (length part) small

  pub part_there : take (size_in (n ++ (part ++ later))) (drop 4 (n ++ (part ++ later))) ≡ part
  part_there = ap (λ k. take k (part ++ later)) size_there ∙ take_at part later (length part) refl

  pub later_there : drop (size_in (n ++ (part ++ later))) (drop 4 (n ++ (part ++ later))) ≡ later
  later_there = ap (λ k. drop k (part ++ later)) size_there ∙ drop_at part later (length part) refl

pub back_entries : (es : List Entry) → AllByRecursion HasPayload es → entries_in (length es) (spelled_entries es) ≡ es
back_entries [] fits = refl
back_entries (e ∷ es) fits =
    let p = spelled_entry e in
    let l = spelled_entries es in
    let first = ap entry_in (part_there p l (small_entry e fits.0)) ∙ back_entry e fits.0 in
    let others = ap (entries_in (length es)) (later_there p l (small_entry e fits.0)) ∙ back_entries es fits.1 in
    λ i. first i ∷ others i

-- so many are read
pub length-entries_in : (n : ℕ) (rest : List ℕ) → length (entries_in n rest) ≡ n
length-entries_in zero rest = refl
length-entries_in (suc n) rest = omega (arith, length-entries_in n (drop (size_in rest) (drop 4 rest)))

-- ---- records

-- a record is read back from its spelling
pub back_record : (r : Record) → IsKeepable r → item_in (spelled r) ≡ keeps r
back_record (Push (App time Caller body)) fits = ap (λ e. keeps (Push e)) (back_entry (App time Caller body) fits)
back_record (Push (App time Engine body)) fits = ap (λ e. keeps (Push e)) (back_entry (App time Engine body) fits)
back_record (Push (Admin time kind about)) fits = ap (λ e. keeps (Push e)) (back_entry (Admin time kind about) fits)
back_record (Expect number) fits = ap (λ n. keeps (Expect n)) (from_be_bytes-to_be_bytes_4 number (omega (arith, fits.1)))
back_record (Reset time) fits = ap (λ t. keeps (Reset t)) (from_be_bytes-to_be_bytes_8 time (omega (arith, fits)))
back_record (Many pushes number) fits =
    let c = to_be_bytes w32 (length pushes) in
    let k = to_be_bytes w32 number in
    let es = spelled_entries pushes in
    let count = ap (from_be_bytes w32) (take_at c (k ++ es) 4 refl) ∙ from_be_bytes-to_be_bytes_4 (length pushes) (omega (arith, fits.few)) in
    let expected = ap (from_be_bytes w32) (take_at k es 4 refl) ∙ from_be_bytes-to_be_bytes_4 number (omega (arith, fits.number_fits)) in
    let entries = ap (λ m. entries_in m es) count ∙ back_entries pushes fits.each in
    λ i. keeps (Many (entries i) (expected i))
back_record (Withhold number) fits = ap (λ n. keeps (Withhold n)) (from_be_bytes-to_be_bytes_4 number (omega (arith, fits.1)))
back_record (ResetAsk time) fits = ap (λ t. keeps (ResetAsk t)) (from_be_bytes-to_be_bytes_8 time (omega (arith, fits)))
back_record Confirm fits = refl

pub back : (i : Item) → IsFit i → item_in (spelled_item i) ≡ i
back (keeps r) fits = back_record r fits
back marks fits = refl

-- bytes are one item
pub one_item : (i j : Item) → IsFit i → IsFit j → spelled_item i ≡ spelled_item j → i ≡ j
one_item i j fits fits' same = sym (back i fits) ∙ ap item_in same ∙ back j fits'

-- and one entry
pub one_entry : (e f : Entry) → HasPayload e → HasPayload f → spelled_entry e ≡ spelled_entry f → e ≡ f
one_entry e f fits fits' same = sym (back_entry e fits) ∙ ap entry_in same ∙ back_entry f fits'

-- how long a record of several is
pub length_many : (pushes : List Entry) (number : ℕ) → length (spelled (Many pushes number)) ≡ 9 + payloads_size pushes
length_many pushes number =
    let c = to_be_bytes w32 (length pushes) in
    let k = to_be_bytes w32 number in
    let es = spelled_entries pushes in
    omega (arith, length-append c (k ++ es), length-append k es, length_entries pushes)

-- it is a payload of a journal
pub is_payload : (r : Record) → IsKeepable r → IsPayload (spelled r)
is_payload (Push (App time Caller body)) fits = (omega arith, omega (arith, length_entry (App time Caller body), short_entry (App time Caller body) fits))
is_payload (Push (App time Engine body)) fits = (omega arith, omega (arith, length_entry (App time Engine body), short_entry (App time Engine body) fits))
is_payload (Push (Admin time kind about)) fits = (omega arith, omega (arith, length_entry (Admin time kind about)))
is_payload (Expect number) fits = (omega arith, omega arith)
is_payload (Reset time) fits = (omega arith, omega arith)
is_payload (Many pushes number) fits = (omega (arith, length_many pushes number), omega (arith, length_many pushes number, fits.short))
is_payload (Withhold number) fits = (omega arith, omega arith)
is_payload (ResetAsk time) fits = (omega arith, omega arith)
is_payload Confirm fits = (omega arith, omega arith)

-- a front of bytes is of bytes
pub small_front : (n : ℕ) (bytes : List ℕ) → ((i : ℕ) → get_or bytes i 0 < 256) → (i : ℕ) → get_or (take n bytes) i 0 < 256
small_front zero bytes small i = omega arith
small_front (suc n) [] small i = omega arith
small_front (suc n) (b ∷ bytes) small zero = small 0
small_front (suc n) (b ∷ bytes) small (suc i) = small_front n bytes (λ j. small (suc j)) i
