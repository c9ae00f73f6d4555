-- What a crash may leave behind a write, and behind a sync.
use Rattle.std.proofs.Common.{◌≡◌, ◌⊎◌, inl, inr, ℕ, ◌+◌, ◌<◌, ◌≤◌, min, max, true, false, List, length, map, replicate, get_or, refl, sym, ◌∙◌, arith}
use Rattle.std.specs.List.{range_with_len}
use Rattle.std.proofs.lemmas.Bool.{cases_lt}
use Rattle.std.proofs.lemmas.List.{length-replicate, get_or-replicate, get_or_default, same_lists}
use Rattle.std.proofs.lemmas.List.FromFn.{length-map-range_with_len, get_or-map-range_with_len}
use Rattle.fix_disk.specs.Disk.{Torn, Only}
use Rattle.fix_disk.specs.State.{State, Leaves, after_write, after_sync}
use Rattle.fix_disk.proofs.Overwritten.{length-overwritten, overwritten_before, overwritten_after}
use Rattle.fix_disk.proofs.StateLemmas.{untouched}

module _ (at : ℕ) (bytes : List ℕ) (s : State) (marks : length s.changed ≡ length s.bytes) (grows : length s.synced ≤ length s.bytes) (within : at ≤ length s.bytes) where
  longer : length (after_write at bytes s).bytes ≡ max (length s.bytes) (at + length bytes)
  longer = length-overwritten at bytes s.bytes within

  -- each torn form of what a crash might have left before
  pub torn_is_left : (d c : List ℕ) → Leaves s d → Torn at (length bytes) d c → Leaves (after_write at bytes s) c
  torn_is_left d c left torn = record {
    no_shorter = omega (arith, left.no_shorter, torn.no_shorter);
    no_longer = omega (arith, longer, left.no_longer, torn.no_longer);
    same = λ i lt clear.
        let was = untouched at (length bytes) i s.changed (omega (arith, marks, within)) clear in
        from_old i (omega (arith, lt, left.no_shorter)) was.outside ∙ left.same i lt was.before;
  }
    where
      from_old : (i : ℕ) → i < length d → (i < at) ⊎ (at + length bytes ≤ i) → get_or c i 0 ≡ get_or d i 0
      from_old i lt (inl below) = torn.before i lt below
      from_old i lt (inr behind) = torn.after i lt behind

  pub still_left : (c : List ℕ) → Leaves s c → Leaves (after_write at bytes s) c
  still_left c left = torn_is_left c c left (record { no_shorter = omega arith; no_longer = omega arith; before = λ i lt below. refl; after = λ i lt behind. refl })

  module _ (c : List ℕ) (left : Leaves (after_write at bytes s) c) where
    -- a byte of the image before: in the range the synced one, elsewhere that of the image
    abbrev Picks : ℕ → ℕ → Type 0
    Picks i x = (((i < at) ⊎ (at + length bytes ≤ i)) × (x ≡ get_or c i 0)) ⊎ ((at ≤ i) × (i < at + length bytes) × (x ≡ get_or s.synced i 0))

    abbrev pick : (i : ℕ) → (x : ℕ) × Picks i x
    pick i = elim (cases_lt i at) [
      | inl below ↦ (get_or c i 0, inl (inl below, refl))
      | inr from ↦ elim (cases_lt i (at + length bytes)) [
        | inl in_range ↦ (get_or s.synced i 0, inr (from, in_range, refl))
        | inr behind ↦ (get_or c i 0, inl (inr behind, refl))
      ]
    ]

    abbrev long : ℕ
    long = min (length c) (length s.bytes)

    abbrev before : List ℕ
    before = map (λ i. (pick i).0) (range_with_len 0 long)

    length-before : length before ≡ long
    length-before = length-map-range_with_len (λ i. (pick i).0) 0 long

    at_before : (i : ℕ) → i < long → get_or before i 0 ≡ (pick i).0
    at_before i lt = get_or-map-range_with_len (λ i. (pick i).0) 0 long i i 0 lt (omega arith)

    mark_before : (i : ℕ) → (i < at) ⊎ (at + length bytes ≤ i) → get_or (after_write at bytes s).changed i true ≡ get_or s.changed i true
    mark_before i (inl below) = overwritten_before at (replicate (length bytes) true) s.changed (omega (arith, marks, within)) i true below
    mark_before i (inr behind) = overwritten_after at (replicate (length bytes) true) s.changed (omega (arith, marks, within)) i true (omega (arith, length-replicate (length bytes) true, behind))

    picked_same : (i x : ℕ) → Picks i x → i < length s.synced → get_or s.changed i true ≡ false → x ≡ get_or s.synced i 0
    picked_same i x (inl out) lt clear = out.1 ∙ left.same i lt (mark_before i out.0 ∙ clear)
    picked_same i x (inr within_range) lt clear = within_range.2

    picked_outside : (i x : ℕ) → Picks i x → (i < at) ⊎ (at + length bytes ≤ i) → get_or c i 0 ≡ x
    picked_outside i x (inl out) outside = sym out.1
    picked_outside i x (inr p) (inl below) = absurd (omega (arith, p.0, below))
    picked_outside i x (inr p) (inr behind) = absurd (omega (arith, p.1, behind))

    pub comes_from : (d : List ℕ) × Leaves s d × Torn at (length bytes) d c
    comes_from = (
      before,
      record {
        no_shorter = omega (arith, length-before, grows, left.no_shorter);
        no_longer = omega (arith, length-before);
        same = λ i lt clear. at_before i (omega (arith, lt, grows, left.no_shorter)) ∙ picked_same i (pick i).0 (pick i).1 lt clear;
      },
      record {
        no_shorter = omega (arith, length-before);
        no_longer = omega (arith, length-before, longer, left.no_longer);
        before = λ i lt below. picked_outside i (pick i).0 (pick i).1 (inl below) ∙ sym (at_before i (omega (arith, lt, length-before)));
        after = λ i lt behind. picked_outside i (pick i).0 (pick i).1 (inr behind) ∙ sym (at_before i (omega (arith, lt, length-before)));
      },
    )

-- a byte within the list, whatever stands for one past it
at_default : (xs ys : List ℕ) (i d : ℕ) → i < length xs → i < length ys → get_or xs i 0 ≡ get_or ys i 0 → get_or xs i d ≡ get_or ys i d
at_default xs ys i d lt lt' same = sym (get_or_default xs i 0 d lt) ∙ same ∙ get_or_default ys i 0 d lt'

pub only_bytes : (s : State) → Only s.bytes (Leaves (after_sync s))
only_bytes s c left =
    let long : length c ≡ length s.bytes = omega (arith, left.no_shorter, left.no_longer) in
    same_lists c s.bytes long (λ i d lt. at_default c s.bytes i d lt (omega (arith, lt, long)) (left.same i (omega (arith, lt, long)) (get_or-replicate (length s.bytes) i false true (omega (arith, lt, long)))))
