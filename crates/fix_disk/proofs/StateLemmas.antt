-- What stays true of a disk in memory at a write.
use Rattle.std.proofs.Common.{◌≡◌, ◌⊎◌, ℕ, ◌+◌, ◌-◌, ◌<◌, ◌≤◌, inl, inr, min, Bool, true, false, true≢false, List, length, take, replicate, get_or, sym, ◌∙◌, ap, arith}
use Rattle.std.proofs.lemmas.List.{take-take, take-replicate, length-replicate, get_or-replicate}
use Rattle.std.proofs.lemmas.Bool.{cases_lt}
use Rattle.fix_disk.specs.Disk.{overwritten}
use Rattle.fix_disk.proofs.Overwritten.{overwritten_before, overwritten_in, overwritten_after, take-overwritten}

module _ (low at k : ℕ) (is : k ≡ min low at) where
  pub low_same : (bytes synced items now : List ℕ) → at ≤ length bytes → now ≡ overwritten at items bytes → take low synced ≡ take low bytes → take k synced ≡ take k now
  low_same bytes synced items now within written same =
      sym (take-take k low synced (omega arith))
      ∙ ap (take k) same
      ∙ take-take k low bytes (omega arith)
      ∙ sym (take-overwritten at items bytes within k (omega arith))
      ∙ sym (ap (take k) written)

  pub low_unmarked : (marks items now : List Bool) → at ≤ length marks → now ≡ overwritten at items marks → take low marks ≡ replicate low false → take k now ≡ replicate k false
  low_unmarked marks items now within written clear =
      ap (take k) written
      ∙ take-overwritten at items marks within k (omega arith)
      ∙ sym (take-take k low marks (omega arith))
      ∙ ap (take k) clear
      ∙ take-replicate k low false (omega arith)

-- of a place that is unmarked behind a write: it is outside the range, and was unmarked before
pub record Untouched (at count : ℕ) (marks : List Bool) (i : ℕ) : Type 0 where
  pub outside : (i < at) ⊎ (at + count ≤ i)
  pub before : get_or marks i true ≡ false

pub untouched : (at count i : ℕ) (marks : List Bool) → at ≤ length marks → get_or (overwritten at (replicate count true) marks) i true ≡ false → Untouched at count marks i
untouched at count i marks within is = elim (cases_lt i at) [
  | inl below ↦ record { outside = inl below; before = sym (overwritten_before at (replicate count true) marks within i true below) ∙ is }
  | inr from ↦ elim (cases_lt i (at + count)) [
    | inl in_range ↦ absurd (true≢false (sym (get_or-replicate count (i - at) true true (omega arith)) ∙ sym (overwritten_in at (replicate count true) marks within i true from (omega (arith, length-replicate count true))) ∙ is))
    | inr behind ↦ record { outside = inr behind; before = sym (overwritten_after at (replicate count true) marks within i true (omega (arith, length-replicate count true))) ∙ is }
  ]
]

-- a byte outside the range
pub outside_same : (at : ℕ) (items old : List ℕ) (i : ℕ) → at ≤ length old → (i < at) ⊎ (at + length items ≤ i) → get_or (overwritten at items old) i 0 ≡ get_or old i 0
outside_same at items old i within (inl below) = overwritten_before at items old within i 0 below
outside_same at items old i within (inr behind) = overwritten_after at items old within i 0 behind

-- an unmarked byte is the synced one, behind a write too
pub same_behind : (at : ℕ) (items bytes synced now : List ℕ) (marks now_marks : List Bool) → at ≤ length bytes → length marks ≡ length bytes
    → now ≡ overwritten at items bytes → now_marks ≡ overwritten at (replicate (length items) true) marks
    → ((i : ℕ) → i < length synced → get_or marks i true ≡ false → get_or bytes i 0 ≡ get_or synced i 0)
    → (i : ℕ) → i < length synced → get_or now_marks i true ≡ false → get_or now i 0 ≡ get_or synced i 0
same_behind at items bytes synced now marks now_marks within long written marked same i lt clear =
    let was = untouched at (length items) i marks (omega arith) (sym (ap (λ l. get_or l i true) marked) ∙ clear) in
    ap (λ l. get_or l i 0) written ∙ outside_same at items bytes i within was.outside ∙ same i lt was.before
