-- Lists of which a part was written over.
use Rattle.std.proofs.Common.{◌≡◌, inl, inr, ℕ, ◌+◌, ◌-◌, ◌<◌, ◌≤◌, min, max, Bool, false, List, ◌++◌, length, take, drop, replicate, get_or, ◌∙◌, ap, arith, append_assoc, length-append, length-drop, take-append-drop}
use Rattle.std.proofs.lemmas.List.{append-nil, drop_all, length-take-le, take-append-le, length-replicate, replicate-append-replicate, get_or-take, get_or-drop, get_or_append_left, get_or-append_right}
use Rattle.std.proofs.lemmas.Bool.{cases_eq}
use Rattle.std.proofs.lemmas.Grind.{common_steps}
use Rattle.std.proofs.Math.Seq.{take-take}
use Rattle.fix_disk.specs.Disk.{overwritten}

module _ {A : Type 0} (at : ℕ) (items old : List A) (within : at ≤ length old) where
  before_end : length (take at old ++ items) ≡ at + length items
  before_end = omega (arith, length-append (take at old) items, length-take-le at old within)

  pub length-overwritten : length (overwritten at items old) ≡ max (length old) (at + length items)
  length-overwritten = grind (arith, common_steps, length-append, length-drop, length-take-le at old within)

  pub overwritten_before : (i : ℕ) (d : A) → i < at → get_or (overwritten at items old) i d ≡ get_or old i d
  overwritten_before i d lt =
      get_or_append_left (take at old ++ items) (drop (at + length items) old) d i (omega (arith, before_end))
      ∙ get_or_append_left (take at old) items d i (omega (arith, length-take-le at old within))
      ∙ get_or-take at old i d lt

  pub overwritten_in : (i : ℕ) (d : A) → at ≤ i → i < at + length items → get_or (overwritten at items old) i d ≡ get_or items (i - at) d
  overwritten_in i d le lt =
      get_or_append_left (take at old ++ items) (drop (at + length items) old) d i (omega (arith, before_end))
      ∙ get_or-append_right (take at old) items at i d (length-take-le at old within) le

  pub overwritten_after : (i : ℕ) (d : A) → at + length items ≤ i → get_or (overwritten at items old) i d ≡ get_or old i d
  overwritten_after i d le =
      get_or-append_right (take at old ++ items) (drop (at + length items) old) (at + length items) i d before_end le
      ∙ get_or-drop (at + length items) old (i - (at + length items)) d
      ∙ ap (λ k. get_or old k d) (omega arith)

  pub take-overwritten : (n : ℕ) → n ≤ at → take n (overwritten at items old) ≡ take n old
  take-overwritten n le =
      take-append-le n (take at old ++ items) (drop (at + length items) old) (omega (arith, before_end))
      ∙ take-append-le n (take at old) items (omega (arith, length-take-le at old within))
      ∙ take_of_take n at old le
    where
      take_of_take : (n m : ℕ) (xs : List A) → n ≤ m → take n (take m xs) ≡ take n xs
      take_of_take n m xs le = grind (arith, take-take)

-- the part that stands within the list, and the rest behind it
pub overwritten_by_parts : {A : Type 0} (at inside rest : ℕ) (x : A) (old : List A) → at ≤ length old → inside ≡ min (inside + rest) (length old - at)
    → (take at old ++ (replicate inside x ++ drop (at + inside) old)) ++ replicate rest x ≡ overwritten at (replicate (inside + rest) x) old
overwritten_by_parts at inside rest x old within is = elim (cases_eq rest 0) [
  | inl none ↦ grind (arith, append_assoc, append-nil, length-replicate)
  | inr some ↦
      let first = drop_all (at + inside) old (omega arith) in
      let second = drop_all (at + length (replicate (inside + rest) x)) old (omega (arith, length-replicate (inside + rest) x)) in
      grind (arith, append_assoc, append-nil, length-replicate, replicate-append-replicate)
]

-- the part up to a place is the same, so it is all the same
pub joined : {A : Type 0} (n : ℕ) (xs ys : List A) → take n xs ≡ take n ys → take n xs ++ drop n ys ≡ ys
joined n xs ys same = ap (λ l. l ++ drop n ys) same ∙ take-append-drop n ys

pub unmarked : (n count : ℕ) (marks : List Bool) → n ≤ count → take n marks ≡ replicate n false → take n marks ++ replicate (count - n) false ≡ replicate count false
unmarked n count marks le clear = ap (λ l. l ++ replicate (count - n) false) clear ∙ replicate-append-replicate n (count - n) false ∙ ap (λ k. replicate k false) (omega arith)
