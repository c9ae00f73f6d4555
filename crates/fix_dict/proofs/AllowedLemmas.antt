-- The parts of a value between spaces, byte by byte.
use Rattle.std.proofs.Common.{◌≡◌, ℕ, ◌+◌, ◌-◌, ◌<◌, ◌≤◌, List, [], ◌∷◌, ◌++◌, length, take, drop, slice_index, sym, ap, subst, ◌∙◌, arith, rules}
use Rattle.std.proofs.lemmas.List.{take_more, get_or-drop, length-drop, drop_more}
use Rattle.fix_dict.specs.Allowed.{parts_behind}

in_part : (p : List ℕ) (b : ℕ) (bs : List ℕ) → (b ≡ 32 → ⊥) → parts_behind p (b ∷ bs) ≡ parts_behind (p ++ b ∷ []) bs
in_part p b bs ne = search (rules, ne)

longer : (value : List ℕ) (start n : ℕ) → start + n < length value → take (n + 1) (drop start value) ≡ take n (drop start value) ++ slice_index value (start + n) ∷ []
longer value start n h =
    take_more (drop start value) n 0 (omega (arith, h, length-drop start value)) ∙ ap (λ b. take n (drop start value) ++ b ∷ []) (get_or-drop start value n 0)

one_on : (value : List ℕ) (start n : ℕ) → start + n < length value → (slice_index value (start + n) ≡ 32 → ⊥)
    → parts_behind (take (n + 1) (drop start value)) (drop (start + n + 1) value) ≡ parts_behind (take n (drop start value)) (drop (start + n) value)
one_on value start n h ne =
    ap (λ p. parts_behind p (drop (start + n + 1) value)) (longer value start n h) ∙ sym (in_part (take n (drop start value)) (slice_index value (start + n)) (drop (start + n + 1) value) ne)
    ∙ ap (parts_behind (take n (drop start value))) (sym (drop_more value (start + n) 0 h))

pub parts_on : (value : List ℕ) (start i : ℕ) → start ≤ i → i < length value → (slice_index value i ≡ 32 → ⊥)
    → parts_behind (take (i + 1 - start) (drop start value)) (drop (i + 1) value) ≡ parts_behind (take (i - start) (drop start value)) (drop i value)
parts_on value start i le h ne =
    let e : start + (i - start) ≡ i = omega (arith, le) in
    let m : i + 1 - start ≡ i - start + 1 = omega (arith, le) in
    ap (λ k. parts_behind (take k (drop start value)) (drop (i + 1) value)) m
    ∙ subst (λ k. parts_behind (take (i - start + 1) (drop start value)) (drop (k + 1) value) ≡ parts_behind (take (i - start) (drop start value)) (drop k value)) e
    (one_on value start (i - start) (subst (λ k. k < length value) (sym e) h) (λ is. ne (subst (λ k. slice_index value k ≡ 32) e is)))
