-- What stands in lines can stand in lines.
use Rattle.std.proofs.Common.{◌≡◌, inl, inr, ℕ, ◌≤◌, ◌==◌, not, true, false, List, [], ◌∷◌, ◌++◌, length, refl, ap, arith}
use Rattle.std.specs.List.{AllByRecursion, onto_first}
use Rattle.std.proofs.lemmas.Bool.{cases_Bool, and_parts, and_from}
use Rattle.fix_settings.specs.Lines.{Pair, is_blank, trim_front, trim_back, unless_blank, trimmed, lines_of, onto_line, read_lines}
use Rattle.fix_settings.specs.Again.{has_no_lf, IsLineText}
use Rattle.fix_settings.proofs.PairLemmas.{Keeps, LineHas, read_has}

abbrev pub NoLf : List ℕ → Type 0
NoLf t = has_no_lf t ≡ true

onto_first_kept : (b : ℕ) (ls : List (List ℕ)) → (b == 10) ≡ false → AllByRecursion NoLf ls → AllByRecursion NoLf (onto_first b ls)
onto_first_kept b [] f all = (rw f refl, tt)
onto_first_kept b (l ∷ ls) f all = (rw f all.0, all.1)

onto_kept : (b : ℕ) (ls : List (List ℕ)) → AllByRecursion NoLf ls → AllByRecursion NoLf (onto_line b ls)
onto_kept b ls all = elim (cases_Bool (b == 10)) [ inl t ↦ rw t (refl, all) | inr f ↦ rw f (onto_first_kept b ls f all) ]

lines_no_lf : (text : List ℕ) → AllByRecursion NoLf (lines_of text)
lines_no_lf [] = tt
lines_no_lf (b ∷ bs) = onto_kept b (lines_of bs) (lines_no_lf bs)

front_no_lf : (t : List ℕ) → NoLf t → NoLf (trim_front t)
front_no_lf [] h = h
front_no_lf (b ∷ bs) h = elim (cases_Bool (is_blank b)) [
  | inl t ↦ (let p = and_parts (not (b == 10)) (has_no_lf bs) h in rw t (front_no_lf bs p.1))
  | inr f ↦ rw f h
]

unless_no_lf : (b : ℕ) (k : List ℕ) → not (b == 10) ≡ true → NoLf k → NoLf (unless_blank b k)
unless_no_lf b [] h g = elim (cases_Bool (is_blank b)) [ inl t ↦ rw t refl | inr f ↦ rw f (and_from (not (b == 10)) true h refl) ]
unless_no_lf b (c ∷ cs) h g = and_from (not (b == 10)) (has_no_lf (c ∷ cs)) h g

back_no_lf : (t : List ℕ) → NoLf t → NoLf (trim_back t)
back_no_lf [] h = h
back_no_lf (b ∷ bs) h = let p = and_parts (not (b == 10)) (has_no_lf bs) h in unless_no_lf b (trim_back bs) p.0 (back_no_lf bs p.1)

split_no_lf : (a c : List ℕ) → NoLf (a ++ c) → NoLf a × NoLf c
split_no_lf [] c h = (refl, h)
split_no_lf (x ∷ xs) c h =
    let p = and_parts (not (x == 10)) (has_no_lf (xs ++ c)) h in
    let q = split_no_lf xs c p.1 in
    (and_from (not (x == 10)) (has_no_lf xs) p.0 q.0, q.1)

front_twice : (t : List ℕ) → trim_front (trim_front t) ≡ trim_front t
front_twice [] = refl
front_twice (b ∷ bs) = elim (cases_Bool (is_blank b)) [ inl t ↦ rw t (front_twice bs) | inr f ↦ rw f (rw f refl) ]

unless_twice : (b : ℕ) (k : List ℕ) → trim_back k ≡ k → trim_back (unless_blank b k) ≡ unless_blank b k
unless_twice b [] h = elim (cases_Bool (is_blank b)) [ inl t ↦ rw t refl | inr f ↦ rw f (rw f refl) ]
unless_twice b (c ∷ cs) h = ap (unless_blank b) h

back_twice : (t : List ℕ) → trim_back (trim_back t) ≡ trim_back t
back_twice [] = refl
back_twice (b ∷ bs) = unless_twice b (trim_back bs) (back_twice bs)

front_short : (t : List ℕ) → length (trim_front t) ≤ length t
front_short [] = omega arith
front_short (b ∷ bs) = elim (cases_Bool (is_blank b)) [ inl t ↦ rw t (omega (arith, front_short bs)) | inr f ↦ rw f (omega arith) ]

unless_front : (b : ℕ) (k : List ℕ) → is_blank b ≡ false → trim_front (unless_blank b k) ≡ unless_blank b k
unless_front b [] f = rw f (rw f refl)
unless_front b (c ∷ cs) f = rw f refl

front_back : (t : List ℕ) → trim_front t ≡ t → trim_front (trim_back t) ≡ trim_back t
front_back [] h = refl
front_back (b ∷ bs) h = elim (cases_Bool (is_blank b)) [
  | inl t ↦ (let e : trim_front bs ≡ b ∷ bs = rw t at h in absurd (omega (arith, ap length e, front_short bs)))
  | inr f ↦ unless_front b (trim_back bs) f
]

pub trimmed_kept : (t : List ℕ) → NoLf t → IsLineText (trimmed t)
trimmed_kept t h = record { one_line = back_no_lf (trim_front t) (front_no_lf t h); front = front_back (trim_front t) (front_twice t); back = back_twice (trim_front t) }

-- ---- pairs

abbrev pub PairKept : Pair → Type 0
PairKept p = NoLf p.key × IsLineText p.value

kept : Keeps NoLf PairKept
kept = record {
  trims = λ t h. let k = trimmed_kept t h in k.one_line;
  pairs = λ n a c h.
      let q = split_no_lf a (61 ∷ c) h in
      let key = trimmed_kept a q.0 in
      (key.one_line, trimmed_kept c q.1);
}

pub read_kept : (text : List ℕ) → AllByRecursion (LineHas PairKept) (read_lines text)
read_kept text = read_has NoLf PairKept kept text (lines_no_lf text)
