-- The texts of a UTF-8 text's lines are UTF-8.
use Rattle.std.proofs.Common.{◌≡◌, inl, inr, ℕ, zero, suc, ◌+◌, ◌<◌, ◌≤◌, ◌==◌, ◌||◌, true, List, [], ◌∷◌, ◌++◌, length, length-append, get_or, take, drop, Option, Some, None, add-one, refl, sym, ap, ◌∙◌, subst, arith}
use Rattle.std.specs.Str.{IsUtf8}
use Rattle.std.specs.List.{AllByRecursion}
use Rattle.std.proofs.lemmas.Bool.{cases_Bool, or_cases, eqb-true}
use Rattle.std.proofs.lemmas.Str.{IsUtf8-take, IsUtf8-drop, IsCharBoundary-before_ascii, IsCharBoundary-after_ascii}
use Rattle.fix_settings.specs.Lines.{Pair, is_blank, trim_front, trim_back, unless_blank, trimmed, cut_at, lines_of, read_lines}
use Rattle.fix_settings.proofs.CutLemmas.{cut_is}
use Rattle.fix_settings.proofs.LineLemmas.{lines_cut, no_line}
use Rattle.fix_settings.proofs.PairLemmas.{Keeps, LineHas, read_has}

take_front : (a c : List ℕ) → take (length a) (a ++ c) ≡ a
take_front [] c = refl
take_front (x ∷ xs) c = ap (λ z. x ∷ z) (take_front xs c)

drop_past : (a : List ℕ) (x : ℕ) (c : List ℕ) → drop (suc (length a)) (a ++ x ∷ c) ≡ c
drop_past [] x c = refl
drop_past (y ∷ ys) x c = drop_past ys x c

drop_front : (a : List ℕ) (x : ℕ) (c : List ℕ) → drop (length a + 1) (a ++ x ∷ c) ≡ c
drop_front a x c = rw add-one (drop_past a x c)

at_front : (a : List ℕ) (x : ℕ) (c : List ℕ) → get_or (a ++ x ∷ c) (length a) 0 ≡ x
at_front [] x c = refl
at_front (y ∷ ys) x c = at_front ys x c

-- cut at an ASCII byte
pub utf8_front : (a : List ℕ) (x : ℕ) (c : List ℕ) → x < 128 → IsUtf8 (a ++ x ∷ c) → IsUtf8 a
utf8_front a x c ascii u =
    let lt : length a < length (a ++ x ∷ c) = omega (arith, length-append a (x ∷ c)) in
    subst IsUtf8 (take_front a (x ∷ c)) (IsUtf8-take (a ++ x ∷ c) (length a) u (IsCharBoundary-before_ascii (a ++ x ∷ c) (length a) lt (omega (arith, at_front a x c))))

pub utf8_behind : (a : List ℕ) (x : ℕ) (c : List ℕ) → x < 128 → IsUtf8 (a ++ x ∷ c) → IsUtf8 c
utf8_behind a x c ascii u =
    let lt : length a < length (a ++ x ∷ c) = omega (arith, length-append a (x ∷ c)) in
    subst IsUtf8 (drop_front a x c) (IsUtf8-drop (a ++ x ∷ c) (length a + 1) u (IsCharBoundary-after_ascii (a ++ x ∷ c) (length a) u lt (omega (arith, at_front a x c))))

blank_ascii : (b : ℕ) → is_blank b ≡ true → b < 128
blank_ascii b h = elim (or_cases (b == 32) (b == 9 || b == 13) h) [
  | inl e ↦ omega (arith, eqb-true b 32 e)
  | inr r ↦ elim (or_cases (b == 9) (b == 13) r) [ inl e ↦ omega (arith, eqb-true b 9 e) | inr e ↦ omega (arith, eqb-true b 13 e) ]
]

front_utf8 : (bytes : List ℕ) → IsUtf8 bytes → IsUtf8 (trim_front bytes)
front_utf8 [] u = u
front_utf8 (b ∷ bs) u = elim (cases_Bool (is_blank b)) [
  | inl t ↦ rw t (front_utf8 bs (utf8_behind [] b bs (blank_ascii b t) u))
  | inr f ↦ rw f u
]

-- what is trimmed at the end begins with a blank
pub data Ends (bytes kept : List ℕ) : Type 0 where
  same : bytes ≡ kept → Ends bytes kept
  cut : (b : ℕ) (rest : List ℕ) → b < 128 → bytes ≡ kept ++ b ∷ rest → Ends bytes kept

ends_more : (b : ℕ) (bs kept : List ℕ) → Ends bs kept → (k : List ℕ) → kept ≡ k → Ends (b ∷ bs) (unless_blank b k)
ends_more b bs kept e [] n = elim (cases_Bool (is_blank b)) [
  | inl t ↦ rw t (cut b bs (blank_ascii b t) refl)
  | inr f ↦ rw f (none b bs kept e n)
]
  where
    none : (b : ℕ) (bs kept : List ℕ) → Ends bs kept → kept ≡ [] → Ends (b ∷ bs) (b ∷ [])
    none b bs kept (same p) n = same (ap (λ z. b ∷ z) (p ∙ n))
    none b bs kept (cut c rest lt p) n = cut c rest lt (ap (λ z. b ∷ z) (p ∙ ap (λ k. k ++ c ∷ rest) n))
ends_more b bs kept e (k ∷ ks) n = more b bs kept e (k ∷ ks) n
  where
    more : (b : ℕ) (bs kept : List ℕ) → Ends bs kept → (k : List ℕ) → kept ≡ k → Ends (b ∷ bs) (b ∷ k)
    more b bs kept (same p) k n = same (ap (λ z. b ∷ z) (p ∙ n))
    more b bs kept (cut c rest lt p) k n = cut c rest lt (ap (λ z. b ∷ z) (p ∙ ap (λ k. k ++ c ∷ rest) n))

ends : (bytes : List ℕ) → Ends bytes (trim_back bytes)
ends [] = same refl
ends (b ∷ bs) = ends_more b bs (trim_back bs) (ends bs) (trim_back bs) refl

ends_utf8 : (bytes kept : List ℕ) → Ends bytes kept → IsUtf8 bytes → IsUtf8 kept
ends_utf8 bytes kept (same p) u = subst IsUtf8 p u
ends_utf8 bytes kept (cut b rest lt p) u = utf8_front kept b rest lt (subst IsUtf8 p u)

pub trimmed_utf8 : (bytes : List ℕ) → IsUtf8 bytes → IsUtf8 (trimmed bytes)
trimmed_utf8 bytes u = ends_utf8 (trim_front bytes) (trim_back (trim_front bytes)) (ends (trim_front bytes)) (front_utf8 bytes u)

-- ---- lines

lines_from : (n : ℕ) (text : List ℕ) (o : Option (List ℕ × List ℕ)) → length text ≤ n → cut_at 10 text ≡ o → IsUtf8 text → AllByRecursion IsUtf8 (lines_of text)
lines_from zero [] o le e u = tt
lines_from zero (b ∷ bs) o le e u = absurd (omega arith)
lines_from (suc n) [] o le e u = tt
lines_from (suc n) (b ∷ bs) None le e u = rw (no_line (b ∷ bs) (omega arith) e) (u, tt)
lines_from (suc n) (b ∷ bs) (Some p) le e u =
    let c = lines_cut (b ∷ bs) p.0 p.1 e in
    let is : IsUtf8 (p.0 ++ 10 ∷ p.1) = subst IsUtf8 (cut_is 10 (b ∷ bs) p.0 p.1 e) u in
    let fewer : length p.1 ≤ n = omega (arith, c.shorter) in
    let rest : AllByRecursion IsUtf8 (lines_of p.1) = lines_from n p.1 (cut_at 10 p.1) fewer refl (utf8_behind p.0 10 p.1 (omega arith) is) in
    subst (AllByRecursion IsUtf8) (sym c.lines) (utf8_front p.0 10 p.1 (omega arith) is, rest)

pub lines_utf8 : (text : List ℕ) → IsUtf8 text → AllByRecursion IsUtf8 (lines_of text)
lines_utf8 text u = lines_from (length text) text (cut_at 10 text) (omega arith) refl u

-- ---- pairs

abbrev pub PairUtf8 : Pair → Type 0
PairUtf8 p = IsUtf8 p.key × IsUtf8 p.value

utf8 : Keeps IsUtf8 PairUtf8
utf8 = record {
  trims = trimmed_utf8;
  pairs = λ n a c u. (trimmed_utf8 a (utf8_front a 61 c (omega arith) u), trimmed_utf8 c (utf8_behind a 61 c (omega arith) u));
}

pub read_utf8 : (text : List ℕ) → IsUtf8 text → AllByRecursion (LineHas PairUtf8) (read_lines text)
read_utf8 text u = read_has IsUtf8 PairUtf8 utf8 text (lines_utf8 text u)
