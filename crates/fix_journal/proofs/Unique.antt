-- A file has one list of records.
use Rattle.std.proofs.Common.{◌≡◌, ◌≢◌, ℕ, suc, List, [], ◌∷◌, ◌++◌, length, take, drop, get_or, refl, sym, ◌∙◌, ap, arith, append_assoc}
use Rattle.std.specs.Prelude.{All}
use Rattle.std.specs.Int.{w32, to_be_bytes, from_be_bytes}
use Rattle.std.proofs.lemmas.Nat.{from_be_bytes-to_be_bytes_4}
use Rattle.std.proofs.lemmas.List.{take_at, drop_at}
use Rattle.fix_journal.specs.Format.{OPEN, IsPayload, body_of, recorded, IsJournal}

same_length : (p q : List ℕ) → IsPayload p → IsPayload q → to_be_bytes w32 (length p) ≡ to_be_bytes w32 (length q) → length p ≡ length q
same_length p q fits fits' same =
    sym (from_be_bytes-to_be_bytes_4 (length p) (omega (arith, fits.1)))
    ∙ ap (from_be_bytes w32) same
    ∙ from_be_bytes-to_be_bytes_4 (length q) (omega (arith, fits'.1))

-- what begins with a length and a payload does so in one way
pub one_body : (p q x y : List ℕ) → IsPayload p → IsPayload q → body_of p ++ x ≡ body_of q ++ y → (p ≡ q) × (x ≡ y)
one_body p q x y fits fits' same =
    let first = to_be_bytes w32 (length p) in
    let second = to_be_bytes w32 (length q) in
    let whole : first ++ (p ++ x) ≡ second ++ (q ++ y) = sym (append_assoc first p x) ∙ same ∙ append_assoc second q y in
    let long : length p ≡ length q = same_length p q fits fits' (sym (take_at first (p ++ x) 4 refl) ∙ ap (take 4) whole ∙ take_at second (q ++ y) 4 refl) in
    let rest : p ++ x ≡ q ++ y = sym (drop_at first (p ++ x) 4 refl) ∙ ap (drop 4) whole ∙ drop_at second (q ++ y) 4 refl in (
      sym (take_at p x (length p) refl) ∙ ap (take (length p)) rest ∙ take_at q y (length p) (sym long),
      sym (drop_at p x (length p) refl) ∙ ap (drop (length p)) rest ∙ drop_at q y (length p) (sym long),
    )

pub first_of : (p : List ℕ) (ps : List (List ℕ)) → All IsPayload (p ∷ ps) → IsPayload p
first_of p ps each = each 0 [] (omega arith)

pub later_of : (p : List ℕ) (ps : List (List ℕ)) → All IsPayload (p ∷ ps) → All IsPayload ps
later_of p ps each = λ k d lt. each (suc k) d (omega (arith, lt))

one_list : (ps qs : List (List ℕ)) (g h : ℕ) (x y : List ℕ) → All IsPayload ps → All IsPayload qs → g ≢ OPEN → h ≢ OPEN → recorded ps ++ g ∷ x ≡ recorded qs ++ h ∷ y → ps ≡ qs
one_list [] [] g h x y each each' shut shut' same = refl
one_list [] (q ∷ qs) g h x y each each' shut shut' same = absurd (shut (ap (λ l. get_or l 0 0) same))
one_list (p ∷ ps) [] g h x y each each' shut shut' same = absurd (shut' (sym (ap (λ l. get_or l 0 0) same)))
one_list (p ∷ ps) (q ∷ qs) g h x y each each' shut shut' same =
    let both = one_body p q (recorded ps ++ g ∷ x) (recorded qs ++ h ∷ y) (first_of p ps each) (first_of q qs each')
    (sym (append_assoc (body_of p) (recorded ps) (g ∷ x)) ∙ ap (drop 1) same ∙ append_assoc (body_of q) (recorded qs) (h ∷ y)) in
    let later = one_list ps qs g h x y (later_of p ps each) (later_of q qs each') shut shut' both.1 in
    λ i. both.0 i ∷ later i

pub unique : (file : List ℕ) (ps qs : List (List ℕ)) → IsJournal file ps → IsJournal file qs → ps ≡ qs
unique file ps qs one other = one_list ps qs one.gate other.gate one.behind other.behind one.each other.each one.closed other.closed (ap (drop 9) (sym one.is ∙ other.is))
