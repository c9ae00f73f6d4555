-- The records of a file, computed from its bytes.
use Rattle.std.proofs.Common.{◌≡◌, ◌≢◌, inl, inr, ℕ, ◌+◌, ◌≤◌, zero, suc, Bool, true, false, if◌then◌else◌, List, [], ◌∷◌, ◌++◌, length, take, drop, refl, sym, ◌∙◌, ap, arith, append_assoc, length-append}
use Rattle.std.specs.Prelude.{All, nat_le, ◌==◌, slice_index}
use Rattle.std.specs.Int.{w32, to_be_bytes, from_be_bytes}
use Rattle.std.proofs.lemmas.Nat.{from_be_bytes-to_be_bytes_4}
use Rattle.std.proofs.lemmas.List.{take_at, drop_at}
use Rattle.std.proofs.lemmas.Bool.{eqb-true, leb-true, le-leb, false_from_ne_true}
use Rattle.fix_journal.specs.Format.{OPEN, IsPayload, body_of, recorded, front, IsJournal, HasRecords}
use Rattle.fix_journal.specs.Payloads.{size_in, payloads_from, payloads_in}
use Rattle.fix_journal.proofs.Unique.{first_of, later_of}
use Rattle.fix_journal.proofs.Gates.{length-front}

-- a record takes a byte
count_recorded : (ps : List (List ℕ)) → length ps ≤ length (recorded ps)
count_recorded [] = omega arith
count_recorded (p ∷ ps) = omega (arith, count_recorded ps, length-append (body_of p) (recorded ps))

choose : {A : Type 0} (b : Bool) (x y : A) → b ≡ false → (if b then x else y) ≡ y
choose false x y is = refl
choose true x y is = cc

from_gates : (ps : List (List ℕ)) (gate : ℕ) (behind : List ℕ) (most : ℕ) → gate ≢ OPEN → All IsPayload ps → length ps + 1 ≤ most → payloads_from most (recorded ps ++ gate ∷ behind) ≡ ps
from_gates ps gate behind zero shut each le = absurd (omega (arith, le))
from_gates [] gate behind (suc most) shut each le = choose (gate == OPEN) _ [] (false_from_ne_true (gate == OPEN) (λ e. shut (eqb-true gate OPEN e)))
from_gates (p ∷ ps) gate behind (suc most) shut each le =
    let size = to_be_bytes w32 (length p) in
    let tail = recorded ps ++ gate ∷ behind in
    let rest : (body_of p ++ recorded ps) ++ gate ∷ behind ≡ size ++ (p ++ tail) = append_assoc (body_of p) (recorded ps) (gate ∷ behind) ∙ append_assoc size p tail in
    let long : size_in ((body_of p ++ recorded ps) ++ gate ∷ behind) ≡ length p =
    ap size_in rest
    ∙ ap (from_be_bytes w32) (take_at size (p ++ tail) 4 refl)
    ∙ from_be_bytes-to_be_bytes_4 (length p) (omega (arith, (first_of p ps each).1)) in
    let later : drop 4 ((body_of p ++ recorded ps) ++ gate ∷ behind) ≡ p ++ tail = ap (drop 4) rest ∙ drop_at size (p ++ tail) 4 refl in
    let first = ap (take (size_in ((body_of p ++ recorded ps) ++ gate ∷ behind))) later ∙ take_at p tail (size_in ((body_of p ++ recorded ps) ++ gate ∷ behind)) (sym long) in
    let next = ap (drop (size_in ((body_of p ++ recorded ps) ++ gate ∷ behind))) later ∙ drop_at p tail (size_in ((body_of p ++ recorded ps) ++ gate ∷ behind)) (sym long) in
    let others = ap (payloads_from most) next ∙ from_gates ps gate behind most shut (later_of p ps each) (omega (arith, le)) in
    λ i. first i ∷ others i

both_hold : {A : Type 0} (a b : Bool) (x y : A) → a ≡ true → b ≡ true → (if a then (if b then x else y) else y) ≡ x
both_hold true true x y p q = refl
both_hold true false x y p q = cc
both_hold false b x y p q = cc

not_both : {A : Type 0} (a b : Bool) (x y : A) → (a ≡ true → b ≡ true → ⊥) → (if a then (if b then x else y) else y) ≡ y
not_both true true x y never = absurd (never refl refl)
not_both true false x y never = refl
not_both false b x y never = refl

of_journal : (file : List ℕ) (ps : List (List ℕ)) → IsJournal file ps → payloads_in file ≡ ps
of_journal file ps j =
    let long : length file ≡ length (front ps) + 1 + length j.behind = omega (arith, ap length j.is, length-append (front ps) (j.gate ∷ j.behind)) in
    let many : length (front ps) ≡ 9 + length (recorded ps) = length-front ps in
    both_hold (nat_le 10 (length file)) (slice_index file 0 == OPEN) _ []
    (le-leb 10 (length file) (omega (arith, long, many)))
    (ap (λ f. slice_index f 0 == OPEN) j.is)
    ∙ ap (λ f. payloads_from (length file) (drop 9 f)) j.is
    ∙ from_gates ps j.gate j.behind (length file) j.closed j.each (omega (arith, long, many, count_recorded ps))

pub computed : (file : List ℕ) (ps : List (List ℕ)) → HasRecords file ps → payloads_in file ≡ ps
computed file ps (inl unmade) =
    not_both (nat_le 10 (length file)) (slice_index file 0 == OPEN) _ [] (λ a b. unmade.0 (leb-true 10 (length file) a, eqb-true (slice_index file 0) OPEN b))
    ∙ sym unmade.1
computed file ps (inr journal) = of_journal file ps journal
