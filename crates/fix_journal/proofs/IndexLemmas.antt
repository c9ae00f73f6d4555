-- The places that are kept of a list of records.
use Rattle.std.proofs.Common.{◌≡◌, ◌≢◌, inl, inr, ℕ, ◌+◌, ◌*◌, ◌%◌, ◌<◌, ◌≤◌, zero, suc, List, [], ◌∷◌, ◌++◌, length, take, get_or, refl, sym, ◌∙◌, ap, arith, length-append}
use Rattle.std.proofs.lemmas.Bool.{cases_eq}
use Rattle.std.proofs.lemmas.List.{take-append-le, take_at, append-nil, get_or_append_left}
use Rattle.std.proofs.Math.Seq.{get_or-append_seam}
use Rattle.fix_journal.specs.Format.{front}
use Rattle.fix_journal.specs.declared.index.Index.{Index}
use Rattle.fix_journal.specs.Index.{IsShaped, IsIndexOf, IsSameIndex, Adds, IsLimit}

-- a list is what is taken of it, where that is as much
take_whole : {A : Type 0} (l : List A) (n : ℕ) → length l ≡ n → take n l ≡ l
take_whole l n long = ap (take n) (sym (append-nil l)) ∙ take_at l [] n long

pub of_none : (index : Index) → index.marks.items ≡ 9 ∷ [] → index.closed ≡ 9 → index.count ≡ 0 → IsIndexOf index []
of_none index marks closed count = record {
  count = count;
  closed = closed;
  marks = λ k le. at_start k (omega (arith, le));
}
  where
    at_start : (k : ℕ) → k ≡ 0 → get_or index.marks.items k 0 ≡ length (front (take (64 * k) []))
    at_start zero is = ap (λ l. get_or l 0 0) marks
    at_start (suc k) is = absurd (omega (arith, is))

-- room that was taken changes nothing
pub adds_after : (old mid new : Index) (next : ℕ) → IsSameIndex old mid → Adds next mid new → Adds next old new
adds_after old mid new next same adds = record {
  count = omega (arith, adds.count, same.count);
  closed = adds.closed;
  marked = λ is. adds.marked is ∙ ap (λ l. l ++ next ∷ []) same.marks;
  unmarked = λ no. adds.unmarked no ∙ same.marks;
}

module _ (old new : Index) (next : ℕ) (shaped : IsShaped old) (adds : Adds next old new) where
  pub still_shaped : old.closed < next → IsShaped new
  still_shaped further = elim (cases_eq (new.count % 64) 0) [
    | inl is ↦ record {
      few = omega (arith, shaped.few, adds.count, adds.closed, further);
      enough = omega (arith, shaped.enough, adds.count, ap length (adds.marked is), length-append old.marks.items (next ∷ []));
      no_more = omega (arith, shaped.no_more, adds.count, is, ap length (adds.marked is), length-append old.marks.items (next ∷ []));
    }
    | inr other ↦ record {
      few = omega (arith, shaped.few, adds.count, adds.closed, further);
      enough = below other;
      no_more = omega (arith, shaped.no_more, adds.count, ap length (adds.unmarked other));
    }
  ]
    where
      below : (new.count % 64 ≢ 0) → new.count < 64 * length new.marks.items
      below between = elim (cases_eq new.count (64 * length old.marks.items)) [
        | inl is ↦ absurd (between (omega (arith, is)))
        | inr other ↦ omega (arith, shaped.enough, adds.count, ap length (adds.unmarked between), other)
      ]

  pub added : (ps : List (List ℕ)) (p : List ℕ) → IsIndexOf old ps → next ≡ length (front (ps ++ p ∷ [])) → IsIndexOf new (ps ++ p ∷ [])
  added ps p is at = record {
    count = omega (arith, adds.count, is.count, length-append ps (p ∷ []));
    closed = adds.closed ∙ at;
    marks = λ k le. elim (cases_eq (64 * k) (length ps + 1)) [
      | inl last ↦ at_last k last
      | inr before ↦ at_before k (omega (arith, le, before, length-append ps (p ∷ [])))
    ];
  }
    where
      at_last : (k : ℕ) → 64 * k ≡ length ps + 1 → get_or new.marks.items k 0 ≡ length (front (take (64 * k) (ps ++ p ∷ [])))
      at_last k last =
          let long : length old.marks.items ≡ k = omega (arith, shaped.enough, shaped.no_more, is.count, last) in
          ap (λ l. get_or l k 0) (adds.marked (omega (arith, adds.count, is.count, last)))
          ∙ ap (λ n. get_or (old.marks.items ++ next ∷ []) n 0) (sym long)
          ∙ get_or-append_seam old.marks.items next [] 0
          ∙ at
          ∙ ap (λ l. length (front l)) (sym (take_whole (ps ++ p ∷ []) (64 * k) (omega (arith, last, length-append ps (p ∷ [])))))

      kept : (k : ℕ) → k < length old.marks.items → get_or new.marks.items k 0 ≡ get_or old.marks.items k 0
      kept k lt = elim (cases_eq (new.count % 64) 0) [
        | inl even ↦ ap (λ l. get_or l k 0) (adds.marked even) ∙ get_or_append_left old.marks.items (next ∷ []) 0 k lt
        | inr other ↦ ap (λ l. get_or l k 0) (adds.unmarked other)
      ]

      at_before : (k : ℕ) → 64 * k ≤ length ps → get_or new.marks.items k 0 ≡ length (front (take (64 * k) (ps ++ p ∷ [])))
      at_before k le =
          kept k (omega (arith, le, is.count, shaped.enough))
          ∙ is.marks k le
          ∙ ap (λ l. length (front l)) (sym (take-append-le (64 * k) ps (p ∷ []) le))

-- the closed gate is after every record
pub limit_closed : (index : Index) (ps : List (List ℕ)) (i : ℕ) → IsIndexOf index ps → i < index.count → IsLimit ps i index.closed
limit_closed index ps i is lt = (
  length ps,
  omega (arith, lt, is.count),
  is.closed ∙ ap (λ l. length (front l)) (sym (take_whole ps (length ps) refl)),
)
