-- How many entries the records of a store have, record by record.
use Rattle.std.proofs.Common.{◌≡◌, inl, inr, ◌==◌, ℕ, ◌+◌, ◌*◌, ◌/◌, ◌%◌, ◌<◌, ◌≤◌, Bool, true, false, List, [], ◌∷◌, ◌++◌, length, Some, refl, sym, ◌∙◌, ap, subst, arith, length-append, append_assoc, append-nil}
use Rattle.std.specs.Prelude.{slice_get, if◌then◌else◌}
use Rattle.std.proofs.lemmas.Bool.{cases_lt, cases_eq, eqb-true, eqb-false}
use Rattle.std.proofs.lemmas.List.{take_all, take-append-le}
use Rattle.fix_base.specs.declared.entry.Entry.{Entry}
use Rattle.fix_store.specs.Spelling.{Item}
use Rattle.fix_store.specs.Counts.{Counted, counted_with, with_mark, IsCounted, IsSearchable}
use Rattle.fix_store.specs.Folding.{pushes_of, pushed, entries_before, IsCountOf}
use Rattle.fix_store.proofs.RecordLists.{get_front, get_at}

-- ---- the entries of items

pub pushed_append : (xs ys : List Item) → pushed (xs ++ ys) ≡ pushed xs ++ pushed ys
pushed_append [] ys = refl
pushed_append (i ∷ xs) ys = ap (λ l. pushes_of i ++ l) (pushed_append xs ys) ∙ sym (append_assoc (pushes_of i) (pushed xs) (pushed ys))

pub pushed_push : (items : List Item) (i : Item) → pushed (items ++ i ∷ []) ≡ pushed items ++ pushes_of i
pushed_push items i = pushed_append items (i ∷ []) ∙ ap (λ l. pushed items ++ l) (append-nil (pushes_of i))

pub before_more : (items : List Item) (i : Item) (n : ℕ) → n ≤ length items → entries_before (items ++ i ∷ []) n ≡ entries_before items n
before_more items i n le = ap (λ l. length (pushed l)) (take-append-le n items (i ∷ []) le)

before_all : (items : List Item) (i : Item) → entries_before (items ++ i ∷ []) (length items) ≡ length (pushed items)
before_all items i = before_more items i (length items) (omega arith) ∙ ap (λ l. length (pushed l)) (take_all (length items) items (omega arith))

-- ---- a record more

module _ (items : List Item) (i : Item) (before : List ℕ) (total : ℕ) (is : total ≡ length (pushed items)) (long : length before ≡ (length items + 63) / 64) (each : (k : ℕ) → k < length before → slice_get before k ≡ Some (entries_before items (64 * k))) where
  abbrev IsRight : List ℕ → Type 0
  IsRight b = (length b ≡ (length (items ++ i ∷ []) + 63) / 64) × ((k : ℕ) → k < length b → slice_get b k ≡ Some (entries_before (items ++ i ∷ []) (64 * k)))

  inside : (k : ℕ) → k < length before → 64 * k ≤ length items
  inside k lt = omega (arith, lt, long)

  by_mark : (b : Bool) → (length items % 64 == 0) ≡ b → IsRight (if b then before ++ total ∷ [] else before)
  by_mark false none = (
    omega (arith, long, length-append items (i ∷ []), eqb-false (length items % 64) 0 none),
    λ k lt. each k lt ∙ ap Some (sym (before_more items i (64 * k) (inside k lt))),
  )
  by_mark true some =
      let even : length items % 64 ≡ 0 = eqb-true (length items % 64) 0 some in
      let at_end : 64 * length before ≡ length items = omega (arith, long, even) in (
        omega (arith, long, even, length-append items (i ∷ []), length-append before (total ∷ [])),
        λ k lt. elim (cases_lt k (length before)) [
          | inl front ↦ get_front before (total ∷ []) k (entries_before items (64 * k)) (each k front) ∙ ap Some (sym (before_more items i (64 * k) (inside k front)))
          | inr last ↦ (
              let here : k ≡ length before = omega (arith, last, lt, length-append before (total ∷ [])) in
              subst (λ n. slice_get (before ++ total ∷ []) n ≡ Some (entries_before (items ++ i ∷ []) (64 * n))) (sym here)
              (get_at before total [] ∙ ap Some (is ∙ sym (before_all items i) ∙ ap (entries_before (items ++ i ∷ [])) (sym at_end))))
        ],
      )

  pub marks_step : IsRight (with_mark (length items) total before)
  marks_step = by_mark (length items % 64 == 0) refl

module _ (items : List Item) (c : Counted) (out : List Entry) (is : IsCountOf items c out) (i : Item) (index : ℕ) (at : index ≡ length items) where
  counted : (total last : ℕ) (new front : List Entry) → total ≡ length (pushed (items ++ i ∷ [])) → last ≡ length new → pushed (items ++ i ∷ []) ≡ front ++ new → IsCountOf (items ++ i ∷ []) (counted_with index c total last) new
  counted total last new front t l p =
      let marks = marks_step items i c.before c.total is.total is.long is.each in
      subst (λ n. IsCountOf (items ++ i ∷ []) (counted_with n c total last) new) (sym at) (record { total = t; last = l; long = marks.0; each = marks.1; front = front; is = p })

  pub counts_pushed : IsCountOf (items ++ i ∷ []) (counted_with index c (c.total + length (pushes_of i)) (c.last + length (pushes_of i))) (out ++ pushes_of i)
  counts_pushed =
      counted (c.total + length (pushes_of i)) (c.last + length (pushes_of i)) (out ++ pushes_of i) is.front
      (omega (arith, is.total, ap length (pushed_push items i), length-append (pushed items) (pushes_of i)))
      (omega (arith, is.last, length-append out (pushes_of i)))
      (pushed_push items i ∙ ap (λ l. l ++ pushes_of i) is.is ∙ append_assoc is.front out (pushes_of i))

  module _ (none : pushes_of i ≡ []) where
    as_before : pushed (items ++ i ∷ []) ≡ pushed items
    as_before = pushed_push items i ∙ ap (λ l. pushed items ++ l) none ∙ append-nil (pushed items)

    pub counts_none : IsCountOf (items ++ i ∷ []) (counted_with index c c.total c.last) out
    counts_none = counted c.total c.last out is.front (is.total ∙ sym (ap length as_before)) is.last (as_before ∙ is.is)

    pub counts_reset : IsCountOf (items ++ i ∷ []) (counted_with index c c.total 0) []
    counts_reset = counted c.total 0 [] (pushed (items ++ i ∷ [])) (is.total ∙ sym (ap length as_before)) refl (sym (append-nil (pushed (items ++ i ∷ []))))

pub none_is_counted : IsCountOf [] (record { before = []; total = 0; last = 0 }) []
none_is_counted = record { total = refl; last = refl; long = omega arith; each = λ k lt. absurd (omega (arith, lt)); front = []; is = refl }

-- ---- whatever the disk gave back

first_stays : (b : Bool) (before : List ℕ) (total : ℕ) → slice_get before 0 ≡ Some 0 → slice_get (if b then before ++ total ∷ [] else before) 0 ≡ Some 0
first_stays true before total is = get_front before (total ∷ []) 0 0 is
first_stays false before total is = is

long_step : (before : List ℕ) (total count : ℕ) (b : Bool) → (count % 64 == 0) ≡ b → length before ≡ (count + 63) / 64 → length (if b then before ++ total ∷ [] else before) ≡ (count + 1 + 63) / 64
long_step before total count true is long = omega (arith, long, eqb-true (count % 64) 0 is, length-append before (total ∷ []))
long_step before total count false is long = omega (arith, long, eqb-false (count % 64) 0 is)

module _ (c : Counted) (count : ℕ) (is : IsCounted c count) where
  first_step : slice_get (with_mark count c.total c.before) 0 ≡ Some 0
  first_step = elim (cases_eq count 0) [
    | inl empty ↦ (let none = is.none empty in (λ i. slice_get (with_mark (empty i) (none.0 i) (none.1 i)) 0) ∙ refl)
    | inr not ↦ first_stays (count % 64 == 0) c.before c.total (is.first (omega (arith, not)))
  ]

  pub counted_step : (index next total last : ℕ) → index ≡ count → next ≡ count + 1 → last ≤ total → IsCounted (counted_with index c total last) next
  counted_step index next total last here after few =
      subst (λ n. IsCounted (counted_with n c total last) next) (sym here) (record {
        few = few;
        long = long_step c.before c.total count (count % 64 == 0) refl is.long ∙ ap (λ n. (n + 63) / 64) (sym after);
        none = λ empty. absurd (omega (arith, empty, after));
        first = λ some. first_step;
      })

  pub searchable : (records : ℕ) → count ≤ records → IsSearchable c records
  searchable records le = record {
    few = is.few;
    first = λ some. elim (cases_eq count 0) [
      | inl empty ↦ absurd (omega (arith, some, (is.none empty).0))
      | inr not ↦ is.first (omega (arith, not))
    ];
    within = λ k lt. omega (arith, lt, is.long, le);
  }

pub counted_none : IsCounted (record { before = []; total = 0; last = 0 }) 0
counted_none = record { few = omega arith; long = omega arith; none = λ empty. (refl, refl); first = λ some. absurd (omega (arith, some)) }
