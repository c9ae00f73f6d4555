-- What a store keeps in memory, one record more.
use Rattle.std.proofs.Common.{◌≡◌, ◌==◌, ℕ, ◌+◌, ◌≤◌, Bool, true, false, List, [], ◌∷◌, ◌++◌, length, refl, sym, ◌∙◌, ap, subst, arith, length-append}
use Rattle.std.specs.Prelude.{if◌then◌else◌}
use Rattle.std.specs.FinSet as set
use Rattle.std.specs.Cmp.{nat_cmp_total}
use Rattle.std.proofs.lemmas.Bool.{eqb-false}
use Rattle.fix_base.specs.declared.entry.Entry.{Entry}
use Rattle.fix_base.specs.declared.entry.Record.{Record}
use Rattle.fix_base.specs.declared.entry.Record.TheVariants.{Push, Expect, Many, Withhold, Reset, ResetAsk, Confirm}
use Rattle.fix_base.specs.declared.entry.Stored.{Stored}
use Rattle.fix_base.specs.End.{End, folded}
use Rattle.fix_base.specs.Payload.{IsKeepable}
use Rattle.fix_base.proofs.WroteLemmas.{IsEntry-inside}
use Rattle.fix_store.specs.Spelling.{Item, keeps, marks}
use Rattle.fix_store.specs.Reading.{LAST_NUMBER, Content, new_content, taken, taken_all, MayFollow}
use Rattle.fix_store.specs.Store.{stored_of, stored_with, withheld_of, withheld_with, HasNumber, HasNoNumber}
use Rattle.fix_store.specs.Counts.{counted_with, IsCounted}
use Rattle.fix_store.specs.Folding.{Fold, new_fold, fold_with, stored_in, expected_then, change_of, IsCountOf, IsFoldOf, IsWithin, IsFit, MayTake, NamesApp, HasPlaceIn}
use Rattle.fix_store.proofs.RecordLists.{fold-push, follow-push}
use Rattle.fix_store.proofs.CountLemmas.{counts_pushed, counts_none, counts_reset, none_is_counted, counted_step}

-- ---- one item more

many_out : (b : Bool) (e : End) (number : ℕ) → (if b then e else record e { stored = number }).out ≡ e.out
many_out true e number = refl
many_out false e number = refl

many_withheld : (b : Bool) (e : End) (number : ℕ) → (if b then e else record e { stored = number }).withheld ≡ e.withheld
many_withheld true e number = refl
many_withheld false e number = refl

many_stored : (b : Bool) (e : End) (number : ℕ) → stored_of (if b then e else record e { stored = number }) ≡ record { last = length e.out; expected = if b then e.stored else number; since = e.since; asked = e.asked }
many_stored true e number = refl
many_stored false e number = refl

abbrev with_last : Stored → ℕ → Stored
with_last s n = record { last = n; expected = s.expected; since = s.since; asked = s.asked }

-- what a store tells goes on as its end
pub stored_goes_on : (e : End) (r : Record) → stored_of (folded e r) ≡ stored_with (stored_of e) r
stored_goes_on e (Push entry) = ap (with_last (stored_of e)) (length-append e.out (entry ∷ []))
stored_goes_on e (Expect number) = refl
stored_goes_on e (Reset time) = refl
stored_goes_on e (Many pushes number) =
    many_stored (number == 0) (record e { out = e.out ++ pushes }) number
    ∙ ap (with_last (record (stored_of e) { expected = if number == 0 then e.stored else number })) (length-append e.out pushes)
stored_goes_on e (Withhold number) = refl
stored_goes_on e (ResetAsk time) = refl
stored_goes_on e Confirm = refl

pub withheld_goes_on : (e : End) (r : Record) → withheld_of (folded e r) ≡ withheld_with (withheld_of e) r
withheld_goes_on e (Push entry) = refl
withheld_goes_on e (Expect number) = refl
withheld_goes_on e (Reset time) = refl
withheld_goes_on e (Many pushes number) = ap set.from_list (many_withheld (number == 0) (record e { out = e.out ++ pushes }) number)
withheld_goes_on e (Withhold number) = set.from_list_push nat_cmp_total set.nat_cmp-IsAntisymmetric e.withheld number
withheld_goes_on e (ResetAsk time) = refl
withheld_goes_on e Confirm = refl

pub fold_goes_on : (index : ℕ) (f : Fold) (r : Record) → stored_in (fold_with index f (change_of (keeps r))) ≡ stored_with (stored_in f) r
fold_goes_on index f (Push entry) = refl
fold_goes_on index f (Expect number) = refl
fold_goes_on index f (Reset time) = refl
fold_goes_on index f (Many pushes number) = refl
fold_goes_on index f (Withhold number) = refl
fold_goes_on index f (ResetAsk time) = refl
fold_goes_on index f Confirm = refl

pub set_goes_on : (index : ℕ) (f : Fold) (r : Record) → (fold_with index f (change_of (keeps r))).withheld ≡ withheld_with f.withheld r
set_goes_on index f (Push entry) = refl
set_goes_on index f (Expect number) = refl
set_goes_on index f (Reset time) = refl
set_goes_on index f (Many pushes number) = refl
set_goes_on index f (Withhold number) = refl
set_goes_on index f (ResetAsk time) = refl
set_goes_on index f Confirm = refl

-- of a record, or of a mark, which changes neither
stored_step : (index : ℕ) (f : Fold) (s : Content) (i : Item) → stored_in f ≡ stored_of s.end → stored_in (fold_with index f (change_of i)) ≡ stored_of (taken s i).end
stored_step index f s (keeps r) is = fold_goes_on index f r ∙ ap (λ t. stored_with t r) is ∙ sym (stored_goes_on s.end r)
stored_step index f s marks is = is

withheld_step : (index : ℕ) (f : Fold) (s : Content) (i : Item) → f.withheld ≡ withheld_of s.end → (fold_with index f (change_of i)).withheld ≡ withheld_of (taken s i).end
withheld_step index f s (keeps r) is = set_goes_on index f r ∙ ap (λ w. withheld_with w r) is ∙ sym (withheld_goes_on s.end r)
withheld_step index f s marks is = is

marked_step : (index : ℕ) (f : Fold) (s : Content) (i : Item) → f.marked ≡ s.marked → (fold_with index f (change_of i)).marked ≡ (taken s i).marked
marked_step index f s (keeps (Push entry)) is = is
marked_step index f s (keeps (Expect number)) is = is
marked_step index f s (keeps (Reset time)) is = is
marked_step index f s (keeps (Many pushes number)) is = is
marked_step index f s (keeps (Withhold number)) is = is
marked_step index f s (keeps (ResetAsk time)) is = is
marked_step index f s (keeps Confirm) is = is
marked_step index f s marks is = refl

module _ (items : List Item) (f : Fold) (s : Content) (index : ℕ) (at : index ≡ length items) (are : IsCountOf items f.counts s.end.out) where
  counts_step : (i : Item) → IsCountOf (items ++ i ∷ []) (fold_with index f (change_of i)).counts (taken s i).end.out
  counts_step (keeps (Push entry)) = counts_pushed items f.counts s.end.out are (keeps (Push entry)) index at
  counts_step (keeps (Expect number)) = counts_none items f.counts s.end.out are (keeps (Expect number)) index at refl
  counts_step (keeps (Reset time)) = counts_reset items f.counts s.end.out are (keeps (Reset time)) index at refl
  counts_step (keeps (Many pushes number)) =
      subst (IsCountOf (items ++ keeps (Many pushes number) ∷ []) (counted_with index f.counts (f.counts.total + length pushes) (f.counts.last + length pushes)))
      (sym (many_out (number == 0) (record s.end { out = s.end.out ++ pushes }) number))
      (counts_pushed items f.counts s.end.out are (keeps (Many pushes number)) index at)
  counts_step (keeps (Withhold number)) = counts_none items f.counts s.end.out are (keeps (Withhold number)) index at refl
  counts_step (keeps (ResetAsk time)) = counts_reset items f.counts s.end.out are (keeps (ResetAsk time)) index at refl
  counts_step (keeps Confirm) = counts_none items f.counts s.end.out are (keeps Confirm) index at refl
  counts_step marks = counts_none items f.counts s.end.out are marks index at refl

-- ---- what may come next

many_long : (e : End) (pushes : List Entry) (number : ℕ) → length (folded e (Many pushes number)).out ≡ length e.out + length pushes
many_long e pushes number = ap length (many_out (number == 0) (record e { out = e.out ++ pushes }) number) ∙ length-append e.out pushes

module _ (items : List Item) (f : Fold) (folds : IsFoldOf items f) where
  abbrev s : Content
  s = taken_all new_content items

  pub count_out : f.counts.last ≡ length s.end.out
  count_out = ap (λ t. t.last) folds.stored

  pub may_follow : (i : Item) → IsFit i → f.counts.last ≤ LAST_NUMBER → MayTake f (change_of i) → NamesApp (change_of i) s.end → MayFollow s i
  may_follow (keeps (Push entry)) fits few may names = record { keepable = fits; numbered = omega (arith, may, count_out, length-append s.end.out (entry ∷ [])); after = tt }
  may_follow (keeps (Expect number)) fits few may names = record { keepable = fits; numbered = omega (arith, few, count_out); after = tt }
  may_follow (keeps (Reset time)) fits few may names = record { keepable = fits; numbered = omega arith; after = tt }
  may_follow (keeps (Many pushes number)) fits few may names = record { keepable = fits; numbered = omega (arith, may, count_out, many_long s.end pushes number); after = tt }
  may_follow (keeps (Withhold number)) fits few may names = record { keepable = names; numbered = omega (arith, few, count_out); after = tt }
  may_follow (keeps (ResetAsk time)) fits few may names = record { keepable = fits; numbered = omega arith; after = sym folds.marked ∙ may }
  may_follow (keeps Confirm) fits few may names = record { keepable = fits; numbered = omega (arith, few, count_out); after = sym folds.marked ∙ may }
  may_follow marks fits few may names = sym folds.marked ∙ may

  pub may_take : (i : Item) → MayFollow s i → MayTake f (change_of i)
  may_take (keeps (Push entry)) may = omega (arith, may.numbered, count_out, length-append s.end.out (entry ∷ []))
  may_take (keeps (Expect number)) may = tt
  may_take (keeps (Reset time)) may = tt
  may_take (keeps (Many pushes number)) may = omega (arith, may.numbered, count_out, many_long s.end pushes number)
  may_take (keeps (Withhold number)) may =
      let inside = IsEntry-inside may.keepable.1.entry in
      omega (arith, inside, count_out)
  may_take (keeps (ResetAsk time)) may = folds.marked ∙ may.after
  may_take (keeps Confirm) may = folds.marked ∙ may.after
  may_take marks may = folds.marked ∙ may

  pub names : (i : Item) → MayFollow s i → NamesApp (change_of i) s.end
  names (keeps (Push entry)) may = tt
  names (keeps (Expect number)) may = tt
  names (keeps (Reset time)) may = tt
  names (keeps (Many pushes number)) may = tt
  names (keeps (Withhold number)) may = may.keepable
  names (keeps (ResetAsk time)) may = tt
  names (keeps Confirm) may = tt
  names marks may = tt

  pub fold_step : (i : Item) (index : ℕ) → index ≡ length items → MayFollow s i → IsFoldOf (items ++ i ∷ []) (fold_with index f (change_of i))
  fold_step i index is may =
      let then_ = sym (fold-push new_content items i) in
      record {
        each = follow-push new_content items i folds.each may;
        stored = subst (λ t. stored_in (fold_with index f (change_of i)) ≡ stored_of t.end) then_ (stored_step index f s i folds.stored);
        counts = subst (λ t. IsCountOf (items ++ i ∷ []) (fold_with index f (change_of i)).counts t.end.out) then_ (counts_step items f s index is folds.counts i);
        withheld = subst (λ t. (fold_with index f (change_of i)).withheld ≡ withheld_of t.end) then_ (withheld_step index f s i folds.withheld);
        marked = subst (λ t. (fold_with index f (change_of i)).marked ≡ t.marked) then_ (marked_step index f s i folds.marked);
      }

pub nothing_yet : IsFoldOf [] new_fold
nothing_yet = record { each = tt; stored = refl; counts = none_is_counted; withheld = refl; marked = refl }

-- ---- what a store tells of it

pub has_number : (f : Fold) (r : Record) → MayTake f (change_of (keeps r)) → HasNumber r (stored_in f)
has_number f (Push entry) may = omega (arith, may)
has_number f (Expect number) may = tt
has_number f (Reset time) may = tt
has_number f (Many pushes number) may = may
has_number f (Withhold number) may = tt
has_number f (ResetAsk time) may = tt
has_number f Confirm may = tt

pub has_none : (f : Fold) (r : Record) → f.counts.last ≤ LAST_NUMBER → f.marked ≡ true → HasPlaceIn (stored_in f) r → (MayTake f (change_of (keeps r)) → ⊥) → HasNoNumber r (stored_in f)
has_none f (Push entry) few marked place not = omega (arith, few, not)
has_none f (Expect number) few marked place not = not tt
has_none f (Reset time) few marked place not = not tt
has_none f (Many pushes number) few marked place not = omega (arith, not)
has_none f (Withhold number) few marked place not = not place
has_none f (ResetAsk time) few marked place not = not marked
has_none f Confirm few marked place not = not marked

-- ---- the numbers are in their ranges, whatever the disk gave back

expected_fits : (old number : ℕ) → IsKeepable (Expect old) → number ≤ 1000000000 → IsKeepable (Expect (expected_then old number))
expected_fits old number fits le = by_none (number == 0) refl
  where
    by_none : (b : Bool) → (number == 0) ≡ b → IsKeepable (Expect (if b then old else number))
    by_none true is = fits
    by_none false is = (omega (arith, eqb-false number 0 is), le)

module _ (f : Fold) (count index next : ℕ) (within : IsWithin f count) (here : index ≡ count) (after : next ≡ count + 1) where
  passed : IsCounted (counted_with index f.counts f.counts.total f.counts.last) next
  passed = counted_step f.counts count within.counted index next f.counts.total f.counts.last here after within.counted.few

  more : (n : ℕ) → IsCounted (counted_with index f.counts (f.counts.total + n) (f.counts.last + n)) next
  more n =
      let few = within.counted.few in
      counted_step f.counts count within.counted index next (f.counts.total + n) (f.counts.last + n) here after (omega (arith, few))

  none : IsCounted (counted_with index f.counts f.counts.total 0) next
  none = counted_step f.counts count within.counted index next f.counts.total 0 here after (omega arith)

  -- one item more, of this index
  pub within_step : (i : Item) → IsFit i → MayTake f (change_of i) → IsWithin (fold_with index f (change_of i)) next
  within_step (keeps (Push entry)) fits may = record { few = may; expected = within.expected; since = within.since; counted = more 1 }
  within_step (keeps (Expect number)) fits may = record { few = within.few; expected = fits; since = within.since; counted = passed }
  within_step (keeps (Reset time)) fits may = record { few = omega arith; expected = (omega arith, omega arith); since = fits; counted = none }
  within_step (keeps (Many pushes number)) fits may = record { few = may; expected = expected_fits f.expected number within.expected fits.number_fits; since = within.since; counted = more (length pushes) }
  within_step (keeps (Withhold number)) fits may = record { few = within.few; expected = within.expected; since = within.since; counted = passed }
  within_step (keeps (ResetAsk time)) fits may = record { few = omega arith; expected = (omega arith, omega arith); since = fits; counted = none }
  within_step (keeps Confirm) fits may = record { few = within.few; expected = within.expected; since = within.since; counted = passed }
  within_step marks fits may = record { few = within.few; expected = within.expected; since = within.since; counted = passed }
