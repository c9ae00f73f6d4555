-- The first row of a table that holds.
use Rattle.std.proofs.Common.{◌≡◌, inl, inr, List, [], ◌∷◌, ◌++◌, Option, Some, None, refl, sym, ap, ◌∙◌, subst, rules}
use Rattle.fix_base.specs.declared.fault.Fault.{Fault}
use Rattle.fix_validate.specs.Rows.{Row, AreFaults, first, IsFirst, Finds}

none_some : {A : Type 0} {x : A} → Some x ≡ None → ⊥
none_some h = search rules

pub finds_none : (a : Option Fault) → a ≡ None → Finds [] a
finds_none a e = record { is = e }

pub finds_here : (r : Row) (rs : List Row) (a : Option Fault) → r.holds → a ≡ Some r.fault → Finds (r ∷ rs) a
finds_here r rs a h e = record { is = inl (h, e) }

pub finds_later : (r : Row) (rs : List Row) (a : Option Fault) → (r.holds → ⊥) → Finds rs a → Finds (r ∷ rs) a
finds_later r rs a off h = record { is = inr (off, h.is) }

front_is : (xs ys : List Row) (f : Fault) → IsFirst xs (Some f) → IsFirst (xs ++ ys) (Some f)
front_is [] ys f h = absurd (none_some h)
front_is (r ∷ rs) ys f (inl h) = inl h
front_is (r ∷ rs) ys f (inr h) = inr (h.0, front_is rs ys f h.1)

behind_is : (xs ys : List Row) (a : Option Fault) → IsFirst xs None → IsFirst ys a → IsFirst (xs ++ ys) a
behind_is [] ys a h k = k
behind_is (r ∷ rs) ys a (inl h) k = absurd (none_some (sym h.1))
behind_is (r ∷ rs) ys a (inr h) k = inr (h.0, behind_is rs ys a h.1 k)

-- what is found at the front is found in the whole
pub finds_front : (xs ys : List Row) (a : Option Fault) (f : Fault) → a ≡ Some f → Finds xs a → Finds (xs ++ ys) a
finds_front xs ys a f e h = subst (Finds (xs ++ ys)) (sym e) (record { is = front_is xs ys f (subst (IsFirst xs) e h.is) })

-- and where nothing is, what is found behind it
pub finds_behind : (xs ys : List Row) (a b : Option Fault) → b ≡ None → Finds xs b → Finds ys a → Finds (xs ++ ys) a
finds_behind xs ys a b e h k = record { is = behind_is xs ys a (subst (IsFirst xs) e h.is) k.is }

-- the first row that holds has the first of all faults
pub first_of_all : (rs : List Row) (faults : List Fault) (a : Option Fault) → AreFaults rs faults → IsFirst rs a → a ≡ first faults
first_of_all [] faults a all h = h ∙ sym (ap first all)
first_of_all (r ∷ rs) faults a (inl x) (inl y) = y.1 ∙ sym (ap first x.2)
first_of_all (r ∷ rs) faults a (inl x) (inr y) = absurd (y.0 x.0)
first_of_all (r ∷ rs) faults a (inr x) (inl y) = absurd (x.0 y.0)
first_of_all (r ∷ rs) faults a (inr x) (inr y) = first_of_all rs faults a x.1 y.1

-- ---- a loop over a table: what is found in the rest is found in the whole

pub record GoesOn (all rest : List Row) : Type 0 where
  pub each : (a : Option Fault) → Finds rest a → Finds all a

pub goes_start : (all : List Row) → GoesOn all all
goes_start all = record { each = λ a h. h }

pub goes_same : (all rest more : List Row) → rest ≡ more → GoesOn all rest → GoesOn all more
goes_same all rest more e h = record { each = λ a k. h.each a (record { is = subst (λ (l : List Row). IsFirst l a) (sym e) k.is }) }

pub goes_step : (all xs ys : List Row) (a : Option Fault) → a ≡ None → Finds xs a → GoesOn all (xs ++ ys) → GoesOn all ys
goes_step all xs ys a e none h = record { each = λ b k. h.each b (finds_behind xs ys b a e none k) }

pub goes_past : (all ys : List Row) (r : Row) → (r.holds → ⊥) → GoesOn all (r ∷ ys) → GoesOn all ys
goes_past all ys r off h = record { each = λ b k. h.each b (finds_later r ys b off k) }

pub stops_in : (all xs ys : List Row) (a : Option Fault) (f : Fault) → a ≡ Some f → Finds xs a → GoesOn all (xs ++ ys) → Finds all (Some f)
stops_in all xs ys a f e found h = h.each (Some f) (subst (Finds (xs ++ ys)) e (finds_front xs ys a f e found))

pub stops_at : (all ys : List Row) (r : Row) (a : Option Fault) → r.holds → a ≡ Some r.fault → GoesOn all (r ∷ ys) → Finds all a
stops_at all ys r a holds e h = h.each a (finds_here r ys a holds e)

pub goes_end : (all rest : List Row) → rest ≡ [] → GoesOn all rest → Finds all None
goes_end all rest e h = h.each None (record { is = subst (λ (l : List Row). IsFirst l None) (sym e) refl })

-- what is found at the front, as a fault
pub ends_front : (xs ys : List Row) (r : Option Fault) (f : Fault) → r ≡ Some f → Finds xs r → Finds (xs ++ ys) (Some f)
ends_front xs ys r f e h = subst (Finds (xs ++ ys)) e (finds_front xs ys r f e h)

-- one fault is the first
pub only_first : (rs : List Row) (a b : Option Fault) → IsFirst rs a → IsFirst rs b → a ≡ b
only_first [] a b h k = h ∙ sym k
only_first (r ∷ rs) a b (inl x) (inl y) = x.1 ∙ sym y.1
only_first (r ∷ rs) a b (inl x) (inr y) = absurd (y.0 x.0)
only_first (r ∷ rs) a b (inr x) (inl y) = absurd (x.0 y.0)
only_first (r ∷ rs) a b (inr x) (inr y) = only_first rs a b x.1 y.1
