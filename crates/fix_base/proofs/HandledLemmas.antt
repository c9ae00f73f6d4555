-- `fresh` and the greatest number, where one more message was handled.
use Rattle.std.proofs.Common.{◌≡◌, ◌⊎◌, inl, inr, ℕ, ◌<◌, ◌≤◌, ◌==◌, max, List, [], ◌∷◌, ◌++◌, Bool, true, false, refl, sym, ap, ◌∙◌, subst, append_assoc, arith}
use Rattle.std.proofs.lemmas.List.{append-nil}
use Rattle.std.proofs.lemmas.Bool.{eqb-true}
use Rattle.fix_base.specs.Lists.{Among, here, there}
use Rattle.fix_base.specs.End.{Sent}
use Rattle.fix_base.specs.EndStep.{Handling}
use Rattle.fix_base.specs.Agrees.{has_number, fresh_item, fresh_beyond, fresh, greatest}
use Rattle.fix_base.proofs.ListLemmas.{Among-append_left, Among-append_right, Among-append_cases}

-- the numbers that came before what follows these
abbrev pub seen_after : List ℕ → List Handling → List ℕ
seen_after seen [] = seen
seen_after seen (h ∷ handled) = seen_after (h.number ∷ seen) handled

pub seen_after-snoc : (seen : List ℕ) (hs : List Handling) (h : Handling) → seen_after seen (hs ++ h ∷ []) ≡ h.number ∷ seen_after seen hs
seen_after-snoc seen [] h = refl
seen_after-snoc seen (x ∷ hs) h = seen_after-snoc (x.number ∷ seen) hs h

-- the two parts of a list
fresh_beyond-parts : (seen : List ℕ) (hs ks : List Handling) → fresh_beyond seen (hs ++ ks) ≡ fresh_beyond seen hs ++ fresh_beyond (seen_after seen hs) ks
fresh_beyond-parts seen [] ks = refl
fresh_beyond-parts seen (x ∷ hs) ks =
    ap (λ w. fresh_item seen x ++ w) (fresh_beyond-parts (x.number ∷ seen) hs ks) ∙ sym (append_assoc (fresh_item seen x) (fresh_beyond (x.number ∷ seen) hs) (fresh_beyond (seen_after (x.number ∷ seen) hs) ks))

fresh_beyond-append : (seen : List ℕ) (hs : List Handling) (h : Handling) → fresh_beyond seen (hs ++ h ∷ []) ≡ fresh_beyond seen hs ++ fresh_item (seen_after seen hs) h
fresh_beyond-append seen [] h = append-nil (fresh_item seen h)
fresh_beyond-append seen (x ∷ hs) h =
    ap (λ w. fresh_item seen x ++ w) (fresh_beyond-append (x.number ∷ seen) hs h) ∙ sym (append_assoc (fresh_item seen x) (fresh_beyond (x.number ∷ seen) hs) (fresh_item (seen_after (x.number ∷ seen) hs) h))

item_seen : (seen : List ℕ) (h : Handling) → has_number h.number seen ≡ true → fresh_item seen h ≡ []
item_seen seen h e = rw e refl

item_unseen : (seen : List ℕ) (h : Handling) → has_number h.number seen ≡ false → fresh_item seen h ≡ record { number = h.number; body = h.body } ∷ []
item_unseen seen h e = rw e refl

-- a message that comes again adds nothing
pub fresh-again : (hs : List Handling) (h : Handling) → has_number h.number (seen_after [] hs) ≡ true → fresh (hs ++ h ∷ []) ≡ fresh hs
fresh-again hs h e = fresh_beyond-append [] hs h ∙ ap (λ w. fresh hs ++ w) (item_seen (seen_after [] hs) h e) ∙ append-nil (fresh hs)

pub fresh-new : (hs : List Handling) (h : Handling) → has_number h.number (seen_after [] hs) ≡ false → fresh (hs ++ h ∷ []) ≡ fresh hs ++ record { number = h.number; body = h.body } ∷ []
fresh-new hs h e = fresh_beyond-append [] hs h ∙ ap (λ w. fresh hs ++ w) (item_unseen (seen_after [] hs) h e)

pub greatest-append : (hs : List Handling) (h : Handling) → greatest (hs ++ h ∷ []) ≡ max (greatest hs) h.number
greatest-append [] h = omega arith
greatest-append (x ∷ hs) h = omega (arith, greatest-append hs h)

pub Among-greatest : {h : Handling} {hs : List Handling} → Among h hs → h.number ≤ greatest hs
Among-greatest {h = h} (here {xs = xs}) = omega arith
Among-greatest (there {y = y} {xs = xs} m) = omega (arith, Among-greatest m)

-- a test is one of the two
pub test : (b : Bool) → (b ≡ true) ⊎ (b ≡ false)
test true = inl refl
test false = inr refl

pub has_number-cons : (n k : ℕ) (ks : List ℕ) → has_number n ks ≡ true → has_number n (k ∷ ks) ≡ true
has_number-cons n k ks h = elim (test (n == k)) [ inl t ↦ rw t refl | inr f ↦ rw f h ]

pub has_number-head : (n k : ℕ) (ks : List ℕ) → has_number n (k ∷ ks) ≡ true → (n ≡ k) ⊎ (has_number n ks ≡ true)
has_number-head n k ks h = elim (test (n == k)) [ inl t ↦ inl (eqb-true n k t) | inr f ↦ inr (rw f at h) ]

pub has_number-self : (n : ℕ) (ks : List ℕ) → has_number n (n ∷ ks) ≡ true
has_number-self n ks = let e : (n == n) ≡ true = grind arith in rw e refl

seen_stays : (n : ℕ) (seen : List ℕ) (hs : List Handling) → has_number n seen ≡ true → has_number n (seen_after seen hs) ≡ true
seen_stays n seen [] h = h
seen_stays n seen (x ∷ hs) h = seen_stays n (x.number ∷ seen) hs (has_number-cons n x.number seen h)

-- what was seen was seen before, or is no greater than the greatest
seen_small : (n : ℕ) (seen : List ℕ) (hs : List Handling) → has_number n (seen_after seen hs) ≡ true → (has_number n seen ≡ true) ⊎ (n ≤ greatest hs)
seen_small n seen [] h = inl h
seen_small n seen (x ∷ hs) h =
    elim (seen_small n (x.number ∷ seen) hs h) [
      | inl a ↦ elim (has_number-head n x.number seen a) [ inl e ↦ inr (omega (arith, e)) | inr b ↦ inl b ]
      | inr b ↦ inr (omega (arith, b))
    ]

pub seen-greatest : (n : ℕ) (hs : List Handling) → has_number n (seen_after [] hs) ≡ true → n ≤ greatest hs
seen-greatest n hs h = elim (seen_small n [] hs h) [ inl a ↦ cc | inr b ↦ b ]

fresh_item-number : (s : Sent) (seen : List ℕ) (h : Handling) (b : Bool) → has_number h.number seen ≡ b → Among s (fresh_item seen h) → s.number ≡ h.number
fresh_item-number s seen h true e m = elim (rw (item_seen seen h e) at m) [ ]
fresh_item-number s seen h false e m = of_one s (record { number = h.number; body = h.body }) (rw (item_unseen seen h e) at m)
  where
    of_one : (s t : Sent) → Among s (t ∷ []) → s.number ≡ t.number
    of_one s t here = refl
    of_one s t (there k) = elim k [ ]

fresh_was_seen : (s : Sent) (seen : List ℕ) (hs : List Handling) → Among s (fresh_beyond seen hs) → has_number s.number (seen_after seen hs) ≡ true
fresh_was_seen s seen [] m = elim m [ ]
fresh_was_seen s seen (x ∷ hs) m =
    elim (Among-append_cases (fresh_item seen x) (fresh_beyond (x.number ∷ seen) hs) m) [
      | inl a ↦ seen_stays s.number (x.number ∷ seen) hs (subst (λ k. has_number k (x.number ∷ seen) ≡ true) (sym (fresh_item-number s seen x (has_number x.number seen) refl a)) (has_number-self x.number seen))
      | inr b ↦ fresh_was_seen s (x.number ∷ seen) hs b
    ]

-- what is in `fresh` was handled
pub fresh-seen : (s : Sent) (hs : List Handling) → Among s (fresh hs) → has_number s.number (seen_after [] hs) ≡ true
fresh-seen s hs m = fresh_was_seen s [] hs m

-- a message that comes for its first time stands behind what was handled before it
pub fresh-middle : (hs ks : List Handling) (h : Handling) → has_number h.number (seen_after [] hs) ≡ false → fresh (hs ++ h ∷ ks) ≡ fresh hs ++ record { number = h.number; body = h.body } ∷ fresh_beyond (h.number ∷ seen_after [] hs) ks
fresh-middle hs ks h e = fresh_beyond-parts [] hs (h ∷ ks) ∙ ap (λ w. fresh hs ++ (w ++ fresh_beyond (h.number ∷ seen_after [] hs) ks)) (item_unseen (seen_after [] hs) h e)

-- a number that was seen is one of an earlier message
pub seen_earlier : (n : ℕ) (seen : List ℕ) (hs : List Handling) → has_number n (seen_after seen hs) ≡ true → (has_number n seen ≡ true) ⊎ ((earlier : Handling) × Among earlier hs × (earlier.number ≡ n))
seen_earlier n seen [] h = inl h
seen_earlier n seen (x ∷ hs) h =
    elim (seen_earlier n (x.number ∷ seen) hs h) [
      | inl a ↦ elim (has_number-head n x.number seen a) [ inl e ↦ inr (x, here, sym e) | inr b ↦ inl b ]
      | inr found ↦ inr (found.0, there found.1, found.2)
    ]

-- what bounds the first times bounds all
greatest_bounded : (m : ℕ) (seen : List ℕ) (hs : List Handling) → 0 < m → ((k : ℕ) → has_number k seen ≡ true → k < m) → ((s : Sent) → Among s (fresh_beyond seen hs) → s.number < m) → greatest hs < m
greatest_bounded m seen [] some old new = some
greatest_bounded m seen (x ∷ hs) some old new =
    let first = first_bounded (has_number x.number seen) refl in
    let later = greatest_bounded m (x.number ∷ seen) hs some (λ k h. elim (has_number-head k x.number seen h) [ inl e ↦ omega (arith, e, first) | inr h ↦ old k h ]) (λ s among. new s (Among-append_right (fresh_item seen x) among)) in
    omega (arith, first, later)
  where
    first_bounded : (b : Bool) → has_number x.number seen ≡ b → x.number < m
    first_bounded true e = old x.number e
    first_bounded false e = new (record { number = x.number; body = x.body }) (Among-append_left (fresh_beyond (x.number ∷ seen) hs) (subst (λ w. Among (record { number = x.number; body = x.body }) w) (sym (item_unseen seen x e)) here))

pub fresh_bounds : (m : ℕ) (hs : List Handling) → 0 < m → ((s : Sent) → Among s (fresh hs) → s.number < m) → greatest hs < m
fresh_bounds m hs some each = greatest_bounded m [] hs some (λ k h. cc) each
