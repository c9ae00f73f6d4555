-- Agreement stays as the writer's end grows, as the reader passes what is no application message, is
-- withheld or was handled, and as it handles the message of the expected number.
use Rattle.std.proofs.Common.{◌≡◌, ◌⊎◌, inl, inr, ℕ, zero, suc, ◌+◌, ◌-◌, ◌<◌, ◌≤◌, List, [], ◌∷◌, ◌++◌, length, length-append, true, false, refl, sym, ap, ◌∙◌, subst, append_assoc, lt_of_not-le, arith}
use Rattle.std.proofs.lemmas.List.{append-nil}
use Rattle.std.proofs.Math.Decide.{dec_le}
use Rattle.fix_base.specs.Lists.{Among, here, there, IsPrefixOf}
use Rattle.fix_base.specs.End.{By, Entry, App, Admin, End, Sent, app_entries_from, app_entries, IsEntry, IsAppAt, IsSkipped, admin, withheld, GrowsTo}
use Rattle.fix_base.specs.EndStep.{Handling}
use Rattle.fix_base.specs.Wrote.{SkipsBetween}
use Rattle.fix_base.specs.Agrees.{has_number, fresh, greatest, top, Less, none, keeps, drops, Agrees, IsPrefixLess}
use Rattle.fix_base.proofs.ListLemmas.{Among-append_right, Among-prefix, fronts_same, front_splits}
use Rattle.fix_base.proofs.HandledLemmas.{seen_after, fresh-again, fresh-new, greatest-append, seen-greatest, fresh-seen, test}

pub le_or_lt : (n m : ℕ) → (n ≤ m) ⊎ (m < n)
le_or_lt n m = elim (dec_le n m) [ yes h ↦ inl h | no h ↦ inr (lt_of_not-le h) ]

pub app_entries_from-append : (n : ℕ) (xs ys : List Entry) → app_entries_from n (xs ++ ys) ≡ app_entries_from n xs ++ app_entries_from (n + length xs) ys
app_entries_from-append n [] ys = ap (λ k. app_entries_from k ys) (omega arith)
app_entries_from-append n (App time by body ∷ xs) ys =
    ap (λ w. record { number = n; body = body } ∷ w) (app_entries_from-append (suc n) xs ys ∙ ap (λ k. app_entries_from (suc n) xs ++ app_entries_from k ys) (omega arith))
app_entries_from-append n (Admin time kind about ∷ xs) ys = app_entries_from-append (suc n) xs ys ∙ ap (λ k. app_entries_from (suc n) xs ++ app_entries_from k ys) (omega arith)

app_entries-admin : (xs : List Entry) (time kind about : ℕ) → app_entries (xs ++ Admin time kind about ∷ []) ≡ app_entries xs
app_entries-admin xs time kind about = app_entries_from-append 1 xs (Admin time kind about ∷ []) ∙ append-nil (app_entries xs)

app_entries-app : (xs : List Entry) (time : ℕ) (by : By) (body : List ℕ) → app_entries (xs ++ App time by body ∷ []) ≡ app_entries xs ++ record { number = suc (length xs); body = body } ∷ []
app_entries-app xs time by body =
    app_entries_from-append 1 xs (App time by body ∷ []) ∙ ap (λ n. app_entries xs ++ record { number = n; body = body } ∷ []) (omega arith)

-- ---- messages less some

pub Less-append : {held : List ℕ} {all left others more : List Sent} → Less held all left → Less held others more → Less held (all ++ others) (left ++ more)
Less-append none m = m
Less-append (keeps x l) m = keeps x (Less-append l m)
Less-append (drops x h l) m = drops x h (Less-append l m)

-- one more that is withheld
pub Less-drop : {held : List ℕ} {all left : List Sent} (x : Sent) → Among x.number held → Less held all left → Less held (all ++ x ∷ []) left
Less-drop x h none = drops x h none
Less-drop x h (keeps y l) = keeps y (Less-drop x h l)
Less-drop x h (drops y k l) = drops y k (Less-drop x h l)

-- where more are withheld
pub Less-more : {held more : List ℕ} {all left : List Sent} → IsPrefixOf held more → Less held all left → Less more all left
Less-more p none = none
Less-more p (keeps x l) = keeps x (Less-more p l)
Less-more p (drops x h l) = drops x (Among-prefix p h) (Less-more p l)

-- each was left, or is withheld
pub Less-cases : {held : List ℕ} {all left : List Sent} {x : Sent} → Less held all left → Among x all → Among x left ⊎ Among x.number held
Less-cases none m = elim m [ ]
Less-cases (keeps y l) here = inl here
Less-cases (keeps y l) (there m) = elim (Less-cases l m) [ inl a ↦ inl (there a) | inr h ↦ inr h ]
Less-cases (drops y h l) here = inr h
Less-cases (drops y h l) (there m) = Less-cases l m

-- what is left is of them
pub Less-among : {held : List ℕ} {all left : List Sent} {x : Sent} → Less held all left → Among x left → Among x all
Less-among none m = m
Less-among (keeps y l) here = here
Less-among (keeps y l) (there m) = there (Less-among l m)
Less-among (drops y h l) m = there (Less-among l m)

-- ---- agreement

-- the writer's end grows
pub Agrees-more : {stored : ℕ} {handled : List Handling} {f more : End} → GrowsTo f more → Agrees stored handled f → Agrees stored handled more
Agrees-more p a = record { below = a.below; rest = a.rest ++ p.out.rest; is = p.out.is ∙ ap (λ w. w ++ p.out.rest) a.is ∙ append_assoc a.below a.rest p.out.rest; many = a.many; same = Less-more p.withheld a.same }

Agrees-top : {n m : ℕ} {handled : List Handling} {f : End} → top n handled ≡ top m handled → Agrees n handled f → Agrees m handled f
Agrees-top e a = record { below = a.below; rest = a.rest; is = a.is; many = a.many ∙ e; same = a.same }

-- the entry at the top is the next one
record Next (below : List Entry) (e : Entry) (out : List Entry) : Type 0 where
  after : List Entry
  is : out ≡ (below ++ e ∷ []) ++ after

next_of : {n m : ℕ} {handled : List Handling} {f : End} {e : Entry} (a : Agrees n handled f) → IsEntry f.out m e → top n handled ≡ m → Next a.below e f.out
next_of {handled = handled} {f = f} {e = e} a entry at =
    let whole : a.below ++ a.rest ≡ entry.before ++ e ∷ entry.after = sym a.is ∙ entry.is in
    let long : length a.below ≡ length entry.before = omega (arith, a.many, entry.place, at) in
    let same = fronts_same a.below entry.before a.rest (e ∷ entry.after) whole long in
    record { after = entry.after; is = a.is ∙ ap (λ w. a.below ++ w) same.1 ∙ sym (append_assoc a.below (e ∷ []) entry.after) }

length-snoc : (xs : List Entry) (e : Entry) → length (xs ++ e ∷ []) ≡ suc (length xs)
length-snoc xs e = omega (arith, length-append xs (e ∷ []))

-- the reader passes a number that was handled
pub Agrees-past_handled : {r : ℕ} {handled : List Handling} {f : End} → r ≤ greatest handled → Agrees r handled f → Agrees (r + 1) handled f
Agrees-past_handled h a = Agrees-top (omega arith) a

-- the reader passes the entry at the top, which adds nothing to what is to be handled
past_top : {r : ℕ} {handled : List Handling} {f : End} (e : Entry) (a : Agrees r handled f) → IsEntry f.out r e → greatest handled < r → Less f.withheld (app_entries (a.below ++ e ∷ [])) (fresh handled) → Agrees (r + 1) handled f
past_top {handled = handled} e a entry high less =
    let next = next_of a entry (omega arith) in
    record {
      below = a.below ++ e ∷ [];
      rest = next.after;
      is = next.is;
      many = omega (arith, a.many, length-snoc a.below e);
      same = less;
    }

skip_top : {r : ℕ} {handled : List Handling} {f : End} → IsSkipped f r → greatest handled < r → Agrees r handled f → Agrees (r + 1) handled f
skip_top {handled = handled} {f = f} (admin at) high a =
    past_top (Admin at.time at.kind at.about) a at.entry high (subst (λ w. Less f.withheld w (fresh handled)) (sym (app_entries-admin a.below at.time at.kind at.about)) a.same)
skip_top {r = r} {handled = handled} {f = f} (withheld body app held) high a =
    let number : suc (length a.below) ≡ r = omega (arith, a.many) in
    past_top (App app.time app.by body) a app.entry high
    (subst (λ w. Less f.withheld w (fresh handled)) (sym (app_entries-app a.below app.time app.by body)) (Less-drop (record { number = suc (length a.below); body = body }) (subst (λ n. Among n f.withheld) (sym number) held) a.same))

-- the reader passes an Admin entry, or one that is withheld
pub Agrees-past_skipped : {r : ℕ} {handled : List Handling} {f : End} → IsSkipped f r → Agrees r handled f → Agrees (r + 1) handled f
Agrees-past_skipped {r = r} {handled = handled} skip a = elim (le_or_lt r (greatest handled)) [ inl low ↦ Agrees-past_handled low a | inr high ↦ skip_top skip high a ]

past_skips : (d : ℕ) {n m : ℕ} {handled : List Handling} {f : End} → m ≡ n + d → SkipsBetween f n m → Agrees n handled f → Agrees m handled f
past_skips zero {n = n} {m = m} {handled = handled} {f = f} e h a = let same : n ≡ m = omega arith in subst (λ k. Agrees k handled f) same a
past_skips (suc d) {n = n} {m = m} {handled = handled} {f = f} e h a =
    let before = past_skips d {n = n} {m = n + d} refl (record { each = λ k low high. h.each k low (omega arith) }) a in
    let same : n + d + 1 ≡ m = omega arith in
    subst (λ k. Agrees k handled f) same (Agrees-past_skipped (h.each (n + d) (omega arith) (omega arith)) before)

-- the reader passes what a gap fill covers
pub Agrees-past_gap : {n m : ℕ} {handled : List Handling} {f : End} → n < m → SkipsBetween f n m → Agrees n handled f → Agrees m handled f
Agrees-past_gap {n = n} {m = m} lt h a = past_skips (m - n) (omega arith) h a

-- an App entry among the first ones is an item of these
entry_among : (below rest : List Entry) {out : List Entry} {r : ℕ} {body : List ℕ} → out ≡ below ++ rest → IsAppAt out r body → r < suc (length below) → Among (record { number = r; body = body }) (app_entries below)
entry_among below rest {r = r} {body = body} is app low =
    let entry = app.entry in
    let e = App app.time app.by body in
    let split = front_splits below entry.before rest entry.after e (sym is ∙ entry.is) (omega (arith, entry.place)) in
    let number : 1 + length entry.before ≡ r = omega (arith, entry.place) in
    let items : app_entries below ≡ app_entries entry.before ++ record { number = r; body = body } ∷ app_entries_from (suc r) split.0 =
    ap (λ w. app_entries w) split.1 ∙ app_entries_from-append 1 entry.before (e ∷ split.0) ∙ ap (λ n. app_entries entry.before ++ record { number = n; body = body } ∷ app_entries_from (suc n) split.0) number in
    subst (λ (w : List Sent). Among (record { number = r; body = body }) w) (sym items) (Among-append_right (app_entries entry.before) here)

-- an App entry below the top was handled, or is withheld
pub handled_item : {n r : ℕ} {handled : List Handling} {f : End} {body : List ℕ} → Agrees n handled f → IsAppAt f.out r body → r < top n handled → Among (record { number = r; body = body }) (fresh handled) ⊎ Among r f.withheld
handled_item {r = r} {body = body} a app low = Less-cases a.same (entry_among a.below a.rest a.is app (omega (arith, a.many)))

-- the entry of a number
pub record HasEntry (out : List Entry) (n : ℕ) : Type 0 where
  pub e : Entry
  pub is : IsEntry out n e

entry_from : (before out : List Entry) (n : ℕ) → length before < n → n ≤ length before + length out → HasEntry (before ++ out) n
entry_from before [] n low high = absurd (omega arith)
entry_from before (e ∷ out) n low high =
    elim (le_or_lt n (suc (length before))) [
      | inl first ↦ record { e = e; is = record { before = before; after = out; is = refl; place = omega (arith, low, first) } }
      | inr later ↦ subst (λ w. HasEntry w n) (append_assoc before (e ∷ []) out) (entry_from (before ++ e ∷ []) out n (omega (arith, later, length-snoc before e)) (omega (arith, high, length-snoc before e)))
    ]

pub entry_at : (out : List Entry) (n : ℕ) → 1 ≤ n → n ≤ length out → HasEntry out n
entry_at out n some inside = entry_from [] out n (omega arith) (omega arith)

-- each number below the top was handled, or may be skipped
settled_one : {n r : ℕ} {handled : List Handling} {f : End} (e : Entry) → IsEntry f.out r e → Agrees n handled f → r < top n handled → (has_number r (seen_after [] handled) ≡ true) ⊎ IsSkipped f r
settled_one {r = r} {handled = handled} {f = f} (App time by body) entry a low =
    let app : IsAppAt f.out r body = record { time = time; by = by; entry = entry } in
    elim (handled_item a app low) [
      | inl m ↦ inl (fresh-seen (record { number = r; body = body }) handled m)
      | inr h ↦ inr (withheld body app h)
    ]
settled_one (Admin time kind about) entry a low = inr (admin (record { time = time; kind = kind; about = about; entry = entry }))

pub settled_below : {n r : ℕ} {handled : List Handling} {f : End} → Agrees n handled f → 1 ≤ r → r < top n handled → (has_number r (seen_after [] handled) ≡ true) ⊎ IsSkipped f r
settled_below {r = r} {f = f} a some low =
    let long = ap (λ (w : List Entry). length w) a.is in
    let found = entry_at f.out r some (omega (arith, a.many, long, length-append a.below a.rest)) in
    settled_one found.e found.is a low

-- the message comes again
grow_again : {n : ℕ} {handled : List Handling} {f : End} (h : Handling) → has_number h.number (seen_after [] handled) ≡ true → Agrees n handled f → Agrees n (handled ++ h ∷ []) f
grow_again {n = n} {handled = handled} {f = f} h seen a =
    let small = seen-greatest h.number handled seen in
    record { below = a.below; rest = a.rest; is = a.is; many = omega (arith, a.many, small, greatest-append handled h); same = subst (λ w. Less f.withheld (app_entries a.below) w) (sym (fresh-again handled h seen)) a.same }

-- the message is the one at the top
grow_new : {n r : ℕ} {handled : List Handling} {f : End} (h : Handling) → h.number ≡ r → n ≤ r → greatest handled < r → IsAppAt f.out r h.body → Agrees r handled f → Agrees n (handled ++ h ∷ []) f
grow_new {n = n} {r = r} {handled = handled} {f = f} h e low high app b =
    let entry = App app.time app.by h.body in
    let next = next_of b app.entry (omega arith) in
    let unseen = elim (test (has_number h.number (seen_after [] handled))) as (λ t. has_number h.number (seen_after [] handled) ≡ false) [ inl t ↦ absurd (omega (arith, seen-greatest h.number handled t, e)) | inr f ↦ f ] in
    let number : suc (length b.below) ≡ h.number = omega (arith, b.many, e) in
    let item : Sent = record { number = h.number; body = h.body } in
    let items : app_entries (b.below ++ entry ∷ []) ≡ app_entries b.below ++ item ∷ [] = app_entries-app b.below app.time app.by h.body ∙ ap (λ k. app_entries b.below ++ record { number = k; body = h.body } ∷ []) number in
    record {
      below = b.below ++ entry ∷ [];
      rest = next.after;
      is = next.is;
      many = omega (arith, b.many, length-snoc b.below entry, greatest-append handled h, e);
      same = subst (λ w. Less f.withheld w (fresh (handled ++ h ∷ []))) (sym items) (subst (λ w. Less f.withheld (app_entries b.below ++ item ∷ []) w) (sym (fresh-new handled h unseen)) (Less-append b.same (keeps item none)));
    }

-- the reader handles the message of the expected number, which it handled before or which is beyond all
-- that it passed
pub Agrees-grow : {n r : ℕ} {handled : List Handling} {f : End} (h : Handling) → h.number ≡ r → IsAppAt f.out r h.body → (has_number r (seen_after [] handled) ≡ true) ⊎ (top n handled ≤ r) → Agrees n handled f → Agrees r handled f → Agrees n (handled ++ h ∷ []) f × Agrees r (handled ++ h ∷ []) f
Agrees-grow {n = n} {r = r} {handled = handled} {f = f} h e app fits a b =
    elim fits [
      | inl was ↦ (let seen = was_seen was in (grow_again h seen a, grow_again h seen b))
      | inr high ↦ (grow_new h e (omega arith) (omega arith) app b, grow_new h e (omega arith) (omega arith) app b)
    ]
  where
    was_seen : has_number r (seen_after [] handled) ≡ true → has_number h.number (seen_after [] handled) ≡ true
    was_seen was = subst (λ k. has_number k (seen_after [] handled) ≡ true) (sym e) was

-- a message below the expected number was handled, or is withheld
pub Agrees-below : (expected : ℕ) (handled : List Handling) (f : End) (n : ℕ) (body : List ℕ) → Agrees expected handled f → IsAppAt f.out n body → n < expected → Among (record { number = n; body = body }) (fresh handled) ⊎ Among n f.withheld
Agrees-below expected handled f n body a app low = handled_item a app (omega arith)

-- what was handled, repeats removed, is a front of what the writer stored, less only withheld ones
pub Agrees-prefix : (stored : ℕ) (handled : List Handling) (f : End) → Agrees stored handled f → IsPrefixLess f.withheld (fresh handled) (app_entries f.out)
Agrees-prefix stored handled f a =
    let rest = app_entries_from (1 + length a.below) a.rest in
    record { front = app_entries a.below; is = record { rest = rest; is = ap (λ w. app_entries w) a.is ∙ app_entries_from-append 1 a.below a.rest }; less = a.same }
