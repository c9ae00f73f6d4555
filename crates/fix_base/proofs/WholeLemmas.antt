-- What was written stays lawful with one more frame, as the end grows, and where a write is cut.
use Rattle.std.proofs.Common.{◌≡◌, inl, inr, ℕ, ◌==◌, if◌then◌else◌, List, [], ◌∷◌, ◌++◌, length, Bool, true, false, refl, sym, ap, ◌∙◌, append_assoc, arith}
use Rattle.std.proofs.lemmas.List.{append-nil}
use Rattle.fix_base.specs.Lists.{Among, IsPrefixOf}
use Rattle.fix_base.specs.Says.{joined}
use Rattle.fix_base.specs.End.{Entry, End, IsAppAt, expecting, GrowsTo}
use Rattle.fix_base.specs.Session.{Identity}
use Rattle.fix_base.specs.Wrote as wrote
use Rattle.fix_base.specs.Wrote.{SkipsBetween, Gap, Writes, Wrote, WroteWhole, WritesNext}
use Rattle.fix_base.proofs.ListLemmas.{Among-prefix, Among-cons_cases, prefix_refl, prefix_append, prefix_trans, length-prefix}
use Rattle.fix_base.proofs.WroteLemmas.{IsEntry-more, GrowsTo-refl, GrowsTo-trans, SkipsBetween-more, App_no_skip}

-- ---- an end that grows

pub push_grows : (e : End) (entry : Entry) → GrowsTo e (record e { out = e.out ++ entry ∷ [] })
push_grows e entry = record { out = prefix_append e.out (entry ∷ []); withheld = prefix_refl e.withheld }

pub expect_grows : (e : End) (k : ℕ) → GrowsTo e (record e { stored = k })
expect_grows e k = record { out = prefix_refl e.out; withheld = prefix_refl e.withheld }

expecting_grows : (e f : End) (k : ℕ) (none : Bool) → GrowsTo e f → GrowsTo e (if none then f else record f { stored = k })
expecting_grows e f k true p = p
expecting_grows e f k false p = record { out = p.out; withheld = p.withheld }

pub many_grows : (e : End) (pushes : List Entry) (k : ℕ) → GrowsTo e (expecting (record e { out = e.out ++ pushes }) k)
many_grows e pushes k = expecting_grows e (record e { out = e.out ++ pushes }) k (k == 0) (record { out = prefix_append e.out pushes; withheld = prefix_refl e.withheld })

pub withhold_grows : (e : End) (n : ℕ) → GrowsTo e (record e { withheld = e.withheld ++ n ∷ [] })
withhold_grows e n = record { out = prefix_refl e.out; withheld = prefix_append e.withheld (n ∷ []) }

-- ---- what was written

texts-more : {id : Identity} {old new more : End} {from to : ℕ} {gaps : List Gap} {texts : List (List ℕ)} → GrowsTo new more → Writes id old new from gaps texts to → Writes id old more from gaps texts to
texts-more p wrote.done = wrote.done
texts-more p (wrote.original n e le above entry is others) = wrote.original n e le above (IsEntry-more p.out entry) is (texts-more p others)
texts-more p (wrote.again n time by body t le entry free uncovered is others) = wrote.again n time by body t le (IsEntry-more p.out entry) free uncovered is (texts-more p others)
texts-more {new = new} {more = more} p (wrote.gap_fill n m t le some inside skips is others) =
    let grew = length-prefix p.out in
    wrote.gap_fill n m t le some (omega (arith, grew)) (SkipsBetween-more p skips) is (texts-more p others)

-- each of the gap fills goes over Admin and withheld entries
record AreLawful (e : End) (gaps : List Gap) : Type 0 where
  each : (gap : Gap) → Among gap gaps → SkipsBetween e gap.from gap.next

one_more : {id : Identity} {old new : End} {last to : ℕ} {gaps : List Gap} {text : List ℕ} → GrowsTo old new → AreLawful new gaps → WritesNext id new last text to → Writes id old new last gaps (text ∷ []) to
one_more p h (wrote.next_original n e le above entry is) = wrote.original n e le above entry is wrote.done
one_more {new = new} p h (wrote.next_again n time by body t le entry free is) =
    let app : IsAppAt new.out n body = record { time = time; by = by; entry = entry } in
    wrote.again n time by body t le entry (λ held. free (Among-prefix p.withheld held)) (record { none = λ gap m low high. App_no_skip app free ((h.each gap m).each n low high) }) is wrote.done
one_more p h (wrote.next_gap_fill n m t le some inside skips is) = wrote.gap_fill n m t le some inside skips is wrote.done

texts-then : {id : Identity} {old new : End} {from mid to : ℕ} {gaps : List Gap} {texts : List (List ℕ)} {text : List ℕ} → GrowsTo old new → AreLawful new gaps → Writes id old new from gaps texts mid → WritesNext id new mid text to → Writes id old new from gaps (texts ++ text ∷ []) to
texts-then p h wrote.done one = one_more p h one
texts-then p h (wrote.original n e le above entry is others) one = wrote.original n e le above entry is (texts-then p h others one)
texts-then p h (wrote.again n time by body t le entry free uncovered is others) one = wrote.again n time by body t le entry free uncovered is (texts-then p h others one)
texts-then {new = new} {gaps = gaps} p h (wrote.gap_fill n m t le some inside skips is others) one =
    let lawful : AreLawful new (record { from = n; next = m } ∷ gaps) = record { each = λ gap k. elim (Among-cons_cases k) [ inl e ↦ first gap e | inr old ↦ h.each gap old ] } in
    wrote.gap_fill n m t le some inside skips is (texts-then p lawful others one)
  where
    first : (gap : Gap) → gap ≡ record { from = n; next = m } → SkipsBetween new gap.from gap.next
    first gap e = rw e skips

joined-append : (xs : List (List ℕ)) (text : List ℕ) → joined (xs ++ text ∷ []) ≡ joined xs ++ text
joined-append [] text = append-nil text
joined-append (x ∷ xs) text = ap (λ z. x ++ z) (joined-append xs text) ∙ sym (append_assoc x (joined xs) text)

-- at Opened
pub whole_start : (id : Identity) (e : End) → WroteWhole id e e (length e.out) []
whole_start id e = record { grew = GrowsTo-refl e; texts = []; writes = wrote.done; whole = refl }

-- as the end grows
pub whole_grown : (id : Identity) (old new more : End) (last : ℕ) (w : List ℕ) → GrowsTo new more → WroteWhole id old new last w → WroteWhole id old more last w
whole_grown id old new more last w p h = record { grew = GrowsTo-trans h.grew p; texts = h.texts; writes = texts-more p h.writes; whole = h.whole }

-- one more frame
pub whole_more : (id : Identity) (old new : End) (last to : ℕ) (w text : List ℕ) → WritesNext id new last text to → WroteWhole id old new last w → WroteWhole id old new to (w ++ text)
whole_more id old new last to w text one h =
    record { grew = h.grew; texts = h.texts ++ text ∷ []; writes = texts-then h.grew (record { each = λ gap m. elim m [ ] }) h.writes one; whole = ap (λ z. z ++ text) h.whole ∙ sym (joined-append h.texts text) }

pub whole_wrote : (id : Identity) (old new : End) (last : ℕ) (w : List ℕ) → WroteWhole id old new last w → Wrote id old new w
whole_wrote id old new last w h = record { grew = h.grew; texts = h.texts; last = last; writes = h.writes; front = record { rest = []; is = sym h.whole ∙ sym (append-nil w) } }

-- a front of what was written, as where a write is cut
pub front_wrote : (id : Identity) (old new : End) (w bytes : List ℕ) → IsPrefixOf bytes w → Wrote id old new w → Wrote id old new bytes
front_wrote id old new w bytes p h = record { grew = h.grew; texts = h.texts; last = h.last; writes = h.writes; front = prefix_trans p h.front }
