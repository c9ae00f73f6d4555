-- Behind a run that a store didn't fail the expected number is kept.
use Rattle.std.proofs.Common.{◌≡◌, ℕ, zero, suc, true, List, ◌∷◌, [], Result, Ok, Err, refl, replicate}
use Rattle.std.specs.Prelude.{⊤}
use Rattle.fix_base.specs.declared.identity.Identity.{Identity}
use Rattle.fix_base.specs.Trace.{Note}
use Rattle.fix_engine.specs.State.{Ending}
use Rattle.fix_engine.specs.declared.state.Ending.TheVariants as ending
use Rattle.fix_engine.specs.Fold.{Each, none, ends, goes}
use Rattle.fix_engine.specs.Reading.{ConnectionSeen, StoreExpected, same, kept, expect_lost, expect_memory}
use Rattle.fix_engine.specs.Turn.{TurnSeen, beside, Turn, stops, keeps, keeps_not, OneTurn, RunAndCut, all_turns, cut, cut_memory}
use Rattle.fix_engine.specs.Turn.{no_cut}
use Rattle.fix_engine.specs.Faults.{settles_of, run_end}
use Rattle.fix_engine.specs.Counts.{IsSettled}

-- where the answer settles, the expected number is kept
record Settles (r : Result ⊤ Ending) (l : ConnectionSeen) : Type 0 where
  holds : settles_of r ≡ true → l.state.stored_expected ≡ l.state.expected

StoreExpected-settles : (l to : ConnectionSeen) (notes : List Note) (r : Result ⊤ Ending) → StoreExpected l notes (Ok tt) to →
    Settles r to
StoreExpected-settles l to notes r (same h) = record { holds = λ s. h }
StoreExpected-settles l to notes r (kept h) = record { holds = λ s. refl }

unkept : (l to : ConnectionSeen) (notes : List Note) (e : Ending) → StoreExpected l notes (Err e) to → Settles (Err e) to
unkept l to notes e (expect_lost h) = record { holds = λ s. cc }
unkept l to notes e (expect_memory h) = record { holds = λ s. cc }

Turn-settles : (id : Identity) (d : TurnSeen) (notes : List Note) (r : Result ⊤ Ending) (to : TurnSeen) →
    Turn id d notes r to → Settles r to.connection
Turn-settles id d notes r to (stops h k) = record { holds = λ s. cc }
Turn-settles id d notes r to (keeps h k (beside {to = end} e)) = StoreExpected-settles _ end _ r e
Turn-settles id d notes r to (keeps_not {e = e} h k (beside {to = end} lost)) = unkept _ end _ e lost

TakeTurns-settle : (id : Identity) (us : List ⊤) (d : TurnSeen) (notes : List Note) (r : Result ⊤ Ending) (to : TurnSeen) →
    (us ≡ [] → d.connection.state.stored_expected ≡ d.connection.state.expected) → Each (OneTurn id) d us notes r to → Settles r to.connection
TakeTurns-settle id [] d notes r to held none = record { holds = λ s. held refl }
TakeTurns-settle id (u ∷ us) d notes r to held (ends k) = Turn-settles id d notes r to k
TakeTurns-settle id (u ∷ us) d notes r to held (goes {mid = mid} k more) =
    let first : Settles (Ok tt) mid.connection = Turn-settles id d _ (Ok tt) mid k in
    TakeTurns-settle id us mid _ r to (λ e. first.holds refl) more

none_made : (n : ℕ) → replicate {A = ⊤} n tt ≡ [] → n ≡ 0
none_made zero e = refl
none_made (suc n) e = cc

settled_end : (r : Result ⊤ Ending) (to down : ConnectionSeen) → down.state.stored_expected ≡ to.state.stored_expected →
    down.state.expected ≡ to.state.expected → Settles r to → IsSettled (run_end r) down.state
settled_end (Ok x) to down k e s = (let h = s.holds refl in cc)
settled_end (Err (ending.Closed why)) to down k e s = (let h = s.holds refl in cc)
settled_end (Err (ending.NotBuilt n)) to down k e s = (let h = s.holds refl in cc)
settled_end (Err ending.LinkFault) to down k e s = (let h = s.holds refl in cc)
settled_end (Err ending.AppFault) to down k e s = (let h = s.holds refl in cc)
settled_end (Err ending.StoreFault) to down k e s = tt
settled_end (Err ending.NumbersSpent) to down k e s = tt
settled_end (Err ending.OutOfMemory) to down k e s = tt

-- behind a run the expected number is kept, unless the store failed, memory was refused or the numbers are spent
pub RunAndCut-settled : (id : Identity) (n : ℕ) (d : TurnSeen) (notes : List Note) (r : Result ⊤ Ending) (to : TurnSeen) →
    (n ≡ 0 → d.connection.state.stored_expected ≡ d.connection.state.expected) → RunAndCut id n d notes r to → IsSettled (run_end r) to.connection.state
RunAndCut-settled id n d notes r to held (all_turns k) =
    settled_end (Ok tt) to.connection to.connection refl refl
    (TakeTurns-settle id (replicate n tt) d _ (Ok tt) to (λ e. held (none_made n e)) k)
RunAndCut-settled id n d notes r to held (cut {to = at} {e = e} h k) =
    settled_end (Err e) at.connection to.connection refl refl
    (TakeTurns-settle id (replicate n tt) d _ (Err e) at (λ e. held (none_made n e)) k)
RunAndCut-settled id n d notes r to held (cut_memory h k) = tt
RunAndCut-settled id n d notes r to held (no_cut {to = at} {e = e} h k) =
    settled_end (Err e) at.connection to.connection refl refl
    (TakeTurns-settle id (replicate n tt) d _ (Err e) at (λ e. held (none_made n e)) k)
