-- A session that isn't stopped has tried to keep no draft that it still has in hand.
use Rattle.std.proofs.Common.{◌≡◌, ℕ, Bool, true, false, if◌then◌else◌, ◌==◌, List, [], ◌∷◌, None, Result, Ok, Err}
use Rattle.std.proofs.Common.{refl, replicate}
use Rattle.std.specs.Prelude.{⊤}
use Rattle.fix_base.specs.declared.identity.Identity.{Identity}
use Rattle.fix_base.specs.Trace.{Note}
use Rattle.fix_fields.specs.Drafted.{DraftText}
use Rattle.fix_engine.specs.declared.pending.PendingDraft.{PendingDraft}
use Rattle.fix_engine.specs.declared.stop.SendFault.{SendFault}
use Rattle.fix_engine.specs.declared.stop.SendFault.TheVariants as fault
use Rattle.fix_engine.specs.declared.stop.StopCause.TheVariants as cause
use Rattle.fix_engine.specs.State.{Ending}
use Rattle.fix_engine.specs.Fold as fold
use Rattle.fix_engine.specs.Fold.{Each}
use Rattle.fix_engine.specs.Reading as turn
use Rattle.fix_engine.specs.Reading.{ConnectionSeen, StoreExpected}
use Rattle.fix_engine.specs.Turn as turn_seen
use Rattle.fix_engine.specs.Turn.{TurnSeen, no_draft, pending_draft, pending_after, SendDraft, SendPending, OfferDraft, beside, SendReadClock, Turn}
use Rattle.fix_engine.specs.Turn.{OneTurn, RunAndCut}
use Rattle.fix_engine.specs.Faults.{run_end, stop_cause, sent_ending}

-- unless this stops the session
abbrev IsUntried : Result ⊤ Ending → PendingDraft → Type 0
IsUntried r pending = stop_cause (run_end r) ≡ None → pending.store_failed ≡ false

either_untried : (a b : PendingDraft) (x : Bool) → a.store_failed ≡ false → b.store_failed ≡ false → (if x then a else b).store_failed ≡ false
either_untried a b true h k = h
either_untried a b false h k = k

behind_untried : (d : DraftText) (before last : ℕ) (r : Result ℕ SendFault) →
    IsUntried (sent_ending r) (pending_after d before last r)
behind_untried d before last (Ok n) goes_on = either_untried (pending_draft d) no_draft (last == before) refl refl
behind_untried d before last (Err (fault.Stopped cause.StoreFault)) goes_on =
    either_untried (pending_draft d) no_draft (last == before) refl refl
behind_untried d before last (Err (fault.Stopped cause.AppFault)) goes_on =
    either_untried (pending_draft d) no_draft (last == before) refl refl
behind_untried d before last (Err (fault.Stopped cause.OutOfMemory)) goes_on =
    either_untried (pending_draft d) no_draft (last == before) refl refl
behind_untried d before last (Err fault.NumbersSpent) goes_on =
    either_untried (pending_draft d) no_draft (last == before) refl refl
behind_untried d before last (Err fault.OutOfMemory) goes_on =
    either_untried (pending_draft d) no_draft (last == before) refl refl
behind_untried d before last (Err fault.StoreFault) goes_on = cc
behind_untried d before last (Err (fault.LinkFault n)) goes_on =
    either_untried (pending_draft d) no_draft (last == before) refl refl

SendDraft-untried : (id : Identity) (draft : DraftText) (d : TurnSeen) (notes : List Note) (r : Result ⊤ Ending) (to : TurnSeen) →
    SendDraft id draft d notes r to → IsUntried r to.pending
SendDraft-untried id draft d notes r to (turn_seen.spent full) = λ goes_on. refl
SendDraft-untried id draft d notes r to (turn_seen.sends {r = x} {s = s} small is k) =
    behind_untried draft d.connection.state.last s.last x

SendPending-untried : (id : Identity) (d : TurnSeen) (notes : List Note) (r : Result ⊤ Ending) (to : TurnSeen) →
    d.pending.store_failed ≡ false → SendPending id d notes r to → IsUntried r to.pending
SendPending-untried id d notes r to h (turn_seen.empty none) = λ goes_on. h
SendPending-untried id d notes r to h (turn_seen.holds draft some k) = SendDraft-untried id draft d notes r to k

OfferDraft-untried : (id : Identity) (d : TurnSeen) (notes : List Note) (r : Result ⊤ Ending) (to : TurnSeen) →
    d.pending.store_failed ≡ false → OfferDraft id d notes r to → IsUntried r to.pending
OfferDraft-untried id d notes r to h (turn_seen.not_up other) = λ goes_on. h
OfferDraft-untried id d notes r to h (turn_seen.asked {notes = more} given up none k) =
    SendPending-untried id (turn_seen.turn_seen d.connection (record { draft = given; store_failed = d.pending.store_failed })) more r to h k
OfferDraft-untried id d notes r to h (turn_seen.was_in_hand draft up some k) = SendDraft-untried id draft d notes r to k

SendReadClock-untried : (id : Identity) (d : TurnSeen) (notes : List Note) (r : Result ⊤ Ending) (to : TurnSeen) →
    d.pending.store_failed ≡ false → SendReadClock id d notes r to → IsUntried r to.pending
SendReadClock-untried id d notes r to h (fold.first_ends {e = e} k) = OfferDraft-untried id d notes (Err e) to h k
SendReadClock-untried id d notes r to h (fold.both {mid = mid} {first = first} k (beside more)) =
    λ goes_on. OfferDraft-untried id d first (Ok tt) mid h k refl

-- what a keeping ends in stops the session
kept_stops : (l to : ConnectionSeen) (notes : List Note) (e : Ending) (pending : PendingDraft) → StoreExpected l notes (Err e) to →
    IsUntried (Err e) pending
kept_stops l to notes e pending (turn.expect_lost h) = λ goes_on. cc
kept_stops l to notes e pending (turn.expect_memory h) = λ goes_on. cc

Turn-untried : (id : Identity) (d : TurnSeen) (notes : List Note) (r : Result ⊤ Ending) (to : TurnSeen) →
    d.pending.store_failed ≡ false → Turn id d notes r to → IsUntried r to.pending
Turn-untried id d notes r to h (turn_seen.stops s k) = SendReadClock-untried id d notes r to h k
Turn-untried id d notes r to h (turn_seen.keeps {mid = mid} {first = first} s k (beside more)) =
    SendReadClock-untried id d first r mid h k
Turn-untried id d notes r to h (turn_seen.keeps_not {mid = mid} {e = e} s k (beside {to = end} lost)) =
    kept_stops mid.connection end _ e mid.pending lost

TakeTurns-untried : (id : Identity) (us : List ⊤) (d : TurnSeen) (notes : List Note) (r : Result ⊤ Ending) (to : TurnSeen) →
    d.pending.store_failed ≡ false → Each (OneTurn id) d us notes r to → IsUntried r to.pending
TakeTurns-untried id [] d notes r to h fold.none = λ goes_on. h
TakeTurns-untried id (u ∷ us) d notes r to h (fold.ends {e = e} k) = Turn-untried id d notes (Err e) to h k
TakeTurns-untried id (u ∷ us) d notes r to h (fold.goes {mid = mid} {first = first} {more = more} k rest) =
    TakeTurns-untried id us mid more r to (Turn-untried id d first (Ok tt) mid h k refl) rest

-- behind a run that doesn't stop the session
pub RunAndCut-untried : (id : Identity) (n : ℕ) (d : TurnSeen) (r : Result ⊤ Ending) (to : TurnSeen) (notes : List Note) →
    d.pending.store_failed ≡ false → RunAndCut id n d notes r to → stop_cause (run_end r) ≡ None → to.pending.store_failed ≡ false
RunAndCut-untried id n d r to notes h (turn_seen.all_turns k) = TakeTurns-untried id (replicate n tt) d notes (Ok tt) to h k
RunAndCut-untried id n d r to notes h (turn_seen.cut {to = at} {notes = first} {e = e} c k) =
    TakeTurns-untried id (replicate n tt) d first (Err e) at h k
RunAndCut-untried id n d r to notes h (turn_seen.cut_memory c k) = λ goes_on. cc
RunAndCut-untried id n d r to notes h (turn_seen.no_cut {to = at} {e = e} c k) =
    TakeTurns-untried id (replicate n tt) d notes (Err e) at h k
