-- Where no part failed, a run is as stated, or it was out of memory and would have gone on.
use Rattle.std.proofs.Common.{◌≡◌, ◌≢◌, inl, inr, ℕ, ◌≤◌, List, [], ◌∷◌, ◌++◌, Bool, true}
use Rattle.std.proofs.Common.{false, Result, Ok, Err, refl, sym, ap, subst, append_assoc, arith}
use Rattle.std.proofs.Common.{replicate}
use Rattle.std.specs.Prelude.{⊤, IfSome}
use Rattle.std.specs.List.{AllByRecursion}
use Rattle.std.proofs.lemmas.List.{append-nil}
use Rattle.std.proofs.lemmas.Bool.Decides.{eqb_tells}
use Rattle.fix_base.specs.declared.identity.Identity.{Identity}
use Rattle.fix_base.specs.Session.{IsValidIdentity}
use Rattle.fix_base.specs.Payload.{LAST_TIME}
use Rattle.fix_base.specs.declared.act.Act.TheVariants as act
use Rattle.fix_base.specs.declared.entry.Record.TheVariants.{Expect}
use Rattle.fix_base.specs.Trace.{Note, Did, Failed, Asked, StorePart, LinkPart, AppPart, OutsideSeen, Faults, Counts, NoneRose}
use Rattle.fix_base.specs.Trace.{HasTrace}
use Rattle.fix_fields.specs.Drafted.{IsDraft}
use Rattle.fix_engine.specs.State.{Ending, with_stored_expected}
use Rattle.fix_engine.specs.declared.state.Ending.TheVariants as ending
use Rattle.fix_engine.specs.Fold.{AndThen}
use Rattle.fix_engine.specs.Reading as turn
use Rattle.fix_engine.specs.Reading.{ConnectionSeen, connection_seen, ReadFrames, ReadClock, StoreExpected}
use Rattle.fix_engine.specs.Turn as turns
use Rattle.fix_engine.specs.Turn.{TurnSeen, turn_seen, put_down, OfferDraft, Beside, beside, SendReadClock, Turn, OneTurn, TakeTurns, RunAndCut}
use Rattle.fix_engine.specs.Faults.{settles_of, is_cut_of, run_end}
use Rattle.fix_engine.specs.Stated.{IsFaultless, GoesOn, CanNotFail, IsAsStated}
use Rattle.fix_engine.proofs.EachFrame.{sure, map_sure}
use Rattle.fix_engine.proofs.Complete.{faultless-append, Onward, IsComplete, onward_as, then_complete, each_complete}
use Rattle.fix_engine.proofs.CompleteAnswers.{IsOnTime, read_complete, clock_complete}
use Rattle.fix_engine.proofs.CompleteDrafts.{IsReady, offer_complete}

-- where no count rose nothing failed
faultless : (old new : Faults) (notes : List Note) → Counts old new notes → NoneRose old new → IsFaultless notes
faultless old new [] c n = tt
faultless old new (Did a ∷ notes) c n = faultless old new notes
    (record { store = c.store; link = c.link; app = c.app }) n
faultless old new (Failed StorePart ∷ notes) c n = absurd (n.store (let h = c.store in omega arith))
faultless old new (Failed (LinkPart unsent) ∷ notes) c n = absurd (n.link (let h = c.link in omega arith))
faultless old new (Failed AppPart ∷ notes) c n = absurd (n.app (let h = c.app in omega arith))
faultless old new (Asked d ∷ notes) c n =
    faultless old new notes (record { store = c.store; link = c.link; app = c.app }) n

abbrev failed : Ending → Result ⊤ Ending
failed e = Err e

abbrev went : Result ⊤ Ending
went = Ok tt

-- ---- what leaves the draft in hand as it is

module _ (R : ConnectionSeen → List Note → Result ⊤ Ending → ConnectionSeen → Type 0) where
  beside_on : (d : TurnSeen) (notes : List Note) → IsReady d → Onward IsOnTime R d.connection notes →
      Onward IsReady (Beside R) d notes
  beside_on d notes ok = onward_as IsOnTime IsReady R (Beside R) d.connection d notes notes (λ to. turn_seen to d.pending)
      (λ to good. record { on_time = good; drafts = ok.drafts }) (λ more r to k. beside k)

  beside_resumes : IsComplete IsOnTime R → (d : TurnSeen) (notes : List Note) (to : TurnSeen) → IsReady d →
      Beside R d notes (Err ending.OutOfMemory) to → CanNotFail (Onward IsReady (Beside R) d notes)
  beside_resumes one d notes to ok (beside {to = at} k) =
      map_sure (beside_on d notes ok) (one.resumes d.connection notes at ok.on_time k)

  beside_stays : IsComplete IsOnTime R → (d : TurnSeen) (notes : List Note) (r : Result ⊤ Ending) (to : TurnSeen) →
      settles_of r ≡ true → IsReady d → Beside R d notes r to → IsReady to
  beside_stays one d notes r to h ok (beside {to = at} k) =
      record { on_time = one.stays d.connection notes r at h ok.on_time k; drafts = ok.drafts }

  beside_complete : IsComplete IsOnTime R → IsComplete IsReady (Beside R)
  beside_complete one = record {
    total = λ d ok. map_sure (beside_on d [] ok) (one.total d.connection ok.on_time);
    resumes = beside_resumes one;
    stays = beside_stays one;
  }

-- ---- a turn

part_complete : (id : Identity) → IsValidIdentity id → IsComplete IsReady (SendReadClock id)
part_complete id valid = then_complete IsReady (OfferDraft id) (Beside (AndThen (ReadFrames id) ReadClock))
    (offer_complete id valid) (beside_complete (AndThen (ReadFrames id) ReadClock)
    (then_complete IsOnTime (ReadFrames id) ReadClock (read_complete id valid) clock_complete))

-- the expected number can be kept
record Keeps (l : ConnectionSeen) : Type 0 where
  more : List Note
  faultless : IsFaultless more
  to : ConnectionSeen
  good : IsOnTime l → IsOnTime to
  whole : StoreExpected l more (Ok tt) to

keeps-total : (l : ConnectionSeen) → Keeps l
keeps-total l =
    elim (eqb_tells l.state.stored_expected l.state.expected) [
      | inl h ↦ record { more = []; faultless = tt; to = l; good = λ ok. ok; whole = turn.same h.1 }
      | inr h ↦ record {
        more = Did (act.Kept (Expect l.state.expected)) ∷ [];
        faultless = tt;
        to = connection_seen (with_stored_expected l.state) l.unread;
        good = λ ok. ok;
        whole = turn.kept h.1;
      }
    ]

turn_onward : (id : Identity) (d : TurnSeen) (notes : List Note) → Onward IsReady (SendReadClock id) d notes →
    Onward IsReady (Turn id) d notes
turn_onward id d notes g = by-answer (settles_of g.r) refl
  where
    by-answer : (t : Bool) → settles_of g.r ≡ t → Onward IsReady (Turn id) d notes
    by-answer false h = record {
      more = g.more;
      faultless = g.faultless;
      r = g.r;
      to = g.to;
      good = g.good;
      whole = turns.stops h g.whole;
      no_want = g.no_want;
    }
    by-answer true h =
        let k = keeps-total g.to.connection in
        let to = turn_seen k.to g.to.pending in
        record {
          more = g.more ++ k.more;
          faultless = faultless-append g.more k.more g.faultless k.faultless;
          r = g.r;
          to = to;
          good = record { on_time = k.good g.good.on_time; drafts = g.good.drafts };
          whole = subst (λ w. Turn id d w g.r to) (append_assoc notes g.more k.more)
              (turns.keeps h g.whole (beside k.whole));
          no_want = g.no_want;
        }

store_stays : (l : ConnectionSeen) (notes : List Note) (r : Result ⊤ Ending) (to : ConnectionSeen) → IsOnTime l →
    StoreExpected l notes r to → IsOnTime to
store_stays l notes r to ok (turn.same same) = ok
store_stays l notes r to ok (turn.kept other) = ok
store_stays l notes r to ok (turn.expect_lost other) = ok
store_stays l notes r to ok (turn.expect_memory other) = ok

turn_stays : (id : Identity) → IsValidIdentity id → (d : TurnSeen) (notes : List Note) (r : Result ⊤ Ending)
    (to : TurnSeen) → settles_of r ≡ true → IsReady d → Turn id d notes r to → IsReady to
turn_stays id valid d notes r to h ok (turns.stops other m) = absurd cc
turn_stays id valid d notes r to h ok (turns.keeps {mid = mid} {met = met} {first = first} {more = more} same m
    (beside {to = at} k)) =
    let good = (part_complete id valid).stays d first met mid same ok m in
    record { on_time = store_stays mid.connection more (Ok tt) at good.on_time k; drafts = good.drafts }
turn_stays id valid d notes r to h ok (turns.keeps_not {mid = mid} {met = met} {first = first} {more = more} {e = e} same m
    (beside {to = at} k)) =
    let good = (part_complete id valid).stays d first met mid same ok m in
    record { on_time = store_stays mid.connection more (Err e) at good.on_time k; drafts = good.drafts }

turn_resumes : (id : Identity) → IsValidIdentity id → (d : TurnSeen) (notes : List Note) (to : TurnSeen) → IsReady d →
    Turn id d notes (Err ending.OutOfMemory) to → CanNotFail (Onward IsReady (Turn id) d notes)
turn_resumes id valid d notes to ok (turns.stops h m) =
    map_sure (turn_onward id d notes) ((part_complete id valid).resumes d notes to ok m)
turn_resumes id valid d notes to ok (turns.keeps h m k) = absurd cc
turn_resumes id valid d notes to ok (turns.keeps_not {mid = mid} {met = met} {first = first} h m
    (beside (turn.expect_memory n))) =
    let good = (part_complete id valid).stays d first met mid h ok m in
    let kept = turn_seen (connection_seen (with_stored_expected mid.connection.state) mid.connection.unread) mid.pending in
    sure (record {
      more = Did (act.Kept (Expect mid.connection.state.expected)) ∷ [];
      faultless = tt;
      r = met;
      to = kept;
      good = record { on_time = good.on_time; drafts = good.drafts };
      whole = subst (λ w. Turn id d w met kept)
          (ap (λ w. w ++ Did (act.Kept (Expect mid.connection.state.expected)) ∷ []) (sym (append-nil first)))
          (turns.keeps h m (beside (turn.kept n)));
      no_want = λ e. (let t : settles_of (Err ending.OutOfMemory) ≡ true = subst (λ r. settles_of r ≡ true) e h in cc);
    })

turn_complete : (id : Identity) → IsValidIdentity id → IsComplete IsReady (Turn id)
turn_complete id valid = record {
  total = λ d ok. map_sure (turn_onward id d []) ((part_complete id valid).total d ok);
  resumes = turn_resumes id valid;
  stays = turn_stays id valid;
}

-- ---- a run

turns_complete : (id : Identity) → IsValidIdentity id → (n : ℕ) → IsComplete IsReady (TakeTurns id n)
turns_complete id valid n = each_complete IsReady (OneTurn id) (λ u. ⊤) (λ u fit. turn_complete id valid) (replicate n tt)
    (all_fit (replicate n tt))
  where
    all_fit : (us : List ⊤) → AllByRecursion (λ u. ⊤) us
    all_fit [] = tt
    all_fit (u ∷ us) = (tt, all_fit us)

run_onward : (id : Identity) (n : ℕ) (d : TurnSeen) (notes : List Note) → Onward IsReady (TakeTurns id n) d notes →
    GoesOn (RunAndCut id n) d notes
run_onward id n d notes g = by-answer g.r g.to g.whole g.no_want
  where
    by-cut : (e : Ending) (to : TurnSeen) → TakeTurns id n d (notes ++ g.more) (Err e) to →
        failed e ≢ Err ending.OutOfMemory → (t : Bool) → is_cut_of e ≡ t → GoesOn (RunAndCut id n) d notes
    by-cut e to k h false t = record {
      more = g.more;
      faultless = g.faultless;
      r = Err e;
      to = put_down to;
      whole = turns.no_cut t k;
      no_want = h;
    }
    by-cut e to k h true t =
        record {
          more = g.more ++ Did act.Cut ∷ [];
          faultless = faultless-append g.more (Did act.Cut ∷ []) g.faultless tt;
          r = Err e;
          to = put_down to;
          whole = subst (λ w. RunAndCut id n d w (Err e) (put_down to)) (append_assoc notes g.more (Did act.Cut ∷ []))
              (turns.cut t k);
          no_want = h;
        }

    by-answer : (r : Result ⊤ Ending) (to : TurnSeen) → TakeTurns id n d (notes ++ g.more) r to → r ≢ Err ending.OutOfMemory →
        GoesOn (RunAndCut id n) d notes
    by-answer (Ok x) to k h = record {
      more = g.more;
      faultless = g.faultless;
      r = Ok tt;
      to = to;
      whole = turns.all_turns k;
      no_want = h;
    }
    by-answer (Err e) to k h = by-cut e to k h (is_cut_of e) refl

err_same : (e : Ending) → failed e ≡ Err ending.OutOfMemory → e ≡ ending.OutOfMemory
err_same e k = cc

RunAndCut-resumes : (id : Identity) → IsValidIdentity id → (n : ℕ) (d : TurnSeen) (notes : List Note) (to : TurnSeen) → IsReady d →
    RunAndCut id n d notes (Err ending.OutOfMemory) to → CanNotFail (GoesOn (RunAndCut id n) d notes)
RunAndCut-resumes id valid n d notes to ok (turns.cut h k) = absurd cc
RunAndCut-resumes id valid n d notes to ok (turns.cut_memory {to = at} {e = e} h k) =
    λ hold. hold (record {
      more = Did act.Cut ∷ [];
      faultless = tt;
      r = Err e;
      to = put_down at;
      whole = turns.cut h k;
      no_want = λ k. (let t : is_cut_of ending.OutOfMemory ≡ true =
          subst (λ e. is_cut_of e ≡ true) (err_same e k) h in cc);
    })
RunAndCut-resumes id valid n d notes to ok (turns.no_cut {to = at} h k) =
    map_sure (run_onward id n d notes) ((turns_complete id valid n).resumes d notes at ok k)

stated : (id : Identity) → IsValidIdentity id →
    (n : ℕ) (d : TurnSeen) (notes : List Note) (r : Result ⊤ Ending) (to : TurnSeen) → IsReady d → IsFaultless notes →
    RunAndCut id n d notes r to → IsAsStated id n d (run_end r) to notes
stated id valid n d notes (Ok x) to ok f k = (f, inl ((λ h. cc), record { r = Ok x; answered = refl; ran = k }))
stated id valid n d notes (Err (ending.Closed why)) to ok f k =
    (f, inl ((λ h. cc), record { r = Err (ending.Closed why); answered = refl; ran = k }))
stated id valid n d notes (Err (ending.NotBuilt number)) to ok f k =
    (f, inl ((λ h. cc), record { r = Err (ending.NotBuilt number); answered = refl; ran = k }))
stated id valid n d notes (Err ending.StoreFault) to ok f k =
    (f, inl ((λ h. cc), record { r = Err ending.StoreFault; answered = refl; ran = k }))
stated id valid n d notes (Err ending.LinkFault) to ok f k =
    (f, inl ((λ h. cc), record { r = Err ending.LinkFault; answered = refl; ran = k }))
stated id valid n d notes (Err ending.AppFault) to ok f k =
    (f, inl ((λ h. cc), record { r = Err ending.AppFault; answered = refl; ran = k }))
stated id valid n d notes (Err ending.NumbersSpent) to ok f k =
    (f, inl ((λ h. cc), record { r = Err ending.NumbersSpent; answered = refl; ran = k }))
stated id valid n d notes (Err ending.OutOfMemory) to ok f k = (f, inr (refl, RunAndCut-resumes id valid n d notes to ok k))

-- where no count rose a run is as stated
pub as_stated : (id : Identity) → IsValidIdentity id →
    (n : ℕ) (d : TurnSeen) (r : Result ⊤ Ending) (to : TurnSeen) (old new : OutsideSeen) → d.connection.state.reading ≤ LAST_TIME →
    IfSome d.pending.draft IsDraft → HasTrace old new (λ notes. RunAndCut id n d notes r to) → NoneRose old.faults new.faults →
    HasTrace old new (IsAsStated id n d (run_end r) to)
as_stated id valid n d r to old new ok drafts g h = (
  g.0,
  g.1,
  stated id valid n d g.0 r to (record { on_time = ok; drafts = drafts })
      (faultless old.faults new.faults g.0 g.1.faults h) g.2,
)
