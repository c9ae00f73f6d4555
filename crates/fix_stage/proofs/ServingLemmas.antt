-- What holds of serving a ResendRequest: its loop, its causes; it has an end, and goes on where it was out of memory.
use Rattle.std.proofs.Common.{◌≡◌, ◌≢◌, ℕ, zero, suc, ◌+◌, ◌-◌, ◌<◌, ◌≤◌, ◌==◌, ◌||◌, nat_lt, List, [], ◌∷◌}
use Rattle.std.proofs.Common.{◌++◌, Bool, true, false, Option, Some, Result, Ok, Err, refl, sym, ap, subst, append_assoc, arith, inl, inr, ◌∙◌}
use Rattle.std.specs.Prelude.{⊤}
use Rattle.std.specs.List.{AllByRecursion}
use Rattle.std.proofs.lemmas.Bool.{eqb-true, eqb-false, ltb-false, cases_lt}
use Rattle.fix_base.specs.declared.identity.Identity.{Identity}
use Rattle.fix_base.specs.declared.entry.Record.TheVariants.{Withhold}
use Rattle.fix_base.specs.End.{End, IsAppAt}
use Rattle.fix_base.specs.Session.{IsValidIdentity}
use Rattle.fix_base.specs.Payload.{IsAppPayload, LAST_TIME}
use Rattle.fix_base.specs.Trace.{OutsideSeen}
use Rattle.fix_outside.specs.declared.handing.Again.TheVariants as whether
use Rattle.fix_outside.specs.declared.outside.KeepFault.TheVariants as keep
use Rattle.fix_outside.specs.declared.outside.FetchFault.TheVariants as fetch
use Rattle.fix_outside.specs.declared.outside.Kind.TheVariants as kind
use Rattle.fix_outside.specs.Outside.{IsFetchedApp, NamesApp}
use Rattle.fix_outside.specs.Calls.{Call, Keep, Fetch, Again, Called, HasCalls}
use Rattle.fix_stage.specs.Combine as combine
use Rattle.fix_stage.specs.Combine.{Each, AndThen}
use Rattle.fix_stage.specs.Sender.{Sender, StageFault}
use Rattle.fix_stage.specs.Flush as flush
use Rattle.fix_stage.specs.Flush.{WroteOne}
use Rattle.fix_stage.specs.Sendings.{IsServing, serving_fetches, serving_asks, serving_keeps, serving_writes}
use Rattle.fix_stage.specs.Causes.{Blaming, blame_of}
use Rattle.fix_stage.specs.Stated.{Onward, keeping, fetching, asking, at_a_call, Total, Resumes, Stays, MayServe}
use Rattle.fix_stage.specs.Serving as serving
use Rattle.fix_stage.specs.Serving.{opened, WroteGap, WroteRepeat, Withholding, AppServed, ServedOne, numbers, last_served, asked_for, Served}
use Rattle.fix_stage.proofs.FoldLemmas.{SoFar, goes_on, stopped, finished}
use Rattle.fix_stage.proofs.CombineLemmas.{Each-blames, Then-blames, Blames-after, went_well, onward_as, short_after}
use Rattle.fix_stage.proofs.CombineLemmas.{short_alone, short_at, would_as, each_total, each_resumes_fit, each_stays_fit}
use Rattle.fix_stage.proofs.CombineLemmas.{then_resumes, IsFaultless-append}
use Rattle.fix_stage.proofs.SendingLemmas.{OM, always, WroteOne-blames, wrote_total, wrote_resumes}
use Rattle.fix_stage.proofs.RepeatLemmas.{some_repeat, some_gap}
use Rattle.fix_stage.proofs.SendsLemmas.{all-append}

-- ---- a loop over numbers

numbers-more : (n e : ℕ) → n < e → numbers n (e - n) ≡ n ∷ numbers (n + 1) (e - (n + 1))
numbers-more n e h = let same : e - n ≡ suc (e - (n + 1)) = omega arith in ap (numbers n) same

pub numbers-none : (n e : ℕ) → e ≤ n → numbers n (e - n) ≡ []
numbers-none n e h = let same : e - n ≡ 0 = omega arith in ap (numbers n) same

module _ {S E : Type 0} (R : S → ℕ → List Call → Result ⊤ E → S → Type 0) where
  pub numbers_on : (a b c : OutsideSeen) (s mid mid' : S) (xs : List ℕ) (n e : ℕ) → n < e
      → SoFar R a b s xs mid (numbers n (e - n)) → HasCalls b c (λ calls. R mid n calls (Ok tt) mid')
      → SoFar R a c s xs mid' (numbers (n + 1) (e - (n + 1)))
  numbers_on a b c s mid mid' xs n e h before step =
      goes_on R a b c s mid mid' xs n _ (subst (λ rest. SoFar R a b s xs mid rest) (numbers-more n e h) before) step

  pub numbers_stopped : (a b c : OutsideSeen) (s mid s' : S) (xs : List ℕ) (n e : ℕ) (f : E) → n < e
      → SoFar R a b s xs mid (numbers n (e - n)) → HasCalls b c (λ calls. R mid n calls (Err f) s')
      → HasCalls a c (λ calls. Each R s xs calls (Err f) s')
  numbers_stopped a b c s mid s' xs n e f h before step =
      stopped R a b c s mid s' xs n _ f (subst (λ rest. SoFar R a b s xs mid rest) (numbers-more n e h) before) step

  pub numbers_finished : (a b : OutsideSeen) (s mid : S) (xs : List ℕ) (n e : ℕ) → e ≤ n
      → SoFar R a b s xs mid (numbers n (e - n)) → HasCalls a b (λ calls. Each R s xs calls (Ok tt) mid)
  numbers_finished a b s mid xs n e h before =
      finished R a b s mid xs (subst (λ rest. SoFar R a b s xs mid rest) (numbers-none n e h) before)

-- ---- a message that was fetched

-- it is so still after the fetch, and where it is withheld an application message is
module _ (n time : ℕ) (body : List ℕ) (a b : OutsideSeen) where
  pub fetched_still : Called a b (Fetch n (Ok (kind.App time)) body ∷ []) → IsFetchedApp n time body a
      → IsFetchedApp n time body b
  fetched_still c h = record {
    payload = h.payload;
    told = λ e holds.
        (let was = c.stored.only e holds in
        let same : Some e ≡ Some was.0 = subst (λ o. Some e ≡ o) was.2.1.stores was.2.2 in
        h.told e (still was.0 e was.1 same));
    free = λ e holds.
        (let was = c.stored.only e holds in
        let same : Some e ≡ Some was.0 = subst (λ o. Some e ≡ o) was.2.1.stores was.2.2 in
        h.free e (still was.0 e was.1 same));
  }
    where
      still : (was e : End) → a.Holds was → Some e ≡ Some was → a.Holds e
      still was e holds same = let is : was ≡ e = cc in subst a.Holds is holds

  pub names_app : Called a b (Again n body whether.Withhold ∷ []) → IsFetchedApp n time body a → NamesApp (Withhold n) b
  names_app c h = λ e holds.
      (let was = c.stored.only e holds in
      let told = h.told was.0 was.1 in
      let same : e ≡ was.0 = still e was.0 was.2.0 was.2.1.stores.0 was.2.2 was.2.1.stores.2 was.2.1.stores.1 in
      subst (λ (x : End). (body : List ℕ) × IsAppAt x.out n body) (sym same)
      (body, record { time = time; by = told.0; entry = told.1 }))
    where
      still : (e was : End) (mid inner : _) → Some e ≡ mid → mid ≡ inner → inner ≡ Some was → e ≡ was
      still e was mid inner p q r = let whole : Some e ≡ Some was = p ∙ q ∙ r in cc

-- ---- numbers

pub low_served : (last to : ℕ) → last_served last to ≤ last
low_served last to = by ((to == 0) || nat_lt last to) refl
  where
    by : (t : Bool) → ((to == 0) || nat_lt last to) ≡ t → last_served last to ≤ last
    by true t = rw t (omega arith)
    by false t = rw t (ltb-false last to (or_false (to == 0) (nat_lt last to) t))
      where
        or_false : (x y : Bool) → (x || y) ≡ false → y ≡ false
        or_false true y h = absurd cc
        or_false false y h = h

pub opened_low : (g n most : ℕ) → g ≤ most → n ≤ most → opened g n ≤ most
opened_low g n most h k = by (g == 0) refl
  where
    by : (t : Bool) → (g == 0) ≡ t → opened g n ≤ most
    by true t = rw t k
    by false t = rw t h

-- ---- causes

WroteGap-blames : (id : Identity) (t g n : ℕ) → Blaming blame_of (WroteGap id t g n)
WroteGap-blames id t g n u calls r to (serving.no_gap h) = tt
WroteGap-blames id t g n u calls r to (serving.gap_written frame h is d) = WroteOne-blames (Some frame) u calls r to d
WroteGap-blames id t g n u calls r to (serving.gap_memory h) = tt

WroteRepeat-blames : (id : Identity) (t n time : ℕ) (body : List ℕ) → Blaming blame_of (WroteRepeat id t n time body)
WroteRepeat-blames id t n time body u calls r to (serving.repeat_written frame is d) =
    WroteOne-blames (Some frame) u calls r to d
WroteRepeat-blames id t n time body u calls r to serving.repeat_memory = tt

Withholding-blames : (n : ℕ) → Blaming blame_of (Withholding n)
Withholding-blames n u calls r to serving.withheld_kept = tt
Withholding-blames n u calls r to serving.withheld_lost = omega arith
Withholding-blames n u calls r to serving.withheld_memory = tt

AppServed-blames : (id : Identity) (t n time : ℕ) (body : List ℕ)
    → Blaming blame_of (λ g. AppServed id t n time body g)
AppServed-blames id t n time body g calls r to (serving.sends {calls = more} d) =
    Blames-after blame_of r (Again n body whether.Send ∷ []) more
    (Then-blames blame_of (WroteGap id t g n) (WroteRepeat id t n time body) (WroteGap-blames id t g n)
    (WroteRepeat-blames id t n time body) tt more r tt d)
AppServed-blames id t n time body g calls r to (serving.withholds d) = tt
AppServed-blames id t n time body g calls r to (serving.not_withheld {calls = more} {e = e} d) =
    Blames-after blame_of (Err e) (Again n body whether.Withhold ∷ []) more (Withholding-blames n tt more (Err e) tt d)
AppServed-blames id t n time body g calls r to serving.not_asked = tt

ServedOne-blames : (id : Identity) (t n : ℕ) → Blaming blame_of (λ g. ServedOne id t g n)
ServedOne-blames id t n g calls r to (serving.app {calls = more} time body is d) =
    Blames-after blame_of r (Fetch n (Ok (kind.App time)) body ∷ []) more (AppServed-blames id t n time body g more r to d)
ServedOne-blames id t n g calls r to (serving.admin body) = tt
ServedOne-blames id t n g calls r to (serving.withheld body) = tt
ServedOne-blames id t n g calls r to (serving.fetch_lost body) = omega arith
ServedOne-blames id t n g calls r to (serving.fetch_memory body) = tt

pub Served-blames : (id : Identity) (from to : ℕ) → Blaming blame_of (Served id from to)
Served-blames id from to b calls r b' (serving.serve_ends {g = g} {e = e} d) =
    Each-blames blame_of (ServedOne id b.numbers.reading) (ServedOne-blames id b.numbers.reading)
    (asked_for b.numbers.last from to) 0 calls (Err e) g d
Served-blames id from to b calls r b' (serving.serves {g = g} {first = first} {more = more} d w) =
    Blames-after blame_of r first more
    (WroteGap-blames id b.numbers.reading g (last_served b.numbers.last to + 1) tt more r tt w)

-- ---- which calls are made

written_serves : (frame : Option (List ℕ)) (u to : ⊤) (calls : List Call) (r : Result ⊤ StageFault)
    → WroteOne u frame calls r to → AllByRecursion IsServing calls
written_serves frame u to calls r flush.no_frame = tt
written_serves frame u to calls r (flush.wrote text) = (serving_writes _ _, tt)
written_serves frame u to calls r (flush.write_lost text sent) = (serving_writes _ _, tt)
written_serves frame u to calls r (flush.write_memory text) = (serving_writes _ _, tt)

gap_serves : (id : Identity) (t g n : ℕ) (u to : ⊤) (calls : List Call) (r : Result ⊤ StageFault)
    → WroteGap id t g n u calls r to → AllByRecursion IsServing calls
gap_serves id t g n u to calls r (serving.no_gap h) = tt
gap_serves id t g n u to calls r (serving.gap_written frame h is d) = written_serves (Some frame) u to calls r d
gap_serves id t g n u to calls r (serving.gap_memory h) = tt

repeat_serves : (id : Identity) (t n time : ℕ) (body : List ℕ) (u to : ⊤) (calls : List Call) (r : Result ⊤ StageFault)
    → WroteRepeat id t n time body u calls r to → AllByRecursion IsServing calls
repeat_serves id t n time body u to calls r (serving.repeat_written frame is d) = written_serves (Some frame) u to calls r d
repeat_serves id t n time body u to calls r serving.repeat_memory = tt

both_serve : (id : Identity) (t g n time : ℕ) (body : List ℕ) (u to : ⊤) (calls : List Call) (r : Result ⊤ StageFault)
    → AndThen (WroteGap id t g n) (WroteRepeat id t n time body) u calls r to → AllByRecursion IsServing calls
both_serve id t g n time body u to calls r (combine.first_ends {e = e} d) = gap_serves id t g n u to calls (Err e) d
both_serve id t g n time body u to calls r (combine.both {mid = mid} {first = first} {more = more} d k) =
    all-append IsServing first more (gap_serves id t g n u mid first (Ok tt) d)
    (repeat_serves id t n time body mid to more r k)

withholding_serves : (n : ℕ) (u to : ⊤) (calls : List Call) (r : Result ⊤ StageFault) → Withholding n u calls r to
    → AllByRecursion IsServing calls
withholding_serves n u to calls r serving.withheld_kept = (serving_keeps _ _, tt)
withholding_serves n u to calls r serving.withheld_lost = (serving_keeps _ _, tt)
withholding_serves n u to calls r serving.withheld_memory = (serving_keeps _ _, tt)

app_serves : (id : Identity) (t n time : ℕ) (body : List ℕ) (g to : ℕ) (calls : List Call) (r : Result ⊤ StageFault)
    → AppServed id t n time body g calls r to → AllByRecursion IsServing calls
app_serves id t n time body g to calls r (serving.sends {calls = more} d) =
    (serving_asks _ _ _, both_serve id t g n time body tt tt more r d)
app_serves id t n time body g to calls r (serving.withholds {calls = more} d) =
    (serving_asks _ _ _, withholding_serves n tt tt more (Ok tt) d)
app_serves id t n time body g to calls r (serving.not_withheld {calls = more} {e = e} d) =
    (serving_asks _ _ _, withholding_serves n tt tt more (Err e) d)
app_serves id t n time body g to calls r serving.not_asked = (serving_asks _ _ _, tt)

one_serves : (id : Identity) (t n g to : ℕ) (calls : List Call) (r : Result ⊤ StageFault) → ServedOne id t g n calls r to
    → AllByRecursion IsServing calls
one_serves id t n g to calls r (serving.app {calls = more} time body is d) =
    (serving_fetches _ _ _, app_serves id t n time body g to more r d)
one_serves id t n g to calls r (serving.admin body) = (serving_fetches _ _ _, tt)
one_serves id t n g to calls r (serving.withheld body) = (serving_fetches _ _ _, tt)
one_serves id t n g to calls r (serving.fetch_lost body) = (serving_fetches _ _ _, tt)
one_serves id t n g to calls r (serving.fetch_memory body) = (serving_fetches _ _ _, tt)

each_serves : (id : Identity) (t : ℕ) (xs : List ℕ) (g to : ℕ) (calls : List Call) (r : Result ⊤ StageFault)
    → Each (ServedOne id t) g xs calls r to → AllByRecursion IsServing calls
each_serves id t [] g to calls r combine.none = tt
each_serves id t (x ∷ xs) g to calls r (combine.ends {e = e} d) = one_serves id t x g to calls (Err e) d
each_serves id t (x ∷ xs) g to calls r (combine.goes {mid = mid} {first = first} {more = more} d k) =
    all-append IsServing first more (one_serves id t x g mid first (Ok tt) d) (each_serves id t xs mid to more r k)

pub served_serves : (id : Identity) (from to : ℕ) (b : Sender) (calls : List Call) (r : Result ⊤ StageFault) (after : Sender)
    → Served id from to b calls r after → AllByRecursion IsServing calls
served_serves id from to b calls r after (serving.serve_ends {g = g} {e = e} d) =
    each_serves id b.numbers.reading (asked_for b.numbers.last from to) 0 g calls (Err e) d
served_serves id from to b calls r after (serving.serves {g = g} {first = first} {more = more} d w) =
    all-append IsServing first more
    (each_serves id b.numbers.reading (asked_for b.numbers.last from to) 0 g first (Ok tt) d)
    (gap_serves id b.numbers.reading g (last_served b.numbers.last to + 1) tt tt more r w)

-- ---- what stays

abbrev GapFits : ℕ → Type 0
GapFits g = g ≤ 999999999

app_stays : (id : Identity) (t n time : ℕ) (body : List ℕ) → n ≤ 999999999
    → Stays GapFits (λ g. AppServed id t n time body g)
app_stays id t n time body low g calls r to ok (serving.sends d) = omega arith
app_stays id t n time body low g calls r to ok (serving.withholds d) = opened_low g n 999999999 ok low
app_stays id t n time body low g calls r to ok (serving.not_withheld d) = ok
app_stays id t n time body low g calls r to ok serving.not_asked = ok

one_stays : (id : Identity) (t n : ℕ) → n ≤ 999999999 → Stays GapFits (λ g. ServedOne id t g n)
one_stays id t n low g calls r to ok (serving.app {calls = more} time body is d) =
    app_stays id t n time body low g more r to ok d
one_stays id t n low g calls r to ok (serving.admin body) = opened_low g n 999999999 ok low
one_stays id t n low g calls r to ok (serving.withheld body) = opened_low g n 999999999 ok low
one_stays id t n low g calls r to ok (serving.fetch_lost body) = ok
one_stays id t n low g calls r to ok (serving.fetch_memory body) = ok

pub served_stays : (id : Identity) (from to : ℕ) → Stays MayServe (Served id from to)
served_stays id from to b calls r b' ok (serving.serve_ends d) = ok
served_stays id from to b calls r b' ok (serving.serves d w) = ok

-- each number is a MsgSeqNum
numbers_low : (n count : ℕ) → n + count ≤ 1000000000 → AllByRecursion (λ (k : ℕ). k ≤ 999999999) (numbers n count)
numbers_low n zero h = tt
numbers_low n (suc count) h = (omega arith, numbers_low (n + 1) count (omega arith))

nothing_low : (n e : ℕ) → e ≤ 1000000000 → AllByRecursion (λ (k : ℕ). k ≤ 999999999) (numbers n (e - n))
nothing_low n e h = elim (cases_lt n e) [
  | inl less ↦ numbers_low n (e - n) (omega arith)
  | inr most ↦ subst (AllByRecursion (λ (k : ℕ). k ≤ 999999999)) (sym (numbers-none n e most)) tt
]

-- ---- it has an end, and goes on

module _ (id : Identity) (t : ℕ) (valid : IsValidIdentity id) (timely : t ≤ LAST_TIME) where
  gap_total : (g n : ℕ) → g ≤ 999999999 → n ≤ 1000000000 → Total OM always (WroteGap id t g n)
  gap_total g n low next u ok = by (g == 0) refl
    where
      by : (z : Bool) → (g == 0) ≡ z → Onward OM always (WroteGap id t g n) u []
      by true z = went_well OM always (WroteGap id t g n) u u tt (serving.no_gap (eqb-true g 0 z))
      by false z =
          let f = some_gap id g n t valid low next timely in
          onward_as OM always (λ u. WroteOne u (Some f.0)) (WroteGap id t g n) u u []
          (λ more r to d. serving.gap_written f.0 (eqb-false g 0 z) f.1 d) (wrote_total (Some f.0) tt u tt)

  gap_resumes : (g n : ℕ) → g ≤ 999999999 → n ≤ 1000000000 → Resumes OM always (WroteGap id t g n)
  gap_resumes g n low next u calls s' ok (serving.gap_written frame h is d) =
      λ hold. wrote_resumes (Some frame) tt u calls s' tt d
      (λ w. hold (would_as OM always (λ u. WroteOne u (Some frame)) (WroteGap id t g n) u u calls
      (λ calls x. onward_as OM always (λ u. WroteOne u (Some frame)) (WroteGap id t g n) u u calls
      (λ more r to d. serving.gap_written frame h is d) x) w))
  gap_resumes g n low next u calls s' ok (serving.gap_memory h) =
      λ hold. hold (short_alone OM always (WroteGap id t g n) u [] (gap_total g n low next u tt))

  repeat_total : (n time : ℕ) (body : List ℕ) → n ≤ 999999999 → IsAppPayload time body
      → Total OM always (WroteRepeat id t n time body)
  repeat_total n time body low is u ok =
      let f = some_repeat id n time body t valid low is timely in
      onward_as OM always (λ u. WroteOne u (Some f.0)) (WroteRepeat id t n time body) u u []
      (λ more r to d. serving.repeat_written f.0 f.1 d) (wrote_total (Some f.0) tt u tt)

  repeat_resumes : (n time : ℕ) (body : List ℕ) → n ≤ 999999999 → IsAppPayload time body
      → Resumes OM always (WroteRepeat id t n time body)
  repeat_resumes n time body low p u calls s' ok (serving.repeat_written frame is d) =
      λ hold. wrote_resumes (Some frame) tt u calls s' tt d
      (λ w. hold (would_as OM always (λ u. WroteOne u (Some frame)) (WroteRepeat id t n time body) u u calls
      (λ calls x. onward_as OM always (λ u. WroteOne u (Some frame)) (WroteRepeat id t n time body) u u calls
      (λ more r to d. serving.repeat_written frame is d) x) w))
  repeat_resumes n time body low p u calls s' ok serving.repeat_memory =
      λ hold. hold (short_alone OM always (WroteRepeat id t n time body) u [] (repeat_total n time body low p u tt))

  -- a message for which the application was asked
  module _ (n time : ℕ) (body : List ℕ) (low : n ≤ 999999999) (is : IsAppPayload time body) where
    both_resume : (g : ℕ) → g ≤ 999999999
        → Resumes OM always (AndThen (WroteGap id t g n) (WroteRepeat id t n time body))
    both_resume g fits =
        then_resumes OM always (WroteGap id t g n) (WroteRepeat id t n time body) (repeat_total n time body low is)
        (gap_resumes g n fits (omega arith)) (repeat_resumes n time body low is) (λ s calls r s' ok d. tt)

    send_onward : (g : ℕ) (calls : List Call)
        → Onward OM always (AndThen (WroteGap id t g n) (WroteRepeat id t n time body)) tt calls
        → Onward OM GapFits (λ g. AppServed id t n time body g) g (Again n body whether.Send ∷ calls)
    send_onward g calls x = record {
      more = x.more;
      faultless = x.faultless;
      r = x.r;
      to = 0;
      good = omega arith;
      whole = serving.sends x.whole;
      no_want = x.no_want;
    }

    -- it is withheld, and that is kept
    withhold_onward : (g : ℕ) → GapFits g
        → Onward OM GapFits (λ g. AppServed id t n time body g) g (Again n body whether.Withhold ∷ [])
    withhold_onward g ok = record {
      more = Keep (Withhold n) (Ok tt) ∷ [];
      faultless = tt;
      r = Ok tt;
      to = opened g n;
      good = opened_low g n 999999999 ok low;
      whole = serving.withholds serving.withheld_kept;
      no_want = λ h. cc;
    }

    app_total : Total OM GapFits (λ g. AppServed id t n time body g)
    app_total g ok = record {
      more = Again n body whether.Withhold ∷ Keep (Withhold n) (Ok tt) ∷ [];
      faultless = tt;
      r = Ok tt;
      to = opened g n;
      good = opened_low g n 999999999 ok low;
      whole = serving.withholds serving.withheld_kept;
      no_want = λ h. cc;
    }

    app_resumes : Resumes OM GapFits (λ g. AppServed id t n time body g)
    app_resumes g calls s' ok (serving.sends {calls = more} d) =
        λ hold. both_resume g ok tt more tt tt d (λ w. hold (record {
          before = Again n body whether.Send ∷ w.before;
          short = short_after (Again n body whether.Send ∷ []) w.before more w.short;
          onward = send_onward g w.before w.onward;
        }))
    app_resumes g calls s' ok (serving.not_withheld serving.withheld_memory) =
        λ hold. hold (record {
          before = Again n body whether.Withhold ∷ [];
          short = at_a_call (Keep (Withhold n) (Err keep.OutOfMemory)) (keeping (Withhold n));
          onward = withhold_onward g ok;
        })
    app_resumes g calls s' ok serving.not_asked =
        λ hold. hold (short_at OM GapFits (λ g. AppServed id t n time body g) g (Again n body whether.OutOfMemory)
        (asking n body) (app_total g ok))

    fetched_onward : (g : ℕ) (calls : List Call) → Onward OM GapFits (λ g. AppServed id t n time body g) g calls
        → Onward OM GapFits (λ g. ServedOne id t g n) g (Fetch n (Ok (kind.App time)) body ∷ calls)
    fetched_onward g calls x = record {
      more = x.more;
      faultless = x.faultless;
      r = x.r;
      to = x.to;
      good = x.good;
      whole = serving.app time body is x.whole;
      no_want = x.no_want;
    }

  one_total : (n : ℕ) → n ≤ 999999999 → Total OM GapFits (λ g. ServedOne id t g n)
  one_total n low g ok = record {
    more = Fetch n (Ok kind.Admin) [] ∷ [];
    faultless = tt;
    r = Ok tt;
    to = opened g n;
    good = opened_low g n 999999999 ok low;
    whole = serving.admin [];
    no_want = λ h. cc;
  }

  one_resumes : (n : ℕ) → n ≤ 999999999 → Resumes OM GapFits (λ g. ServedOne id t g n)
  one_resumes n low g calls s' ok (serving.app {calls = more} time body is d) =
      λ hold. app_resumes n time body low is g more s' ok d (λ w. hold (record {
        before = Fetch n (Ok (kind.App time)) body ∷ w.before;
        short = short_after (Fetch n (Ok (kind.App time)) body ∷ []) w.before more w.short;
        onward = fetched_onward n time body low is g w.before w.onward;
      }))
  one_resumes n low g calls s' ok (serving.fetch_memory body) =
      λ hold. hold (short_at OM GapFits (λ g. ServedOne id t g n) g (Fetch n (Err fetch.OutOfMemory) body)
      (fetching n body) (one_total n low g ok))

-- ---- all of them

module _ (id : Identity) (valid : IsValidIdentity id) (from to : ℕ) where
  -- the numbers are served, and the last gap is written as it goes on
  last_onward : (b : Sender) (ok : MayServe b) (calls : List Call)
      → Onward OM GapFits (λ g. Each (ServedOne id b.numbers.reading) g (asked_for b.numbers.last from to)) 0 calls
      → Onward OM MayServe (Served id from to) b calls
  last_onward b ok calls x = by x.r x.to x.good x.whole x.no_want
    where
      by : (r : Result ⊤ StageFault) (g : ℕ) → GapFits g
          → Each (ServedOne id b.numbers.reading) 0 (asked_for b.numbers.last from to) (calls ++ x.more) r g
          → r ≢ Err OM → Onward OM MayServe (Served id from to) b calls
      by (Err e) g fits d n = record {
        more = x.more;
        faultless = x.faultless;
        r = Err e;
        to = b;
        good = ok;
        whole = serving.serve_ends d;
        no_want = n;
      }
      by (Ok u) g fits d n =
          let w = gap_total id b.numbers.reading valid ok.timely.reading g (last_served b.numbers.last to + 1) fits
          (omega (arith, low_served b.numbers.last to, ok.last)) tt tt in
          record {
            more = x.more ++ w.more;
            faultless = IsFaultless-append x.more w.more x.faultless w.faultless;
            r = w.r;
            to = b;
            good = ok;
            whole = subst (λ l. Served id from to b l w.r b) (append_assoc calls x.more w.more) (serving.serves d w.whole);
            no_want = w.no_want;
          }

  all_low : (b : Sender) → MayServe b → AllByRecursion (λ (k : ℕ). k ≤ 999999999) (asked_for b.numbers.last from to)
  all_low b ok =
      nothing_low from (last_served b.numbers.last to + 1) (omega (arith, low_served b.numbers.last to, ok.last))

  pub served_total : Total OM MayServe (Served id from to)
  served_total b ok =
      last_onward b ok []
      (each_total OM GapFits (ServedOne id b.numbers.reading) (λ (k : ℕ). k ≤ 999999999)
      (one_total id b.numbers.reading valid ok.timely.reading) (asked_for b.numbers.last from to) (all_low b ok) 0
      (omega arith))

  pub served_resumes : Resumes OM MayServe (Served id from to)
  served_resumes b calls s' ok (serving.serve_ends {g = g} d) =
      λ hold. each_resumes_fit OM GapFits (ServedOne id b.numbers.reading) (λ (k : ℕ). k ≤ 999999999)
      (one_total id b.numbers.reading valid ok.timely.reading) (one_resumes id b.numbers.reading valid ok.timely.reading)
      (one_stays id b.numbers.reading) (asked_for b.numbers.last from to) (all_low b ok) 0 calls g (omega arith) d
      (λ w. hold (record { before = w.before; short = w.short; onward = last_onward b ok w.before w.onward }))
  served_resumes b calls s' ok (serving.serves {g = g} {first = first} {more = more} d w) =
      let fits = each_stays_fit OM GapFits (ServedOne id b.numbers.reading) (λ (k : ℕ). k ≤ 999999999)
      (one_stays id b.numbers.reading) (asked_for b.numbers.last from to) (all_low b ok) 0 first (Ok tt) g (omega arith) d in
      λ hold. gap_resumes id b.numbers.reading valid ok.timely.reading g (last_served b.numbers.last to + 1) fits
      (omega (arith, low_served b.numbers.last to, ok.last)) tt more tt tt w (λ x. hold (record {
        before = first ++ x.before;
        short = short_after first x.before more x.short;
        onward = record {
          more = x.onward.more;
          faultless = x.onward.faultless;
          r = x.onward.r;
          to = b;
          good = ok;
          whole = subst (λ l. Served id from to b l x.onward.r b) (sym (append_assoc first x.before x.onward.more))
              (serving.serves d x.onward.whole);
          no_want = x.onward.no_want;
        };
      }))
