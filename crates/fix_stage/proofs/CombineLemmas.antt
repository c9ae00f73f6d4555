-- What holds of parts holds of them put together: their faults have causes, they end, and they go on.
use Rattle.std.proofs.Common.{◌≡◌, ◌≢◌, List, [], ◌∷◌, ◌++◌, Result, Ok, Err, refl, sym, ap, subst, append_assoc, arith}
use Rattle.std.specs.Prelude.{⊤}
use Rattle.std.specs.List.{AllByRecursion}
use Rattle.fix_base.specs.Trace.{Note, Did, Failed, Asked, StorePart, LinkPart, AppPart, Faults, Counts, NoneRose}
use Rattle.fix_outside.specs.Calls.{Call, notes_in}
use Rattle.fix_outside.proofs.CallLemmas.{notes_in-append, store_fails-append, link_fails-append, app_fails-append}
use Rattle.fix_stage.specs.Combine.{Each, none, ends, goes, AndThen, first_ends, both, Lifted, goes_well, fails}
use Rattle.fix_stage.specs.Causes.{Blame, NoPart, TheStore, TheLink, TheApp, HasFailed, HasRisen, Blames, Blaming}
use Rattle.fix_stage.specs.Stated.{IsFaultless, Onward, IsOutOfMemory, IsShortAfter, alone, at_a_call, WouldGoOn, CanNotFail, Total, Resumes, Stays}

-- ---- causes

failed_after : (blame : Blame) (first more : List Call) → HasFailed blame more → HasFailed blame (first ++ more)
failed_after NoPart first more h = tt
failed_after TheStore first more h = omega (arith, store_fails-append first more)
failed_after TheLink first more h = omega (arith, link_fails-append first more)
failed_after TheApp first more h = omega (arith, app_fails-append first more)

failed_before : (blame : Blame) (first more : List Call) → HasFailed blame first → HasFailed blame (first ++ more)
failed_before NoPart first more h = tt
failed_before TheStore first more h = omega (arith, store_fails-append first more)
failed_before TheLink first more h = omega (arith, link_fails-append first more)
failed_before TheApp first more h = omega (arith, app_fails-append first more)

-- a part that failed has a count that rose
pub has_risen : (blame : Blame) (old new : Faults) (calls : List Call) → Counts old new (notes_in calls) → HasFailed blame calls
    → HasRisen blame old new
has_risen NoPart old new calls counts h = tt
has_risen TheStore old new calls counts h = omega (arith, counts.store)
has_risen TheLink old new calls counts h = omega (arith, counts.link)
has_risen TheApp old new calls counts h = omega (arith, counts.app)

module _ {E : Type 0} (blame : E → Blame) where
  pub Blames-after : (r : Result ⊤ E) (first more : List Call) → Blames blame r more → Blames blame r (first ++ more)
  Blames-after (Ok x) first more h = tt
  Blames-after (Err e) first more h = failed_after (blame e) first more h

  pub Blames-before : (r : Result ⊤ E) (first more : List Call) → Blames blame r first → Blames blame r (first ++ more)
  Blames-before (Ok x) first more h = tt
  Blames-before (Err e) first more h = failed_before (blame e) first more h

  pub Each-blames : {S X : Type 0} (R : S → X → List Call → Result ⊤ E → S → Type 0)
      → ((x : X) → Blaming blame (λ s. R s x)) → (xs : List X) → Blaming blame (λ s. Each R s xs)
  Each-blames R one [] s calls r to none = tt
  Each-blames R one (x ∷ xs) s calls r to (ends {e = e} d) = one x s calls (Err e) to d
  Each-blames R one (x ∷ xs) s calls r to (goes {mid = mid} {first = a} {more = b} d k) =
      Blames-after r a b (Each-blames R one xs mid b r to k)

  pub Then-blames : {S : Type 0} (A B : S → List Call → Result ⊤ E → S → Type 0) → Blaming blame A → Blaming blame B
      → Blaming blame (AndThen A B)
  Then-blames A B one other s calls r to (first_ends {e = e} d) = one s calls (Err e) to d
  Then-blames A B one other s calls r to (both {mid = mid} {first = a} {more = b} d k) =
      Blames-after r a b (other mid b r to k)

-- the fault of the whole blames the part that the fault of the part does
pub Lifted-blames : {S T E F : Type 0} (get : T → S) (put : T → S → T) (fault : E → F) (blame : E → Blame)
    (blame' : F → Blame) (R : S → List Call → Result ⊤ E → S → Type 0) → ((e : E) → blame' (fault e) ≡ blame e)
    → Blaming blame R → Blaming blame' (Lifted get put fault R)
Lifted-blames get put fault blame blame' R same one t calls r to (goes_well d) = tt
Lifted-blames get put fault blame blame' R same one t calls r to (fails {s = s} {e = e} d) =
    subst (λ b. HasFailed b calls) (sym (same e)) (one (get t) calls (Err e) s d)

-- ---- no fault

faultless-append : (xs ys : List Note) → IsFaultless xs → IsFaultless ys → IsFaultless (xs ++ ys)
faultless-append [] ys h k = k
faultless-append (Did a ∷ xs) ys h k = faultless-append xs ys h k
faultless-append (Failed p ∷ xs) ys h k = absurd h
faultless-append (Asked d ∷ xs) ys h k = faultless-append xs ys h k

pub IsFaultless-append : (xs ys : List Call) → IsFaultless (notes_in xs) → IsFaultless (notes_in ys) → IsFaultless (notes_in (xs ++ ys))
IsFaultless-append xs ys h k = subst IsFaultless (sym (notes_in-append xs ys)) (faultless-append (notes_in xs) (notes_in ys) h k)

none_failed : (old new : Faults) (notes : List Note) → Counts old new notes → NoneRose old new → IsFaultless notes
none_failed old new [] c n = tt
none_failed old new (Did a ∷ notes) c n = none_failed old new notes
    (record { store = c.store; link = c.link; app = c.app }) n
none_failed old new (Failed StorePart ∷ notes) c n = absurd (n.store (let h = c.store in omega arith))
none_failed old new (Failed (LinkPart unsent) ∷ notes) c n = absurd (n.link (let h = c.link in omega arith))
none_failed old new (Failed AppPart ∷ notes) c n = absurd (n.app (let h = c.app in omega arith))
none_failed old new (Asked d ∷ notes) c n =
    none_failed old new notes (record { store = c.store; link = c.link; app = c.app }) n

-- where no count rose nothing failed
pub faultless : (old new : Faults) (calls : List Call) → Counts old new (notes_in calls) → NoneRose old new → IsFaultless (notes_in calls)
faultless old new calls c n = none_failed old new (notes_in calls) c n

-- ---- out of memory

pub short_after : (first before calls : List Call) → IsShortAfter before calls → IsShortAfter (first ++ before) (first ++ calls)
short_after first before calls alone = alone
short_after first before calls (at_a_call call is) = subst (IsShortAfter (first ++ before)) (append_assoc first before (call ∷ [])) (at_a_call call is)

abbrev failed : {E : Type 0} → E → Result ⊤ E
failed e = Err e

-- ---- it goes on

module _ {S E : Type 0} (memory : E) (Good : S → Type 0) where
  -- it goes well, and nothing more is done
  pub went_well : (R : S → List Call → Result ⊤ E → S → Type 0) (s to : S) → Good to → R s [] (Ok tt) to
      → Onward memory Good R s []
  went_well R s to ok d = record { more = []; faultless = tt; r = Ok tt; to = to; good = ok; whole = d; no_want = λ h. cc }

  -- what goes on as the one goes on as the other
  pub onward_as : (A B : S → List Call → Result ⊤ E → S → Type 0) (s s' : S) (calls : List Call)
      → ((more : List Call) (r : Result ⊤ E) (to : S) → A s (calls ++ more) r to → B s' (calls ++ more) r to)
      → Onward memory Good A s calls → Onward memory Good B s' calls
  onward_as A B s s' calls f g = record {
    more = g.more;
    faultless = g.faultless;
    r = g.r;
    to = g.to;
    good = g.good;
    whole = f g.more g.r g.to g.whole;
    no_want = g.no_want;
  }

  -- it was out of memory on its own
  pub short_alone : (R : S → List Call → Result ⊤ E → S → Type 0) (s : S) (calls : List Call) → Onward memory Good R s calls
      → WouldGoOn memory Good R s calls
  short_alone R s calls g = record { before = calls; short = alone; onward = g }

  -- its first call was
  pub short_at : (R : S → List Call → Result ⊤ E → S → Type 0) (s : S) (call : Call) → IsOutOfMemory call
      → Onward memory Good R s [] → WouldGoOn memory Good R s (call ∷ [])
  short_at R s call is g = record { before = []; short = at_a_call call is; onward = g }

  pub would_as : (A B : S → List Call → Result ⊤ E → S → Type 0) (s s' : S) (calls : List Call)
      → ((calls : List Call) → Onward memory Good A s calls → Onward memory Good B s' calls)
      → WouldGoOn memory Good A s calls → WouldGoOn memory Good B s' calls
  would_as A B s s' calls f w = record { before = w.before; short = w.short; onward = f w.before w.onward }

  -- the same after other calls
  pub would_after : (A B : S → List Call → Result ⊤ E → S → Type 0) (s s' : S) (first calls : List Call)
      → ((calls : List Call) → Onward memory Good A s calls → Onward memory Good B s' (first ++ calls))
      → WouldGoOn memory Good A s calls → WouldGoOn memory Good B s' (first ++ calls)
  would_after A B s s' first calls f w = record {
    before = first ++ w.before;
    short = short_after first w.before calls w.short;
    onward = f w.before w.onward;
  }

  module _ {X : Type 0} (R : S → X → List Call → Result ⊤ E → S → Type 0) where
    -- a part and then others, where the first is known so far
    each_onward : (x : X) (xs : List X) (s : S) (calls : List Call) → Total memory Good (λ s. Each R s xs)
        → Onward memory Good (λ s. R s x) s calls → Onward memory Good (λ s. Each R s (x ∷ xs)) s calls
    each_onward x xs s calls total g = by g.r g.to g.good g.whole g.no_want
      where
        by : (r : Result ⊤ E) (to : S) → Good to → R s x (calls ++ g.more) r to → r ≢ Err memory
            → Onward memory Good (λ s. Each R s (x ∷ xs)) s calls
        by (Err e) to ok d n = record {
          more = g.more;
          faultless = g.faultless;
          r = Err e;
          to = to;
          good = ok;
          whole = ends d;
          no_want = n;
        }
        by (Ok u) to ok d n =
            let t = total to ok in
            record {
              more = g.more ++ t.more;
              faultless = IsFaultless-append g.more t.more g.faultless t.faultless;
              r = t.r;
              to = t.to;
              good = t.good;
              whole = subst (λ l. Each R s (x ∷ xs) l t.r t.to) (append_assoc calls g.more t.more) (goes d t.whole);
              no_want = t.no_want;
            }

    pub each_total : (Fit : X → Type 0) → ((x : X) → Fit x → Total memory Good (λ s. R s x)) → (xs : List X)
        → AllByRecursion Fit xs → Total memory Good (λ s. Each R s xs)
    each_total Fit one [] fit s ok = went_well (λ s. Each R s []) s s ok none
    each_total Fit one (x ∷ xs) fit s ok = each_onward x xs s [] (each_total Fit one xs fit.1) (one x fit.0 s ok)

    pub each_stays : ((x : X) → Stays Good (λ s. R s x)) → (xs : List X) → Stays Good (λ s. Each R s xs)
    each_stays stays [] s calls r s' ok none = ok
    each_stays stays (x ∷ xs) s calls r s' ok (ends {e = e} d) = stays x s calls (Err e) s' ok d
    each_stays stays (x ∷ xs) s calls r s' ok (goes {mid = mid} {first = a} {more = b} d k) =
        each_stays stays xs mid b r s' (stays x s a (Ok tt) mid ok d) k

    -- where an item that fits keeps the state good
    pub each_resumes_fit : (Fit : X → Type 0) → ((x : X) → Fit x → Total memory Good (λ s. R s x))
        → ((x : X) → Fit x → Resumes memory Good (λ s. R s x)) → ((x : X) → Fit x → Stays Good (λ s. R s x))
        → (xs : List X) → AllByRecursion Fit xs → Resumes memory Good (λ s. Each R s xs)
    each_resumes_fit Fit one again stays [] fit s calls s' ok d = elim d [ ]
    each_resumes_fit Fit one again stays (x ∷ xs) fit s calls s' ok (ends d) =
        λ k. again x fit.0 s calls s' ok d (λ t. k (would_as (λ s. R s x) (λ s. Each R s (x ∷ xs)) s s calls
        (λ calls g. each_onward x xs s calls (each_total Fit one xs fit.1) g) t))
    each_resumes_fit Fit one again stays (x ∷ xs) fit s calls s' ok (goes {mid = mid} {first = a} {more = b} d k) =
        λ hold. each_resumes_fit Fit one again stays xs fit.1 mid b s' (stays x fit.0 s a (Ok tt) mid ok d) k
        (λ w. hold (would_after (λ s. Each R s xs) (λ s. Each R s (x ∷ xs)) mid s a b (λ calls t. record {
          more = t.more;
          faultless = t.faultless;
          r = t.r;
          to = t.to;
          good = t.good;
          whole = subst (λ l. Each R s (x ∷ xs) l t.r t.to) (sym (append_assoc a calls t.more)) (goes d t.whole);
          no_want = t.no_want;
        }) w))

    pub each_resumes : (Fit : X → Type 0) → ((x : X) → Fit x → Total memory Good (λ s. R s x))
        → ((x : X) → Fit x → Resumes memory Good (λ s. R s x)) → ((x : X) → Stays Good (λ s. R s x)) → (xs : List X)
        → AllByRecursion Fit xs → Resumes memory Good (λ s. Each R s xs)
    each_resumes Fit one again stays xs fit = each_resumes_fit Fit one again (λ x f. stays x) xs fit

    pub each_stays_fit : (Fit : X → Type 0) → ((x : X) → Fit x → Stays Good (λ s. R s x)) → (xs : List X)
        → AllByRecursion Fit xs → Stays Good (λ s. Each R s xs)
    each_stays_fit Fit stays [] fit s calls r s' ok none = ok
    each_stays_fit Fit stays (x ∷ xs) fit s calls r s' ok (ends {e = e} d) = stays x fit.0 s calls (Err e) s' ok d
    each_stays_fit Fit stays (x ∷ xs) fit s calls r s' ok (goes {mid = mid} {first = a} {more = b} d k) =
        each_stays_fit Fit stays xs fit.1 mid b r s' (stays x fit.0 s a (Ok tt) mid ok d) k

  module _ (A B : S → List Call → Result ⊤ E → S → Type 0) where
    then_onward : Total memory Good B → (s : S) (calls : List Call) → Onward memory Good A s calls
        → Onward memory Good (AndThen A B) s calls
    then_onward total s calls g = by g.r g.to g.good g.whole g.no_want
      where
        by : (r : Result ⊤ E) (to : S) → Good to → A s (calls ++ g.more) r to → r ≢ Err memory
            → Onward memory Good (AndThen A B) s calls
        by (Err e) to ok d n = record {
          more = g.more;
          faultless = g.faultless;
          r = Err e;
          to = to;
          good = ok;
          whole = first_ends d;
          no_want = n;
        }
        by (Ok x) to ok d n =
            let t = total to ok in
            record {
              more = g.more ++ t.more;
              faultless = IsFaultless-append g.more t.more g.faultless t.faultless;
              r = t.r;
              to = t.to;
              good = t.good;
              whole = subst (λ w. AndThen A B s w t.r t.to) (append_assoc calls g.more t.more) (both d t.whole);
              no_want = t.no_want;
            }

    pub then_total : Total memory Good A → Total memory Good B → Total memory Good (AndThen A B)
    then_total first total s ok = then_onward total s [] (first s ok)

    pub then_stays : Stays Good A → Stays Good B → Stays Good (AndThen A B)
    then_stays first more s calls r s' ok (first_ends {e = e} d) = first s calls (Err e) s' ok d
    then_stays first more s calls r s' ok (both {mid = mid} {first = a} {more = b} d k) =
        more mid b r s' (first s a (Ok tt) mid ok d) k

    pub then_resumes : Total memory Good B → Resumes memory Good A → Resumes memory Good B → Stays Good A
        → Resumes memory Good (AndThen A B)
    then_resumes total first more stays s calls s' ok (first_ends d) =
        λ hold. first s calls s' ok d (λ w. hold (would_as A (AndThen A B) s s calls (λ calls g. then_onward total s calls g) w))
    then_resumes total first more stays s calls s' ok (both {mid = mid} {first = a} {more = b} d k) =
        λ hold. more mid b s' (stays s a (Ok tt) mid ok d) k (λ w. hold (would_after B (AndThen A B) mid s a b (λ calls t. record {
          more = t.more;
          faultless = t.faultless;
          r = t.r;
          to = t.to;
          good = t.good;
          whole = subst (λ w. AndThen A B s w t.r t.to) (sym (append_assoc a calls t.more)) (both d t.whole);
          no_want = t.no_want;
        }) w))

-- ---- the doing of a part of a value

same_fault : {E : Type 0} (e f : E) → e ≡ f → failed e ≡ failed f
same_fault e f h = ap (λ x. failed x) h

was_fault : {E : Type 0} (e f : E) → failed e ≡ failed f → e ≡ f
was_fault e f h = cc

module _ {S T E F : Type 0} (get : T → S) (put : T → S → T) (fault : E → F) (memory : E) (memory' : F) (Good : S → Type 0)
    (Good' : T → Type 0) (R : S → List Call → Result ⊤ E → S → Type 0) where
  lifted_onward : ((e : E) → fault e ≡ memory' → e ≡ memory) → (t : T) → ((s : S) → Good s → Good' (put t s))
      → (calls : List Call) → Onward memory Good R (get t) calls → Onward memory' Good' (Lifted get put fault R) t calls
  lifted_onward only t good calls g = by g.r g.to g.good g.whole g.no_want
    where
      by : (r : Result ⊤ E) (to : S) → Good to → R (get t) (calls ++ g.more) r to → r ≢ Err memory
          → Onward memory' Good' (Lifted get put fault R) t calls
      by (Ok tt') to ok d n = record {
        more = g.more;
        faultless = g.faultless;
        r = Ok tt;
        to = put t to;
        good = good to ok;
        whole = goes_well d;
        no_want = λ h. cc;
      }
      by (Err e) to ok d n = record {
        more = g.more;
        faultless = g.faultless;
        r = Err (fault e);
        to = put t to;
        good = good to ok;
        whole = fails d;
        no_want = λ h. n (same_fault e memory (only e (was_fault (fault e) memory' h)));
      }

  pub lifted_total : ((e : E) → fault e ≡ memory' → e ≡ memory) → ((t : T) (s : S) → Good' t → Good s → Good' (put t s))
      → ((t : T) → Good' t → Good (get t)) → Total memory Good R → Total memory' Good' (Lifted get put fault R)
  lifted_total only back out total t ok =
      lifted_onward only t (λ s g. back t s ok g) [] (total (get t) (out t ok))

  pub lifted_resumes : ((e : E) → fault e ≡ memory' → e ≡ memory) → ((t : T) (s : S) → Good' t → Good s → Good' (put t s))
      → ((t : T) → Good' t → Good (get t)) → Resumes memory Good R → Resumes memory' Good' (Lifted get put fault R)
  lifted_resumes only back out resumes t calls t' ok d = by (Err memory') t' refl d
    where
      by : (r : Result ⊤ F) (t' : T) → r ≡ failed memory' → Lifted get put fault R t calls r t'
          → CanNotFail (WouldGoOn memory' Good' (Lifted get put fault R) t calls)
      by r t' h (goes_well k) = absurd cc
      by r t' h (fails {s = s} {e = e} k) =
          let k' : R (get t) calls (failed memory) s = subst (λ x. R (get t) calls (failed x) s) (only e (was_fault (fault e) memory' h)) k in
          λ hold. resumes (get t) calls s (out t ok) k' (λ w. hold (record {
            before = w.before;
            short = w.short;
            onward = lifted_onward only t (λ s g. back t s ok g) w.before w.onward;
          }))

  pub lifted_stays : ((t : T) (s : S) → Good' t → Good s → Good' (put t s)) → ((t : T) → Good' t → Good (get t))
      → Stays Good R → Stays Good' (Lifted get put fault R)
  lifted_stays back out stays t calls r t' ok (goes_well {s = s} k) = back t s ok (stays (get t) calls (Ok tt) s (out t ok) k)
  lifted_stays back out stays t calls r t' ok (fails {s = s} {e = e} k) = back t s ok (stays (get t) calls (Err e) s (out t ok) k)
