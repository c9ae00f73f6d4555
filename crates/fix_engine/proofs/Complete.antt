-- That parts of a run are complete, put together: with no fault and with memory there is always a way on.
use Rattle.std.proofs.Common.{◌≡◌, ◌≢◌, List, [], ◌∷◌, ◌++◌, Result, Ok, Err, true, refl, sym, subst, append_assoc}
use Rattle.std.specs.Prelude.{⊤}
use Rattle.std.specs.List.{AllByRecursion}
use Rattle.fix_base.specs.Trace.{Note, Did, Failed, Asked}
use Rattle.fix_engine.specs.State.{Ending}
use Rattle.fix_engine.specs.declared.state.Ending.TheVariants as ending
use Rattle.fix_engine.specs.Fold.{Each, none, ends, goes, AndThen, first_ends, both}
use Rattle.fix_engine.specs.Faults.{settles_of}
use Rattle.fix_engine.specs.Stated.{IsFaultless, CanNotFail}
use Rattle.fix_engine.proofs.EachFrame.{sure, on_sure, map_sure}

pub faultless-append : (xs ys : List Note) → IsFaultless xs → IsFaultless ys → IsFaultless (xs ++ ys)
faultless-append [] ys h k = k
faultless-append (Did a ∷ xs) ys h k = faultless-append xs ys h k
faultless-append (Failed p ∷ xs) ys h k = absurd h
faultless-append (Asked d ∷ xs) ys h k = faultless-append xs ys h k

-- it goes on to some end, with no further fault and with memory, at which Good holds
pub record Onward {S : Type 0} (Good : S → Type 0) (R : S → List Note → Result ⊤ Ending → S → Type 0) (s : S)
    (notes : List Note) : Type 0 where
  pub more : List Note
  pub faultless : IsFaultless more
  pub r : Result ⊤ Ending
  pub to : S
  pub good : Good to
  pub whole : R s (notes ++ more) r to
  pub no_want : r ≢ Err ending.OutOfMemory

-- From each good state it has some run with no fault and with memory, and where it was out of memory it would have
-- gone on. Where the expected number is stored after its end, the state is good there.
pub record IsComplete {S : Type 0} (Good : S → Type 0) (R : S → List Note → Result ⊤ Ending → S → Type 0) : Type 0 where
  pub total : (s : S) → Good s → CanNotFail (Onward Good R s [])
  pub resumes : (s : S) (notes : List Note) (to : S) → Good s → R s notes (Err ending.OutOfMemory) to →
      CanNotFail (Onward Good R s notes)
  pub stays : (s : S) (notes : List Note) (r : Result ⊤ Ending) (to : S) → settles_of r ≡ true → Good s →
      R s notes r to → Good to

abbrev went : Result ⊤ Ending
went = Ok tt

ok_no_want : went ≢ Err ending.OutOfMemory
ok_no_want h = cc

-- the same in another relation, over what Fine holds of
pub onward_as : {S T : Type 0} (Good : S → Type 0) (Fine : T → Type 0) (R : S → List Note → Result ⊤ Ending → S → Type 0)
    (Q : T → List Note → Result ⊤ Ending → T → Type 0) (s : S) (t : T) (xs ys : List Note) (over : S → T) →
    ((to : S) → Good to → Fine (over to)) →
    ((more : List Note) (r : Result ⊤ Ending) (to : S) → R s (xs ++ more) r to → Q t (ys ++ more) r (over to)) →
    Onward Good R s xs → Onward Fine Q t ys
onward_as Good Fine R Q s t xs ys over fine is g = record {
  more = g.more;
  faultless = g.faultless;
  r = g.r;
  to = over g.to;
  good = fine g.to g.good;
  whole = is g.more g.r g.to g.whole;
  no_want = g.no_want;
}

module _ {S : Type 0} (Good : S → Type 0) where
  -- it ends well, with these notes more
  pub onward_ok : (R : S → List Note → Result ⊤ Ending → S → Type 0) (s : S) (notes more : List Note) (to : S) →
      IsFaultless more → Good to → R s (notes ++ more) (Ok tt) to → Onward Good R s notes
  onward_ok R s notes more to calm good whole =
      record { more = more; faultless = calm; r = Ok tt; to = to; good = good; whole = whole; no_want = ok_no_want }

  -- a first part as far as it is known, and then another
  pub onward_then : (A B C : S → List Note → Result ⊤ Ending → S → Type 0) (s : S) (notes : List Note) →
      ((more : List Note) (e : Ending) (to : S) → A s more (Err e) to → C s more (Err e) to) →
      ((first more : List Note) (r : Result ⊤ Ending) (mid to : S) → A s first (Ok tt) mid → B mid more r to →
      C s (first ++ more) r to) → ((mid : S) → Good mid → CanNotFail (Onward Good B mid [])) → Onward Good A s notes →
      CanNotFail (Onward Good C s notes)
  onward_then A B C s notes ends_so goes_so total g = by-answer g.r g.to g.good g.whole g.no_want
    where
      by-answer : (r : Result ⊤ Ending) (to : S) → Good to → A s (notes ++ g.more) r to → r ≢ Err ending.OutOfMemory →
          CanNotFail (Onward Good C s notes)
      by-answer (Err e) to ok d n = sure
          (record {
            more = g.more;
            faultless = g.faultless;
            r = Err e;
            to = to;
            good = ok;
            whole = ends_so (notes ++ g.more) e to d;
            no_want = n;
          })
      by-answer (Ok x) to ok d n = map_sure (λ t. record {
        more = g.more ++ t.more;
        faultless = faultless-append g.more t.more g.faultless t.faultless;
        r = t.r;
        to = t.to;
        good = t.good;
        whole = subst (λ w. C s w t.r t.to) (append_assoc notes g.more t.more)
            (goes_so (notes ++ g.more) t.more t.r to t.to d t.whole);
        no_want = t.no_want;
      }) (total to ok)

  -- a first part that is done, and then another as far as it is known
  pub onward_after : (B C : S → List Note → Result ⊤ Ending → S → Type 0) (s mid : S) (first notes : List Note) →
      ((more : List Note) (r : Result ⊤ Ending) (to : S) → B mid more r to → C s (first ++ more) r to) →
      Onward Good B mid notes → Onward Good C s (first ++ notes)
  onward_after B C s mid first notes goes_so t = record {
    more = t.more;
    faultless = t.faultless;
    r = t.r;
    to = t.to;
    good = t.good;
    whole = subst (λ w. C s w t.r t.to) (sym (append_assoc first notes t.more)) (goes_so (notes ++ t.more) t.r t.to t.whole);
    no_want = t.no_want;
  }

-- ---- one and then another

module _ {S : Type 0} (Good : S → Type 0) (A B : S → List Note → Result ⊤ Ending → S → Type 0) where
  then_resumes : IsComplete Good A → IsComplete Good B → (s : S) (notes : List Note) (to : S) → Good s →
      AndThen A B s notes (Err ending.OutOfMemory) to → CanNotFail (Onward Good (AndThen A B) s notes)
  then_resumes a b s notes to ok (first_ends d) =
      on_sure (a.resumes s notes to ok d) (onward_then Good A B (AndThen A B) s notes (λ more e end k. first_ends k)
      (λ first more r mid end k l. both k l) b.total)
  then_resumes a b s notes to ok (both {mid = mid} {first = first} {more = more} d k) =
      map_sure (onward_after Good B (AndThen A B) s mid first more (λ rest r end l. both d l))
      (b.resumes mid more to (a.stays s first (Ok tt) mid refl ok d) k)

  then_stays : IsComplete Good A → IsComplete Good B → (s : S) (notes : List Note) (r : Result ⊤ Ending) (to : S) →
      settles_of r ≡ true → Good s → AndThen A B s notes r to → Good to
  then_stays a b s notes r to h ok (first_ends {e = e} d) = a.stays s notes (Err e) to h ok d
  then_stays a b s notes r to h ok (both {mid = mid} {first = first} {more = more} d k) =
      b.stays mid more r to h (a.stays s first (Ok tt) mid refl ok d) k

  pub then_complete : IsComplete Good A → IsComplete Good B → IsComplete Good (AndThen A B)
  then_complete a b = record {
    total = λ s ok. on_sure (a.total s ok) (onward_then Good A B (AndThen A B) s [] (λ more e end k. first_ends k)
        (λ first more r mid end k l. both k l) b.total);
    resumes = then_resumes a b;
    stays = then_stays a b;
  }

-- ---- each of a list

module _ {S X : Type 0} (Good : S → Type 0) (R : S → X → List Note → Result ⊤ Ending → S → Type 0) where
  none_stays : (s : S) (notes : List Note) (r : Result ⊤ Ending) (to : S) → settles_of r ≡ true → Good s →
      Each R s [] notes r to → Good to
  none_stays s notes r to h ok none = ok

  none_resumes : (s : S) (notes : List Note) (to : S) → Good s → Each R s [] notes (Err ending.OutOfMemory) to →
      CanNotFail (Onward Good (λ s. Each R s []) s notes)
  none_resumes s notes to ok d = elim d [ ]

  more_resumes : (x : X) (xs : List X) → IsComplete Good (λ s. R s x) → IsComplete Good (λ s. Each R s xs) → (s : S)
      (notes : List Note) (to : S) → Good s → Each R s (x ∷ xs) notes (Err ending.OutOfMemory) to →
      CanNotFail (Onward Good (λ s. Each R s (x ∷ xs)) s notes)
  more_resumes x xs one others s notes to ok (ends d) =
      on_sure (one.resumes s notes to ok d) (onward_then Good (λ s. R s x) (λ s. Each R s xs) (λ s. Each R s (x ∷ xs)) s
      notes (λ more e end k. ends k) (λ first more r mid end k l. goes k l) others.total)
  more_resumes x xs one others s notes to ok (goes {mid = mid} {first = first} {more = more} d k) =
      map_sure (onward_after Good (λ s. Each R s xs) (λ s. Each R s (x ∷ xs)) s mid first more (λ rest r end l. goes d l))
      (others.resumes mid more to (one.stays s first (Ok tt) mid refl ok d) k)

  more_stays : (x : X) (xs : List X) → IsComplete Good (λ s. R s x) → IsComplete Good (λ s. Each R s xs) → (s : S)
      (notes : List Note) (r : Result ⊤ Ending) (to : S) → settles_of r ≡ true → Good s →
      Each R s (x ∷ xs) notes r to → Good to
  more_stays x xs one others s notes r to h ok (ends {e = e} d) = one.stays s notes (Err e) to h ok d
  more_stays x xs one others s notes r to h ok (goes {mid = mid} {first = first} {more = more} d k) =
      others.stays mid more r to h (one.stays s first (Ok tt) mid refl ok d) k

  pub each_complete : (Fit : X → Type 0) → ((x : X) → Fit x → IsComplete Good (λ s. R s x)) → (xs : List X) →
      AllByRecursion Fit xs → IsComplete Good (λ s. Each R s xs)
  each_complete Fit one [] fit = record {
    total = λ s ok. sure (onward_ok Good (λ s. Each R s []) s [] [] s tt ok none);
    resumes = none_resumes;
    stays = none_stays;
  }
  each_complete Fit one (x ∷ xs) fit =
      let first = one x fit.0 in
      let others = each_complete Fit one xs fit.1 in
      record {
        total = λ s ok. on_sure (first.total s ok) (onward_then Good (λ s. R s x) (λ s. Each R s xs)
            (λ s. Each R s (x ∷ xs)) s [] (λ more e end k. ends k) (λ a more r mid end k l. goes k l) others.total);
        resumes = more_resumes x xs first others;
        stays = more_stays x xs first others;
      }
