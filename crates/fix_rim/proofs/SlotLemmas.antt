-- What the calls of a store do to what its disk tells.
use Rattle.std.proofs.Common.{◌≡◌, ◌⊎◌, inl, inr, ◌↔◌, ℕ, Bool, true, false, List, [], ◌∷◌, Option, Some, None, Ok, Err, refl, sym, ◌∙◌, ap, subst, arith, true≢false}
use Rattle.std.specs.Prelude.{IsSome, IfSome, is_some, nat_eq, ◌||◌, if◌then◌else◌}
use Rattle.std.proofs.lemmas.Bool.{eqb-true, eq-eqb}
use Rattle.fix_base.specs.declared.act.Act.TheVariants as act
use Rattle.fix_base.specs.declared.entry.Record.{Record}
use Rattle.fix_base.specs.declared.entry.Record.TheVariants.{Push, Expect, Many, Withhold, Reset, ResetAsk, Confirm}
use Rattle.fix_base.specs.declared.entry.Stored.{Stored}
use Rattle.fix_base.specs.End.{End, folded}
use Rattle.fix_base.specs.Trace.{Stores, Rises, acts_of, store_failures}
use Rattle.fix_disk.specs.Disk.{DiskSeen, IsLawfulDisk}
use Rattle.fix_journal.proofs.Moments.{started, weaker}
use Rattle.fix_journal.specs.declared.fault.OpenFault.{OpenFault}
use Rattle.fix_journal.specs.declared.fault.OpenFault.TheVariants as open_fault
use Rattle.fix_journal.specs.Opening.{open_failures}
use Rattle.fix_journal.proofs.SoundLemmas.{some_same}
use Rattle.fix_store.specs.declared.fault.StoreFault.{StoreFault}
use Rattle.fix_store.specs.declared.fault.StoreFault.TheVariants as fault
use Rattle.fix_store.specs.Reading.{HasEnd, IsBrokenAt}
use Rattle.fix_store.specs.Store.{StoreSeen, IsTold, IsInRange, TellsEnd, stored_of, withheld_of, HoldsEnd, LastsEnd, IsEitherEnd, HasNoNumber, KeepAnswers, StoreKeeps}
use Rattle.fix_store.specs.Opening.{IsOpened, IsLeftByOpening, HasSameEnd, StoreOpens}
use Rattle.fix_store.proofs.Ends.{one_end, not_broken}
use Rattle.fix_outside.specs.declared.outside.KeepFault.{KeepFault}
use Rattle.fix_outside.specs.declared.outside.LoadFault.{LoadFault}
use Rattle.fix_outside.specs.Outside.{IsStoredOf, HasPlace, loads}
use Rattle.fix_rim.specs.StoreSlot.{HasOne, HoldsOne, LastsOne, BreaksAt, DiskMoves, KeepLeaves, LoadLeaves, IsLoadedFrom, IsNumbered, IsToldHeld, IsHeldAs, load_fault_of}
use Rattle.fix_outside.specs.declared.outside.Kind.{Kind}
use Rattle.fix_outside.specs.declared.outside.Kind.TheVariants as kind
use Rattle.std.specs.FinSet as set
use Rattle.std.specs.List.{list_any}
use Rattle.fix_base.specs.Lists.{Among, here, there}

at_told : (o : Option (List ℕ)) → IsSome o → (file : List ℕ) × (o ≡ Some file)
at_told None some = absurd (true≢false (sym some))
at_told (Some file) some = (file, refl)

-- a disk that holds an end holds no other, and doesn't break
pub one_held : (seen : DiskSeen) (e f : End) → HoldsEnd seen e → HoldsEnd seen f → e ≡ f
one_held seen e f x y = one_end x.0 e f x.2 (subst (λ file. HasEnd file f) (some_same y.0 x.0 (sym y.1 ∙ x.1)) y.2)

pub held_whole : (seen : DiskSeen) (e : End) → HoldsEnd seen e → (place : ℕ) → BreaksAt seen place → ⊥
held_whole seen e x place b = not_broken x.0 e place x.2 (subst (λ file. IsBrokenAt file place) (some_same b.0 x.0 (sym b.1 ∙ x.1)) b.2)

-- two disks that each hold an end where they tell their bytes
both_whole : (old new : DiskSeen) → (IsSome new.bytes ↔ IsSome old.bytes) → (IsSome old.bytes → (e : End) × HoldsEnd old e) → (IsSome new.bytes → (e : End) × HoldsEnd new e) → (place : ℕ) → BreaksAt new place ↔ BreaksAt old place
both_whole old new tells before after place = (
  λ b. (let h = after (ap is_some b.1) in absurd (held_whole new h.0 h.1 place b)),
  λ b. (let h = before (ap is_some b.1) in absurd (held_whole old h.0 h.1 place b)),
)

-- ---- a record that is kept

module _ (old new : DiskSeen) (r : Record) (answer : Option StoreFault) (keeps : StoreKeeps answer r old new) (told : IsSome old.bytes → (e : End) × HoldsEnd old e) where
  -- what is read behind it
  then_held : (e : End) → HoldsEnd old e → (f : End) × HoldsEnd new f × ((f ≡ e) ⊎ (f ≡ folded e r))
  then_held e h =
      let file = at_told new.bytes (keeps.tells_bytes.1 (ap is_some h.1)) in
      elim (subst (λ o. IfSome o (IsEitherEnd e r)) file.1 (keeps.as_read e h)) [
        | inl has ↦ (e, (file.0, file.1, has), inl refl)
        | inr has ↦ (folded e r, (file.0, file.1, has), inr refl)
      ]

  after_held : IsSome new.bytes → (f : End) × HoldsEnd new f
  after_held some = let h = told (keeps.tells_bytes.0 some) in let then_ = then_held h.0 h.1 in (then_.0, then_.1)

  pub kept_moves : answer ≡ None → Rises 0 old.faults new.faults → DiskMoves (act.Kept r ∷ []) 0 old new
  kept_moves none cause = record {
    stored = record {
      kept = λ e h. (folded e r, (keeps.kept none e h).0, (Some (folded e r), refl, refl));
      only = λ f h.
          let before = told (keeps.tells_bytes.0 (ap is_some h.1)) in
          (before.0, before.1, (Some (folded before.0 r), refl, ap Some (one_held new f (folded before.0 r) h (keeps.kept none before.0 before.1).0)));
    };
    tells = keeps.tells_bytes;
    breaks = both_whole old new keeps.tells_bytes told after_held;
    cause = cause;
  }

  lost : (e f : End) → (f ≡ e) ⊎ (f ≡ folded e r) → Stores (act.KeepLost r ∷ []) (Some e) (Some f)
  lost e f (inl same) = (Some e, inl refl, ap Some same)
  lost e f (inr more) = (Some (folded e r), inr refl, ap Some more)

  pub lost_moves : Rises 1 old.faults new.faults → DiskMoves (act.KeepLost r ∷ []) 1 old new
  lost_moves cause = record {
    stored = record {
      kept = λ e h. (let then_ = then_held e h in (then_.0, then_.1, lost e then_.0 then_.2));
      only = λ f h.
          let before = told (keeps.tells_bytes.0 (ap is_some h.1)) in
          let then_ = then_held before.0 before.1 in
          (before.0, before.1, subst (λ z. Stores (act.KeepLost r ∷ []) (Some before.0) (Some z)) (one_held new then_.0 f then_.1 h) (lost before.0 then_.0 then_.2));
    };
    tells = keeps.tells_bytes;
    breaks = both_whole old new keeps.tells_bytes told after_held;
    cause = cause;
  }

  pub kept_leaves : answer ≡ None → KeepLeaves {T = Unit {0}} (Ok tt) r old new
  kept_leaves none = record { any_moment = keeps.any_moment; now = keeps.now; kept = λ e h. (keeps.kept none e h).1 }

  pub lost_leaves : (e : KeepFault) → KeepLeaves {T = Unit {0}} (Err e) r old new
  lost_leaves e = record { any_moment = keeps.any_moment; now = keeps.now; kept = tt }

-- what a store tells is the end of its file
pub told_end : {D : Type 0} (disk : D → DiskSeen) (store : StoreSeen D) → IsTold disk store → store.stopped ≡ false → IsSome (disk store.disk).bytes → (e : End) × HoldsEnd (disk store.disk) e
told_end disk store told still some =
    let file = at_told (disk store.disk).bytes some in
    let got = subst (λ o. IfSome o (λ f. (e : End) × HasEnd f e × TellsEnd store.stored store.withheld e)) file.1 (told still) in
    (got.0, (file.0, file.1, got.1))

-- a store that failed wasn't stopped before, nor was one that had no memory
abbrev pub goes_on : StoreFault → Bool
goes_on fault.Stopped = false
goes_on fault.NumbersSpent = true
goes_on fault.OutOfMemory = true
goes_on fault.DiskFault = true

pub still_then : {D : Type 0} (old new : StoreSeen D) (r : Record) (said is : StoreFault) → said ≡ is → goes_on is ≡ true → KeepAnswers (Some said) r old new → old.stopped ≡ false
still_then old new r fault.Stopped is same going answers = absurd (true≢false (sym going ∙ sym (ap goes_on same)))
still_then old new r fault.NumbersSpent is same going answers = answers.0
still_then old new r fault.OutOfMemory is same going answers = answers.0
still_then old new r fault.DiskFault is same going answers = answers.0

-- ---- a store that is opened

module _ {D : Type 0} (disk : D → DiskSeen) (old : DiskSeen) (store : StoreSeen D) (opened : IsOpened disk old store) (tells : IsSome (disk store.disk).bytes ↔ IsSome old.bytes) where
  found : (file : List ℕ) → old.bytes ≡ Some file → (e : End) × HasEnd file e × TellsEnd store.stored store.withheld e × HoldsEnd (disk store.disk) e × LastsEnd (disk store.disk) e
  found file is = subst (λ o. IfSome o (λ f. (e : End) × HasEnd f e × TellsEnd store.stored store.withheld e × HoldsEnd (disk store.disk) e × LastsEnd (disk store.disk) e)) is opened.end

  before : IsSome old.bytes → (e : End) × HoldsEnd old e
  before some = let file = at_told old.bytes some in let e = found file.0 file.1 in (e.0, (file.0, file.1, e.1))

  after : IsSome (disk store.disk).bytes → (e : End) × HoldsEnd (disk store.disk) e
  after some = let file = at_told old.bytes (tells.0 some) in let e = found file.0 file.1 in (e.0, e.3)

  stays : (e : End) → HoldsEnd old e → HoldsEnd (disk store.disk) e
  stays e h = let f = found h.0 h.1 in subst (HoldsEnd (disk store.disk)) (one_end h.0 f.0 e f.1 h.2) f.3

  pub opened_moves : Rises 0 old.faults (disk store.disk).faults → DiskMoves (act.Stop ∷ []) 0 old (disk store.disk)
  opened_moves cause = record {
    stored = record {
      kept = λ e h. (e, stays e h, (Some e, refl, refl));
      only = λ f h.
          let b = before (tells.0 (ap is_some h.1)) in
          (b.0, b.1, (Some b.0, refl, ap Some (one_held (disk store.disk) f b.0 h (stays b.0 b.1))));
    };
    tells = tells;
    breaks = both_whole old (disk store.disk) tells before after;
    cause = cause;
  }

  pub opened_lasts : (e : End) → HoldsEnd (disk store.disk) e → LastsEnd (disk store.disk) e
  opened_lasts e h =
      let file = at_told old.bytes (tells.0 (ap is_some h.1)) in
      let f = found file.0 file.1 in
      subst (LastsEnd (disk store.disk)) (one_held (disk store.disk) f.0 e f.3 h) f.4

  numbers : (e : End) → HoldsEnd old e → store.stored ≡ stored_of e
  numbers e h = let f = found h.0 h.1 in f.2.stored ∙ ap stored_of (one_end h.0 f.0 e f.1 h.2)

  pub opened_gives : (stored : Stored) → stored ≡ store.stored → IsInRange store.stored → IsLoadedFrom stored old
  opened_gives stored is range = subst (λ s. IsLoadedFrom s old) (sym is) (record {
    last = range.last;
    expected = range.expected.0;
    expected_bound = range.expected.1;
    since = range.since;
    told = λ e h. subst (λ s. IsStoredOf s e) (sym (numbers e h)) (record { last = refl; expected = refl; since = refl; asked = refl });
    one = one_held old;
    unbroken = λ place b. (let h = before (ap is_some b.1) in held_whole old h.0 h.1 place b);
  })

-- ---- a store that isn't opened

module _ (old new : DiskSeen) (failed : OpenFault) (opens : StoreOpens (Some failed) old new) where
  -- the bytes are the same, or both files have one end
  then_file : (file : List ℕ) → old.bytes ≡ Some file → (new.bytes ≡ old.bytes) ⊎ ((e : End) × HoldsEnd old e × HoldsEnd new e)
  then_file file is =
      let now = at_told new.bytes (opens.tells_bytes.1 (ap is_some is)) in
      let read : HasSameEnd file now.0 = subst (λ o. IfSome o (HasSameEnd file)) now.1 (subst (λ o. IfSome o (λ f. IfSome new.bytes (HasSameEnd f))) is opens.as_read) in
      elim read [
        | inl same ↦ inl (now.1 ∙ ap Some same ∙ sym is)
        | inr both ↦ inr (both.0, (file, is, both.1), (now.0, now.1, both.2))
      ]

  then_end : (e : End) → HoldsEnd old e → HoldsEnd new e
  then_end e h = elim (then_file h.0 h.1) [
    | inl same ↦ (h.0, same ∙ h.1, h.2)
    | inr both ↦ subst (HoldsEnd new) (one_held old both.0 e both.1 h) both.2
  ]

  before_end : (e : End) → HoldsEnd new e → HoldsEnd old e
  before_end e h =
      let file = at_told old.bytes (opens.tells_bytes.0 (ap is_some h.1)) in
      elim (then_file file.0 file.1) [
        | inl same ↦ (h.0, sym same ∙ h.1, h.2)
        | inr both ↦ subst (HoldsEnd old) (one_held new both.0 e both.2 h) both.1
      ]

  then_breaks : (place : ℕ) → BreaksAt new place ↔ BreaksAt old place
  then_breaks place = (
    λ b. (
        let file = at_told old.bytes (opens.tells_bytes.0 (ap is_some b.1)) in
        elim (then_file file.0 file.1) [
          | inl same ↦ (b.0, sym same ∙ b.1, b.2)
          | inr both ↦ absurd (held_whole new both.0 both.2 place b)
        ]),
    λ b. elim (then_file b.0 b.1) [
      | inl same ↦ (b.0, same ∙ b.1, b.2)
      | inr both ↦ absurd (held_whole old both.0 both.1 place b)
    ],
  )

  refused_so : DiskMoves [] (open_failures (Some failed)) old new
  refused_so = record {
    stored = record { kept = λ e h. (e, then_end e h, refl); only = λ e h. (e, before_end e h, refl) };
    tells = opens.tells_bytes;
    breaks = then_breaks;
    cause = opens.cause;
  }

no_acts : (T : Type 0) (failed : OpenFault) → acts_of (loads {T = T} (Err (load_fault_of failed))) ≡ []
no_acts T open_fault.DiskFault = refl
no_acts T (open_fault.Damaged place) = refl
no_acts T open_fault.OutOfMemory = refl

its_failures : (T : Type 0) (failed : OpenFault) → store_failures (loads {T = T} (Err (load_fault_of failed))) ≡ open_failures (Some failed)
its_failures T open_fault.DiskFault = refl
its_failures T (open_fault.Damaged place) = refl
its_failures T open_fault.OutOfMemory = refl

pub refused_moves : (T : Type 0) (old new : DiskSeen) (failed : OpenFault) (said : LoadFault) → said ≡ load_fault_of failed → StoreOpens (Some failed) old new → DiskMoves (acts_of (loads {T = T} (Err said))) (store_failures (loads {T = T} (Err said))) old new
refused_moves T old new failed said is opens = subst (λ (f : LoadFault). DiskMoves (acts_of (loads {T = T} (Err f))) (store_failures (loads {T = T} (Err f))) old new) (sym is)
    (subst (λ acts. DiskMoves acts (store_failures (loads {T = T} (Err (load_fault_of failed)))) old new) (sym (no_acts T failed))
    (subst (λ n. DiskMoves [] n old new) (sym (its_failures T failed)) (refused_so old new failed opens)))

-- ---- what a crash leaves of an opening

left_by_opening : (old : DiskSeen) (e : End) → HoldsEnd old e → LastsEnd old e → old.TellsImages → (c : List ℕ) → IsLeftByOpening old c → HasEnd c e
left_by_opening old e h lasts told c (inl left) = lasts told c left
left_by_opening old e h lasts told c (inr other) = subst (HasEnd c) (one_held old other.0 e other.1 h) other.2

one_by_opening : (old : DiskSeen) (e f : End) → HoldsOne old e f → LastsOne old e f → old.TellsImages → (c : List ℕ) → IsLeftByOpening old c → HasOne e f c
one_by_opening old e f h lasts told c (inl left) = lasts told c left
one_by_opening old e f (inl one) lasts told c (inr other) = inl (subst (HasEnd c) (one_held old other.0 e other.1 one) other.2)
one_by_opening old e f (inr one) lasts told c (inr other) = inr (subst (HasEnd c) (one_held old other.0 f other.1 one) other.2)

pub load_leaves : (old new : DiskSeen) (failed : Option OpenFault) → IsLawfulDisk old → StoreOpens failed old new → LoadLeaves old new
load_leaves old new failed laws opens = record {
  any_moment = λ e h lasts. weaker old new (IsLeftByOpening old) (λ c. HasEnd c e) opens.any_moment (λ p c left. left_by_opening old e h lasts (laws.tells_now (opens.any_moment.told p)) c left);
  now = λ e h lasts told c left. left_by_opening old e h lasts (opens.tells_images.0 told) c (opens.now told c left);
  either = λ e f h lasts. weaker old new (IsLeftByOpening old) (HasOne e f) opens.any_moment (λ p c left. one_by_opening old e f h lasts (laws.tells_now (opens.any_moment.told p)) c left);
  either_now = λ e f h lasts told c left. one_by_opening old e f h lasts (opens.tells_images.0 told) c (opens.now told c left);
}

-- of no call at all
pub leaves_same : (seen : DiskSeen) → IsLawfulDisk seen → LoadLeaves seen seen
leaves_same seen laws = record {
  any_moment = λ e h lasts. started seen (λ c. HasEnd c e) laws (λ p c left. lasts (laws.tells_now p) c left);
  now = λ e h lasts. lasts;
  either = λ e f h lasts. started seen (HasOne e f) laws (λ p c left. lasts (laws.tells_now p) c left);
  either_now = λ e f h lasts. lasts;
}

-- ---- what may be kept

-- a record that has a place in a store is numbered in it
pub numbered : (r : Record) (stopped : Bool) (stored : Stored) → HasPlace r (if stopped then None else Some stored.last) → IsNumbered r stored
numbered r true stored place = absurd place
numbered (Push entry) false stored place = tt
numbered (Expect number) false stored place = tt
numbered (Many pushes number) false stored place = tt
numbered (Withhold number) false stored place = place
numbered (Reset time) false stored place = tt
numbered (ResetAsk time) false stored place = tt
numbered Confirm false stored place = tt

-- and has a number for each of its entries
pub not_spent : (r : Record) (stopped : Bool) (stored : Stored) → HasPlace r (if stopped then None else Some stored.last) → HasNoNumber r stored → ⊥
not_spent r true stored place none = absurd place
not_spent (Push entry) false stored place none = omega (arith, place, none)
not_spent (Expect number) false stored place none = none
not_spent (Many pushes number) false stored place none = omega (arith, place, none)
not_spent (Withhold number) false stored place none = none
not_spent (Reset time) false stored place none = none
not_spent (ResetAsk time) false stored place none = none
not_spent Confirm false stored place none = none

-- ---- what is withheld

any_there : (b c : Bool) → c ≡ true → (b || c) ≡ true
any_there true c is = refl
any_there false c is = is

among_any : (n : ℕ) (ks : List ℕ) → Among n ks → list_any (λ y. nat_eq y n) ks ≡ true
among_any n [] x = elim x [ ]
among_any n (k ∷ ks) here = ap (λ b. b || list_any (λ y. nat_eq y n) ks) (eq-eqb n n refl)
among_any n (k ∷ ks) (there more) = any_there (nat_eq k n) (list_any (λ y. nat_eq y n) ks) (among_any n ks more)

by_first : (b c : Bool) (n k : ℕ) (ks : List ℕ) → nat_eq k n ≡ b → (b || c) ≡ true → (c ≡ true → Among n ks) → Among n (k ∷ ks)
by_first true c n k ks same is rest = subst (λ m. Among m (k ∷ ks)) (eqb-true k n same) here
by_first false c n k ks same is rest = there (rest is)

any_among : (n : ℕ) (ks : List ℕ) → list_any (λ y. nat_eq y n) ks ≡ true → Among n ks
any_among n [] is = absurd (true≢false (sym is))
any_among n (k ∷ ks) is = by_first (nat_eq k n) (list_any (λ y. nat_eq y n) ks) n k ks refl is (any_among n ks)

-- what a store tells as withheld is so in the end that its disk tells
pub tells_held : {D : Type 0} (disk : D → DiskSeen) (store : StoreSeen D) → IsTold disk store → store.stopped ≡ false → (n : ℕ) (b : Bool) → b ≡ set.contains store.withheld n → (e : End) → HoldsEnd (disk store.disk) e → b ≡ set.contains (withheld_of e) n
tells_held disk store told still n b is e h =
    let got = subst (λ o. IfSome o (λ f. (x : End) × HasEnd f x × TellsEnd store.stored store.withheld x)) h.1 (told still) in
    is ∙ ap (λ w. set.contains w n) (got.2.withheld ∙ ap withheld_of (one_end h.0 got.0 e got.1 h.2))

-- what the store tells is what the end withholds
pub held_as : (seen : DiskSeen) (n : ℕ) (b : Bool) → ((e : End) → HoldsEnd seen e → b ≡ set.contains (withheld_of e) n) → (k : Kind) → IsToldHeld k b → (e : End) → HoldsEnd seen e → IsHeldAs k n e
held_as seen n b tells (kind.App time) free e h = λ among. true≢false (sym (among_any n e.withheld among) ∙ sym (set.contains-from_list_nat e.withheld n) ∙ sym (tells e h) ∙ free)
held_as seen n b tells kind.Admin free e h = tt
held_as seen n b tells kind.Withheld held e h = any_among n e.withheld (sym (set.contains-from_list_nat e.withheld n) ∙ sym (tells e h) ∙ held)
