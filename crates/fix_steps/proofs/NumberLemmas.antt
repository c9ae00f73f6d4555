-- An answer leaves the numbers that its steps say, and the reading as it was.
use Rattle.std.proofs.Common.{◌≡◌, ℕ, ◌+◌, ◌≤◌, Bool, true, false, if◌then◌else◌, List, [], ◌∷◌, length, length-append}
use Rattle.std.proofs.Common.{Option, Result, Ok, Err, refl, sym, ap, ◌∙◌, arith}
use Rattle.std.specs.Prelude.{⊤, ◌||◌, not}
use Rattle.std.specs.List.{list_any, list_all}
use Rattle.std.proofs.lemmas.Bool.{lt-ltb}
use Rattle.fix_base.specs.declared.identity.Identity.{Identity}
use Rattle.fix_outside.specs.Calls.{Call}
use Rattle.fix_machine.specs.declared.event.Why.{Why}
use Rattle.fix_machine.specs.Event as event
use Rattle.fix_machine.specs.Event.{StepSeen}
use Rattle.fix_machine.specs.Numbers.{expected_by, last_by, expected_after, last_after, begins_with_a_flush}
use Rattle.fix_machine.specs.State.{number_after}
use Rattle.fix_stage.specs.Combine as combine
use Rattle.fix_stage.specs.Combine.{goes_well, fails}
use Rattle.fix_stage.specs.Stage.{Staged, no_stage}
use Rattle.fix_stage.specs.declared.sender.Sender.{Sender}
use Rattle.fix_stage.specs.declared.fault.StageFault.{StageFault}
use Rattle.fix_stage.specs.declared.fault.StageFault.TheVariants as fault
use Rattle.fix_stage.specs.Flush.{Flushed}
use Rattle.fix_stage.specs.Outgoing.{Outgoing}
use Rattle.fix_stage.specs.Serving as serving
use Rattle.fix_stage.specs.Serving.{Served}
use Rattle.fix_stage.specs.Staging as staging
use Rattle.fix_stage.specs.Staging.{Numbered, Roomy, MakesAndStages}
use Rattle.fix_stage.proofs.SendingLemmas.{Flushed-empty, Flushed-reading, Flushed-expected, Flushed-number}
use Rattle.fix_steps.specs.declared.ending.Ending.{Ending}
use Rattle.fix_steps.specs.declared.ending.Ending.TheVariants as ending
use Rattle.fix_steps.specs.Ending.{ending_of}
use Rattle.fix_steps.specs.Resetting as resetting
use Rattle.fix_steps.specs.Resetting.{Resetting, Confirming}
use Rattle.fix_steps.specs.Steps as steps
use Rattle.fix_steps.specs.Steps.{InAnswer, Handing, Performed, Begins, Done, Carried}
use Rattle.fix_steps.specs.Leaves.{last_taken, HasNumbers, is_reset, is_nothing, resets_first, closes_last, IsInOrder}

-- ---- the reading stays

-- however it ends, the reading is as it was
abbrev Keeps : {E : Type 0} → (Sender → List Call → Result ⊤ E → Sender → Type 0) → Type 0
Keeps {E} R = (b : Sender) (calls : List Call) (r : Result ⊤ E) (to : Sender) → R b calls r to → to.numbers.reading ≡ b.numbers.reading

numbered_reading : Keeps Numbered
numbered_reading b calls r to (staging.has_number h) = refl
numbered_reading b calls r to (staging.spent h d) = Flushed-reading 0 b calls (Ok tt) to d
numbered_reading b calls r to (staging.spent_fault {e = e} h d) = Flushed-reading 0 b calls (Err e) to d

roomy_reading : (size : ℕ) → Keeps (Roomy size)
roomy_reading size b calls r to (staging.fits h) = refl
roomy_reading size b calls r to (staging.full h d) = Flushed-reading 0 b calls r to d

put_reading : (id : Identity) (m : Outgoing) → Keeps (staging.Put id m)
put_reading id m b calls r to (staging.put frame h is) = refl
put_reading id m b calls r to staging.put_memory = refl

then_reading : {E : Type 0} (A B : Sender → List Call → Result ⊤ E → Sender → Type 0) → Keeps A → Keeps B → Keeps (combine.AndThen A B)
then_reading A B one other b calls r to (combine.first_ends {e = e} d) = one b calls (Err e) to d
then_reading A B one other b calls r to (combine.both {mid = mid} {first = first} {more = more} d k) = other mid more r to k ∙ one b first (Ok tt) mid d

makes_reading : (id : Identity) (m : Outgoing) → Keeps (MakesAndStages id m)
makes_reading id m b calls r to (staging.made d) =
    then_reading Numbered _ numbered_reading (then_reading (Roomy _) (staging.Put id m) (roomy_reading _) (put_reading id m)) b calls r to d
makes_reading id m b calls r to staging.not_made = refl

served_reading : (id : Identity) (from until : ℕ) → Keeps (Served id from until)
served_reading id from until b calls r to (serving.serve_ends d) = refl
served_reading id from until b calls r to (serving.serves d w) = refl

in_answer_reading : (R : Sender → List Call → Result ⊤ StageFault → Sender → Type 0) → Keeps R → Keeps (InAnswer R)
in_answer_reading R one b calls r to (goes_well {s = s} d) = one b calls (Ok tt) s d
in_answer_reading R one b calls r to (fails {s = s} {e = e} d) = one b calls (Err e) s d

handing_reading : (frame : Option (List ℕ)) → Keeps (Handing frame)
handing_reading frame b calls r to (steps.taken text fields is has) = refl
handing_reading frame b calls r to (steps.hand_lost text fields is has) = refl
handing_reading frame b calls r to (steps.hand_memory text fields is has) = refl
handing_reading frame b calls r to steps.body_memory = refl

resetting_reading : Keeps Resetting
resetting_reading b calls r to resetting.reset_kept = refl
resetting_reading b calls r to resetting.reset_lost = refl
resetting_reading b calls r to resetting.reset_memory = refl

confirming_reading : Keeps Confirming
confirming_reading b calls r to resetting.confirm_kept = refl
confirming_reading b calls r to resetting.confirm_lost = refl
confirming_reading b calls r to resetting.confirm_memory = refl

module _ (id : Identity) (frame : Option (List ℕ)) where
  step_reading : (x : StepSeen) → Keeps (λ b. Performed id frame b x)
  step_reading x b calls r to (steps.says say d) = in_answer_reading (MakesAndStages id _) (makes_reading id _) b calls r to d
  step_reading x b calls r to (steps.serves from until d) = in_answer_reading (Served id from until) (served_reading id from until) b calls r to d
  step_reading x b calls r to (steps.hands d) = handing_reading frame b calls r to d
  step_reading x b calls r to steps.waits = refl
  step_reading x b calls r to (steps.expects number) = refl
  step_reading x b calls r to (steps.resets d) = resetting_reading b calls r to d
  step_reading x b calls r to (steps.confirms d) = confirming_reading b calls r to d
  step_reading x b calls r to (steps.closes why) = refl
  step_reading x b calls r to steps.nothing = refl

  done_reading : (xs : List StepSeen) → Keeps (Done id frame xs)
  done_reading [] b calls r to combine.none = refl
  done_reading (x ∷ xs) b calls r to (combine.ends {e = e} d) = step_reading x b calls (Err e) to d
  done_reading (x ∷ xs) b calls r to (combine.goes {mid = mid} {first = first} {more = more} d k) = done_reading xs mid more r to k ∙ step_reading x b first (Ok tt) mid d

begins_reading : (xs : List StepSeen) → Keeps (Begins xs)
begins_reading xs b calls r to (steps.flushes h d) = in_answer_reading (Flushed 0) (Flushed-reading 0) b calls r to d
begins_reading xs b calls r to (steps.at_once h) = refl

pub carried_reading : (id : Identity) (frame : Option (List ℕ)) (xs : List StepSeen) (b : Sender) (calls : List Call) (r : Result ⊤ Ending) (to : Sender) → Carried id frame xs b calls r to → to.numbers.reading ≡ b.numbers.reading
carried_reading id frame xs b calls r to d = then_reading (Begins xs) (Done id frame xs) (begins_reading xs) (done_reading id frame xs) b calls r to d

-- ---- one step that goes well

-- the same numbers as these
record Same (b to : Sender) : Type 0 where
  expected : to.numbers.expected ≡ b.numbers.expected
  last : last_taken to ≡ last_taken b

flush_same : (b : Sender) (calls : List Call) (to : Sender) → Flushed 0 b calls (Ok tt) to → Same b to
flush_same b calls to d = record { expected = Flushed-expected 0 b calls (Ok tt) to d; last = (let same = Flushed-number 0 b calls to d in omega (arith, same)) }

roomy_same : (size : ℕ) (b : Sender) (calls : List Call) (to : Sender) → Roomy size b calls (Ok tt) to → Same b to
roomy_same size b calls to (staging.fits h) = record { expected = refl; last = refl }
roomy_same size b calls to (staging.full h d) = flush_same b calls to d

-- the number after the last, where one is left
one_after : (n : ℕ) → n + 1 ≤ 999999999 → number_after n ≡ n + 1
one_after n h = ap (λ (t : Bool). if t then n + 1 else n) (lt-ltb n 999999999 (omega (arith, h)))

-- the numbers after this step
record Steps (x : StepSeen) (b to : Sender) : Type 0 where
  expected : to.numbers.expected ≡ expected_by x b.numbers.expected
  last : last_taken to ≡ last_by x (last_taken b)

made_steps : (id : Identity) (m : Outgoing) (say : _) (b : Sender) (calls : List Call) (to : Sender) → MakesAndStages id m b calls (Ok tt) to → Steps (event.Send say) b to
made_steps id m say b calls to (staging.made (combine.both (staging.has_number h) (combine.both {mid = mid} {first = first} k (staging.put frame is f)))) =
    let same = roomy_same _ b first mid k in
    record {
      expected = same.expected;
      last = (let one = one_after (last_taken b) h in omega (arith, one, same.last, length-append mid.stage.entries (m.entry ∷ [])));
    }

module _ (id : Identity) (frame : Option (List ℕ)) where
  step_steps : (x : StepSeen) → is_reset x ≡ false → (b : Sender) (calls : List Call) (to : Sender) → Performed id frame b x calls (Ok tt) to → Steps x b to
  step_steps x plain b calls to (steps.says say (goes_well {s = s} d)) = made_steps id _ say b calls s d
  step_steps x plain b calls to (steps.serves from until (goes_well (serving.serves d w))) = record { expected = refl; last = refl }
  step_steps x plain b calls to (steps.hands (steps.taken text fields is has)) = record { expected = refl; last = refl }
  step_steps x plain b calls to steps.waits = record { expected = refl; last = refl }
  step_steps x plain b calls to (steps.expects number) = record { expected = refl; last = refl }
  step_steps x plain b calls to (steps.resets d) = cc
  step_steps x plain b calls to (steps.confirms resetting.confirm_kept) = record { expected = refl; last = refl }
  step_steps x plain b calls to steps.nothing = record { expected = refl; last = refl }

  -- a reset, with nothing staged
  reset_steps : (b : Sender) (calls : List Call) (to : Sender) → b.stage ≡ no_stage → Performed id frame b event.Reset calls (Ok tt) to → Steps event.Reset b to
  reset_steps b calls to empty (steps.resets resetting.reset_kept) = record { expected = refl; last = none empty }
    where
      none : b.stage ≡ no_stage → 0 + length b.stage.entries ≡ 0
      none e = let few : length b.stage.entries ≡ 0 = ap (λ (s : Staged). length s.entries) e in omega (arith, few)

  -- ---- all of them

  chained : (x : StepSeen) (xs : List StepSeen) (b mid to : Sender) → Steps x b mid → HasNumbers xs mid to → HasNumbers (x ∷ xs) b to
  chained x xs b mid to one more = record {
    expected = more.expected ∙ ap (expected_after xs) one.expected;
    last = more.last ∙ ap (last_after xs) one.last;
  }

  either_false : (a b : Bool) → (a || b) ≡ false → (a ≡ false) × (b ≡ false)
  either_false true b h = cc
  either_false false b h = (refl, h)

  done_numbers : (xs : List StepSeen) → list_any is_reset xs ≡ false → (b : Sender) (calls : List Call) (to : Sender) → Done id frame xs b calls (Ok tt) to → HasNumbers xs b to
  done_numbers [] plain b calls to combine.none = record { expected = refl; last = refl }
  done_numbers (x ∷ xs) plain b calls to (combine.goes {mid = mid} {first = first} {more = more} d k) =
      let both = either_false (is_reset x) (list_any is_reset xs) plain in
      chained x xs b mid to (step_steps x both.0 b first mid d) (done_numbers xs both.1 mid more to k)

  -- ---- a close

  -- no fault of sending is one
  no_close : (e : StageFault) (why : Why) → ending_of e ≡ ending.Closed why → ⊥
  no_close fault.NumbersSpent why h = cc
  no_close fault.OutOfMemory why h = cc
  no_close fault.StoreFault why h = cc
  no_close fault.LinkFault why h = cc

  abbrev ended : Ending → Result ⊤ Ending
  ended e = Err e

  same_end : (e f : Ending) → ended e ≡ ended f → e ≡ f
  same_end e f h = cc

  answer_goes_on : (R : Sender → List Call → Result ⊤ StageFault → Sender → Type 0) (why : Why) (b : Sender) (calls : List Call) (r : Result ⊤ Ending) (to : Sender) → r ≡ ended (ending.Closed why) → InAnswer R b calls r to → ⊥
  answer_goes_on R why b calls r to h (goes_well d) = cc
  answer_goes_on R why b calls r to h (fails {e = e} d) = no_close e why (same_end (ending_of e) (ending.Closed why) h)

  idle : (xs : List StepSeen) → list_all is_nothing xs ≡ true → (b : Sender) → HasNumbers xs b b
  idle [] h b = record { expected = refl; last = refl }
  idle (event.Nothing ∷ xs) h b = let rest = idle xs h b in record { expected = rest.expected; last = rest.last }
  idle (event.Send say ∷ xs) h b = cc
  idle (event.Serve from to ∷ xs) h b = cc
  idle (event.Hand ∷ xs) h b = cc
  idle (event.Stash ∷ xs) h b = cc
  idle (event.Expect n ∷ xs) h b = cc
  idle (event.Reset ∷ xs) h b = cc
  idle (event.Confirm ∷ xs) h b = cc
  idle (event.Close why ∷ xs) h b = cc

  -- the step that closes, and those after it
  step_closes : (x : StepSeen) (xs : List StepSeen) → closes_last (x ∷ xs) ≡ true → (why : Why) (b : Sender) (calls : List Call) (r : Result ⊤ Ending) (to : Sender) → r ≡ ended (ending.Closed why) → Performed id frame b x calls r to → HasNumbers (x ∷ xs) b to
  step_closes x xs last why b calls r to h (steps.says say d) = absurd (answer_goes_on _ why b calls r to h d)
  step_closes x xs last why b calls r to h (steps.serves from until d) = absurd (answer_goes_on _ why b calls r to h d)
  step_closes x xs last why b calls r to h (steps.hands (steps.taken text fields is has)) = cc
  step_closes x xs last why b calls r to h (steps.hands (steps.hand_lost text fields is has)) = cc
  step_closes x xs last why b calls r to h (steps.hands (steps.hand_memory text fields is has)) = cc
  step_closes x xs last why b calls r to h (steps.hands steps.body_memory) = cc
  step_closes x xs last why b calls r to h steps.waits = cc
  step_closes x xs last why b calls r to h (steps.expects number) = cc
  step_closes x xs last why b calls r to h (steps.resets resetting.reset_kept) = cc
  step_closes x xs last why b calls r to h (steps.resets resetting.reset_lost) = cc
  step_closes x xs last why b calls r to h (steps.resets resetting.reset_memory) = cc
  step_closes x xs last why b calls r to h (steps.confirms resetting.confirm_kept) = cc
  step_closes x xs last why b calls r to h (steps.confirms resetting.confirm_lost) = cc
  step_closes x xs last why b calls r to h (steps.confirms resetting.confirm_memory) = cc
  step_closes x xs last why b calls r to h (steps.closes w) = let rest = idle xs last b in record { expected = rest.expected; last = rest.last }
  step_closes x xs last why b calls r to h steps.nothing = cc

  -- what goes well closes nothing, so the steps after it close last too
  later_closes : (x : StepSeen) (xs : List StepSeen) (b : Sender) (calls : List Call) (to : Sender) → Performed id frame b x calls (Ok tt) to → closes_last (x ∷ xs) ≡ true → closes_last xs ≡ true
  later_closes x xs b calls to (steps.says say d) h = h
  later_closes x xs b calls to (steps.serves from until d) h = h
  later_closes x xs b calls to (steps.hands d) h = h
  later_closes x xs b calls to steps.waits h = h
  later_closes x xs b calls to (steps.expects number) h = h
  later_closes x xs b calls to (steps.resets d) h = h
  later_closes x xs b calls to (steps.confirms d) h = h
  later_closes x xs b calls to steps.nothing h = h

  done_closes : (xs : List StepSeen) → closes_last xs ≡ true → list_any is_reset xs ≡ false → (why : Why) (b : Sender) (calls : List Call) (to : Sender) → Done id frame xs b calls (Err (ending.Closed why)) to → HasNumbers xs b to
  done_closes [] last plain why b calls to d = elim d [ ]
  done_closes (x ∷ xs) last plain why b calls to (combine.ends d) = step_closes x xs last why b calls (ended (ending.Closed why)) to refl d
  done_closes (x ∷ xs) last plain why b calls to (combine.goes {mid = mid} {first = first} {more = more} d k) =
      let both = either_false (is_reset x) (list_any is_reset xs) plain in
      chained x xs b mid to (step_steps x both.0 b first mid d) (done_closes xs (later_closes x xs b first mid d last) both.1 why mid more to k)

  -- ---- the answer

  -- the first step, which may be a reset: nothing is staged before that
  first_steps : (x : StepSeen) (t : Bool) → is_reset x ≡ t → (b : Sender) (calls : List Call) (to : Sender) → (is_reset x ≡ true → b.stage ≡ no_stage) → Performed id frame b x calls (Ok tt) to → Steps x b to
  first_steps x false plain b calls to empty d = step_steps x plain b calls to d
  first_steps (event.Reset) true is b calls to empty d = reset_steps b calls to (empty refl) d
  first_steps (event.Send say) true is b calls to empty d = cc
  first_steps (event.Serve from until) true is b calls to empty d = cc
  first_steps event.Hand true is b calls to empty d = cc
  first_steps event.Stash true is b calls to empty d = cc
  first_steps (event.Expect n) true is b calls to empty d = cc
  first_steps event.Confirm true is b calls to empty d = cc
  first_steps (event.Close why) true is b calls to empty d = cc
  first_steps event.Nothing true is b calls to empty d = cc

  no_later : (xs : List StepSeen) → not (list_any is_reset xs) ≡ true → list_any is_reset xs ≡ false
  no_later xs h = by (list_any is_reset xs) h
    where
      by : (t : Bool) → not t ≡ true → t ≡ false
      by true h = cc
      by false h = refl

  well : (xs : List StepSeen) → resets_first xs ≡ true → (b : Sender) (calls : List Call) (to : Sender) → ((x : StepSeen) (rest : List StepSeen) → xs ≡ x ∷ rest → is_reset x ≡ true → b.stage ≡ no_stage) → Done id frame xs b calls (Ok tt) to → HasNumbers xs b to
  well [] first b calls to empty combine.none = record { expected = refl; last = refl }
  well (x ∷ xs) first b calls to empty (combine.goes {mid = mid} {first = a} {more = more} d k) =
      chained x xs b mid to (first_steps x (is_reset x) refl b a mid (empty x xs refl) d) (done_numbers xs (no_later xs first) mid more to k)

  closed : (xs : List StepSeen) → resets_first xs ≡ true → closes_last xs ≡ true → (why : Why) (b : Sender) (calls : List Call) (to : Sender) → ((x : StepSeen) (rest : List StepSeen) → xs ≡ x ∷ rest → is_reset x ≡ true → b.stage ≡ no_stage) → Done id frame xs b calls (Err (ending.Closed why)) to → HasNumbers xs b to
  closed [] first last why b calls to empty d = elim d [ ]
  closed (x ∷ xs) first last why b calls to empty (combine.ends d) = step_closes x xs last why b calls (ended (ending.Closed why)) to refl d
  closed (x ∷ xs) first last why b calls to empty (combine.goes {mid = mid} {first = a} {more = more} d k) =
      chained x xs b mid to (first_steps x (is_reset x) refl b a mid (empty x xs refl) d) (done_closes xs (later_closes x xs b a mid d last) (no_later xs first) why mid more to k)

  -- what an answer begins with leaves the numbers, and nothing staged before a reset
  begins_same : (xs : List StepSeen) (b : Sender) (calls : List Call) (to : Sender) → Begins xs b calls (Ok tt) to → Same b to
  begins_same xs b calls to (steps.flushes h (goes_well {s = s} d)) = flush_same b calls s d
  begins_same xs b calls to (steps.at_once h) = record { expected = refl; last = refl }

  flush_due : (x : StepSeen) (xs : List StepSeen) → is_reset x ≡ true → begins_with_a_flush (x ∷ xs) ≡ true
  flush_due event.Reset xs h = refl
  flush_due (event.Send say) xs h = cc
  flush_due (event.Serve from until) xs h = cc
  flush_due event.Hand xs h = cc
  flush_due event.Stash xs h = cc
  flush_due (event.Expect n) xs h = cc
  flush_due event.Confirm xs h = cc
  flush_due (event.Close why) xs h = cc
  flush_due event.Nothing xs h = cc

  begins_empty : (xs : List StepSeen) (b : Sender) (calls : List Call) (to : Sender) → Begins xs b calls (Ok tt) to → (x : StepSeen) (rest : List StepSeen) → xs ≡ x ∷ rest → is_reset x ≡ true → to.stage ≡ no_stage
  begins_empty xs b calls to (steps.flushes h (goes_well {s = s} d)) x rest same is = Flushed-empty 0 b calls (Ok tt) s d
  begins_empty xs b calls to (steps.at_once h) x rest same is = absurd (never (sym h ∙ ap begins_with_a_flush same ∙ flush_due x rest is))
    where
      never : false ≡ true → ⊥
      never e = cc

  after_same : (xs : List StepSeen) (b mid to : Sender) → Same b mid → HasNumbers xs mid to → HasNumbers xs b to
  after_same xs b mid to same h = record {
    expected = h.expected ∙ ap (expected_after xs) same.expected;
    last = h.last ∙ ap (last_after xs) same.last;
  }

  begins_on : (xs : List StepSeen) (why : Why) (b : Sender) (calls : List Call) (r : Result ⊤ Ending) (to : Sender) → r ≡ ended (ending.Closed why) → Begins xs b calls r to → ⊥
  begins_on xs why b calls r to h (steps.flushes due d) = answer_goes_on (Flushed 0) why b calls r to h d
  begins_on xs why b calls r to h (steps.at_once due) = cc

  pub carried_numbers : (xs : List StepSeen) → IsInOrder xs → (b : Sender) (calls : List Call) (to : Sender) → Carried id frame xs b calls (Ok tt) to → HasNumbers xs b to
  carried_numbers xs order b calls to (combine.both {mid = mid} {first = first} {more = more} d k) =
      after_same xs b mid to (begins_same xs b first mid d) (well xs order.resets mid more to (begins_empty xs b first mid d) k)

  pub carried_closes : (xs : List StepSeen) → IsInOrder xs → (why : Why) (b : Sender) (calls : List Call) (to : Sender) → Carried id frame xs b calls (Err (ending.Closed why)) to → HasNumbers xs b to
  carried_closes xs order why b calls to (combine.first_ends d) = absurd (begins_on xs why b calls (ended (ending.Closed why)) to refl d)
  carried_closes xs order why b calls to (combine.both {mid = mid} {first = first} {more = more} d k) =
      after_same xs b mid to (begins_same xs b first mid d) (closed xs order.resets order.closes why mid more to (begins_empty xs b first mid d) k)
