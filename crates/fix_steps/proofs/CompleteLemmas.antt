-- Each answer has an end, and goes on where it was out of memory.
use Rattle.std.proofs.Common.{◌≡◌, List, [], ◌∷◌, Option, Some, None, Result, Ok, Err, refl, ℕ, Bool, true, false, arith}
use Rattle.std.specs.Prelude.{⊤}
use Rattle.std.specs.List.{AllByRecursion}
use Rattle.fix_base.specs.declared.identity.Identity.{Identity}
use Rattle.fix_base.specs.Session.{IsValidIdentity}
use Rattle.fix_base.specs.declared.entry.Record.TheVariants.{Reset, Confirm}
use Rattle.fix_outside.specs.declared.handing.Said.TheVariants as said
use Rattle.fix_outside.specs.declared.outside.KeepFault.TheVariants as keep
use Rattle.fix_outside.specs.Calls.{Call, Keep}
use Rattle.fix_admin.specs.Say.{SaySeen}
use Rattle.fix_machine.specs.Event.{StepSeen}
use Rattle.fix_machine.specs.Event as event
use Rattle.fix_machine.specs.Numbers.{begins_with_a_flush}
use Rattle.fix_stage.specs.declared.sender.Sender.{Sender}
use Rattle.fix_stage.specs.declared.fault.StageFault.{StageFault}
use Rattle.fix_stage.specs.declared.fault.StageFault.TheVariants as fault
use Rattle.fix_stage.specs.Flush.{Flushed}
use Rattle.fix_stage.specs.Outgoing.{Outgoing}
use Rattle.fix_stage.specs.Staging.{MakesAndStages}
use Rattle.fix_stage.specs.Serving as serving
use Rattle.fix_stage.specs.Serving.{Served}
use Rattle.fix_stage.specs.Combine.{goes_well, fails}
use Rattle.fix_stage.proofs.ServingLemmas.{served_total, served_resumes}
use Rattle.fix_stage.specs.Stated.{Onward, handing, keeping, Total, Resumes, Stays, IsTimely}
use Rattle.fix_stage.proofs.CombineLemmas.{went_well, onward_as, short_alone, short_at, would_as, each_total, each_resumes, then_total, then_resumes, lifted_total, lifted_resumes, lifted_stays}
use Rattle.fix_stage.proofs.SendingLemmas.{flushed_total, flushed_resumes, Flushed-stays, makes_total, makes_resumes, MakesAndStages-stays}
use Rattle.fix_steps.specs.Said.{said_outgoing, IsSayable}
use Rattle.fix_steps.specs.declared.ending.Ending.{Ending}
use Rattle.fix_steps.specs.Ending.{ending_of}
use Rattle.fix_steps.specs.declared.ending.Ending.TheVariants as ending
use Rattle.fix_steps.specs.Resetting as resetting
use Rattle.fix_steps.specs.Resetting.{Resetting, Confirming}
use Rattle.fix_steps.specs.Steps as steps
use Rattle.fix_steps.specs.Steps.{itself, instead, IsCarried, InAnswer, Saying, Handing, Performed, Begins, Done, Carried}
use Rattle.fix_steps.specs.Stated.{IsRead, IsSound}
use Rattle.fix_steps.proofs.SoundLemmas.{step_ranges, begins_ranges, makes_sound_total, makes_sound_resumes, flushed_sound_total, flushed_sound_resumes, served_sound_total, served_sound_resumes}
use Rattle.fix_steps.proofs.FrameLemmas.{fields_in, frame_has}
use Rattle.fix_steps.proofs.SaidLemmas.{said_is_outgoing}

abbrev OM : Ending
OM = ending.OutOfMemory

only_memory : (e : StageFault) → ending_of e ≡ OM → e ≡ fault.OutOfMemory
only_memory fault.NumbersSpent h = cc
only_memory fault.OutOfMemory h = refl
only_memory fault.StoreFault h = cc
only_memory fault.LinkFault h = cc

-- ---- something of sending

module _ (R : Sender → List Call → Result ⊤ StageFault → Sender → Type 0) where
  answer_total : Total fault.OutOfMemory IsSound R → Total OM IsSound (InAnswer R)
  answer_total h = lifted_total itself instead ending_of fault.OutOfMemory OM IsSound IsSound R only_memory (λ t s ok g. g) (λ t ok. ok) h

  answer_resumes : Resumes fault.OutOfMemory IsSound R → Resumes OM IsSound (InAnswer R)
  answer_resumes h = lifted_resumes itself instead ending_of fault.OutOfMemory OM IsSound IsSound R only_memory (λ t s ok g. g) (λ t ok. ok) h

  answer_stays : Stays IsTimely R → Stays IsTimely (InAnswer R)
  answer_stays h = lifted_stays itself instead ending_of fault.OutOfMemory OM IsTimely IsTimely R (λ t s ok g. g) (λ t ok. ok) h

module _ (id : Identity) (say : SaySeen) where
  abbrev said_at : Sender → Outgoing
  said_at b = said_outgoing id.begin b.numbers.reading say

  saying_total : IsSayable say → Total OM IsSound (Saying id say)
  saying_total fit b ok =
      onward_as OM IsSound (InAnswer (MakesAndStages id (said_at b))) (Saying id say) b b [] (λ more r to d. d)
      (answer_total (MakesAndStages id (said_at b)) (makes_sound_total id (said_at b) (makes_total id (said_at b) (said_is_outgoing id.begin b.numbers.reading say ok.timely.reading fit))) b ok)

  saying_resumes : IsSayable say → Resumes OM IsSound (Saying id say)
  saying_resumes fit b calls to ok d =
      λ hold. answer_resumes (MakesAndStages id (said_at b)) (makes_sound_resumes id (said_at b) (makes_resumes id (said_at b) (said_is_outgoing id.begin b.numbers.reading say ok.timely.reading fit))) b calls to ok d
      (λ w. hold (would_as OM IsSound (InAnswer (MakesAndStages id (said_at b))) (Saying id say) b b calls (λ calls g. onward_as OM IsSound (InAnswer (MakesAndStages id (said_at b))) (Saying id say) b b calls (λ more r to d. d) g) w))

  saying_stays : Stays IsTimely (Saying id say)
  saying_stays b calls r to ok d = answer_stays (MakesAndStages id (said_at b)) (MakesAndStages-stays id (said_at b)) b calls r to ok d

-- ---- a hand-over

handing_total : (frame : Option (List ℕ)) → IsRead frame → steps.IsThere frame → Total OM IsSound (Handing frame)
handing_total None read there b ok = absurd there
handing_total (Some text) read there b ok = record {
  more = steps.hand_call (fields_in read) said.Taken ∷ [];
  faultless = tt;
  r = Ok tt;
  to = b;
  good = ok;
  whole = steps.taken text (fields_in read) refl (frame_has read);
  no_want = λ h. cc;
}

handing_resumes : (frame : Option (List ℕ)) → IsRead frame → steps.IsThere frame → Resumes OM IsSound (Handing frame)
handing_resumes frame read there b calls to ok (steps.hand_memory text fields is has) =
    λ hold. hold (short_at OM IsSound (Handing frame) b (steps.hand_call fields said.OutOfMemory) (handing _ _ _) (handing_total frame read there b ok))
handing_resumes frame read there b calls to ok steps.body_memory =
    λ hold. hold (short_alone OM IsSound (Handing frame) b [] (handing_total frame read there b ok))

handing_stays : (frame : Option (List ℕ)) → Stays IsTimely (Handing frame)
handing_stays frame b calls r to ok (steps.taken text fields is has) = ok
handing_stays frame b calls r to ok (steps.hand_lost text fields is has) = ok
handing_stays frame b calls r to ok (steps.hand_memory text fields is has) = ok
handing_stays frame b calls r to ok steps.body_memory = ok

-- ---- serving

module _ (id : Identity) (valid : IsValidIdentity id) (from until : ℕ) where
  serving_total : Total OM IsSound (InAnswer (Served id from until))
  serving_total = answer_total (Served id from until) (served_sound_total id from until (served_total id valid from until))

  serving_resumes : Resumes OM IsSound (InAnswer (Served id from until))
  serving_resumes = answer_resumes (Served id from until) (served_sound_resumes id from until (served_resumes id valid from until))

serving_stays : (id : Identity) (from until : ℕ) → Stays IsTimely (InAnswer (Served id from until))
serving_stays id from until b calls r to ok (goes_well (serving.serves d w)) = ok
serving_stays id from until b calls r to ok (fails (serving.serve_ends d)) = ok
serving_stays id from until b calls r to ok (fails (serving.serves d w)) = ok

-- ---- what is kept of resets

resetting_total : Total OM IsSound Resetting
resetting_total b ok = record {
  more = Keep (Reset b.numbers.reading) (Ok tt) ∷ [];
  faultless = tt;
  r = Ok tt;
  to = _;
  good = record { timely = record { reading = ok.timely.reading; draft = ok.timely.draft }; last = (let few = ok.last in omega (arith, few)) };
  whole = resetting.reset_kept;
  no_want = λ h. cc;
}

resetting_resumes : Resumes OM IsSound Resetting
resetting_resumes b calls to ok resetting.reset_memory =
    λ hold. hold (short_at OM IsSound Resetting b (Keep (Reset b.numbers.reading) (Err keep.OutOfMemory)) (keeping _) (resetting_total b ok))

resetting_stays : Stays IsTimely Resetting
resetting_stays b calls r to ok resetting.reset_kept = record { reading = ok.reading; draft = ok.draft }
resetting_stays b calls r to ok resetting.reset_lost = ok
resetting_stays b calls r to ok resetting.reset_memory = ok

confirming_total : Total OM IsSound Confirming
confirming_total b ok = record {
  more = Keep Confirm (Ok tt) ∷ [];
  faultless = tt;
  r = Ok tt;
  to = b;
  good = ok;
  whole = resetting.confirm_kept;
  no_want = λ h. cc;
}

confirming_resumes : Resumes OM IsSound Confirming
confirming_resumes b calls to ok resetting.confirm_memory =
    λ hold. hold (short_at OM IsSound Confirming b (Keep Confirm (Err keep.OutOfMemory)) (keeping _) (confirming_total b ok))

confirming_stays : Stays IsTimely Confirming
confirming_stays b calls r to ok resetting.confirm_kept = ok
confirming_stays b calls r to ok resetting.confirm_lost = ok
confirming_stays b calls r to ok resetting.confirm_memory = ok

-- ---- a step

pub step_stays : (id : Identity) (frame : Option (List ℕ)) (x : StepSeen) → Stays IsTimely (λ b. Performed id frame b x)
step_stays id frame x b calls r to ok (steps.says say d) = saying_stays id say b calls r to ok d
step_stays id frame x b calls r to ok (steps.serves from until d) = serving_stays id from until b calls r to ok d
step_stays id frame x b calls r to ok (steps.hands d) = handing_stays frame b calls r to ok d
step_stays id frame x b calls r to ok steps.waits = ok
step_stays id frame x b calls r to ok (steps.expects number) = record { reading = ok.reading; draft = ok.draft }
step_stays id frame x b calls r to ok (steps.resets d) = resetting_stays b calls r to ok d
step_stays id frame x b calls r to ok (steps.confirms d) = confirming_stays b calls r to ok d
step_stays id frame x b calls r to ok (steps.closes why) = ok
step_stays id frame x b calls r to ok steps.nothing = ok

step_sound : (id : Identity) (frame : Option (List ℕ)) (x : StepSeen) → Stays IsSound (λ b. Performed id frame b x)
step_sound id frame x b calls r to ok d = record { timely = step_stays id frame x b calls r to ok.timely d; last = step_ranges id frame x b calls r to ok.last d }

module _ (id : Identity) (valid : IsValidIdentity id) (frame : Option (List ℕ)) (read : IsRead frame) where
  abbrev One : StepSeen → Sender → List Call → Result ⊤ Ending → Sender → Type 0
  One x b = Performed id frame b x

  abbrev Serving : ℕ → ℕ → Sender → List Call → Result ⊤ Ending → Sender → Type 0
  Serving from until = InAnswer (Served id from until)

  step_total : (x : StepSeen) → IsCarried frame x → Total OM IsSound (One x)
  step_total (event.Send say) fit b ok = onward_as OM IsSound (Saying id say) (One (event.Send say)) b b [] (λ more r to d. steps.says say d) (saying_total id say fit b ok)
  step_total (event.Serve from until) fit b ok = onward_as OM IsSound (Serving from until) (One (event.Serve from until)) b b [] (λ more r to d. steps.serves from until d) (serving_total id valid from until b ok)
  step_total event.Hand fit b ok = onward_as OM IsSound (Handing frame) (One event.Hand) b b [] (λ more r to d. steps.hands d) (handing_total frame read fit b ok)
  step_total event.Stash fit b ok = went_well OM IsSound (One event.Stash) b b ok steps.waits
  step_total (event.Expect number) fit b ok = record {
    more = [];
    faultless = tt;
    r = Ok tt;
    to = _;
    good = record { timely = record { reading = ok.timely.reading; draft = ok.timely.draft }; last = ok.last };
    whole = steps.expects number;
    no_want = λ h. cc;
  }
  step_total event.Reset fit b ok = onward_as OM IsSound Resetting (One event.Reset) b b [] (λ more r to d. steps.resets d) (resetting_total b ok)
  step_total event.Confirm fit b ok = onward_as OM IsSound Confirming (One event.Confirm) b b [] (λ more r to d. steps.confirms d) (confirming_total b ok)
  step_total (event.Close why) fit b ok = record {
    more = [];
    faultless = tt;
    r = Err (ending.Closed why);
    to = b;
    good = ok;
    whole = steps.closes why;
    no_want = λ h. cc;
  }
  step_total event.Nothing fit b ok = went_well OM IsSound (One event.Nothing) b b ok steps.nothing

  step_resumes : (x : StepSeen) → IsCarried frame x → Resumes OM IsSound (One x)
  step_resumes x fit b calls to ok (steps.says say d) =
      λ hold. saying_resumes id say fit b calls to ok d (λ w. hold (would_as OM IsSound (Saying id say) (One (event.Send say)) b b calls (λ calls g. onward_as OM IsSound (Saying id say) (One (event.Send say)) b b calls (λ more r to d. steps.says say d) g) w))
  step_resumes x fit b calls to ok (steps.serves from until d) =
      λ hold. serving_resumes id valid from until b calls to ok d (λ w. hold (would_as OM IsSound (Serving from until) (One (event.Serve from until)) b b calls (λ calls g. onward_as OM IsSound (Serving from until) (One (event.Serve from until)) b b calls (λ more r to d. steps.serves from until d) g) w))
  step_resumes x fit b calls to ok (steps.hands d) =
      λ hold. handing_resumes frame read fit b calls to ok d (λ w. hold (would_as OM IsSound (Handing frame) (One event.Hand) b b calls (λ calls g. onward_as OM IsSound (Handing frame) (One event.Hand) b b calls (λ more r to d. steps.hands d) g) w))
  step_resumes x fit b calls to ok (steps.resets d) =
      λ hold. resetting_resumes b calls to ok d (λ w. hold (would_as OM IsSound Resetting (One event.Reset) b b calls (λ calls g. onward_as OM IsSound Resetting (One event.Reset) b b calls (λ more r to d. steps.resets d) g) w))
  step_resumes x fit b calls to ok (steps.confirms d) =
      λ hold. confirming_resumes b calls to ok d (λ w. hold (would_as OM IsSound Confirming (One event.Confirm) b b calls (λ calls g. onward_as OM IsSound Confirming (One event.Confirm) b b calls (λ more r to d. steps.confirms d) g) w))

-- ---- what an answer begins with

begins_total : (xs : List StepSeen) → Total OM IsSound (Begins xs)
begins_total xs b ok = by (begins_with_a_flush xs) refl
  where
    by : (t : Bool) → begins_with_a_flush xs ≡ t → Onward OM IsSound (Begins xs) b []
    by true h = onward_as OM IsSound (InAnswer (Flushed 0)) (Begins xs) b b [] (λ more r to d. steps.flushes h d) (answer_total (Flushed 0) (flushed_sound_total (flushed_total 0)) b ok)
    by false h = went_well OM IsSound (Begins xs) b b ok (steps.at_once h)

begins_resumes : (xs : List StepSeen) → Resumes OM IsSound (Begins xs)
begins_resumes xs b calls to ok (steps.flushes h d) =
    λ hold. answer_resumes (Flushed 0) (flushed_sound_resumes (flushed_resumes 0)) b calls to ok d (λ w. hold (would_as OM IsSound (InAnswer (Flushed 0)) (Begins xs) b b calls (λ calls g. onward_as OM IsSound (InAnswer (Flushed 0)) (Begins xs) b b calls (λ more r to d. steps.flushes h d) g) w))

pub begins_stays : (xs : List StepSeen) → Stays IsTimely (Begins xs)
begins_stays xs b calls r to ok (steps.flushes h d) = answer_stays (Flushed 0) (Flushed-stays 0) b calls r to ok d
begins_stays xs b calls r to ok (steps.at_once h) = ok

begins_sound : (xs : List StepSeen) → Stays IsSound (Begins xs)
begins_sound xs b calls r to ok d = record { timely = begins_stays xs b calls r to ok.timely d; last = begins_ranges xs b calls r to ok.last d }

-- ---- the answer

module _ (id : Identity) (valid : IsValidIdentity id) (frame : Option (List ℕ)) (read : IsRead frame) where
  done_total : (xs : List StepSeen) → AllByRecursion (IsCarried frame) xs → Total OM IsSound (Done id frame xs)
  done_total xs fit = each_total OM IsSound (Performed id frame) (IsCarried frame) (step_total id valid frame read) xs fit

  done_resumes : (xs : List StepSeen) → AllByRecursion (IsCarried frame) xs → Resumes OM IsSound (Done id frame xs)
  done_resumes xs fit = each_resumes OM IsSound (Performed id frame) (IsCarried frame) (step_total id valid frame read) (step_resumes id valid frame read) (step_sound id frame) xs fit

  pub carried_total : (xs : List StepSeen) → AllByRecursion (IsCarried frame) xs → Total OM IsSound (Carried id frame xs)
  carried_total xs fit = then_total OM IsSound (Begins xs) (Done id frame xs) (begins_total xs) (done_total xs fit)

  pub carried_resumes : (xs : List StepSeen) → AllByRecursion (IsCarried frame) xs → Resumes OM IsSound (Carried id frame xs)
  carried_resumes xs fit = then_resumes OM IsSound (Begins xs) (Done id frame xs) (done_total xs fit) (begins_resumes xs) (done_resumes xs fit) (begins_sound xs)
