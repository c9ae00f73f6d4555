-- What goes on stays sound: each number that a message took is a MsgSeqNum.
use Rattle.std.proofs.Common.{◌≡◌, ℕ, ◌≤◌, List, [], ◌∷◌, ◌++◌, length-append, Option, Result, Ok, Err, refl, arith}
use Rattle.std.specs.Prelude.{⊤}
use Rattle.fix_base.specs.declared.identity.Identity.{Identity}
use Rattle.fix_outside.specs.Calls.{Call}
use Rattle.fix_machine.specs.Event.{StepSeen}
use Rattle.fix_stage.specs.Combine as combine
use Rattle.fix_stage.specs.Combine.{goes_well, fails}
use Rattle.fix_stage.specs.declared.sender.Sender.{Sender}
use Rattle.fix_stage.specs.Sender.{next_number}
use Rattle.fix_stage.specs.declared.fault.StageFault.{StageFault}
use Rattle.fix_stage.specs.declared.fault.StageFault.TheVariants as fault
use Rattle.fix_stage.specs.Flush as flush
use Rattle.fix_stage.specs.Flush.{Flushed}
use Rattle.fix_stage.specs.Outgoing.{Outgoing}
use Rattle.fix_stage.specs.Staging as staging
use Rattle.fix_stage.specs.Staging.{Numbered, Roomy, MakesAndStages}
use Rattle.fix_stage.specs.Serving as serving
use Rattle.fix_stage.specs.Serving.{Served}
use Rattle.fix_stage.specs.Stated.{Onward, Total, Resumes, IsTimely, MayServe}
use Rattle.fix_stage.proofs.SendingLemmas.{Flushed-number}
use Rattle.fix_steps.specs.Resetting as resetting
use Rattle.fix_steps.specs.Steps as steps
use Rattle.fix_steps.specs.Steps.{InAnswer, Handing, Performed, Begins}
use Rattle.fix_steps.specs.Leaves.{last_taken}
use Rattle.fix_steps.specs.Stated.{IsSound}

-- ---- the numbers that are taken stay MsgSeqNums

abbrev MOST : ℕ
MOST = 999999999

abbrev Ranges : {E : Type 0} → (Sender → List Call → Result ⊤ E → Sender → Type 0) → Type 0
Ranges {E} R = (b : Sender) (calls : List Call) (r : Result ⊤ E) (to : Sender) → last_taken b ≤ MOST → R b calls r to → last_taken to ≤ MOST

flushed_ranges : (k : ℕ) → Ranges (Flushed k)
flushed_ranges k b calls r to few (flush.nothing_due h) = omega (arith, few)
flushed_ranges k b calls r to few (flush.not_kept h flush.keep_lost) = omega (arith, few)
flushed_ranges k b calls r to few (flush.not_kept h flush.keep_memory) = omega (arith, few)
flushed_ranges k b calls r to few (flush.kept_and_written h flush.kept w) = omega (arith, few)

numbered_ranges : Ranges Numbered
numbered_ranges b calls r to few (staging.has_number h) = few
numbered_ranges b calls r to few (staging.spent h d) = flushed_ranges 0 b calls (Ok tt) to few d
numbered_ranges b calls r to few (staging.spent_fault {e = e} h d) = flushed_ranges 0 b calls (Err e) to few d

roomy_ranges : (size : ℕ) → Ranges (Roomy size)
roomy_ranges size b calls r to few (staging.fits h) = few
roomy_ranges size b calls r to few (staging.full h d) = flushed_ranges 0 b calls r to few d

-- room for it leaves the number that it takes
roomy_number : (size : ℕ) (b : Sender) (calls : List Call) (to : Sender) → Roomy size b calls (Ok tt) to → next_number to ≡ next_number b
roomy_number size b calls to (staging.fits h) = refl
roomy_number size b calls to (staging.full h d) = Flushed-number 0 b calls to d

put_ranges : (id : Identity) (m : Outgoing) (b : Sender) (calls : List Call) (r : Result ⊤ StageFault) (to : Sender) → next_number b ≤ MOST → staging.Put id m b calls r to → last_taken to ≤ MOST
put_ranges id m b calls r to few (staging.put frame is f) = omega (arith, few, length-append b.stage.entries (m.entry ∷ []))
put_ranges id m b calls r to few staging.put_memory = omega (arith, few)

makes_ranges : (id : Identity) (m : Outgoing) → Ranges (MakesAndStages id m)
makes_ranges id m b calls r to few (staging.made (combine.first_ends {e = e} d)) = numbered_ranges b calls (Err e) to few d
makes_ranges id m b calls r to few (staging.made (combine.both {mid = mid} {first = first} d (combine.first_ends {calls = more} {e = e} k))) =
    roomy_ranges _ mid more (Err e) to (numbered_ranges b first (Ok tt) mid few d) k
makes_ranges id m b calls r to few (staging.made (combine.both {first = first} (staging.has_number h) (combine.both {mid = mid} {first = a} {more = more} k p))) =
    put_ranges id m mid more r to (let same = roomy_number _ b a mid k in omega (arith, same, h)) p
makes_ranges id m b calls r to few staging.not_made = few

pub served_same : (id : Identity) (from until : ℕ) (b : Sender) (calls : List Call) (r : Result ⊤ StageFault) (to : Sender) → Served id from until b calls r to → to ≡ b
served_same id from until b calls r to (serving.serve_ends d) = refl
served_same id from until b calls r to (serving.serves d w) = refl

served_ranges : (id : Identity) (from until : ℕ) → Ranges (Served id from until)
served_ranges id from until b calls r to few (serving.serve_ends d) = few
served_ranges id from until b calls r to few (serving.serves d w) = few

in_answer_ranges : (R : Sender → List Call → Result ⊤ StageFault → Sender → Type 0) → Ranges R → Ranges (InAnswer R)
in_answer_ranges R one b calls r to few (goes_well {s = s} d) = one b calls (Ok tt) s few d
in_answer_ranges R one b calls r to few (fails {s = s} {e = e} d) = one b calls (Err e) s few d

handing_ranges : (frame : Option (List ℕ)) → Ranges (Handing frame)
handing_ranges frame b calls r to few (steps.taken text fields is has) = few
handing_ranges frame b calls r to few (steps.hand_lost text fields is has) = few
handing_ranges frame b calls r to few (steps.hand_memory text fields is has) = few
handing_ranges frame b calls r to few steps.body_memory = few

pub step_ranges : (id : Identity) (frame : Option (List ℕ)) (x : StepSeen) → Ranges (λ b. Performed id frame b x)
step_ranges id frame x b calls r to few (steps.says say d) = in_answer_ranges (MakesAndStages id _) (makes_ranges id _) b calls r to few d
step_ranges id frame x b calls r to few (steps.serves from until d) = in_answer_ranges (Served id from until) (served_ranges id from until) b calls r to few d
step_ranges id frame x b calls r to few (steps.hands d) = handing_ranges frame b calls r to few d
step_ranges id frame x b calls r to few steps.waits = few
step_ranges id frame x b calls r to few (steps.expects number) = few
step_ranges id frame x b calls r to few (steps.resets resetting.reset_kept) = omega (arith, few)
step_ranges id frame x b calls r to few (steps.resets resetting.reset_lost) = few
step_ranges id frame x b calls r to few (steps.resets resetting.reset_memory) = few
step_ranges id frame x b calls r to few (steps.confirms resetting.confirm_kept) = few
step_ranges id frame x b calls r to few (steps.confirms resetting.confirm_lost) = few
step_ranges id frame x b calls r to few (steps.confirms resetting.confirm_memory) = few
step_ranges id frame x b calls r to few (steps.closes why) = few
step_ranges id frame x b calls r to few steps.nothing = few

pub begins_ranges : (xs : List StepSeen) → Ranges (Begins xs)
begins_ranges xs b calls r to few (steps.flushes h d) = in_answer_ranges (Flushed 0) (flushed_ranges 0) b calls r to few d
begins_ranges xs b calls r to few (steps.at_once h) = few

-- ---- what goes on from a good state to one goes on from a sound one to one

abbrev SM : StageFault
SM = fault.OutOfMemory

module _ (G : Sender → Type 0) (R : Sender → List Call → Result ⊤ StageFault → Sender → Type 0) (out : (b : Sender) → IsSound b → G b) (back : (b : Sender) (calls : List Call) (r : Result ⊤ StageFault) (to : Sender) → IsSound b → R b calls r to → G to → IsSound to) where
  sound_onward : (b : Sender) (calls : List Call) → IsSound b → Onward SM G R b calls → Onward SM IsSound R b calls
  sound_onward b calls ok g = record {
    more = g.more;
    faultless = g.faultless;
    r = g.r;
    to = g.to;
    good = back b (calls ++ g.more) g.r g.to ok g.whole g.good;
    whole = g.whole;
    no_want = g.no_want;
  }

  pub sound_total : Total SM G R → Total SM IsSound R
  sound_total total b ok = sound_onward b [] ok (total b (out b ok))

  pub sound_resumes : Resumes SM G R → Resumes SM IsSound R
  sound_resumes resumes b calls to ok d =
      λ hold. resumes b calls to (out b ok) d (λ w. hold (record { before = w.before; short = w.short; onward = sound_onward b w.before ok w.onward }))

timely_of : (b : Sender) → IsSound b → IsTimely b
timely_of b ok = ok.timely

timely_back : (R : Sender → List Call → Result ⊤ StageFault → Sender → Type 0) → Ranges R → (b : Sender) (calls : List Call) (r : Result ⊤ StageFault) (to : Sender) → IsSound b → R b calls r to → IsTimely to → IsSound to
timely_back R ranges b calls r to ok d timely = record { timely = timely; last = ranges b calls r to ok.last d }

-- a message that is made and staged, and a flush
pub makes_sound_total : (id : Identity) (m : Outgoing) → Total SM IsTimely (MakesAndStages id m) → Total SM IsSound (MakesAndStages id m)
makes_sound_total id m total = sound_total IsTimely (MakesAndStages id m) timely_of (timely_back (MakesAndStages id m) (makes_ranges id m)) total

pub makes_sound_resumes : (id : Identity) (m : Outgoing) → Resumes SM IsTimely (MakesAndStages id m) → Resumes SM IsSound (MakesAndStages id m)
makes_sound_resumes id m resumes = sound_resumes IsTimely (MakesAndStages id m) timely_of (timely_back (MakesAndStages id m) (makes_ranges id m)) resumes

pub flushed_sound_total : Total SM IsTimely (Flushed 0) → Total SM IsSound (Flushed 0)
flushed_sound_total total = sound_total IsTimely (Flushed 0) timely_of (timely_back (Flushed 0) (flushed_ranges 0)) total

pub flushed_sound_resumes : Resumes SM IsTimely (Flushed 0) → Resumes SM IsSound (Flushed 0)
flushed_sound_resumes resumes = sound_resumes IsTimely (Flushed 0) timely_of (timely_back (Flushed 0) (flushed_ranges 0)) resumes

-- a range that is served
module _ (id : Identity) (from until : ℕ) where
  serves_out : (b : Sender) → IsSound b → MayServe b
  serves_out b ok = record { timely = ok.timely; last = (let few = ok.last in omega (arith, few)) }

  serves_back : (b : Sender) (calls : List Call) (r : Result ⊤ StageFault) (to : Sender) → IsSound b → Served id from until b calls r to → MayServe to → IsSound to
  serves_back b calls r to ok (serving.serve_ends d) good = ok
  serves_back b calls r to ok (serving.serves d w) good = ok

  pub served_sound_total : Total SM MayServe (Served id from until) → Total SM IsSound (Served id from until)
  served_sound_total total = sound_total MayServe (Served id from until) serves_out serves_back total

  pub served_sound_resumes : Resumes SM MayServe (Served id from until) → Resumes SM IsSound (Served id from until)
  served_sound_resumes resumes = sound_resumes MayServe (Served id from until) serves_out serves_back resumes
