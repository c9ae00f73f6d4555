-- What holds of flushes and stagings: nothing is staged after a flush, a fault has its cause, each has an end, and goes
-- on where it was out of memory.
use Rattle.std.proofs.Common.{◌≡◌, ◌≢◌, ◌⊎◌, inl, inr, ℕ, ◌<◌, ◌≤◌, ◌==◌, ◌&&◌, not, if◌then◌else◌, List, [], ◌∷◌, ◌++◌}
use Rattle.std.proofs.Common.{length, Bool, true, false, Option, Some, None, Result, Ok, Err, refl, sym, ap, subst, arith}
use Rattle.std.specs.Prelude.{⊤, IfSome}
use Rattle.std.specs.List.{AllByRecursion}
use Rattle.std.proofs.lemmas.Bool.{cases_lt, eqb-true, ne_eqb, and_parts, not-false}
use Rattle.fix_base.specs.declared.identity.Identity.{Identity}
use Rattle.fix_base.specs.declared.entry.Entry.{Entry}
use Rattle.fix_base.specs.declared.entry.Record.{Record}
use Rattle.fix_base.specs.Says.{fields_text}
use Rattle.fix_base.specs.Sealed.{sealed}
use Rattle.fix_base.specs.Trace.{OutsideSeen}
use Rattle.fix_outside.specs.declared.connection.WriteTurn.TheVariants as write
use Rattle.fix_outside.specs.Calls.{Call, Keep, Write, HasCalls}
use Rattle.fix_base.specs.Wrote.{time_of_entry}
use Rattle.fix_fields.specs.Drafted.{DraftText, IsDraft}
use Rattle.fix_frame.specs.Sealable.{message_text}
use Rattle.fix_stage.specs.Combine.{Each, AndThen}
use Rattle.fix_stage.specs.Stage.{no_stage, has_room, size_in_stage}
use Rattle.fix_stage.specs.Sender.{Numbers, Sender, PendingDraft, StageFault, next_number, emptied, due_number, kept_draft, no_draft, staged_draft, with_pending}
use Rattle.fix_stage.specs.declared.fault.StageFault.TheVariants as fault
use Rattle.fix_stage.specs.Flush as flush
use Rattle.fix_stage.specs.Flush.{record_of, is_due, Keeping, WroteOne, Flushed, Settled, IsSettled, sender_kept}
use Rattle.fix_stage.specs.Outgoing as outgoings
use Rattle.fix_stage.specs.Outgoing.{header_fields, Outgoing, draft_outgoing, IsOutgoing, IsFrameOf, IsStagedFrame}
use Rattle.fix_stage.specs.Staging as staging
use Rattle.fix_stage.specs.Staging.{Numbered, Roomy, Put, Staging, with_staged, MakesAndStages, StagesPending}
use Rattle.fix_stage.specs.Causes.{Blaming, HasCause, blame_of}
use Rattle.fix_stage.specs.Stated.{Onward, writing, keeping, IsShortAfter, Total, Resumes, Stays, IsTimely}
use Rattle.fix_stage.proofs.CombineLemmas.{Each-blames, Then-blames, Blames-after, has_risen, went_well, onward_as}
use Rattle.fix_stage.proofs.CombineLemmas.{short_after, short_alone, short_at, would_as}
use Rattle.fix_outside.specs.declared.outside.KeepFault.TheVariants as keep
use Rattle.fix_stage.proofs.CombineLemmas.{each_total, each_resumes, then_total, then_stays, then_resumes}
use Rattle.fix_stage.proofs.EachTime.{each_time}
use Rattle.fix_stage.proofs.OutgoingLemmas.{draft_is_outgoing, payload_time}

-- ---- what a flush leaves

pub Flushed-empty : (k : ℕ) (b : Sender) (calls : List Call) (r : Result ⊤ StageFault) (to : Sender)
    → Flushed k b calls r to → to.stage ≡ no_stage
Flushed-empty k b calls r to (flush.nothing_due h) = refl
Flushed-empty k b calls r to (flush.not_kept h flush.keep_lost) = refl
Flushed-empty k b calls r to (flush.not_kept h flush.keep_memory) = refl
Flushed-empty k b calls r to (flush.kept_and_written h flush.kept w) = refl

-- the same value, but for what a flush changes
pub Flushed-reading : (k : ℕ) (b : Sender) (calls : List Call) (r : Result ⊤ StageFault) (to : Sender)
    → Flushed k b calls r to → to.numbers.reading ≡ b.numbers.reading
Flushed-reading k b calls r to (flush.nothing_due h) = refl
Flushed-reading k b calls r to (flush.not_kept h flush.keep_lost) = refl
Flushed-reading k b calls r to (flush.not_kept h flush.keep_memory) = refl
Flushed-reading k b calls r to (flush.kept_and_written h flush.kept w) = refl

pub Flushed-expected : (k : ℕ) (b : Sender) (calls : List Call) (r : Result ⊤ StageFault) (to : Sender)
    → Flushed k b calls r to → to.numbers.expected ≡ b.numbers.expected
Flushed-expected k b calls r to (flush.nothing_due h) = refl
Flushed-expected k b calls r to (flush.not_kept h flush.keep_lost) = refl
Flushed-expected k b calls r to (flush.not_kept h flush.keep_memory) = refl
Flushed-expected k b calls r to (flush.kept_and_written h flush.kept w) = refl

-- nothing is staged where nothing is due
pub nothing_staged : (es : List Entry) (k : ℕ) → not (length es == 0 && k == 0) ≡ false → es ≡ []
nothing_staged [] k h = refl
nothing_staged (x ∷ es) k h =
    let some : (length (x ∷ es) == 0) ≡ false = ne_eqb (length (x ∷ es)) 0 (λ z. omega arith) in
    let g : not (false && (k == 0)) ≡ false = subst (λ t. not (t && (k == 0)) ≡ false) some h in
    cc

-- a flush that goes well leaves the next number as it was
pub Flushed-number : (k : ℕ) (b : Sender) (calls : List Call) (to : Sender) → Flushed k b calls (Ok tt) to
    → next_number to ≡ next_number b
Flushed-number k b calls to (flush.nothing_due h) =
    let few = ap length (nothing_staged b.stage.entries k h) in omega (arith, few)
Flushed-number k b calls to (flush.kept_and_written h flush.kept w) = omega arith

-- ---- causes

Keeping-blames : (es : List Entry) (k : ℕ) → Blaming blame_of (Keeping es k)
Keeping-blames es k b calls r to flush.kept = tt
Keeping-blames es k b calls r to flush.keep_lost = omega arith
Keeping-blames es k b calls r to flush.keep_memory = tt

pub WroteOne-blames : (frame : Option (List ℕ)) → Blaming blame_of (λ u. WroteOne u frame)
WroteOne-blames frame u calls r to flush.no_frame = tt
WroteOne-blames frame u calls r to (flush.wrote text) = tt
WroteOne-blames frame u calls r to (flush.write_lost text sent) = omega arith
WroteOne-blames frame u calls r to (flush.write_memory text) = tt

pub Flushed-blames : (k : ℕ) → Blaming blame_of (Flushed k)
Flushed-blames k b calls r to (flush.nothing_due h) = tt
Flushed-blames k b calls r to (flush.not_kept {e = e} h d) = Keeping-blames _ k _ calls (Err e) to d
Flushed-blames k b calls r to (flush.kept_and_written {first = first} {more = more} h d w) =
    Blames-after blame_of r first more (Each-blames blame_of WroteOne WroteOne-blames b.stage.frames tt more r tt w)

pub Settled-blames : Blaming blame_of Settled
Settled-blames b calls r to d = Flushed-blames (due_number b.numbers) b calls r to d

Numbered-blames : Blaming blame_of Numbered
Numbered-blames b calls r to (staging.has_number h) = tt
Numbered-blames b calls r to (staging.spent h d) = tt
Numbered-blames b calls r to (staging.spent_fault {e = e} h d) = Flushed-blames 0 b calls (Err e) to d

Roomy-blames : (size : ℕ) → Blaming blame_of (Roomy size)
Roomy-blames size b calls r to (staging.fits h) = tt
Roomy-blames size b calls r to (staging.full h d) = Flushed-blames 0 b calls r to d

Put-blames : (id : Identity) (m : Outgoing) → Blaming blame_of (Put id m)
Put-blames id m b calls r to (staging.put frame h is) = tt
Put-blames id m b calls r to staging.put_memory = tt

pub Staging-blames : (id : Identity) (m : Outgoing) → Blaming blame_of (Staging id m)
Staging-blames id m =
    Then-blames blame_of Numbered (AndThen (Roomy (size_in_stage m.entry)) (Put id m)) Numbered-blames
    (Then-blames blame_of (Roomy (size_in_stage m.entry)) (Put id m) (Roomy-blames _) (Put-blames id m))

pub MakesAndStages-blames : (id : Identity) (m : Outgoing) → Blaming blame_of (MakesAndStages id m)
MakesAndStages-blames id m b calls r to (staging.made d) = Staging-blames id m b calls r to d
MakesAndStages-blames id m b calls r to staging.not_made = tt

pub StagesPending-blames : (id : Identity) → Blaming blame_of (StagesPending id)
StagesPending-blames id b calls r to (staging.empty h) = tt
StagesPending-blames id b calls r to (staging.not_staged {e = e} d h k) = MakesAndStages-blames id _ b calls (Err e) to k
StagesPending-blames id b calls r to (staging.draft_memory d h) = tt
StagesPending-blames id b calls r to (staging.draft_staged d h k) = tt

-- what came of calls has its cause
pub caused : {S : Type 0} (R : S → List Call → Result ⊤ StageFault → S → Type 0) → Blaming blame_of R → (s to : S) (r : Result ⊤ StageFault) (old new : OutsideSeen) → HasCalls old new (λ calls. R s calls r to) → HasCause r old.faults new.faults
caused R blames s to (Ok x) old new g = tt
caused R blames s to (Err e) old new g = has_risen (blame_of e) old.faults new.faults g.0 g.1.faults (blames s g.0 (Err e) to g.2)

-- ---- it stays timely

kept_is_draft : (p : PendingDraft) (t : Bool) → p.staged ≡ t → IfSome p.draft IsDraft → IfSome (kept_draft p).draft IsDraft
kept_is_draft p true h is = subst (λ t. IfSome (if t then no_draft else p).draft IsDraft) (sym h) tt
kept_is_draft p false h is = subst (λ t. IfSome (if t then no_draft else p).draft IsDraft) (sym h) is

kept_timely : (b : Sender) (count k : ℕ) → IsTimely b → IsTimely (sender_kept (emptied b) count k)
kept_timely b count k ok = record { reading = ok.reading; draft = kept_is_draft b.pending b.pending.staged refl ok.draft }

pub Flushed-stays : (k : ℕ) → Stays IsTimely (Flushed k)
Flushed-stays k b calls r to ok (flush.nothing_due h) = record { reading = ok.reading; draft = ok.draft }
Flushed-stays k b calls r to ok (flush.not_kept h flush.keep_lost) = record { reading = ok.reading; draft = ok.draft }
Flushed-stays k b calls r to ok (flush.not_kept h flush.keep_memory) = record { reading = ok.reading; draft = ok.draft }
Flushed-stays k b calls r to ok (flush.kept_and_written h flush.kept w) = kept_timely b (length b.stage.entries) k ok

Numbered-stays : Stays IsTimely Numbered
Numbered-stays b calls r to ok (staging.has_number h) = ok
Numbered-stays b calls r to ok (staging.spent h d) = Flushed-stays 0 b calls (Ok tt) to ok d
Numbered-stays b calls r to ok (staging.spent_fault {e = e} h d) = Flushed-stays 0 b calls (Err e) to ok d

Roomy-stays : (size : ℕ) → Stays IsTimely (Roomy size)
Roomy-stays size b calls r to ok (staging.fits h) = ok
Roomy-stays size b calls r to ok (staging.full h d) = Flushed-stays 0 b calls r to ok d

Put-stays : (id : Identity) (m : Outgoing) → Stays IsTimely (Put id m)
Put-stays id m b calls r to ok (staging.put frame h is) = record { reading = ok.reading; draft = ok.draft }
Put-stays id m b calls r to ok staging.put_memory = ok

pub Staging-stays : (id : Identity) (m : Outgoing) → Stays IsTimely (Staging id m)
Staging-stays id m =
    then_stays fault.OutOfMemory IsTimely Numbered (AndThen (Roomy (size_in_stage m.entry)) (Put id m)) Numbered-stays
    (then_stays fault.OutOfMemory IsTimely (Roomy (size_in_stage m.entry)) (Put id m) (Roomy-stays _) (Put-stays id m))

pub MakesAndStages-stays : (id : Identity) (m : Outgoing) → Stays IsTimely (MakesAndStages id m)
MakesAndStages-stays id m b calls r to ok (staging.made d) = Staging-stays id m b calls r to ok d
MakesAndStages-stays id m b calls r to ok staging.not_made = ok

pub StagesPending-stays : (id : Identity) → Stays IsTimely (StagesPending id)
StagesPending-stays id b calls r to ok (staging.empty h) = ok
StagesPending-stays id b calls r to ok (staging.not_staged {e = e} d h k) = MakesAndStages-stays id _ b calls (Err e) to ok k
StagesPending-stays id b calls r to ok (staging.draft_memory d h) = ok
StagesPending-stays id b calls r to ok (staging.draft_staged {to = mid} d h k) =
    let later = MakesAndStages-stays id _ b calls (Ok tt) mid ok k in record { reading = later.reading; draft = later.draft }

-- ---- it has an end, and goes on

abbrev pub OM : StageFault
OM = fault.OutOfMemory

abbrev pub always : ⊤ → Type 0
always u = ⊤

abbrev pub any_frame : Option (List ℕ) → Type 0
any_frame frame = ⊤

all_any : (frames : List (Option (List ℕ))) → AllByRecursion any_frame frames
all_any [] = tt
all_any (x ∷ frames) = (tt, all_any frames)

pub wrote_total : (frame : Option (List ℕ)) → any_frame frame → Total OM always (λ u. WroteOne u frame)
wrote_total None fit u ok = went_well OM always (λ u. WroteOne u None) u u tt flush.no_frame
wrote_total (Some text) fit u ok = record {
  more = Write text write.Done ∷ [];
  faultless = tt;
  r = Ok tt;
  to = u;
  good = tt;
  whole = flush.wrote text;
  no_want = λ h. cc;
}

pub wrote_resumes : (frame : Option (List ℕ)) → any_frame frame → Resumes OM always (λ u. WroteOne u frame)
wrote_resumes frame fit u calls s' ok (flush.write_memory text) =
    λ hold. hold (short_at OM always (λ u. WroteOne u (Some text)) u (Write text write.OutOfMemory) (writing text) (wrote_total (Some text) tt u tt))

wrote_stays : (frame : Option (List ℕ)) → Stays always (λ u. WroteOne u frame)
wrote_stays frame s calls r s' ok d = tt

frames_total : (frames : List (Option (List ℕ))) → Total OM always (λ u. Each WroteOne u frames)
frames_total frames = each_total OM always WroteOne any_frame wrote_total frames (all_any frames)

frames_resume : (frames : List (Option (List ℕ))) → Resumes OM always (λ u. Each WroteOne u frames)
frames_resume frames = each_resumes OM always WroteOne any_frame wrote_total wrote_resumes wrote_stays frames (all_any frames)

-- the record is kept, and the frames go on as they do
kept_onward : (k : ℕ) (b : Sender) (calls : List Call) → is_due b k ≡ true → IsTimely b
    → Onward OM always (λ u. Each WroteOne u b.stage.frames) tt calls
    → Onward OM IsTimely (Flushed k) b (Keep (record_of b.stage.entries k) (Ok tt) ∷ calls)
kept_onward k b calls h ok t = record {
  more = t.more;
  faultless = t.faultless;
  r = t.r;
  to = sender_kept (emptied b) (length b.stage.entries) k;
  good = kept_timely b (length b.stage.entries) k ok;
  whole = flush.kept_and_written h flush.kept t.whole;
  no_want = t.no_want;
}

flushed_at : (k : ℕ) (b : Sender) (t : Bool) → is_due b k ≡ t → IsTimely b → Onward OM IsTimely (Flushed k) b []
flushed_at k b false h ok =
    went_well OM IsTimely (Flushed k) b (emptied b) (record { reading = ok.reading; draft = ok.draft }) (flush.nothing_due h)
flushed_at k b true h ok =
    let t = kept_onward k b [] h ok (frames_total b.stage.frames tt tt) in
    record {
      more = Keep (record_of b.stage.entries k) (Ok tt) ∷ t.more;
      faultless = t.faultless;
      r = t.r;
      to = t.to;
      good = t.good;
      whole = t.whole;
      no_want = t.no_want;
    }

pub flushed_total : (k : ℕ) → Total OM IsTimely (Flushed k)
flushed_total k b ok = flushed_at k b (is_due b k) refl ok

-- after a record that was kept
short_kept : (r : Record) (before calls : List Call) → IsShortAfter before calls → IsShortAfter (Keep r (Ok tt) ∷ before) (Keep r (Ok tt) ∷ calls)
short_kept r before calls h = short_after (Keep r (Ok tt) ∷ []) before calls h

pub flushed_resumes : (k : ℕ) → Resumes OM IsTimely (Flushed k)
flushed_resumes k b calls s' ok (flush.not_kept h flush.keep_memory) =
    λ hold. hold (short_at OM IsTimely (Flushed k) b (Keep (record_of b.stage.entries k) (Err keep.OutOfMemory))
    (keeping (record_of b.stage.entries k)) (flushed_total k b ok))
flushed_resumes k b calls s' ok (flush.kept_and_written {more = more} h flush.kept w) =
    λ hold. frames_resume b.stage.frames tt more tt tt w (λ w. hold (record {
      before = Keep (record_of b.stage.entries k) (Ok tt) ∷ w.before;
      short = short_kept (record_of b.stage.entries k) w.before more w.short;
      onward = kept_onward k b w.before h ok w.onward;
    }))

pub settled_total : Total OM IsTimely Settled
settled_total b ok =
    onward_as OM IsTimely (Flushed (due_number b.numbers)) Settled b b [] (λ more r to d. d) (flushed_total (due_number b.numbers) b ok)

pub settled_resumes : Resumes OM IsTimely Settled
settled_resumes b calls s' ok d =
    λ hold. flushed_resumes (due_number b.numbers) b calls s' ok d
    (λ w. hold (would_as OM IsTimely (Flushed (due_number b.numbers)) Settled b b calls
    (λ calls g. onward_as OM IsTimely (Flushed (due_number b.numbers)) Settled b b calls (λ more r to d. d) g) w))

spent_onward : (b : Sender) (calls : List Call) → 999999999 < next_number b → Onward OM IsTimely (Flushed 0) b calls
    → Onward OM IsTimely Numbered b calls
spent_onward b calls h g = by g.r g.to g.good g.whole g.no_want
  where
    by : (r : Result ⊤ StageFault) (to : Sender) → IsTimely to → Flushed 0 b (calls ++ g.more) r to → r ≢ Err OM
        → Onward OM IsTimely Numbered b calls
    by (Err e) to ok d n = record {
      more = g.more;
      faultless = g.faultless;
      r = Err e;
      to = to;
      good = ok;
      whole = staging.spent_fault h d;
      no_want = n;
    }
    by (Ok u) to ok d n = record {
      more = g.more;
      faultless = g.faultless;
      r = Err fault.NumbersSpent;
      to = to;
      good = ok;
      whole = staging.spent h d;
      no_want = λ k. cc;
    }

numbered_total : Total OM IsTimely Numbered
numbered_total b ok =
    elim (cases_lt 999999999 (next_number b)) [
      | inl h ↦ spent_onward b [] h (flushed_total 0 b ok)
      | inr h ↦ went_well OM IsTimely Numbered b b ok (staging.has_number h)
    ]

numbered_resumes : Resumes OM IsTimely Numbered
numbered_resumes b calls s' ok (staging.spent_fault h d) =
    λ hold. flushed_resumes 0 b calls s' ok d (λ w. hold (would_as OM IsTimely (Flushed 0) Numbered b b calls (λ calls g. spent_onward b calls h g) w))

full_onward : (size : ℕ) (b : Sender) (calls : List Call) → has_room b.stage size ≡ false
    → Onward OM IsTimely (Flushed 0) b calls → Onward OM IsTimely (Roomy size) b calls
full_onward size b calls h g = onward_as OM IsTimely (Flushed 0) (Roomy size) b b calls (λ more r to d. staging.full h d) g

roomy_at : (size : ℕ) (b : Sender) (t : Bool) → has_room b.stage size ≡ t → IsTimely b → Onward OM IsTimely (Roomy size) b []
roomy_at size b true h ok = went_well OM IsTimely (Roomy size) b b ok (staging.fits h)
roomy_at size b false h ok = full_onward size b [] h (flushed_total 0 b ok)

roomy_total : (size : ℕ) → Total OM IsTimely (Roomy size)
roomy_total size b ok = roomy_at size b (has_room b.stage size) refl ok

roomy_resumes : (size : ℕ) → Resumes OM IsTimely (Roomy size)
roomy_resumes size b calls s' ok (staging.full h d) =
    λ hold. flushed_resumes 0 b calls s' ok d (λ w. hold (would_as OM IsTimely (Flushed 0) (Roomy size) b b calls (λ calls g. full_onward size b calls h g) w))

-- the frame of a message under a number
framed : (id : Identity) (n : ℕ) (m : Outgoing) (t : Bool) → m.written ≡ t → IsOutgoing m
    → (frame : Option (List ℕ)) × IsStagedFrame id n m frame
framed id n m false h is = (None, outgoings.unwritten h)
framed id n m true h is =
    let at = each_time (time_of_entry m.entry) (payload_time m.entry is.payload) in
    let header : List ℕ = fields_text (header_fields id n at.0) in (
      Some (sealed id.begin (message_text m.type header m.rest)),
      outgoings.framed _ h
          (record { header = header; heads = record { at = at.0; sent_at = at.1; spelled = refl }; spelled = refl }),
    )

put_total : (id : Identity) (m : Outgoing) → IsOutgoing m → Total OM IsTimely (Put id m)
put_total id m is b ok =
    let f = framed id (next_number b) m m.written refl is in
    went_well OM IsTimely (Put id m) b (with_staged b m f.0) (record { reading = ok.reading; draft = ok.draft })
    (staging.put f.0 is f.1)

put_resumes : (id : Identity) (m : Outgoing) → IsOutgoing m → Resumes OM IsTimely (Put id m)
put_resumes id m is b calls s' ok staging.put_memory = λ hold. hold (short_alone OM IsTimely (Put id m) b [] (put_total id m is b ok))

pub staging_total : (id : Identity) (m : Outgoing) → IsOutgoing m → Total OM IsTimely (Staging id m)
staging_total id m is =
    then_total OM IsTimely Numbered (AndThen (Roomy (size_in_stage m.entry)) (Put id m)) numbered_total
    (then_total OM IsTimely (Roomy (size_in_stage m.entry)) (Put id m) (roomy_total _) (put_total id m is))

pub staging_resumes : (id : Identity) (m : Outgoing) → IsOutgoing m → Resumes OM IsTimely (Staging id m)
staging_resumes id m is =
    then_resumes OM IsTimely Numbered (AndThen (Roomy (size_in_stage m.entry)) (Put id m))
    (then_total OM IsTimely (Roomy (size_in_stage m.entry)) (Put id m) (roomy_total _) (put_total id m is)) numbered_resumes
    (then_resumes OM IsTimely (Roomy (size_in_stage m.entry)) (Put id m) (put_total id m is) (roomy_resumes _)
    (put_resumes id m is) (Roomy-stays _)) Numbered-stays

pub makes_total : (id : Identity) (m : Outgoing) → IsOutgoing m → Total OM IsTimely (MakesAndStages id m)
makes_total id m is b ok =
    onward_as OM IsTimely (Staging id m) (MakesAndStages id m) b b [] (λ more r to d. staging.made d) (staging_total id m is b ok)

pub makes_resumes : (id : Identity) (m : Outgoing) → IsOutgoing m → Resumes OM IsTimely (MakesAndStages id m)
makes_resumes id m is b calls s' ok (staging.made d) =
    λ hold. staging_resumes id m is b calls s' ok d
    (λ w. hold (would_as OM IsTimely (Staging id m) (MakesAndStages id m) b b calls
    (λ calls g. onward_as OM IsTimely (Staging id m) (MakesAndStages id m) b b calls (λ more r to d. staging.made d) g) w))
makes_resumes id m is b calls s' ok staging.not_made =
    λ hold. hold (short_alone OM IsTimely (MakesAndStages id m) b [] (makes_total id m is b ok))

-- what is in hand is a draft
pub in_hand_is : (p : PendingDraft) (d : DraftText) → IfSome p.draft IsDraft → p.draft ≡ Some d → IsDraft d
in_hand_is p d ok some = subst (λ (x : Option DraftText). IfSome x IsDraft) some ok

pending_onward : (id : Identity) (b : Sender) (d : DraftText) (calls : List Call) → b.pending.draft ≡ Some d
    → Onward OM IsTimely (MakesAndStages id (draft_outgoing b.numbers.reading d true)) b calls
    → Onward OM IsTimely (StagesPending id) b calls
pending_onward id b d calls h g = by g.r g.to g.good g.whole g.no_want
  where
    by : (r : Result ⊤ StageFault) (to : Sender) → IsTimely to
        → MakesAndStages id (draft_outgoing b.numbers.reading d true) b (calls ++ g.more) r to → r ≢ Err OM
        → Onward OM IsTimely (StagesPending id) b calls
    by (Err e) to ok k n = record {
      more = g.more;
      faultless = g.faultless;
      r = Err e;
      to = to;
      good = ok;
      whole = staging.not_staged d h k;
      no_want = n;
    }
    by (Ok u) to ok k n = record {
      more = g.more;
      faultless = g.faultless;
      r = Ok tt;
      to = with_pending to (staged_draft to.pending);
      good = record { reading = ok.reading; draft = ok.draft };
      whole = staging.draft_staged d h k;
      no_want = λ w. cc;
    }

pending_at : (id : Identity) (b : Sender) (o : Option DraftText) → b.pending.draft ≡ o → IsTimely b
    → Onward OM IsTimely (StagesPending id) b []
pending_at id b None h ok = went_well OM IsTimely (StagesPending id) b b ok (staging.empty h)
pending_at id b (Some d) h ok =
    pending_onward id b d [] h
    (makes_total id _ (draft_is_outgoing _ d true ok.reading (in_hand_is b.pending d ok.draft h)) b ok)

pub pending_total : (id : Identity) → Total OM IsTimely (StagesPending id)
pending_total id b ok = pending_at id b b.pending.draft refl ok

pub pending_resumes : (id : Identity) → Resumes OM IsTimely (StagesPending id)
pending_resumes id b calls s' ok (staging.not_staged d h k) =
    λ hold. makes_resumes id _ (draft_is_outgoing _ d true ok.reading (in_hand_is b.pending d ok.draft h)) b calls s' ok k
    (λ w. hold (would_as OM IsTimely (MakesAndStages id (draft_outgoing b.numbers.reading d true)) (StagesPending id) b b calls
    (λ calls g. pending_onward id b d calls h g) w))
pending_resumes id b calls s' ok (staging.draft_memory d h) =
    λ hold. hold (short_alone OM IsTimely (StagesPending id) b [] (pending_total id b ok))

-- ---- after the flush at the end of a turn the expected number is the one that is kept

none_expected : (n k : ℕ) → not ((n == 0) && (k == 0)) ≡ false → k ≡ 0
none_expected n k h = let p = and_parts (n == 0) (k == 0) (not-false ((n == 0) && (k == 0)) h) in eqb-true k 0 p.1

idle_kept : (b : Sender) (t : Bool) → (b.numbers.stored_expected == b.numbers.expected) ≡ t → 1 ≤ b.numbers.expected
    → is_due b (due_number b.numbers) ≡ false → b.numbers.stored_expected ≡ b.numbers.expected
idle_kept b true z one h = eqb-true b.numbers.stored_expected b.numbers.expected z
idle_kept b false z one h =
    let none_due = none_expected (length b.stage.entries) b.numbers.expected
    (subst (λ t. is_due b (if t then 0 else b.numbers.expected) ≡ false) z h) in
    absurd (omega (arith, none_due))

now_kept : (n : Numbers) (t u : Bool) → (n.stored_expected == n.expected) ≡ t → (n.expected == 0) ≡ u → 1 ≤ n.expected
    → (if due_number n == 0 then n.stored_expected else due_number n) ≡ n.expected
now_kept n true u z y one =
    subst (λ t. (if (if t then 0 else n.expected) == 0 then n.stored_expected else (if t then 0 else n.expected)) ≡ n.expected)
    (sym z) (eqb-true n.stored_expected n.expected z)
now_kept n false true z y one = let none_due = eqb-true n.expected 0 y in absurd (omega (arith, none_due))
now_kept n false false z y one =
    subst (λ t. (if (if t then 0 else n.expected) == 0 then n.stored_expected else (if t then 0 else n.expected)) ≡ n.expected)
    (sym z) (subst (λ u. (if u then n.stored_expected else n.expected) ≡ n.expected) (sym y) refl)

-- so it is after a flush that keeps what it should
pub Settled-kept : (b : Sender) (calls : List Call) (r : Result ⊤ StageFault) (to : Sender) → 1 ≤ b.numbers.expected
    → (r ≡ Ok tt) ⊎ (r ≡ Err fault.LinkFault) → Settled b calls r to → to.numbers.stored_expected ≡ to.numbers.expected
Settled-kept b calls r to one which (flush.nothing_due h) = idle_kept b (b.numbers.stored_expected == b.numbers.expected) refl one h
Settled-kept b calls r to one which (flush.not_kept h flush.keep_lost) =
    absurd (elim which [ inl e ↦ (let w = e in cc) | inr e ↦ (let w = e in cc) ])
Settled-kept b calls r to one which (flush.not_kept h flush.keep_memory) =
    absurd (elim which [ inl e ↦ (let w = e in cc) | inr e ↦ (let w = e in cc) ])
Settled-kept b calls r to one which (flush.kept_and_written h flush.kept w) =
    now_kept b.numbers (b.numbers.stored_expected == b.numbers.expected) (b.numbers.expected == 0) refl refl one

pub Settled-so : (b : Sender) (calls : List Call) (r : Result ⊤ StageFault) (to : Sender) → 1 ≤ b.numbers.expected → Settled b calls r to → IsSettled r to
Settled-so b calls (Ok x) to one d = Settled-kept b calls (Ok tt) to one (inl refl) d
Settled-so b calls (Err fault.NumbersSpent) to one d = tt
Settled-so b calls (Err fault.OutOfMemory) to one d = tt
Settled-so b calls (Err fault.StoreFault) to one d = tt
Settled-so b calls (Err fault.LinkFault) to one d = Settled-kept b calls (Err fault.LinkFault) to one (inr refl) d
