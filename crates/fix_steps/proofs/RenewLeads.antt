-- An answer that begins the numbers anew is a run of a lawful end.
use Rattle.std.proofs.Common.{◌≡◌, ℕ, ◌≤◌, List, [], ◌∷◌, length, true, false, Option, Some, None, Result, Ok, Err, refl, sym, ◌∙◌, ap, subst, arith}
use Rattle.std.specs.Prelude.{⊤}
use Rattle.std.specs.List.{AllByRecursion}
use Rattle.fix_base.specs.Lists.{Among, here}
use Rattle.fix_base.specs.declared.identity.Identity.{Identity}
use Rattle.fix_base.specs.Session.{IsValidIdentity}
use Rattle.fix_base.specs.declared.entry.Record.TheVariants as records
use Rattle.fix_base.specs.declared.act.Act.TheVariants as act
use Rattle.fix_base.specs.End.{End, folded}
use Rattle.fix_base.specs.Message.{Message}
use Rattle.fix_base.specs.Logon.{IsLogon, IsResetLogon, IsFirstLogon, Begun}
use Rattle.fix_base.specs.Wrote as wrote
use Rattle.fix_base.specs.EndStep as steps
use Rattle.fix_base.specs.EndStep.{Answer, AskedReset, OwnReset, Connection, EndState, IsAskedReset, MayStay, Asks}
use Rattle.fix_outside.specs.declared.outside.KeepFault.TheVariants as keep
use Rattle.fix_outside.specs.Calls.{Call, Keep}
use Rattle.fix_base.proofs.ListLemmas.{some_same}
use Rattle.fix_base.proofs.WroteLemmas.{GrowsTo-refl}
use Rattle.fix_admin.specs.Say as say
use Rattle.fix_machine.specs.Event as event
use Rattle.fix_machine.specs.Event.{StepSeen}
use Rattle.fix_machine.specs.Numbers.{begins_with_a_flush}
use Rattle.fix_stage.specs.Combine.{AndThen, goes_well, fails}
use Rattle.fix_stage.specs.Stage.{Staged, no_stage, is_something}
use Rattle.fix_stage.specs.declared.sender.Sender.{Sender}
use Rattle.fix_stage.specs.Sender.{with_numbers, emptied}
use Rattle.fix_stage.specs.Flush as flush
use Rattle.fix_stage.specs.Flush.{Flushed, is_due}
use Rattle.fix_stage.specs.Staging.{MakesAndStages}
use Rattle.fix_stage.specs.Lawful.{IsCertain, MayTellReset, MayTell, AreOriginals, Level, LawfulRunTo, After, LeadsFrom}
use Rattle.fix_stage.proofs.ChainLemmas.{level_fits}
use Rattle.fix_stage.proofs.FlushLeads.{level_emptied}
use Rattle.fix_stage.proofs.LeadsLemmas.{leads_nowhere, leads_step, leads_call, leads_lost, leads_weaker, first_leads, then_leads}
use Rattle.fix_stage.proofs.TellingLeads.{told_leads}
use Rattle.fix_steps.specs.Said.{said_outgoing}
use Rattle.fix_steps.specs.Resetting as resetting
use Rattle.fix_steps.specs.Resetting.{Resetting, numbers_reset}
use Rattle.fix_steps.specs.declared.ending.Ending.{Ending}
use Rattle.fix_steps.specs.declared.ending.Ending.TheVariants as ending
use Rattle.fix_steps.specs.Steps as done
use Rattle.fix_steps.specs.Steps.{IsCarried, InAnswer, Performed, Begins, Done, Carried}
use Rattle.fix_steps.specs.Lawful as lawful
use Rattle.fix_steps.specs.Lawful.{Standing, Clear, Open, MayRenew, BeginsPlainly, IsHeard, IsAnswered, IsSilent, InStep, InStepClear, InBounds, Stands, AfterEnding}
use Rattle.fix_steps.specs.Leaves.{last_taken}
use Rattle.fix_steps.proofs.SoundLemmas.{step_ranges}
use Rattle.fix_steps.proofs.ReadLemmas.{first_frame}
use Rattle.fix_steps.proofs.StepLeads.{Bounded, in_answer, bounded_certain, still_bounded, all_lead}

-- ---- how the reset comes about

begun_as : (P Q : List ℕ → Type 0) (bytes : List ℕ) → ((text : List ℕ) → P text → Q text) → Begun P bytes → Begun Q bytes
begun_as P Q bytes f h = record { text = h.text; others = h.others; items = h.items; rest = h.rest; takes = h.takes; first = h.first; is = f h.text h.is }

is_logon : (text : List ℕ) → IsFirstLogon text → IsLogon text
is_logon text h = record { fields = h.fields; has = h.has; type = h.type }

is_reset_logon : (text : List ℕ) → IsFirstLogon text → IsResetLogon text
is_reset_logon text h = record { fields = h.fields; has = h.has; type = h.type; flag = h.flag }

not_both : (bytes : List ℕ) → Begun IsFirstLogon bytes → BeginsPlainly bytes → ⊥
not_both bytes a b = b.is (subst IsResetLogon (first_frame _ a.items b.items a.rest b.rest a.text b.text a.others b.others a.takes b.takes a.first b.first) (is_reset_logon a.text a.is))

heard_logon : (read : List ℕ) (answer : Answer) → IsHeard read answer → Begun IsLogon read
heard_logon read answer (lawful.asked h) = begun_as IsFirstLogon IsLogon read is_logon h
heard_logon read answer (lawful.unasked h plain) = h

module _ (id : Identity) (read : List ℕ) (n : ℕ) (b : Sender) (e : EndState) (h : IsSilent id read n b e) where
  abbrev on : Connection
  on = h.level.on.connection

  may_stay : (answer : Answer) → IsHeard read answer → MayStay e
  may_stay answer heard = record {
    connection = on;
    is_open = h.level.on.is_open;
    silent = h.silent;
    logon = subst (λ w. Begun IsLogon w) (sym h.level.on.reads) (heard_logon read answer heard);
  }

  asked_reset : Begun IsFirstLogon read → IsAskedReset e
  asked_reset heard = record {
    connection = on;
    is_open = h.level.on.is_open;
    silent = h.silent;
    unanswered = h.level.on.keeps;
    logon = subst (λ w. Begun IsFirstLogon w) (sym h.level.on.reads) heard;
  }

  asks : (answer : Answer) → IsHeard read answer → Asks e answer
  asks answer (lawful.asked heard) = steps.by_logon (asked_reset heard)
  asks answer (lawful.unasked heard plain) = steps.otherwise
      (λ r. not_both read (subst (λ w. Begun IsFirstLogon w) (ap (λ (c : Connection). c.read) (some_same r.connection on (sym r.is_open ∙ h.level.on.is_open)) ∙ h.level.on.reads) r.logon) plain)

-- ---- the reset

-- it is kept, and nothing else was done
record Renewed (id : Identity) (read : List ℕ) (answer : Answer) (b : Sender) (e : EndState) : Type 0 where
  level : Level id read (answer ∷ []) [] 1 b e
  empty : b.stage ≡ no_stage
  silent : level.on.connection.written ≡ []

-- the end after it
abbrev renewed : EndState → Connection → Answer → ℕ → EndState
renewed e c answer time = record e {
  end = folded e.end (records.Reset time);
  expected = 1;
  handled = [];
  offered = None;
  connection = Some (record {
    opened = folded e.end (records.Reset time);
    read = c.read;
    written = c.written;
    base = 0;
    gave = c.gave;
    kept = answer ∷ c.kept;
  });
}

module _ (id : Identity) (read : List ℕ) (answer : Answer) (heard : IsHeard read answer) (n : ℕ) (frame : Option (List ℕ)) where
  abbrev Failed : Ending → Sender → EndState → Type 0
  Failed = AfterEnding id read

  kept_renewed : (b : Sender) (e : EndState) (h : IsSilent id read n b e) → Renewed id read answer (with_numbers b (numbers_reset b.numbers)) (renewed e h.level.on.connection answer b.numbers.reading)
  kept_renewed b e h =
      let l = h.level in
      let to : EndState = renewed e l.on.connection answer b.numbers.reading in
      let c : Connection = record {
        opened = to.end;
        read = l.on.connection.read;
        written = l.on.connection.written;
        base = 0;
        gave = l.on.connection.gave;
        kept = answer ∷ l.on.connection.kept;
      } in
      record {
        level = record {
          certain = record { doubt = l.certain.doubt; kept = record { stored = refl; out = refl; free = l.certain.kept.free } };
          on = record {
            connection = c;
            is_open = refl;
            reads = l.on.reads;
            keeps = ap (λ w. answer ∷ w) l.on.keeps;
            gives = l.on.gives;
            last = 0;
            below = omega arith;
            whole = record { grew = GrowsTo-refl to.end; texts = []; writes = wrote.done; whole = h.silent };
            plain = l.on.plain;
          };
          here = refl;
          base = omega arith;
          expected = refl;
          frames = subst (λ (s : Staged). AreOriginals id (MayTellReset c) 0 s.entries s.frames) (sym h.empty) tt;
        };
        empty = h.empty;
        silent = h.silent;
      }

  reset_leads : LeadsFrom id Failed (IsSilent id read n) (λ b. Performed id frame b event.Reset) (Renewed id read answer)
  reset_leads b calls r to (done.resets resetting.reset_kept) e h =
      let c = h.level.on.connection in
      let time = b.numbers.reading in
      leads_step id e (renewed e c answer time) (act.Kept (records.Reset time)) (Keep (records.Reset time) (Ok tt)) [] (Renewed id read answer to) refl
      (record { certain = h.level.certain.doubt; row = steps.kept_reset time c answer h.level.on.is_open (may_stay id read n b e h answer heard) (asks id read n b e h answer heard) })
      (λ held k. k.stores.2 ∙ k.stores.1)
      (leads_nowhere id (renewed e c answer time) (Renewed id read answer to) (kept_renewed b e h))
  reset_leads b calls r to (done.resets resetting.reset_lost) e h =
      let time = b.numbers.reading in
      let left : EndState = record e { doubt = Some (records.Reset time); connection = None } in
      leads_lost id e left (records.Reset time) (Failed ending.StoreFault b) (record { certain = h.level.certain.doubt; row = steps.lost_reset time }) refl refl
      (lawful.reset_in_doubt (record {
        kept = record { stored = h.level.certain.kept.stored; out = h.level.certain.kept.out; free = h.level.certain.kept.free };
        time = time;
        doubt = refl;
        closed = refl;
      }))
  reset_leads b calls r to (done.resets resetting.reset_memory) e h =
      leads_call id e (Keep (records.Reset b.numbers.reading) (Err keep.OutOfMemory)) [] (IsCertain b.numbers) refl (λ held s. s.stores)
      (λ so. leads_nowhere id e (IsCertain b.numbers) h.level.certain)

  -- with numbers in their bounds
  reset_bounded : LeadsFrom id Failed (InBounds (IsSilent id read n)) (λ b. Performed id frame b event.Reset) (InBounds (Renewed id read answer))
  reset_bounded b calls r to d e h =
      leads_weaker id e calls (After Failed (Renewed id read answer) r to) (After Failed (InBounds (Renewed id read answer)) r to)
      (λ e' q. still_bounded Failed (Renewed id read answer) r to e' (step_ranges id frame event.Reset b calls r to h.last d) q) (reset_leads b calls r to d e h.is)

  -- ---- nothing is staged before it

  none_due : (b : Sender) → b.stage ≡ no_stage → is_due b 0 ≡ true → ⊥
  none_due b empty due = let none : is_something no_stage 0 ≡ true = subst (λ (s : Staged). is_something s 0 ≡ true) empty due in cc

  silent_emptied : (b : Sender) (e : EndState) → IsSilent id read n b e → IsSilent id read n (emptied b) e
  silent_emptied b e h = record { level = level_emptied id read [] [] n b e h.level; empty = refl; silent = h.silent }

  taken_emptied : (b : Sender) → last_taken b ≤ 999999999 → last_taken (emptied b) ≤ 999999999
  taken_emptied b few = omega (arith, few)

  silent_begins : (xs : List StepSeen) → begins_with_a_flush xs ≡ true → LeadsFrom id Failed (InBounds (IsSilent id read n)) (Begins xs) (InBounds (IsSilent id read n))
  silent_begins xs first b calls r to (done.flushes due (goes_well {s = s} (flush.nothing_due none))) e h =
      leads_nowhere id e (InBounds (IsSilent id read n) (emptied b)) (record { is = silent_emptied b e h.is; last = taken_emptied b h.last })
  silent_begins xs first b calls r to (done.flushes due (goes_well {s = s} (flush.kept_and_written some k w))) e h = absurd (none_due b h.is.empty some)
  silent_begins xs first b calls r to (done.flushes due (fails (flush.not_kept some k))) e h = absurd (none_due b h.is.empty some)
  silent_begins xs first b calls r to (done.flushes due (fails (flush.kept_and_written some k w))) e h = absurd (none_due b h.is.empty some)
  silent_begins xs first b calls r to (done.at_once none) e h = absurd (let both : true ≡ false = sym first ∙ none in cc)

-- ---- the Logon that tells of it

logon_leads : (id : Identity) (read : List ℕ) (valid : IsValidIdentity id) (frame : Option (List ℕ)) (heart : ℕ) (version : Option ℕ) → LeadsFrom id (AfterEnding id read) (Renewed id read AskedReset) (λ b. Performed id frame b (event.Send (say.Logon heart true version))) (InStep id read (AskedReset ∷ []) 1)
logon_leads id read valid frame heart version b calls r to (done.says t d) e h =
    let m = said_outgoing id.begin b.numbers.reading (say.Logon heart true version) in
    let may : MayTell id read (AskedReset ∷ []) [] 1 b e = record {
      level = h.level;
      empty = h.empty;
      told = (h.silent, subst (λ w. Among AskedReset w) (sym h.level.on.keeps) here);
    } in
    in_answer id read (AskedReset ∷ []) [] 1 (MakesAndStages id m) (Level id read (AskedReset ∷ []) [] 1) (InStep id read (AskedReset ∷ []) 1) b e
    (λ calls r to d. told_leads id read (AskedReset ∷ []) [] 1 m valid b calls r to d e may)
    (λ calls to e' d q. record { given = []; fits = level_fits id read (AskedReset ∷ []) [] 1 to e' q; below = λ k a. elim a [ ] }) calls r to d

logon_bounded : (id : Identity) (read : List ℕ) (valid : IsValidIdentity id) (frame : Option (List ℕ)) (heart : ℕ) (version : Option ℕ) → LeadsFrom id (AfterEnding id read) (InBounds (Renewed id read AskedReset)) (λ b. Performed id frame b (event.Send (say.Logon heart true version))) (Bounded id read (AskedReset ∷ []) Open 1)
logon_bounded id read valid frame heart version b calls r to d e h =
    leads_weaker id e calls (After (AfterEnding id read) (InStep id read (AskedReset ∷ []) 1) r to) (After (AfterEnding id read) (Bounded id read (AskedReset ∷ []) Open 1) r to)
    (λ e' q. still_bounded (AfterEnding id read) (InStep id read (AskedReset ∷ []) 1) r to e' (step_ranges id frame (event.Send (say.Logon heart true version)) b calls r to h.last d) q)
    (logon_leads id read valid frame heart version b calls r to d e h.is)

-- ---- the answer

module _ (id : Identity) (read : List ℕ) (valid : IsValidIdentity id) (frame : Option (List ℕ)) (x : Option Message) (n : ℕ) where
  done_anew : (answer : Answer) (xs : List StepSeen) (to : Standing) (m : ℕ) → IsHeard read answer → IsAnswered read (answer ∷ []) frame x → MayRenew x answer xs to m → AllByRecursion (IsCarried frame) xs → LeadsFrom id (AfterEnding id read) (InBounds (IsSilent id read n)) (Done id frame xs) (Bounded id read (answer ∷ []) to m)
  done_anew answer xs to m heard answered (lawful.renews_asked {steps = more} heart version rest) fit =
      first_leads id (AfterEnding id read) (Performed id frame) (InBounds (IsSilent id read n)) (InBounds (Renewed id read AskedReset)) (Bounded id read (AskedReset ∷ []) to m) event.Reset (event.Send (say.Logon heart true version) ∷ more)
      (λ b e q. q.is.level.certain.doubt) (reset_bounded id read AskedReset heard n frame)
      (first_leads id (AfterEnding id read) (Performed id frame) (InBounds (Renewed id read AskedReset)) (Bounded id read (AskedReset ∷ []) Open 1) (Bounded id read (AskedReset ∷ []) to m) (event.Send (say.Logon heart true version)) more
      (bounded_certain id read (AskedReset ∷ []) Open 1) (logon_bounded id read valid frame heart version)
      (all_lead id read (AskedReset ∷ []) valid frame x answered rest fit.1.1))
  done_anew answer xs to m heard answered (lawful.renews_own {steps = more} rest) fit =
      first_leads id (AfterEnding id read) (Performed id frame) (InBounds (IsSilent id read n)) (Bounded id read (OwnReset ∷ []) Clear 1) (Bounded id read (OwnReset ∷ []) to m) event.Reset more
      (bounded_certain id read (OwnReset ∷ []) Clear 1) own_bounded (all_lead id read (OwnReset ∷ []) valid frame x answered rest fit.1)
    where
      clear : (b : Sender) (e : EndState) → Renewed id read OwnReset b e → InStepClear id read (OwnReset ∷ []) 1 b e
      clear b e q = record { given = []; level = q.level; empty = q.empty; below = λ k a. elim a [ ] }

      clear_after : (r : Result ⊤ Ending) (b : Sender) (e : EndState) → After (AfterEnding id read) (InBounds (Renewed id read OwnReset)) r b e → After (AfterEnding id read) (Bounded id read (OwnReset ∷ []) Clear 1) r b e
      clear_after (Ok u) b e q = record { is = clear b e q.is; last = q.last }
      clear_after (Err f) b e q = q

      own_bounded : LeadsFrom id (AfterEnding id read) (InBounds (IsSilent id read n)) (λ b. Performed id frame b event.Reset) (Bounded id read (OwnReset ∷ []) Clear 1)
      own_bounded b calls r to d e h =
          leads_weaker id e calls (After (AfterEnding id read) (InBounds (Renewed id read OwnReset)) r to) (After (AfterEnding id read) (Bounded id read (OwnReset ∷ []) Clear 1) r to) (λ e' q. clear_after r to e' q)
          (reset_bounded id read OwnReset heard n frame b calls r to d e h)

  flushes_first : (answer : Answer) (xs : List StepSeen) (to : Standing) (m : ℕ) → MayRenew x answer xs to m → begins_with_a_flush xs ≡ true
  flushes_first answer xs to m (lawful.renews_asked heart version rest) = refl
  flushes_first answer xs to m (lawful.renews_own rest) = refl

  pub renewed_leads : (answer : Answer) (xs : List StepSeen) (to : Standing) (m : ℕ) → IsHeard read answer → IsAnswered read (answer ∷ []) frame x → MayRenew x answer xs to m → AllByRecursion (IsCarried frame) xs → LeadsFrom id (AfterEnding id read) (InBounds (IsSilent id read n)) (Carried id frame xs) (Bounded id read (answer ∷ []) to m)
  renewed_leads answer xs to m heard answered may fit =
      then_leads id (AfterEnding id read) (InBounds (IsSilent id read n)) (InBounds (IsSilent id read n)) (Bounded id read (answer ∷ []) to m) (Begins xs) (Done id frame xs) (λ b e q. q.is.level.certain.doubt)
      (silent_begins id read answer heard n frame xs (flushes_first answer xs to m may)) (done_anew answer xs to m heard answered may fit)
