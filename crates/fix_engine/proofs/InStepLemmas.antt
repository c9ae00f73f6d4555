-- A session stays in step with what is outside of it, and keeps up with its counterparty.
use Rattle.std.proofs.Common.{◌≡◌, ◌≢◌, ◌⊎◌, inl, inr, replicate, ℕ, ◌≤◌, List, [], ◌∷◌, ◌++◌, length, Option, Some, None, Result, Ok, Err, refl, sym, ap, ◌∙◌, subst, append_assoc, arith}
use Rattle.std.specs.Prelude.{⊤, IfSome, IfNone}
use Rattle.std.proofs.lemmas.List.{append-nil, length-replicate}
use Rattle.fix_base.specs.declared.identity.Identity.{Identity}
use Rattle.fix_base.specs.declared.act.Act.{Act}
use Rattle.fix_base.specs.declared.act.Act.TheVariants as act
use Rattle.fix_base.specs.declared.entry.Record.{Record}
use Rattle.fix_base.specs.declared.entry.Entry.TheVariants.{Admin}
use Rattle.fix_base.specs.declared.entry.Stored.{Stored}
use Rattle.fix_base.specs.End.{End, new_end}
use Rattle.fix_base.specs.EndStep as steps
use Rattle.fix_base.specs.EndStep.{Acceptor, Connection, EndState, new_state, EndStep, EndRun}
use Rattle.fix_base.specs.Lists.{IsPrefixOf}
use Rattle.fix_base.specs.Session.{mirrored}
use Rattle.fix_base.specs.Agrees.{Agrees}
use Rattle.fix_base.specs.Reader.{bytes_read, ReaderKeepsUp}
use Rattle.fix_base.specs.Payload.{LAST_TIME, IsPersistent}
use Rattle.fix_base.specs.Trace.{Stores, grown, Note, Did, acts_of, OutsideSeen, HoldsOn, Trace, HasTrace}
use Rattle.fix_base.proofs.SeenLemmas.{Trace-nil}
use Rattle.fix_base.proofs.RunLemmas.{EndRun-append}
use Rattle.fix_base.proofs.ReaderLemmas.{reader}
use Rattle.fix_base.proofs.WholeLemmas.{whole_start}
use Rattle.fix_engine.specs.State.{State, Down, Ending, first_state}
use Rattle.fix_engine.specs.declared.state.Ending.TheVariants as ending
use Rattle.fix_engine.specs.declared.stop.RunEnd.{RunEnd}
use Rattle.fix_engine.specs.declared.stop.RunEnd.TheVariants as run
use Rattle.fix_engine.specs.declared.stop.StopCause.{StopCause}
use Rattle.fix_engine.specs.declared.stop.BeginFault.{BeginFault}
use Rattle.fix_engine.specs.Reading.{ConnectionSeen, connection_seen}
use Rattle.fix_engine.specs.declared.pending.PendingDraft.{PendingDraft}
use Rattle.fix_engine.specs.Turn.{turn_seen, RunAndCut, no_draft}
use Rattle.fix_engine.specs.declared.stop.BeginFault.TheVariants as begins
use Rattle.fix_engine.specs.Run.{SessionSeen, turn_of, opened_session, reopened_session, no_bytes, stopped_for_memory, Opens, BeginsTo, opened_to, no_memory, no_memory_to_open, begun}
use Rattle.fix_engine.specs.Faults.{open_behind, run_end, stop_cause}
use Rattle.fix_engine.specs.Lawful.{HasNumbers, IsCertain, IsStoredOrInDoubt, silent, MatchesConnected, LawfulRunTo, After, AfterBegin, IsLawfulBegin}
use Rattle.fix_engine.specs.InStep as step
use Rattle.fix_engine.specs.InStep.{Matches, IsTape, IsStored, IsInStep, IsInStepSinceSome, CanRestart, IsConnected, AreOfRun, HasServed, bytes_written}
use Rattle.fix_outside.specs.declared.outside.LoadFault.{LoadFault}
use Rattle.fix_outside.specs.declared.outside.LoadFault.TheVariants as load
use Rattle.fix_engine.specs.declared.stop.StopCause.TheVariants as stops
use Rattle.fix_outside.specs.Outside.{IsStoredOf, IsLoaded, loads}
use Rattle.fix_engine.proofs.RestartLemmas.{restarts_at}
use Rattle.fix_engine.proofs.EachFrame.{decided, map_sure}
use Rattle.fix_engine.proofs.BeginLemmas.{begins_ok, begins_err}
use Rattle.fix_engine.proofs.LeadsLemmas.{leads_nowhere, leads_step, holds_end, Stores-split}
use Rattle.fix_engine.proofs.ReadLemmas.{read_nothing}
use Rattle.fix_engine.proofs.LogonLemmas.{never_asks, plain_nothing}
use Rattle.fix_engine.proofs.LawfulRuns.{RunAndCut-lawful}
use Rattle.fix_engine.proofs.WritingLemmas.{run_wrote, run_persistent}
use Rattle.fix_engine.proofs.RunActs.{of_run-append, of_run_one, RunAndCut-plainly}

-- ---- what is told

-- the tape has the acts behind those that it had
pub tape_moves : (t t' : Option (List Act)) (xs acts : List Act) → t' ≡ grown t acts → IfSome t (λ tape. tape ≡ xs) → IfSome t' (λ tape. tape ≡ xs ++ acts)
tape_moves None t' xs acts e h = subst (λ o. IfSome o (λ tape. tape ≡ xs ++ acts)) (sym e) tt
tape_moves (Some old) t' xs acts e h = subst (λ o. IfSome o (λ tape. tape ≡ xs ++ acts)) (sym e) (ap (λ l. l ++ acts) h)

-- what each store that held the end holds behind the acts, a store that is told holds
pub told_holds : (P Q : End → Type 0) (acts : List Act) (from : End) (R : Option End → Type 0) → HoldsOn P Q acts → ((held : Option End) → Stores acts (Some from) held → R held) → ((e : End) → P e → e ≡ from) → (e : End) → Q e → R (Some e)
told_holds P Q acts from R moves follows h e q =
    let was = moves.only e q in
    follows (Some e) (subst (λ f. Stores acts (Some f) (Some e)) (h was.0 was.1) was.2)

some_end : (a b : End) → Some a ≡ Some b → a ≡ b
some_end a b e = cc

-- a store that held the end holds the one behind the acts
pub store_moves : (P Q : End → Type 0) (acts : List Act) (from to : End) → HoldsOn P Q acts → ((held : Option End) → Stores acts (Some from) held → held ≡ Some to) → ((e : End) → P e → e ≡ from) → (e : End) → Q e → e ≡ to
store_moves P Q acts from to moves follows h e q = some_end e to (told_holds P Q acts from (λ held. held ≡ Some to) moves follows h e q)

-- the same over two lists of acts
pub stored_on : (first between : End) (xs ys : List Act) (doubt : Option Record) (last : End) → ((held : Option End) → Stores xs (Some first) held → held ≡ Some between) → ((held : Option End) → Stores ys (Some between) held → IsStoredOrInDoubt doubt last held) → (held : Option End) → Stores (xs ++ ys) (Some first) held → IsStoredOrInDoubt doubt last held
stored_on first between xs ys doubt last before behind held s =
    let parts = Stores-split xs ys (Some first) held s in
    behind held (subst (λ o. Stores ys o held) (before parts.0 parts.1) parts.2)

-- ---- a new session

-- a session of which nothing is stored is in step with an outside that stores nothing
pub new_in_step : (id : Identity) (w : OutsideSeen) (before : List Act) → IsTape w before → IsStored w new_end → w.open_at ≡ Some 0 → IsInStep (new_state Acceptor) before w (record { identity = id; connection = connection_seen first_state no_bytes; pending = no_draft; stopped = None })
new_in_step id w before tape stored opens = record {
  acts = [];
  to = new_state Acceptor;
  run = steps.stop;
  beside = step.down refl (record { doubt = refl; numbers = record { expected = refl; stored = refl; out = refl; role = refl } });
  tape = subst (λ (acts : List Act). IsTape w acts) (sym (append-nil before)) tape;
  stored = stored;
  opens = opens;
}

-- ---- a run of turns

pub beside_settled : (id : Identity) (l : ConnectionSeen) (e : EndState) → Matches id l e → IsCertain l.state e
beside_settled id l e (step.connected f) = f.on.settled
beside_settled id l e (step.down p h) = h

pub beside_fits : (id : Identity) (l : ConnectionSeen) (e : EndState) → l.state.phase ≢ Down → Matches id l e → MatchesConnected id l e
beside_fits id l e is_open (step.connected f) = f
beside_fits id l e is_open (step.down p h) = absurd (is_open p)

-- a session that isn't stopped behind a run is in step
after_beside : (id : Identity) (r : Result ⊤ Ending) (to : ConnectionSeen) (e : EndState) → stop_cause (run_end r) ≡ None → After id (run_end r) to e → Matches id to e
after_beside id (Ok x) to e none h = step.connected h
after_beside id (Err (ending.Closed why)) to e none h = step.down h.phase h.settled
after_beside id (Err (ending.NotBuilt n)) to e none h = step.down h.phase h.settled
after_beside id (Err ending.LinkFault) to e none h = step.down h.phase h.settled
after_beside id (Err ending.NumbersSpent) to e none h = step.down h.phase h.settled
after_beside id (Err ending.AppFault) to e none h = cc
after_beside id (Err ending.StoreFault) to e none h = cc
after_beside id (Err ending.OutOfMemory) to e none h = cc

abbrev pub seated : SessionSeen → ConnectionSeen → PendingDraft → Option StopCause → SessionSeen
seated session to pending stopped = record { identity = session.identity; connection = to; pending = pending; stopped = stopped }

-- calls that lead an end to one that is in step
pub moved : (start : EndState) (before : List Act) (old new : OutsideSeen) (session : SessionSeen) (to : ConnectionSeen) (pending : PendingDraft) (stopped : Option StopCause) (notes : List Note) (P : EndState → Type 0) → Trace old new notes → new.open_at ≡ Some to.state.last → ((e : EndState) → P e → Matches session.identity to e) → (h : IsInStep start before old session) → LawfulRunTo session.identity h.to (acts_of notes) P → IsInStep start before new (seated session to pending stopped)
moved start before old new session to pending stopped notes P m opens beside h l =
    let b = beside l.to l.holds in
    record {
      acts = h.acts ++ acts_of notes;
      to = l.to;
      run = EndRun-append h.run l.run;
      beside = b;
      tape = subst (λ acts. IsTape new acts) (append_assoc before h.acts (acts_of notes)) (tape_moves old.tape new.tape (before ++ h.acts) (acts_of notes) m.tape h.tape);
      stored = store_moves old.Holds new.Holds (acts_of notes) h.to.end l.to.end m.stored (λ held s. holds_end l.to.doubt l.to.end held (beside_settled session.identity to l.to b).doubt (l.store held s)) h.stored;
      opens = opens;
    }

pub if_none : {A : Type 0} (o : Option A) (P : Type 0) → (o ≡ None → P) → IfNone o P
if_none None P h = h refl
if_none (Some x) P h = tt

-- a store that isn't blamed is open
open_unstopped : (r : Result ⊤ Ending) (s : State) → stop_cause (run_end r) ≡ None → open_behind r s ≡ Some s.last
open_unstopped (Ok x) s none = refl
open_unstopped (Err (ending.Closed why)) s none = refl
open_unstopped (Err (ending.NotBuilt n)) s none = refl
open_unstopped (Err ending.LinkFault) s none = refl
open_unstopped (Err ending.AppFault) s none = refl
open_unstopped (Err ending.NumbersSpent) s none = refl
open_unstopped (Err ending.StoreFault) s none = cc
open_unstopped (Err ending.OutOfMemory) s none = refl

-- a session that isn't stopped by a run stays in step
pub run_in_step : (n : ℕ) (session : SessionSeen) (r : Result ⊤ Ending) (to : ConnectionSeen) (pending : PendingDraft) (old new : OutsideSeen) → session.connection.state.phase ≢ Down → new.open_at ≡ open_behind r to.state → HasTrace old new (λ notes. RunAndCut session.identity n (turn_of session) notes r (turn_seen to pending)) → IfNone (stop_cause (run_end r)) ((start : EndState) (before : List Act) → IsInStep start before old session → IsInStep start before new (seated session to pending (stop_cause (run_end r))))
run_in_step n session r to pending old new is_open opens g =
    if_none (stop_cause (run_end r)) ((start : EndState) (before : List Act) → IsInStep start before old session → IsInStep start before new (seated session to pending (stop_cause (run_end r))))
    (λ none start before h. moved start before old new session to pending (stop_cause (run_end r)) g.0 (After session.identity (run_end r) to) g.1 (opens ∙ open_unstopped r to.state none) (λ e k. after_beside session.identity r to e none k) h
    (RunAndCut-lawful session.identity n (turn_of session) g.0 r (turn_seen to pending) g.2 h.to (beside_fits session.identity session.connection h.to is_open h.beside)))

-- only a run that made all its turns answers so
spent_ok : (r : Result ⊤ Ending) → run_end r ≡ run.TurnsSpent → r ≡ Ok tt
spent_ok (Ok x) e = refl
spent_ok (Err (ending.Closed why)) e = cc
spent_ok (Err (ending.NotBuilt n)) e = cc
spent_ok (Err ending.LinkFault) e = cc
spent_ok (Err ending.AppFault) e = cc
spent_ok (Err ending.NumbersSpent) e = cc
spent_ok (Err ending.StoreFault) e = cc
spent_ok (Err ending.OutOfMemory) e = cc

-- where all turns were made, the connection goes on
pub run_connected : (n : ℕ) (session : SessionSeen) (r : Result ⊤ Ending) (to : ConnectionSeen) (pending : PendingDraft) (stopped : Option StopCause) (old new : OutsideSeen) → session.connection.state.reading ≤ LAST_TIME → new.open_at ≡ open_behind r to.state → HasTrace old new (λ notes. RunAndCut session.identity n (turn_of session) notes r (turn_seen to pending)) → run_end r ≡ run.TurnsSpent → (start : EndState) (before : List Act) → IsConnected start before old session → IsConnected start before new (seated session to pending stopped)
run_connected n session r to pending stopped old new small opens g spent start before h =
    let acts = acts_of g.0 in
    let d = turn_of session in
    let ran : RunAndCut session.identity n d g.0 (Ok tt) (turn_seen to pending) = subst (λ (x : Result ⊤ Ending). RunAndCut session.identity n d g.0 x (turn_seen to pending)) (spent_ok r spent) g.2 in
    let l = RunAndCut-lawful session.identity n d g.0 (Ok tt) (turn_seen to pending) ran h.to h.fits in
    record {
      opened = h.opened;
      opens = h.opens;
      acts = h.acts ++ acts;
      ran = of_run-append h.acts acts h.ran (RunAndCut-plainly session.identity n d g.0 (Ok tt) (turn_seen to pending) ran small);
      to = l.to;
      run = EndRun-append h.run l.run;
      fits = l.holds;
      tape = subst (λ (w : List Act). IsTape new w) (append_assoc before (act.Opened ∷ h.acts) acts) (tape_moves old.tape new.tape (before ++ act.Opened ∷ h.acts) acts g.1.tape h.tape);
      stored = store_moves old.Holds new.Holds acts h.to.end l.to.end g.1.stored (λ held s. holds_end l.to.doubt l.to.end held l.holds.on.settled.doubt (l.store held s)) h.stored;
      store_open = opens ∙ ap (λ (x : Result ⊤ Ending). open_behind x to.state) (spent_ok r spent);
      store = λ held s. holds_end l.to.doubt l.to.end held l.holds.on.settled.doubt (stored_on h.opened.end h.to.end h.acts acts l.to.doubt l.to.end h.store l.store held s);
    }

-- what it wrote is lawful, and the session keeps up with its counterparty
pub run_serves : (n : ℕ) (session : SessionSeen) (r : Result ⊤ Ending) (to : ConnectionSeen) (pending : PendingDraft) (old new : OutsideSeen) → session.connection.state.reading ≤ LAST_TIME → HasTrace old new (λ notes. RunAndCut session.identity n (turn_of session) notes r (turn_seen to pending)) → (start : EndState) (before : List Act) (h : IsConnected start before old session) → HasTrace old new (λ notes. HasServed session.identity (run_end r) to start h.opened (h.acts ++ acts_of notes))
run_serves n session r to pending old new small g start before h =
    let id = session.identity in
    let acts = h.acts ++ acts_of g.0 in
    let l = RunAndCut-lawful id n (turn_of session) g.0 r (turn_seen to pending) g.2 h.to h.fits in
    let run : EndRun id h.opened acts l.to = EndRun-append h.run l.run in
    let ran : AreOfRun acts = of_run-append h.acts (acts_of g.0) h.ran (RunAndCut-plainly id n (turn_of session) g.0 r (turn_seen to pending) g.2 small) in (
      g.0,
      g.1,
      record {
        to = l.to;
        run = run;
        behind = l.holds;
        store = stored_on h.opened.end h.to.end h.acts (acts_of g.0) l.to.doubt l.to.end h.store l.store;
        ran = ran;
        persistent = run_persistent id start h.opened l.to acts h.opens run ran;
        wrote = run_wrote id start h.opened l.to acts h.opens run ran;
        keeps_up = λ f0 f1 p. reader id start h.opened l.to acts f0 f1 p.wrote p.persistent p.writes h.opens run (of_run_one acts ran) p.front p.stored p.running;
      },
    )

-- over what another session wrote, a session keeps up with it
pub sessions_agree : (id : Identity) (first second : RunEnd) (a b : ConnectionSeen) (mine theirs opened facing : EndState) (acts others : List Act) (x : HasServed id first a mine opened acts) (y : HasServed (mirrored id) second b theirs facing others) → IsPersistent theirs.end → IsPrefixOf (bytes_read acts) (bytes_written others) → Agrees mine.end.stored mine.handled theirs.end → Agrees mine.expected mine.handled theirs.end → ReaderKeepsUp theirs.end y.to.end acts x.to
sessions_agree id first second a b mine theirs opened facing acts others x y kept front stored running =
    x.keeps_up theirs.end y.to.end (record { wrote = bytes_written others; persistent = y.persistent kept; writes = y.wrote; front = front; stored = stored; running = running })

-- and the other with the one
pub sessions_agree_back : (id : Identity) (first second : RunEnd) (a b : ConnectionSeen) (mine theirs opened facing : EndState) (acts others : List Act) (x : HasServed id first a mine opened acts) (y : HasServed (mirrored id) second b theirs facing others) → IsPersistent mine.end → IsPrefixOf (bytes_read others) (bytes_written acts) → Agrees theirs.end.stored theirs.handled mine.end → Agrees theirs.expected theirs.handled mine.end → ReaderKeepsUp mine.end x.to.end others y.to
sessions_agree_back id first second a b mine theirs opened facing acts others x y kept front stored running =
    y.keeps_up mine.end x.to.end (record { wrote = bytes_written acts; persistent = x.persistent kept; writes = x.wrote; front = front; stored = stored; running = running })

-- ---- a new connection

abbrev pub new_connection : EndState → Connection
new_connection e = record { opened = e.end; read = []; written = []; base = length e.handled; gave = []; kept = [] }

abbrev pub opened_by : EndState → EndState
opened_by e = record e { offered = None; connection = Some (new_connection e) }

pub fits_opened : (id : Identity) (l : ConnectionSeen) (t : ℕ) (e : EndState) → IsCertain l.state e → MatchesConnected id (begun l t) (opened_by e)
fits_opened id l t e h = record {
  connection = new_connection e;
  on = record {
    phase = λ p. cc;
    settled = record { doubt = h.doubt; numbers = record { expected = h.numbers.expected; stored = h.numbers.stored; out = h.numbers.out; role = h.numbers.role } };
    is_open = refl;
    read = read_nothing;
    last = length e.end.out;
    kept = omega arith;
    whole = whole_start id e.end;
    plain = plain_nothing;
    base = omega arith;
  };
  begun = silent [] refl refl;
  counted = λ n m. elim m [ ];
}

pub opening : (id : Identity) (s : EndState) → s.role ≡ Acceptor → s.doubt ≡ None → EndStep id s act.Opened (opened_by s)
opening id s role none = record { certain = none; row = steps.opened (λ asking. absurd (never_asks s role asking)) }

-- the opening of a connection is a run of a lawful end
Begins-lawful : {T : Type 0} (old new : SessionSeen) (r : Result T BeginFault) (notes : List Note) → BeginsTo old r new notes → IsLawfulBegin old r new notes
Begins-lawful old new r notes (opened_to t) e h =
    leads_step old.identity e e (act.Now t) (act.Opened ∷ []) (MatchesConnected old.identity (begun old.connection t)) (record { certain = h.doubt; row = steps.now t }) (λ held k. k)
    (leads_step old.identity e (opened_by e) act.Opened [] (MatchesConnected old.identity (begun old.connection t)) (opening old.identity e h.numbers.role h.doubt) (λ held k. k)
    (leads_nowhere old.identity (opened_by e) (MatchesConnected old.identity (begun old.connection t)) (fits_opened old.identity old.connection t e h)))
Begins-lawful old new r notes no_memory e h = leads_nowhere old.identity e (IsCertain old.connection.state) h
Begins-lawful old new r notes (no_memory_to_open t) e h =
    leads_step old.identity e e (act.Now t) [] (IsCertain old.connection.state) (record { certain = h.doubt; row = steps.now t }) (λ held k. k) (leads_nowhere old.identity e (IsCertain old.connection.state) h)

pub begin_lawful : {T : Type 0} (old new : SessionSeen) (r : Result T BeginFault) (a b : OutsideSeen) → HasTrace a b (BeginsTo old r new) → HasTrace a b (IsLawfulBegin old r new)
begin_lawful old new r a b g = (g.0, g.1, Begins-lawful old new r g.0 g.2)

-- a session that isn't stopped is in step on the new connection
Begins-in_step : {T : Type 0} (old new : SessionSeen) (r : Result T BeginFault) (a b : OutsideSeen) (notes : List Note) → b.open_at ≡ a.open_at → Trace a b notes → BeginsTo old r new notes → IfNone new.stopped ((start : EndState) (before : List Act) → IsInStep start before a old → IsInStep start before b new)
Begins-in_step old new r a b notes same m (opened_to {x = x} t) =
    λ start before h. moved start before a b old (begun old.connection t) old.pending None notes (MatchesConnected old.identity (begun old.connection t)) m (same ∙ h.opens) (λ e f. step.connected f) h
    (Begins-lawful old new (Ok x) notes (opened_to t) h.to (beside_settled old.identity old.connection h.to h.beside))
Begins-in_step old new r a b notes same m no_memory = tt
Begins-in_step old new r a b notes same m (no_memory_to_open t) = tt

pub begin_in_step : {T : Type 0} (old new : SessionSeen) (r : Result T BeginFault) (a b : OutsideSeen) → b.open_at ≡ a.open_at → HasTrace a b (BeginsTo old r new) → IfNone new.stopped ((start : EndState) (before : List Act) → IsInStep start before a old → IsInStep start before b new)
begin_in_step old new r a b same g = Begins-in_step old new r a b g.0 same g.1 g.2

-- and from there on it is connected
Begins-connected : {T : Type 0} (old new : SessionSeen) (r : Result T BeginFault) (a b : OutsideSeen) (notes : List Note) → b.open_at ≡ a.open_at → Trace a b notes → BeginsTo old r new notes → IfNone new.stopped ((start : EndState) (before : List Act) (h : IsInStep start before a old) → (time : ℕ) × IsConnected h.to (before ++ h.acts ++ act.Now time ∷ []) b new)
Begins-connected old new r a b notes same m (opened_to t) =
    λ start before h.
    (let e = h.to in
    let settled = beside_settled old.identity old.connection e h.beside in (
      t,
      record {
        opened = opened_by e;
        opens = opening old.identity e settled.numbers.role settled.doubt;
        acts = [];
        ran = tt;
        to = opened_by e;
        run = steps.stop;
        fits = fits_opened old.identity old.connection t e settled;
        tape = subst (λ (w : List Act). IsTape b w) (again before h.acts t) (tape_moves a.tape b.tape (before ++ h.acts) (act.Now t ∷ act.Opened ∷ []) m.tape h.tape);
        stored = store_moves a.Holds b.Holds (act.Now t ∷ act.Opened ∷ []) e.end e.end m.stored (λ held s. s.2.2 ∙ s.2.1 ∙ s.1) h.stored;
        store_open = same ∙ h.opens;
        store = λ held s. s;
      },
    ))
  where
    again : (xs ys : List Act) (time : ℕ) → (xs ++ ys) ++ act.Now time ∷ act.Opened ∷ [] ≡ (xs ++ ys ++ act.Now time ∷ []) ++ act.Opened ∷ []
    again xs ys time = simp append_assoc
Begins-connected old new r a b notes same m no_memory = tt
Begins-connected old new r a b notes same m (no_memory_to_open t) = tt

pub begin_connected : {T : Type 0} (old new : SessionSeen) (r : Result T BeginFault) (a b : OutsideSeen) → b.open_at ≡ a.open_at → HasTrace a b (BeginsTo old r new) → IfNone new.stopped ((start : EndState) (before : List Act) (h : IsInStep start before a old) → (time : ℕ) × IsConnected h.to (before ++ h.acts ++ act.Now time ∷ []) b new)
begin_connected old new r a b same g = Begins-connected old new r a b g.0 same g.1 g.2

-- ---- the exits of `begin`

pub opened_lawful : (old : SessionSeen) (t : ℕ) (a b : OutsideSeen) → HasTrace a b (Opens (Ok t)) → HasTrace a b (IsLawfulBegin {T = ⊤} old (Ok tt) (seated old (begun old.connection t) old.pending None))
opened_lawful old t a b g = begin_lawful {T = ⊤} old (seated old (begun old.connection t) old.pending None) (Ok tt) a b (g.0, g.1, begins_ok old tt t g.0 g.2)

pub opened_in_step : (old : SessionSeen) (t : ℕ) (a b : OutsideSeen) → b.open_at ≡ a.open_at → HasTrace a b (Opens (Ok t)) → (start : EndState) (before : List Act) → IsInStep start before a old → IsInStep start before b (seated old (begun old.connection t) old.pending None)
opened_in_step old t a b same g = begin_in_step {T = ⊤} old (seated old (begun old.connection t) old.pending None) (Ok tt) a b same (g.0, g.1, begins_ok old tt t g.0 g.2)

pub opened_connected : (old : SessionSeen) (t : ℕ) (a b : OutsideSeen) → b.open_at ≡ a.open_at → HasTrace a b (Opens (Ok t)) → (start : EndState) (before : List Act) (h : IsInStep start before a old) → (time : ℕ) × IsConnected h.to (before ++ h.acts ++ act.Now time ∷ []) b (seated old (begun old.connection t) old.pending None)
opened_connected old t a b same g = begin_connected {T = ⊤} old (seated old (begun old.connection t) old.pending None) (Ok tt) a b same (g.0, g.1, begins_ok old tt t g.0 g.2)

pub not_opened_lawful : (old : SessionSeen) (fault : BeginFault) (a b : OutsideSeen) → HasTrace a b (Opens (Err fault)) → HasTrace a b (IsLawfulBegin {T = ⊤} old (Err fault) (stopped_for_memory old))
not_opened_lawful old fault a b g = begin_lawful {T = ⊤} old (stopped_for_memory old) (Err fault) a b (g.0, g.1, begins_err old fault g.0 g.2)

pub refused_lawful : (old : SessionSeen) (a : OutsideSeen) → HasTrace a a (IsLawfulBegin {T = ⊤} old (Err begins.OutOfMemory) (stopped_for_memory old))
refused_lawful old a = begin_lawful {T = ⊤} old (stopped_for_memory old) (Err begins.OutOfMemory) a a ([], Trace-nil a, no_memory)

-- ---- a session that was opened over a store

-- an end with nothing but what is stored
abbrev at_end : End → EndState
at_end e = record { role = Acceptor; end = e; expected = e.stored; handled = []; doubt = None; beside = []; offered = None; connection = None }

-- the tape, where it is told
pub tape_of : (tape : Option (List Act)) → (before : List Act) × IfSome tape (λ acts. acts ≡ before)
tape_of None = ([], tt)
tape_of (Some acts) = (acts, refl)

at_end_in_step : (id : Identity) (stored : Stored) (w : OutsideSeen) (e : End) → IsStoredOf stored e → ((x : End) → w.Holds x → x ≡ e) → w.open_at ≡ Some stored.last → (start : EndState) × (before : List Act) × IsInStep start before w (opened_session id stored)
at_end_in_step id stored w e numbers all opens =
    let told = tape_of w.tape in (
      at_end e,
      told.0,
      record {
        acts = [];
        to = at_end e;
        run = steps.stop;
        beside = step.down refl (record { doubt = refl; numbers = record { expected = sym numbers.expected; stored = sym numbers.expected; out = sym numbers.last; role = refl } });
        tape = subst (λ (acts : List Act). IsTape w acts) (sym (append-nil told.0)) told.1;
        stored = all;
        opens = opens;
      },
    )

-- some end with these numbers
numbered_end : Stored → End
numbered_end stored = record { out = replicate stored.last (Admin 0 48 0); stored = stored.expected; since = stored.since; withheld = []; asked = stored.asked }

numbered_is : (stored : Stored) → IsStoredOf stored (numbered_end stored)
unfolding numbered_end
numbered_is stored = record { last = sym (length-replicate stored.last (Admin 0 48 0)); expected = refl; since = refl; asked = refl }

-- what a store tells behind a load is what it told before
loaded_same : (a b : OutsideSeen) → HoldsOn a.Holds b.Holds (act.Stop ∷ []) → (e : End) → b.Holds e → (x : End) × a.Holds x × (e ≡ x)
loaded_same a b moves e h = let was = moves.only e h in (was.0, was.1, some_end e was.0 (was.2.2 ∙ was.2.1))

pub loaded_stands : (id : Identity) (stored : Stored) (a b : OutsideSeen) → IsLoaded stored a → Trace a b (Did act.Stop ∷ []) → b.open_at ≡ Some stored.last → IsInStepSinceSome b (opened_session id stored)
loaded_stands id stored a b loaded m opens = record { opens = opens; stands = map_sure by_case (decided ((e : End) × b.Holds e)) }
  where
    by_case : ((e : End) × b.Holds e) ⊎ ((e : End) × b.Holds e → ⊥) → (start : EndState) × (before : List Act) × IsInStep start before b (opened_session id stored)
    by_case (inl known) =
        let was = loaded_same a b m.stored known.0 known.1 in
        at_end_in_step id stored b known.0 (subst (IsStoredOf stored) (sym was.2) (loaded.told was.0 was.1))
        (λ x h. (let had = loaded_same a b m.stored x h in had.2 ∙ loaded.one had.0 was.0 had.1 was.1 ∙ sym was.2)) opens
    by_case (inr never) = at_end_in_step id stored b (numbered_end stored) (numbered_is stored) (λ x h. absurd (never (x, h))) opens

-- a session that is in step with some start stays so
pub stands_on : (a b : OutsideSeen) (old new : SessionSeen) → b.open_at ≡ Some new.connection.state.last → ((start : EndState) (before : List Act) → IsInStep start before a old → IsInStep start before b new) → IsInStepSinceSome a old → IsInStepSinceSome b new
stands_on a b old new opens keeps h = record { opens = opens; stands = map_sure (λ x. (x.0, x.1, keeps x.0 x.1 x.2)) h.stands }

pub opened_stands : (old : SessionSeen) (t : ℕ) (a b : OutsideSeen) → b.open_at ≡ a.open_at → HasTrace a b (Opens (Ok t)) → IsInStepSinceSome a old → IsInStepSinceSome b (seated old (begun old.connection t) old.pending None)
opened_stands old t a b same g h = stands_on a b old (seated old (begun old.connection t) old.pending None) (same ∙ h.opens) (opened_in_step old t a b same g) h

pub run_stands : (n : ℕ) (session : SessionSeen) (r : Result ⊤ Ending) (to : ConnectionSeen) (pending : PendingDraft) (old new : OutsideSeen) → session.connection.state.phase ≢ Down → new.open_at ≡ open_behind r to.state → HasTrace old new (λ notes. RunAndCut session.identity n (turn_of session) notes r (turn_seen to pending)) → IsInStepSinceSome old session → IfNone (stop_cause (run_end r)) (IsInStepSinceSome new (seated session to pending (stop_cause (run_end r))))
run_stands n session r to pending old new is_open opens g h =
    if_none (stop_cause (run_end r)) (IsInStepSinceSome new (seated session to pending (stop_cause (run_end r))))
    (λ none. stands_on old new session (seated session to pending (stop_cause (run_end r))) (opens ∙ open_unstopped r to.state none)
    (λ start before k. moved start before old new session to pending (stop_cause (run_end r)) g.0 (After session.identity (run_end r) to) g.1 (opens ∙ open_unstopped r to.state none) (λ e q. after_beside session.identity r to e none q) k
    (RunAndCut-lawful session.identity n (turn_of session) g.0 r (turn_seen to pending) g.2 k.to (beside_fits session.identity session.connection k.to is_open k.beside))) h)

-- ---- what is left of a session that stopped

pub trail : (start : EndState) (before : List Act) (old new : OutsideSeen) (session : SessionSeen) (to : ConnectionSeen) (pending : PendingDraft) (stopped : Option StopCause) (notes : List Note) (P : EndState → Type 0) → Trace old new notes → ((e : EndState) → P e → HasNumbers to.state e) → (h : IsInStep start before old session) → LawfulRunTo session.identity h.to (acts_of notes) P → CanRestart start before new (seated session to pending stopped)
trail start before old new session to pending stopped notes P m numbers h l = record {
  acts = h.acts ++ acts_of notes;
  to = l.to;
  run = EndRun-append h.run l.run;
  numbers = numbers l.to l.holds;
  tape = subst (λ acts. IsTape new acts) (append_assoc before h.acts (acts_of notes)) (tape_moves old.tape new.tape (before ++ h.acts) (acts_of notes) m.tape h.tape);
  held = told_holds old.Holds new.Holds (acts_of notes) h.to.end (IsStoredOrInDoubt l.to.doubt l.to.end) m.stored l.store h.stored;
}

after_numbers : (id : Identity) (r : Result ⊤ Ending) (to : ConnectionSeen) (e : EndState) → After id (run_end r) to e → HasNumbers to.state e
after_numbers id (Ok x) to e h = h.on.settled.numbers
after_numbers id (Err (ending.Closed why)) to e h = h.settled.numbers
after_numbers id (Err (ending.NotBuilt n)) to e h = h.settled.numbers
after_numbers id (Err ending.LinkFault) to e h = h.settled.numbers
after_numbers id (Err ending.AppFault) to e h = h.settled.numbers
after_numbers id (Err ending.NumbersSpent) to e h = h.settled.numbers
after_numbers id (Err ending.StoreFault) to e h = h.numbers
after_numbers id (Err ending.OutOfMemory) to e h = h.numbers

pub run_trails : (n : ℕ) (session : SessionSeen) (r : Result ⊤ Ending) (to : ConnectionSeen) (pending : PendingDraft) (stopped : Option StopCause) (old new : OutsideSeen) → session.connection.state.phase ≢ Down → HasTrace old new (λ notes. RunAndCut session.identity n (turn_of session) notes r (turn_seen to pending)) → (start : EndState) (before : List Act) → IsInStep start before old session → CanRestart start before new (seated session to pending stopped)
run_trails n session r to pending stopped old new is_open g start before h =
    trail start before old new session to pending stopped g.0 (After session.identity (run_end r) to) g.1 (after_numbers session.identity r to) h
    (RunAndCut-lawful session.identity n (turn_of session) g.0 r (turn_seen to pending) g.2 h.to (beside_fits session.identity session.connection h.to is_open h.beside))

begins_numbers : {T : Type 0} (id : Identity) (r : Result T BeginFault) (to : ConnectionSeen) (e : EndState) → AfterBegin id r to e → HasNumbers to.state e
begins_numbers id (Ok x) to e h = h.on.settled.numbers
begins_numbers id (Err begins.OutOfMemory) to e h = h.numbers
begins_numbers id (Err (begins.Stopped why)) to e h = absurd h

begin_trails : {T : Type 0} (old : SessionSeen) (to : ConnectionSeen) (stopped : Option StopCause) (r : Result T BeginFault) (a b : OutsideSeen) → HasTrace a b (IsLawfulBegin old r (seated old to old.pending stopped)) → (start : EndState) (before : List Act) → IsInStep start before a old → CanRestart start before b (seated old to old.pending stopped)
begin_trails old to stopped r a b g start before h =
    trail start before a b old to old.pending stopped g.0 (AfterBegin old.identity r to) g.1 (begins_numbers old.identity r to) h
    (g.2 h.to (beside_settled old.identity old.connection h.to h.beside))

pub opened_trails : (old : SessionSeen) (t : ℕ) (a b : OutsideSeen) → HasTrace a b (Opens (Ok t)) → (start : EndState) (before : List Act) → IsInStep start before a old → CanRestart start before b (seated old (begun old.connection t) old.pending None)
opened_trails old t a b g = begin_trails {T = ⊤} old (begun old.connection t) None (Ok tt) a b (opened_lawful old t a b g)

pub not_opened_trails : (old : SessionSeen) (fault : BeginFault) (a b : OutsideSeen) → HasTrace a b (Opens (Err fault)) → (start : EndState) (before : List Act) → IsInStep start before a old → CanRestart start before b (stopped_for_memory old)
not_opened_trails old fault a b g = begin_trails {T = ⊤} old old.connection (Some stops.OutOfMemory) (Err fault) a b (not_opened_lawful old fault a b g)

pub refused_trails : (old : SessionSeen) (a : OutsideSeen) (start : EndState) (before : List Act) → IsInStep start before a old → CanRestart start before a (stopped_for_memory old)
refused_trails old a = begin_trails {T = ⊤} old old.connection (Some stops.OutOfMemory) (Err begins.OutOfMemory) a a (refused_lawful old a)

-- ---- a session whose store is opened again

-- whatever a stop left, the session goes on in step
pub again_in_step : (old : SessionSeen) (stored : Stored) (a b : OutsideSeen) → IsLoaded stored a → Trace a b (Did act.Stop ∷ []) → b.open_at ≡ Some stored.last → (start : EndState) (before : List Act) (e : End) → a.Holds e → CanRestart start before a old → IsInStep start before b (reopened_session old stored)
again_in_step old stored a b loaded m opens start before e holds t =
    let r = restarts_at old.identity stored t.to e t.numbers.role (t.held e holds) (loaded.told e holds) in
    record {
      acts = t.acts ++ act.Stop ∷ [];
      to = r.to;
      run = EndRun-append t.run r.run;
      beside = step.down refl r.certain;
      tape = subst (λ acts. IsTape b acts) (append_assoc before t.acts (act.Stop ∷ [])) (tape_moves a.tape b.tape (before ++ t.acts) (act.Stop ∷ []) m.tape t.tape);
      stored = λ x h.
          (let had = loaded_same a b m.stored x h in
          had.2 ∙ loaded.one had.0 e had.1 holds ∙ r.is);
      opens = opens;
    }

pub again_stands : (old : SessionSeen) (stored : Stored) (a b : OutsideSeen) → IsLoaded stored a → Trace a b (Did act.Stop ∷ []) → b.open_at ≡ Some stored.last → IsInStepSinceSome b (reopened_session old stored)
again_stands old stored a b loaded m opens =
    let h = loaded_stands old.identity stored a b loaded m opens in
    record {
      opens = opens;
      stands = map_sure (λ x. (
        x.0,
        x.1,
        record {
          acts = x.2.acts;
          to = x.2.to;
          run = x.2.run;
          beside = step.down refl (beside_settled old.identity (opened_session old.identity stored).connection x.2.to x.2.beside);
          tape = x.2.tape;
          stored = x.2.stored;
          opens = opens;
        },
      )) h.stands;
    }

-- a refusal leaves what was left
pub refused_trail : (old : SessionSeen) (fault : LoadFault) (stopped : Option StopCause) (a b : OutsideSeen) → Trace a b (loads {T = Stored} (Err fault)) → (start : EndState) (before : List Act) → CanRestart start before a old → CanRestart start before b (seated old old.connection old.pending stopped)
refused_trail old fault stopped a b m start before t = record {
  acts = t.acts;
  to = t.to;
  run = t.run;
  numbers = t.numbers;
  tape = subst (λ acts. IsTape b acts) (append-nil (before ++ t.acts)) (tape_moves a.tape b.tape (before ++ t.acts) [] (m.tape ∙ ap (grown a.tape) (no_acts fault)) t.tape);
  held = λ e h. (let had = still e h in subst (λ x. IsStoredOrInDoubt t.to.doubt t.to.end (Some x)) (sym had.2) (t.held had.0 had.1));
}
  where
    no_acts : (f : LoadFault) → acts_of (loads {T = Stored} (Err f)) ≡ []
    no_acts load.Failed = refl
    no_acts (load.Damaged place) = refl
    no_acts load.OutOfMemory = refl

    nothing : HoldsOn a.Holds b.Holds []
    nothing = subst (HoldsOn a.Holds b.Holds) (no_acts fault) m.stored

    still : (e : End) → b.Holds e → (x : End) × a.Holds x × (e ≡ x)
    still e h = let was = nothing.only e h in (was.0, was.1, some_end e was.0 was.2)
