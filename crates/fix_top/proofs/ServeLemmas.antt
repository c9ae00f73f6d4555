-- What opening, begin and the run come to, together.
use Rattle.std.proofs.Common.{◌≡◌, ◌≢◌, inl, inr, ℕ, List, [], ◌∷◌, ◌++◌, Option, Some, None, IfNone, IfSome, Result, Ok, Err, refl, sym, ap, ◌∙◌, subst, arith}
use Rattle.std.specs.Prelude.{⊤}
use Rattle.fix_base.specs.declared.identity.Identity.{Identity}
use Rattle.fix_base.specs.declared.entry.Stored.{Stored}
use Rattle.fix_base.specs.End.{End}
use Rattle.fix_base.specs.declared.act.Act.{Act}
use Rattle.fix_base.specs.declared.act.Act.TheVariants as act
use Rattle.fix_base.specs.EndStep as steps
use Rattle.fix_base.specs.EndStep.{Acceptor, EndState, EndRun}
use Rattle.fix_base.specs.Trace.{Faults, Counts, Note, Did, Stores, acts_of, OutsideSeen, HoldsOn, Trace, HasTrace}
use Rattle.fix_base.proofs.SeenLemmas.{Trace-append}
use Rattle.fix_base.proofs.RunLemmas.{EndRun-append}
use Rattle.fix_engine.specs.declared.stop.RunEnd.{RunEnd}
use Rattle.fix_engine.specs.declared.stop.RunEnd.TheVariants as run
use Rattle.fix_engine.specs.declared.stop.BeginFault.{BeginFault}
use Rattle.fix_engine.specs.declared.state.Why.TheVariants.{PeerEnd, LoggedOut, Refused}
use Rattle.fix_outside.specs.declared.outside.LoadFault.{LoadFault}
use Rattle.fix_outside.specs.declared.outside.LoadFault.TheVariants as load
use Rattle.fix_engine.specs.declared.state.Phase.TheVariants.{Down}
use Rattle.fix_engine.specs.Turn.{TurnSeen, no_draft}
use Rattle.fix_outside.specs.Outside.{LoadAnswers, IsLoaded}
use Rattle.fix_engine.specs.declared.stop.StopCause.{StopCause}
use Rattle.fix_engine.specs.Run as seats
use Rattle.fix_engine.specs.Run.{SessionSeen, turn_of, opened_session, OpensTo, from_stored, no_store, BeginsTo, opened_to, no_memory, no_memory_to_open, ReopensTo, RunsTo, RunHasCause}
use Rattle.fix_engine.specs.Lawful.{IsStoredOrInDoubt}
use Rattle.fix_engine.specs.Restart.{StartsAt, NumbersTell}
use Rattle.fix_engine.proofs.RestartLemmas.{restarts, restarts_at}
use Rattle.fix_engine.proofs.ServesLemmas.{begun_opens, begun_serves}
use Rattle.fix_top.specs.Serve.{status_of, load_status, Served, not_made, not_opened, not_begun, ran, HoldsStill, IsServedFrom, ServedLawfully, not_started, not_loaded, only_loaded, not_connected, served, StatusHasCause}

-- a connection that was begun, and the run on it
begun-ran : (id : Identity) (turns : ℕ) (a b c d : OutsideSeen) (stored : Stored) (second : List Note) (x : ⊤) (to : SessionSeen) (answer : RunEnd) (after : TurnSeen) → IsLoaded stored a → Trace a b (Did act.Stop ∷ []) → Trace b c second → BeginsTo (opened_session id stored) (Ok x) to second → IfNone to.stopped (HasTrace c d (RunsTo to.identity turns (turn_of to) answer after)) → HasTrace a d (Served id turns a (status_of answer))
begun-ran id turns a b c d stored second x to answer after told m k (opened_to t) g = (Did act.Stop ∷ second ++ g.0, Trace-append a b d (Did act.Stop ∷ []) (second ++ g.0) m (Trace-append b c d second g.0 k g.1), ran stored told (opened_to t) g.2)

-- a session that was opened, a connection that was begun, and the run on it
pub opened-begun-ran : (id : Identity) (turns : ℕ) (a b c d : OutsideSeen) (loaded : Result Stored LoadFault) (session : SessionSeen) (first : List Note) (x : ⊤) (to : SessionSeen) (answer : RunEnd) (after : TurnSeen) → LoadAnswers loaded a → Trace a b first → OpensTo id (Ok session) loaded first → IfNone session.stopped (HasTrace b c (BeginsTo session (Ok x) to)) → IfNone to.stopped (HasTrace c d (RunsTo to.identity turns (turn_of to) answer after)) → HasTrace a d (Served id turns a (status_of answer))
opened-begun-ran id turns a b c d loaded session first x to answer after told m (from_stored stored) begun h = begun-ran id turns a b c d stored begun.0 x to answer after told m begun.1 begun.2 h

pub opened-not_begun : (id : Identity) (turns : ℕ) (a b c : OutsideSeen) (loaded : Result Stored LoadFault) (session : SessionSeen) (first : List Note) (e : BeginFault) (to : SessionSeen) → LoadAnswers loaded a → Trace a b first → OpensTo id (Ok session) loaded first → IfNone session.stopped (HasTrace b c (BeginsTo {T = ⊤} session (Err e) to)) → HasTrace a c (Served id turns a 9)
opened-not_begun id turns a b c loaded session first e to told m (from_stored stored) begun = (Did act.Stop ∷ begun.0, Trace-append a b c (Did act.Stop ∷ []) begun.0 m begun.1, not_begun stored told begun.2)

pub not-opened : (id : Identity) (turns : ℕ) (a b : OutsideSeen) (loaded : Result Stored LoadFault) (fault : LoadFault) (notes : List Note) → LoadAnswers loaded a → Trace a b notes → OpensTo id (Err fault) loaded notes → HasTrace a b (Served id turns a (load_status fault))
not-opened id turns a b loaded fault notes told m (no_store f) = (notes, m, not_opened f told)

-- calls that keep nothing leave what is held
holds_still : (was holds : End → Type 0) (acts : List Act) → HoldsOn was holds acts → ((e e' : End) → Stores acts (Some e) (Some e') → e' ≡ e) → HoldsStill was holds
holds_still was holds acts moves same start h held now =
    let had = moves.only held now in
    subst (λ (e : End). IsStoredOrInDoubt start.doubt start.end (Some e)) (sym (same had.0 held had.2)) (h had.0 had.1)

some_end : (a b : End) → Some a ≡ Some b → a ≡ b
some_end a b e = cc

-- what comes of serving a connection over a store is lawful, and stored
Served-lawful : (id : Identity) (turns status : ℕ) (notes : List Note) (a : OutsideSeen) (holds : End → Type 0) → HoldsOn a.Holds holds (acts_of notes) → Served id turns a status notes → ServedLawfully id a.Holds holds status (acts_of notes)
Served-lawful id turns status notes a holds stores not_made = not_started (holds_still a.Holds holds [] stores (λ e e' s. some_end e' e s))
Served-lawful id turns status notes a holds stores (not_opened load.Failed told) = not_loaded load.Failed (holds_still a.Holds holds [] stores (λ e e' s. some_end e' e s))
Served-lawful id turns status notes a holds stores (not_opened (load.Damaged place) told) = not_loaded (load.Damaged place) (holds_still a.Holds holds [] stores (λ e e' s. some_end e' e s))
Served-lawful id turns status notes a holds stores (not_opened load.OutOfMemory told) = not_loaded load.OutOfMemory (holds_still a.Holds holds [] stores (λ e e' s. some_end e' e s))
Served-lawful id turns status notes a holds stores (not_begun stored numbers no_memory) = only_loaded (holds_still a.Holds holds (act.Stop ∷ []) stores (λ e e' s. some_end e' e (s.2 ∙ s.1)))
Served-lawful id turns status notes a holds stores (not_begun stored numbers (no_memory_to_open t)) = not_connected t (holds_still a.Holds holds (act.Stop ∷ act.Now t ∷ []) stores (λ e e' s. some_end e' e (s.2.2 ∙ s.2.1 ∙ s.1)))
Served-lawful id turns status notes a holds stores (ran {to = to} {answer = answer} {more = more} stored numbers (opened_to t) r) = served t stored numbers.told from over
  where
    from : (start : EndState) → StartsAt stored start → IsServedFrom id a.Holds holds answer to.connection t (acts_of more) start (NumbersTell start)
    from start starts =
        let again = restarts id stored start starts in
        let l = (opened_session id stored).connection in
        let h = begun_serves id turns l no_draft t answer to more r again.to again.certain in
        record {
          again = again.to;
          restarts = EndRun-append again.run (steps.step (record { certain = again.certain.doubt; row = steps.now t }) steps.stop);
          at = _;
          opens = begun_opens id l again.to again.certain;
          served = h;
          held = λ tell first held now.
              (let had = stores.only held now in
              let s = had.2 in
              let is = again.held tell had.0 (first had.0 had.1) (numbers.told had.0 had.1) in
              h.store (Some held) (subst (λ o. Stores (acts_of more) o (Some held)) (s.2.2.1 ∙ s.2.1 ∙ s.1 ∙ ap Some is) s.2.2.2));
        }

    -- over the end that the store told
    over : (start : EndState) (e : End) → a.Holds e → start.role ≡ Acceptor → IsStoredOrInDoubt start.doubt start.end (Some e) → IsServedFrom id a.Holds holds answer to.connection t (acts_of more) start ⊤
    over start e known role may =
        let again = restarts_at id stored start e role may (numbers.told e known) in
        let l = (opened_session id stored).connection in
        let h = begun_serves id turns l no_draft t answer to more r again.to again.certain in
        record {
          again = again.to;
          restarts = EndRun-append again.run (steps.step (record { certain = again.certain.doubt; row = steps.now t }) steps.stop);
          at = _;
          opens = begun_opens id l again.to again.certain;
          served = h;
          held = λ tell first held now.
              (let had = stores.only held now in
              let s = had.2 in
              let is = numbers.one had.0 e had.1 known ∙ again.is in
              h.store (Some held) (subst (λ o. Stores (acts_of more) o (Some held)) (s.2.2.1 ∙ s.2.1 ∙ s.1 ∙ ap Some is) s.2.2.2));
        }

-- the same of the calls between two moments
pub serves-lawfully : (id : Identity) (turns status : ℕ) (a b : OutsideSeen) → HasTrace a b (Served id turns a status) → HasTrace a b (λ notes. ServedLawfully id a.Holds b.Holds status (acts_of notes))
serves-lawfully id turns status a b g = (g.0, g.1, Served-lawful id turns status g.0 a b.Holds g.1.stored g.2)

-- a part is blamed behind the opening of a connection only where its count rose
answer_cause : (answer : RunEnd) (a b : OutsideSeen) (mid : Faults) (notes : List Note) → Counts a.faults mid notes → RunHasCause answer mid b.faults → StatusHasCause (status_of answer) a b
answer_cause run.StoreFault a b mid notes m h = record { store = λ e. inl (omega (arith, h, m.store)); link = λ e. omega (arith, e); app = λ e. omega (arith, e) }
answer_cause run.LinkFault a b mid notes m h = record { store = λ e. absurd (omega (arith, e)); link = λ e. omega (arith, h, m.link); app = λ e. omega (arith, e) }
answer_cause run.AppFault a b mid notes m h = record { store = λ e. absurd (omega (arith, e)); link = λ e. omega (arith, e); app = λ e. omega (arith, h, m.app) }
answer_cause run.TurnsSpent a b mid notes m h = record { store = λ e. absurd (omega (arith, e)); link = λ e. omega (arith, e); app = λ e. omega (arith, e) }
answer_cause (run.Closed (LoggedOut n)) a b mid notes m h = record { store = λ e. absurd (omega (arith, e)); link = λ e. omega (arith, e); app = λ e. omega (arith, e) }
answer_cause (run.Closed PeerEnd) a b mid notes m h = record { store = λ e. absurd (omega (arith, e)); link = λ e. omega (arith, e); app = λ e. omega (arith, e) }
answer_cause (run.Closed (Refused n cause)) a b mid notes m h = record { store = λ e. absurd (omega (arith, e)); link = λ e. omega (arith, e); app = λ e. omega (arith, e) }
answer_cause run.OutOfMemory a b mid notes m h = record { store = λ e. absurd (omega (arith, e)); link = λ e. omega (arith, e); app = λ e. omega (arith, e) }
answer_cause (run.NotBuilt n) a b mid notes m h = record { store = λ e. absurd (omega (arith, e)); link = λ e. omega (arith, e); app = λ e. omega (arith, e) }
answer_cause run.NumbersSpent a b mid notes m h = record { store = λ e. absurd (omega (arith, e)); link = λ e. omega (arith, e); app = λ e. omega (arith, e) }
answer_cause (run.Stopped cause) a b mid notes m h = record { store = λ e. absurd (omega (arith, e)); link = λ e. omega (arith, e); app = λ e. omega (arith, e) }

begun_cause : (id : Identity) (a b c d : OutsideSeen) (stored : Stored) (second : List Note) (x : ⊤) (to : SessionSeen) (answer : RunEnd) → Trace a b (Did act.Stop ∷ []) → Trace b c second → BeginsTo (opened_session id stored) (Ok x) to second → IfNone to.stopped (RunHasCause answer c.faults d.faults) → StatusHasCause (status_of answer) a d
begun_cause id a b c d stored second x to answer m k (opened_to t) h = answer_cause answer a d c.faults (Did act.Stop ∷ second) (Trace-append a b c (Did act.Stop ∷ []) second m k).faults h

pub ran_cause : (id : Identity) (a b c d : OutsideSeen) (loaded : Result Stored LoadFault) (session : SessionSeen) (first : List Note) (x : ⊤) (to : SessionSeen) (answer : RunEnd) → Trace a b first → OpensTo id (Ok session) loaded first → IfNone session.stopped (HasTrace b c (BeginsTo session (Ok x) to)) → IfNone to.stopped (RunHasCause answer c.faults d.faults) → StatusHasCause (status_of answer) a d
ran_cause id a b c d loaded session first x to answer m (from_stored stored) begun h = begun_cause id a b c d stored begun.0 x to answer m begun.1 begun.2 h

-- the store is blamed where it failed, or its file is none
pub load_causes : (id : Identity) (fault : LoadFault) (a b : OutsideSeen) (loaded : Result Stored LoadFault) (notes : List Note) → LoadAnswers loaded a → Trace a b notes → OpensTo id (Err fault) loaded notes → StatusHasCause (load_status fault) a b
load_causes id load.Failed a b loaded notes told m (no_store f) = record { store = λ e. inl m.faults.store; link = λ e. omega (arith, e); app = λ e. omega (arith, e) }
load_causes id (load.Damaged place) a b loaded notes told m (no_store f) = record { store = λ e. inr (λ t. (place, told t)); link = λ e. omega (arith, e); app = λ e. omega (arith, e) }
load_causes id load.OutOfMemory a b loaded notes told m (no_store f) = record { store = λ e. absurd (omega (arith, e)); link = λ e. omega (arith, e); app = λ e. omega (arith, e) }

-- want of memory blames no part
pub memory_cause : (a b : OutsideSeen) → StatusHasCause 9 a b
memory_cause a b = record { store = λ e. absurd (omega (arith, e)); link = λ e. omega (arith, e); app = λ e. omega (arith, e) }

-- a session that was just opened has no connection
pub opened_down : (id : Identity) (session : SessionSeen) (loaded : Result Stored LoadFault) (notes : List Note) → OpensTo id (Ok session) loaded notes → IfNone session.stopped (session.connection.state.phase ≡ Down)
opened_down id session loaded notes (from_stored stored) = refl

-- what is said of a session that goes on, or of one that is stopped
pub if_goes : (P : Type 0) (stopped : Option StopCause) → stopped ≡ None → P → IfNone stopped P
if_goes P None e p = p
if_goes P (Some why) e p = absurd (cc)

pub then_goes : (P : Type 0) (stopped : Option StopCause) → stopped ≡ None → IfNone stopped P → P
then_goes P None e p = p
then_goes P (Some why) e p = absurd (cc)

pub if_stopped : (P : Type 0) (stopped : Option StopCause) (why : StopCause) → stopped ≡ Some why → IfNone stopped P
if_stopped P None why e = absurd (cc)
if_stopped P (Some x) why e = tt

pub then_stopped : (P : Type 0) (stopped : Option StopCause) (why : StopCause) → stopped ≡ Some why → IfSome stopped (λ x. P) → P
then_stopped P None why e p = absurd (cc)
then_stopped P (Some x) why e p = p

-- a session that began a connection goes on, and waits for a Logon
begun_free : (old : SessionSeen) (x : ⊤) (to : SessionSeen) (notes : List Note) → BeginsTo old (Ok x) to notes → to.stopped ≡ None
begun_free old x to notes (opened_to t) = refl

begun_waits : (old : SessionSeen) (x : ⊤) (to : SessionSeen) (notes : List Note) → BeginsTo old (Ok x) to notes → to.connection.state.phase ≢ Down
begun_waits old x to notes (opened_to t) = λ e. cc

pub began_goes : (old : SessionSeen) (b c : OutsideSeen) (x : ⊤) (to : SessionSeen) → old.stopped ≡ None → IfNone old.stopped (HasTrace b c (BeginsTo old (Ok x) to)) → to.stopped ≡ None
began_goes old b c x to free begins = let g = then_goes (HasTrace b c (BeginsTo old (Ok x) to)) old.stopped free begins in begun_free old x to g.0 g.2

pub began_up : (old : SessionSeen) (b c : OutsideSeen) (x : ⊤) (to : SessionSeen) → old.stopped ≡ None → IfNone old.stopped (HasTrace b c (BeginsTo old (Ok x) to)) → to.connection.state.phase ≢ Down
began_up old b c x to free begins = let g = then_goes (HasTrace b c (BeginsTo old (Ok x) to)) old.stopped free begins in begun_waits old x to g.0 g.2

pub opened_goes : (id : Identity) (session : SessionSeen) (loaded : Result Stored LoadFault) (notes : List Note) → OpensTo id (Ok session) loaded notes → session.stopped ≡ None
opened_goes id session loaded notes (from_stored stored) = refl

-- a session that was opened again goes on, and has no connection
pub reopened_goes : (old : SessionSeen) (x : ⊤) (loaded : Result Stored LoadFault) (to : SessionSeen) (notes : List Note) → ReopensTo old (Ok x) loaded to notes → to.stopped ≡ None
reopened_goes old x loaded to notes (seats.again stored) = refl

pub reopened_down : (old : SessionSeen) (x : ⊤) (loaded : Result Stored LoadFault) (to : SessionSeen) (notes : List Note) → ReopensTo old (Ok x) loaded to notes → to.connection.state.phase ≡ Down
reopened_down old x loaded to notes (seats.again stored) = refl
