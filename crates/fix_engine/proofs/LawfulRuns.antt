-- A run of the engine is a run of a lawful end.
use Rattle.std.proofs.Common.{◌≡◌, ℕ, List, [], ◌∷◌, true, false, Some, None, Result, Ok, Err, refl, sym, replicate}
use Rattle.std.specs.Prelude.{⊤}
use Rattle.fix_base.specs.declared.identity.Identity.{Identity}
use Rattle.fix_base.specs.declared.entry.Record.TheVariants.{Expect}
use Rattle.fix_base.specs.declared.act.Act.TheVariants as act
use Rattle.fix_base.specs.EndStep as steps
use Rattle.fix_base.specs.EndStep.{EndState}
use Rattle.fix_base.specs.Trace.{Note, Did, acts_of, OutsideSeen, HasTrace}
use Rattle.fix_engine.specs.State.{State, Down, Ending, with_phase, with_stored_expected, with_reading}
use Rattle.fix_engine.specs.declared.state.Ending.TheVariants as ending
use Rattle.fix_engine.specs.Fold.{Each, none, ends, goes, AndThen, first_ends, both}
use Rattle.fix_engine.specs.Reading as turn
use Rattle.fix_engine.specs.Reading.{ConnectionSeen, connection_seen, fed, AnswerFrames, Feed, ReadFrames, ReadClock, StoreExpected, down}
use Rattle.fix_engine.specs.Turn as turns
use Rattle.fix_engine.specs.Turn.{TurnSeen, OfferDraft, Beside, SendReadClock, Turn, OneTurn, RunAndCut}
use Rattle.fix_engine.specs.Faults.{settles_of, is_cut_of, run_end}
use Rattle.fix_engine.specs.Lawful as lawful
use Rattle.fix_engine.specs.Lawful.{IsCertain, MatchesConnected, MatchesDown, IsLost, IsInDoubt, LawfulRunTo, After, IsLawfulRun}
use Rattle.fix_engine.proofs.LeadsLemmas.{certain_settled, settled_phase, lost_down, leads_nowhere, leads_step, leads_lost, leads_on, leads_weaker}
use Rattle.fix_engine.proofs.ReadLemmas.{read_none}
use Rattle.fix_engine.proofs.LogonLemmas.{begun_none, begun_bytes}
use Rattle.fix_engine.proofs.OnLemmas.{connected, settled_connected, on_state, reading, on_read, on_place, keeping, settled_kept, on_kept}
use Rattle.fix_engine.proofs.LawfulSteps.{BehindEnd, Behind, Triple, HasNoDoubt}
use Rattle.fix_engine.proofs.LawfulAnswers.{handled_leads}
use Rattle.fix_engine.proofs.DraftLeads.{state_at, FitsAt, offered_leads}

abbrev state_of : ConnectionSeen → State
state_of l = l.state

certain_fits : (id : Identity) (l : ConnectionSeen) (e : EndState) → MatchesConnected id l e → e.doubt ≡ None
certain_fits id l e f = f.on.settled.doubt

-- ---- what is read

taken_leads : (id : Identity) → Triple id state_of (MatchesConnected id) (AnswerFrames id) (MatchesConnected id)
taken_leads id l notes r to (turn.no_more {s = s} {a = a} {b = b} gives) e f =
    leads_nowhere id e (MatchesConnected id (connection_seen s b)) (record { connection = f.connection; on = on_place id s a b f.connection e (read_none f.connection.read a b gives f.on.read) f.on; begun = begun_none f.connection.read a b s.phase gives f.begun; counted = f.counted })
taken_leads id l notes r to (turn.ends {s = s} {s' = s'} {a = a} {b = b} {e = end} frame gives h) e f = handled_leads id s s' a b frame notes (Err end) gives h e f
taken_leads id l notes r to (turn.goes {s = s} {mid = mid} {a = a} {b = b} {first = first} {more = more} frame gives h others) e f =
    leads_on id e first more (MatchesConnected id (connection_seen mid b)) (Behind (MatchesConnected id to) r to.state) (certain_fits id (connection_seen mid b)) (handled_leads id s mid a b frame first (Ok tt) gives h e f) (λ m q. taken_leads id (connection_seen mid b) more r to others m q)

fed_leads : (id : Identity) (b : List ℕ) (l : ConnectionSeen) (notes : List Note) (r : Result ⊤ Ending) (to : ConnectionSeen) → Feed id b l notes r to → (e : EndState) → MatchesConnected id l e → LawfulRunTo id e (act.Read b ∷ acts_of notes) (Behind (MatchesConnected id to) r to.state)
fed_leads id b l notes r to (turn.fed_frames d) e f =
    let c = f.connection in
    let mid = connected e (reading c b) in
    let g : MatchesConnected id (connection_seen l.state (fed l.unread b)) mid = record { connection = reading c b; on = on_read id l c e b f.on; begun = begun_bytes c.read b l.unread l.state.phase f.begun; counted = f.counted } in
    leads_step id e mid (act.Read b) (acts_of notes) (Behind (MatchesConnected id to) r to.state) (record { certain = f.on.settled.doubt; row = steps.read b c f.on.is_open }) (λ held h. h) (taken_leads id (connection_seen l.state (fed l.unread b)) notes r to d mid g)
fed_leads id b l notes r to turn.fed_memory e f =
    let c = f.connection in
    let mid = connected e (reading c b) in
    leads_step id e mid (act.Read b) [] (IsCertain l.state) (record { certain = f.on.settled.doubt; row = steps.read b c f.on.is_open }) (λ held h. h) (leads_nowhere id mid (IsCertain l.state) (settled_connected l.state e (reading c b) f.on.settled))

heard_leads : (id : Identity) → Triple id state_of (MatchesConnected id) (ReadFrames id) (MatchesConnected id)
heard_leads id l notes r to (turn.bytes {more = more} b some fits d) e f = fed_leads id b l more r to d e f
heard_leads id l notes r to turn.idle e f =
    leads_step id e e act.Idle [] (MatchesConnected id l) (record { certain = f.on.settled.doubt; row = steps.idle f.connection f.on.is_open }) (λ held h. h) (leads_nowhere id e (MatchesConnected id l) f)
heard_leads id l notes r to turn.over e f =
    leads_step id e e act.Ended [] (IsCertain (with_phase l.state Down)) (record { certain = f.on.settled.doubt; row = steps.ended f.connection f.on.is_open }) (λ held h. h) (leads_nowhere id e (IsCertain (with_phase l.state Down)) (settled_phase l.state e f.on.settled))
heard_leads id l notes r to turn.read_lost e f = leads_nowhere id e (IsCertain l.state) f.on.settled
heard_leads id l notes r to turn.read_memory e f = leads_nowhere id e (IsCertain l.state) f.on.settled

-- ---- one turn

clocked_leads : (id : Identity) → Triple id state_of (MatchesConnected id) ReadClock (MatchesConnected id)
clocked_leads id l notes r to (turn.now t) e f =
    let next = connection_seen (with_reading l.state t) l.unread in
    leads_step id e e (act.Now t) [] (MatchesConnected id next) (record { certain = f.on.settled.doubt; row = steps.now t }) (λ held h. h)
    (leads_nowhere id e (MatchesConnected id next) (record { connection = f.connection; on = on_state id l.state (with_reading l.state t) l.unread f.connection e f.on.phase refl refl refl f.on; begun = f.begun; counted = f.counted }))
clocked_leads id l notes r to turn.now_memory e f = leads_nowhere id e (IsCertain l.state) f.on.settled

-- one part, and then the other
then_leads : {S : Type 0} (id : Identity) (state : S → State) (P Q R : S → EndState → Type 0) (A B : S → List Note → Result ⊤ Ending → S → Type 0) → HasNoDoubt Q → Triple id state P A Q → Triple id state Q B R → Triple id state P (AndThen A B) R
then_leads id state P Q R A B certain one other s notes r to (first_ends {e = end} d) e h = one s notes (Err end) to d e h
then_leads id state P Q R A B certain one other s notes r to (both {mid = mid} {first = first} {more = more} d k) e h =
    leads_on id e first more (Q mid) (Behind (R to) r (state to)) (certain mid) (one s first (Ok tt) mid d e h) (λ m q. other mid more r to k m q)

-- what leaves the draft in hand as it is
beside_leads : (id : Identity) (P Q : ConnectionSeen → EndState → Type 0) (R : ConnectionSeen → List Note → Result ⊤ Ending → ConnectionSeen → Type 0) → Triple id state_of P R Q → Triple id state_at (λ d. P d.connection) (Beside R) (λ d. Q d.connection)
beside_leads id P Q R leads d notes r to (turns.beside {to = mid} k) e h = leads d.connection notes r mid k e h

met_leads : (id : Identity) → Triple id state_at (FitsAt id) (SendReadClock id) (FitsAt id)
met_leads id =
    then_leads id state_at (FitsAt id) (FitsAt id) (FitsAt id) (OfferDraft id) (Beside (AndThen (ReadFrames id) ReadClock)) (λ d. certain_fits id d.connection) (offered_leads id)
    (beside_leads id (MatchesConnected id) (MatchesConnected id) (AndThen (ReadFrames id) ReadClock) (then_leads id state_of (MatchesConnected id) (MatchesConnected id) (MatchesConnected id) (ReadFrames id) ReadClock (certain_fits id) (heard_leads id) (clocked_leads id)))

-- the expected number is lost
expect_lost_leads : (id : Identity) (s : State) (e : EndState) → IsCertain s e → LawfulRunTo id e (act.KeepLost (Expect s.expected) ∷ []) (IsInDoubt s)
expect_lost_leads id s e h =
    let left : EndState = record e { doubt = Some (Expect s.expected); connection = None } in
    leads_lost id e left (Expect s.expected) (IsInDoubt s) (record { certain = h.doubt; row = steps.lost_expect s.expected (sym h.numbers.expected) }) refl refl
    (record { numbers = record { expected = h.numbers.expected; stored = h.numbers.stored; out = h.numbers.out; role = h.numbers.role }; record_lost = Expect s.expected; doubt = refl; is = lawful.number; closed = refl })

-- or kept
expect_kept_leads : (id : Identity) (s : State) (e : EndState) (P : EndState → Type 0) → IsCertain s e → P (keeping e s.expected) → LawfulRunTo id e (act.Kept (Expect s.expected) ∷ []) P
expect_kept_leads id s e P h holds =
    leads_step id e (keeping e s.expected) (act.Kept (Expect s.expected)) [] P (record { certain = h.doubt; row = steps.kept_expect s.expected (sym h.numbers.expected) }) (λ held k. k) (leads_nowhere id (keeping e s.expected) P holds)

-- the expected number is kept on a connection
kept_leads : (id : Identity) → Triple id state_of (MatchesConnected id) StoreExpected (MatchesConnected id)
kept_leads id l notes r to (turn.same h) e f = leads_nowhere id e (MatchesConnected id l) f
kept_leads id l notes r to (turn.kept h) e f =
    let next = connection_seen (with_stored_expected l.state) l.unread in
    expect_kept_leads id l.state e (MatchesConnected id next) f.on.settled (record { connection = f.connection; on = on_kept id l.state l.unread f.connection e f.on; begun = f.begun; counted = f.counted })
kept_leads id l notes r to (turn.expect_lost h) e f = expect_lost_leads id l.state e f.on.settled
kept_leads id l notes r to (turn.expect_memory h) e f = leads_nowhere id e (IsCertain l.state) f.on.settled

abbrev Settled : ConnectionSeen → EndState → Type 0
Settled l e = IsCertain l.state e

-- and behind one
kept_behind : (id : Identity) → Triple id state_of Settled StoreExpected Settled
kept_behind id l notes r to (turn.same h) e f = leads_nowhere id e (Settled l) f
kept_behind id l notes r to (turn.kept h) e f = expect_kept_leads id l.state e (IsCertain (with_stored_expected l.state)) f (settled_kept l.state e f)
kept_behind id l notes r to (turn.expect_lost h) e f = expect_lost_leads id l.state e f
kept_behind id l notes r to (turn.expect_memory h) e f = leads_nowhere id e (IsCertain l.state) f

-- behind a part that the expected number is kept behind, nothing is in doubt
settles_settled : (end : Ending) (s : State) (e : EndState) → settles_of (Err end) ≡ true → BehindEnd end s e → IsCertain s e
settles_settled (ending.Closed why) s e t h = h
settles_settled (ending.NotBuilt n) s e t h = h
settles_settled ending.LinkFault s e t h = h
settles_settled ending.AppFault s e t h = h
settles_settled ending.NumbersSpent s e t h = h
settles_settled ending.OutOfMemory s e t h = h
settles_settled ending.StoreFault s e t h = cc

settled_settles : (end : Ending) (s : State) (e : EndState) → settles_of (Err end) ≡ true → IsCertain s e → BehindEnd end s e
settled_settles (ending.Closed why) s e t h = h
settled_settles (ending.NotBuilt n) s e t h = h
settled_settles ending.LinkFault s e t h = h
settled_settles ending.AppFault s e t h = h
settled_settles ending.NumbersSpent s e t h = h
settled_settles ending.OutOfMemory s e t h = h
settled_settles ending.StoreFault s e t h = cc

met_settled : (id : Identity) (r : Result ⊤ Ending) (l : ConnectionSeen) (e : EndState) → settles_of r ≡ true → Behind (MatchesConnected id l) r l.state e → IsCertain l.state e
met_settled id (Ok x) l e t h = h.on.settled
met_settled id (Err end) l e t h = settles_settled end l.state e t h

kept_beside : (id : Identity) → Triple id state_at (FitsAt id) (Beside StoreExpected) (FitsAt id)
kept_beside id = beside_leads id (MatchesConnected id) (MatchesConnected id) StoreExpected (kept_leads id)

abbrev SettledAt : TurnSeen → EndState → Type 0
SettledAt d e = IsCertain d.connection.state e

settled_beside : (id : Identity) → Triple id state_at SettledAt (Beside StoreExpected) SettledAt
settled_beside id = beside_leads id Settled Settled StoreExpected (kept_behind id)

turn_leads : (id : Identity) → Triple id state_at (FitsAt id) (Turn id) (FitsAt id)
turn_leads id d notes r to (turns.stops h k) e f = met_leads id d notes r to k e f
turn_leads id d notes r to (turns.keeps {mid = mid} {met = Ok x} {first = first} {more = more} h k kept) e f =
    leads_on id e first more (FitsAt id mid) (FitsAt id to) (certain_fits id mid.connection) (met_leads id d first (Ok x) mid k e f) (λ m q. kept_beside id mid more (Ok tt) to kept m q)
turn_leads id d notes r to (turns.keeps {mid = mid} {met = Err end} {first = first} {more = more} h k kept) e f =
    leads_on id e first more (SettledAt mid) (BehindEnd end to.connection.state) (certain_settled mid.connection.state)
    (leads_weaker id e (acts_of first) (BehindEnd end mid.connection.state) (SettledAt mid) (λ m q. settles_settled end mid.connection.state m h q) (met_leads id d first (Err end) mid k e f))
    (λ m q. leads_weaker id m (acts_of more) (SettledAt to) (BehindEnd end to.connection.state) (λ n p. settled_settles end to.connection.state n h p) (settled_beside id mid more (Ok tt) to kept m q))
turn_leads id d notes r to (turns.keeps_not {mid = mid} {met = met} {first = first} {more = more} {e = end} h k kept) e f =
    leads_on id e first more (SettledAt mid) (BehindEnd end to.connection.state) (certain_settled mid.connection.state)
    (leads_weaker id e (acts_of first) (Behind (FitsAt id mid) met mid.connection.state) (SettledAt mid) (λ m q. met_settled id met mid.connection m h q) (met_leads id d first met mid k e f))
    (λ m q. settled_beside id mid more (Err end) to kept m q)

-- ---- a run

turns_leads : (id : Identity) (us : List ⊤) → Triple id state_at (FitsAt id) (λ d. Each (OneTurn id) d us) (FitsAt id)
turns_leads id [] d notes r to none e f = leads_nowhere id e (FitsAt id d) f
turns_leads id (u ∷ us) d notes r to (ends {e = end} k) e f = turn_leads id d notes (Err end) to k e f
turns_leads id (u ∷ us) d notes r to (goes {mid = mid} {first = first} {more = more} k others) e f =
    leads_on id e first more (FitsAt id mid) (Behind (FitsAt id to) r to.connection.state) (certain_fits id mid.connection) (turn_leads id d first (Ok tt) mid k e f) (λ m q. turns_leads id us mid more r to others m q)

-- what is cut is certain
cut_settled : (end : Ending) (s : State) (e : EndState) → is_cut_of end ≡ true → BehindEnd end s e → IsCertain s e
cut_settled (ending.Closed why) s e t h = h
cut_settled (ending.NotBuilt n) s e t h = h
cut_settled ending.LinkFault s e t h = h
cut_settled ending.AppFault s e t h = h
cut_settled ending.NumbersSpent s e t h = h
cut_settled ending.OutOfMemory s e t h = h
cut_settled ending.StoreFault s e t h = cc

left_after : (id : Identity) (end : Ending) (to : ConnectionSeen) (e : EndState) → is_cut_of end ≡ true → MatchesDown to.state e → After id (run_end (Err end)) to e
left_after id (ending.Closed why) to e t h = h
left_after id (ending.NotBuilt n) to e t h = h
left_after id ending.LinkFault to e t h = h
left_after id ending.AppFault to e t h = h
left_after id ending.NumbersSpent to e t h = h
left_after id ending.OutOfMemory to e t h = cc
left_after id ending.StoreFault to e t h = cc

not_cut_after : (id : Identity) (end : Ending) (to : ConnectionSeen) (e : EndState) → is_cut_of end ≡ false → BehindEnd end to.state e → After id (run_end (Err end)) (down to) e
not_cut_after id (ending.Closed why) to e t h = cc
not_cut_after id (ending.NotBuilt n) to e t h = cc
not_cut_after id ending.LinkFault to e t h = cc
not_cut_after id ending.AppFault to e t h = cc
not_cut_after id ending.NumbersSpent to e t h = cc
not_cut_after id ending.OutOfMemory to e t h = settled_phase to.state e h
not_cut_after id ending.StoreFault to e t h = record {
  numbers = record { expected = h.numbers.expected; stored = h.numbers.stored; out = h.numbers.out; role = h.numbers.role };
  record_lost = h.record_lost;
  doubt = h.doubt;
  is = lost_down to.state h.is;
  closed = h.closed;
}

-- the connection is cut
cut_leads : (id : Identity) (end : Ending) (to : ConnectionSeen) (e : EndState) → is_cut_of end ≡ true → IsCertain to.state e → LawfulRunTo id e (act.Cut ∷ []) (After id (run_end (Err end)) (down to))
cut_leads id end to e t h =
    let left : EndState = record e { connection = None } in
    let is_left : MatchesDown (down to).state left = record { phase = refl; settled = record { doubt = h.doubt; numbers = record { expected = h.numbers.expected; stored = h.numbers.stored; out = h.numbers.out; role = h.numbers.role } }; closed = refl } in
    leads_step id e left act.Cut [] (After id (run_end (Err end)) (down to)) (record { certain = h.doubt; row = steps.cut }) (λ held k. k) (leads_nowhere id left (After id (run_end (Err end)) (down to)) (left_after id end (down to) left t is_left))

-- every run of the engine is a run of a lawful end
pub RunAndCut-lawful : (id : Identity) (n : ℕ) (d : TurnSeen) (notes : List Note) (r : Result ⊤ Ending) (to : TurnSeen) → RunAndCut id n d notes r to → IsLawfulRun id d.connection (run_end r) to.connection notes
RunAndCut-lawful id n d notes r to (turns.all_turns k) e f = turns_leads id (replicate n tt) d notes (Ok tt) to k e f
RunAndCut-lawful id n d notes r to (turns.cut {to = behind} {notes = first} {e = end} h k) e f =
    leads_on id e first (Did act.Cut ∷ []) (SettledAt behind) (After id (run_end (Err end)) (down behind.connection)) (certain_settled behind.connection.state)
    (leads_weaker id e (acts_of first) (BehindEnd end behind.connection.state) (SettledAt behind) (λ m q. cut_settled end behind.connection.state m h q) (turns_leads id (replicate n tt) d first (Err end) behind k e f))
    (λ m q. cut_leads id end behind.connection m h q)
RunAndCut-lawful id n d notes r to (turns.cut_memory {to = behind} {e = end} h k) e f =
    leads_weaker id e (acts_of notes) (BehindEnd end behind.connection.state) (IsCertain (down behind.connection).state) (λ m q. settled_phase behind.connection.state m (cut_settled end behind.connection.state m h q)) (turns_leads id (replicate n tt) d notes (Err end) behind k e f)
RunAndCut-lawful id n d notes r to (turns.no_cut {to = behind} {e = end} h k) e f =
    leads_weaker id e (acts_of notes) (BehindEnd end behind.connection.state) (After id (run_end (Err end)) (down behind.connection)) (λ m q. not_cut_after id end behind.connection m h q) (turns_leads id (replicate n tt) d notes (Err end) behind k e f)

pub run_lawful : (id : Identity) (n : ℕ) (d : TurnSeen) (r : Result ⊤ Ending) (to : TurnSeen) (old new : OutsideSeen) → HasTrace old new (λ notes. RunAndCut id n d notes r to) → HasTrace old new (IsLawfulRun id d.connection (run_end r) to.connection)
run_lawful id n d r to old new g = (g.0, g.1, RunAndCut-lawful id n d g.0 r to g.2)
