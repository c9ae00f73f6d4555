-- Every `send` is a run of a lawful end, and leaves the session in step.
use Rattle.std.proofs.Common.{◌≡◌, ℕ, ◌+◌, ◌-◌, ◌<◌, ◌≤◌, List, [], ◌∷◌, ◌++◌, length, take, true, false, Option, Some, None, Result, Ok, Err, refl, sym, ◌∙◌, subst, append_assoc, arith}
use Rattle.std.specs.Prelude.{⊤, IfNone, OnOk}
use Rattle.fix_base.specs.declared.identity.Identity.{Identity}
use Rattle.fix_base.specs.declared.act.Act.{Act}
use Rattle.fix_base.specs.declared.act.Act.TheVariants as act
use Rattle.fix_base.specs.Stream.{UnreadBytes}
use Rattle.fix_base.specs.Payload.{LAST_TIME}
use Rattle.fix_base.specs.EndStep as steps
use Rattle.fix_base.specs.EndStep.{EndState}
use Rattle.fix_base.specs.Trace.{Note, Did, Failed, LinkPart, acts_of, OutsideSeen, HasTrace, store_failures, link_failures}
use Rattle.fix_base.proofs.SeenLemmas.{store_failures-append, link_failures-append}
use Rattle.fix_base.proofs.RunLemmas.{EndRun-append}
use Rattle.fix_fields.specs.Drafted.{DraftText}
use Rattle.fix_engine.specs.State.{State, Down, Up, with_phase, with_last, with_reading}
use Rattle.fix_engine.specs.declared.stop.SendFault.{SendFault}
use Rattle.fix_engine.specs.declared.stop.SendFault.TheVariants as fault
use Rattle.fix_engine.specs.declared.stop.StopCause.{StopCause}
use Rattle.fix_engine.specs.Reading.{ConnectionSeen, connection_seen}
use Rattle.fix_engine.specs.Run.{SessionSeen}
use Rattle.fix_engine.specs.Drafted as drafted
use Rattle.fix_engine.specs.Drafted.{KeepsDraft, Drafting, Drafted, SentTo, SendsTo, entry_of_draft, SendHasCause}
use Rattle.fix_engine.specs.Faults.{is_link_fault, open_sent, send_stop}
use Rattle.fix_engine.specs.Lawful.{HasNumbers, IsCertain, MatchesConnected, MatchesDown, LawfulRunTo}
use Rattle.fix_engine.specs.InStep as step
use Rattle.fix_engine.specs.InStep.{Matches, IsTape, IsInStep, IsInStepSinceSome, CanRestart, IsConnected, AreOfRun}
use Rattle.fix_engine.specs.LawfulSend.{AfterSend, IsLawfulSend}
use Rattle.fix_engine.proofs.LeadsLemmas.{certain_settled, settled_phase, lost_down, leads_nowhere, leads_step, leads_on, leads_weaker, holds_end}
use Rattle.fix_engine.proofs.OnLemmas.{pushed, settled_pushed, on_state}
use Rattle.fix_engine.proofs.LawfulSteps.{push_kept}
use Rattle.fix_engine.proofs.DraftLeads.{BehindDraft, behind_weaker, lost_leads, drafting_fits}
use Rattle.fix_engine.proofs.RunActs.{of_run-append, Drafting-plainly}
use Rattle.fix_engine.proofs.InStepLemmas.{seated, beside_settled, beside_fits, moved, trail, if_none, stands_on, tape_moves, store_moves, stored_on}

-- ---- it is lawful

-- behind a sending, before a connection is cut
abbrev BehindSend : Identity → UnreadBytes → Result ℕ SendFault → State → EndState → Type 0
BehindSend id a r s e = BehindDraft (Matches id (connection_seen s a)) r s e

never_both : (s : State) → s.phase ≡ Down → s.phase ≡ Up → ⊥
never_both s p q = cc

module _ (id : Identity) (a : UnreadBytes) (d : DraftText) where
  stored_down : (s s' : State) (n : ℕ) (notes : List Note) → KeepsDraft d s notes (Ok n) s' → (e : EndState) → s.phase ≡ Down → IsCertain s e → LawfulRunTo id e (acts_of notes) (Matches id (connection_seen s' a))
  stored_down s s' n notes (drafted.was_kept is) e p h =
      let end = connection_seen (with_last s (s.last + 1)) a in
      push_kept id (entry_of_draft s d) e [] (Matches id end) h.doubt
      (leads_nowhere id (pushed e (entry_of_draft s d)) (Matches id end) (step.down p (settled_pushed s e (entry_of_draft s d) h)))

  -- where there is no connection
  drafting_down : (s : State) (notes : List Note) (r : Result ℕ SendFault) (s' : State) → Drafting id d s notes r s' → (e : EndState) → s.phase ≡ Down → IsCertain s e → LawfulRunTo id e (acts_of notes) (BehindSend id a r s')
  drafting_down s notes r s' drafted.no_memory e p h = leads_nowhere id e (IsCertain s) h
  drafting_down s notes r s' (drafted.lost k) e p h = lost_leads id a d s s' notes k e h
  drafting_down s notes r s' (drafted.stored {n = n} other k) e p h = stored_down s s' n notes k e p h
  drafting_down s notes r s' (drafted.sent text up said k) e p h = absurd (never_both s p up)
  drafting_down s notes r s' (drafted.write_lost text many up said k) e p h = absurd (never_both s p up)
  drafting_down s notes r s' (drafted.write_memory up k) e p h = absurd (never_both s p up)

  drafting_leads : (s : State) (notes : List Note) (r : Result ℕ SendFault) (s' : State) → Drafting id d s notes r s' → s.last < 999999999 → (e : EndState) → Matches id (connection_seen s a) e → LawfulRunTo id e (acts_of notes) (BehindSend id a r s')
  drafting_leads s notes r s' k small e (step.connected f) =
      leads_weaker id e (acts_of notes) (BehindDraft (MatchesConnected id (connection_seen s' a)) r s') (BehindSend id a r s') (λ m q. behind_weaker (MatchesConnected id (connection_seen s' a)) (Matches id (connection_seen s' a)) r s' m step.connected q) (drafting_fits id a d s notes r s' k small e f)
  drafting_leads s notes r s' k small e (step.down p h) = drafting_down s notes r s' k e p h

  -- a look at the clock leaves the end in step
  beside_reading : (s : State) (t : ℕ) (e : EndState) → Matches id (connection_seen s a) e → Matches id (connection_seen (with_reading s t) a) e
  beside_reading s t e (step.connected f) = step.connected (record { connection = f.connection; on = on_state id s (with_reading s t) a f.connection e f.on.phase refl refl refl f.on; begun = f.begun; counted = f.counted })
  beside_reading s t e (step.down p h) = step.down p (record { doubt = h.doubt; numbers = record { expected = h.numbers.expected; stored = h.numbers.stored; out = h.numbers.out; role = h.numbers.role } })

  drafted_leads : (s : State) (notes : List Note) (r : Result ℕ SendFault) (s' : State) → Drafted id d s notes r s' → s.last < 999999999 → (e : EndState) → Matches id (connection_seen s a) e → LawfulRunTo id e (acts_of notes) (BehindSend id a r s')
  drafted_leads s notes r s' drafted.no_reading small e b = leads_nowhere id e (IsCertain s) (beside_settled id (connection_seen s a) e b)
  drafted_leads s notes r s' (drafted.at_time {notes = more} t k) small e b =
      leads_step id e e (act.Now t) (acts_of more) (BehindSend id a r s') (record { certain = (beside_settled id (connection_seen s a) e b).doubt; row = steps.now t }) (λ held h. h)
      (drafting_leads (with_reading s t) more r s' k small e (beside_reading s t e b))

  -- a fault of the connection leaves nothing in doubt
  link_settled : (why : SendFault) (s : State) (e : EndState) → is_link_fault why ≡ true → BehindSend id a (Err why) s e → IsCertain s e
  link_settled (fault.LinkFault n) s e t h = h
  link_settled (fault.Stopped why) s e t h = cc
  link_settled fault.NumbersSpent s e t h = cc
  link_settled fault.OutOfMemory s e t h = cc
  link_settled fault.StoreFault s e t h = cc

  link_after : (why : SendFault) (s : State) (e : EndState) → is_link_fault why ≡ true → MatchesDown s e → AfterSend {T = ℕ} id (Err why) (connection_seen s a) e
  link_after (fault.LinkFault n) s e t h = h
  link_after (fault.Stopped why) s e t h = cc
  link_after fault.NumbersSpent s e t h = cc
  link_after fault.OutOfMemory s e t h = cc
  link_after fault.StoreFault s e t h = cc

  not_link_after : (why : SendFault) (s : State) (e : EndState) → is_link_fault why ≡ false → BehindSend id a (Err why) s e → AfterSend {T = ℕ} id (Err why) (connection_seen (with_phase s Down) a) e
  not_link_after (fault.LinkFault n) s e t h = cc
  not_link_after (fault.Stopped why) s e t h = absurd h
  not_link_after fault.NumbersSpent s e t h = absurd h
  not_link_after fault.OutOfMemory s e t h = settled_phase s e h
  not_link_after fault.StoreFault s e t h = record {
    numbers = record { expected = h.numbers.expected; stored = h.numbers.stored; out = h.numbers.out; role = h.numbers.role };
    record_lost = h.record_lost;
    doubt = h.doubt;
    is = lost_down s h.is;
    closed = h.closed;
  }

  cut_leads : (why : SendFault) (s : State) (e : EndState) → is_link_fault why ≡ true → IsCertain s e → LawfulRunTo id e (act.Cut ∷ []) (AfterSend {T = ℕ} id (Err why) (connection_seen (with_phase s Down) a))
  cut_leads why s e t h =
      let left : EndState = record e { connection = None } in
      let is_left : MatchesDown (with_phase s Down) left = record { phase = refl; settled = record { doubt = h.doubt; numbers = record { expected = h.numbers.expected; stored = h.numbers.stored; out = h.numbers.out; role = h.numbers.role } }; closed = refl } in
      let P = AfterSend {T = ℕ} id (Err why) (connection_seen (with_phase s Down) a) in
      leads_step id e left act.Cut [] P (record { certain = h.doubt; row = steps.cut }) (λ held k. k) (leads_nowhere id left P (link_after why (with_phase s Down) left t is_left))

  sent_to_leads : (s : State) (notes : List Note) (r : Result ℕ SendFault) (s' : State) → SentTo id d s notes r s' → s.last < 999999999 → (e : EndState) → Matches id (connection_seen s a) e → LawfulRunTo id e (acts_of notes) (AfterSend id r (connection_seen s' a))
  sent_to_leads s notes r s' (drafted.went {n = n} k) small e b = drafted_leads s notes (Ok n) s' k small e b
  sent_to_leads s notes r s' (drafted.cut {notes = first} {why = why} {s' = behind} t k) small e b =
      leads_on id e first (Did act.Cut ∷ []) (IsCertain behind) (AfterSend {T = ℕ} id (Err why) (connection_seen (with_phase behind Down) a)) (certain_settled behind)
      (leads_weaker id e (acts_of first) (BehindSend id a (Err why) behind) (IsCertain behind) (λ m q. link_settled why behind m t q) (drafted_leads s first (Err why) behind k small e b))
      (λ m q. cut_leads why behind m t q)
  sent_to_leads s notes r s' (drafted.cut_memory {why = why} {s' = behind} t k) small e b =
      leads_weaker id e (acts_of notes) (BehindSend id a (Err why) behind) (IsCertain (with_phase behind Down)) (λ m q. settled_phase behind m (link_settled why behind m t q)) (drafted_leads s notes (Err why) behind k small e b)
  sent_to_leads s notes r s' (drafted.no_cut {why = why} {s' = behind} t k) small e b =
      leads_weaker id e (acts_of notes) (BehindSend id a (Err why) behind) (AfterSend {T = ℕ} id (Err why) (connection_seen (with_phase behind Down) a)) (λ m q. not_link_after why behind m t q) (drafted_leads s notes (Err why) behind k small e b)

-- what a session comes to that has a number left
pub sent_goes : (id : Identity) (d : DraftText) (s : State) (a : UnreadBytes) (r : Result ℕ SendFault) (s' : State) (old new : OutsideSeen) → s.last < 999999999 → HasTrace old new (λ notes. SentTo id d s notes r s') → HasTrace old new (SendsTo id d (connection_seen s a) r (connection_seen s' a))
sent_goes id d s a r s' old new small g = (g.0, g.1, drafted.sends small g.2)

-- every `send` is a run of a lawful end
pub SendDraft-lawful : (id : Identity) (d : DraftText) (l : ConnectionSeen) (r : Result ℕ SendFault) (to : ConnectionSeen) (notes : List Note) → SendsTo id d l r to notes → IsLawfulSend id l r to notes
SendDraft-lawful id d l r to notes (drafted.spent h) e b = leads_nowhere id e (Matches id l) b
SendDraft-lawful id d l r to notes (drafted.sends {s = s} small k) e b = sent_to_leads id l.unread d l.state notes r s k small e b

pub send_lawful : (id : Identity) (d : DraftText) (l : ConnectionSeen) (r : Result ℕ SendFault) (to : ConnectionSeen) (old new : OutsideSeen) → HasTrace old new (SendsTo id d l r to) → HasTrace old new (IsLawfulSend id l r to)
send_lawful id d l r to old new g = (g.0, g.1, SendDraft-lawful id d l r to g.0 g.2)

-- ---- the session stays in step

send_beside : (id : Identity) (r : Result ℕ SendFault) (to : ConnectionSeen) (e : EndState) → send_stop r ≡ None → AfterSend id r to e → Matches id to e
send_beside id (Ok n) to e none h = h
send_beside id (Err fault.NumbersSpent) to e none h = h
send_beside id (Err (fault.LinkFault n)) to e none h = step.down h.phase h.settled
send_beside id (Err (fault.Stopped why)) to e none h = absurd h
send_beside id (Err fault.OutOfMemory) to e none h = cc
send_beside id (Err fault.StoreFault) to e none h = cc

send_numbers : (id : Identity) (r : Result ℕ SendFault) (to : ConnectionSeen) (e : EndState) → AfterSend id r to e → HasNumbers to.state e
send_numbers id (Ok n) to e h = (beside_settled id to e h).numbers
send_numbers id (Err fault.NumbersSpent) to e h = (beside_settled id to e h).numbers
send_numbers id (Err (fault.LinkFault n)) to e h = h.settled.numbers
send_numbers id (Err (fault.Stopped why)) to e h = absurd h
send_numbers id (Err fault.OutOfMemory) to e h = h.numbers
send_numbers id (Err fault.StoreFault) to e h = h.numbers

open_unstopped : (r : Result ℕ SendFault) (s : State) → send_stop r ≡ None → open_sent r s ≡ Some s.last
open_unstopped (Ok n) s none = refl
open_unstopped (Err fault.NumbersSpent) s none = refl
open_unstopped (Err (fault.LinkFault n)) s none = refl
open_unstopped (Err (fault.Stopped why)) s none = refl
open_unstopped (Err fault.OutOfMemory) s none = refl
open_unstopped (Err fault.StoreFault) s none = cc

send_moved : (d : DraftText) (session : SessionSeen) (r : Result ℕ SendFault) (to : ConnectionSeen) (old new : OutsideSeen) → new.open_at ≡ open_sent r to.state → HasTrace old new (SendsTo session.identity d session.connection r to) → send_stop r ≡ None → (start : EndState) (before : List Act) → IsInStep start before old session → IsInStep start before new (seated session to session.pending (send_stop r))
send_moved d session r to old new opens g none start before h =
    moved start before old new session to session.pending (send_stop r) g.0 (AfterSend session.identity r to) g.1 (opens ∙ open_unstopped r to.state none) (λ e k. send_beside session.identity r to e none k) h
    (SendDraft-lawful session.identity d session.connection r to g.0 g.2 h.to h.beside)

pub send_in_step : (d : DraftText) (session : SessionSeen) (r : Result ℕ SendFault) (to : ConnectionSeen) (old new : OutsideSeen) → new.open_at ≡ open_sent r to.state → HasTrace old new (SendsTo session.identity d session.connection r to) → IfNone (send_stop r) ((start : EndState) (before : List Act) → IsInStep start before old session → IsInStep start before new (seated session to session.pending (send_stop r)))
send_in_step d session r to old new opens g =
    if_none (send_stop r) ((start : EndState) (before : List Act) → IsInStep start before old session → IsInStep start before new (seated session to session.pending (send_stop r)))
    (λ none. send_moved d session r to old new opens g none)

pub send_stands : (d : DraftText) (session : SessionSeen) (r : Result ℕ SendFault) (to : ConnectionSeen) (old new : OutsideSeen) → new.open_at ≡ open_sent r to.state → HasTrace old new (SendsTo session.identity d session.connection r to) → IsInStepSinceSome old session → IfNone (send_stop r) (IsInStepSinceSome new (seated session to session.pending (send_stop r)))
send_stands d session r to old new opens g h =
    if_none (send_stop r) (IsInStepSinceSome new (seated session to session.pending (send_stop r)))
    (λ none. stands_on old new session (seated session to session.pending (send_stop r)) (opens ∙ open_unstopped r to.state none) (send_moved d session r to old new opens g none) h)

-- whatever it answers, an end trails
pub send_trails : (d : DraftText) (session : SessionSeen) (r : Result ℕ SendFault) (to : ConnectionSeen) (stopped : Option StopCause) (old new : OutsideSeen) → HasTrace old new (SendsTo session.identity d session.connection r to) → (start : EndState) (before : List Act) → IsInStep start before old session → CanRestart start before new (seated session to session.pending stopped)
send_trails d session r to stopped old new g start before h =
    trail start before old new session to session.pending stopped g.0 (AfterSend session.identity r to) g.1 (send_numbers session.identity r to) h
    (SendDraft-lawful session.identity d session.connection r to g.0 g.2 h.to h.beside)

-- ---- it stays connected

capped : (s : State) (t : ℕ) → (with_reading s t).reading ≤ LAST_TIME
capped s t = omega arith

drafted_of_run : (id : Identity) (d : DraftText) (s s' : State) (notes : List Note) (r : Result ℕ SendFault) → Drafted id d s notes r s' → AreOfRun (acts_of notes)
drafted_of_run id d s s' notes r drafted.no_reading = tt
drafted_of_run id d s s' notes r (drafted.at_time {notes = more} t k) = (tt, (Drafting-plainly id d (with_reading s t) more r s' k (capped s t)).0)

sends_of_run : (id : Identity) (d : DraftText) (l to : ConnectionSeen) (n : ℕ) (notes : List Note) → SendsTo id d l (Ok n) to notes → AreOfRun (acts_of notes)
sends_of_run id d l to n notes (drafted.sends {s = s} small (drafted.went k)) = drafted_of_run id d l.state s notes (Ok n) k

keeps_phase : (d : DraftText) (s s' : State) (n : ℕ) (notes : List Note) → KeepsDraft d s notes (Ok n) s' → s'.phase ≡ s.phase
keeps_phase d s s' n notes (drafted.was_kept is) = refl

pub drafting_phase : (id : Identity) (d : DraftText) (s s' : State) (n : ℕ) (notes : List Note) → Drafting id d s notes (Ok n) s' → s'.phase ≡ s.phase
drafting_phase id d s s' n notes (drafted.stored other k) = keeps_phase d s s' n notes k
drafting_phase id d s s' n notes (drafted.sent {notes = first} text up said k) = keeps_phase d s s' n first k

-- a `send` that answers a number leaves the phase
sends_phase : (id : Identity) (d : DraftText) (l to : ConnectionSeen) (n : ℕ) (notes : List Note) → SendsTo id d l (Ok n) to notes → to.state.phase ≡ l.state.phase
sends_phase id d l to n notes (drafted.sends {s = s} small (drafted.went (drafted.at_time {notes = more} t k))) = drafting_phase id d (with_reading l.state t) s n more k

connected_on : (d : DraftText) (session : SessionSeen) (n : ℕ) (to : ConnectionSeen) (stopped : Option StopCause) (old new : OutsideSeen) → new.open_at ≡ Some to.state.last → HasTrace old new (SendsTo session.identity d session.connection (Ok n) to) → (start : EndState) (before : List Act) → IsConnected start before old session → IsConnected start before new (seated session to session.pending stopped)
connected_on d session n to stopped old new opens g start before h =
    let acts = acts_of g.0 in
    let l = SendDraft-lawful session.identity d session.connection (Ok n) to g.0 g.2 h.to (step.connected h.fits) in
    let certain = beside_settled session.identity to l.to l.holds in
    let same = sends_phase session.identity d session.connection to n g.0 g.2 in
    record {
      opened = h.opened;
      opens = h.opens;
      acts = h.acts ++ acts;
      ran = of_run-append h.acts acts h.ran (sends_of_run session.identity d session.connection to n g.0 g.2);
      to = l.to;
      run = EndRun-append h.run l.run;
      fits = beside_fits session.identity to l.to (λ p. h.fits.on.phase (sym same ∙ p)) l.holds;
      tape = subst (λ (w : List Act). IsTape new w) (append_assoc before (act.Opened ∷ h.acts) acts) (tape_moves old.tape new.tape (before ++ act.Opened ∷ h.acts) acts g.1.tape h.tape);
      stored = store_moves old.Holds new.Holds acts h.to.end l.to.end g.1.stored (λ held s. holds_end l.to.doubt l.to.end held certain.doubt (l.store held s)) h.stored;
      store_open = opens;
      store = λ held s. holds_end l.to.doubt l.to.end held certain.doubt (stored_on h.opened.end h.to.end h.acts acts l.to.doubt l.to.end h.store l.store held s);
    }

pub send_connected : (d : DraftText) (session : SessionSeen) (r : Result ℕ SendFault) (to : ConnectionSeen) (stopped : Option StopCause) (old new : OutsideSeen) → new.open_at ≡ open_sent r to.state → HasTrace old new (SendsTo session.identity d session.connection r to) → OnOk r ((start : EndState) (before : List Act) → IsConnected start before old session → IsConnected start before new (seated session to session.pending stopped))
send_connected d session (Ok n) to stopped old new opens g = connected_on d session n to stopped old new opens g
send_connected d session (Err why) to stopped old new opens g = tt

-- ---- a fault has its cause

abbrev Blames : Result ℕ SendFault → List Note → Type 0
Blames (Ok n) notes = ⊤
Blames (Err (fault.Stopped why)) notes = ⊤
Blames (Err fault.NumbersSpent) notes = ⊤
Blames (Err fault.OutOfMemory) notes = ⊤
Blames (Err fault.StoreFault) notes = 0 < store_failures notes
Blames (Err (fault.LinkFault n)) notes = 0 < link_failures notes

keeps_blames : (d : DraftText) (s s' : State) (notes : List Note) → KeepsDraft d s notes (Err fault.StoreFault) s' → 0 < store_failures notes
keeps_blames d s s' notes (drafted.kept_lost is) = omega arith

pub drafting_blames : (id : Identity) (d : DraftText) (s s' : State) (notes : List Note) (r : Result ℕ SendFault) → Drafting id d s notes r s' → Blames r notes
drafting_blames id d s s' notes r drafted.no_memory = tt
drafting_blames id d s s' notes r (drafted.lost k) = keeps_blames d s s' notes k
drafting_blames id d s s' notes r (drafted.stored other k) = tt
drafting_blames id d s s' notes r (drafted.sent text up said k) = tt
drafting_blames id d s s' notes r (drafted.write_lost {notes = first} text many up said k) = omega (arith, link_failures-append first (Did (act.Wrote (take many text)) ∷ Failed (LinkPart (length text - many)) ∷ []))
drafting_blames id d s s' notes r (drafted.write_memory up k) = tt

behind_now : (t : ℕ) (r : Result ℕ SendFault) (notes : List Note) → Blames r notes → Blames r (Did (act.Now t) ∷ notes)
behind_now t (Ok n) notes h = tt
behind_now t (Err (fault.Stopped why)) notes h = tt
behind_now t (Err fault.NumbersSpent) notes h = tt
behind_now t (Err fault.OutOfMemory) notes h = tt
behind_now t (Err fault.StoreFault) notes h = h
behind_now t (Err (fault.LinkFault n)) notes h = h

drafted_blames : (id : Identity) (d : DraftText) (s s' : State) (notes : List Note) (r : Result ℕ SendFault) → Drafted id d s notes r s' → Blames r notes
drafted_blames id d s s' notes r drafted.no_reading = tt
drafted_blames id d s s' notes r (drafted.at_time {notes = more} t k) = behind_now t r more (drafting_blames id d (with_reading s t) s' more r k)

before_more : (r : Result ℕ SendFault) (first more : List Note) → Blames r first → Blames r (first ++ more)
before_more (Ok n) first more h = tt
before_more (Err (fault.Stopped why)) first more h = tt
before_more (Err fault.NumbersSpent) first more h = tt
before_more (Err fault.OutOfMemory) first more h = tt
before_more (Err fault.StoreFault) first more h = omega (arith, store_failures-append first more)
before_more (Err (fault.LinkFault n)) first more h = omega (arith, link_failures-append first more)

sent_to_blames : (id : Identity) (d : DraftText) (s s' : State) (notes : List Note) (r : Result ℕ SendFault) → SentTo id d s notes r s' → Blames r notes
sent_to_blames id d s s' notes r (drafted.went k) = tt
sent_to_blames id d s s' notes r (drafted.cut {notes = first} {why = why} t k) = before_more (Err why) first _ (drafted_blames id d s _ first (Err why) k)
sent_to_blames id d s s' notes r (drafted.cut_memory t k) = tt
sent_to_blames id d s s' notes r (drafted.no_cut {why = why} t k) = drafted_blames id d s _ notes (Err why) k

sends_blames : (id : Identity) (d : DraftText) (l to : ConnectionSeen) (notes : List Note) (r : Result ℕ SendFault) → SendsTo id d l r to notes → Blames r notes
sends_blames id d l to notes r (drafted.spent h) = tt
sends_blames id d l to notes r (drafted.sends {s = s} small k) = sent_to_blames id d l.state s notes r k

-- a `send` that answers a fault has its cause
pub send_has_cause : (id : Identity) (d : DraftText) (l : ConnectionSeen) (r : Result ℕ SendFault) (to : ConnectionSeen) (old new : OutsideSeen) → HasTrace old new (SendsTo id d l r to) → SendHasCause r old.faults new.faults
send_has_cause id d l r to old new g = caused r (sends_blames id d l to g.0 r g.2)
  where
    caused : (x : Result ℕ SendFault) → Blames x g.0 → SendHasCause x old.faults new.faults
    caused (Ok n) h = tt
    caused (Err (fault.Stopped why)) h = tt
    caused (Err fault.NumbersSpent) h = tt
    caused (Err fault.OutOfMemory) h = tt
    caused (Err fault.StoreFault) h = omega (arith, g.1.faults.store)
    caused (Err (fault.LinkFault n)) h = omega (arith, g.1.faults.link)
