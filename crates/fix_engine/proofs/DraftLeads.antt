-- The sending of a draft is a run of a lawful end.
use Rattle.std.proofs.Common.{◌≡◌, inl, inr, ℕ, ◌+◌, ◌<◌, List, [], ◌∷◌, ◌++◌, take, Result, Ok, Err, refl, sym, subst}
use Rattle.fix_base.specs.declared.identity.Identity.{Identity}
use Rattle.fix_base.specs.declared.entry.By.TheVariants.{Caller}
use Rattle.fix_base.specs.declared.entry.Record.TheVariants.{Push}
use Rattle.fix_base.specs.declared.act.Act.{Act}
use Rattle.fix_base.specs.declared.act.Act.TheVariants as act
use Rattle.fix_base.specs.Stream.{UnreadBytes}
use Rattle.fix_base.specs.Wrote as wrote
use Rattle.fix_base.specs.Wrote.{IsOriginal}
use Rattle.fix_base.specs.EndStep.{EndState}
use Rattle.fix_base.specs.Trace.{Note, Did, acts_of}
use Rattle.fix_fields.specs.Drafted.{DraftText, draft_body}
use Rattle.fix_engine.specs.State.{State, with_last}
use Rattle.fix_engine.specs.declared.stop.SendFault.{SendFault}
use Rattle.fix_engine.specs.declared.stop.SendFault.TheVariants as fault
use Rattle.fix_engine.specs.Reading.{connection_seen}
use Rattle.fix_engine.specs.Turn as turns
use Rattle.fix_engine.specs.Turn.{TurnSeen, SendDraft, SendPending, OfferDraft}
use Rattle.fix_engine.specs.Faults.{sent_ending}
use Rattle.fix_engine.specs.Drafted as drafted
use Rattle.fix_engine.specs.Drafted.{IsOfDraft, KeepsDraft, Drafting, entry_of_draft}
use Rattle.fix_engine.specs.Lawful as lawful
use Rattle.fix_engine.specs.Lawful.{IsCertain, MatchesConnected, IsInDoubt, LawfulRunTo}
use Rattle.fix_engine.proofs.LeadsLemmas.{leads_nowhere, leads_weaker}
use Rattle.fix_engine.proofs.LogonLemmas.{app_free}
use Rattle.fix_engine.proofs.OnLemmas.{pushed, writing, connected, original_all, original_some, rule_all, rule_some, on_original, on_pushed}
use Rattle.fix_engine.proofs.LawfulSteps.{Behind, Triple, push_lost, push_kept, push_wrote, push_alone, settled_sent}
use Rattle.fix_engine.proofs.DraftFrames.{draft_is_body}

-- ---- a draft is the original of its entry

draft_original : (id : Identity) (n : ℕ) (s : State) (d : DraftText) (text : List ℕ) → IsOfDraft id n s.reading d text → IsOriginal id n (entry_of_draft s d) text
draft_original id n s d text h = record {
  type = d.kind;
  at = h.at;
  rest = h.draft.fields;
  carries = wrote.app (draft_is_body d h.draft);
  sent_at = record { digits = 3; precision = inr (inl refl); is = h.sent_at };
  sealed_so = h.sealed_so;
}

-- ---- on a connection it is kept, and written in phase Up

-- behind a sending: where it answers a number the end has Q
abbrev pub BehindDraft : (EndState → Type 0) → Result ℕ SendFault → State → EndState → Type 0
BehindDraft Q (Ok n) s e = Q e
BehindDraft Q (Err (fault.Stopped why)) s e = ⊥
BehindDraft Q (Err fault.NumbersSpent) s e = ⊥
BehindDraft Q (Err fault.OutOfMemory) s e = IsCertain s e
BehindDraft Q (Err fault.StoreFault) s e = IsInDoubt s e
BehindDraft Q (Err (fault.LinkFault n)) s e = IsCertain s e

-- where Q is enough for another
pub behind_weaker : (Q P : EndState → Type 0) (r : Result ℕ SendFault) (s : State) (e : EndState) → (Q e → P e) → BehindDraft Q r s e → BehindDraft P r s e
behind_weaker Q P (Ok n) s e f h = f h
behind_weaker Q P (Err (fault.Stopped why)) s e f h = h
behind_weaker Q P (Err fault.NumbersSpent) s e f h = h
behind_weaker Q P (Err fault.OutOfMemory) s e f h = h
behind_weaker Q P (Err fault.StoreFault) s e f h = h
behind_weaker Q P (Err (fault.LinkFault n)) s e f h = h

module _ (id : Identity) (a : UnreadBytes) (d : DraftText) where
  pub lost_leads : (s s' : State) (notes : List Note) → KeepsDraft d s notes (Err fault.StoreFault) s' → (e : EndState) → IsCertain s e → LawfulRunTo id e (acts_of notes) (IsInDoubt s')
  lost_leads s s' notes (drafted.kept_lost is) e h = push_lost id s (entry_of_draft s d) e (lawful.draft d is) h

  pub stored_alone : (s s' : State) (n : ℕ) (notes : List Note) → KeepsDraft d s notes (Ok n) s' → (e : EndState) → IsCertain s e → LawfulRunTo id e (acts_of notes) (IsCertain s')
  stored_alone s s' n notes (drafted.was_kept is) e h = push_alone id s (entry_of_draft s d) e h

  stored_leads : (s s' : State) (n : ℕ) (notes : List Note) → KeepsDraft d s notes (Ok n) s' → (e : EndState) → MatchesConnected id (connection_seen s a) e → LawfulRunTo id e (acts_of notes) (MatchesConnected id (connection_seen s' a))
  stored_leads s s' n notes (drafted.was_kept is) e f =
      let to = pushed e (entry_of_draft s d) in
      let end = connection_seen (with_last s (s.last + 1)) a in
      push_kept id (entry_of_draft s d) e [] (MatchesConnected id end) f.on.settled.doubt
      (leads_nowhere id to (MatchesConnected id end) (record { connection = f.connection; on = on_pushed id s a f.connection e (entry_of_draft s d) f.on; begun = f.begun; counted = f.counted }))

  sent_leads : (s s' : State) (n : ℕ) (notes : List Note) (text : List ℕ) → s.last < 999999999 → IsOfDraft id (s.last + 1) s.reading d text → KeepsDraft d s notes (Ok n) s' → (e : EndState) → MatchesConnected id (connection_seen s a) e → LawfulRunTo id e (acts_of (notes ++ Did (act.Wrote text) ∷ [])) (MatchesConnected id (connection_seen s' a))
  sent_leads s s' n notes text small said (drafted.was_kept is) e f =
      let c = f.connection in
      let entry = entry_of_draft s d in
      let end = connection_seen (with_last s (s.last + 1)) a in
      let original = draft_original id (s.last + 1) s d text said in
      let free = app_free id (s.last + 1) s.reading Caller (draft_body d) text original in
      push_wrote id s a c entry e text [] (MatchesConnected id end) f.on (original_all id s a c e entry text small original f.on) (rule_all id s a c e entry text original free f.on)
      (leads_nowhere id (connected (pushed e entry) (writing c text)) (MatchesConnected id end) (record { connection = writing c text; on = on_original id s a c e entry text small original free f.on; begun = f.begun; counted = f.counted }))

  write_lost_leads : (s s' : State) (n many : ℕ) (notes more : List Note) (text : List ℕ) → s.last < 999999999 → IsOfDraft id (s.last + 1) s.reading d text → KeepsDraft d s notes (Ok n) s' → acts_of more ≡ [] → (e : EndState) → MatchesConnected id (connection_seen s a) e → LawfulRunTo id e (acts_of (notes ++ Did (act.Wrote (take many text)) ∷ more)) (IsCertain s')
  write_lost_leads s s' n many notes more text small said (drafted.was_kept is) nothing e f =
      let c = f.connection in
      let entry = entry_of_draft s d in
      let end = with_last s (s.last + 1) in
      let part = take many text in
      let original = draft_original id (s.last + 1) s d text said in
      let free = app_free id (s.last + 1) s.reading Caller (draft_body d) text original in
      subst (λ (acts : List Act). LawfulRunTo id e (act.Kept (Push entry) ∷ act.Wrote part ∷ acts) (IsCertain end)) (sym nothing)
      (push_wrote id s a c entry e part [] (IsCertain end) f.on (original_some id s a c e entry text many small original f.on) (rule_some id s a c e entry text many original free f.on)
      (leads_nowhere id (connected (pushed e entry) (writing c part)) (IsCertain end) (settled_sent id s c entry e part f.on.settled)))

  pub drafting_fits : (s : State) (notes : List Note) (r : Result ℕ SendFault) (s' : State) → Drafting id d s notes r s' → s.last < 999999999 → (e : EndState) → MatchesConnected id (connection_seen s a) e → LawfulRunTo id e (acts_of notes) (BehindDraft (MatchesConnected id (connection_seen s' a)) r s')
  drafting_fits s notes r s' drafted.no_memory small e f = leads_nowhere id e (IsCertain s) f.on.settled
  drafting_fits s notes r s' (drafted.lost k) small e f = lost_leads s s' notes k e f.on.settled
  drafting_fits s notes r s' (drafted.stored {n = n} other k) small e f = stored_leads s s' n notes k e f
  drafting_fits s notes r s' (drafted.sent {notes = first} {n = n} text up said k) small e f = sent_leads s s' n first text small said k e f
  drafting_fits s notes r s' (drafted.write_lost {notes = first} {n = n} text many up said k) small e f = write_lost_leads s s' n many first _ text small said k refl e f
  drafting_fits s notes r s' (drafted.write_memory {n = n} up k) small e f = stored_alone s s' n notes k e f.on.settled

-- ---- in a turn

abbrev pub state_at : TurnSeen → State
state_at d = d.connection.state

-- the end is in step with a session on its open connection, whatever is in hand
abbrev pub FitsAt : Identity → TurnSeen → EndState → Type 0
FitsAt id d e = MatchesConnected id d.connection e

behind_sent : (Q : EndState → Type 0) (r : Result ℕ SendFault) (s : State) (e : EndState) → BehindDraft Q r s e → Behind Q (sent_ending r) s e
behind_sent Q (Ok n) s e h = h
behind_sent Q (Err (fault.Stopped why)) s e h = absurd h
behind_sent Q (Err fault.NumbersSpent) s e h = absurd h
behind_sent Q (Err fault.OutOfMemory) s e h = h
behind_sent Q (Err fault.StoreFault) s e h = h
behind_sent Q (Err (fault.LinkFault n)) s e h = h

sends_leads : (id : Identity) (draft : DraftText) → Triple id state_at (FitsAt id) (SendDraft id draft) (FitsAt id)
sends_leads id draft d notes r to (turns.spent h) e f = leads_nowhere id e (IsCertain d.connection.state) f.on.settled
sends_leads id draft d notes r to (turns.sends {r = sent} {s = s} small is k) e f =
    leads_weaker id e (acts_of notes) (BehindDraft (MatchesConnected id (connection_seen s d.connection.unread)) sent s) (Behind (FitsAt id to) (sent_ending sent) s) (λ m q. behind_sent (FitsAt id to) sent s m q)
    (drafting_fits id d.connection.unread draft d.connection.state notes sent s k small e f)

holding_leads : (id : Identity) → Triple id state_at (FitsAt id) (SendPending id) (FitsAt id)
holding_leads id d notes r to (turns.empty is) e f = leads_nowhere id e (FitsAt id d) f
holding_leads id d notes r to (turns.holds draft is k) e f = sends_leads id draft d notes r to k e f

-- a draft that the application gives, or that is in hand
pub offered_leads : (id : Identity) → Triple id state_at (FitsAt id) (OfferDraft id) (FitsAt id)
offered_leads id d notes r to (turns.not_up other) e f = leads_nowhere id e (FitsAt id d) f
offered_leads id d notes r to (turns.asked {notes = more} given up empty k) e f = holding_leads id (turns.turn_seen d.connection (record { draft = given; store_failed = d.pending.store_failed })) more r to k e f
offered_leads id d notes r to (turns.was_in_hand draft up is k) e f = sends_leads id draft d notes r to k e f
