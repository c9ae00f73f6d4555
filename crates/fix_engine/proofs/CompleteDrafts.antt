-- The sending of a draft is complete.
use Rattle.std.proofs.Common.{◌≡◌, ◌≢◌, inl, inr, ℕ, ◌+◌, ◌<◌, List, [], ◌∷◌, ◌++◌, true}
use Rattle.std.proofs.Common.{Option, Some, None, Result, Ok, Err, refl, sym, subst, arith}
use Rattle.std.specs.Prelude.{⊤, ◌==◌, IfSome, option_map}
use Rattle.std.proofs.lemmas.Bool.{cases_lt}
use Rattle.fix_base.specs.declared.identity.Identity.{Identity}
use Rattle.fix_base.specs.Session.{IsValidIdentity}
use Rattle.fix_base.specs.Says.{fields_text}
use Rattle.fix_base.specs.Sealed.{sealed}
use Rattle.fix_base.specs.declared.act.Act.TheVariants as act
use Rattle.fix_base.specs.declared.entry.Record.TheVariants.{Push}
use Rattle.fix_base.specs.Trace.{Note, Did, Asked}
use Rattle.fix_fields.specs.Drafted.{DraftText, IsDraft, draft_body}
use Rattle.fix_frame.specs.Sealable.{message_text}
use Rattle.fix_engine.specs.State.{State, Phase, Down, AwaitLogon, Up, Ending, with_last}
use Rattle.fix_engine.specs.declared.state.Ending.TheVariants as ending
use Rattle.fix_engine.specs.declared.pending.PendingDraft.{PendingDraft}
use Rattle.fix_engine.specs.declared.stop.SendFault.{SendFault}
use Rattle.fix_engine.specs.Written.{header_fields}
use Rattle.fix_engine.specs.Reading.{connection_seen}
use Rattle.fix_engine.specs.Drafted as drafted
use Rattle.fix_engine.specs.Drafted.{IsOfDraft, Drafting, entry_of_draft}
use Rattle.fix_engine.specs.Turn as turns
use Rattle.fix_engine.specs.Turn.{TurnSeen, turn_seen, SendDraft, OfferDraft}
use Rattle.fix_engine.specs.Turn.{pending_after, no_draft, pending_draft}
use Rattle.fix_engine.specs.Faults.{settles_of, sent_ending, is_store_fault}
use Rattle.fix_engine.specs.Stated.{IsFaultless}
use Rattle.fix_engine.proofs.EachTime.{each_time}
use Rattle.fix_engine.proofs.EachFrame.{sure}
use Rattle.fix_engine.proofs.Complete.{Onward, IsComplete, onward_ok}
use Rattle.fix_engine.proofs.DraftFrames.{draft_frame}
use Rattle.fix_engine.proofs.CompleteAnswers.{IsTimely, by-test, IsOnTime}

-- ---- a draft

-- what is in hand is a draft, if there is one
abbrev pub IsOfDrafts : PendingDraft → Type 0
IsOfDrafts h = IfSome h.draft IsDraft

-- and the state's reading has a text
pub record IsReady (d : TurnSeen) : Type 0 where
  pub on_time : IsOnTime d.connection
  pub drafts : IsOfDrafts d.pending

-- the frame of a draft
abbrev Framed : Identity → State → DraftText → Type 0
Framed id s draft = (text : List ℕ) × IsOfDraft id (s.last + 1) s.reading draft text

framed : (id : Identity) (s : State) (draft : DraftText) → IsValidIdentity id → s.last < 999999999 → IsTimely s →
    IsDraft draft → Framed id s draft
framed id s draft valid few timely is =
    let at = each_time s.reading timely in
    let header : List ℕ = fields_text (header_fields id (s.last + 1) at.0) in (
      sealed id.begin (message_text draft.kind header draft.rest),
      draft_frame id (s.last + 1) s.reading draft header draft.rest _ valid (omega arith) is
          (record { at = at.0; sent_at = at.1; spelled = refl }) refl refl,
    )

behind_drafts : {T : Type 0} (draft : DraftText) (before last : ℕ) (r : Result T SendFault) → IsDraft draft →
    IsOfDrafts (pending_after draft before last r)
behind_drafts draft before last r is = by-test IsOfDrafts (last == before)
    (record { draft = Some draft; store_failed = is_store_fault r }) no_draft is tt

-- the draft is kept and written, of which this is noted so far
abbrev draft_notes : State → DraftText → List ℕ → List Note
draft_notes s draft text = Did (act.Kept (Push (entry_of_draft s draft))) ∷ Did (act.Wrote text) ∷ []

draft_onward : (id : Identity) (draft : DraftText) (d : TurnSeen) (notes more : List Note) (text : List ℕ) →
    IsOnTime d.connection → d.connection.state.last < 999999999 → IsDraft draft → d.connection.state.phase ≡ Up →
    IsOfDraft id (d.connection.state.last + 1) d.connection.state.reading draft text → IsFaultless more →
    notes ++ more ≡ draft_notes d.connection.state draft text → Onward IsReady (SendDraft id draft) d notes
draft_onward id draft d notes more text ok few is up framed calm same =
    let s = d.connection.state in
    let sent : Result ℕ SendFault = Ok (s.last + 1) in
    let to = turn_seen (connection_seen (with_last s (s.last + 1)) d.connection.unread) (pending_after draft s.last (s.last + 1) sent) in
    record {
      more = more;
      faultless = calm;
      r = Ok tt;
      to = to;
      good = record { on_time = ok; drafts = behind_drafts draft s.last (s.last + 1) sent is };
      whole = subst (λ w. SendDraft id draft d w (Ok tt) to) (sym same)
          (turns.sends few is (drafted.sent text up framed (drafted.was_kept is)));
      no_want = λ h. cc;
    }

SendDraft-total : (id : Identity) → IsValidIdentity id → (draft : DraftText) (d : TurnSeen) → IsOnTime d.connection →
    IsDraft draft → d.connection.state.phase ≡ Up → Onward IsReady (SendDraft id draft) d []
SendDraft-total id valid draft d ok is up =
    elim (cases_lt d.connection.state.last 999999999) [
      | inr h ↦ record {
        more = [];
        faultless = tt;
        r = Err ending.NumbersSpent;
        to = turn_seen d.connection (pending_draft draft);
        good = record { on_time = ok; drafts = is };
        whole = turns.spent h;
        no_want = λ h. cc;
      }
      | inl h ↦ (let t = framed id d.connection.state draft valid h ok is in
          draft_onward id draft d [] (draft_notes d.connection.state draft t.0) t.0 ok h is up t.1 tt refl)
    ]

draft_resumes : (id : Identity) → IsValidIdentity id →
    (draft : DraftText) (d : TurnSeen) (notes : List Note) (r : Result ℕ SendFault) (s' : State) → IsOnTime d.connection →
    d.connection.state.last < 999999999 → IsDraft draft → d.connection.state.phase ≡ Up → sent_ending r ≡ Err ending.OutOfMemory →
    Drafting id draft d.connection.state notes r s' → Onward IsReady (SendDraft id draft) d notes
draft_resumes id valid draft d notes r s' ok few is up want drafted.no_memory =
    let t = framed id d.connection.state draft valid few ok is in
    draft_onward id draft d [] (draft_notes d.connection.state draft t.0) t.0 ok few is up t.1 tt refl
draft_resumes id valid draft d notes r s' ok few is up want (drafted.write_memory up' (drafted.was_kept is')) =
    let t = framed id d.connection.state draft valid few ok is in
    draft_onward id draft d notes (Did (act.Wrote t.0) ∷ []) t.0 ok few is up t.1 tt refl
draft_resumes id valid draft d notes r s' ok few is up want (drafted.lost k) = absurd cc
draft_resumes id valid draft d notes r s' ok few is up want (drafted.stored other k) = absurd cc
draft_resumes id valid draft d notes r s' ok few is up want (drafted.sent text up' said k) = absurd cc
draft_resumes id valid draft d notes r s' ok few is up want (drafted.write_lost text n up' said k) = absurd cc

SendDraft-resumes : (id : Identity) → IsValidIdentity id →
    (draft : DraftText) (d : TurnSeen) (notes : List Note) (r : Result ⊤ Ending) (to : TurnSeen) → IsOnTime d.connection →
    d.connection.state.phase ≡ Up → r ≡ Err ending.OutOfMemory → SendDraft id draft d notes r to →
    Onward IsReady (SendDraft id draft) d notes
SendDraft-resumes id valid draft d notes r to ok up want (turns.spent few) = absurd cc
SendDraft-resumes id valid draft d notes r to ok up want (turns.sends {r = sent} {s = s} few is k) =
    draft_resumes id valid draft d notes sent s ok few is up want k

-- a draft changes no reading
draft_timely : (id : Identity) (draft : DraftText) (s : State) (notes : List Note) (r : Result ℕ SendFault)
    (s' : State) → IsTimely s → Drafting id draft s notes r s' → IsTimely s'
draft_timely id draft s notes r s' ok drafted.no_memory = ok
draft_timely id draft s notes r s' ok (drafted.lost (drafted.kept_lost is)) = ok
draft_timely id draft s notes r s' ok (drafted.stored other (drafted.was_kept is)) = ok
draft_timely id draft s notes r s' ok (drafted.sent text up said (drafted.was_kept is)) = ok
draft_timely id draft s notes r s' ok (drafted.write_lost text n up said (drafted.was_kept is)) = ok
draft_timely id draft s notes r s' ok (drafted.write_memory up (drafted.was_kept is)) = ok

SendDraft-settles : (id : Identity) (draft : DraftText) (d : TurnSeen) (notes : List Note) (r : Result ⊤ Ending) (to : TurnSeen) →
    settles_of r ≡ true → IsOnTime d.connection → SendDraft id draft d notes r to → IsReady to
SendDraft-settles id draft d notes r to h ok (turns.spent few) = absurd cc
SendDraft-settles id draft d notes r to h ok (turns.sends {r = sent} {s = s} few is k) =
    record {
      on_time = draft_timely id draft d.connection.state notes sent s ok k;
      drafts = behind_drafts draft d.connection.state.last s.last sent is;
    }

in_hand_is : (h : PendingDraft) (draft : DraftText) → IsOfDrafts h → h.draft ≡ Some draft → IsDraft draft
in_hand_is h draft ok some = subst (λ (x : Option DraftText). IfSome x IsDraft) some ok

-- the application was asked, and has none
asked_none : (id : Identity) (d : TurnSeen) → IsReady d → d.connection.state.phase ≡ Up → d.pending.draft ≡ None →
    Onward IsReady (OfferDraft id) d []
asked_none id d ok up free = record {
  more = Asked None ∷ [];
  faultless = tt;
  r = Ok tt;
  to = turn_seen d.connection (record { draft = None; store_failed = d.pending.store_failed });
  good = record { on_time = ok.on_time; drafts = tt };
  whole = turns.asked None up free (turns.empty refl);
  no_want = λ h. cc;
}

hand_onward : (id : Identity) (d : TurnSeen) (draft : DraftText) (notes : List Note) → d.connection.state.phase ≡ Up →
    d.pending.draft ≡ Some draft → Onward IsReady (SendDraft id draft) d notes → Onward IsReady (OfferDraft id) d notes
hand_onward id d draft notes up some t =
    record {
      more = t.more;
      faultless = t.faultless;
      r = t.r;
      to = t.to;
      good = t.good;
      whole = turns.was_in_hand draft up some t.whole;
      no_want = t.no_want;
    }

OfferDraft-up : (id : Identity) → IsValidIdentity id → (d : TurnSeen) → IsReady d → d.connection.state.phase ≡ Up →
    Onward IsReady (OfferDraft id) d []
OfferDraft-up id valid d ok up = by-hand d.pending.draft refl
  where
    by-hand : (x : Option DraftText) → d.pending.draft ≡ x → Onward IsReady (OfferDraft id) d []
    by-hand None free = asked_none id d ok up free
    by-hand (Some draft) some = hand_onward id d draft [] up some
        (SendDraft-total id valid draft d ok.on_time (in_hand_is d.pending draft ok.drafts some) up)

not_up_on : (id : Identity) (d : TurnSeen) → IsReady d → d.connection.state.phase ≢ Up → Onward IsReady (OfferDraft id) d []
not_up_on id d ok other = onward_ok IsReady (OfferDraft id) d [] [] d tt ok (turns.not_up other)

offer_goes : (id : Identity) → IsValidIdentity id → (d : TurnSeen) → IsReady d → Onward IsReady (OfferDraft id) d []
offer_goes id valid d ok = by-phase d.connection.state.phase refl
  where
    by-phase : (p : Phase) → d.connection.state.phase ≡ p → Onward IsReady (OfferDraft id) d []
    by-phase Down is = not_up_on id d ok (λ h. cc)
    by-phase AwaitLogon is = not_up_on id d ok (λ h. cc)
    by-phase Up is = OfferDraft-up id valid d ok is

-- the session where the application gave this
abbrev given_to : TurnSeen → Option DraftText → TurnSeen
given_to d given = turn_seen d.connection (record { draft = given; store_failed = d.pending.store_failed })

asked_onward : (id : Identity) (d : TurnSeen) (given : Option DraftText) (draft : DraftText) (notes : List Note) →
    d.connection.state.phase ≡ Up → d.pending.draft ≡ None → given ≡ Some draft →
    Onward IsReady (SendDraft id draft) (given_to d given) notes →
    Onward IsReady (OfferDraft id) d (Asked (option_map draft_body given) ∷ notes)
asked_onward id d given draft notes up free some t =
    record {
      more = t.more;
      faultless = t.faultless;
      r = t.r;
      to = t.to;
      good = t.good;
      whole = turns.asked given up free (turns.holds draft some t.whole);
      no_want = t.no_want;
    }

offer_resumes : (id : Identity) → IsValidIdentity id → (d : TurnSeen) (notes : List Note) (to : TurnSeen) → IsReady d →
    OfferDraft id d notes (Err ending.OutOfMemory) to → Onward IsReady (OfferDraft id) d notes
offer_resumes id valid d notes to ok (turns.asked given up free (turns.holds {notes = more} draft some k)) =
    asked_onward id d given draft more up free some
    (SendDraft-resumes id valid draft (given_to d given) more (Err ending.OutOfMemory) to ok.on_time up refl k)
offer_resumes id valid d notes to ok (turns.was_in_hand draft up some k) = hand_onward id d draft notes up some
    (SendDraft-resumes id valid draft d notes (Err ending.OutOfMemory) to ok.on_time up refl k)

offer_stays : (id : Identity) (d : TurnSeen) (notes : List Note) (r : Result ⊤ Ending) (to : TurnSeen) →
    settles_of r ≡ true → IsReady d → OfferDraft id d notes r to → IsReady to
offer_stays id d notes r to h ok (turns.not_up other) = ok
offer_stays id d notes r to h ok (turns.asked given up free (turns.empty nothing)) =
    record { on_time = ok.on_time; drafts = subst (λ (x : Option DraftText). IfSome x IsDraft) (sym nothing) tt }
offer_stays id d notes r to h ok (turns.asked given up free (turns.holds {notes = more} draft some k)) =
    SendDraft-settles id draft (given_to d given) more r to h ok.on_time k
offer_stays id d notes r to h ok (turns.was_in_hand draft up some k) = SendDraft-settles id draft d notes r to h ok.on_time k

pub offer_complete : (id : Identity) → IsValidIdentity id → IsComplete IsReady (OfferDraft id)
offer_complete id valid = record {
  total = λ d ok. sure (offer_goes id valid d ok);
  resumes = λ d notes to ok k. sure (offer_resumes id valid d notes to ok k);
  stays = offer_stays id;
}
