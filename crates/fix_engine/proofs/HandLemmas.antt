-- The draft in hand, and the turn that sends it.
use Rattle.std.proofs.Common.{◌≡◌, ℕ, ◌<◌, ◌≤◌, List, [], ◌∷◌, Bool, true, false, ◌==◌, if◌then◌else◌, Option, Some}
use Rattle.std.proofs.Common.{None, option_map, Result, Err, refl, sym, ap, ◌∙◌, subst}
use Rattle.std.specs.Prelude.{⊤, is_some, IfSome}
use Rattle.fix_base.specs.declared.identity.Identity.{Identity}
use Rattle.fix_base.specs.Trace.{Note, Asked}
use Rattle.fix_fields.specs.Drafted.{DraftText, IsDraft, draft_body}
use Rattle.fix_engine.specs.declared.pending.PendingDraft.{PendingDraft}
use Rattle.fix_engine.specs.declared.stop.SendFault.{SendFault}
use Rattle.fix_engine.specs.declared.state.Ending.TheVariants as ending
use Rattle.fix_engine.specs.State.{State, Up, Ending}
use Rattle.fix_engine.specs.Drafted.{Drafting}
use Rattle.fix_engine.specs.Reading.{connection_seen}
use Rattle.fix_engine.specs.Turn.{TurnSeen, turn_seen, no_draft, spent, sends, SendPending, empty, holds, OfferDraft, asked}
use Rattle.fix_engine.specs.Turn.{was_in_hand}
use Rattle.fix_engine.specs.Faults.{is_store_fault, sent_ending}

-- what is in hand was sent, and it stays there where it took no number
pub sent_in_hand : (id : Identity) (draft : DraftText) (d : TurnSeen) (notes : List Note) (r : Result ℕ SendFault)
    (s : State) (pending : PendingDraft) (lost : Bool) (e : Result ⊤ Ending) → d.pending.draft ≡ Some draft →
    d.connection.state.last < 999999999 → IfSome d.pending.draft IsDraft → lost ≡ is_store_fault r →
    pending ≡ (if s.last == d.connection.state.last then record { draft = d.pending.draft; store_failed = lost } else no_draft) →
    e ≡ sent_ending r → Drafting id draft d.connection.state notes r s →
    SendPending id d notes e (turn_seen (connection_seen s d.connection.unread) pending)
sent_in_hand id draft d notes r s pending lost e some small drafts lost_is hand_is ended k =
    let behind = hand_is
    ∙ ap (λ (o : Option DraftText). if s.last == d.connection.state.last then record { draft = o; store_failed = lost }
    else no_draft) some
    ∙ ap (λ (b : Bool). if s.last == d.connection.state.last then record { draft = Some draft; store_failed = b } else no_draft)
    lost_is in
    subst (λ (x : Result ⊤ Ending). SendPending id d notes x (turn_seen (connection_seen s d.connection.unread) pending)) (sym ended)
    (subst (λ (h : PendingDraft). SendPending id d notes (sent_ending r) (turn_seen (connection_seen s d.connection.unread) h)) (sym behind)
    (holds draft some (sends small (subst (λ (o : Option DraftText). IfSome o IsDraft) some drafts) k)))

-- no number is left, and it stays in hand
pub spent_in_hand : (id : Identity) (draft : DraftText) (d : TurnSeen) → d.pending.draft ≡ Some draft →
    999999999 ≤ d.connection.state.last → SendPending id d [] (Err ending.NumbersSpent)
    (turn_seen d.connection (record { draft = d.pending.draft; store_failed = false }))
spent_in_hand id draft d some full =
    subst (λ (o : Option DraftText). SendPending id d [] (Err ending.NumbersSpent)
    (turn_seen d.connection (record { draft = o; store_failed = false }))) (sym some)
    (holds draft some (spent full))

none_is_some : (x : Option DraftText) → x ≡ None → is_some x ≡ true → ⊥
none_is_some x none some = cc

is_none : (x : Option DraftText) → is_some x ≡ false → x ≡ None
is_none None h = refl
is_none (Some d) h = cc

-- a draft is in hand
pub offered_held : (id : Identity) (d : TurnSeen) (notes : List Note) (r : Result ⊤ Ending) (to : TurnSeen) →
    d.connection.state.phase ≡ Up → is_some d.pending.draft ≡ true → SendPending id d notes r to → OfferDraft id d notes r to
offered_held id d notes r to up some (empty none) = absurd (none_is_some d.pending.draft none some)
offered_held id d notes r to up some (holds draft is k) = was_in_hand draft up is k

-- none is, and the application is asked
pub offered_asked : (id : Identity) (d : TurnSeen) (pending : PendingDraft) (notes : List Note) (r : Result ⊤ Ending) (to : TurnSeen) →
    d.connection.state.phase ≡ Up → is_some d.pending.draft ≡ false → pending.store_failed ≡ d.pending.store_failed →
    SendPending id (turn_seen d.connection pending) notes r to → OfferDraft id d (Asked (option_map draft_body pending.draft) ∷ notes) r to
offered_asked id d pending notes r to up none same k =
    asked pending.draft up (is_none d.pending.draft none)
    (subst (λ (t : Bool). SendPending id (turn_seen d.connection (record { draft = pending.draft; store_failed = t })) notes r to) same k)
