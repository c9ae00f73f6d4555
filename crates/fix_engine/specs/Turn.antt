-- The turns of a session: a draft of the application is sent, what comes over the connection is answered, the clock
-- is read, and the expected number is kept.
use Rattle.std.specs.Prelude.{◌≡◌, ◌≢◌, ◌<◌, ◌≤◌, ◌==◌, ◌&&◌, ◌∷◌, ◌++◌, if◌then◌else◌, nat_lt, ℕ, List, [], true}
use Rattle.std.specs.Prelude.{false, Bool, Option, Some, None, option_map, Result, Ok, Err, ⊤, replicate, length}
use Rattle.fix_base.specs.declared.identity.Identity.{Identity}
use Rattle.fix_base.specs.declared.act.Act.TheVariants as act
use Rattle.fix_base.specs.Session.{IsValidIdentity}
use Rattle.fix_base.specs.declared.bytes.OutOfMemory.{OutOfMemory}
use Rattle.fix_base.specs.Trace.{Note, Did, Asked, OutsideSeen}
use Rattle.fix_fields.specs.Drafted.{DraftText, IsDraft, draft_body}
use Rattle.fix_engine.specs.declared.pending.PendingDraft.{PendingDraft}
use Rattle.fix_engine.specs.declared.stop.SendFault.{SendFault}
use Rattle.fix_engine.specs.declared.work.Work.{Work}
use Rattle.fix_engine.specs.State.{State, Up, Ending, IsInRange}
use Rattle.fix_engine.specs.declared.state.Ending.TheVariants as ending
use Rattle.fix_engine.specs.Fold.{Each, AndThen}
use Rattle.fix_engine.specs.Reading.{ConnectionSeen, connection_seen, ReadFrames, ReadClock, StoreExpected, down}
use Rattle.fix_engine.specs.Faults.{settles_of, is_cut_of, is_store_fault, sent_ending}
use Rattle.fix_engine.specs.Drafted.{Drafting}

-- ---- the draft in hand

abbrev pub no_draft : PendingDraft
no_draft = record { draft = None; store_failed = false }

abbrev pub pending_draft : DraftText → PendingDraft
pending_draft d = record { draft = Some d; store_failed = false }

-- a draft is in hand until its entry is kept, which takes a number. Where the store failed, that was tried
abbrev pub pending_after : {T : Type 0} → DraftText → ℕ → ℕ → Result T SendFault → PendingDraft
pending_after d before last r = if last == before then
    record { draft = Some d; store_failed = is_store_fault r } else no_draft

-- A store was opened again, and tells its last number. Where keeping the draft was tried, and the store has
-- an entry more than the session counted, this is the draft's, and it is in hand no more
abbrev pub pending_reopened : PendingDraft → ℕ → ℕ → PendingDraft
pending_reopened h before last = if h.store_failed && nat_lt before last then no_draft else
    record { draft = h.draft; store_failed = false }

-- ---- a turn

-- a session on a connection, with the draft that it has in hand
pub record TurnSeen : Type 0 where
  pub connection : ConnectionSeen
  pub pending : PendingDraft

abbrev pub turn_seen : ConnectionSeen → PendingDraft → TurnSeen
turn_seen l h = record { connection = l; pending = h }

-- what contracts see of what a turn works on
abbrev pub work_seen : Work → TurnSeen
work_seen w = turn_seen (connection_seen w.state w.reader.unread) w.pending

-- What each part of a turn is called with, and what it leaves: the identity is valid, the numbers are in range, the
-- store is open with so many entries, if it is open, and there is room for one read.
pub record IsReadyToTurn (id : Identity) (w : OutsideSeen) (open_at : Option ℕ) (work : Work) : Type 0 where
  pub valid : IsValidIdentity id
  pub range : IsInRange work.state
  pub opens : w.open_at ≡ open_at
  pub room : length work.room.items ≡ 65536

-- the draft is sent under the next number, if there is one
pub data SendDraft (id : Identity) (draft : DraftText) (d : TurnSeen) : List Note → Result ⊤ Ending → TurnSeen
    → Type 0 where
  spent : 999999999 ≤ d.connection.state.last
      → SendDraft id draft d [] (Err ending.NumbersSpent) (turn_seen d.connection (pending_draft draft))
  sends : {notes : List Note} {r : Result ℕ SendFault} {s : State} → d.connection.state.last < 999999999
      → IsDraft draft →
      Drafting id draft d.connection.state notes r s →
      SendDraft id draft d notes (sent_ending r)
      (turn_seen (connection_seen s d.connection.unread) (pending_after draft d.connection.state.last s.last r))

-- what is in hand is sent, if there is a draft
pub data SendPending (id : Identity) (d : TurnSeen) : List Note → Result ⊤ Ending → TurnSeen → Type 0 where
  empty : d.pending.draft ≡ None → SendPending id d [] (Ok tt) d
  holds : {notes : List Note} {r : Result ⊤ Ending} {to : TurnSeen} (draft : DraftText) → d.pending.draft ≡ Some draft →
      SendDraft id draft d notes r to → SendPending id d notes r to

-- in phase Up the application is asked for a draft once, unless one is in hand, and what is in hand then is sent
pub data OfferDraft (id : Identity) (d : TurnSeen) : List Note → Result ⊤ Ending → TurnSeen → Type 0 where
  not_up : d.connection.state.phase ≢ Up → OfferDraft id d [] (Ok tt) d
  asked : {notes : List Note} {r : Result ⊤ Ending} {to : TurnSeen} (given : Option DraftText)
      → d.connection.state.phase ≡ Up →
      d.pending.draft ≡ None
      → SendPending id
      (turn_seen d.connection (record { draft = given; store_failed = d.pending.store_failed })) notes r to →
      OfferDraft id d (Asked (option_map draft_body given) ∷ notes) r to
  was_in_hand : {notes : List Note} {r : Result ⊤ Ending} {to : TurnSeen} (draft : DraftText)
      → d.connection.state.phase ≡ Up →
      d.pending.draft ≡ Some draft → SendDraft id draft d notes r to → OfferDraft id d notes r to

-- what leaves the draft in hand as it is
pub data Beside (R : ConnectionSeen → List Note → Result ⊤ Ending → ConnectionSeen
    → Type 0) (d : TurnSeen) : List Note → Result ⊤ Ending →
    TurnSeen → Type 0 where
  beside : {notes : List Note} {r : Result ⊤ Ending} {to : ConnectionSeen} → R d.connection notes r to →
      Beside R d notes r (turn_seen to d.pending)

-- a draft, then one read with the frames that it completes, and one look at the clock
abbrev pub SendReadClock : Identity → TurnSeen → List Note → Result ⊤ Ending → TurnSeen → Type 0
SendReadClock id = AndThen (OfferDraft id) (Beside (AndThen (ReadFrames id) ReadClock))

-- one turn. A fault of keeping the expected number goes before how the rest ended
pub data Turn (id : Identity) (d : TurnSeen) : List Note → Result ⊤ Ending → TurnSeen → Type 0 where
  stops : {to : TurnSeen} {met : Result ⊤ Ending} {notes : List Note} → settles_of met ≡ false
      → SendReadClock id d notes met to →
      Turn id d notes met to
  keeps : {mid to : TurnSeen} {met : Result ⊤ Ending} {first more : List Note} → settles_of met ≡ true →
      SendReadClock id d first met mid → Beside StoreExpected mid more (Ok tt) to → Turn id d (first ++ more) met to
  keeps_not : {mid to : TurnSeen} {met : Result ⊤ Ending} {first more : List Note} {e : Ending} → settles_of met
      ≡ true →
      SendReadClock id d first met mid → Beside StoreExpected mid more (Err e) to → Turn id d (first ++ more) (Err e) to

abbrev pub OneTurn : Identity → TurnSeen → ⊤ → List Note → Result ⊤ Ending → TurnSeen → Type 0
OneTurn id d u = Turn id d

-- at most n turns
abbrev pub TakeTurns : Identity → ℕ → TurnSeen → List Note → Result ⊤ Ending → TurnSeen → Type 0
TakeTurns id n d = Each (OneTurn id) d (replicate n tt)

abbrev pub put_down : TurnSeen → TurnSeen
put_down d = turn_seen (down d.connection) d.pending

-- a connection ends: Cut is noted, or it isn't to be
pub data EndsConnection : Bool → Result ⊤ OutOfMemory → List Note → Type 0 where
  not_cut : EndsConnection false (Ok tt) []
  was_cut : EndsConnection true (Ok tt) (Did act.Cut ∷ [])
  no_memory_to_cut : (why : OutOfMemory) → EndsConnection true (Err why) []

-- the turns, and what is noted after their end
pub data RunAndCut (id : Identity) (n : ℕ) (d : TurnSeen) : List Note → Result ⊤ Ending → TurnSeen → Type 0 where
  all_turns : {to : TurnSeen} {notes : List Note} → TakeTurns id n d notes (Ok tt) to
      → RunAndCut id n d notes (Ok tt) to
  cut : {to : TurnSeen} {notes : List Note} {e : Ending} → is_cut_of e ≡ true → TakeTurns id n d notes (Err e) to →
      RunAndCut id n d (notes ++ Did act.Cut ∷ []) (Err e) (put_down to)
  cut_memory : {to : TurnSeen} {notes : List Note} {e : Ending} → is_cut_of e ≡ true
      → TakeTurns id n d notes (Err e) to →
      RunAndCut id n d notes (Err ending.OutOfMemory) (put_down to)
  no_cut : {to : TurnSeen} {notes : List Note} {e : Ending} → is_cut_of e ≡ false → TakeTurns id n d notes (Err e) to →
      RunAndCut id n d notes (Err e) (put_down to)
