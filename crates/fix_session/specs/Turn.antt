-- The turns of a session: a draft of the application is staged, what comes over the connection is answered, the clock is
-- looked at, and all is kept and written.
use Rattle.std.specs.Prelude.{◌≡◌, ◌≢◌, ◌<◌, ◌≤◌, ℕ, List, [], ◌∷◌, ◌++◌, length, replicate, Bool, true, false}
use Rattle.std.specs.Prelude.{Option, None, is_some, option_map, Result, Ok, Err, ⊤}
use Rattle.fix_base.specs.declared.identity.Identity.{Identity}
use Rattle.fix_base.specs.declared.bytes.OutOfMemory.{OutOfMemory}
use Rattle.fix_base.specs.Stream.{UnreadBytes}
use Rattle.fix_fields.specs.Drafted.{DraftText, draft_body}
use Rattle.fix_frame.specs.Given.{GivesFrame, GivesNone}
use Rattle.fix_outside.specs.Outside.{Bytes, NothingYet, TheEnd, ReadFailed, NoMemory}
use Rattle.fix_outside.specs.Calls.{Call, Look, Mark, Read, Ask}
use Rattle.fix_machine.specs.declared.state.Phase.TheVariants.{Up}
use Rattle.fix_machine.specs.declared.event.Why.TheVariants.{PeerEnd}
use Rattle.fix_machine.specs.Event.{First, Clock, Wrote}
use Rattle.fix_machine.specs.State.{closed, resumed_at}
use Rattle.fix_stage.specs.Combine.{Each, AndThen, Lifted}
use Rattle.fix_stage.specs.declared.sender.Sender.{Sender}
use Rattle.fix_stage.specs.declared.fault.StageFault.{StageFault}
use Rattle.fix_stage.specs.Sender.{with_numbers, with_reading, with_pending, given_draft, sender_down}
use Rattle.fix_stage.specs.Staging.{StagesPending}
use Rattle.fix_stage.specs.Flush.{Settled}
use Rattle.fix_steps.specs.Ending.{ending_of}
use Rattle.fix_steps.specs.declared.ending.Ending.{Ending}
use Rattle.fix_steps.specs.declared.ending.Ending.TheVariants as ending
use Rattle.fix_session.specs.Judged.{RulesSeen}
use Rattle.fix_session.specs.State.{State, sender_of, with_sender}
use Rattle.fix_session.specs.Answering.{same_ending, Answers, Receives}
use Rattle.fix_session.specs.Work.{WorkSeen, state_of, with_state, with_unread, fed}

-- something of sending is done in a turn
abbrev pub Sending : (Sender → List Call → Result ⊤ StageFault → Sender → Type 0) → State → List Call
    → Result ⊤ Ending → State → Type 0
Sending R = Lifted sender_of with_sender ending_of R

-- what leaves the unread bytes as they are
abbrev pub Beside : (State → List Call → Result ⊤ Ending → State → Type 0) → WorkSeen → List Call → Result ⊤ Ending
    → WorkSeen → Type 0
Beside R = Lifted state_of with_state same_ending R

-- ---- 1. the session's own Logon, or a draft of the application

-- a message was staged at the last reading
abbrev pub Noted : Identity → State → List Call → Result ⊤ Ending → State → Type 0
Noted id s = Answers id (Wrote s.sender.numbers.reading) s

-- the draft in hand is staged, if there is one
pub data StagesDraft (id : Identity) (s : State) : List Call → Result ⊤ Ending → State → Type 0 where
  no_draft : is_some s.sender.pending.draft ≡ false → StagesDraft id s [] (Ok tt) s
  drafts : {calls : List Call} {r : Result ⊤ Ending} {to : State} → is_some s.sender.pending.draft ≡ true
      → AndThen (Sending (StagesPending id)) (Noted id) s calls r to → StagesDraft id s calls r to

abbrev pub given : State → Option DraftText → State
given s draft = with_sender s (with_pending s.sender (given_draft s.sender.pending draft))

-- the application is asked for a draft once, unless one is in hand
pub data OffersDraft (id : Identity) (s : State) : List Call → Result ⊤ Ending → State → Type 0 where
  asks : {calls : List Call} {r : Result ⊤ Ending} {to : State} (draft : Option DraftText)
      → is_some s.sender.pending.draft ≡ false → StagesDraft id (given s draft) calls r to
      → OffersDraft id s (Ask (option_map draft_body draft) ∷ calls) r to
  in_hand : {calls : List Call} {r : Result ⊤ Ending} {to : State} → is_some s.sender.pending.draft ≡ true
      → StagesDraft id s calls r to → OffersDraft id s calls r to

abbrev pub logged_on : State → State
logged_on s = record s { logon_due = false }

-- an initiator begins with its Logon, and drafts are sent in phase Up
pub data Offers (id : Identity) (s : State) : List Call → Result ⊤ Ending → State → Type 0 where
  logs_on : {calls : List Call} {r : Result ⊤ Ending} {to : State} → s.logon_due ≡ true
      → Answers id First (logged_on s) calls r to → Offers id s calls r to
  not_up : s.logon_due ≡ false → s.machine.state.phase ≢ Up → Offers id s [] (Ok tt) s
  is_up : {calls : List Call} {r : Result ⊤ Ending} {to : State} → s.logon_due ≡ false
      → s.machine.state.phase ≡ Up → OffersDraft id s calls r to → Offers id s calls r to

-- ---- 2. one read

-- the frames that stand whole in the bytes, in order, until one ends the run
pub data ReceivesAll (id : Identity) (rules : RulesSeen) : WorkSeen → List Call → Result ⊤ Ending → WorkSeen → Type 0 where
  no_more : {w : WorkSeen} (after : UnreadBytes) → GivesNone w.unread after
      → ReceivesAll id rules w [] (Ok tt) (with_unread w after)
  ends : {w : WorkSeen} {s : State} {calls : List Call} {e : Ending} (frame : List ℕ) (after : UnreadBytes)
      → GivesFrame w.unread after frame → Receives id rules frame w.state calls (Err e) s
      → ReceivesAll id rules w calls (Err e) (record { state = s; unread = after })
  goes : {w to : WorkSeen} {s : State} {first more : List Call} {r : Result ⊤ Ending} (frame : List ℕ)
      (after : UnreadBytes) → GivesFrame w.unread after frame → Receives id rules frame w.state first (Ok tt) s
      → ReceivesAll id rules (record { state = s; unread = after }) more r to
      → ReceivesAll id rules w (first ++ more) r to

-- these bytes came, and the frames that they complete
pub data Feeds (id : Identity) (rules : RulesSeen) (bytes : List ℕ) (w : WorkSeen) : List Call → Result ⊤ Ending
    → WorkSeen → Type 0 where
  feeds : {calls : List Call} {r : Result ⊤ Ending} {to : WorkSeen}
      → ReceivesAll id rules (with_unread w (fed w.unread bytes)) calls r to → Feeds id rules bytes w calls r to
  -- out of memory for the bytes
  not_fed : Feeds id rules bytes w [] (Err ending.OutOfMemory) w

-- one read, which has room for 65,536 bytes
pub data Reads (id : Identity) (rules : RulesSeen) (w : WorkSeen) : List Call → Result ⊤ Ending → WorkSeen → Type 0 where
  bytes : {calls : List Call} {r : Result ⊤ Ending} {to : WorkSeen} (b : List ℕ) → 0 < length b → length b ≤ 65536
      → Feeds id rules b w calls r to → Reads id rules w (Read 65536 (Bytes b) ∷ calls) r to
  idle : Reads id rules w (Read 65536 NothingYet ∷ []) (Ok tt) w
  over : Reads id rules w (Read 65536 TheEnd ∷ []) (Err (ending.Closed PeerEnd)) w
  read_lost : Reads id rules w (Read 65536 ReadFailed ∷ []) (Err ending.LinkFault) w
  read_memory : Reads id rules w (Read 65536 NoMemory ∷ []) (Err ending.OutOfMemory) w

-- ---- 3. one look at the clock

abbrev pub read_at : State → ℕ → State
read_at s time = with_sender s (with_numbers s.sender (with_reading s.sender.numbers time))

-- what is due then is done
pub data Looks (id : Identity) (s : State) : List Call → Result ⊤ Ending → State → Type 0 where
  looks : {calls : List Call} {r : Result ⊤ Ending} {to : State} (time : ℕ)
      → Answers id (Clock time true) (read_at s time) calls r to → Looks id s (Look (Ok time) ∷ calls) r to
  look_memory : (e : OutOfMemory) → Looks id s (Look (Err e) ∷ []) (Err ending.OutOfMemory) s

-- ---- a turn

abbrev pub Meets : Identity → RulesSeen → WorkSeen → List Call → Result ⊤ Ending → WorkSeen → Type 0
Meets id rules = AndThen (Beside (Offers id)) (AndThen (Reads id rules) (Beside (Looks id)))

-- 4. what is staged is kept with the expected number, and written: also after a close, and after a fault of the
-- connection or of the application
abbrev pub settles_of : Result ⊤ Ending → Bool
settles_of (Ok x) = true
settles_of (Err (ending.Closed why)) = true
settles_of (Err ending.LinkFault) = true
settles_of (Err ending.AppFault) = true
settles_of (Err ending.StoreFault) = false
settles_of (Err ending.NumbersSpent) = false
settles_of (Err ending.OutOfMemory) = false

-- after this the expected number is the one that is kept, unless the store failed, no number was left or it was out of
-- memory
abbrev pub IsKept : Result ⊤ Ending → State → Type 0
IsKept (Ok x) s = s.sender.numbers.stored_expected ≡ s.sender.numbers.expected
IsKept (Err (ending.Closed why)) s = s.sender.numbers.stored_expected ≡ s.sender.numbers.expected
IsKept (Err ending.LinkFault) s = s.sender.numbers.stored_expected ≡ s.sender.numbers.expected
IsKept (Err ending.AppFault) s = s.sender.numbers.stored_expected ≡ s.sender.numbers.expected
IsKept (Err ending.StoreFault) s = ⊤
IsKept (Err ending.NumbersSpent) s = ⊤
IsKept (Err ending.OutOfMemory) s = ⊤

abbrev pub Settles : WorkSeen → List Call → Result ⊤ Ending → WorkSeen → Type 0
Settles = Beside (Sending Settled)

-- one turn. A fault of the last part goes before how the rest ended
pub data Turn (id : Identity) (rules : RulesSeen) (w : WorkSeen) : List Call → Result ⊤ Ending → WorkSeen → Type 0 where
  stops : {to : WorkSeen} {met : Result ⊤ Ending} {calls : List Call} → settles_of met ≡ false
      → Meets id rules w calls met to → Turn id rules w calls met to
  settles : {mid to : WorkSeen} {met : Result ⊤ Ending} {first more : List Call} → settles_of met ≡ true
      → Meets id rules w first met mid → Settles mid more (Ok tt) to → Turn id rules w (first ++ more) met to
  settles_not : {mid to : WorkSeen} {met : Result ⊤ Ending} {first more : List Call} {e : Ending}
      → settles_of met ≡ true → Meets id rules w first met mid → Settles mid more (Err e) to
      → Turn id rules w (first ++ more) (Err e) to

abbrev pub OneTurn : Identity → RulesSeen → WorkSeen → ⊤ → List Call → Result ⊤ Ending → WorkSeen → Type 0
OneTurn id rules w u = Turn id rules w

-- at most n turns
abbrev pub Turns : Identity → RulesSeen → ℕ → WorkSeen → List Call → Result ⊤ Ending → WorkSeen → Type 0
Turns id rules n w = Each (OneTurn id rules) w (replicate n tt)

-- ---- the end of a connection

-- whether Cut is noted after this
abbrev pub is_cut_of : Ending → Bool
is_cut_of (ending.Closed why) = true
is_cut_of ending.LinkFault = true
is_cut_of ending.AppFault = true
is_cut_of ending.NumbersSpent = true
is_cut_of ending.StoreFault = false
is_cut_of ending.OutOfMemory = false

-- the session is Down, with the numbers that its sender has. What is staged and isn't kept is given up
abbrev pub left : State → State
left s = record {
  machine = record {
    options = s.machine.options;
    state = resumed_at (record {
      last = s.sender.numbers.last;
      expected = s.sender.numbers.expected;
      since = None;
      asked = s.asked;
    }) (closed s.machine.state);
  };
  sender = sender_down s.sender;
  waiting = s.waiting;
  asked = s.asked;
  logon_due = false;
}

pub data Leaves (s : State) : Bool → List Call → Result ⊤ Ending → State → Type 0 where
  not_cut : Leaves s false [] (Ok tt) (left s)
  is_cut : Leaves s true (Mark true (Ok tt) ∷ []) (Ok tt) (left s)
  cut_memory : (e : OutOfMemory) → Leaves s true (Mark true (Err e) ∷ []) (Err ending.OutOfMemory) (left s)

-- the turns, and the end of the connection after one that ended the run
pub data Runs (id : Identity) (rules : RulesSeen) (n : ℕ) (w : WorkSeen) : List Call → Result ⊤ Ending → WorkSeen
    → Type 0 where
  all_turns : {to : WorkSeen} {calls : List Call} → Turns id rules n w calls (Ok tt) to → Runs id rules n w calls (Ok tt) to
  ended : {mid : WorkSeen} {s : State} {first more : List Call} {e : Ending} → Turns id rules n w first (Err e) mid
      → Leaves mid.state (is_cut_of e) more (Ok tt) s → Runs id rules n w (first ++ more) (Err e) (with_state mid s)
  ended_short : {mid : WorkSeen} {s : State} {first more : List Call} {e f : Ending}
      → Turns id rules n w first (Err e) mid → Leaves mid.state (is_cut_of e) more (Err f) s
      → Runs id rules n w (first ++ more) (Err f) (with_state mid s)
