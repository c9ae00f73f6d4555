-- The answer of a session to an inbound message, and what each step of it comes to.
use Rattle.std.specs.Prelude.{◌<◌, ◌≤◌, ◌+◌, ◌-◌, length, ◌^◌, ◌∷◌, ◌&&◌, ◌==◌, not, ℕ, List, [], take, Bool, false}
use Rattle.std.specs.Prelude.{if◌then◌else◌, bytes_eq, codes, Option, Some, None, is_none, Result, Ok, Err, ⊤, ℤ}
use Rattle.std.specs.Prelude.{pos, ◌+ℤ◌, int_le}
use Rattle.std.specs.Fmt.{decimal}
use Rattle.fix_base.specs.declared.identity.Identity.{Identity}
use Rattle.fix_base.specs.Session.{begin_string_of}
use Rattle.fix_base.specs.Fields.{Field}
use Rattle.fix_base.specs.Says.{HasFields, body_of, is_admin_type}
use Rattle.fix_base.specs.Times.{IsTimeTextOf}
use Rattle.fix_base.specs.declared.entry.Entry.{Entry}
use Rattle.fix_base.specs.declared.entry.Entry.TheVariants.{Admin}
use Rattle.fix_base.specs.declared.entry.Record.TheVariants.{Push}
use Rattle.fix_base.specs.Payload.{field}
use Rattle.fix_base.specs.Wrote.{IsSealed, original_fields}
use Rattle.fix_base.specs.declared.act.Act.TheVariants as act
use Rattle.fix_base.specs.Trace.{Note, Did, Failed, StorePart, LinkPart, AppPart}
use Rattle.fix_fields.specs.Header.{Header}
use Rattle.fix_engine.specs.State.{State, Phase, Down, AwaitLogon, Up, Why, LoggedOut, Refused, NotLogon, Ending}
use Rattle.fix_engine.specs.State.{Say, Logon, Logout, Step, with_phase, with_expected, with_last, counted}
use Rattle.fix_engine.specs.declared.state.Ending.TheVariants as ending
use Rattle.fix_engine.specs.declared.state.Step.TheVariants as step
use Rattle.fix_engine.specs.Fold.{Each}
use Rattle.fix_engine.specs.Inbound.{InboundSeen, IsInbound}

-- the value is there, and is this text
abbrev pub names : Option (List ℕ) → List ℕ → Bool
names None text = false
names (Some value) text = bytes_eq value text

-- the number is readable, and is this one
abbrev pub is_numbered : Option ℕ → ℕ → Bool
is_numbered None n = false
is_numbered (Some number) n = number == n

-- the time is there, and at most 120 seconds before or after the reading
abbrev pub is_near : Option ℤ → ℕ → Bool
is_near None now = false
is_near (Some sent) now = int_le sent (pos (now + 120000000)) && int_le (pos now) (sent +ℤ pos 120000000)

-- BeginString (8) is the session's
abbrev pub is_of_session : Identity → Header → Bool
is_of_session id h = bytes_eq h.begin (begin_string_of id.begin)

-- SenderCompID (49) is the counterparty, and TargetCompID (56) this end
abbrev pub is_addressed : Identity → Header → Bool
is_addressed id h = names h.sender id.target && names h.target id.sender

-- the message of the expected number, from the counterparty, at about the time that it says
abbrev pub is_in_order : Identity → State → InboundSeen → Bool
is_in_order id s i = is_of_session id i.header &&
    (is_numbered i.header.number s.expected && (is_addressed id i.header && is_near i.sent s.reading))

-- a MsgType (35) of an application message
abbrev pub is_app_type : Option (List ℕ) → Bool
is_app_type None = false
is_app_type (Some type) = not (is_admin_type type)

-- the number, or 0 where none was readable
abbrev pub number_or_0 : Option ℕ → ℕ
number_or_0 None = 0
number_or_0 (Some number) = number

abbrev pub not_built : InboundSeen → List Step
not_built i = step.GiveUp (number_or_0 i.header.number) ∷ step.Nothing ∷ step.Nothing ∷ step.Nothing ∷ []

abbrev pub refused : InboundSeen → List Step
refused i = step.Close
    (Refused (number_or_0 i.header.number) NotLogon) ∷ step.Nothing ∷ step.Nothing ∷ step.Nothing ∷ []

-- a Logon is answered by a Logon with the same HeartBtInt (108)
abbrev pub logon_steps : ℕ → ℕ → List Step
logon_steps n heart = step.Send (Logon heart) (Some n) ∷ step.GoUp ∷ step.Count n ∷ step.Nothing ∷ []

abbrev pub logon_answer : ℕ → Option ℕ → InboundSeen → List Step
logon_answer n None i = not_built i
logon_answer n (Some heart) i = logon_steps n heart

-- a Logout is counted, and answered by a Logout
abbrev pub logout_answer : ℕ → List Step
logout_answer n = step.Count n ∷ step.Send Logout None ∷ step.Close (LoggedOut n) ∷ step.Nothing ∷ []

-- an application message is handed over, and counted
abbrev pub app_answer : ℕ → List Step
app_answer n = step.Hand n false ∷ step.Count n ∷ step.Nothing ∷ step.Nothing ∷ []

abbrev pub first_answer : Identity → State → InboundSeen → List Step
first_answer id s i =
    if not (names i.header.type (codes "A")) then refused i
    else (if is_in_order id s i then logon_answer s.expected i.heart i else not_built i)

abbrev pub up_answer : Identity → State → InboundSeen → List Step
up_answer id s i =
    if not (is_in_order id s i && is_none i.header.poss_dup) then not_built i
    else (if names i.header.type (codes "5") then logout_answer s.expected
    else (if is_app_type i.header.type then app_answer s.expected else not_built i))

abbrev pub answer_in : Phase → Identity → State → InboundSeen → List Step
answer_in AwaitLogon id s i = first_answer id s i
answer_in Up id s i = up_answer id s i
answer_in Down id s i = step.Nothing ∷ step.Nothing ∷ step.Nothing ∷ step.Nothing ∷ []

-- the steps that answer the message
abbrev pub answer_to : Identity → State → InboundSeen → List Step
answer_to id s i = answer_in s.phase id s i

-- the MsgType (35) of what is said, as the kind of its entry
abbrev pub kind_of : Say → ℕ
kind_of (Logon heart) = 65
kind_of Logout = 53

-- the fields after its header: EncryptMethod (98) and HeartBtInt (108) of a Logon
abbrev pub fields_of : Say → List Field
fields_of (Logon heart) = field 98 (codes "0") ∷ field 108 (decimal heart) ∷ []
fields_of Logout = []

-- its numbers fit their type
abbrev pub IsSayable : Say → Type 0
IsSayable (Logon heart) = heart < 2 ^ 32
IsSayable Logout = ⊤

-- the frame of what is said under this number, sent at this time in milliseconds
pub record IsSaid (id : Identity) (n time : ℕ) (say : Say) (text : List ℕ) : Type 0 where
  pub at : List ℕ
  pub sent_at : IsTimeTextOf 3 time at
  pub sealed_so : IsSealed id (original_fields id (decimal n) at (kind_of say ∷ []) (fields_of say)) text

-- the entry that is kept of it
abbrev pub entry_of : State → Say → Entry
entry_of s say = Admin s.reading (kind_of say) 0

-- what one step comes to, in the answer to this frame: the notes of its calls, what it answers, and the state
-- after it
pub data Performed (id : Identity) (frame : List ℕ) (s : State) : Step → List Note → Result ⊤ Ending → State
    → Type 0 where
  nothing : Performed id frame s step.Nothing [] (Ok tt) s
  count : (n : ℕ) → Performed id frame s (step.Count n) [] (Ok tt) (with_expected s (n + 1))
  go_up : Performed id frame s step.GoUp [] (Ok tt) (with_phase s Up)
  close : (why : Why) → Performed id frame s (step.Close why) [] (Err (ending.Closed why)) (with_phase s Down)
  give_up : (n : ℕ) → Performed id frame s (step.GiveUp n) [] (Err (ending.NotBuilt n)) (with_phase s Down)
  taken : (n : ℕ) (marked : Bool) (fields : List Field) → HasFields frame fields
      → Performed id frame s (step.Hand n marked) (Did (act.Handed n marked (body_of fields)) ∷ []) (Ok tt) s
  hand_lost : (n : ℕ) (marked : Bool) (fields : List Field) → HasFields frame fields
      → Performed id frame s (step.Hand n marked)
      (Did (act.HandLost n marked (body_of fields)) ∷ Failed AppPart ∷ []) (Err ending.AppFault) s
  hand_memory : (n : ℕ) (marked : Bool)
      → Performed id frame s (step.Hand n marked) [] (Err ending.OutOfMemory) s
  spent : (say : Say) (n : Option ℕ) → 999999999 ≤ s.last
      → Performed id frame s (step.Send say n) [] (Err ending.NumbersSpent) s
  -- out of memory before the entry was kept
  keep_memory : (say : Say) (n : Option ℕ) → s.last < 999999999
      → Performed id frame s (step.Send say n) [] (Err ending.OutOfMemory) s
  keep_lost : (say : Say) (n : Option ℕ) → s.last < 999999999
      → Performed id frame s (step.Send say n) (Did (act.KeepLost (Push (entry_of s say))) ∷ Failed StorePart ∷ [])
      (Err ending.StoreFault) s
  sent : (say : Say) (n : Option ℕ) (text : List ℕ) → s.last < 999999999 → IsSaid id (s.last + 1) s.reading say text
      → Performed id frame s (step.Send say n) (Did (act.Kept (Push (entry_of s say))) ∷ Did (act.Wrote text) ∷ [])
      (Ok tt) (with_last s (s.last + 1))
  -- what is kept is said all the same, by a repeat: the message that it answers is counted
  write_lost : (say : Say) (n : Option ℕ) (text : List ℕ) (sent_bytes : ℕ) → s.last < 999999999
      → IsSaid id (s.last + 1) s.reading say text
      → Performed id frame s (step.Send say n)
      (Did (act.Kept (Push (entry_of s say))) ∷ Did (act.Wrote (take sent_bytes text)) ∷ Failed
      (LinkPart (length text - sent_bytes)) ∷ []) (Err ending.LinkFault) (counted (with_last s (s.last + 1)) n)
  write_memory : (say : Say) (n : Option ℕ) → s.last < 999999999
      → Performed id frame s (step.Send say n) (Did (act.Kept (Push (entry_of s say))) ∷ [])
      (Err ending.OutOfMemory) (with_last s (s.last + 1))

-- the steps of an answer, in order
abbrev pub Carried : Identity → List ℕ → State → List Step → List Note → Result ⊤ Ending → State → Type 0
Carried id frame = Each (Performed id frame)

-- one frame: it is answered as what it presents
pub record AnswerFrame (id : Identity) (s : State) (frame : List ℕ) (notes : List Note) (r : Result ⊤ Ending)
    (s' : State) : Type 0 where
  pub inbound : InboundSeen
  pub presents : IsInbound frame inbound
  pub carried : Carried id frame s (answer_to id s inbound) notes r s'
