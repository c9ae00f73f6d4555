-- What a lawful end of a session does: its acts, one after another, and the moves between them.
use Rattle.std.specs.Prelude.{◌≡◌, ◌⊎◌, ℕ, ◌+◌, ◌<◌, ◌≤◌, ◌==◌, if◌then◌else◌, List, [], ◌∷◌, ◌++◌, length, drop}
use Rattle.std.specs.Prelude.{Bool, true, false, Option, Some, None}
use Rattle.fix_base.specs.Lists.{Among}
use Rattle.fix_base.specs.Message as message
use Rattle.fix_base.specs.Message.{Message, IsAdminNumbered}
use Rattle.fix_base.specs.Says.{Shows}
use Rattle.fix_base.specs.End.{Entry, Admin, Record, Push, Expect, Many, Withhold, Reset, ResetAsk, Confirm, End}
use Rattle.fix_base.specs.End.{IsEntry, new_end, folded, MayComeAgain, REJECT}
use Rattle.fix_base.specs.Act as act
use Rattle.fix_base.specs.Act.{Act}
use Rattle.fix_base.specs.Session.{Identity}
use Rattle.fix_base.specs.Stream.{frames}
use Rattle.fix_base.specs.Logon.{IsLogon, IsResetLogon, IsFirstLogon, Begun, Completes}
use Rattle.fix_base.specs.Lists.{IsPrefixOf}
use Rattle.fix_base.specs.Wrote.{IsOriginal, Wrote}

-- a message that was handed over or rejected
pub record Handling : Type 0 where
  pub number : ℕ
  pub body : List ℕ
  pub marked : Bool
  pub rejected : Bool

-- which end of a connection asks for resets
pub data Role : Type 0 where
  Initiator : Role
  Acceptor : Role

-- what was kept on a connection that concerns resets
pub data Answer : Type 0 where
  AskedReset : Answer  -- a Reset asked by a Logon
  OwnReset : Answer  -- another Reset
  Confirmed : Answer

pub record Connection : Type 0 where
  pub opened : End  -- the end at Opened
  pub read : List ℕ
  pub written : List ℕ
  pub base : ℕ  -- how long `handled` was at Opened
  pub gave : List ℕ  -- the numbers of the Handed on this connection
  pub kept : List Answer  -- the Resets and Confirms that were kept on it, the last one first

pub record EndState : Type 0 where
  pub role : Role
  pub end : End
  pub expected : ℕ  -- the running expected number
  pub handled : List Handling
  pub doubt : Option Record  -- a record that may or may not be kept
  pub beside : List Handling  -- what a Many in doubt would have added to `handled`
  pub offered : Option ℕ  -- the number that the application last withheld, until it is kept
  pub connection : Option Connection

-- an end that never did anything
abbrev pub new_state : Role → EndState
new_state role = record {
  role = role;
  end = new_end;
  expected = 1;
  handled = [];
  doubt = None;
  beside = [];
  offered = None;
  connection = None;
}

-- a frame that was read on the connection says this
pub record WasRead (c : Connection) (x : Message) : Type 0 where
  pub messages : List Message
  pub shows : Shows c.read messages
  pub among : Among x messages

-- an initiator that has asked for a reset
abbrev pub IsAsking : EndState → Type 0
IsAsking s = (s.role ≡ Initiator) × (s.end.asked ≡ true)

-- no message counts yet: a reset is asked for, or the first frame tells of one that isn't answered
pub data IsBlocked (s : EndState) : Type 0 where
  asks : IsAsking s → IsBlocked s
  waits : (c : Connection) → s.connection ≡ Some c → c.kept ≡ [] → Begun IsResetLogon c.read → IsBlocked s

-- a Reset is asked for: nothing was written or kept for one on the connection yet, and the first frame
-- is a Logon of number 1 with 141=Y
pub record IsAskedReset (s : EndState) : Type 0 where
  pub connection : Connection
  pub is_open : s.connection ≡ Some connection
  pub silent : connection.written ≡ []
  pub unanswered : connection.kept ≡ []
  pub logon : Begun IsFirstLogon connection.read

-- nothing was written, and the first frame is a Logon
pub record MayStay (s : EndState) : Type 0 where
  pub connection : Connection
  pub is_open : s.connection ≡ Some connection
  pub silent : connection.written ≡ []
  pub logon : Begun IsLogon connection.read

-- how a Reset is asked on a connection
pub data Asks (s : EndState) : Answer → Type 0 where
  by_logon : IsAskedReset s → Asks s AskedReset
  otherwise : (IsAskedReset s → ⊥) → Asks s OwnReset

-- the rule on Logons with 141=Y: an end that asks for a reset writes that Logon alone. One that doesn't
-- writes it only first on a connection on which a Reset asked by a Logon was kept, or has written it
-- there before; and never after another frame
pub data LogonRule (id : Identity) (s : EndState) (c : Connection) (b : List ℕ) : Type 0 where
  asks : (text : List ℕ) (e : Entry) → IsAsking s → IsEntry s.end.out 1 e → IsOriginal id 1 e text
      → IsFirstLogon text → IsPrefixOf (c.written ++ b) text → LogonRule id s c b
  answers : (IsAsking s → ⊥)
      → (Begun IsResetLogon (c.written ++ b) → Begun IsResetLogon c.written ⊎ Among AskedReset c.kept)
      → ((text : List ℕ) (w : Completes c.written b text) → IsResetLogon text → frames w.before ≡ [])
      → LogonRule id s c b

-- the first App frame of this number among these, as rejected
abbrev pub first_app : ℕ → List Message → Option Handling
first_app n [] = None
first_app n (message.App k marked body ∷ xs) = if k == n then Some
    (record { number = k; body = body; marked = marked; rejected = true }) else first_app n xs
first_app n (message.Admin k ∷ xs) = first_app n xs
first_app n (message.GapFill k next ∷ xs) = first_app n xs
first_app n (message.ResetTo k next ∷ xs) = first_app n xs

-- the entry is a Reject of the App frame with the running number
pub record Rejects (s : EndState) (e : Entry) (h : Handling) : Type 0 where
  pub time : ℕ
  pub is : e ≡ Admin time REJECT s.expected
  pub connection : Connection
  pub is_open : s.connection ≡ Some connection
  pub messages : List Message
  pub shows : Shows connection.read messages
  pub first : first_app s.expected messages ≡ Some h

-- `handled` grew by this number on the connection
pub record Grew (c : Connection) (handled : List Handling) (number : ℕ) : Type 0 where
  pub item : Handling
  pub among : Among item (drop c.base handled)
  pub is : item.number ≡ number

-- the application message handed over is that of the running number, and wasn't given on this connection
pub record MayHand (s : EndState) (c : Connection) (number : ℕ) (marked : Bool) (body : List ℕ) : Type 0 where
  pub is_open : s.connection ≡ Some c
  pub expected : number ≡ s.expected
  pub frame : WasRead c (message.App number marked body)
  pub unseen : Among number c.gave → ⊥

-- what `handled` is where this record was added
abbrev pub handled_with : List Handling → List Handling → Record → List Handling
handled_with handled beside (Push e) = handled
handled_with handled beside (Expect k) = handled
handled_with handled beside (Many pushes k) = handled ++ beside
handled_with handled beside (Withhold n) = handled
handled_with handled beside (Reset t) = []
handled_with handled beside (ResetAsk t) = []
handled_with handled beside Confirm = handled

-- and `offered`
abbrev pub offered_with : Option ℕ → Record → Option ℕ
offered_with offered (Push e) = offered
offered_with offered (Expect k) = offered
offered_with offered (Many pushes k) = offered
offered_with offered (Withhold n) = offered
offered_with offered (Reset t) = None
offered_with offered (ResetAsk t) = None
offered_with offered Confirm = offered

-- the moves that need no act: a doubt settles, or the running number passes what was read
pub data Move (s : EndState) : EndState → Type 0 where
  settles_without : (r : Record) → s.doubt ≡ Some r → Move s (record s { expected = s.end.stored; doubt = None })
  settles_with : (r : Record) → s.doubt ≡ Some r
      → Move s (record s {
        end = folded s.end r;
        expected = (folded s.end r).stored;
        handled = handled_with s.handled s.beside r;
        doubt = None;
        offered = offered_with s.offered r;
      })
  past_admin : (c : Connection) (x : Message) → (IsBlocked s → ⊥) → s.connection ≡ Some c → WasRead c x
      → IsAdminNumbered s.expected x → Move s (record s { expected = s.expected + 1 })
  past_app : (c : Connection) (n : ℕ) (marked : Bool) (body : List ℕ) → (IsBlocked s → ⊥) → s.connection ≡ Some c
      → WasRead c (message.App n marked body) → n ≡ s.expected → Grew c s.handled n
      → Move s (record s { expected = s.expected + 1 })
  past_gap : (c : Connection) (n m : ℕ) → (IsBlocked s → ⊥) → s.connection ≡ Some c
      → WasRead c (message.GapFill n m) → n ≡ s.expected → s.expected < m → Move s (record s { expected = m })
  reset_to : (c : Connection) (n m : ℕ) → (IsBlocked s → ⊥) → s.connection ≡ Some c
      → WasRead c (message.ResetTo n m) → s.expected ≤ m → Move s (record s { expected = m })

-- an entry is added. Where it is a Reject of the expected number, the first message of this number
-- that was read may be taken as handled, by being rejected
pub data Pushed (s : EndState) (e : Entry) : EndState → Type 0 where
  adds : Pushed s e (record s { end = folded s.end (Push e) })
  rejects : (h : Handling) → (IsBlocked s → ⊥) → Rejects s e h
      → Pushed s e (record s { end = folded s.end (Push e); handled = s.handled ++ h ∷ [] })

-- several entries are added, and then, where it isn't 0, the running number is kept, with moves between
pub data Chain : EndState → List Entry → ℕ → EndState → Type 0 where
  ends : {s : EndState} → Chain s [] 0 s
  expects : {s : EndState} (k : ℕ) → 0 < k → k ≡ s.expected → Chain s [] k (record s { end = folded s.end (Expect k) })
  push : {s mid s' : EndState} {e : Entry} {pushes : List Entry} {k : ℕ} → Pushed s e mid → Chain mid pushes k s'
      → Chain s (e ∷ pushes) k s'
  pass : {s mid s' : EndState} {pushes : List Entry} {k : ℕ} → Move s mid → Chain mid pushes k s' → Chain s pushes k s'

-- what each act needs, and what it changes
pub data Row (id : Identity) (s : EndState) : Act → EndState → Type 0 where
  -- a new connection, with nothing read or written
  opened : (IsAsking s → s.end.out ≡ [])
      → Row id s act.Opened
      (record s {
        offered = None;
        connection = Some
            (record { opened = s.end; read = []; written = []; base = length s.handled; gave = []; kept = [] });
      })
  now : (time : ℕ) → Row id s (act.Now time) s
  idle : (c : Connection) → s.connection ≡ Some c → Row id s act.Idle s
  ended : (c : Connection) → s.connection ≡ Some c → Row id s act.Ended s
  read : (b : List ℕ) (c : Connection) → s.connection ≡ Some c
      → Row id s (act.Read b) (record s { connection = Some (record c { read = c.read ++ b }) })
  wrote : (b : List ℕ) (c : Connection) → s.connection ≡ Some c → Wrote id c.opened s.end (c.written ++ b)
      → LogonRule id s c b
      → Row id s (act.Wrote b) (record s { connection = Some (record c { written = c.written ++ b }) })
  kept_push : {s' : EndState} (e : Entry) → Pushed s e s' → Row id s (act.Kept (Push e)) s'
  -- the number that is kept is the running one: no message is passed before it is handled
  kept_expect : (k : ℕ) → k ≡ s.expected → Row id s (act.Kept (Expect k)) (record s { end = folded s.end (Expect k) })
  kept_many : {s' : EndState} (pushes : List Entry) (k : ℕ) → Chain s pushes k s'
      → Row id s (act.Kept (Many pushes k)) s'
  -- only what the application withheld is kept as withheld
  kept_withhold : (n : ℕ) → s.offered ≡ Some n
      → Row id s (act.Kept (Withhold n)) (record s { end = folded s.end (Withhold n); offered = None })
  -- a Reset before anything is written, where the first frame is a Logon, leaves the connection
  kept_reset : (t : ℕ) (c : Connection) (answer : Answer) → s.connection ≡ Some c → MayStay s → Asks s answer
      → Row id s (act.Kept (Reset t))
      (record s {
        end = folded s.end (Reset t);
        expected = 1;
        handled = [];
        offered = None;
        connection = Some
            (record {
              opened = folded s.end (Reset t);
              read = c.read;
              written = c.written;
              base = 0;
              gave = c.gave;
              kept = answer ∷ c.kept;
            });
      })
  cut_reset : (t : ℕ) → (MayStay s → ⊥)
      → Row id s (act.Kept (Reset t))
      (record s { end = folded s.end (Reset t); expected = 1; handled = []; offered = None; connection = None })
  -- an initiator asks for a reset before its next connection
  kept_ask : (t : ℕ) → s.connection ≡ None
      → Row id s (act.Kept (ResetAsk t))
      (record s { end = folded s.end (ResetAsk t); expected = 1; handled = []; offered = None })
  -- and is answered
  kept_confirm : (c : Connection) → s.connection ≡ Some c → IsAsking s → Begun IsFirstLogon c.read
      → Row id s (act.Kept Confirm)
      (record s { end = folded s.end Confirm; connection = Some (record c { kept = Confirmed ∷ c.kept }) })
  -- the message of the expected number, once on a connection
  handed : (c : Connection) (n : ℕ) (marked : Bool) (body : List ℕ) → (IsBlocked s → ⊥) → MayHand s c n marked body
      → Row id s (act.Handed n marked body)
      (record s {
        handled = s.handled ++ record { number = n; body = body; marked = marked; rejected = false } ∷ [];
        connection = Some (record c { gave = n ∷ c.gave });
      })
  hand_lost : (c : Connection) (n : ℕ) (marked : Bool) (body : List ℕ) → (IsBlocked s → ⊥)
      → MayHand s c n marked body → Row id s (act.HandLost n marked body) (record s { connection = None })
  -- a message that isn't withheld yet may be, and else comes again
  allowed : (n : ℕ) → MayComeAgain s.end n → Row id s (act.Allowed n) s
  offers : (n : ℕ) → MayComeAgain s.end n → Row id s (act.Withheld n) (record s { offered = Some n })
  -- the record may be kept or not
  lost_push : (e : Entry) → Row id s (act.KeepLost (Push e)) (record s { doubt = Some (Push e); connection = None })
  lost_expect : (k : ℕ) → k ≡ s.expected
      → Row id s (act.KeepLost (Expect k)) (record s { doubt = Some (Expect k); connection = None })
  -- what it would have added to `handled` is kept beside it
  lost_many : {s' : EndState} (pushes : List Entry) (k : ℕ) → Chain s pushes k s'
      → Row id s (act.KeepLost (Many pushes k))
      (record s { doubt = Some (Many pushes k); beside = drop (length s.handled) s'.handled; connection = None })
  lost_withhold : (n : ℕ) → s.offered ≡ Some n
      → Row id s (act.KeepLost (Withhold n)) (record s { doubt = Some (Withhold n); connection = None })
  lost_reset : (t : ℕ) → Row id s (act.KeepLost (Reset t)) (record s { doubt = Some (Reset t); connection = None })
  lost_ask : (t : ℕ) → s.connection ≡ None
      → Row id s (act.KeepLost (ResetAsk t)) (record s { doubt = Some (ResetAsk t); connection = None })
  lost_confirm : (c : Connection) → s.connection ≡ Some c → IsAsking s → Begun IsFirstLogon c.read
      → Row id s (act.KeepLost Confirm) (record s { doubt = Some Confirm; connection = None })
  cut : Row id s act.Cut (record s { connection = None })
  -- the process starts from what is stored
  stopped : Row id s act.Stop (record s { expected = s.end.stored; connection = None })

-- while a record is in doubt no act is a step
pub record EndStep (id : Identity) (s : EndState) (a : Act) (s' : EndState) : Type 0 where
  pub certain : s.doubt ≡ None
  pub row : Row id s a s'

-- a run of an end: each act in turn is a step, with moves between
pub data EndRun (id : Identity) : EndState → List Act → EndState → Type 0 where
  stop : {s : EndState} → EndRun id s [] s
  step : {s mid s' : EndState} {a : Act} {acts : List Act} → EndStep id s a mid → EndRun id mid acts s'
      → EndRun id s (a ∷ acts) s'
  move : {s mid s' : EndState} {acts : List Act} → Move s mid → EndRun id mid acts s' → EndRun id s acts s'

-- a run gets to some state
pub record RunsSomewhere (id : Identity) (s : EndState) (acts : List Act) : Type 0 where
  pub to : EndState
  pub run : EndRun id s acts to
