-- What a session sends is lawful: staging leaves an end as it is, and a flush is a run of it.
use Rattle.std.specs.Prelude.{◌≡◌, ◌⊎◌, ℕ, ◌+◌, ◌≤◌, List, [], ◌∷◌, length, Option, Some, None, Result, Ok, Err, ⊤}
use Rattle.std.specs.Prelude.{◌==◌, ◌&&◌, not, true, drop}
use Rattle.fix_base.specs.Lists.{Among}
use Rattle.fix_base.specs.declared.identity.Identity.{Identity}
use Rattle.fix_base.specs.declared.entry.Entry.{Entry}
use Rattle.fix_base.specs.declared.entry.Record.{Record}
use Rattle.fix_base.specs.declared.act.Act.{Act}
use Rattle.fix_base.specs.Shape.{IsFrame}
use Rattle.fix_base.specs.Says.{joined}
use Rattle.fix_base.specs.Logon.{IsResetLogon}
use Rattle.fix_base.specs.End.{End, folded}
use Rattle.fix_base.specs.Wrote.{IsOriginal, WroteWhole}
use Rattle.fix_base.specs.EndStep.{Answer, AskedReset, Connection, EndState, IsAsking, Chain, EndRun}
use Rattle.fix_outside.specs.Calls.{Call, CallsStore, acts_in}
use Rattle.fix_stage.specs.Stage.{no_stage}
use Rattle.fix_stage.specs.Sender.{Numbers, Sender, StageFault, NumbersSpent, OutOfMemory, StoreFault, LinkFault}
use Rattle.fix_stage.specs.Flush.{record_of}
use Rattle.fix_stage.specs.Outgoing.{Outgoing, IsFrameOf}

-- ---- an end and the numbers of a session

-- the end has what the session has kept, and asks for no reset
pub record HasKept (n : Numbers) (e : EndState) : Type 0 where
  pub stored : e.end.stored ≡ n.stored_expected
  pub out : length e.end.out ≡ n.last
  pub free : IsAsking e → ⊥

-- the same, and no record is in doubt
pub record IsCertain (n : Numbers) (e : EndState) : Type 0 where
  pub doubt : e.doubt ≡ None
  pub kept : HasKept n e

-- a record of what was staged is in doubt, and else the end has what the session has kept
pub record IsInDoubt (b : Sender) (e : EndState) : Type 0 where
  pub kept : HasKept b.numbers e
  pub entries : List Entry
  pub expect : ℕ
  pub some : not (length entries == 0 && expect == 0) ≡ true
  pub due : (expect ≡ 0) ⊎ (expect ≡ b.numbers.expected)
  pub doubt : e.doubt ≡ Some (record_of entries expect)
  pub closed : e.connection ≡ None

-- ---- its connection

-- the bytes are whole frames, and none of them but the first is a Logon with 141=Y
pub record IsPlainly (bytes : List ℕ) : Type 0 where
  pub texts : List (List ℕ)
  pub are : bytes ≡ joined texts
  pub frames : (text : List ℕ) → Among text texts → IsFrame text
  pub plain : (text : List ℕ) → Among text (drop 1 texts) → IsResetLogon text → ⊥

-- a Logon with 141=Y may be written on the connection: nothing was, and a reset that the counterparty asked for is kept
abbrev pub MayTellReset : Connection → Type 0
MayTellReset c = (c.written ≡ []) × Among AskedReset c.kept

-- on the end's connection this was read, this was kept of resets, and messages of these numbers were given. What was
-- written is whole messages, of which the first alone may be a Logon with 141=Y; the last original is that of an entry
pub record IsOn (id : Identity) (read : List ℕ) (resets : List Answer) (given : List ℕ) (e : EndState) : Type 0 where
  pub connection : Connection
  pub is_open : e.connection ≡ Some connection
  pub reads : connection.read ≡ read
  pub keeps : connection.kept ≡ resets
  pub gives : connection.gave ≡ given
  pub last : ℕ
  pub below : last ≤ length e.end.out
  pub whole : WroteWhole id connection.opened e.end last connection.written
  pub plain : IsPlainly connection.written

-- ---- what is staged

-- the frame is the original of the entry under this number, and no Logon with 141=Y, unless one may be told
pub record IsOriginalTold (id : Identity) (Told : Type 0) (n : ℕ) (entry : Entry) (text : List ℕ) : Type 0 where
  pub fits : n ≤ 999999999
  pub original : IsOriginal id n entry text
  pub plain : (IsResetLogon text → ⊥) ⊎ Told

-- each frame, where there is one, is the original of its entry, under the numbers after this one. The first alone may
-- be a Logon with 141=Y, where one may be told
abbrev pub AreOriginals : Identity → Type 0 → ℕ → List Entry → List (Option (List ℕ)) → Type 0
AreOriginals id Told last [] [] = ⊤
AreOriginals id Told last [] (frame ∷ frames) = ⊥
AreOriginals id Told last (entry ∷ entries) [] = ⊥
AreOriginals id Told last (entry ∷ entries) (None ∷ frames) = AreOriginals id Told (last + 1) entries frames
AreOriginals id Told last (entry ∷ entries) (Some text ∷ frames) =
    IsOriginalTold id Told (last + 1) entry text × AreOriginals id ⊥ (last + 1) entries frames

-- no frame of the message is a Logon with 141=Y
abbrev pub AsksNoReset : Identity → Outgoing → Type 0
AsksNoReset id m = (n : ℕ) (text : List ℕ) → n ≤ 999999999 → IsFrameOf id n m text → IsResetLogon text → ⊥

-- The end where what is staged is kept, entry by entry, each as it may be when its turn comes. The number that the
-- session expects is that end's, and not the end's as it is now
pub record IsAhead (n : ℕ) (entries : List Entry) (e : EndState) (c : Connection) : Type 0 where
  pub to : EndState
  pub run : Chain e entries 0 to
  pub expected : to.expected ≡ n
  pub base : c.base ≤ length to.handled

-- the end is in step with a session in the middle of a turn, which expects this number
pub record Fits (id : Identity) (read : List ℕ) (resets : List Answer) (given : List ℕ) (n : ℕ) (b : Sender) (e : EndState) : Type 0 where
  pub certain : IsCertain b.numbers e
  pub on : IsOn id read resets given e
  pub ahead : IsAhead n b.stage.entries e on.connection
  pub expected : b.numbers.expected ≡ n
  pub frames : AreOriginals id (MayTellReset on.connection) b.numbers.last b.stage.entries b.stage.frames

-- the same, where the end expects this number already: no message was passed after what is staged
pub record Level (id : Identity) (read : List ℕ) (resets : List Answer) (given : List ℕ) (n : ℕ) (b : Sender) (e : EndState) : Type 0 where
  pub certain : IsCertain b.numbers e
  pub on : IsOn id read resets given e
  pub here : e.expected ≡ n
  pub base : on.connection.base ≤ length e.handled
  pub expected : b.numbers.expected ≡ n
  pub frames : AreOriginals id (MayTellReset on.connection) b.numbers.last b.stage.entries b.stage.frames

-- the same with nothing staged, on a connection on which a Logon with 141=Y may be written
pub record MayTell (id : Identity) (read : List ℕ) (resets : List Answer) (given : List ℕ) (n : ℕ) (b : Sender) (e : EndState)
    : Type 0 where
  pub level : Level id read resets given n b e
  pub empty : b.stage ≡ no_stage
  pub told : MayTellReset level.on.connection

-- there are no frames
abbrev pub AreUnwritten : List (Option (List ℕ)) → Type 0
AreUnwritten [] = ⊤
AreUnwritten (None ∷ frames) = AreUnwritten frames
AreUnwritten (Some text ∷ frames) = ⊥

-- a session that writes nothing, as one that has no connection: what is staged has no frames
pub record Apart (b : Sender) (e : EndState) : Type 0 where
  pub certain : IsCertain b.numbers e
  pub here : e.expected ≡ b.numbers.expected
  pub unwritten : AreUnwritten b.stage.frames

-- the same, with nothing staged
pub record Bare (b : Sender) (e : EndState) : Type 0 where
  pub certain : IsCertain b.numbers e
  pub here : e.expected ≡ b.numbers.expected
  pub empty : b.stage ≡ no_stage

-- ---- runs

-- what a store of this end holds: the end, with or without the record that is in doubt
abbrev pub IsStoredOrInDoubt : Option Record → End → Option End → Type 0
IsStoredOrInDoubt None end held = held ≡ Some end
IsStoredOrInDoubt (Some r) end held = (held ≡ Some end) ⊎ (held ≡ Some (folded end r))

-- a run of a lawful end with these acts, to one that has P. A store that held the old end holds this now
pub record RunTo (id : Identity) (e : EndState) (acts : List Act) (P : EndState → Type 0) (held : Option End)
    : Type 0 where
  pub to : EndState
  pub run : EndRun id e acts to
  pub holds : P to
  pub store : IsStoredOrInDoubt to.doubt to.end held

-- the acts of these calls are such a run, where a store that held the old end did what they say, and told the truth
abbrev pub LawfulRunTo : Identity → EndState → List Call → (EndState → Type 0) → Type 0
LawfulRunTo id e calls P = (held : Option End) → CallsStore calls (Some e.end) held → RunTo id e (acts_in calls) P held

-- the end after a part: where it went well it has Q, and else what this fault leaves
abbrev pub After : {S E : Type 0} → (E → S → EndState → Type 0) → (S → EndState → Type 0) → Result ⊤ E → S → EndState
    → Type 0
After Failed Q (Ok x) s e = Q s e
After Failed Q (Err fault) s e = Failed fault s e

-- a part leads from P to Q: whatever end has P before it, the acts of its calls are a run of it
abbrev pub LeadsFrom : {S E : Type 0} → Identity → (E → S → EndState → Type 0) → (S → EndState → Type 0)
    → (S → List Call → Result ⊤ E → S → Type 0) → (S → EndState → Type 0) → Type 0
LeadsFrom {S} {E} id Failed P R Q = (s : S) (calls : List Call) (r : Result ⊤ E) (to : S) → R s calls r to
    → (e : EndState) → P s e → LawfulRunTo id e calls (After Failed Q r to)

-- the end after a fault of sending. Where no number is left all that was staged is kept
abbrev pub AfterFault : Identity → List ℕ → List Answer → List ℕ → ℕ → StageFault → Sender → EndState → Type 0
AfterFault id read resets given n NumbersSpent b e = Level id read resets given n b e × (b.stage ≡ no_stage)
AfterFault id read resets given n OutOfMemory b e = IsCertain b.numbers e
AfterFault id read resets given n StoreFault b e = IsInDoubt b e
AfterFault id read resets given n LinkFault b e = Bare b e

-- the same of a session that writes nothing: its connection doesn't fail
abbrev pub AfterApart : StageFault → Sender → EndState → Type 0
AfterApart NumbersSpent b e = Bare b e
AfterApart OutOfMemory b e = IsCertain b.numbers e
AfterApart StoreFault b e = IsInDoubt b e
AfterApart LinkFault b e = ⊥
