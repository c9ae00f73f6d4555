-- What each call of an Outside comes to, by what it answers.
use Rattle.std.specs.Prelude.{◌≡◌, ℕ, ◌-◌, ◌+◌, ◌<◌, ◌≤◌, length, List, [], ◌∷◌, take, Bool, true, false, Option}
use Rattle.std.specs.Prelude.{Some, None, IfSome, option_map, Result, Ok, Err, ⊤}
use Rattle.fix_base.specs.declared.entry.Record.{Record}
use Rattle.fix_base.specs.declared.entry.Record.TheVariants.{Push, Expect, Many, Withhold, Reset, ResetAsk, Confirm}
use Rattle.fix_base.specs.declared.entry.Entry.TheVariants.{App}
use Rattle.fix_base.specs.declared.entry.By.{By}
use Rattle.fix_base.specs.declared.entry.Stored.{Stored}
use Rattle.fix_base.specs.declared.act.Act.TheVariants as act
use Rattle.fix_base.specs.declared.bytes.OutOfMemory.{OutOfMemory}
use Rattle.fix_base.specs.End.{End, IsEntry, IsAppAt, IsAdminAt}
use Rattle.fix_base.specs.Lists.{Among}
use Rattle.fix_base.specs.Payload.{IsAppPayload, LAST_TIME}
use Rattle.fix_base.specs.Parts.{HasNoRoom}
use Rattle.fix_base.specs.Trace.{Note, Did, Failed, StorePart, LinkPart, AppPart, OutsideSeen}
use Rattle.fix_outside.specs.declared.connection.ReadTurn.{ReadTurn}
use Rattle.fix_outside.specs.declared.connection.ReadTurn.TheVariants as read
use Rattle.fix_outside.specs.declared.connection.WriteTurn.{WriteTurn}
use Rattle.fix_outside.specs.declared.connection.WriteTurn.TheVariants as write
use Rattle.fix_outside.specs.declared.handing.Said.{Said}
use Rattle.fix_outside.specs.declared.handing.Said.TheVariants as said
use Rattle.fix_outside.specs.declared.handing.Handed.{Handed}
use Rattle.fix_outside.specs.declared.handing.Again.{Again}
use Rattle.fix_outside.specs.declared.handing.Again.TheVariants as again
use Rattle.fix_outside.specs.declared.outside.KeepFault.{KeepFault}
use Rattle.fix_outside.specs.declared.outside.KeepFault.TheVariants as keep
use Rattle.fix_outside.specs.declared.outside.LoadFault.{LoadFault}
use Rattle.fix_outside.specs.declared.outside.LoadFault.TheVariants as load
use Rattle.fix_outside.specs.declared.outside.FetchFault.{FetchFault}
use Rattle.fix_outside.specs.declared.outside.FetchFault.TheVariants as fetch
use Rattle.fix_outside.specs.declared.outside.Kind.{Kind}
use Rattle.fix_outside.specs.declared.outside.Kind.TheVariants as kind

-- a connection is opened, or cut
abbrev pub marks : {T : Type 0} → Bool → Result T OutOfMemory → List Note
marks true (Ok x) = Did act.Cut ∷ []
marks false (Ok x) = Did act.Opened ∷ []
marks cut (Err e) = []

abbrev pub tells_time : Result ℕ OutOfMemory → List Note
tells_time (Ok t) = Did (act.Now t) ∷ []
tells_time (Err e) = []

-- what a read gave
pub data Came : Type 0 where
  Bytes : (bytes : List ℕ) → Came
  NothingYet : Came
  TheEnd : Came
  ReadFailed : Came
  NoMemory : Came

-- the room is as it is after the read
abbrev pub came : ReadTurn → List ℕ → Came
came (read.Bytes n) room = Bytes (take n room)
came read.Idle room = NothingYet
came read.End room = TheEnd
came read.Failed room = ReadFailed
came read.OutOfMemory room = NoMemory

-- a failed read notes no act
abbrev pub notes_of_read : Came → List Note
notes_of_read (Bytes bytes) = Did (act.Read bytes) ∷ []
notes_of_read NothingYet = Did act.Idle ∷ []
notes_of_read TheEnd = Did act.Ended ∷ []
notes_of_read ReadFailed = Failed (LinkPart 0) ∷ []
notes_of_read NoMemory = []

abbrev pub reads : ReadTurn → List ℕ → List Note
reads turn room = notes_of_read (came turn room)

-- a failed write sent so many bytes, and the rest not
abbrev pub writes : WriteTurn → List ℕ → List Note
writes write.Done bytes = Did (act.Wrote bytes) ∷ []
writes (write.Failed n) bytes = Did (act.Wrote (take n bytes)) ∷ Failed (LinkPart (length bytes - n)) ∷ []
writes write.OutOfMemory bytes = []

abbrev pub keeps : {T : Type 0} → Result T KeepFault → Record → List Note
keeps (Ok x) r = Did (act.Kept r) ∷ []
keeps (Err keep.Failed) r = Did (act.KeepLost r) ∷ Failed StorePart ∷ []
keeps (Err keep.OutOfMemory) r = []

abbrev pub notes_of_hand : Said → ℕ → Bool → List ℕ → List Note
notes_of_hand said.Taken number marked body = Did (act.Handed number marked body) ∷ []
notes_of_hand said.Failed number marked body = Did (act.HandLost number marked body) ∷ Failed AppPart ∷ []
notes_of_hand said.OutOfMemory number marked body = []

abbrev pub hands : Said → Handed → List Note
hands said h = notes_of_hand said h.number h.marked h.body.now

-- the application was asked whether the message of this number is sent again
abbrev pub notes_of_again : Again → ℕ → List Note
notes_of_again again.Send number = Did (act.Allowed number) ∷ []
notes_of_again again.Withhold number = Did (act.Withheld number) ∷ []
notes_of_again again.OutOfMemory number = []

-- ---- the store: whether it is open, and what it answers

-- a record may be kept: the store is open, and has a number for each further entry
abbrev pub HasPlace : Record → Option ℕ → Type 0
HasPlace r None = ⊥
HasPlace (Push entry) (Some last) = last < 999999999
HasPlace (Expect number) (Some last) = ⊤
HasPlace (Many pushes number) (Some last) = last + length pushes ≤ 999999999
HasPlace (Withhold number) (Some last) = number ≤ last
HasPlace (Reset time) (Some last) = ⊤
HasPlace (ResetAsk time) (Some last) = ⊤
HasPlace Confirm (Some last) = ⊤

-- a number that is withheld is one of an application message, in the end that is told
abbrev pub NamesApp : Record → OutsideSeen → Type 0
NamesApp (Push entry) w = ⊤
NamesApp (Expect number) w = ⊤
NamesApp (Many pushes expect) w = ⊤
NamesApp (Withhold number) w = (e : End) → w.Holds e → (body : List ℕ) × IsAppAt e.out number body
NamesApp (Reset time) w = ⊤
NamesApp (ResetAsk time) w = ⊤
NamesApp Confirm w = ⊤

-- how many entries there are after a record
abbrev pub last_behind : Record → ℕ → ℕ
last_behind (Push entry) last = last + 1
last_behind (Expect number) last = last
last_behind (Many pushes number) last = last + length pushes
last_behind (Withhold number) last = last
last_behind (Reset time) last = 0
last_behind (ResetAsk time) last = 0
last_behind Confirm last = last

-- a store that failed isn't open
abbrev pub open_kept : {T : Type 0} → Result T KeepFault → Record → Option ℕ → Option ℕ
open_kept (Ok x) r at = option_map (last_behind r) at
open_kept (Err keep.Failed) r at = None
open_kept (Err keep.OutOfMemory) r at = at

-- the process starts from what is stored
abbrev pub loads : {T : Type 0} → Result T LoadFault → List Note
loads (Ok x) = Did act.Stop ∷ []
loads (Err load.Failed) = Failed StorePart ∷ []
loads (Err (load.Damaged place)) = []
loads (Err load.OutOfMemory) = []

-- a store is open after a load that wasn't refused
abbrev pub open_loaded : Result Stored LoadFault → Option ℕ
open_loaded (Ok stored) = Some stored.last
open_loaded (Err e) = None

-- these are the numbers of the end
pub record IsStoredOf (stored : Stored) (e : End) : Type 0 where
  pub last : stored.last ≡ length e.out
  pub expected : stored.expected ≡ e.stored
  pub since : stored.since ≡ e.since
  pub asked : stored.asked ≡ e.asked

-- what a load gives: numbers within their bounds, those of the end that is told, which is one, of a file that
-- is a store's
pub record IsLoaded (stored : Stored) (w : OutsideSeen) : Type 0 where
  pub last : stored.last ≤ 999999999
  pub expected : 1 ≤ stored.expected
  pub expected_bound : stored.expected ≤ 1000000000
  pub since : IfSome stored.since (λ time. time ≤ LAST_TIME)
  pub told : (e : End) → w.Holds e → IsStoredOf stored e
  pub one : (a b : End) → w.Holds a → w.Holds b → a ≡ b
  pub unbroken : (place : ℕ) → w.Breaks place → ⊥

-- what a load answers: a fault only where no room is told, and a break only where the file has it first
abbrev pub LoadAnswers : Result Stored LoadFault → OutsideSeen → Type 0
LoadAnswers (Ok stored) w = IsLoaded stored w
LoadAnswers (Err load.Failed) w = HasNoRoom 0 w.parts.store_room
LoadAnswers (Err (load.Damaged place)) w = w.Tells → w.Breaks place
LoadAnswers (Err load.OutOfMemory) w = ⊤

-- an entry may be fetched: the store is open, and has it
abbrev pub HasEntry : ℕ → Option ℕ → Type 0
HasEntry n None = ⊥
HasEntry n (Some last) = n ≤ last

abbrev pub fetches : {T : Type 0} → Result T FetchFault → List Note
fetches (Ok x) = []
fetches (Err fetch.Failed) = Failed StorePart ∷ []
fetches (Err fetch.OutOfMemory) = []

abbrev pub open_fetched : {T : Type 0} → Result T FetchFault → Option ℕ → Option ℕ
open_fetched (Ok x) at = at
open_fetched (Err fetch.Failed) at = None
open_fetched (Err fetch.OutOfMemory) at = at

-- what is fetched of entry n: an application message that may be kept, with its body; or that it is another;
-- or that it is withheld; each as the end that is told has it
pub record IsFetchedApp (n time : ℕ) (body : List ℕ) (w : OutsideSeen) : Type 0 where
  pub payload : IsAppPayload time body
  pub told : (e : End) → w.Holds e → (by : By) × IsEntry e.out n (App time by body)
  pub free : (e : End) → w.Holds e → Among n e.withheld → ⊥

pub record IsFetchedAdmin (n : ℕ) (body : List ℕ) (w : OutsideSeen) : Type 0 where
  pub none : body ≡ []
  pub told : (e : End) → w.Holds e → IsAdminAt e.out n

pub record IsFetchedWithheld (n : ℕ) (body : List ℕ) (w : OutsideSeen) : Type 0 where
  pub none : body ≡ []
  pub app : (e : End) → w.Holds e → (body : List ℕ) × IsAppAt e.out n body
  pub withheld : (e : End) → w.Holds e → Among n e.withheld

-- what a fetch of entry n told is so in this end
abbrev pub IsSo : Result Kind FetchFault → ℕ → List ℕ → End → Type 0
IsSo (Ok (kind.App time)) n body e = ((by : By) × IsEntry e.out n (App time by body)) × (Among n e.withheld → ⊥)
IsSo (Ok kind.Admin) n body e = IsAdminAt e.out n
IsSo (Ok kind.Withheld) n body e = ((body : List ℕ) × IsAppAt e.out n body) × Among n e.withheld
IsSo (Err fault) n body e = ⊤

abbrev pub FetchAnswers : Result Kind FetchFault → ℕ → List ℕ → OutsideSeen → Type 0
FetchAnswers (Ok (kind.App time)) n body w = IsFetchedApp n time body w
FetchAnswers (Ok kind.Admin) n body w = IsFetchedAdmin n body w
FetchAnswers (Ok kind.Withheld) n body w = IsFetchedWithheld n body w
FetchAnswers (Err fetch.Failed) n body w = HasNoRoom 0 w.parts.store_room
FetchAnswers (Err fetch.OutOfMemory) n body w = ⊤
