-- What is stated of a doing in which no part failed: it is as said, or out of memory, and would have gone on.
use Rattle.std.specs.Prelude.{◌≢◌, ◌≤◌, ℕ, Bool, List, [], ◌∷◌, ◌++◌, Result, Err, IfSome, ⊤}
use Rattle.fix_base.specs.Payload.{LAST_TIME}
use Rattle.fix_base.specs.declared.entry.Record.{Record}
use Rattle.fix_base.specs.declared.bytes.OutOfMemory.{OutOfMemory}
use Rattle.fix_base.specs.Trace.{Note, Did, Failed, Asked}
use Rattle.fix_outside.specs.declared.connection.WriteTurn.TheVariants as write
use Rattle.fix_outside.specs.declared.handing.Said.TheVariants as said
use Rattle.fix_outside.specs.declared.handing.Again.TheVariants as whether
use Rattle.fix_outside.specs.declared.outside.KeepFault.TheVariants as keep
use Rattle.fix_outside.specs.declared.outside.LoadFault.TheVariants as load
use Rattle.fix_outside.specs.declared.outside.FetchFault.TheVariants as fetch
use Rattle.fix_outside.specs.Outside.{NoMemory}
use Rattle.fix_outside.specs.Calls.{Call, Look, Load, Mark, Read, Write, Keep, Fetch, Hand, Again, notes_in}
use Rattle.fix_fields.specs.Drafted.{IsDraft}
use Rattle.fix_stage.specs.Sender.{Sender}

-- no part failed
abbrev pub IsFaultless : List Note → Type 0
IsFaultless [] = ⊤
IsFaultless (Did act ∷ notes) = IsFaultless notes
IsFaultless (Failed part ∷ notes) = ⊥
IsFaultless (Asked draft ∷ notes) = IsFaultless notes

-- with no further fault and with memory it goes on to some end, at which Good holds
pub record Onward {S E : Type 0} (memory : E) (Good : S → Type 0) (R : S → List Call → Result ⊤ E → S → Type 0) (s : S)
    (calls : List Call) : Type 0 where
  pub more : List Call
  pub faultless : IsFaultless (notes_in more)
  pub r : Result ⊤ E
  pub to : S
  pub good : Good to
  pub whole : R s (calls ++ more) r to
  pub no_want : r ≢ Err memory

-- a call that answered that it was out of memory
pub data IsOutOfMemory : Call → Type 0 where
  looking : (e : OutOfMemory) → IsOutOfMemory (Look (Err e))
  loading : IsOutOfMemory (Load (Err load.OutOfMemory))
  marking : (cut : Bool) (e : OutOfMemory) → IsOutOfMemory (Mark cut (Err e))
  reading : (room : ℕ) → IsOutOfMemory (Read room NoMemory)
  writing : (bytes : List ℕ) → IsOutOfMemory (Write bytes write.OutOfMemory)
  keeping : (r : Record) → IsOutOfMemory (Keep r (Err keep.OutOfMemory))
  fetching : (number : ℕ) (body : List ℕ) → IsOutOfMemory (Fetch number (Err fetch.OutOfMemory) body)
  handing : (number : ℕ) (marked : Bool) (body : List ℕ) → IsOutOfMemory (Hand number marked body said.OutOfMemory)
  asking : (number : ℕ) (body : List ℕ) → IsOutOfMemory (Again number body whether.OutOfMemory)

-- where it was out of memory after these calls: on its own, or at one call more
pub data IsShortAfter (before : List Call) : List Call → Type 0 where
  alone : IsShortAfter before before
  at_a_call : (call : Call) → IsOutOfMemory call → IsShortAfter before (before ++ call ∷ [])

-- up to there it would have gone on
pub record WouldGoOn {S E : Type 0} (memory : E) (Good : S → Type 0) (R : S → List Call → Result ⊤ E → S → Type 0) (s : S)
    (calls : List Call) : Type 0 where
  pub before : List Call
  pub short : IsShortAfter before calls
  pub onward : Onward memory Good R s before

-- that there is no A is refuted. Classically this is A; it computes none
abbrev pub CanNotFail : Type 0 → Type 0
CanNotFail A = (A → ⊥) → ⊥

-- from each good state it has some end with no fault and with memory
abbrev pub Total : {S E : Type 0} → E → (S → Type 0) → (S → List Call → Result ⊤ E → S → Type 0) → Type 0
Total {S} memory Good R = (s : S) → Good s → Onward memory Good R s []

-- where it was out of memory it would have gone on
abbrev pub Resumes : {S E : Type 0} → E → (S → Type 0) → (S → List Call → Result ⊤ E → S → Type 0) → Type 0
Resumes {S} memory Good R = (s : S) (calls : List Call) (s' : S) → Good s → R s calls (Err memory) s'
    → CanNotFail (WouldGoOn memory Good R s calls)

-- however it ends, the state stays good
abbrev pub Stays : {S E : Type 0} → (S → Type 0) → (S → List Call → Result ⊤ E → S → Type 0) → Type 0
Stays {S} {E} Good R = (s : S) (calls : List Call) (r : Result ⊤ E) (s' : S) → Good s → R s calls r s' → Good s'

-- the last reading has a text, and what is in hand is a draft
pub record IsTimely (b : Sender) : Type 0 where
  pub reading : b.numbers.reading ≤ LAST_TIME
  pub draft : IfSome b.pending.draft IsDraft

-- the same, and the numbers that are kept are MsgSeqNums
pub record MayServe (b : Sender) : Type 0 where
  pub timely : IsTimely b
  pub last : b.numbers.last ≤ 999999999
