-- What comes of sending, call by call: records that are kept, and writes.
use Rattle.std.specs.Prelude.{◌≡◌, ℕ, List, false, Result, Ok, Err, ⊤}
use Rattle.std.specs.List.{AllByRecursion}
use Rattle.fix_base.specs.declared.entry.Entry.{Entry}
use Rattle.fix_base.specs.declared.entry.Record.TheVariants.{Withhold}
use Rattle.fix_outside.specs.declared.connection.WriteTurn.{WriteTurn}
use Rattle.fix_outside.specs.declared.handing.Again as whether
use Rattle.fix_outside.specs.declared.outside.KeepFault.{KeepFault}
use Rattle.fix_outside.specs.declared.outside.FetchFault.{FetchFault}
use Rattle.fix_outside.specs.declared.outside.Kind.{Kind}
use Rattle.fix_outside.specs.Calls.{Call, Keep, Write, Fetch, Again}
use Rattle.fix_stage.specs.Sender.{Sender, PendingDraft, StageFault, NumbersSpent, OutOfMemory, StoreFault, LinkFault}
use Rattle.fix_stage.specs.Flush.{record_of}

-- a call that comes of sending entries that have Q: a record of them is kept or lost, or bytes are written. What each
-- call answered is left open
pub data IsSending (Q : Entry → Type 0) : Call → Type 0 where
  keeps : (entries : List Entry) (expect : ℕ) (answer : Result ⊤ KeepFault) → AllByRecursion Q entries
      → IsSending Q (Keep (record_of entries expect) answer)
  writes : (bytes : List ℕ) (turn : WriteTurn) → IsSending Q (Write bytes turn)

-- from entries that have Q on, only such calls are made, and what is staged then has Q
pub record SendsOnly (Q : Entry → Type 0) (calls : List Call) (to : Sender) : Type 0 where
  pub each : AllByRecursion (IsSending Q) calls
  pub staged : AllByRecursion Q to.stage.entries

-- a call that comes of serving a ResendRequest: a number is fetched, the application is asked for its message, the
-- number is kept as withheld or that is lost, or bytes are written. What each call answered is left open
pub data IsServing : Call → Type 0 where
  serving_fetches : (number : ℕ) (answer : Result Kind FetchFault) (body : List ℕ) → IsServing (Fetch number answer body)
  serving_asks : (number : ℕ) (body : List ℕ) (said : whether.Again) → IsServing (Again number body said)
  serving_keeps : (number : ℕ) (answer : Result ⊤ KeepFault) → IsServing (Keep (Withhold number) answer)
  serving_writes : (bytes : List ℕ) (turn : WriteTurn) → IsServing (Write bytes turn)

-- the record of the draft in hand was not tried, unless the store failed now
abbrev pub IsUntried : Result ⊤ StageFault → PendingDraft → Type 0
IsUntried (Ok x) p = p.store_failed ≡ false
IsUntried (Err NumbersSpent) p = p.store_failed ≡ false
IsUntried (Err OutOfMemory) p = p.store_failed ≡ false
IsUntried (Err StoreFault) p = ⊤
IsUntried (Err LinkFault) p = p.store_failed ≡ false
