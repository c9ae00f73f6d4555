-- Serving a ResendRequest (2): each application message goes again in order, marked, and each run of other numbers is
-- passed over by one gap fill (FIX, "Resend Request", "Sequence Reset", "PossDupFlag").
use Rattle.std.specs.Prelude.{◌≡◌, ◌≢◌, ◌+◌, ◌-◌, ◌==◌, ◌||◌, nat_lt, if◌then◌else◌, ℕ, zero, suc, List, [], ◌∷◌, ◌++◌}
use Rattle.std.specs.Prelude.{Some, Result, Ok, Err, ⊤}
use Rattle.fix_base.specs.declared.identity.Identity.{Identity}
use Rattle.fix_base.specs.declared.entry.Record.TheVariants.{Withhold}
use Rattle.fix_base.specs.Payload.{IsAppPayload}
use Rattle.fix_outside.specs.declared.handing.Again.TheVariants as whether
use Rattle.fix_outside.specs.declared.outside.KeepFault.TheVariants as keep
use Rattle.fix_outside.specs.declared.outside.FetchFault.TheVariants as fetch
use Rattle.fix_outside.specs.declared.outside.Kind.TheVariants as kind
use Rattle.fix_outside.specs.Calls.{Call, Keep, Fetch, Again}
use Rattle.fix_stage.specs.Combine.{Each, AndThen}
use Rattle.fix_stage.specs.Sender.{Sender, StageFault, OutOfMemory, StoreFault}
use Rattle.fix_stage.specs.Flush.{WroteOne}
use Rattle.fix_stage.specs.Repeating.{IsRepeatFrame, IsGapFrame}

-- where the open gap begins, with this number passed over; 0 is none
abbrev pub opened : ℕ → ℕ → ℕ
opened g n = if g == 0 then n else g

-- the open gap is written, if there is one, up to this number
pub data WroteGap (id : Identity) (t g n : ℕ) (u : ⊤) : List Call → Result ⊤ StageFault → ⊤ → Type 0 where
  no_gap : g ≡ 0 → WroteGap id t g n u [] (Ok tt) u
  gap_written : {calls : List Call} {r : Result ⊤ StageFault} {to : ⊤} (frame : List ℕ) → g ≢ 0
      → IsGapFrame id g n t frame → WroteOne u (Some frame) calls r to → WroteGap id t g n u calls r to
  gap_memory : g ≢ 0 → WroteGap id t g n u [] (Err OutOfMemory) u

-- the message is written again
pub data WroteRepeat (id : Identity) (t n time : ℕ) (body : List ℕ) (u : ⊤) : List Call → Result ⊤ StageFault → ⊤
    → Type 0 where
  repeat_written : {calls : List Call} {r : Result ⊤ StageFault} {to : ⊤} (frame : List ℕ)
      → IsRepeatFrame id n time body t frame → WroteOne u (Some frame) calls r to
      → WroteRepeat id t n time body u calls r to
  repeat_memory : WroteRepeat id t n time body u [] (Err OutOfMemory) u

-- the number is kept as withheld
pub data Withholding (n : ℕ) (u : ⊤) : List Call → Result ⊤ StageFault → ⊤ → Type 0 where
  withheld_kept : Withholding n u (Keep (Withhold n) (Ok tt) ∷ []) (Ok tt) u
  withheld_lost : Withholding n u (Keep (Withhold n) (Err keep.Failed) ∷ []) (Err StoreFault) u
  withheld_memory : Withholding n u (Keep (Withhold n) (Err keep.OutOfMemory) ∷ []) (Err OutOfMemory) u

-- the application is asked for a message: what is sent again is written after the gap before it, and what is withheld
-- is kept so at once and passed over
pub data AppServed (id : Identity) (t n time : ℕ) (body : List ℕ) (g : ℕ) : List Call → Result ⊤ StageFault → ℕ
    → Type 0 where
  sends : {calls : List Call} {r : Result ⊤ StageFault}
      → AndThen (WroteGap id t g n) (WroteRepeat id t n time body) tt calls r tt
      → AppServed id t n time body g (Again n body whether.Send ∷ calls) r 0
  withholds : {calls : List Call} → Withholding n tt calls (Ok tt) tt
      → AppServed id t n time body g (Again n body whether.Withhold ∷ calls) (Ok tt) (opened g n)
  not_withheld : {calls : List Call} {e : StageFault} → Withholding n tt calls (Err e) tt
      → AppServed id t n time body g (Again n body whether.Withhold ∷ calls) (Err e) g
  not_asked : AppServed id t n time body g (Again n body whether.OutOfMemory ∷ []) (Err OutOfMemory) g

-- what a number has is fetched: an application message that isn't withheld is served, all else is passed over
pub data ServedOne (id : Identity) (t g n : ℕ) : List Call → Result ⊤ StageFault → ℕ → Type 0 where
  app : {calls : List Call} {r : Result ⊤ StageFault} {to : ℕ} (time : ℕ) (body : List ℕ) → IsAppPayload time body
      → AppServed id t n time body g calls r to
      → ServedOne id t g n (Fetch n (Ok (kind.App time)) body ∷ calls) r to
  admin : (body : List ℕ) → ServedOne id t g n (Fetch n (Ok kind.Admin) body ∷ []) (Ok tt) (opened g n)
  withheld : (body : List ℕ) → ServedOne id t g n (Fetch n (Ok kind.Withheld) body ∷ []) (Ok tt) (opened g n)
  fetch_lost : (body : List ℕ)
      → ServedOne id t g n (Fetch n (Err fetch.Failed) body ∷ []) (Err StoreFault) g
  fetch_memory : (body : List ℕ)
      → ServedOne id t g n (Fetch n (Err fetch.OutOfMemory) body ∷ []) (Err OutOfMemory) g

-- ---- all of them

-- so many numbers from this one on
abbrev pub numbers : ℕ → ℕ → List ℕ
numbers from zero = []
numbers from (suc count) = from ∷ numbers (from + 1) count

-- EndSeqNo (16) 0, or one above the last number that is kept, asks for all that follow
abbrev pub last_served : ℕ → ℕ → ℕ
last_served last to = if (to == 0) || nat_lt last to then last else to

-- the numbers that are asked for
abbrev pub asked_for : ℕ → ℕ → ℕ → List ℕ
asked_for last from to = numbers from (last_served last to + 1 - from)

-- each number in order, and the gap that is open after them. The session stays as it is
pub data Served (id : Identity) (from to : ℕ) (b : Sender) : List Call → Result ⊤ StageFault → Sender → Type 0 where
  serve_ends : {g : ℕ} {calls : List Call} {e : StageFault}
      → Each (ServedOne id b.numbers.reading) 0 (asked_for b.numbers.last from to) calls (Err e) g
      → Served id from to b calls (Err e) b
  serves : {g : ℕ} {first more : List Call} {r : Result ⊤ StageFault}
      → Each (ServedOne id b.numbers.reading) 0 (asked_for b.numbers.last from to) first (Ok tt) g
      → WroteGap id b.numbers.reading g (last_served b.numbers.last to + 1) tt more r tt
      → Served id from to b (first ++ more) r b
