-- The sending half of a session, and how its parts change.
use Rattle.std.specs.Prelude.{◌≡◌, ◌≤◌, ◌+◌, ◌==◌, ◌&&◌, if◌then◌else◌, min, nat_lt, ℕ, length, true, false, Some, None}
use Rattle.std.specs.Prelude.{Result, Ok, Err, Option, ⊤}
use Rattle.fix_base.specs.declared.identity.Identity.{Identity}
use Rattle.fix_base.specs.Session.{IsValidIdentity}
use Rattle.fix_base.specs.Payload.{LAST_TIME}
use Rattle.fix_base.specs.Trace.{OutsideSeen}
use Rattle.fix_fields.specs.Drafted.{DraftText}
pub use Rattle.fix_stage.specs.declared.sender.Numbers.{Numbers}
pub use Rattle.fix_stage.specs.declared.sender.Sender.{Sender}
pub use Rattle.fix_stage.specs.declared.pending.PendingDraft.{PendingDraft}
pub use Rattle.fix_stage.specs.declared.fault.StageFault.{StageFault}
pub use Rattle.fix_stage.specs.declared.fault.StageFault.TheVariants.{NumbersSpent, OutOfMemory, StoreFault, LinkFault}
use Rattle.fix_stage.specs.Stage.{Staged, no_stage}

-- ---- the numbers

-- the inbound message is counted: this number is expected now
abbrev pub with_expected : Numbers → ℕ → Numbers
with_expected n number = record {
  expected = number;
  stored_expected = n.stored_expected;
  last = n.last;
  reading = n.reading;
}

-- a reading after the end of 2099 counts as that
abbrev pub with_reading : Numbers → ℕ → Numbers
with_reading n time = record {
  expected = n.expected;
  stored_expected = n.stored_expected;
  last = n.last;
  reading = min time LAST_TIME;
}

-- so many more entries are kept and, where it isn't 0, this expected number
abbrev pub numbers_kept : Numbers → ℕ → ℕ → Numbers
numbers_kept n count expect = record {
  expected = n.expected;
  stored_expected = if expect == 0 then n.stored_expected else expect;
  last = n.last + count;
  reading = n.reading;
}

-- the expected number that is to be kept: 0 where it is kept already
abbrev pub due_number : Numbers → ℕ
due_number n = if n.stored_expected == n.expected then 0 else n.expected

-- ---- the draft in hand

abbrev pub no_draft : PendingDraft
no_draft = record { draft = None; staged = false; store_failed = false }

-- its entry is staged
abbrev pub staged_draft : PendingDraft → PendingDraft
staged_draft p = record { draft = p.draft; staged = true; store_failed = p.store_failed }

-- a draft is in hand until the record that has its entry is kept
abbrev pub kept_draft : PendingDraft → PendingDraft
kept_draft p = if p.staged then no_draft else p

-- the record that has its entry was lost: it is kept or not
abbrev pub lost_draft : PendingDraft → PendingDraft
lost_draft p = record { draft = p.draft; staged = false; store_failed = p.staged }

-- the record that has its entry was not kept
abbrev pub unstaged_draft : PendingDraft → PendingDraft
unstaged_draft p = record { draft = p.draft; staged = false; store_failed = p.store_failed }

-- the application gave this draft, or none
abbrev pub given_draft : PendingDraft → Option DraftText → PendingDraft
given_draft p draft = record { draft = draft; staged = p.staged; store_failed = p.store_failed }

-- A store was opened again, and tells its last number. Where the record that has the draft's entry was lost, and the
-- store has more entries than the session counted, it has that record, and the draft is in hand no more
abbrev pub reopened_draft : PendingDraft → ℕ → ℕ → PendingDraft
reopened_draft p before last =
    if p.store_failed && nat_lt before last then no_draft else
    record { draft = p.draft; staged = false; store_failed = false }

-- ---- the sender

abbrev pub with_numbers : Sender → Numbers → Sender
with_numbers b n = record { numbers = n; stage = b.stage; pending = b.pending }

abbrev pub with_stage : Sender → Staged → Sender
with_stage b s = record { numbers = b.numbers; stage = s; pending = b.pending }

abbrev pub with_pending : Sender → PendingDraft → Sender
with_pending b p = record { numbers = b.numbers; stage = b.stage; pending = p }

abbrev pub emptied : Sender → Sender
emptied b = with_stage b no_stage

-- the session leaves its connection: what is staged and isn't kept is given up
abbrev pub sender_down : Sender → Sender
sender_down b = record { numbers = b.numbers; stage = no_stage; pending = unstaged_draft b.pending }

-- the number that the next message takes
abbrev pub next_number : Sender → ℕ
next_number b = b.numbers.last + length b.stage.entries + 1

-- the numbers and the reading stay within their bounds, and there is a number for each staged entry
pub record IsInRange (b : Sender) : Type 0 where
  pub expected : 1 ≤ b.numbers.expected
  pub expected_bound : b.numbers.expected ≤ 1000000000
  pub stored_expected : 1 ≤ b.numbers.stored_expected
  pub stored_expected_bound : b.numbers.stored_expected ≤ 1000000000
  pub last : b.numbers.last + length b.stage.entries ≤ 999999999
  pub reading : b.numbers.reading ≤ LAST_TIME

-- how many entries a store has that is open after this answer: one that failed isn't
abbrev pub open_after : Result ⊤ StageFault → Sender → Option ℕ
open_after (Ok x) b = Some b.numbers.last
open_after (Err NumbersSpent) b = Some b.numbers.last
open_after (Err OutOfMemory) b = Some b.numbers.last
open_after (Err StoreFault) b = None
open_after (Err LinkFault) b = Some b.numbers.last

-- The identity is valid, the numbers are in range, and the store is open with so many entries, if it is open
pub record IsReady (id : Identity) (w : OutsideSeen) (open_at : Option ℕ) (b : Sender) : Type 0 where
  pub valid : IsValidIdentity id
  pub range : IsInRange b
  pub opens : w.open_at ≡ open_at
