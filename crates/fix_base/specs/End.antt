-- An end: what one side of a session stores. It is the fold of the records that were kept.
use Rattle.std.specs.Prelude.{◌≡◌, ℕ, suc, ◌==◌, if◌then◌else◌, List, [], ◌∷◌, ◌++◌, length, Bool, true, false}
use Rattle.std.specs.Prelude.{Option, Some}
use Rattle.fix_base.specs.Lists.{Among, IsPrefixOf}
pub use Rattle.fix_base.specs.declared.entry.By.{By}
pub use Rattle.fix_base.specs.declared.entry.By.TheVariants.{Caller, Engine}
pub use Rattle.fix_base.specs.declared.entry.Entry.{Entry}
pub use Rattle.fix_base.specs.declared.entry.Entry.TheVariants.{App, Admin}
pub use Rattle.fix_base.specs.declared.entry.Record.{Record}
pub use Rattle.fix_base.specs.declared.entry.Record.TheVariants.{Push, Expect, Many, Withhold, Reset, ResetAsk, Confirm}

pub record End : Type 0 where
  pub out : List Entry  -- the entries, numbered from 1
  pub stored : ℕ  -- the expected number that is kept
  pub since : Option ℕ  -- when it was last reset
  pub withheld : List ℕ  -- the numbers of the application messages that aren't to be sent again
  pub asked : Bool  -- the counterparty is asked to reset, and hasn't answered

-- a new end
abbrev pub new_end : End
new_end = record { out = []; stored = 1; since = Option.None; withheld = []; asked = false }

-- the end with this expected number, where it isn't 0
abbrev pub expecting : End → ℕ → End
expecting e k = if k == 0 then e else record e { stored = k }

-- the end after one more record
abbrev pub folded : End → Record → End
folded e (Push entry) = record e { out = e.out ++ entry ∷ [] }
folded e (Expect number) = record e { stored = number }
folded e (Many pushes number) = expecting (record e { out = e.out ++ pushes }) number
folded e (Withhold number) = record e { withheld = e.withheld ++ number ∷ [] }
folded e (Reset time) = record { out = []; stored = 1; since = Some time; withheld = []; asked = e.asked }
folded e (ResetAsk time) = record { out = []; stored = 1; since = Some time; withheld = []; asked = true }
folded e Confirm = record e { asked = false }

-- the end after these records, in this order
abbrev pub folded_all : End → List Record → End
folded_all e [] = e
folded_all e (r ∷ rs) = folded_all (folded e r) rs

-- a number and the body of its application message
pub record Sent : Type 0 where
  pub number : ℕ
  pub body : List ℕ

-- the App entries with their numbers, where the first entry has this number
abbrev pub app_entries_from : ℕ → List Entry → List Sent
app_entries_from n [] = []
app_entries_from n (App time by body ∷ out) = record { number = n; body = body } ∷ app_entries_from (suc n) out
app_entries_from n (Admin time kind about ∷ out) = app_entries_from (suc n) out

-- the App entries with their numbers
abbrev pub app_entries : List Entry → List Sent
app_entries out = app_entries_from 1 out

-- the entry of this number
pub record IsEntry (out : List Entry) (number : ℕ) (entry : Entry) : Type 0 where
  pub before : List Entry
  pub after : List Entry
  pub is : out ≡ before ++ entry ∷ after
  pub place : number ≡ suc (length before)

-- the entry of this number is an App entry with this body
pub record IsAppAt (out : List Entry) (number : ℕ) (body : List ℕ) : Type 0 where
  pub time : ℕ
  pub by : By
  pub entry : IsEntry out number (App time by body)

-- the entry of this number is an Admin entry
pub record IsAdminAt (out : List Entry) (number : ℕ) : Type 0 where
  pub time : ℕ
  pub kind : ℕ
  pub about : ℕ
  pub entry : IsEntry out number (Admin time kind about)

-- what a resend may skip by a gap fill: an Admin entry, or an App entry that is withheld
pub data IsSkipped (e : End) (number : ℕ) : Type 0 where
  admin : IsAdminAt e.out number → IsSkipped e number
  withheld : (body : List ℕ) → IsAppAt e.out number body → Among number e.withheld → IsSkipped e number

-- an application message that may be sent again
pub record MayComeAgain (e : End) (number : ℕ) : Type 0 where
  pub body : List ℕ
  pub app : IsAppAt e.out number body
  pub free : Among number e.withheld → ⊥

-- an end at two moments with no reset between them: what it had, it still has
pub record GrowsTo (old new : End) : Type 0 where
  pub out : IsPrefixOf old.out new.out
  pub withheld : IsPrefixOf old.withheld new.withheld

-- the kind of an application message that is sent once and never again, and of a Reject
abbrev pub ONCE : ℕ
ONCE = 78

abbrev pub REJECT : ℕ
REJECT = 51
