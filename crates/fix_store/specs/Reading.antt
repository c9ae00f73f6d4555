-- Which end a journal's file has, and where it breaks first.
use Rattle.std.specs.Prelude.{◌≡◌, ◌⊎◌, ℕ, ◌≤◌, Bool, true, false, List, [], ◌∷◌, ◌++◌, length, map, ⊤}
use Rattle.fix_base.specs.declared.entry.Record.{Record}
use Rattle.fix_base.specs.declared.entry.Record.TheVariants.{Push, Expect, Many, Withhold, Reset, ResetAsk, Confirm}
use Rattle.fix_base.specs.End.{End, new_end, folded}
use Rattle.fix_base.specs.Payload.{IsKeepableAt}
use Rattle.fix_journal.specs.Format.{front, HasRecords, IsDamagedAt}
use Rattle.fix_store.specs.Spelling.{Item, keeps, marks, spelled_item}

-- the greatest MsgSeqNum (34)
abbrev pub LAST_NUMBER : ℕ
LAST_NUMBER = 999999999

-- what payloads come to: the end, and whether the mark of version 2 is among them
pub record Content : Type 0 where
  pub end : End
  pub marked : Bool

abbrev pub new_content : Content
new_content = record { end = new_end; marked = false }

-- a mark changes nothing of the end
abbrev pub taken : Content → Item → Content
taken s (keeps r) = record { end = folded s.end r; marked = s.marked }
taken s marks = record { end = s.end; marked = true }

abbrev pub taken_all : Content → List Item → Content
taken_all s [] = s
taken_all s (i ∷ items) = taken_all (taken s i) items

-- a reset that the counterparty is asked for, and its answer, stand after the mark
abbrev pub IsAfterMark : Record → Bool → Type 0
IsAfterMark (Push entry) marked = ⊤
IsAfterMark (Expect number) marked = ⊤
IsAfterMark (Many pushes number) marked = ⊤
IsAfterMark (Withhold number) marked = ⊤
IsAfterMark (Reset time) marked = ⊤
IsAfterMark (ResetAsk time) marked = marked ≡ true
IsAfterMark Confirm marked = marked ≡ true

-- a record that may be kept after such records: each entry has a number, and a number that is withheld is one
-- of an application message
pub record MayBeKept (s : Content) (r : Record) : Type 0 where
  pub keepable : IsKeepableAt s.end r
  pub numbered : length (folded s.end r).out ≤ LAST_NUMBER
  pub after : IsAfterMark r s.marked

-- there is one mark at most
abbrev pub MayFollow : Content → Item → Type 0
MayFollow s (keeps r) = MayBeKept s r
MayFollow s marks = s.marked ≡ false

-- what may stand one after another
abbrev pub MayAllFollow : Content → List Item → Type 0
MayAllFollow s [] = ⊤
MayAllFollow s (i ∷ items) = MayFollow s i × MayAllFollow (taken s i) items

-- the file's payloads are these
pub record IsStoreOf (file : List ℕ) (items : List Item) : Type 0 where
  pub is : HasRecords file (map spelled_item items)
  pub each : MayAllFollow new_content items

-- the end that all its records come to
pub record HasEnd (file : List ℕ) (e : End) : Type 0 where
  pub items : List Item
  pub is : IsStoreOf file items
  pub folds : e ≡ (taken_all new_content items).end

-- the first payload that is no record after those before it; its place is that of its gate
pub record IsNoRecordAt (file : List ℕ) (place : ℕ) : Type 0 where
  pub items : List Item
  pub payload : List ℕ
  pub later : List (List ℕ)
  pub is : HasRecords file (map spelled_item items ++ payload ∷ later)
  pub each : MayAllFollow new_content items
  pub none : (i : Item) → MayFollow (taken_all new_content items) i → payload ≡ spelled_item i → ⊥
  pub at : place ≡ length (front (map spelled_item items))

-- the first place at which a file breaks: that of the journal's format, and only in a file without one that
-- of a payload
abbrev pub IsBrokenAt : List ℕ → ℕ → Type 0
IsBrokenAt file place = IsDamagedAt file place ⊎ IsNoRecordAt file place
