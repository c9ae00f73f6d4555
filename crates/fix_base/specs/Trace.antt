-- What is seen from outside of the parts that an engine calls: the tape of its acts, the stored end, how
-- often each part failed, and what the parts have yet to give and were given.
use Rattle.std.specs.Prelude.{◌≡◌, ◌⊎◌, ◌↔◌, ℕ, suc, ◌+◌, ◌≤◌, min, List, [], ◌∷◌, ◌++◌, Option, Some, None}
use Rattle.fix_base.specs.End.{Record, End, folded}
use Rattle.fix_base.specs.Parts.{PartsSeen, ActMoves, AskMoves, HasNoRoom, with_store_room}
use Rattle.fix_base.specs.Act.{Act, Opened, Now, Read, Idle, Ended, Wrote, Kept, KeepLost, Handed, HandLost}
use Rattle.fix_base.specs.Act.{Withheld, Allowed, Cut, Stop}

abbrev pub option_folded : Option End → Record → Option End
option_folded None r = None
option_folded (Some e) r = Some (folded e r)

-- what one act may do to a store that is told or not; a lost record may have got there
abbrev pub ActStores : Act → Option End → Option End → Type 0
ActStores (Kept r) old new = new ≡ option_folded old r
ActStores (KeepLost r) old new = (new ≡ old) ⊎ (new ≡ option_folded old r)
ActStores Opened old new = new ≡ old
ActStores (Now t) old new = new ≡ old
ActStores (Read b) old new = new ≡ old
ActStores Idle old new = new ≡ old
ActStores Ended old new = new ≡ old
ActStores (Wrote b) old new = new ≡ old
ActStores (Handed number marked body) old new = new ≡ old
ActStores (HandLost number marked body) old new = new ≡ old
ActStores (Withheld n) old new = new ≡ old
ActStores (Allowed n) old new = new ≡ old
ActStores Cut old new = new ≡ old
ActStores Stop old new = new ≡ old

abbrev pub Stores : List Act → Option End → Option End → Type 0
Stores [] old new = new ≡ old
Stores (act ∷ acts) old new = (mid : Option End) × ActStores act old mid × Stores acts mid new

-- a tape with these acts after it, where it is told
abbrev pub grown : Option (List Act) → List Act → Option (List Act)
grown None acts = None
grown (Some old) acts = Some (old ++ acts)

-- how often each part has failed
pub record Faults : Type 0 where
  pub store : ℕ
  pub link : ℕ
  pub app : ℕ

-- what an outside may fail at
pub data Part : Type 0 where
  StorePart : Part
  -- so many bytes of a write didn't go out; 0 for a read
  LinkPart : (unsent : ℕ) → Part
  AppPart : Part

-- one thing that came of a call: an act, that a part failed, or that the application was asked for a draft,
-- and gave one with this body or none
pub data Note : Type 0 where
  Did : (act : Act) → Note
  Failed : (part : Part) → Note
  Asked : (draft : Option (List ℕ)) → Note

-- the acts among these
abbrev pub acts_of : List Note → List Act
acts_of [] = []
acts_of (Did act ∷ notes) = act ∷ acts_of notes
acts_of (Failed part ∷ notes) = acts_of notes
acts_of (Asked draft ∷ notes) = acts_of notes

-- how often each part failed in these
abbrev pub store_failures : List Note → ℕ
store_failures [] = 0
store_failures (Did act ∷ notes) = store_failures notes
store_failures (Failed StorePart ∷ notes) = suc (store_failures notes)
store_failures (Failed (LinkPart unsent) ∷ notes) = store_failures notes
store_failures (Failed AppPart ∷ notes) = store_failures notes
store_failures (Asked draft ∷ notes) = store_failures notes

abbrev pub link_failures : List Note → ℕ
link_failures [] = 0
link_failures (Did act ∷ notes) = link_failures notes
link_failures (Failed StorePart ∷ notes) = link_failures notes
link_failures (Failed (LinkPart unsent) ∷ notes) = suc (link_failures notes)
link_failures (Failed AppPart ∷ notes) = link_failures notes
link_failures (Asked draft ∷ notes) = link_failures notes

abbrev pub app_failures : List Note → ℕ
app_failures [] = 0
app_failures (Did act ∷ notes) = app_failures notes
app_failures (Failed StorePart ∷ notes) = app_failures notes
app_failures (Failed (LinkPart unsent) ∷ notes) = app_failures notes
app_failures (Failed AppPart ∷ notes) = suc (app_failures notes)
app_failures (Asked draft ∷ notes) = app_failures notes

-- the last value of a count
abbrev pub LAST_COUNT : ℕ
LAST_COUNT = 18446744073709551615

-- a count rose at least so often, or stands at its last value; no count falls
abbrev pub Rises : ℕ → ℕ → ℕ → Type 0
Rises times old new = min (old + times) LAST_COUNT ≤ new

-- each failure raised its part's count
pub record Counts (old new : Faults) (notes : List Note) : Type 0 where
  pub store : Rises (store_failures notes) old.store new.store
  pub link : Rises (link_failures notes) old.link new.link
  pub app : Rises (app_failures notes) old.app new.app

-- no count rose, nor stands at its last value
pub record NoneRose (old new : Faults) : Type 0 where
  pub store : Rises 1 old.store new.store → ⊥
  pub link : Rises 1 old.link new.link → ⊥
  pub app : Rises 1 old.app new.app → ⊥

-- what one thing that came of a call does to what the parts tell
abbrev pub NoteMoves : Note → PartsSeen → PartsSeen → Type 0
NoteMoves (Did act) old new = ActMoves act old new
-- what room a store has that failed isn't said
NoteMoves (Failed StorePart) old new = new ≡ with_store_room old new.store_room
NoteMoves (Failed (LinkPart unsent)) old new = HasNoRoom unsent old.link_room × (new ≡ old)
NoteMoves (Failed AppPart) old new = new ≡ old
NoteMoves (Asked draft) old new = AskMoves draft old new

-- the same of several, one after another
abbrev pub Follows : List Note → PartsSeen → PartsSeen → Type 0
Follows [] old new = new ≡ old
Follows (note ∷ notes) old new = (mid : PartsSeen) × NoteMoves note old mid × Follows notes mid new

-- what is seen from outside of an Outside
pub record OutsideSeen : Type 1 where
  pub tape : Option (List Act)
  pub Holds : End → Type 0  -- the store tells that it holds this end; of none, where it tells nothing
  pub open_at : Option ℕ  -- how many entries the store has, where it is open
  pub Tells : Type 0  -- the store tells its file
  pub Breaks : ℕ → Type 0  -- the file isn't a store's, and this is the first place where it is none
  pub faults : Faults
  pub parts : PartsSeen

-- what these acts do to the ends that a store holds
pub record HoldsOn (old new : End → Type 0) (acts : List Act) : Type 0 where
  -- it tells what comes of an end that it told
  pub kept : (e : End) → old e → (e' : End) × new e' × Stores acts (Some e) (Some e')
  -- and it tells nothing else
  pub only : (e' : End) → new e' → (e : End) × old e × Stores acts (Some e) (Some e')

-- what is told of a file stays
pub record SameFile (old new : OutsideSeen) : Type 0 where
  pub told : new.Tells ↔ old.Tells
  pub breaks : (place : ℕ) → new.Breaks place ↔ old.Breaks place

-- this came of some calls, and nothing else
pub record Trace (old new : OutsideSeen) (notes : List Note) : Type 0 where
  pub tape : new.tape ≡ grown old.tape (acts_of notes)
  pub stored : HoldsOn old.Holds new.Holds (acts_of notes)
  pub file : SameFile old new
  pub faults : Counts old.faults new.faults notes
  pub parts : Follows notes old.parts new.parts

-- these notes came of the calls between two moments, and they have P
abbrev pub HasTrace : OutsideSeen → OutsideSeen → (List Note → Type 0) → Type 0
HasTrace old new P = (notes : List Note) × Trace old new notes × P notes
