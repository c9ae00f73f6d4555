-- What the parts that an engine calls have yet to give, and what they were given, each where it is told.
use Rattle.std.specs.Prelude.{◌≡◌, ℕ, ◌-◌, ◌<◌, ◌≤◌, List, [], ◌∷◌, ◌++◌, length, Option, Some, None, ⊤}
use Rattle.fix_base.specs.Lists.{IsPrefixOf}
use Rattle.fix_base.specs.Line.{line_text}
use Rattle.fix_base.specs.declared.entry.Record.{Record}
use Rattle.fix_base.specs.Payload.{record_size}
use Rattle.fix_base.specs.Act.{Act, Opened, Now, Read, Idle, Ended, Wrote, Kept, KeepLost, Handed, HandLost}
use Rattle.fix_base.specs.Act.{Withheld, Allowed, Cut, Stop}

pub record PartsSeen : Type 0 where
  pub to_come : Option (List (List ℕ))  -- the pieces that reads give yet; an empty one is Idle
  pub readings : Option (List ℕ)  -- of the clock
  pub written : Option (List ℕ)  -- the bytes that went out on the connection
  pub link_room : Option ℕ  -- a connection that tells it fails only at a write of more bytes than this
  pub lines : Option (List ℕ)  -- the lines of the messages that the application took
  pub line_room : Option ℕ  -- an application that tells it fails only at a line of more bytes than this
  pub asked : Option (List (List ℕ))  -- the bodies of the drafts that the application gave
  pub to_ask : Option (List (Option (List ℕ)))  -- what it answers yet where it is asked for a draft: a body, or none
  pub store_room : Option ℕ  -- a store that tells it fails only at a record that takes more bytes than this

-- a list with these after it, where it is told
abbrev pub extended : {A : Type 0} → Option (List A) → List A → Option (List A)
extended None more = None
extended (Some old) more = Some (old ++ more)

-- so many bytes less
abbrev pub less : ℕ → Option ℕ → Option ℕ
less n None = None
less n (Some room) = Some (room - n)

-- so many bytes don't fit, where the room is told
abbrev pub HasNoRoom : ℕ → Option ℕ → Type 0
HasNoRoom n None = ⊤
HasNoRoom n (Some room) = room < n

-- the pieces where this much is left of the first
abbrev pub left_before : List ℕ → List (List ℕ) → List (List ℕ)
left_before [] later = later
left_before (b ∷ bs) later = (b ∷ bs) ∷ later

-- these bytes are taken off the front of the first piece
pub record TakesOff (bytes : List ℕ) (old new : List (List ℕ)) : Type 0 where
  pub rest : List ℕ
  pub later : List (List ℕ)
  pub first : old ≡ (bytes ++ rest) ∷ later
  pub left : new ≡ left_before rest later

-- the readings after the first, which is given again where it is the last
abbrev pub later_readings : ℕ → List ℕ → List ℕ
later_readings first [] = first ∷ []
later_readings first (next ∷ more) = next ∷ more

-- a reading is the first of those to come, where they are told; there is always one
abbrev pub ClockReads : ℕ → Option (List ℕ) → Option (List ℕ) → Type 0
ClockReads time None new = new ≡ None
ClockReads time (Some readings) new = (later : List ℕ) × (readings ≡ time ∷ later)
    × (new ≡ Some (later_readings time later))

-- what an act that reads does to the pieces
abbrev pub GivesBytes : List ℕ → Option (List (List ℕ)) → Option (List (List ℕ)) → Type 0
GivesBytes bytes None new = new ≡ None
GivesBytes bytes (Some old) new = (left : List (List ℕ)) × (new ≡ Some left) × TakesOff bytes old left

abbrev pub GivesIdle : Option (List (List ℕ)) → Option (List (List ℕ)) → Type 0
GivesIdle None new = new ≡ None
GivesIdle (Some old) new = (left : List (List ℕ)) × (new ≡ Some left) × (old ≡ [] ∷ left)

abbrev pub GivesEnd : Option (List (List ℕ)) → Option (List (List ℕ)) → Type 0
GivesEnd None new = new ≡ None
GivesEnd (Some old) new = (old ≡ []) × (new ≡ Some [])

-- of a line that may have been lost some first bytes may have got there
abbrev pub LosesLine : List ℕ → Option (List ℕ) → Option (List ℕ) → Type 0
LosesLine line old new = (part : List ℕ) × IsPrefixOf part line × (new ≡ extended old part)

-- the same parts but for what is named
abbrev pub with_to_come : PartsSeen → Option (List (List ℕ)) → PartsSeen
with_to_come p to_come = record {
  to_come = to_come;
  readings = p.readings;
  written = p.written;
  link_room = p.link_room;
  lines = p.lines;
  line_room = p.line_room;
  asked = p.asked;
  to_ask = p.to_ask;
  store_room = p.store_room;
}

abbrev pub with_readings : PartsSeen → Option (List ℕ) → PartsSeen
with_readings p readings = record {
  to_come = p.to_come;
  readings = readings;
  written = p.written;
  link_room = p.link_room;
  lines = p.lines;
  line_room = p.line_room;
  asked = p.asked;
  to_ask = p.to_ask;
  store_room = p.store_room;
}

abbrev pub with_written : PartsSeen → List ℕ → PartsSeen
with_written p bytes = record {
  to_come = p.to_come;
  readings = p.readings;
  written = extended p.written bytes;
  link_room = less (length bytes) p.link_room;
  lines = p.lines;
  line_room = p.line_room;
  asked = p.asked;
  to_ask = p.to_ask;
  store_room = p.store_room;
}

abbrev pub with_line : PartsSeen → List ℕ → PartsSeen
with_line p line = record {
  to_come = p.to_come;
  readings = p.readings;
  written = p.written;
  link_room = p.link_room;
  lines = extended p.lines line;
  line_room = less (length line) p.line_room;
  asked = p.asked;
  to_ask = p.to_ask;
  store_room = p.store_room;
}

abbrev pub with_lines : PartsSeen → Option (List ℕ) → PartsSeen
with_lines p lines = record {
  to_come = p.to_come;
  readings = p.readings;
  written = p.written;
  link_room = p.link_room;
  lines = lines;
  line_room = p.line_room;
  asked = p.asked;
  to_ask = p.to_ask;
  store_room = p.store_room;
}

abbrev pub with_asked : PartsSeen → Option (List (List ℕ)) → Option (List (Option (List ℕ))) → PartsSeen
with_asked p asked to_ask = record {
  to_come = p.to_come;
  readings = p.readings;
  written = p.written;
  link_room = p.link_room;
  lines = p.lines;
  line_room = p.line_room;
  asked = asked;
  to_ask = to_ask;
  store_room = p.store_room;
}

abbrev pub with_store_room : PartsSeen → Option ℕ → PartsSeen
with_store_room p room = record {
  to_come = p.to_come;
  readings = p.readings;
  written = p.written;
  link_room = p.link_room;
  lines = p.lines;
  line_room = p.line_room;
  asked = p.asked;
  to_ask = p.to_ask;
  store_room = room;
}

-- a draft that was given, if any, and its list
abbrev pub given_draft : Option (List ℕ) → List (List ℕ)
given_draft None = []
given_draft (Some body) = body ∷ []

-- an application answers with the first of its answers to come, where they are told; no draft follows the last
abbrev pub Answers : Option (List ℕ) → Option (List (Option (List ℕ))) → Option (List (Option (List ℕ))) → Type 0
Answers draft None new = new ≡ None
Answers draft (Some []) new = (draft ≡ None) × (new ≡ Some [])
Answers draft (Some (first ∷ later)) new = (draft ≡ first) × (new ≡ Some later)

-- the application was asked, and gave a draft with this body or none
abbrev pub AskMoves : Option (List ℕ) → PartsSeen → PartsSeen → Type 0
AskMoves draft old new = Answers draft old.to_ask new.to_ask
    × (new ≡ with_asked old (extended old.asked (given_draft draft)) new.to_ask)

-- a room of which this record takes no more than it is long; one that is told stays told
abbrev pub TakesRoom : Record → Option ℕ → Option ℕ → Type 0
TakesRoom r None new = new ≡ None
TakesRoom r (Some room) new = (left : ℕ) × (new ≡ Some left) × (room - record_size r ≤ left)

-- a room that is told stays told, and doesn't shrink; one that isn't may be told then
abbrev pub KeepsRoom : Option ℕ → Option ℕ → Type 0
KeepsRoom None new = ⊤
KeepsRoom (Some room) new = (left : ℕ) × (new ≡ Some left) × (room ≤ left)

-- what an act does to what the parts tell
abbrev pub ActMoves : Act → PartsSeen → PartsSeen → Type 0
ActMoves (Now t) old new = ClockReads t old.readings new.readings × (new ≡ with_readings old new.readings)
ActMoves (Read b) old new = GivesBytes b old.to_come new.to_come × (new ≡ with_to_come old new.to_come)
ActMoves Idle old new = GivesIdle old.to_come new.to_come × (new ≡ with_to_come old new.to_come)
ActMoves Ended old new = GivesEnd old.to_come new.to_come × (new ≡ with_to_come old new.to_come)
ActMoves (Wrote b) old new = new ≡ with_written old b
ActMoves (Handed number marked body) old new = new ≡ with_line old (line_text number marked body)
ActMoves (HandLost number marked body) old new = HasNoRoom (length (line_text number marked body)) old.line_room
    × LosesLine (line_text number marked body) old.lines new.lines × (new ≡ with_lines old new.lines)
ActMoves (Kept r) old new = TakesRoom r old.store_room new.store_room × (new ≡ with_store_room old new.store_room)
ActMoves (KeepLost r) old new = HasNoRoom (record_size r) old.store_room × (new ≡ old)
ActMoves Opened old new = new ≡ old
ActMoves (Withheld n) old new = new ≡ old
ActMoves (Allowed n) old new = new ≡ old
ActMoves Cut old new = new ≡ old
ActMoves Stop old new = KeepsRoom old.store_room new.store_room × (new ≡ with_store_room old new.store_room)
