-- What is seen of an application, and what a hand-over does to that.
use Rattle.std.specs.Prelude.{◌≡◌, ◌⊎◌, ℕ, List, [], ◌∷◌, ◌++◌, length, Option}
use Rattle.fix_base.specs.Trace.{Rises}
use Rattle.fix_parts.specs.declared.app.Given.{Given}
use Rattle.fix_outside.specs.declared.handing.Handed.{Handed}
use Rattle.fix_outside.specs.declared.handing.Said.{Said}
use Rattle.fix_outside.specs.declared.handing.Said.TheVariants as said
use Rattle.fix_base.specs.Parts.{extended, less, HasNoRoom, LosesLine, given_draft, Answers}
use Rattle.fix_base.specs.Line.{line_text}

pub record AppSeen : Type 0 where
  pub given : Option (List Given)  -- the messages that it took
  pub lines : Option (List ℕ)  -- their lines, where it writes a line for each
  pub room : Option ℕ  -- an application that tells it fails only at a line of more bytes than this
  pub asked : Option (List (List ℕ))  -- the bodies of the drafts that it gave
  pub to_ask : Option (List (Option (List ℕ)))  -- its answers yet to give where it is asked for a draft
  pub faults : ℕ

-- what the application has of a message
abbrev pub given_of : Handed → Given
given_of h = record { number = h.number; marked = h.marked; body = h.body.now }

-- the line of a message
abbrev pub line_of : Handed → List ℕ
line_of h = line_text h.number h.marked h.body.now

-- what a hand-over does to the messages; one that failed may have got there
abbrev pub GivenAfter : Said → Handed → Option (List Given) → Option (List Given) → Type 0
GivenAfter said.Taken h old new = new ≡ extended old (given_of h ∷ [])
GivenAfter said.Failed h old new = (new ≡ old) ⊎ (new ≡ extended old (given_of h ∷ []))
GivenAfter said.OutOfMemory h old new = new ≡ old

-- what a hand-over does to the lines
abbrev pub LinesAfter : Said → Handed → Option (List ℕ) → Option (List ℕ) → Type 0
LinesAfter said.Taken h old new = new ≡ extended old (line_of h)
LinesAfter said.Failed h old new = LosesLine (line_of h) old new
LinesAfter said.OutOfMemory h old new = new ≡ old

-- what a hand-over does to the room
abbrev pub LineRoomAfter : Said → Handed → Option ℕ → Option ℕ → Type 0
LineRoomAfter said.Taken h old new = new ≡ less (length (line_of h)) old
LineRoomAfter said.Failed h old new = HasNoRoom (length (line_of h)) old × (new ≡ old)
LineRoomAfter said.OutOfMemory h old new = new ≡ old

-- how often a hand-over failed
abbrev pub hand_failures : Said → ℕ
hand_failures said.Taken = 0
hand_failures said.Failed = 1
hand_failures said.OutOfMemory = 0

-- what a hand-over does
pub record AppTakes (turn : Said) (h : Handed) (old new : AppSeen) : Type 0 where
  pub given : GivenAfter turn h old.given new.given
  pub lines : LinesAfter turn h old.lines new.lines
  pub room : LineRoomAfter turn h old.room new.room
  pub asked : new.asked ≡ old.asked
  pub to_ask : new.to_ask ≡ old.to_ask
  pub faults : Rises (hand_failures turn) old.faults new.faults

-- the bodies of the drafts among these answers
abbrev pub drafts_in : List (Option (List ℕ)) → List (List ℕ)
drafts_in [] = []
drafts_in (answer ∷ answers) = given_draft answer ++ drafts_in answers

-- what it does where it is asked for a draft, and gives one with this body or none
abbrev pub AppAsks : Option (List ℕ) → AppSeen → AppSeen → Type 0
AppAsks draft old new = Answers draft old.to_ask new.to_ask
    × (new ≡ record {
      given = old.given;
      lines = old.lines;
      room = old.room;
      asked = extended old.asked (given_draft draft);
      to_ask = new.to_ask;
      faults = old.faults;
    })
