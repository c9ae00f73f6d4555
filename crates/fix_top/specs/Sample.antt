-- A sample session: a Logon, an order and a Logout come, and each gets its answer.
use Rattle.std.specs.Prelude.{◌≡◌, ◌⊎◌, ◌==◌, ◌<◌, ◌-◌, if◌then◌else◌, codes, length, ℕ, List, [], ◌∷◌, ◌++◌}
use Rattle.std.specs.Prelude.{Option, Some, None, false, ⊤}
use Rattle.fix_base.specs.declared.act.Act.{Act}
use Rattle.fix_base.specs.declared.act.Act.TheVariants as act
use Rattle.fix_base.specs.declared.identity.Identity.{Identity}
use Rattle.fix_base.specs.declared.identity.Begin.TheVariants.{Fix42}
use Rattle.fix_base.specs.Says.{joined}
use Rattle.fix_base.specs.Line.{line_text}
use Rattle.fix_base.specs.Parts.{left_before}
use Rattle.fix_base.specs.Payload.{record_size}
use Rattle.fix_base.specs.Trace.{Note, Did, Failed, Asked, StorePart, LinkPart, AppPart}
use Rattle.fix_engine.specs.InStep.{bytes_written}

-- the text with an SOH for each bar
abbrev pub wire : List ℕ → List ℕ
wire [] = []
wire (c ∷ cs) = (if c == 124 then 1 else c) ∷ wire cs

-- who the session is between
abbrev pub SAMPLE_ID : Identity
SAMPLE_ID = record { begin = Fix42; sender = codes "SELL"; target = codes "BUY" }

-- 2024-01-02 10:00:00 in microseconds since 1970
abbrev pub SAMPLE_TIME : ℕ
SAMPLE_TIME = 1704189600000000

-- parts in memory keep so many bytes that are written, and so many of lines
abbrev pub ROOM : ℕ
ROOM = 1000

-- the disk of the store keeps so many bytes of its file
abbrev pub STORE_ROOM : ℕ
STORE_ROOM = 1000

-- what comes: a Logon (A), an order (D) and a Logout (5)
unfoldable pub LOGON : List ℕ
LOGON = wire (codes "8=FIX.4.2|9=58|35=A|34=1|49=BUY|52=20240102-10:00:00|56=SELL|98=0|108=30|10=063|")

unfoldable pub ORDER : List ℕ
ORDER = wire (codes
    "8=FIX.4.2|9=95|35=D|34=2|49=BUY|52=20240102-10:00:00|56=SELL|11=A1|21=1|55=XYZ|54=1|60=20240102-10:00:00|40=1|10=094|")

unfoldable pub LOGOUT : List ℕ
LOGOUT = wire (codes "8=FIX.4.2|9=46|35=5|34=3|49=BUY|52=20240102-10:00:00|56=SELL|10=025|")

-- all of it
abbrev pub SAMPLE : List ℕ
SAMPLE = joined (LOGON ∷ ORDER ∷ LOGOUT ∷ [])

-- what is answered
unfoldable pub LOGON_ANSWER : List ℕ
LOGON_ANSWER = wire (codes "8=FIX.4.2|9=62|35=A|34=1|49=SELL|52=20240102-10:00:00.000|56=BUY|98=0|108=30|10=248|")

unfoldable pub LOGOUT_ANSWER : List ℕ
LOGOUT_ANSWER = wire (codes "8=FIX.4.2|9=50|35=5|34=2|49=SELL|52=20240102-10:00:00.000|56=BUY|10=209|")

-- the body of the order, which is handed over
unfoldable pub BODY : List ℕ
BODY = wire (codes "35=D|11=A1|21=1|55=XYZ|54=1|60=20240102-10:00:00|40=1|")

-- the line of text that shows the order to an application
unfoldable pub LINE : List ℕ
LINE = codes "2 N 35=D|11=A1|21=1|55=XYZ|54=1|60=20240102-10:00:00|40=1|" ++ 10 ∷ []

-- each look at the clock finds this time
abbrev pub LooksAt : ℕ → List Act → Type 0
LooksAt t [] = ⊤
LooksAt t (act.Now u ∷ acts) = (u ≡ t) × LooksAt t acts
LooksAt t (act.Opened ∷ acts) = LooksAt t acts
LooksAt t (act.Read b ∷ acts) = LooksAt t acts
LooksAt t (act.Idle ∷ acts) = LooksAt t acts
LooksAt t (act.Ended ∷ acts) = LooksAt t acts
LooksAt t (act.Wrote b ∷ acts) = LooksAt t acts
LooksAt t (act.Kept r ∷ acts) = LooksAt t acts
LooksAt t (act.KeepLost r ∷ acts) = LooksAt t acts
LooksAt t (act.Handed n marked body ∷ acts) = LooksAt t acts
LooksAt t (act.HandLost n marked body ∷ acts) = LooksAt t acts
LooksAt t (act.Cut ∷ acts) = LooksAt t acts
LooksAt t (act.Withheld k ∷ acts) = LooksAt t acts
LooksAt t (act.Allowed k ∷ acts) = LooksAt t acts
LooksAt t (act.Stop ∷ acts) = LooksAt t acts

-- The reads are those of a connection with these pieces to come: each read takes a front of the first piece,
-- nothing comes where that is empty, and the connection ends where no piece is left.
abbrev pub ReadsPieces : List (List ℕ) → List Act → Type 0
ReadsPieces pieces [] = ⊤
ReadsPieces pieces (act.Read b ∷ acts) = (rest : List ℕ) × (later : List (List ℕ)) × (pieces ≡ (b ++ rest) ∷ later)
    × ReadsPieces (left_before rest later) acts
ReadsPieces pieces (act.Idle ∷ acts) = (later : List (List ℕ)) × (pieces ≡ [] ∷ later) × ReadsPieces later acts
ReadsPieces pieces (act.Ended ∷ acts) = (pieces ≡ []) × ReadsPieces pieces acts
ReadsPieces pieces (act.Opened ∷ acts) = ReadsPieces pieces acts
ReadsPieces pieces (act.Now t ∷ acts) = ReadsPieces pieces acts
ReadsPieces pieces (act.Wrote b ∷ acts) = ReadsPieces pieces acts
ReadsPieces pieces (act.Kept r ∷ acts) = ReadsPieces pieces acts
ReadsPieces pieces (act.KeepLost r ∷ acts) = ReadsPieces pieces acts
ReadsPieces pieces (act.Handed n marked body ∷ acts) = ReadsPieces pieces acts
ReadsPieces pieces (act.HandLost n marked body ∷ acts) = ReadsPieces pieces acts
ReadsPieces pieces (act.Cut ∷ acts) = ReadsPieces pieces acts
ReadsPieces pieces (act.Withheld k ∷ acts) = ReadsPieces pieces acts
ReadsPieces pieces (act.Allowed k ∷ acts) = ReadsPieces pieces acts
ReadsPieces pieces (act.Stop ∷ acts) = ReadsPieces pieces acts

-- The connection fails only at a write that doesn't fit into its room, the application only at a line that
-- doesn't fit into its own, and the store only at a record that doesn't: so many bytes at first, and less by
-- what goes there. After a failure of the store nothing is said of its room. The application has no draft to
-- give.
abbrev pub HasRooms : ℕ → ℕ → ℕ → List Note → Type 0
HasRooms link app store [] = ⊤
HasRooms link app store (Did (act.Wrote b) ∷ notes) = HasRooms (link - length b) app store notes
HasRooms link app store (Did (act.Handed n marked body) ∷ notes) = HasRooms link
    (app - length (line_text n marked body)) store notes
HasRooms link app store (Did (act.HandLost n marked body) ∷ notes) = (app < length (line_text n marked body))
    × HasRooms link app store notes
HasRooms link app store (Did (act.KeepLost r) ∷ notes) = (store < record_size r) × HasRooms link app store notes
HasRooms link app store (Did (act.Kept r) ∷ notes) = HasRooms link app (store - record_size r) notes
HasRooms link app store (Did (act.Now t) ∷ notes) = HasRooms link app store notes
HasRooms link app store (Did (act.Read b) ∷ notes) = HasRooms link app store notes
HasRooms link app store (Did act.Opened ∷ notes) = HasRooms link app store notes
HasRooms link app store (Did act.Idle ∷ notes) = HasRooms link app store notes
HasRooms link app store (Did act.Ended ∷ notes) = HasRooms link app store notes
HasRooms link app store (Did act.Cut ∷ notes) = HasRooms link app store notes
HasRooms link app store (Did (act.Withheld k) ∷ notes) = HasRooms link app store notes
HasRooms link app store (Did (act.Allowed k) ∷ notes) = HasRooms link app store notes
HasRooms link app store (Did act.Stop ∷ notes) = HasRooms link app store notes
HasRooms link app store (Failed (LinkPart unsent) ∷ notes) = (link < unsent) × HasRooms link app store notes
HasRooms link app store (Failed StorePart ∷ notes) = HasRooms link app 0 notes
HasRooms link app store (Failed AppPart ∷ notes) = HasRooms link app store notes
HasRooms link app store (Asked d ∷ notes) = (d ≡ None) × HasRooms link app store notes

-- the messages that were handed over, and those that may have been lost at that
abbrev pub handed_in : List Act → List Act
handed_in [] = []
handed_in (act.Handed n marked body ∷ acts) = act.Handed n marked body ∷ handed_in acts
handed_in (act.HandLost n marked body ∷ acts) = act.HandLost n marked body ∷ handed_in acts
handed_in (act.Opened ∷ acts) = handed_in acts
handed_in (act.Now t ∷ acts) = handed_in acts
handed_in (act.Read b ∷ acts) = handed_in acts
handed_in (act.Idle ∷ acts) = handed_in acts
handed_in (act.Ended ∷ acts) = handed_in acts
handed_in (act.Wrote b ∷ acts) = handed_in acts
handed_in (act.Kept r ∷ acts) = handed_in acts
handed_in (act.KeepLost r ∷ acts) = handed_in acts
handed_in (act.Cut ∷ acts) = handed_in acts
handed_in (act.Withheld k ∷ acts) = handed_in acts
handed_in (act.Allowed k ∷ acts) = handed_in acts
handed_in (act.Stop ∷ acts) = handed_in acts

-- the status 0, with these bytes written and these messages handed over, and none lost at that
pub record IsServedSo (status : ℕ) (written : List ℕ) (handed : List Act) (acts : List Act) : Type 0 where
  pub done : status ≡ 0
  pub wrote : bytes_written acts ≡ written
  pub gave : handed_in acts ≡ handed

-- what comes of the sample: the Logon and the Logout are answered, and the order is handed over; unless it is
-- out of memory
abbrev pub ServesSample : ℕ → List Act → Type 0
ServesSample status acts = (status ≡ 9)
    ⊎ IsServedSo status (LOGON_ANSWER ++ LOGOUT_ANSWER) (act.Handed 2 false BODY ∷ []) acts

-- the status 0, with these bytes written on the connection and these lines handed to the application, and no others
pub record HasWritten (status : ℕ) (written lines : Option (List ℕ)) : Type 0 where
  pub done : status ≡ 0
  pub wrote : written ≡ Some (LOGON_ANSWER ++ LOGOUT_ANSWER)
  pub gave : lines ≡ Some LINE

-- the same as `ServesSample`, by what was written on the connection and the lines that were handed over
abbrev pub WritesSample : ℕ → Option (List ℕ) → Option (List ℕ) → Type 0
WritesSample status written lines = (status ≡ 9) ⊎ HasWritten status written lines
