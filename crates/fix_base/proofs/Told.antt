-- What the frames say that an end may write. The rules of `specs/Wrote.antt` speak of bytes; these say
-- the same of messages, and are a tool of the proofs alone.
use Rattle.std.proofs.Common.{◌≡◌, ℕ, suc, ◌<◌, ◌≤◌, List, [], ◌∷◌, length, true, false}
use Rattle.fix_base.specs.Lists.{Among, IsPrefixOf}
use Rattle.fix_base.specs.Message as message
use Rattle.fix_base.specs.Message.{Message}
use Rattle.fix_base.specs.Shape.{IsFrame}
use Rattle.fix_base.specs.Says.{Says, joined}
use Rattle.fix_base.specs.End.{By, Entry, App, Admin, End, IsEntry, IsAppAt, GrowsTo, ONCE}
use Rattle.fix_base.specs.Wrote.{SkipsBetween}

-- what an original of entry n may say; with the kind `N` any application message
pub data OriginalSays (n : ℕ) : Entry → Message → Type 0 where
  app : (time : ℕ) (by : By) (body : List ℕ) → OriginalSays n (App time by body) (message.App n false body)
  admin : (time kind about : ℕ) → OriginalSays n (Admin time kind about) (message.Admin n)
  once : (time kind about : ℕ) (body : List ℕ) → kind ≡ ONCE → OriginalSays n (Admin time kind about) (message.App n false body)

-- what frames may say one after the other: `last` is the number of the last original before them, and
-- `to` that of the last of all
pub data WritesMessages (old new : End) : ℕ → List Message → ℕ → Type 0 where
  done : {last : ℕ} → WritesMessages old new last [] last
  original : {last to : ℕ} {xs : List Message} {x : Message} (n : ℕ) (e : Entry) → last < n → IsEntry new.out n e → OriginalSays n e x → WritesMessages old new n xs to → WritesMessages old new last (x ∷ xs) to
  again : {last to : ℕ} {xs : List Message} (n : ℕ) (body : List ℕ) → IsAppAt new.out n body → (Among n old.withheld → ⊥) → WritesMessages old new last xs to → WritesMessages old new last (message.App n true body ∷ xs) to
  gap_fill : {last to : ℕ} {xs : List Message} (n m : ℕ) → n < m → m ≤ suc (length new.out) → SkipsBetween new n m → WritesMessages old new last xs to → WritesMessages old new last (message.GapFill n m ∷ xs) to

-- each of these is a frame and says this
pub data SaysEach : List (List ℕ) → List Message → Type 0 where
  done : SaysEach [] []
  one : {text : List ℕ} {x : Message} {texts : List (List ℕ)} {xs : List Message} → IsFrame text → Says text x → SaysEach texts xs → SaysEach (text ∷ texts) (x ∷ xs)

-- the bytes are a front of frames that say these
pub record Spells (messages : List Message) (bytes : List ℕ) : Type 0 where
  pub texts : List (List ℕ)
  pub says : SaysEach texts messages
  pub front : IsPrefixOf bytes (joined texts)

-- what may have been written between two moments of an end, as messages
pub record WroteMessages (old new : End) (bytes : List ℕ) : Type 0 where
  pub grew : GrowsTo old new
  pub messages : List Message
  pub last : ℕ
  pub writes : WritesMessages old new (length old.out) messages last
  pub spells : Spells messages bytes
