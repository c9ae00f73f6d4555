-- What an end may write: originals, repeats and gap fills (FIX, "Message Recovery", "Resend Request",
-- "Sequence Reset", "PossDupFlag").
use Rattle.std.specs.Prelude.{◌≡◌, ◌⊎◌, ℕ, suc, ◌<◌, ◌≤◌, codes, if◌then◌else◌, List, [], ◌∷◌, ◌++◌, length, Bool}
use Rattle.std.specs.Prelude.{Option, Some, None, option_map}
use Rattle.std.specs.List.{AllByRecursion}
use Rattle.std.specs.Fmt.{decimal}
use Rattle.fix_base.specs.Lists.{Among, IsPrefixOf}
use Rattle.fix_base.specs.Session.{Identity}
use Rattle.fix_base.specs.Times.{IsTimeText}
use Rattle.fix_base.specs.Fields.{Field, FieldsAfter}
use Rattle.fix_base.specs.Sealed.{sealed}
use Rattle.fix_base.specs.Says.{fields_text, joined}
use Rattle.fix_base.specs.End.{By, Entry, App, Admin, End, IsEntry, IsSkipped, GrowsTo, ONCE}
use Rattle.fix_base.specs.Payload.{field, IsEntryField, IsAppType, IsBodyOf}

-- the frame of these fields: the first is MsgType (35), and none is 8, 9 or 10
pub record IsSealed (id : Identity) (fields : List Field) (text : List ℕ) : Type 0 where
  pub spelled : text ≡ sealed id.begin (fields_text fields)
  pub are : FieldsAfter None (fields_text fields) fields
  pub short : length (fields_text fields) ≤ 1048576

-- the fields of an original, of a repeat and of a gap fill: MsgType (35), then MsgSeqNum (34),
-- PossDupFlag (43), SenderCompID (49), SendingTime (52), TargetCompID (56), OrigSendingTime (122)
abbrev pub original_fields : Identity → List ℕ → List ℕ → List ℕ → List Field → List Field
original_fields id number at type rest =
    field 35 type ∷ field 34 number ∷ field 49 id.sender ∷ field 52 at ∷ field 56 id.target ∷ rest

abbrev pub repeat_fields : Identity → List ℕ → List ℕ → List ℕ → List ℕ → List Field → List Field
repeat_fields id number at was type rest =
    field 35 type ∷ field 34 number ∷ field 43 (codes "Y") ∷ field 49 id.sender ∷ field 52 at ∷ field 56 id.target
    ∷ field 122 was ∷ rest

-- NewSeqNo (36), and GapFillFlag (123) = Y
abbrev pub gap_fields : Identity → List ℕ → List ℕ → List ℕ → List Field
gap_fields id number next at =
    field 35 (codes "4") ∷ field 34 number ∷ field 43
    (codes "Y") ∷ field 49 id.sender ∷ field 52 at ∷ field 56 id.target
    ∷ field 122 at ∷ field 36 next ∷ field 123 (codes "Y") ∷ []

-- the field of this tag, where it has a value
abbrev pub optional : ℕ → Option (List ℕ) → List Field
optional tag None = []
optional tag (Some value) = field tag value ∷ []

-- BeginSeqNo (7) and EndSeqNo (16) of a ResendRequest: both ends are included, and 0 asks for all that follow
pub record IsRequestRange (begin_seq_no end_seq_no : ℕ) : Type 0 where
  pub first : 1 ≤ begin_seq_no
  pub last : begin_seq_no ≤ 999999999
  pub end : (end_seq_no ≡ 0) ⊎ (begin_seq_no ≤ end_seq_no) × (end_seq_no ≤ 999999999)

-- the fields that an administrative message of this MsgType (35) has after its header, in their order.
-- `about` is the MsgSeqNum of the message that a Reject refers to
pub data AdminFields (about : ℕ) : ℕ → List Field → Type 0 where
  -- Heartbeat: TestReqID (112), where it answers a TestRequest
  heartbeat : (test_req_id : Option (List ℕ)) → AdminFields about 48 (optional 112 test_req_id)
  -- TestRequest: TestReqID (112)
  test_request : (test_req_id : List ℕ) → AdminFields about 49 (field 112 test_req_id ∷ [])
  -- ResendRequest: BeginSeqNo (7), EndSeqNo (16)
  resend_request : (begin_seq_no end_seq_no : ℕ) → IsRequestRange begin_seq_no end_seq_no
      → AdminFields about 50 (field 7 (decimal begin_seq_no) ∷ field 16 (decimal end_seq_no) ∷ [])
  -- Reject: RefSeqNum (45), RefTagID (371), RefMsgType (372), SessionRejectReason (373), Text (58)
  reject : (ref_tag_id reason : Option ℕ) (ref_msg_type : List ℕ) (text : Option (List ℕ))
      → AdminFields about 51
      (field 45 (decimal about) ∷ (optional 371 (option_map decimal ref_tag_id)
      ++ (field 372 ref_msg_type ∷ (optional 373 (option_map decimal reason) ++ optional 58 text))))
  -- Logout: Text (58)
  logout : (text : Option (List ℕ)) → AdminFields about 53 (optional 58 text)
  -- Logon: EncryptMethod (98) = 0, HeartBtInt (108), and ResetSeqNumFlag (141) = Y, where its sender has reset
  logon : (heart_bt_int : ℕ) (reset : Bool)
      → AdminFields about 65
      (field 98 (codes "0") ∷ field 108 (decimal heart_bt_int) ∷ optional 141
      (if reset then Some (codes "Y") else None))

-- what an original of this entry carries: its MsgType, and the fields after the header. One that is
-- sent once may be any application message
pub data Carries : Entry → List ℕ → List Field → Type 0 where
  app : {time : ℕ} {by : By} {body type : List ℕ} {rest : List Field} → IsBodyOf body type rest
      → Carries (App time by body) type rest
  admin : {time kind about : ℕ} {rest : List Field} → AdminFields about kind rest
      → Carries (Admin time kind about) (kind ∷ []) rest
  once : {time kind about : ℕ} {type : List ℕ} {rest : List Field} → kind ≡ ONCE → IsAppType type
      → AllByRecursion IsEntryField rest → Carries (Admin time kind about) type rest

-- when an entry was sent first
abbrev pub time_of_entry : Entry → ℕ
time_of_entry (App time by body) = time
time_of_entry (Admin time kind about) = time

-- the original of entry n: SendingTime (52) is the entry's time, and there is no 43 and no 122
pub record IsOriginal (id : Identity) (n : ℕ) (e : Entry) (text : List ℕ) : Type 0 where
  pub type : List ℕ
  pub at : List ℕ
  pub rest : List Field
  pub carries : Carries e type rest
  pub sent_at : IsTimeText (time_of_entry e) at
  pub sealed_so : IsSealed id (original_fields id (decimal n) at type rest) text

-- a repeat of application entry n, sent again at t: OrigSendingTime (122) is the entry's time
pub record IsRepeat (id : Identity) (n time : ℕ) (body : List ℕ) (t : ℕ) (text : List ℕ) : Type 0 where
  pub type : List ℕ
  pub at : List ℕ
  pub was : List ℕ
  pub rest : List Field
  pub carries : IsBodyOf body type rest
  pub sent_at : IsTimeText t at
  pub sent_first_at : IsTimeText time was
  pub sealed_so : IsSealed id (repeat_fields id (decimal n) at was type rest) text

-- a gap fill from n up to m, m left out, at t
pub record IsGapFill (id : Identity) (n m t : ℕ) (text : List ℕ) : Type 0 where
  pub at : List ℕ
  pub sent_at : IsTimeText t at
  pub sealed_so : IsSealed id (gap_fields id (decimal n) (decimal m) at) text

-- each entry from n up to m, m left out, is Admin or withheld
pub record SkipsBetween (e : End) (n m : ℕ) : Type 0 where
  pub each : (k : ℕ) → n ≤ k → k < m → IsSkipped e k

-- a gap fill that was written: from a number up to the next that is to come
pub record Gap : Type 0 where
  pub from : ℕ
  pub next : ℕ

-- none of these goes over the number
pub record IsUncovered (n : ℕ) (gaps : List Gap) : Type 0 where
  pub none : (gap : Gap) → Among gap gaps → gap.from ≤ n → n < gap.next → ⊥

-- the frames that may be written one after the other between two moments of an end. `last` is the
-- number of the last original before them, `to` that of the last of all, and `gaps` are the gap fills
-- before them. A message that was withheld at the first moment isn't repeated, nor one that a gap fill
-- has passed over
pub data Writes (id : Identity) (old new : End) : ℕ → List Gap → List (List ℕ) → ℕ → Type 0 where
  done : {last : ℕ} {gaps : List Gap} → Writes id old new last gaps [] last
  original : {last to : ℕ} {gaps : List Gap} {text : List ℕ} {texts : List (List ℕ)} (n : ℕ) (e : Entry)
      → n ≤ 999999999 → last < n → IsEntry new.out n e → IsOriginal id n e text → Writes id old new n gaps texts to
      → Writes id old new last gaps (text ∷ texts) to
  again : {last to : ℕ} {gaps : List Gap} {text : List ℕ} {texts : List (List ℕ)} (n time : ℕ) (by : By)
      (body : List ℕ) (t : ℕ) → n ≤ 999999999 → IsEntry new.out n (App time by body) → (Among n old.withheld → ⊥)
      → IsUncovered n gaps → IsRepeat id n time body t text → Writes id old new last gaps texts to
      → Writes id old new last gaps (text ∷ texts) to
  gap_fill : {last to : ℕ} {gaps : List Gap} {text : List ℕ} {texts : List (List ℕ)} (n m t : ℕ) → m ≤ 1000000000
      → n < m → m ≤ suc (length new.out) → SkipsBetween new n m → IsGapFill id n m t text
      → Writes id old new last (record { from = n; next = m } ∷ gaps) texts to
      → Writes id old new last gaps (text ∷ texts) to

-- what may have been written between two moments of an end: a front of such frames, whose originals
-- are numbered above all that the end had at the first moment
pub record Wrote (id : Identity) (old new : End) (bytes : List ℕ) : Type 0 where
  pub grew : GrowsTo old new
  pub texts : List (List ℕ)
  pub last : ℕ
  pub writes : Writes id old new (length old.out) [] texts last
  pub front : IsPrefixOf bytes (joined texts)

-- the same where no frame is cut, with the number of the last original
pub record WroteWhole (id : Identity) (old new : End) (last : ℕ) (bytes : List ℕ) : Type 0 where
  pub grew : GrowsTo old new
  pub texts : List (List ℕ)
  pub writes : Writes id old new (length old.out) [] texts last
  pub whole : bytes ≡ joined texts

-- one more frame that an end may write, by what it has kept until now: `last` is the number of the
-- last original before it, `to` that of the last with it
pub data WritesNext (id : Identity) (now : End) : ℕ → List ℕ → ℕ → Type 0 where
  next_original : {last : ℕ} {text : List ℕ} (n : ℕ) (e : Entry) → n ≤ 999999999 → last < n → IsEntry now.out n e
      → IsOriginal id n e text → WritesNext id now last text n
  -- a repeat is of a message that isn't withheld
  next_again : {last : ℕ} {text : List ℕ} (n time : ℕ) (by : By) (body : List ℕ) (t : ℕ) → n ≤ 999999999
      → IsEntry now.out n (App time by body) → (Among n now.withheld → ⊥) → IsRepeat id n time body t text
      → WritesNext id now last text last
  next_gap_fill : {last : ℕ} {text : List ℕ} (n m t : ℕ) → m ≤ 1000000000 → n < m → m ≤ suc (length now.out)
      → SkipsBetween now n m → IsGapFill id n m t text → WritesNext id now last text last
