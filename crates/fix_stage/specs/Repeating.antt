-- The frames that answer a ResendRequest (2): a message that is sent again, and a gap fill.
use Rattle.std.specs.Prelude.{◌≡◌, ◌<◌, ℕ, codes, List, [], ◌∷◌, length}
use Rattle.std.specs.Fmt.{decimal}
use Rattle.fix_base.specs.declared.identity.Identity.{Identity}
use Rattle.fix_base.specs.Fields.{Field}
use Rattle.fix_base.specs.Says.{fields_text}
use Rattle.fix_base.specs.Payload.{field, IsBodyOf}
use Rattle.fix_base.specs.Wrote.{IsRepeat, IsGapFill}

-- MsgSeqNum (34), PossDupFlag (43) = Y, SenderCompID (49), SendingTime (52), TargetCompID (56) and OrigSendingTime (122)
abbrev pub marked_fields : Identity → ℕ → List ℕ → List ℕ → List Field
marked_fields id n at was =
    field 34 (decimal n) ∷ field 43 (codes "Y") ∷ field 49 id.sender ∷ field 52 at ∷ field 56 id.target ∷ field 122 was ∷ []

-- the fields of a gap fill after its header: NewSeqNo (36), and GapFillFlag (123) = Y
abbrev pub gap_rest_fields : ℕ → List Field
gap_rest_fields next = field 36 (decimal next) ∷ field 123 (codes "Y") ∷ []

-- the body of an application message, as its MsgType (35) and the text of its other fields
pub record IsSplit (body type rest : List ℕ) : Type 0 where
  pub fields : List Field
  pub is : IsBodyOf body type fields
  pub named : 0 < length type
  pub spelled : rest ≡ fields_text fields

-- it has both
abbrev pub MaySplit : List ℕ → Type 0
MaySplit body = (type rest : List ℕ) × IsSplit body type rest

-- the repeat of application message n, which was sent first at `time`, sent again at t: both times in milliseconds
pub record IsRepeatFrame (id : Identity) (n time : ℕ) (body : List ℕ) (t : ℕ) (text : List ℕ) : Type 0 where
  pub is : IsRepeat id n time body t text
  pub sent_in_millis : is.sent_at.digits ≡ 3
  pub first_in_millis : is.sent_first_at.digits ≡ 3

-- the gap fill from n up to m, m left out, sent at t, in milliseconds
pub record IsGapFrame (id : Identity) (n m t : ℕ) (text : List ℕ) : Type 0 where
  pub is : IsGapFill id n m t text
  pub in_millis : is.sent_at.digits ≡ 3
