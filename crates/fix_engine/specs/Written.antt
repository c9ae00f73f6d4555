-- The header of a message that the session writes.
use Rattle.std.specs.Prelude.{◌≡◌, ℕ, List, [], ◌∷◌}
use Rattle.std.specs.Fmt.{decimal}
use Rattle.fix_base.specs.declared.identity.Identity.{Identity}
use Rattle.fix_base.specs.Fields.{Field}
use Rattle.fix_base.specs.Payload.{field}
use Rattle.fix_base.specs.Says.{fields_text}
use Rattle.fix_base.specs.Times.{IsTimeTextOf}

-- MsgSeqNum (34), SenderCompID (49), SendingTime (52) and TargetCompID (56)
abbrev pub header_fields : Identity → ℕ → List ℕ → List Field
header_fields id n at = field 34 (decimal n) ∷ field 49 id.sender ∷ field 52 at ∷ field 56 id.target ∷ []

-- the header of number n, sent at this time in milliseconds
pub record IsHeaderText (id : Identity) (n time : ℕ) (text : List ℕ) : Type 0 where
  pub at : List ℕ
  pub sent_at : IsTimeTextOf 3 time at
  pub spelled : text ≡ fields_text (header_fields id n at)
