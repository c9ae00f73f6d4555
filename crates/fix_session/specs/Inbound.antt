-- What a session's machine is told of a message that was read.
use Rattle.std.specs.Prelude.{◌≡◌, ◌↔◌, ℕ, List, length, IsTrue, Some}
use Rattle.fix_base.specs.Fields.{Field}
use Rattle.fix_base.specs.Says.{HasFields, value_of, is_yes}
use Rattle.fix_fields.specs.Header.{HasBegin, header_of_fields}
use Rattle.fix_machine.specs.Event.{Inbound, IsSaid}
use Rattle.fix_resend.specs.Waiting.{Waiting, IsFull}
use Rattle.fix_session.specs.Judged.{RulesSeen, Judged}

-- its header and times as the fields say them, what it is by the rules, whether there is no room for it among the
-- frames that wait, and whether GapFillFlag (123) and ResetSeqNumFlag (141) are Y
pub record IsInbound (rules : RulesSeen) (waiting : Waiting) (frame : List ℕ) (i : Inbound) : Type 0 where
  pub fields : List Field
  pub has : HasFields frame fields
  pub begins : HasBegin frame i.header.begin
  pub header : i.header ≡ header_of_fields i.header.begin fields
  pub sent : IsSaid i.header.sending_time i.sent
  pub first_sent : IsSaid i.header.orig_sending_time i.first_sent
  pub type : List ℕ
  pub typed : value_of 35 fields ≡ Some type
  pub verdict : Judged rules frame type i.verdict
  pub full : IsTrue i.full ↔ IsFull waiting (length frame)
  pub gap : i.gap ≡ is_yes (value_of 123 fields)
  pub reset : i.reset ≡ is_yes (value_of 141 fields)
