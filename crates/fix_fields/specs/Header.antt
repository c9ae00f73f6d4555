-- The header of a message: what the engine reads of a frame before it decides.
use Rattle.std.specs.Prelude.{◌≡◌, ℕ, List, ◌∷◌, ◌++◌, codes, Option, Some, option_map}
use Rattle.fix_base.specs.Frame.{HasNoSoh}
use Rattle.fix_base.specs.Fields.{Field}
use Rattle.fix_base.specs.Says.{value_of, seq_num_of}
use Rattle.fix_fields.specs.declared.header.Envelope.{Envelope}

-- BeginString (8), MsgType (35), the readable MsgSeqNum (34), PossDupFlag (43), SenderCompID (49),
-- TargetCompID (56), SendingTime (52) and OrigSendingTime (122)
pub record Header : Type 0 where
  pub begin : List ℕ
  pub type : Option (List ℕ)
  pub number : Option ℕ
  pub poss_dup : Option (List ℕ)
  pub sender : Option (List ℕ)
  pub target : Option (List ℕ)
  pub sending_time : Option (List ℕ)
  pub orig_sending_time : Option (List ℕ)

-- what stands between `8=` and the first SOH
pub record HasBegin (text begin : List ℕ) : Type 0 where
  pub no_soh : HasNoSoh begin
  pub rest : List ℕ
  pub spelled : text ≡ codes "8=" ++ begin ++ 1 ∷ rest

-- the header that fields say: of each tag the first
abbrev pub header_of_fields : List ℕ → List Field → Header
header_of_fields begin fs = record {
  begin = begin;
  type = value_of 35 fs;
  number = seq_num_of fs;
  poss_dup = value_of 43 fs;
  sender = value_of 49 fs;
  target = value_of 56 fs;
  sending_time = value_of 52 fs;
  orig_sending_time = value_of 122 fs;
}

-- the header that an envelope says
abbrev pub header_of : Envelope → Header
header_of e = record {
  begin = e.begin.now;
  type = Some e.kind.now;
  number = e.number;
  poss_dup = option_map (λ v. v.now) e.dup;
  sender = option_map (λ v. v.now) e.sender;
  target = option_map (λ v. v.now) e.target;
  sending_time = option_map (λ v. v.now) e.sent;
  orig_sending_time = option_map (λ v. v.now) e.first_sent;
}
