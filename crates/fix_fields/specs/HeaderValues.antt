-- What is known of the header's fields while they are read one after another.
use Rattle.std.specs.Prelude.{ℕ, ◌+◌, List, Option, Some, None, option_map, if◌then◌else◌, ◌==◌}
use Rattle.fix_base.specs.Fields.{Field, FieldsAfter}
use Rattle.fix_base.specs.Says.{value_of, times_of}
use Rattle.fix_fields.specs.declared.header_values.HeaderValues.{HeaderValues}

-- the first values of the tags, and how often MsgSeqNum (34) stood there
pub record Firsts : Type 0 where
  pub type : Option (List ℕ)
  pub number : Option (List ℕ)
  pub numbers : ℕ
  pub poss_dup : Option (List ℕ)
  pub sender : Option (List ℕ)
  pub target : Option (List ℕ)
  pub sending_time : Option (List ℕ)
  pub orig_sending_time : Option (List ℕ)

abbrev pub firsts_of : HeaderValues → Firsts
firsts_of n = record {
  type = option_map (λ v. v.now) n.kind;
  number = option_map (λ v. v.now) n.number;
  numbers = n.numbers;
  poss_dup = option_map (λ v. v.now) n.dup;
  sender = option_map (λ v. v.now) n.sender;
  target = option_map (λ v. v.now) n.target;
  sending_time = option_map (λ v. v.now) n.sent;
  orig_sending_time = option_map (λ v. v.now) n.first_sent;
}

-- the value that is known, or else the first among the fields
abbrev pub value_or : Option (List ℕ) → ℕ → List Field → Option (List ℕ)
value_or None tag fs = value_of tag fs
value_or (Some v) tag fs = Some v

-- what is known with these fields too
abbrev pub firsts_with : Firsts → List Field → Firsts
firsts_with n fs = record {
  type = value_or n.type 35 fs;
  number = value_or n.number 34 fs;
  numbers = n.numbers + times_of 34 fs;
  poss_dup = value_or n.poss_dup 43 fs;
  sender = value_or n.sender 49 fs;
  target = value_or n.target 56 fs;
  sending_time = value_or n.sending_time 52 fs;
  orig_sending_time = value_or n.orig_sending_time 122 fs;
}

-- the known value, with one more field
abbrev pub value_with : Option (List ℕ) → ℕ → Field → Option (List ℕ)
value_with None tag f = if f.tag == tag then Some f.value else None
value_with (Some v) tag f = Some v

-- what is known with one more field
abbrev pub firsts_and : Firsts → Field → Firsts
firsts_and n f = record {
  type = value_with n.type 35 f;
  number = value_with n.number 34 f;
  numbers = n.numbers + (if f.tag == 34 then 1 else 0);
  poss_dup = value_with n.poss_dup 43 f;
  sender = value_with n.sender 49 f;
  target = value_with n.target 56 f;
  sending_time = value_with n.sending_time 52 f;
  orig_sending_time = value_with n.orig_sending_time 122 f;
}

-- nothing is known yet
abbrev pub no_firsts : Firsts
no_firsts = record {
  type = None;
  number = None;
  numbers = 0;
  poss_dup = None;
  sender = None;
  target = None;
  sending_time = None;
  orig_sending_time = None;
}

-- what are fields from the start on are fields here too, and R relates all to those that are left
pub record IsLeft (bytes : List ℕ) (due : Option (ℕ × ℕ)) (rest : List ℕ) (R : List Field → List Field
    → Type 0) : Type 0 where
  pub each : (all : List Field) → FieldsAfter None bytes all → (left : List Field) × FieldsAfter due rest left
      × R all left
