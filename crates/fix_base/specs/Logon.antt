-- The first frame of a connection, and Logons (35=A) with ResetSeqNumFlag (141) = Y.
use Rattle.std.specs.Prelude.{◌≡◌, ℕ, ◌<◌, codes, List, [], ◌∷◌, ◌++◌, length, true, Some}
use Rattle.fix_base.specs.Fields.{Field}
use Rattle.fix_base.specs.Stream.{UnreadBytes, Item, Frame, TakesAll, frames}
use Rattle.fix_base.specs.Says.{value_of, seq_num_of, HasFields}

pub record IsLogon (text : List ℕ) : Type 0 where
  pub fields : List Field
  pub has : HasFields text fields
  pub type : value_of 35 fields ≡ Some (codes "A")

-- one that tells that its sender has reset
pub record IsResetLogon (text : List ℕ) : Type 0 where
  pub fields : List Field
  pub has : HasFields text fields
  pub type : value_of 35 fields ≡ Some (codes "A")
  pub flag : value_of 141 fields ≡ Some (codes "Y")

-- one of those with MsgSeqNum (34) 1
pub record IsFirstLogon (text : List ℕ) : Type 0 where
  pub fields : List Field
  pub has : HasFields text fields
  pub type : value_of 35 fields ≡ Some (codes "A")
  pub flag : value_of 141 fields ≡ Some (codes "Y")
  pub number : seq_num_of fields ≡ Some 1

-- the first frame of these bytes has P
pub record Begun (P : List ℕ → Type 0) (bytes : List ℕ) : Type 0 where
  pub text : List ℕ
  pub others : List (List ℕ)
  pub items : List Item
  pub rest : UnreadBytes
  pub takes : TakesAll (record { may_mark = true; bytes = bytes }) items rest
  pub first : frames items ≡ text ∷ others
  pub is : P text

-- with these bytes more a frame is complete
pub record Completes (bytes more text : List ℕ) : Type 0 where
  pub before : List Item
  pub rest : UnreadBytes
  pub takes : TakesAll (record { may_mark = true; bytes = bytes ++ more }) (before ++ Frame text ∷ []) rest
  pub beyond : length rest.bytes < length more
