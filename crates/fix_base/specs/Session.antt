-- Who a session is between.
use Rattle.std.specs.Prelude.{ℕ, ◌&&◌, nat_le, nat_lt, IsTrue, List, length, Bool, codes}
use Rattle.std.specs.List.{list_all}
pub use Rattle.fix_base.specs.declared.identity.Begin.{Begin}
pub use Rattle.fix_base.specs.declared.identity.Begin.TheVariants.{Fix42, Fix44}
pub use Rattle.fix_base.specs.declared.identity.Identity.{Identity}

-- BeginString (8)
abbrev pub begin_string_of : Begin → List ℕ
begin_string_of Fix42 = codes "FIX.4.2"
begin_string_of Fix44 = codes "FIX.4.4"

-- a CompID: 1 to 64 bytes from 0x20 to 0x7E
abbrev pub is_comp_id : List ℕ → Bool
is_comp_id text = nat_lt 0 (length text) && (nat_le (length text) 64 && list_all
    (λ b. nat_le 32 b && nat_le b 126) text)

-- both CompIDs are ones
pub record IsValidIdentity (id : Identity) : Type 0 where
  pub sender : IsTrue (is_comp_id id.sender)
  pub target : IsTrue (is_comp_id id.target)

-- the counterparty's
abbrev pub mirrored : Identity → Identity
mirrored id = record { begin = id.begin; sender = id.target; target = id.sender }
