-- One group less may stand one in another.
use Rattle.std.proofs.Common.{◌≡◌, ℕ, zero, suc, ◌-◌, List, refl, ap, arith}
use Rattle.serde_json.specs.Data.{Data}
use Rattle.fix_dict.specs.Members.{members_in, inner_members}

pub members_below : (depth_left : ℕ) (ds : List Data) → (depth_left ≡ 0 → ⊥) → members_in (depth_left - 1) ds ≡ inner_members depth_left ds
members_below zero ds some = absurd (some refl)
members_below (suc depth_left) ds some = let e : suc depth_left - 1 ≡ depth_left = omega arith in ap (λ n. members_in n ds) e
