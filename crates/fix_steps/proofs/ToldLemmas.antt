-- What the fields of a message say that the machine was told of.
use Rattle.std.proofs.Common.{◌≡◌, ℕ, zero, suc, ◌==◌, ◌&&◌, nat_lt, nat_le, Bool, true, false, if◌then◌else◌, List, [], ◌∷◌, length, codes, bytes_eq, Option, Some, None, Result, Ok, Err, refl, ap, ◌∙◌, subst, inl, inr, pos}
use Rattle.std.specs.Prelude.{option_map, neg_ℤ}
use Rattle.std.specs.Str.{all_ascii_digits}
use Rattle.std.specs.Str.Parse.{digits_value}
use Rattle.std.proofs.lemmas.Slice.Eq.{bytes_eq-Decides}
use Rattle.fix_base.specs.declared.fault.Fault.{Fault}
use Rattle.fix_base.specs.Fields.{Field}
use Rattle.fix_base.specs.Message as message
use Rattle.fix_base.specs.Message.{Message, IsAdminNumbered}
use Rattle.fix_base.specs.Says.{value_of, seq_num_of, is_yes, is_admin_type, number_in, new_seq_no_in, reset_of, message_with, message_of, body_of}
use Rattle.fix_base.proofs.HandledLemmas.{test}
use Rattle.fix_admin.specs.Values.{and_then, need, allow, within, size_in, int_in, number_at, flag_at, fault_of, version_in}
use Rattle.fix_admin.specs.Admin as admin
use Rattle.fix_admin.specs.Admin.{AdminSeen, heartbeat_of, test_request_of, range_of, resend_request_of, reject_of, sequence_reset_of, with_heart_of, logon_of, admin_of}

-- ---- NewSeqNo (36)

abbrev TOP : ℕ
TOP = 1000000000

abbrev pub fine : {A : Type 0} → A → Result A Fault
fine a = Ok a

same_ok : (a b : ℕ) → fine a ≡ fine b → a ≡ b
same_ok a b h = cc

in_bounds : (c : Bool) (d next : ℕ) → (if c then Ok d else Err (fault_of 5 36)) ≡ Ok next → (if c then Some d else None) ≡ Some next
in_bounds true d next h = ap Some (same_ok d next h)
in_bounds false d next h = cc

plain_number : (digits some small : Bool) (d next : ℕ) → within 36 1 TOP (option_map pos (if digits && (some && small) then Some d else None)) ≡ Ok next → (if digits && (some && (nat_le 1 d && nat_le d TOP)) then Some d else None) ≡ Some next
plain_number true true true d next h = in_bounds (nat_le 1 d && nat_le d TOP) d next h
plain_number true true false d next h = cc
plain_number true false small d next h = cc
plain_number false some small d next h = cc

minus_number : (o : Option ℕ) (next : ℕ) → within 36 1 TOP (option_map (λ n. neg_ℤ (pos n)) o) ≡ Ok next → ⊥
minus_number None next h = cc
minus_number (Some zero) next h = cc
minus_number (Some (suc n)) next h = cc

signed_number : (minus : Bool) (b : ℕ) (bs : List ℕ) (next : ℕ) → within 36 1 TOP (if minus then option_map (λ n. neg_ℤ (pos n)) (size_in bs) else option_map pos (size_in (b ∷ bs))) ≡ Ok next → number_in 1 TOP (b ∷ bs) ≡ Some next
signed_number true b bs next h = absurd (minus_number (size_in bs) next h)
signed_number false b bs next h = plain_number (all_ascii_digits (b ∷ bs)) (nat_lt 0 (length (b ∷ bs))) (nat_lt (digits_value 10 (b ∷ bs)) 1000000000000000) (digits_value 10 (b ∷ bs)) next h

pub given_number : (o : Option (List ℕ)) (next : ℕ) → and_then (need 36 o) (λ v. within 36 1 TOP (int_in v)) ≡ Ok next → new_seq_no_in o ≡ Some next
given_number None next h = cc
given_number (Some []) next h = cc
given_number (Some (b ∷ bs)) next h = signed_number (b == 45) b bs next h

-- ---- a SequenceReset (4)

pub and_ok : {A B : Type 0} (r : Result A Fault) (f : A → Result B Fault) (y : B) → and_then r f ≡ Ok y → (a : A) × (r ≡ Ok a) × (f a ≡ Ok y)
and_ok (Ok a) f y h = (a, refl, h)
and_ok (Err e) f y h = cc

abbrev Reset : ℕ → Bool → AdminSeen
Reset next gap = admin.SequenceReset next gap

no_heartbeat : (fs : List Field) (next : ℕ) (gap : Bool) → heartbeat_of fs ≡ Ok (Reset next gap) → ⊥
no_heartbeat fs next gap h = let p = and_ok (allow 112 (value_of 112 fs)) (λ id. Ok (admin.Heartbeat id)) (Reset next gap) h in let q = p.2 in cc

no_test_request : (fs : List Field) (next : ℕ) (gap : Bool) → test_request_of fs ≡ Ok (Reset next gap) → ⊥
no_test_request fs next gap h = let p = and_ok (need 112 (value_of 112 fs)) (λ id. Ok (admin.TestRequest id)) (Reset next gap) h in let q = p.2 in cc

no_range : (t : Bool) (from to next : ℕ) (gap : Bool) → (if t then Err (fault_of 5 16) else Ok (admin.ResendRequest from to)) ≡ Ok (Reset next gap) → ⊥
no_range true from to next gap h = cc
no_range false from to next gap h = cc

no_resend_request : (fs : List Field) (next : ℕ) (gap : Bool) → resend_request_of fs ≡ Ok (Reset next gap) → ⊥
no_resend_request fs next gap h =
    let p = and_ok (number_at 7 1 999999999 fs) (λ from. and_then (number_at 16 0 999999999 fs) (λ to. range_of from to)) (Reset next gap) h in
    let q = and_ok (number_at 16 0 999999999 fs) (λ to. range_of p.0 to) (Reset next gap) p.2 in
    no_range (nat_lt 0 q.0 && nat_lt q.0 p.0) p.0 q.0 next gap q.2

no_reject : (fs : List Field) (next : ℕ) (gap : Bool) → reject_of fs ≡ Ok (Reset next gap) → ⊥
no_reject fs next gap h = let p = and_ok (number_at 45 0 999999999 fs) (λ about. Ok (admin.Reject about)) (Reset next gap) h in let q = p.2 in cc

no_logon : (fs : List Field) (next : ℕ) (gap : Bool) → logon_of fs ≡ Ok (Reset next gap) → ⊥
no_logon fs next gap h =
    let p = and_ok (number_at 98 0 0 fs) (λ method. with_heart_of fs) (Reset next gap) h in
    let q = and_ok (number_at 108 0 86400 fs) (λ heart. and_then (flag_at 141 fs) (λ reset. Ok (admin.Logon heart reset (version_in (value_of 1137 fs))))) (Reset next gap) p.2 in
    let r = and_ok (flag_at 141 fs) (λ reset. Ok (admin.Logon q.0 reset (version_in (value_of 1137 fs)))) (Reset next gap) q.2 in
    let s = r.2 in cc

no_logout : (next : ℕ) (gap : Bool) → fine admin.Logout ≡ fine (Reset next gap) → ⊥
no_logout next gap h = cc

same_reset : (a b : ℕ) (p q : Bool) → fine (Reset a p) ≡ fine (Reset b q) → a ≡ b
same_reset a b p q h = cc

reset_number : (fs : List Field) (next : ℕ) (gap : Bool) → sequence_reset_of fs ≡ Ok (Reset next gap) → new_seq_no_in (value_of 36 fs) ≡ Some next
reset_number fs next gap h =
    let p = and_ok (number_at 36 1 TOP fs) (λ k. and_then (flag_at 123 fs) (λ g. Ok (Reset k g))) (Reset next gap) h in
    let q = and_ok (flag_at 123 fs) (λ g. Ok (Reset p.0 g)) (Reset next gap) p.2 in
    given_number (value_of 36 fs) next (p.1 ∙ ap Ok (same_reset p.0 next q.0 gap q.2))

-- the MsgType (35) and NewSeqNo (36) of a SequenceReset with no fault
pub record IsReset (type : List ℕ) (fs : List Field) (next : ℕ) : Type 0 where
  pub four : bytes_eq type (codes "4") ≡ true
  pub number : new_seq_no_in (value_of 36 fs) ≡ Some next

by_type : (zero_ one two three four five : Bool) (type : List ℕ) (fs : List Field) (next : ℕ) (gap : Bool) → bytes_eq type (codes "4") ≡ four → (if zero_ then heartbeat_of fs else (if one then test_request_of fs else (if two then resend_request_of fs else (if three then reject_of fs else (if four then sequence_reset_of fs else (if five then Ok admin.Logout else logon_of fs)))))) ≡ Ok (Reset next gap) → IsReset type fs next
by_type true one two three four five type fs next gap is h = absurd (no_heartbeat fs next gap h)
by_type false true two three four five type fs next gap is h = absurd (no_test_request fs next gap h)
by_type false false true three four five type fs next gap is h = absurd (no_resend_request fs next gap h)
by_type false false false true four five type fs next gap is h = absurd (no_reject fs next gap h)
by_type false false false false true five type fs next gap is h = record { four = is; number = reset_number fs next gap h }
by_type false false false false false true type fs next gap is h = absurd (no_logout next gap h)
by_type false false false false false false type fs next gap is h = absurd (no_logon fs next gap h)

pub is_reset : (type : List ℕ) (fs : List Field) (next : ℕ) (gap : Bool) → admin_of type fs ≡ Ok (Reset next gap) → IsReset type fs next
is_reset type fs next gap h =
    by_type (bytes_eq type (codes "0")) (bytes_eq type (codes "1")) (bytes_eq type (codes "2")) (bytes_eq type (codes "3")) (bytes_eq type (codes "4")) (bytes_eq type (codes "5")) type fs next gap refl h

-- ---- what the message is

-- an application message of this number, or another one
pub data CountsAs (n : ℕ) : Message → Type 0 where
  counts_app : (marked : Bool) (body : List ℕ) → CountsAs n (message.App n marked body)
  counts_admin : (y : Message) → IsAdminNumbered n y → CountsAs n y

reset_numbered : (n : ℕ) (filling : Bool) (next : Option ℕ) → IsAdminNumbered n (reset_of n filling next)
reset_numbered n filling None = refl
reset_numbered n true (Some next) = refl
reset_numbered n false (Some next) = refl

counts_by : (four session : Bool) (n : ℕ) (fs : List Field) → CountsAs n (if four then reset_of n (is_yes (value_of 123 fs)) (new_seq_no_in (value_of 36 fs)) else (if session then message.Admin n else message.App n (is_yes (value_of 43 fs)) (body_of fs)))
counts_by true session n fs = counts_admin _ (reset_numbered n (is_yes (value_of 123 fs)) (new_seq_no_in (value_of 36 fs)))
counts_by false true n fs = counts_admin _ refl
counts_by false false n fs = counts_app _ _

pub counts_as : (type : List ℕ) (n : ℕ) (fs : List Field) → CountsAs n (message_with type n fs)
counts_as type n fs = counts_by (bytes_eq type (codes "4")) (is_admin_type type) n fs

numbered_by : (four session : Bool) (n : ℕ) (fs : List Field) → session ≡ true → IsAdminNumbered n (if four then reset_of n (is_yes (value_of 123 fs)) (new_seq_no_in (value_of 36 fs)) else (if session then message.Admin n else message.App n (is_yes (value_of 43 fs)) (body_of fs)))
numbered_by true session n fs h = reset_numbered n (is_yes (value_of 123 fs)) (new_seq_no_in (value_of 36 fs))
numbered_by false true n fs h = refl
numbered_by false false n fs h = cc

pub session_numbered : (type : List ℕ) (n : ℕ) (fs : List Field) → is_admin_type type ≡ true → IsAdminNumbered n (message_with type n fs)
session_numbered type n fs h = numbered_by (bytes_eq type (codes "4")) (is_admin_type type) n fs h

no_reset_type : (type : List ℕ) → is_admin_type type ≡ false → bytes_eq type (codes "4") ≡ false
no_reset_type type app = elim (test (bytes_eq type (codes "4"))) as (λ t. bytes_eq type (codes "4") ≡ false) [
  | inl same ↦ (let wrong : is_admin_type (codes "4") ≡ false = subst (λ w. is_admin_type w ≡ false) ((bytes_eq-Decides type (codes "4")).0 same) app in cc)
  | inr other ↦ other
]

pub app_is : (type : List ℕ) (n : ℕ) (fs : List Field) → is_admin_type type ≡ false → message_with type n fs ≡ message.App n (is_yes (value_of 43 fs)) (body_of fs)
app_is type n fs app = rw (no_reset_type type app, app) refl

pub gap_is : (type : List ℕ) (n next : ℕ) (fs : List Field) → IsReset type fs next → is_yes (value_of 123 fs) ≡ true → message_with type n fs ≡ message.GapFill n next
gap_is type n next fs h filling = rw (h.four, filling, h.number) refl

pub reset_is : (type : List ℕ) (n next : ℕ) (fs : List Field) → IsReset type fs next → is_yes (value_of 123 fs) ≡ false → message_with type n fs ≡ message.ResetTo n next
reset_is type n next fs h filling = rw (h.four, filling, h.number) refl

pub message_is : (type : List ℕ) (n : ℕ) (fs : List Field) → value_of 35 fs ≡ Some type → seq_num_of fs ≡ Some n → message_of fs ≡ Some (message_with type n fs)
message_is type n fs typed number = rw (typed, number) refl
