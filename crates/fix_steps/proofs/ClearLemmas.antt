-- The value of a field that is no data has no SOH, and a number that is read lies within its bounds.
use Rattle.std.proofs.Common.{◌≡◌, ℕ, ◌≤◌, ◌==◌, ◌&&◌, nat_lt, nat_le, Bool, true, false, if◌then◌else◌, List, [], ◌∷◌, length, codes, bytes_eq, Option, Some, None, Ok, Err, refl, sym, ap, ◌∙◌, subst, inl, inr, ℤ, pos, negsuc, arith, ◌⊎◌}
use Rattle.std.specs.Prelude.{◌||◌, option_and_then, MatchBool}
use Rattle.std.specs.List.{list_any}
use Rattle.std.specs.Str.{all_ascii_digits}
use Rattle.std.specs.Str.Parse.{digits_value}
use Rattle.std.proofs.lemmas.Bool.{ltb-false, leb-true, eqb-true, eqb-false}
use Rattle.fix_base.specs.Frame.{HasNoSoh}
use Rattle.fix_base.specs.declared.tags.TheConstants.{DATA_PAIRS}
use Rattle.fix_base.specs.Tags.{beside, data_tag, is_data_tag}
use Rattle.fix_base.specs.Fields.{Field, IsValue, FieldsAfter, is_data_length, data_after}
use Rattle.fix_base.specs.Says.{value_of, times_of, seq_num_in, seq_num_of, number_in, new_seq_no_in}
use Rattle.fix_base.specs.Wrote.{IsRequestRange}
use Rattle.fix_admin.specs.Values.{and_then, need, allow, within, int_in, number_at, flag_at, fault_of, version_in}
use Rattle.fix_admin.specs.Admin as admin
use Rattle.fix_admin.specs.Admin.{AdminSeen, heartbeat_of, test_request_of, range_of, resend_request_of, reject_of, sequence_reset_of, with_heart_of, logon_of, admin_of}
use Rattle.fix_steps.proofs.ToldLemmas.{fine, and_ok, given_number}

-- ---- values with no SOH

either_false : (a b : Bool) → (a || b) ≡ false → (a ≡ false) × (b ≡ false)
either_false true b h = cc
either_false false b h = (refl, h)

same_some : (a b : ℕ) → Some a ≡ Some b → a ≡ b
same_some a b h = cc

-- no length speaks of a tag that is no data
never_beside : (tag t : ℕ) (pairs : List (ℕ × ℕ)) → list_any (λ p. p.1 == tag) pairs ≡ false → beside t pairs ≡ Some tag → ⊥
never_beside tag t [] none h = cc
never_beside tag t (p ∷ pairs) none h =
    let both = either_false (p.1 == tag) (list_any (λ p. p.1 == tag) pairs) none in
    by (p.0 == t) both.0 (never_beside tag t pairs both.1) h
  where
    by : (b : Bool) → (p.1 == tag) ≡ false → (beside t pairs ≡ Some tag → ⊥) → (if b then Some p.1 else beside t pairs) ≡ Some tag → ⊥
    by true other rest h = eqb-false p.1 tag other (same_some p.1 tag h)
    by false other rest h = rest h

-- the length before it doesn't speak of this tag
abbrev NotDue : ℕ → Option (ℕ × ℕ) → Type 0
NotDue tag due = (d : ℕ × ℕ) → due ≡ Some d → d.0 ≡ tag → ⊥

first_of : (k n tag : ℕ) (d : ℕ × ℕ) → Some (k, n) ≡ Some d → d.0 ≡ tag → k ≡ tag
first_of k n tag d h e = let same : (k, n) ≡ d = some_pair (k, n) d h in ap (λ (p : ℕ × ℕ). p.0) same ∙ e
  where
    some_pair : (a b : ℕ × ℕ) → Some a ≡ Some b → a ≡ b
    some_pair a b h = cc

after_not : (tag : ℕ) → is_data_tag tag ≡ false → (f : Field) → NotDue tag (data_after f)
after_not tag none f = by (data_tag f.tag) refl
  where
    if_long : (b : Bool) (k : ℕ) → (k ≡ tag → ⊥) → NotDue tag (if b then Some (k, digits_value 10 f.value) else None)
    if_long true k other d h e = other (first_of k (digits_value 10 f.value) tag d h e)
    if_long false k other d h e = cc

    by : (o : Option ℕ) → data_tag f.tag ≡ o → NotDue tag (option_and_then (λ k. if is_data_length f.value then Some (k, digits_value 10 f.value) else None) o)
    by None is d h e = cc
    by (Some k) is d h e = if_long (is_data_length f.value) k (λ same. never_beside tag f.tag DATA_PAIRS none (is ∙ ap Some same)) d h e

value_clear : (tag : ℕ) (due : Option (ℕ × ℕ)) (f : Field) → f.tag ≡ tag → NotDue tag due → IsValue due f → HasNoSoh f.value
value_clear tag None f at other is = is
value_clear tag (Some d) f at other is = by (f.tag == d.0) refl is
  where
    by : (b : Bool) → (f.tag == d.0) ≡ b → MatchBool b (length f.value ≡ d.1) (HasNoSoh f.value) → HasNoSoh f.value
    by true same is = absurd (other d refl (sym (eqb-true f.tag d.0 same) ∙ at))
    by false apart is = is

same_text : (v w : List ℕ) → Some v ≡ Some w → v ≡ w
same_text v w h = cc

found_clear : (tag : ℕ) → is_data_tag tag ≡ false → (fs : List Field) (due : Option (ℕ × ℕ)) (bytes : List ℕ) → NotDue tag due → FieldsAfter due bytes fs → (v : List ℕ) → value_of tag fs ≡ Some v → HasNoSoh v
found_clear tag none [] due bytes other are v h = cc
found_clear tag none (f ∷ fs) due bytes other are v h = by (f.tag == tag) refl (found_clear tag none fs (data_after f) are.1 (after_not tag none f) are.4 v) h
  where
    by : (b : Bool) → (f.tag == tag) ≡ b → (value_of tag fs ≡ Some v → HasNoSoh v) → (if b then Some f.value else value_of tag fs) ≡ Some v → HasNoSoh v
    by true same rest h = subst HasNoSoh (same_text f.value v h) (value_clear tag due f (eqb-true f.tag tag same) other are.2.value)
    by false apart rest h = rest h

-- the first value of a tag that is no data
pub clear_value : (tag : ℕ) → is_data_tag tag ≡ false → (fs : List Field) (bytes : List ℕ) → FieldsAfter None bytes fs → (v : List ℕ) → value_of tag fs ≡ Some v → HasNoSoh v
clear_value tag none fs bytes are v h = found_clear tag none fs None bytes (λ d h e. cc) are v h

-- ---- numbers within their bounds

same_ok : {A : Type 0} (a b : A) → fine a ≡ fine b → a ≡ b
same_ok a b h = cc

bounded_by : (digits some low high : Bool) (d first last n : ℕ) → nat_le first d ≡ low → nat_le d last ≡ high → (if digits && (some && (low && high)) then Some d else None) ≡ Some n → (first ≤ n) × (n ≤ last)
bounded_by true true true true d first last n p q h =
    let same = same_some d n h in
    (subst (λ (k : ℕ). first ≤ k) same (leb-true first d p), subst (λ (k : ℕ). k ≤ last) same (leb-true d last q))
bounded_by true true true false d first last n p q h = cc
bounded_by true true false high d first last n p q h = cc
bounded_by true false low high d first last n p q h = cc
bounded_by false some low high d first last n p q h = cc

in_bounds : (first last : ℕ) (v : List ℕ) (n : ℕ) → number_in first last v ≡ Some n → (first ≤ n) × (n ≤ last)
in_bounds first last v n h = bounded_by (all_ascii_digits v) (nat_lt 0 (length v)) (nat_le first (digits_value 10 v)) (nat_le (digits_value 10 v) last) (digits_value 10 v) first last n refl refl h

pub new_number : (o : Option (List ℕ)) (n : ℕ) → new_seq_no_in o ≡ Some n → (1 ≤ n) × (n ≤ 1000000000)
new_number None n h = cc
new_number (Some v) n h = in_bounds 1 1000000000 v n h

short_number : (b : Bool) (v : List ℕ) (n : ℕ) → (if b then number_in 1 999999999 v else None) ≡ Some n → (1 ≤ n) × (n ≤ 999999999)
short_number true v n h = in_bounds 1 999999999 v n h
short_number false v n h = cc

sole_number : (b : Bool) (o : Option (List ℕ)) (n : ℕ) → (if b then seq_num_in o else None) ≡ Some n → (1 ≤ n) × (n ≤ 999999999)
sole_number true None n h = cc
sole_number true (Some v) n h = short_number (nat_le (length v) 9) v n h
sole_number false o n h = cc

pub read_number : (fs : List Field) (n : ℕ) → seq_num_of fs ≡ Some n → (1 ≤ n) × (n ≤ 999999999)
read_number fs n h = sole_number (times_of 34 fs == 1) (value_of 34 fs) n h

-- ---- what a session message says

within_by : (low high : Bool) (tag first last n k : ℕ) → nat_le first k ≡ low → nat_le k last ≡ high → (if low && high then fine k else Err (fault_of 5 tag)) ≡ fine n → (first ≤ n) × (n ≤ last)
within_by true true tag first last n k p q h =
    let same = same_ok k n h in
    (subst (λ (j : ℕ). first ≤ j) same (leb-true first k p), subst (λ (j : ℕ). j ≤ last) same (leb-true k last q))
within_by true false tag first last n k p q h = cc
within_by false high tag first last n k p q h = cc

within_bounds : (tag first last n : ℕ) (o : Option ℤ) → within tag first last o ≡ fine n → (first ≤ n) × (n ≤ last)
within_bounds tag first last n None h = cc
within_bounds tag first last n (Some (pos k)) h = within_by (nat_le first k) (nat_le k last) tag first last n k refl refl h
within_bounds tag first last n (Some (negsuc k)) h = cc

number_bounds : (tag first last n : ℕ) (fs : List Field) → number_at tag first last fs ≡ fine n → (first ≤ n) × (n ≤ last)
number_bounds tag first last n fs h =
    let p = and_ok (need tag (value_of tag fs)) (λ v. within tag first last (int_in v)) n h in within_bounds tag first last n (int_in p.0) p.2

needed : (tag : ℕ) (o : Option (List ℕ)) (v : List ℕ) → need tag o ≡ fine v → o ≡ Some v
needed tag None v h = cc
needed tag (Some []) v h = cc
needed tag (Some (b ∷ bs)) v h = ap Some (same_ok (b ∷ bs) v h)

-- what is said of its texts and numbers
abbrev pub Tells : List Field → AdminSeen → Type 0
Tells fs (admin.Heartbeat id) = Unit {0}
Tells fs (admin.TestRequest id) = value_of 112 fs ≡ Some id
Tells fs (admin.ResendRequest from to) = IsRequestRange from to
Tells fs (admin.Reject about) = Unit {0}
Tells fs (admin.SequenceReset next gap) = new_seq_no_in (value_of 36 fs) ≡ Some next
Tells fs admin.Logout = Unit {0}
Tells fs (admin.Logon heart reset version) = Unit {0}

told_as : (fs : List Field) (a b : AdminSeen) → fine a ≡ fine b → Tells fs a → Tells fs b
told_as fs a b h t = subst (λ (x : AdminSeen). Tells fs x) (same_ok a b h) t

tells_heartbeat : (fs : List Field) (a : AdminSeen) → heartbeat_of fs ≡ fine a → Tells fs a
tells_heartbeat fs a h = let p = and_ok (allow 112 (value_of 112 fs)) (λ id. fine (admin.Heartbeat id)) a h in told_as fs (admin.Heartbeat p.0) a p.2 tt

tells_test : (fs : List Field) (a : AdminSeen) → test_request_of fs ≡ fine a → Tells fs a
tells_test fs a h = let p = and_ok (need 112 (value_of 112 fs)) (λ id. fine (admin.TestRequest id)) a h in told_as fs (admin.TestRequest p.0) a p.2 (needed 112 (value_of 112 fs) p.0 p.1)

range_end : (some below : Bool) (from to : ℕ) → nat_lt 0 to ≡ some → nat_lt to from ≡ below → (some && below) ≡ false → to ≤ 999999999 → (to ≡ 0) ⊎ ((from ≤ to) × (to ≤ 999999999))
range_end true true from to p q h most = cc
range_end true false from to p q h most = inr (ltb-false to from q, most)
range_end false below from to p q h most = inl (let none = ltb-false 0 to p in omega (arith, none))

range_tells : (b : Bool) (fs : List Field) (from to : ℕ) (a : AdminSeen) → (nat_lt 0 to && nat_lt to from) ≡ b → (1 ≤ from) × (from ≤ 999999999) → to ≤ 999999999 → (if b then Err (fault_of 5 16) else fine (admin.ResendRequest from to)) ≡ fine a → Tells fs a
range_tells true fs from to a is low most h = cc
range_tells false fs from to a is low most h =
    told_as fs (admin.ResendRequest from to) a h (record { first = low.0; last = low.1; end = range_end (nat_lt 0 to) (nat_lt to from) from to refl refl is most })

tells_resend : (fs : List Field) (a : AdminSeen) → resend_request_of fs ≡ fine a → Tells fs a
tells_resend fs a h =
    let p = and_ok (number_at 7 1 999999999 fs) (λ from. and_then (number_at 16 0 999999999 fs) (λ to. range_of from to)) a h in
    let q = and_ok (number_at 16 0 999999999 fs) (λ to. range_of p.0 to) a p.2 in
    range_tells (nat_lt 0 q.0 && nat_lt q.0 p.0) fs p.0 q.0 a refl (number_bounds 7 1 999999999 p.0 fs p.1) (number_bounds 16 0 999999999 q.0 fs q.1).1 q.2

tells_reject : (fs : List Field) (a : AdminSeen) → reject_of fs ≡ fine a → Tells fs a
tells_reject fs a h = let p = and_ok (number_at 45 0 999999999 fs) (λ about. fine (admin.Reject about)) a h in told_as fs (admin.Reject p.0) a p.2 tt

tells_sequence : (fs : List Field) (a : AdminSeen) → sequence_reset_of fs ≡ fine a → Tells fs a
tells_sequence fs a h =
    let p = and_ok (number_at 36 1 1000000000 fs) (λ k. and_then (flag_at 123 fs) (λ g. fine (admin.SequenceReset k g))) a h in
    let q = and_ok (flag_at 123 fs) (λ g. fine (admin.SequenceReset p.0 g)) a p.2 in
    told_as fs (admin.SequenceReset p.0 q.0) a q.2 (given_number (value_of 36 fs) p.0 p.1)

tells_logon : (fs : List Field) (a : AdminSeen) → logon_of fs ≡ fine a → Tells fs a
tells_logon fs a h =
    let p = and_ok (number_at 98 0 0 fs) (λ method. with_heart_of fs) a h in
    let q = and_ok (number_at 108 0 86400 fs) (λ heart. and_then (flag_at 141 fs) (λ reset. fine (admin.Logon heart reset (version_in (value_of 1137 fs))))) a p.2 in
    let r = and_ok (flag_at 141 fs) (λ reset. fine (admin.Logon q.0 reset (version_in (value_of 1137 fs)))) a q.2 in
    told_as fs (admin.Logon q.0 r.0 (version_in (value_of 1137 fs))) a r.2 tt

tells_by : (zero_ one two three four five : Bool) (fs : List Field) (a : AdminSeen) → (if zero_ then heartbeat_of fs else (if one then test_request_of fs else (if two then resend_request_of fs else (if three then reject_of fs else (if four then sequence_reset_of fs else (if five then fine admin.Logout else logon_of fs)))))) ≡ fine a → Tells fs a
tells_by true one two three four five fs a h = tells_heartbeat fs a h
tells_by false true two three four five fs a h = tells_test fs a h
tells_by false false true three four five fs a h = tells_resend fs a h
tells_by false false false true four five fs a h = tells_reject fs a h
tells_by false false false false true five fs a h = tells_sequence fs a h
tells_by false false false false false true fs a h = told_as fs admin.Logout a h tt
tells_by false false false false false false fs a h = tells_logon fs a h

pub tells : (type : List ℕ) (fs : List Field) (a : AdminSeen) → admin_of type fs ≡ Ok a → Tells fs a
tells type fs a h =
    tells_by (bytes_eq type (codes "0")) (bytes_eq type (codes "1")) (bytes_eq type (codes "2")) (bytes_eq type (codes "3")) (bytes_eq type (codes "4")) (bytes_eq type (codes "5")) fs a h
