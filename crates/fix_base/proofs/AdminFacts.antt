-- Worked examples of administrative messages: which fields an original of each type has, and which it has not.
use Rattle.std.proofs.Common.{◌≡◌, inl, ℕ, codes, List, [], ◌∷◌, true, false, Some, None, refl, ap, lit<, lit≤, arith}
use Rattle.std.specs.Fmt.{decimal}
use Rattle.std.proofs.lemmas.Fmt.{decimal_injective}
use Rattle.fix_base.specs.Fields.{Field}
use Rattle.fix_base.specs.End.{Admin, ONCE}
use Rattle.fix_base.specs.Payload.{field}
use Rattle.fix_base.specs.Wrote as wrote
use Rattle.fix_base.specs.Wrote.{optional, AdminFields, Carries}

abbrev first_tag : List Field → ℕ
first_tag [] = 0
first_tag (f ∷ fs) = f.tag

abbrev first_value : List Field → List ℕ
first_value [] = []
first_value (f ∷ fs) = f.value

abbrev first_byte : List ℕ → ℕ
first_byte [] = 0
first_byte (b ∷ bs) = b

-- what the original of an administrative entry carries
fields_of : {time kind about : ℕ} {type : List ℕ} {rest : List Field} → (kind ≡ ONCE → ⊥) → Carries (Admin time kind about) type rest → AdminFields about kind rest
fields_of again (wrote.admin fields) = fields
fields_of again (wrote.once is app each) = absurd (again is)

-- ---- Heartbeat (35=0): TestReqID (112), or nothing

pub a_heartbeat : Carries (Admin 0 48 0) (codes "0") []
a_heartbeat = wrote.admin (wrote.heartbeat None)

pub a_heartbeat_that_answers : (test_req_id : List ℕ) → Carries (Admin 0 48 0) (codes "0") (field 112 test_req_id ∷ [])
a_heartbeat_that_answers id = wrote.admin (wrote.heartbeat (Some id))

heartbeat_tag : {about : ℕ} {rest : List Field} → AdminFields about 48 rest → first_tag rest ≡ 58 → ⊥
heartbeat_tag (wrote.heartbeat None) e = omega (arith, e)
heartbeat_tag (wrote.heartbeat (Some id)) e = omega (arith, e)

pub no_heartbeat_has_a_text : (text : List ℕ) → Carries (Admin 0 48 0) (codes "0") (field 58 text ∷ []) → ⊥
no_heartbeat_has_a_text text h = heartbeat_tag (fields_of (λ e. omega (arith, e)) h) refl

-- ---- TestRequest (35=1): TestReqID (112)

pub a_test_request : (test_req_id : List ℕ) → Carries (Admin 0 49 0) (codes "1") (field 112 test_req_id ∷ [])
a_test_request id = wrote.admin (wrote.test_request id)

test_request_tag : {about : ℕ} {rest : List Field} → AdminFields about 49 rest → first_tag rest ≡ 112
test_request_tag (wrote.test_request id) = refl

pub no_test_request_is_without_its_id : Carries (Admin 0 49 0) (codes "1") [] → ⊥
no_test_request_is_without_its_id h = let tag = test_request_tag (fields_of (λ e. omega (arith, e)) h) in omega (arith, tag)

-- ---- ResendRequest (35=2): BeginSeqNo (7), EndSeqNo (16)

pub a_resend_request : Carries (Admin 0 50 0) (codes "2") (field 7 (decimal 3) ∷ field 16 (decimal 0) ∷ [])
a_resend_request = wrote.admin (wrote.resend_request 3 0 (record { first = lit≤ tt; last = lit≤ tt; end = inl refl }))

resend_request_tag : {about : ℕ} {rest : List Field} → AdminFields about 50 rest → first_tag rest ≡ 7
resend_request_tag (wrote.resend_request from to range) = refl

pub no_resend_request_has_its_end_first : Carries (Admin 0 50 0) (codes "2") (field 16 (decimal 0) ∷ field 7 (decimal 3) ∷ []) → ⊥
no_resend_request_has_its_end_first h = let tag = resend_request_tag (fields_of (λ e. omega (arith, e)) h) in omega (arith, tag)

-- ---- Reject (35=3): RefSeqNum (45), RefTagID (371), RefMsgType (372), SessionRejectReason (373), Text (58)

-- of message 3, an order without its Symbol (55)
pub a_reject : Carries (Admin 0 51 3) (codes "3") (field 45 (decimal 3) ∷ field 371 (decimal 55) ∷ field 372 (codes "D") ∷ field 373 (decimal 1) ∷ field 58 (codes "Required tag missing") ∷ [])
a_reject = wrote.admin (wrote.reject (Some 55) (Some 1) (codes "D") (Some (codes "Required tag missing")))

pub a_reject_with_no_more : Carries (Admin 0 51 3) (codes "3") (field 45 (decimal 3) ∷ field 372 (codes "D") ∷ [])
a_reject_with_no_more = wrote.admin (wrote.reject None None (codes "D") None)

reject_number : {about : ℕ} {rest : List Field} → AdminFields about 51 rest → first_value rest ≡ decimal about
reject_number (wrote.reject tag reason type text) = refl

pub no_reject_is_of_another_message : Carries (Admin 0 51 3) (codes "3") (field 45 (decimal 4) ∷ field 372 (codes "D") ∷ []) → ⊥
no_reject_is_of_another_message h = let same = decimal_injective 4 3 (lit< tt) (lit< tt) (reject_number (fields_of (λ e. omega (arith, e)) h)) in omega (arith, same)

-- ---- Logout (35=5): Text (58), or nothing

pub a_logout : (text : List ℕ) → Carries (Admin 0 53 0) (codes "5") (field 58 text ∷ [])
a_logout text = wrote.admin (wrote.logout (Some text))

logout_tag : {about : ℕ} {rest : List Field} → AdminFields about 53 rest → first_tag rest ≡ 112 → ⊥
logout_tag (wrote.logout None) e = omega (arith, e)
logout_tag (wrote.logout (Some text)) e = omega (arith, e)

pub no_logout_has_a_test_req_id : (test_req_id : List ℕ) → Carries (Admin 0 53 0) (codes "5") (field 112 test_req_id ∷ []) → ⊥
no_logout_has_a_test_req_id id h = logout_tag (fields_of (λ e. omega (arith, e)) h) refl

-- ---- Logon (35=A): EncryptMethod (98) = 0, HeartBtInt (108), ResetSeqNumFlag (141) = Y

pub a_logon : Carries (Admin 0 65 0) (codes "A") (field 98 (codes "0") ∷ field 108 (decimal 30) ∷ [])
a_logon = wrote.admin (wrote.logon 30 false)

pub a_logon_that_resets : Carries (Admin 0 65 0) (codes "A") (field 98 (codes "0") ∷ field 108 (decimal 30) ∷ field 141 (codes "Y") ∷ [])
a_logon_that_resets = wrote.admin (wrote.logon 30 true)

logon_value : {about : ℕ} {rest : List Field} → AdminFields about 65 rest → first_value rest ≡ codes "0"
logon_value (wrote.logon heart reset) = refl

pub no_logon_is_encrypted : Carries (Admin 0 65 0) (codes "A") (field 98 (codes "1") ∷ field 108 (decimal 30) ∷ []) → ⊥
no_logon_is_encrypted h = let value = logon_value (fields_of (λ e. omega (arith, e)) h) in omega (arith, ap first_byte value)

-- ---- a SequenceReset (35=4) is no entry's original

no_reset_fields : {about : ℕ} {rest : List Field} → AdminFields about 52 rest → ⊥
no_reset_fields fields = elim fields [ ]

pub no_sequence_reset_is_an_original : (type : List ℕ) (rest : List Field) → Carries (Admin 0 52 0) type rest → ⊥
no_sequence_reset_is_an_original type rest h = no_reset_fields (fields_of (λ e. omega (arith, e)) h)
