-- The three messages of the sample are frames, with these fields.
use Rattle.std.proofs.Common.{◌≡◌, ◌≤◌, true, codes, List, ℕ, ◌∷◌, length, refl, sym, ap, subst, ◌∙◌, lit≤}
use Rattle.fix_base.specs.declared.identity.Begin.TheVariants.{Fix42}
use Rattle.fix_base.specs.Fields.{Field}
use Rattle.fix_base.specs.Payload.{field}
use Rattle.fix_base.specs.Sealed.{sealed}
use Rattle.fix_base.specs.Says.{HasFields, body_of}
use Rattle.fix_base.specs.Stream.{ends_in_soh}
use Rattle.fix_base.specs.Wrote.{IsSealed}
use Rattle.fix_base.proofs.PlainFields.{plain_fields}
use Rattle.fix_base.proofs.Seals.{AreOfMessage, sealed_is_frame, sealed_has_fields}
use Rattle.fix_top.specs.Sample.{SAMPLE_ID, wire, LOGON, ORDER, LOGOUT, BODY}
use Rattle.fix_top.proofs.SampleStream.{IsWhole}
use Rattle.fix_top.proofs.SamplePlaces.{Place, AtLogon, AtOrder, AtLogout, text_at}
use Rattle.fix_top.proofs.SampleTexts.{IsSpelled, nothing_more, with_field, tag_11, tag_21, tag_34, tag_35, tag_40, tag_49, tag_52, tag_54, tag_55, tag_56, tag_60, tag_98, tag_108, number_46, number_58, number_95, sealed_is, LOGON_FIELDS, ORDER_FIELDS, LOGOUT_FIELDS, BODY_FIELDS}

abbrev LOGON_BODY : List ℕ
LOGON_BODY = wire (codes "35=A|34=1|49=BUY|52=20240102-10:00:00|56=SELL|98=0|108=30|")

abbrev ORDER_BODY : List ℕ
ORDER_BODY = wire (codes "35=D|34=2|49=BUY|52=20240102-10:00:00|56=SELL|11=A1|21=1|55=XYZ|54=1|60=20240102-10:00:00|40=1|")

abbrev LOGOUT_BODY : List ℕ
LOGOUT_BODY = wire (codes "35=5|34=3|49=BUY|52=20240102-10:00:00|56=SELL|")

logon_spelled : IsSpelled LOGON_FIELDS LOGON_BODY
logon_spelled =
    with_field 35 (codes "35") (codes "A") _ _ tag_35 refl
    (with_field 34 (codes "34") (codes "1") _ _ tag_34 refl
    (with_field 49 (codes "49") (codes "BUY") _ _ tag_49 refl
    (with_field 52 (codes "52") (codes "20240102-10:00:00") _ _ tag_52 refl
    (with_field 56 (codes "56") (codes "SELL") _ _ tag_56 refl
    (with_field 98 (codes "98") (codes "0") _ _ tag_98 refl
    (with_field 108 (codes "108") (codes "30") _ _ tag_108 refl nothing_more))))))

order_spelled : IsSpelled ORDER_FIELDS ORDER_BODY
order_spelled =
    with_field 35 (codes "35") (codes "D") _ _ tag_35 refl
    (with_field 34 (codes "34") (codes "2") _ _ tag_34 refl
    (with_field 49 (codes "49") (codes "BUY") _ _ tag_49 refl
    (with_field 52 (codes "52") (codes "20240102-10:00:00") _ _ tag_52 refl
    (with_field 56 (codes "56") (codes "SELL") _ _ tag_56 refl
    (with_field 11 (codes "11") (codes "A1") _ _ tag_11 refl
    (with_field 21 (codes "21") (codes "1") _ _ tag_21 refl
    (with_field 55 (codes "55") (codes "XYZ") _ _ tag_55 refl
    (with_field 54 (codes "54") (codes "1") _ _ tag_54 refl
    (with_field 60 (codes "60") (codes "20240102-10:00:00") _ _ tag_60 refl
    (with_field 40 (codes "40") (codes "1") _ _ tag_40 refl nothing_more))))))))))

logout_spelled : IsSpelled LOGOUT_FIELDS LOGOUT_BODY
logout_spelled =
    with_field 35 (codes "35") (codes "5") _ _ tag_35 refl
    (with_field 34 (codes "34") (codes "3") _ _ tag_34 refl
    (with_field 49 (codes "49") (codes "BUY") _ _ tag_49 refl
    (with_field 52 (codes "52") (codes "20240102-10:00:00") _ _ tag_52 refl
    (with_field 56 (codes "56") (codes "SELL") _ _ tag_56 refl nothing_more))))

body_spelled : IsSpelled BODY_FIELDS BODY
unfolding BODY
body_spelled =
    with_field 35 (codes "35") (codes "D") _ _ tag_35 refl
    (with_field 11 (codes "11") (codes "A1") _ _ tag_11 refl
    (with_field 21 (codes "21") (codes "1") _ _ tag_21 refl
    (with_field 55 (codes "55") (codes "XYZ") _ _ tag_55 refl
    (with_field 54 (codes "54") (codes "1") _ _ tag_54 refl
    (with_field 60 (codes "60") (codes "20240102-10:00:00") _ _ tag_60 refl
    (with_field 40 (codes "40") (codes "1") _ _ tag_40 refl nothing_more))))))

-- the body of the order's fields
pub order_body : body_of ORDER_FIELDS ≡ BODY
order_body = body_spelled.spelled

logon_text : LOGON ≡ sealed Fix42 LOGON_BODY
unfolding LOGON
logon_text = sym (sealed_is LOGON_BODY (codes "58") number_58)

order_text : ORDER ≡ sealed Fix42 ORDER_BODY
unfolding ORDER
order_text = sym (sealed_is ORDER_BODY (codes "95") number_95)

logout_text : LOGOUT ≡ sealed Fix42 LOGOUT_BODY
unfolding LOGOUT
logout_text = sym (sealed_is LOGOUT_BODY (codes "46") number_46)

-- fields of a message, and its text
record IsOf (fs : List Field) (text : List ℕ) : Type 0 where
  message : AreOfMessage fs
  sealed_so : IsSealed SAMPLE_ID fs text

of_spelled : (value : List ℕ) (fs : List Field) (body text : List ℕ) → IsSpelled (field 35 value ∷ fs) body → text ≡ sealed Fix42 body → 5 ≤ length body → length body ≤ 1048576 → IsOf (field 35 value ∷ fs) text
of_spelled value fs body text h is low high = record {
  message = record { first = field 35 value; others = fs; spelled = refl; type = refl; long = subst (λ (w : List ℕ). 5 ≤ length w) (sym h.spelled) low; each = h.each };
  sealed_so = record { spelled = is ∙ ap (sealed Fix42) (sym h.spelled); are = plain_fields (field 35 value ∷ fs) h.plain; short = subst (λ (w : List ℕ). length w ≤ 1048576) (sym h.spelled) high };
}

logon_of : IsOf LOGON_FIELDS LOGON
logon_of = of_spelled (codes "A") _ LOGON_BODY LOGON logon_spelled logon_text (lit≤ tt) (lit≤ tt)

order_of : IsOf ORDER_FIELDS ORDER
order_of = of_spelled (codes "D") _ ORDER_BODY ORDER order_spelled order_text (lit≤ tt) (lit≤ tt)

logout_of : IsOf LOGOUT_FIELDS LOGOUT
logout_of = of_spelled (codes "5") _ LOGOUT_BODY LOGOUT logout_spelled logout_text (lit≤ tt) (lit≤ tt)

pub logon_has : HasFields LOGON LOGON_FIELDS
logon_has = sealed_has_fields SAMPLE_ID LOGON_FIELDS LOGON logon_of.message logon_of.sealed_so

pub order_has : HasFields ORDER ORDER_FIELDS
order_has = sealed_has_fields SAMPLE_ID ORDER_FIELDS ORDER order_of.message order_of.sealed_so

pub logout_has : HasFields LOGOUT LOGOUT_FIELDS
logout_has = sealed_has_fields SAMPLE_ID LOGOUT_FIELDS LOGOUT logout_of.message logout_of.sealed_so

logon_ends : ends_in_soh LOGON ≡ true
unfolding LOGON
logon_ends = refl

order_ends : ends_in_soh ORDER ≡ true
unfolding ORDER
order_ends = refl

logout_ends : ends_in_soh LOGOUT ≡ true
unfolding LOGOUT
logout_ends = refl

pub whole_at : (p : Place) → IsWhole (text_at p)
whole_at AtLogon = record { frame = sealed_is_frame SAMPLE_ID LOGON_FIELDS LOGON logon_of.message logon_of.sealed_so; ends = logon_ends }
whole_at AtOrder = record { frame = sealed_is_frame SAMPLE_ID ORDER_FIELDS ORDER order_of.message order_of.sealed_so; ends = order_ends }
whole_at AtLogout = record { frame = sealed_is_frame SAMPLE_ID LOGOUT_FIELDS LOGOUT logout_of.message logout_of.sealed_so; ends = logout_ends }
