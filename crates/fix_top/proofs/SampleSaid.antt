-- What the session says in the sample has one text.
use Rattle.std.proofs.Common.{◌≡◌, codes, List, ℕ, [], ◌∷◌, refl, ap, ◌∙◌}
use Rattle.std.specs.Fmt.{decimal}
use Rattle.fix_base.specs.declared.identity.Begin.TheVariants.{Fix42}
use Rattle.fix_base.specs.Fields.{Field}
use Rattle.fix_base.specs.Payload.{field}
use Rattle.fix_base.specs.Sealed.{sealed}
use Rattle.fix_base.specs.Says.{fields_text}
use Rattle.fix_base.specs.Wrote.{original_fields}
use Rattle.fix_engine.specs.declared.state.Say.TheVariants.{Logon, Logout}
use Rattle.fix_engine.specs.Answer.{IsSaid}
use Rattle.fix_top.specs.Sample.{SAMPLE_ID, SAMPLE_TIME, wire, LOGON_ANSWER, LOGOUT_ANSWER}
use Rattle.fix_top.proofs.SampleTexts.{IsSpelled, nothing_more, with_field, tag_34, tag_35, tag_49, tag_52, tag_56, tag_98, tag_108, number_1, number_2, number_30, number_50, number_62, sealed_is}
use Rattle.fix_top.proofs.SampleTime.{time_text}

abbrev AT : List ℕ
AT = codes "20240102-10:00:00.000"

-- an original of the sample with this number, time, MsgType and rest
abbrev said_fields : List ℕ → List ℕ → List ℕ → List Field → List Field
said_fields number at type rest = original_fields SAMPLE_ID number at type rest

abbrev LOGON_REST : List ℕ → List Field
LOGON_REST heart = field 98 (codes "0") ∷ field 108 heart ∷ []

abbrev LOGON_BODY : List ℕ
LOGON_BODY = wire (codes "35=A|34=1|49=SELL|52=20240102-10:00:00.000|56=BUY|98=0|108=30|")

abbrev LOGOUT_BODY : List ℕ
LOGOUT_BODY = wire (codes "35=5|34=2|49=SELL|52=20240102-10:00:00.000|56=BUY|")

logon_spelled : IsSpelled (said_fields (codes "1") AT (codes "A") (LOGON_REST (codes "30"))) LOGON_BODY
logon_spelled =
    with_field 35 (codes "35") (codes "A") _ _ tag_35 refl
    (with_field 34 (codes "34") (codes "1") _ _ tag_34 refl
    (with_field 49 (codes "49") (codes "SELL") _ _ tag_49 refl
    (with_field 52 (codes "52") AT _ _ tag_52 refl
    (with_field 56 (codes "56") (codes "BUY") _ _ tag_56 refl
    (with_field 98 (codes "98") (codes "0") _ _ tag_98 refl
    (with_field 108 (codes "108") (codes "30") _ _ tag_108 refl nothing_more))))))

logout_spelled : IsSpelled (said_fields (codes "2") AT (codes "5") []) LOGOUT_BODY
logout_spelled =
    with_field 35 (codes "35") (codes "5") _ _ tag_35 refl
    (with_field 34 (codes "34") (codes "2") _ _ tag_34 refl
    (with_field 49 (codes "49") (codes "SELL") _ _ tag_49 refl
    (with_field 52 (codes "52") AT _ _ tag_52 refl
    (with_field 56 (codes "56") (codes "BUY") _ _ tag_56 refl nothing_more))))

logon_text : sealed Fix42 LOGON_BODY ≡ LOGON_ANSWER
unfolding LOGON_ANSWER
logon_text = sealed_is LOGON_BODY (codes "62") number_62

logout_text : sealed Fix42 LOGOUT_BODY ≡ LOGOUT_ANSWER
unfolding LOGOUT_ANSWER
logout_text = sealed_is LOGOUT_BODY (codes "50") number_50

pub logon_said : (text : List ℕ) → IsSaid SAMPLE_ID 1 SAMPLE_TIME (Logon 30) text → text ≡ LOGON_ANSWER
logon_said text s =
    let number : said_fields (decimal 1) s.at (codes "A") (LOGON_REST (decimal 30)) ≡ said_fields (codes "1") s.at (codes "A") (LOGON_REST (codes "30")) = ap (λ (n : List ℕ). said_fields n s.at (codes "A") (LOGON_REST (decimal 30))) number_1 ∙ ap (λ (n : List ℕ). said_fields (codes "1") s.at (codes "A") (LOGON_REST n)) number_30 in
    let time = ap (λ (at : List ℕ). said_fields (codes "1") at (codes "A") (LOGON_REST (codes "30"))) (time_text s.at s.sent_at) in
    s.sealed_so.spelled ∙ ap (λ (fs : List Field). sealed Fix42 (fields_text fs)) (number ∙ time) ∙ ap (sealed Fix42) logon_spelled.spelled ∙ logon_text

pub logout_said : (text : List ℕ) → IsSaid SAMPLE_ID 2 SAMPLE_TIME Logout text → text ≡ LOGOUT_ANSWER
logout_said text s =
    let number : said_fields (decimal 2) s.at (codes "5") [] ≡ said_fields (codes "2") s.at (codes "5") [] = ap (λ (n : List ℕ). said_fields n s.at (codes "5") []) number_2 in
    let time = ap (λ (at : List ℕ). said_fields (codes "2") at (codes "5") []) (time_text s.at s.sent_at) in
    s.sealed_so.spelled ∙ ap (λ (fs : List Field). sealed Fix42 (fields_text fs)) (number ∙ time) ∙ ap (sealed Fix42) logout_spelled.spelled ∙ logout_text
