-- What each message of the sample presents, and the answer to it.
use Rattle.std.proofs.Common.{◌≡◌, codes, List, ℕ, [], Some, refl, sym, ap, subst, ◌∙◌, inl, lit<, lit≤, pos, drop, nat_le, arith}
use Rattle.std.specs.Prelude.{Option}
use Rattle.jiff_core.specs.Calendar.{days_from_civil, day_count, days_of_years, days_of_months}
use Rattle.fix_base.specs.Frame.{HasNoSoh}
use Rattle.fix_base.specs.Fields.{Field}
use Rattle.fix_base.specs.Says.{HasFields, value_of}
use Rattle.fix_base.specs.Times.{IsUtcTimestamp, Moment}
use Rattle.fix_base.proofs.ShortFields.{clear_of}
use Rattle.fix_fields.specs.Header.{Header, HasBegin, header_of_fields}
use Rattle.fix_fields.specs.Lined.{IsLineOf}
use Rattle.fix_fields.specs.Value as value
use Rattle.fix_fields.proofs.EnvelopeLemmas.{line_same}
use Rattle.fix_engine.specs.declared.state.State.{State}
use Rattle.fix_engine.specs.Inbound.{InboundSeen, IsInbound, IsSent, IsLogon}
use Rattle.fix_engine.specs.Answer.{answer_to, logon_steps, app_answer, logout_answer}
use Rattle.fix_engine.proofs.ReadLemmas.{has_same}
use Rattle.fix_top.specs.Sample.{SAMPLE_ID, SAMPLE_TIME, wire, LOGON, ORDER, LOGOUT}
use Rattle.fix_top.proofs.SamplePlaces.{Place, AtLogon, AtOrder, AtLogout, phase_at, expected_at, last_at, IsAt}
use Rattle.fix_top.proofs.SampleTexts.{LOGON_FIELDS, ORDER_FIELDS, LOGOUT_FIELDS}
use Rattle.fix_top.proofs.SampleFrames.{logon_has, order_has, logout_has}

-- behind `8=` stands the sample's version
record Opens (text : List ℕ) : Type 0 where
  rest : List ℕ
  line : IsLineOf (drop 2 text) (codes "FIX.4.2") rest

version_clear : HasNoSoh (codes "FIX.4.2")
version_clear = clear_of (λ b. nat_le 2 b) (codes "FIX.4.2") refl refl

logon_opens : Opens LOGON
unfolding LOGON
logon_opens = record { rest = wire (codes "9=58|35=A|34=1|49=BUY|52=20240102-10:00:00|56=SELL|98=0|108=30|10=063|"); line = record { no_soh = version_clear; spelled = refl } }

order_opens : Opens ORDER
unfolding ORDER
order_opens = record { rest = wire (codes "9=95|35=D|34=2|49=BUY|52=20240102-10:00:00|56=SELL|11=A1|21=1|55=XYZ|54=1|60=20240102-10:00:00|40=1|10=094|"); line = record { no_soh = version_clear; spelled = refl } }

logout_opens : Opens LOGOUT
unfolding LOGOUT
logout_opens = record { rest = wire (codes "9=46|35=5|34=3|49=BUY|52=20240102-10:00:00|56=SELL|10=025|"); line = record { no_soh = version_clear; spelled = refl } }

begin_same : (text begin : List ℕ) → Opens text → HasBegin text begin → begin ≡ codes "FIX.4.2"
begin_same text begin o h = (line_same (drop 2 text) begin (codes "FIX.4.2") h.rest o.rest (record { no_soh = h.no_soh; spelled = ap (drop 2) h.spelled }) o.line).0

abbrev TEN : Moment
TEN = record { year = 2024; month = 1; day = 2; hour = 10; minute = 0; second = 0; fraction = [] }

-- what SendingTime (52) says
ten_is_read : IsUtcTimestamp (codes "20240102-10:00:00") (pos SAMPLE_TIME)
unfolding days_from_civil day_count days_of_years days_of_months
ten_is_read = record {
  moment = TEN;
  is = record { date = ((omega arith, omega arith), (lit≤ tt, lit≤ tt), (lit≤ tt, lit≤ tt)); hour = lit< tt; minute = lit< tt; second = lit≤ tt; digits = tt };
  many = inl refl;
  spelled = refl;
  says = refl;
}

-- the Logon can be taken, with a HeartBtInt (108) of 30
logon_is : IsLogon LOGON_FIELDS 30
logon_is = record {
  plain = record { type = refl; encrypt_method = record { value = codes "0"; there = refl; int = value.plain 0 (record { digits = (lit< tt, tt); some = lit< tt; below = lit< tt; says = refl }) refl }; no_reset = inl refl };
  heart_bt_int = record { value = codes "30"; there = refl; int = value.plain 30 (record { digits = (lit< tt, (lit< tt, tt)); some = lit< tt; below = lit< tt; says = refl }) refl };
  at_most_a_day = lit≤ tt;
}

-- a message of the sample
abbrev presented : List Field → Option ℕ → InboundSeen
presented fs heart = record { header = header_of_fields (codes "FIX.4.2") fs; sent = Some (pos SAMPLE_TIME); heart = heart }

inbound_is : (text : List ℕ) (fs : List Field) (i : InboundSeen) → Opens text → HasFields text fs → value_of 52 fs ≡ Some (codes "20240102-10:00:00") → IsInbound text i → i ≡ presented fs i.heart
inbound_is text fs i o has time h =
    let fields : h.fields ≡ fs = has_same text h.fields fs h.has has in
    let header : i.header ≡ header_of_fields (codes "FIX.4.2") fs = h.header ∙ ap (λ (b : List ℕ). header_of_fields b h.fields) (begin_same text i.header.begin o h.begins) ∙ ap (header_of_fields (codes "FIX.4.2")) fields in
    let sent_at : i.header.sending_time ≡ Some (codes "20240102-10:00:00") = ap (λ (x : Header). x.sending_time) header ∙ time in
    let only : IsSent (Some (codes "20240102-10:00:00")) i.sent = subst (λ (v : Option (List ℕ)). IsSent v i.sent) sent_at h.sent in
    let sent : i.sent ≡ Some (pos SAMPLE_TIME) = only.each (pos SAMPLE_TIME) ten_is_read in
    λ j. record { header = header j; sent = sent j; heart = i.heart }

-- the state there, with this number kept
abbrev state_at : Place → ℕ → State
state_at p kept = record { phase = phase_at p; expected = expected_at p; stored_expected = kept; last = last_at p; reading = SAMPLE_TIME }

state_is : (p : Place) (s : State) → IsAt p s → s ≡ state_at p s.stored_expected
state_is p s at = λ i. record { phase = at.phase i; expected = at.expected i; stored_expected = s.stored_expected; last = at.last i; reading = at.reading i }

logon_computes : (kept : ℕ) → answer_to SAMPLE_ID (state_at AtLogon kept) (presented LOGON_FIELDS (Some 30)) ≡ logon_steps 1 30
logon_computes kept = refl

order_computes : (kept : ℕ) (heart : Option ℕ) → answer_to SAMPLE_ID (state_at AtOrder kept) (presented ORDER_FIELDS heart) ≡ app_answer 2
order_computes kept heart = refl

logout_computes : (kept : ℕ) (heart : Option ℕ) → answer_to SAMPLE_ID (state_at AtLogout kept) (presented LOGOUT_FIELDS heart) ≡ logout_answer 3
logout_computes kept heart = refl

answers_same : (p : Place) (s : State) (i j : InboundSeen) → IsAt p s → i ≡ j → answer_to SAMPLE_ID s i ≡ answer_to SAMPLE_ID (state_at p s.stored_expected) j
answers_same p s i j at e = ap (λ (x : State). answer_to SAMPLE_ID x i) (state_is p s at) ∙ ap (answer_to SAMPLE_ID (state_at p s.stored_expected)) e

pub logon_answered : (s : State) (i : InboundSeen) → IsAt AtLogon s → IsInbound LOGON i → answer_to SAMPLE_ID s i ≡ logon_steps 1 30
logon_answered s i at h =
    let fields : h.fields ≡ LOGON_FIELDS = has_same LOGON h.fields LOGON_FIELDS h.has logon_has in
    let heart : i.heart ≡ Some 30 = h.heart.each 30 (subst (λ (fs : List Field). IsLogon fs 30) (sym fields) logon_is) in
    let is : i ≡ presented LOGON_FIELDS (Some 30) = inbound_is LOGON LOGON_FIELDS i logon_opens logon_has refl h ∙ ap (presented LOGON_FIELDS) heart in
    answers_same AtLogon s i (presented LOGON_FIELDS (Some 30)) at is ∙ logon_computes s.stored_expected

pub order_answered : (s : State) (i : InboundSeen) → IsAt AtOrder s → IsInbound ORDER i → answer_to SAMPLE_ID s i ≡ app_answer 2
order_answered s i at h = answers_same AtOrder s i (presented ORDER_FIELDS i.heart) at (inbound_is ORDER ORDER_FIELDS i order_opens order_has refl h) ∙ order_computes s.stored_expected i.heart

pub logout_answered : (s : State) (i : InboundSeen) → IsAt AtLogout s → IsInbound LOGOUT i → answer_to SAMPLE_ID s i ≡ logout_answer 3
logout_answered s i at h = answers_same AtLogout s i (presented LOGOUT_FIELDS i.heart) at (inbound_is LOGOUT LOGOUT_FIELDS i logout_opens logout_has refl h) ∙ logout_computes s.stored_expected i.heart
