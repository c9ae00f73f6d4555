-- The answer to a message is a run of a lawful end.
use Rattle.std.proofs.Common.{◌≡◌, ◌≢◌, inl, inr, ℕ, ◌<◌, ◌&&◌, not, codes, bytes_eq, List, [], ◌∷◌, Bool, true, false, if◌then◌else◌, Option, Some, None, is_none, Result, refl, sym, ap, ◌∙◌, subst}
use Rattle.std.specs.Prelude.{⊤, IfSome}
use Rattle.std.proofs.lemmas.Bool.{eqb-true}
use Rattle.std.proofs.lemmas.Slice.Eq.{bytes_eq-Decides}
use Rattle.fix_base.specs.Lists.{Among}
use Rattle.fix_base.specs.declared.identity.Identity.{Identity}
use Rattle.fix_base.specs.Fields.{Field}
use Rattle.fix_base.specs.Message as message
use Rattle.fix_base.specs.Message.{Message}
use Rattle.fix_base.specs.Says.{value_of, seq_num_of, is_admin_type, body_of, message_of, HasFields}
use Rattle.fix_base.specs.Stream.{UnreadBytes}
use Rattle.fix_base.specs.EndStep.{Connection, EndState, WasRead}
use Rattle.fix_base.specs.Trace.{Note, acts_of}
use Rattle.fix_base.proofs.HandledLemmas.{test}
use Rattle.fix_fields.specs.Header.{Header}
use Rattle.fix_engine.specs.State.{State, Phase, Down, AwaitLogon, Up, Ending, Step, LoggedOut, Refused, NotLogon, Logon, Logout}
use Rattle.fix_engine.specs.declared.state.Step.TheVariants as do_step
use Rattle.fix_engine.specs.Inbound.{InboundSeen, IsInbound, IsLogon, IsWithoutReset}
use Rattle.fix_engine.specs.Answer.{Carried, AnswerFrame, names, is_numbered, is_of_session, is_in_order, is_app_type, number_or_0, not_built, refused, logon_steps, logon_answer, logout_answer, app_answer, first_answer, up_answer, answer_in}
use Rattle.fix_engine.specs.Reading.{connection_seen}
use Rattle.fix_engine.specs.Lawful.{IsCertain, BeginsPlainly, IsBegunAt, IsOn, MatchesConnected, LawfulRunTo}
use Rattle.fix_frame.specs.Given.{GivesFrame}
use Rattle.fix_engine.proofs.ReadLemmas.{has_same, read_frame, was_read, says_admin, says_app}
use Rattle.fix_engine.proofs.LogonLemmas.{begun_frame, begun_up, unflagged_free}
use Rattle.fix_engine.proofs.OnLemmas.{on_place}
use Rattle.fix_engine.proofs.LawfulSteps.{Behind, Triple, AdminDue, AppDue, AppGiven, In, itself, certain_in, certain_due, certain_given, nowhere, first_of, nothing_leads, close_leads, give_up_leads, go_up_leads, count_admin_leads, count_app_leads, hand_leads, answer_leads, send_leads}

-- ---- the answers

module _ (id : Identity) (frame : List ℕ) (b : UnreadBytes) where
  -- nothing is done in the places that are left
  one_idle : Triple id itself (In id b) (λ s. Carried id frame s (do_step.Nothing ∷ [])) (In id b)
  one_idle = first_of id frame b (In id b) (In id b) (In id b) (certain_in id b) do_step.Nothing [] (nothing_leads id frame b (In id b)) (nowhere id frame b (In id b))

  two_idle : Triple id itself (In id b) (λ s. Carried id frame s (do_step.Nothing ∷ do_step.Nothing ∷ [])) (In id b)
  two_idle = first_of id frame b (In id b) (In id b) (In id b) (certain_in id b) do_step.Nothing (do_step.Nothing ∷ []) (nothing_leads id frame b (In id b)) one_idle

  three_idle : Triple id itself (In id b) (λ s. Carried id frame s (do_step.Nothing ∷ do_step.Nothing ∷ do_step.Nothing ∷ [])) (In id b)
  three_idle = first_of id frame b (In id b) (In id b) (In id b) (certain_in id b) do_step.Nothing (do_step.Nothing ∷ do_step.Nothing ∷ []) (nothing_leads id frame b (In id b)) two_idle

  not_built_leads : (i : InboundSeen) → Triple id itself IsCertain (λ s. Carried id frame s (not_built i)) (In id b)
  not_built_leads i = first_of id frame b IsCertain (In id b) (In id b) (certain_in id b) (do_step.GiveUp (number_or_0 i.header.number)) (do_step.Nothing ∷ do_step.Nothing ∷ do_step.Nothing ∷ []) (give_up_leads id frame b (number_or_0 i.header.number) IsCertain (In id b) (λ s e h. h)) three_idle

  refused_leads : (i : InboundSeen) → Triple id itself IsCertain (λ s. Carried id frame s (refused i)) (In id b)
  refused_leads i = first_of id frame b IsCertain (In id b) (In id b) (certain_in id b) (do_step.Close (Refused (number_or_0 i.header.number) NotLogon)) (do_step.Nothing ∷ do_step.Nothing ∷ do_step.Nothing ∷ []) (close_leads id frame b (Refused (number_or_0 i.header.number) NotLogon) IsCertain (In id b) (λ s e h. h)) three_idle

  logon_leads : (n heart : ℕ) → Triple id itself (AdminDue id b n) (λ s. Carried id frame s (logon_steps n heart)) (In id b)
  logon_leads n heart =
      first_of id frame b (AdminDue id b n) (AdminDue id b n) (In id b) (certain_due id b n) (do_step.Send (Logon heart) (Some n)) (do_step.GoUp ∷ do_step.Count n ∷ do_step.Nothing ∷ []) (answer_leads id frame b (Logon heart) n)
      (first_of id frame b (AdminDue id b n) (AdminDue id b n) (In id b) (certain_due id b n) do_step.GoUp (do_step.Count n ∷ do_step.Nothing ∷ []) (go_up_leads id frame b n)
      (first_of id frame b (AdminDue id b n) (In id b) (In id b) (certain_in id b) (do_step.Count n) (do_step.Nothing ∷ []) (count_admin_leads id frame b n) one_idle))

  logout_leads : (n : ℕ) → Triple id itself (AdminDue id b n) (λ s. Carried id frame s (logout_answer n)) (In id b)
  logout_leads n =
      first_of id frame b (AdminDue id b n) (In id b) (In id b) (certain_in id b) (do_step.Count n) (do_step.Send Logout None ∷ do_step.Close (LoggedOut n) ∷ do_step.Nothing ∷ []) (count_admin_leads id frame b n)
      (first_of id frame b (In id b) (In id b) (In id b) (certain_in id b) (do_step.Send Logout None) (do_step.Close (LoggedOut n) ∷ do_step.Nothing ∷ []) (send_leads id frame b Logout)
      (first_of id frame b (In id b) (In id b) (In id b) (certain_in id b) (do_step.Close (LoggedOut n)) (do_step.Nothing ∷ []) (close_leads id frame b (LoggedOut n) (In id b) (In id b) (λ s e f. f.on.settled)) one_idle))

  app_leads : (n : ℕ) (fs : List Field) → HasFields frame fs → Triple id itself (AppDue id b n (body_of fs)) (λ s. Carried id frame s (app_answer n)) (In id b)
  app_leads n fs has =
      first_of id frame b (AppDue id b n (body_of fs)) (AppGiven id b n (body_of fs)) (In id b) (certain_given id b n (body_of fs)) (do_step.Hand n false) (do_step.Count n ∷ do_step.Nothing ∷ do_step.Nothing ∷ []) (hand_leads id frame b n fs has)
      (first_of id frame b (AppGiven id b n (body_of fs)) (In id b) (In id b) (certain_in id b) (do_step.Count n) (do_step.Nothing ∷ do_step.Nothing ∷ []) (count_app_leads id frame b n (body_of fs)) two_idle)

-- ---- the tests of a message

both_true : (x y : Bool) → (x && y) ≡ true → (x ≡ true) × (y ≡ true)
both_true true y h = (refl, h)
both_true false y h = cc

not_false : (x : Bool) → not x ≡ false → x ≡ true
not_false true h = refl
not_false false h = cc

-- the value that is named
named : (o : Option (List ℕ)) (text : List ℕ) → names o text ≡ true → o ≡ Some text
named None text h = cc
named (Some v) text h = ap Some ((bytes_eq-Decides v text).0 h)

numbered : (o : Option ℕ) (n : ℕ) → is_numbered o n ≡ true → o ≡ Some n
numbered None n h = cc
numbered (Some k) n h = ap Some (eqb-true k n h)

absent : (o : Option (List ℕ)) → is_none o ≡ true → o ≡ None
absent None h = refl
absent (Some v) h = cc

-- a message in order has the number that is expected
in_order_number : (id : Identity) (s : State) (i : InboundSeen) → is_in_order id s i ≡ true → i.header.number ≡ Some s.expected
in_order_number id s i h =
    let rest = (both_true (is_of_session id i.header) _ h).1 in
    numbered i.header.number s.expected (both_true (is_numbered i.header.number s.expected) _ rest).0

-- the MsgType of an application message
record HasAppType (o : Option (List ℕ)) : Type 0 where
  type : List ℕ
  there : o ≡ Some type
  no_reset : bytes_eq type (codes "4") ≡ false
  no_admin : is_admin_type type ≡ false

negated : (x : Bool) → not x ≡ true → x ≡ false
negated true h = cc
negated false h = refl

no_reset_of : (type : List ℕ) → is_admin_type type ≡ false → bytes_eq type (codes "4") ≡ false
no_reset_of type app = elim (test (bytes_eq type (codes "4"))) as (λ t. bytes_eq type (codes "4") ≡ false) [
  | inl same ↦ (let wrong : is_admin_type (codes "4") ≡ false = subst (λ w. is_admin_type w ≡ false) ((bytes_eq-Decides type (codes "4")).0 same) app in cc)
  | inr other ↦ other
]

app_typed : (o : Option (List ℕ)) → is_app_type o ≡ true → HasAppType o
app_typed None h = cc
app_typed (Some type) h = let n = negated (is_admin_type type) h in record { type = type; there = refl; no_reset = no_reset_of type n; no_admin = n }

-- ---- a message and its answer

-- the frame was read: the end is in step behind it, and what its fields say was read
record WasTaken (id : Identity) (b : UnreadBytes) (fs : List Field) (s : State) (e : EndState) : Type 0 where
  connection : Connection
  on : IsOn id (connection_seen s b) connection e
  counted : (k : ℕ) → Among k connection.gave → k < s.expected
  first : IsWithoutReset fs → BeginsPlainly connection.read
  up : s.phase ≡ Up → BeginsPlainly connection.read
  read : (x : Message) → message_of fs ≡ Some x → WasRead connection x

if_cases : {A : Type 0} (P : A → Type 0) (t : Bool) (x y : A) → (t ≡ true → P x) → (t ≡ false → P y) → P (if t then x else y)
if_cases P true x y h k = h refl
if_cases P false x y h k = k refl

module _ (id : Identity) (frame : List ℕ) (b : UnreadBytes) (i : InboundSeen) (p : IsInbound frame i) (s : State) (e : EndState) (f : WasTaken id b p.fields s e) where
  -- whatever these steps come to is a run
  abbrev Carries : List Step → Type 0
  Carries xs = (notes : List Note) (r : Result ⊤ Ending) (s' : State) → Carried id frame s xs notes r s' → LawfulRunTo id e (acts_of notes) (Behind (In id b s') r s')

  settled : IsCertain s e
  settled = f.on.settled

  number_is : is_in_order id s i ≡ true → seq_num_of p.fields ≡ Some s.expected
  number_is h = sym (ap (λ (g : Header). g.number) p.header) ∙ in_order_number id s i h

  type_is : (type : List ℕ) → i.header.type ≡ Some type → value_of 35 p.fields ≡ Some type
  type_is type h = sym (ap (λ (g : Header). g.type) p.header) ∙ h

  -- the message of the expected number is administrative
  admin_due : (type : List ℕ) → BeginsPlainly f.connection.read → bytes_eq type (codes "4") ≡ false → is_admin_type type ≡ true → is_in_order id s i ≡ true → i.header.type ≡ Some type → AdminDue id b s.expected s e
  admin_due type free no_reset admin order named_so = record {
    connection = f.connection;
    on = f.on;
    counted = f.counted;
    free = free;
    read = f.read (message.Admin s.expected) (says_admin p.fields type s.expected (type_is type named_so) (number_is order) no_reset admin);
    due = refl;
  }

  -- or it is an application message
  app_due : BeginsPlainly f.connection.read → is_in_order id s i ≡ true → is_none i.header.poss_dup ≡ true → is_app_type i.header.type ≡ true → AppDue id b s.expected (body_of p.fields) s e
  app_due free order first app =
      let typed = app_typed i.header.type app in
      let dup : value_of 43 p.fields ≡ None = sym (ap (λ (g : Header). g.poss_dup) p.header) ∙ absent i.header.poss_dup first in
      record {
        connection = f.connection;
        on = f.on;
        counted = f.counted;
        free = free;
        read = f.read (message.App s.expected false (body_of p.fields)) (says_app p.fields typed.type s.expected (type_is typed.type typed.there) (number_is order) typed.no_reset typed.no_admin dup);
        due = refl;
      }

  refused_here : Carries (refused i)
  refused_here notes r s' d = refused_leads id frame b i s notes r s' d e settled

  not_built_here : Carries (not_built i)
  not_built_here notes r s' d = not_built_leads id frame b i s notes r s' d e settled

  -- a Logon that can be taken has no ResetSeqNumFlag (141) of Y
  without_reset : (heart : ℕ) → i.heart ≡ Some heart → IsWithoutReset p.fields
  without_reset heart is = let known : IsLogon p.fields heart = subst (λ (o : Option ℕ). IfSome o (IsLogon p.fields)) is p.heart.known in known.plain.no_reset

  logon_here : (heart : Option ℕ) → i.heart ≡ heart → (BeginsPlainly f.connection.read → AdminDue id b s.expected s e) → Carries (logon_answer s.expected heart i)
  logon_here None is due = not_built_here
  logon_here (Some heart) is due = λ notes r s' d. logon_leads id frame b s.expected heart s notes r s' d e (due (f.first (without_reset heart is)))

  logout_here : AdminDue id b s.expected s e → Carries (logout_answer s.expected)
  logout_here due notes r s' d = logout_leads id frame b s.expected s notes r s' d e due

  app_here : AppDue id b s.expected (body_of p.fields) s e → Carries (app_answer s.expected)
  app_here due notes r s' d = app_leads id frame b s.expected p.fields p.has s notes r s' d e due

  first_here : Carries (first_answer id s i)
  first_here =
      if_cases Carries (not (names i.header.type (codes "A"))) (refused i) (if is_in_order id s i then logon_answer s.expected i.heart i else not_built i) (λ t. refused_here)
      (λ logon. if_cases Carries (is_in_order id s i) (logon_answer s.expected i.heart i) (not_built i)
      (λ order. logon_here i.heart refl (λ free. admin_due (codes "A") free refl refl order (named i.header.type (codes "A") (not_false (names i.header.type (codes "A")) logon))))
      (λ t. not_built_here))

  up_here : BeginsPlainly f.connection.read → Carries (up_answer id s i)
  up_here free =
      if_cases Carries (not (is_in_order id s i && is_none i.header.poss_dup)) (not_built i) (if names i.header.type (codes "5") then logout_answer s.expected else (if is_app_type i.header.type then app_answer s.expected else not_built i)) (λ t. not_built_here)
      (λ fine.
      let both = both_true (is_in_order id s i) (is_none i.header.poss_dup) (not_false (is_in_order id s i && is_none i.header.poss_dup) fine) in
      if_cases Carries (names i.header.type (codes "5")) (logout_answer s.expected) (if is_app_type i.header.type then app_answer s.expected else not_built i)
      (λ logout. logout_here (admin_due (codes "5") free refl refl both.0 (named i.header.type (codes "5") logout)))
      (λ t. if_cases Carries (is_app_type i.header.type) (app_answer s.expected) (not_built i) (λ app. app_here (app_due free both.0 both.1 app)) (λ t. not_built_here)))

  in_phase : (phase : Phase) → s.phase ≡ phase → phase ≢ Down → Carries (answer_in phase id s i)
  in_phase Down is h = absurd (h refl)
  in_phase AwaitLogon is h = first_here
  in_phase Up is h = up_here (f.up is)

-- a frame is taken, and answered
pub handled_leads : (id : Identity) (s s' : State) (a b : UnreadBytes) (frame : List ℕ) (notes : List Note) (r : Result ⊤ Ending) → GivesFrame a b frame → AnswerFrame id s frame notes r s' → (e : EndState) → MatchesConnected id (connection_seen s a) e → LawfulRunTo id e (acts_of notes) (Behind (In id b s') r s')
handled_leads id s s' a b frame notes r gives h e f =
    let c = f.connection in
    let p = h.presents in
    let taken = read_frame c.read a b frame p.fields gives p.has f.on.read in
    let was : WasTaken id b p.fields s e = record {
      connection = c;
      on = on_place id s a b c e taken.read f.on;
      counted = f.counted;
      first = λ without. begun_frame c.read a b frame s.phase gives (λ l. unflagged_free frame p.fields without l (has_same frame l.fields p.fields l.has p.has)) f.begun;
      up = λ is. begun_up (subst (IsBegunAt c.read a) is f.begun);
      read = λ x says. was_read c b (message_of p.fields) x taken says;
    } in
    in_phase id frame b h.inbound p s e was s.phase refl f.on.phase notes r s' h.carried
