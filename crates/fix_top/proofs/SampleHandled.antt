-- How each message of the sample is handled.
use Rattle.std.proofs.Common.{◌≡◌, inl, inr, ℕ, ◌+◌, ◌-◌, ◌*◌, ◌<◌, ◌≤◌, List, [], ◌∷◌, ◌++◌, length, Result, Err, None, Some, false, refl, sym, ap, subst, ◌∙◌, arith}
use Rattle.std.specs.Prelude.{⊤}
use Rattle.std.proofs.lemmas.List.{append-nil, length-append}
use Rattle.fix_base.specs.declared.act.Act.TheVariants as act
use Rattle.fix_base.specs.declared.entry.Record.TheVariants.{Push}
use Rattle.fix_base.specs.Fields.{Field}
use Rattle.fix_base.specs.Line.{line_text}
use Rattle.fix_base.specs.Says.{body_of}
use Rattle.fix_base.specs.Trace.{Note, Did}
use Rattle.fix_engine.specs.declared.state.State.{State}
use Rattle.fix_engine.specs.declared.state.Phase.TheVariants.{Down, Up}
use Rattle.fix_engine.specs.declared.state.Say.{Say}
use Rattle.fix_engine.specs.declared.state.Say.TheVariants.{Logon, Logout}
use Rattle.fix_engine.specs.declared.state.Step.{Step}
use Rattle.fix_engine.specs.declared.state.Step.TheVariants as step
use Rattle.fix_engine.specs.declared.state.Why.TheVariants.{LoggedOut}
use Rattle.fix_engine.specs.declared.state.Ending.{Ending}
use Rattle.fix_engine.specs.declared.state.Ending.TheVariants as ending
use Rattle.fix_engine.specs.State.{with_phase, with_expected, with_last}
use Rattle.fix_engine.specs.Answer.{IsSaid, entry_of, AnswerFrame, logon_steps, app_answer, logout_answer}
use Rattle.fix_engine.proofs.ReadLemmas.{has_same}
use Rattle.fix_top.specs.Sample.{SAMPLE_ID, SAMPLE_TIME, LOGON, ORDER, LOGOUT, LOGON_ANSWER, LOGOUT_ANSWER, BODY}
use Rattle.fix_top.proofs.SampleReads.{Tells}
use Rattle.fix_top.proofs.SampleRooms.{lines_in, store_left, Leaves}
use Rattle.fix_top.proofs.SamplePlaces.{Place, AtLogon, AtOrder, AtLogout, text_at, rest_at, written_at, handed_at, IsAt, to_keep, IsFit, Came, no_memory, on, over}
use Rattle.fix_top.proofs.SampleTexts.{ORDER_FIELDS}
use Rattle.fix_top.proofs.SampleFrames.{order_has, order_body}
use Rattle.fix_top.proofs.SampleSaid.{logon_said, logout_said}
use Rattle.fix_top.proofs.SampleInbound.{logon_answered, order_answered, logout_answered}
use Rattle.fix_top.proofs.SampleSteps.{Carries, nothing_quiet, count_quiet, up_quiet, after_quiet, after_all, Follows, after_done, HasSent, SaidFits, send_done, HasHanded, LineFits, hand_done, after_close}

-- the message was handled: the next one is behind it
pub record IsNextAt (p : Place) (s : State) (q : Place) : Type 0 where
  pub text : rest_at p ≡ text_at q ++ rest_at q
  pub state : IsAt q s

-- memory was refused
want : (p : Place) (s to : State) (notes : List Note) (P : Place → Type 0) (r : Result ⊤ Ending) → r ≡ Err ending.OutOfMemory → Came p s notes P to r
want p s to notes P r e = subst (Came p s notes P to) (sym e) no_memory

-- a number below the last
low_of : (n k : ℕ) → n ≡ k → k < 999999999 → n < 999999999
low_of n k e low = omega arith

-- what was said, where the last number and the reading are known
said_there : (s : State) (say : Say) (last : ℕ) (text : List ℕ) → s.last ≡ last → s.reading ≡ SAMPLE_TIME → IsSaid SAMPLE_ID (s.last + 1) s.reading say text → IsSaid SAMPLE_ID (last + 1) SAMPLE_TIME say text
said_there s say last text e f said = subst (λ t. IsSaid SAMPLE_ID (last + 1) t say text) f (subst (λ n. IsSaid SAMPLE_ID (n + 1) s.reading say text) e said)

-- one message was written, and nothing more
sent_notes : (s : State) (say : Say) (text : List ℕ) (notes first more : List Note) → notes ≡ first ++ more → first ≡ Did (act.Kept (Push (entry_of s say))) ∷ Did (act.Wrote text) ∷ [] → more ≡ [] → notes ≡ Did (act.Kept (Push (entry_of s say))) ∷ Did (act.Wrote text) ∷ []
sent_notes s say text notes first more is noted none = is ∙ ap (λ (w : List Note). first ++ w) none ∙ append-nil first ∙ noted

sent_tells : (s : State) (say : Say) (text wanted : List ℕ) (notes : List Note) → notes ≡ Did (act.Kept (Push (entry_of s say))) ∷ Did (act.Wrote text) ∷ [] → text ≡ wanted → Tells notes wanted []
sent_tells s say text wanted notes all same = subst (λ (w : List Note). Tells w wanted []) (sym all) (record { wrote = append-nil text ∙ same; gave = refl })

-- the room behind an entry of what is said
said_less : (store said kept kept' : ℕ) → said + 19 + 10 * (4 - kept) ≤ store → kept' ≡ kept → said + 10 * (4 - kept') ≤ store - 19
said_less store said kept kept' room same = omega (arith, room, same)

-- its entry was kept, and the number that is kept is the same
sent_leaves : (s to : State) (say : Say) (text : List ℕ) (notes : List Note) (said : ℕ) → notes ≡ Did (act.Kept (Push (entry_of s say))) ∷ Did (act.Wrote text) ∷ [] → to.stored_expected ≡ s.stored_expected → Leaves notes (to_keep (said + 19) s) (to_keep said to)
sent_leaves s to say text notes said all same store room = subst (λ (w : List Note). to_keep said to ≤ store_left store w) (sym all) (said_less store said s.stored_expected to.stored_expected room same)

-- ---- the Logon

-- the state behind it
at_order : (s mid to : State) → IsAt AtLogon s → mid ≡ with_last s (s.last + 1) → to ≡ with_expected (with_phase mid Up) 2 → IsAt AtOrder to
at_order s mid to at sent is =
    let whole : to ≡ with_expected (with_phase (with_last s (s.last + 1)) Up) 2 = is ∙ ap (λ (m : State). with_expected (with_phase m Up) 2) sent in
    subst (IsAt AtOrder) (sym whole) (record { phase = refl; expected = refl; low = omega (arith, at.low); last = ap (λ n. n + 1) at.last; reading = at.reading })

kept_there : (s mid to : State) → mid ≡ with_last s (s.last + 1) → to ≡ with_expected (with_phase mid Up) 2 → to.stored_expected ≡ s.stored_expected
kept_there s mid to sent is = ap (λ (m : State). m.stored_expected) is ∙ ap (λ (m : State). m.stored_expected) sent

logon_goes : (s s' : State) (notes : List Note) (r : Result ⊤ Ending) → IsAt AtLogon s → Follows LOGON (HasSent s (Logon 30)) (step.GoUp ∷ step.Count 1 ∷ step.Nothing ∷ []) notes r s' → Came AtLogon s notes (IsNextAt AtLogon s') s' r
logon_goes s s' notes r at f =
    let up = with_phase f.mid Up in
    let counted = with_expected up 2 in
    let a = after_quiet LOGON f.mid up step.GoUp (step.Count 1 ∷ step.Nothing ∷ []) f.more r s' (up_quiet LOGON f.mid) f.others in
    let b = after_quiet LOGON up counted (step.Count 1) (step.Nothing ∷ []) f.more r s' (count_quiet LOGON up 1) a in
    let c = after_quiet LOGON counted counted step.Nothing [] f.more r s' (nothing_quiet LOGON counted) b in
    let end = after_all LOGON counted f.more r s' c in
    let said = logon_said f.did.text (said_there s (Logon 30) 0 f.did.text at.last at.reading f.did.said) in
    let all = sent_notes s (Logon 30) f.did.text notes f.first f.more f.is f.did.noted end.0 in
    let tells = sent_tells s (Logon 30) f.did.text LOGON_ANSWER notes all said in
    let leaves = sent_leaves s s' (Logon 30) f.did.text notes 19 all (kept_there s f.mid s' f.did.state end.2) in
    subst (Came AtLogon s notes (IsNextAt AtLogon s') s') (sym end.1) (on AtOrder (record { text = refl; state = at_order s f.mid s' at f.did.state end.2 }) LOGON_ANSWER [] tells refl refl leaves)

-- an entry of what is said fits into the room of the store
said_fits : (store said : ℕ) (s : State) → 19 ≤ said → to_keep said s ≤ store → 19 ≤ store
said_fits store said s some room = omega (arith, some, room)

-- the answer fits into the room for what is to be written
logon_fits : (s : State) (link : ℕ) → IsAt AtLogon s → length (written_at AtLogon) ≤ link → SaidFits link s (Logon 30)
logon_fits s link at room text said =
    let same : text ≡ LOGON_ANSWER = logon_said text (said_there s (Logon 30) 0 text at.last at.reading said) in
    omega (arith, ap length same, length-append LOGON_ANSWER LOGOUT_ANSWER, room)

logon_handles : (s s' : State) (notes : List Note) (r : Result ⊤ Ending) → IsAt AtLogon s → IsFit AtLogon s notes → Carries LOGON s (logon_steps 1 30) notes r s' → Came AtLogon s notes (IsNextAt AtLogon s') s' r
logon_handles s s' notes r at fit d =
    elim (after_done fit.link fit.app fit.store LOGON s (step.Send (Logon 30) (Some 1)) (HasSent s (Logon 30)) (step.GoUp ∷ step.Count 1 ∷ step.Nothing ∷ []) notes r s' (send_done fit.link fit.app fit.store LOGON s (Logon 30) (Some 1) (low_of s.last 0 at.last (omega arith)) (logon_fits s fit.link at fit.written) (said_fits fit.store 38 s (omega arith) fit.kept)) fit.rooms d) [
      | inl lost ↦ want AtLogon s s' notes (IsNextAt AtLogon s') r lost
      | inr f ↦ logon_goes s s' notes r at f
    ]

-- ---- the order

at_logout : (s mid to : State) → IsAt AtOrder s → mid ≡ s → to ≡ with_expected mid 3 → IsAt AtLogout to
at_logout s mid to at same is =
    let whole : to ≡ with_expected s 3 = is ∙ ap (λ (m : State). with_expected m 3) same in
    subst (IsAt AtLogout) (sym whole) (record { phase = at.phase; expected = refl; low = omega (arith, at.low); last = at.last; reading = at.reading })

kept_still : (s mid to : State) → mid ≡ s → to ≡ with_expected mid 3 → to.stored_expected ≡ s.stored_expected
kept_still s mid to same is = ap (λ (m : State). m.stored_expected) is ∙ ap (λ (m : State). m.stored_expected) same

-- the order was handed over, and nothing more
handed_notes : (fields : List Field) (notes first more : List Note) → notes ≡ first ++ more → first ≡ Did (act.Handed 2 false (body_of fields)) ∷ [] → more ≡ [] → notes ≡ Did (act.Handed 2 false (body_of fields)) ∷ []
handed_notes fields notes first more is noted none = is ∙ ap (λ (w : List Note). first ++ w) none ∙ append-nil first ∙ noted

handed_tells : (fields : List Field) (notes : List Note) → notes ≡ Did (act.Handed 2 false (body_of fields)) ∷ [] → body_of fields ≡ BODY → Tells notes [] (act.Handed 2 false BODY ∷ [])
handed_tells fields notes all same = subst (λ (w : List Note). Tells w [] (act.Handed 2 false BODY ∷ [])) (sym all) (record { wrote = refl; gave = ap (λ (b : List ℕ). act.Handed 2 false b ∷ []) same })

same_room : (store said kept kept' : ℕ) → said + 10 * (4 - kept) ≤ store → kept' ≡ kept → said + 10 * (4 - kept') ≤ store
same_room store said kept kept' room same = omega (arith, room, same)

-- the store keeps its room
handed_leaves : (s to : State) (fields : List Field) (notes : List Note) (said : ℕ) → notes ≡ Did (act.Handed 2 false (body_of fields)) ∷ [] → to.stored_expected ≡ s.stored_expected → Leaves notes (to_keep said s) (to_keep said to)
handed_leaves s to fields notes said all same store room = subst (λ (w : List Note). to_keep said to ≤ store_left store w) (sym all) (same_room store said s.stored_expected to.stored_expected room same)

order_goes : (s s' : State) (notes : List Note) (r : Result ⊤ Ending) → IsAt AtOrder s → Follows ORDER (HasHanded ORDER s 2 false) (step.Count 2 ∷ step.Nothing ∷ step.Nothing ∷ []) notes r s' → Came AtOrder s notes (IsNextAt AtOrder s') s' r
order_goes s s' notes r at f =
    let counted = with_expected f.mid 3 in
    let a = after_quiet ORDER f.mid counted (step.Count 2) (step.Nothing ∷ step.Nothing ∷ []) f.more r s' (count_quiet ORDER f.mid 2) f.others in
    let b = after_quiet ORDER counted counted step.Nothing (step.Nothing ∷ []) f.more r s' (nothing_quiet ORDER counted) a in
    let c = after_quiet ORDER counted counted step.Nothing [] f.more r s' (nothing_quiet ORDER counted) b in
    let end = after_all ORDER counted f.more r s' c in
    let body = ap body_of (has_same ORDER f.did.fields ORDER_FIELDS f.did.has order_has) ∙ order_body in
    let all = handed_notes f.did.fields notes f.first f.more f.is f.did.noted end.0 in
    let tells = handed_tells f.did.fields notes all body in
    let leaves = handed_leaves s s' f.did.fields notes 19 all (kept_still s f.mid s' f.did.state end.2) in
    subst (Came AtOrder s notes (IsNextAt AtOrder s') s') (sym end.1) (on AtLogout (record { text = refl; state = at_logout s f.mid s' at f.did.state end.2 }) [] (act.Handed 2 false BODY ∷ []) tells refl refl leaves)

order_fits : (app : ℕ) → length (lines_in (handed_at AtOrder)) ≤ app → LineFits app ORDER 2 false
order_fits app room fields has =
    let body : body_of fields ≡ BODY = ap body_of (has_same ORDER fields ORDER_FIELDS has order_has) ∙ order_body in
    let line = line_text 2 false BODY in
    omega (arith, ap (λ (b : List ℕ). length (line_text 2 false b)) body, length-append line [], room)

order_handles : (s s' : State) (notes : List Note) (r : Result ⊤ Ending) → IsAt AtOrder s → IsFit AtOrder s notes → Carries ORDER s (app_answer 2) notes r s' → Came AtOrder s notes (IsNextAt AtOrder s') s' r
order_handles s s' notes r at fit d =
    elim (after_done fit.link fit.app fit.store ORDER s (step.Hand 2 false) (HasHanded ORDER s 2 false) (step.Count 2 ∷ step.Nothing ∷ step.Nothing ∷ []) notes r s' (hand_done fit.link fit.app fit.store ORDER s 2 false (order_fits fit.app fit.handed)) fit.rooms d) [
      | inl lost ↦ want AtOrder s s' notes (IsNextAt AtOrder s') r lost
      | inr f ↦ order_goes s s' notes r at f
    ]

-- ---- the Logout

-- the number behind the Logout is expected then
closed_at : (s mid to : State) → s.expected ≡ 4 → mid ≡ with_last s (s.last + 1) → to ≡ with_phase mid Down → (to.expected ≡ 4) × (to.stored_expected ≡ s.stored_expected)
closed_at s mid to four sent is = (ap (λ (m : State). m.expected) is ∙ ap (λ (m : State). m.expected) sent ∙ four, ap (λ (m : State). m.stored_expected) is ∙ ap (λ (m : State). m.stored_expected) sent)

logout_goes : (s s' : State) (notes : List Note) (r : Result ⊤ Ending) → IsAt AtLogout s → Follows LOGOUT (HasSent (with_expected s 4) Logout) (step.Close (LoggedOut 3) ∷ step.Nothing ∷ []) notes r s' → Came AtLogout s notes (IsNextAt AtLogout s') s' r
logout_goes s s' notes r at f =
    let counted = with_expected s 4 in
    let end = after_close LOGOUT f.mid (LoggedOut 3) (step.Nothing ∷ []) f.more r s' f.others in
    let said = logout_said f.did.text (said_there counted Logout 1 f.did.text at.last at.reading f.did.said) in
    let all = sent_notes counted Logout f.did.text notes f.first f.more f.is f.did.noted end.0 in
    let tells = sent_tells counted Logout f.did.text LOGOUT_ANSWER notes all said in
    let to = closed_at counted f.mid s' refl f.did.state end.2 in
    let leaves = sent_leaves counted s' Logout f.did.text notes 0 all to.1 in
    subst (Came AtLogout s notes (IsNextAt AtLogout s') s') (sym end.1) (over 3 tells to.0 (omega (arith, to.1, at.low)) leaves)

logout_fits : (s : State) (link : ℕ) → s.last ≡ 1 → s.reading ≡ SAMPLE_TIME → length (written_at AtLogout) ≤ link → SaidFits link s Logout
logout_fits s link last reading room text said = omega (arith, ap length (logout_said text (said_there s Logout 1 text last reading said)), room)

logout_handles : (s s' : State) (notes : List Note) (r : Result ⊤ Ending) → IsAt AtLogout s → IsFit AtLogout s notes → Carries LOGOUT s (logout_answer 3) notes r s' → Came AtLogout s notes (IsNextAt AtLogout s') s' r
logout_handles s s' notes r at fit d =
    let counted = with_expected s 4 in
    let a = after_quiet LOGOUT s counted (step.Count 3) (step.Send Logout None ∷ step.Close (LoggedOut 3) ∷ step.Nothing ∷ []) notes r s' (count_quiet LOGOUT s 3) d in
    elim (after_done fit.link fit.app fit.store LOGOUT counted (step.Send Logout None) (HasSent counted Logout) (step.Close (LoggedOut 3) ∷ step.Nothing ∷ []) notes r s' (send_done fit.link fit.app fit.store LOGOUT counted Logout None (low_of s.last 1 at.last (omega arith)) (logout_fits counted fit.link at.last at.reading fit.written) (said_fits fit.store 19 s (omega arith) fit.kept)) fit.rooms a) [
      | inl lost ↦ want AtLogout s s' notes (IsNextAt AtLogout s') r lost
      | inr f ↦ logout_goes s s' notes r at f
    ]

-- ---- each of them

pub handles : (p : Place) (s s' : State) (notes : List Note) (r : Result ⊤ Ending) → IsAt p s → IsFit p s notes → AnswerFrame SAMPLE_ID s (text_at p) notes r s' → Came p s notes (IsNextAt p s') s' r
handles AtLogon s s' notes r at fit h = logon_handles s s' notes r at fit (subst (λ (xs : List Step). Carries LOGON s xs notes r s') (logon_answered s h.inbound at h.presents) h.carried)
handles AtOrder s s' notes r at fit h = order_handles s s' notes r at fit (subst (λ (xs : List Step). Carries ORDER s xs notes r s') (order_answered s h.inbound at h.presents) h.carried)
handles AtLogout s s' notes r at fit h = logout_handles s s' notes r at fit (subst (λ (xs : List Step). Carries LOGOUT s xs notes r s') (logout_answered s h.inbound at h.presents) h.carried)
