-- Each step of an answer is a run of a lawful end.
use Rattle.std.proofs.Common.{◌≡◌, inl, inr, ℕ, ◌+◌, ◌<◌, ◌≤◌, List, [], ◌∷◌, ◌++◌, take, false, Some, None, Result, Ok, Err, refl, sym, ◌∙◌, subst, arith}
use Rattle.std.specs.Prelude.{⊤}
use Rattle.fix_base.specs.Lists.{Among}
use Rattle.fix_base.specs.declared.identity.Identity.{Identity}
use Rattle.fix_base.specs.declared.entry.Entry.{Entry}
use Rattle.fix_base.specs.declared.entry.Record.TheVariants.{Push}
use Rattle.fix_base.specs.declared.act.Act.TheVariants as act
use Rattle.fix_base.specs.Fields.{Field}
use Rattle.fix_base.specs.Message as message
use Rattle.fix_base.specs.Says.{HasFields, body_of}
use Rattle.fix_base.specs.Stream.{UnreadBytes}
use Rattle.fix_base.specs.EndStep as steps
use Rattle.fix_base.specs.EndStep.{Connection, EndState, WasRead, Grew, MayHand, LogonRule}
use Rattle.fix_base.specs.Wrote.{Wrote}
use Rattle.fix_base.specs.Trace.{Note, Did, acts_of}
use Rattle.fix_base.proofs.ListLemmas.{Among-cons_cases}
use Rattle.fix_engine.specs.State.{State, Up, Down, Ending, Step, Say, Why, with_phase, with_last, with_expected}
use Rattle.fix_engine.specs.declared.state.Ending.TheVariants as ending
use Rattle.fix_engine.specs.declared.state.Step.TheVariants as do_step
use Rattle.fix_engine.specs.Fold.{none, ends, goes}
use Rattle.fix_engine.specs.Answer as answer
use Rattle.fix_engine.specs.Answer.{Performed, Carried, entry_of}
use Rattle.fix_engine.specs.Reading.{connection_seen}
use Rattle.fix_engine.specs.Lawful as lawful
use Rattle.fix_engine.specs.Lawful.{HasNumbers, IsCertain, BeginsPlainly, plainly, IsOn, MatchesConnected, IsLost, IsInDoubt, LawfulRunTo}
use Rattle.fix_engine.proofs.LeadsLemmas.{leads_nowhere, leads_step, leads_lost, leads_move, leads_on}
use Rattle.fix_engine.proofs.ReadLemmas.{has_same}
use Rattle.fix_engine.proofs.LogonLemmas.{plain_free}
use Rattle.fix_engine.proofs.OnLemmas.{pushed, writing, connected, settled_pushed, settled_connected, wrote_all, wrote_some, said_rule, some_rule, on_sent, on_state, passed, settled_passed, on_passed, giving, given, on_given, grew_given}

-- behind a part that ends the whole
abbrev pub BehindEnd : Ending → State → EndState → Type 0
BehindEnd (ending.Closed why) s e = IsCertain s e
BehindEnd (ending.NotBuilt n) s e = IsCertain s e
BehindEnd ending.LinkFault s e = IsCertain s e
BehindEnd ending.AppFault s e = IsCertain s e
BehindEnd ending.NumbersSpent s e = IsCertain s e
BehindEnd ending.OutOfMemory s e = IsCertain s e
BehindEnd ending.StoreFault s e = IsInDoubt s e

-- behind a part: where it goes on the end has Q
abbrev pub Behind : (EndState → Type 0) → Result ⊤ Ending → State → EndState → Type 0
Behind Q (Ok x) s e = Q e
Behind Q (Err end) s e = BehindEnd end s e

-- a part leads from P to Q
abbrev pub Triple : {S : Type 0} → Identity → (S → State) → (S → EndState → Type 0) → (S → List Note → Result ⊤ Ending → S → Type 0) → (S → EndState → Type 0) → Type 0
Triple {S} id state P R Q = (s : S) (notes : List Note) (r : Result ⊤ Ending) (s' : S) → R s notes r s' → (e : EndState) → P s e → LawfulRunTo id e (acts_of notes) (Behind (Q s') r (state s'))

abbrev pub itself : State → State
itself s = s

-- where P holds nothing is in doubt
abbrev pub HasNoDoubt : {S : Type 0} → (S → EndState → Type 0) → Type 0
HasNoDoubt {S} P = (s : S) (e : EndState) → P s e → e.doubt ≡ None

-- and the end has the session's numbers
abbrev pub IsSettledIn : (State → EndState → Type 0) → Type 0
IsSettledIn P = (s : State) (e : EndState) → P s e → IsCertain s e

-- the end is in step, and the administrative message of this number was read and is to be counted
pub record AdminDue (id : Identity) (b : UnreadBytes) (n : ℕ) (s : State) (e : EndState) : Type 0 where
  pub connection : Connection
  pub on : IsOn id (connection_seen s b) connection e
  pub counted : (k : ℕ) → Among k connection.gave → k < s.expected
  pub free : BeginsPlainly connection.read
  pub read : WasRead connection (message.Admin n)
  pub due : n ≡ s.expected

-- the application message of this number was read, and is to be given
pub record AppDue (id : Identity) (b : UnreadBytes) (n : ℕ) (body : List ℕ) (s : State) (e : EndState) : Type 0 where
  pub connection : Connection
  pub on : IsOn id (connection_seen s b) connection e
  pub counted : (k : ℕ) → Among k connection.gave → k < s.expected
  pub free : BeginsPlainly connection.read
  pub read : WasRead connection (message.App n false body)
  pub due : n ≡ s.expected

-- it was given, and is to be counted
pub record AppGiven (id : Identity) (b : UnreadBytes) (n : ℕ) (body : List ℕ) (s : State) (e : EndState) : Type 0 where
  pub connection : Connection
  pub on : IsOn id (connection_seen s b) connection e
  pub counted : (k : ℕ) → Among k connection.gave → k ≤ s.expected
  pub free : BeginsPlainly connection.read
  pub read : WasRead connection (message.App n false body)
  pub due : n ≡ s.expected
  pub grew : Grew connection e.handled n

abbrev pub In : Identity → UnreadBytes → State → EndState → Type 0
In id b s e = MatchesConnected id (connection_seen s b) e

pub certain_in : (id : Identity) (b : UnreadBytes) → HasNoDoubt (In id b)
certain_in id b s e f = f.on.settled.doubt

pub certain_due : (id : Identity) (b : UnreadBytes) (n : ℕ) → HasNoDoubt (AdminDue id b n)
certain_due id b n s e f = f.on.settled.doubt

pub certain_given : (id : Identity) (b : UnreadBytes) (n : ℕ) (body : List ℕ) → HasNoDoubt (AppGiven id b n body)
certain_given id b n body s e f = f.on.settled.doubt

-- ---- an entry is kept

module _ (id : Identity) where
  -- it is lost
  pub push_lost : (s : State) (entry : Entry) (e : EndState) → IsLost s (Push entry) → IsCertain s e → LawfulRunTo id e (act.KeepLost (Push entry) ∷ []) (IsInDoubt s)
  push_lost s entry e lost h =
      let left : EndState = record e { doubt = Some (Push entry); connection = None } in
      leads_lost id e left (Push entry) (IsInDoubt s) (record { certain = h.doubt; row = steps.lost_push entry }) refl refl
      (record { numbers = record { expected = h.numbers.expected; stored = h.numbers.stored; out = h.numbers.out; role = h.numbers.role }; record_lost = Push entry; doubt = refl; is = lost; closed = refl })

  -- it is kept, and then more is done
  pub push_kept : (entry : Entry) (e : EndState) (notes : List Note) (P : EndState → Type 0) → e.doubt ≡ None → LawfulRunTo id (pushed e entry) (acts_of notes) P → LawfulRunTo id e (act.Kept (Push entry) ∷ acts_of notes) P
  push_kept entry e notes P certain l = leads_step id e (pushed e entry) (act.Kept (Push entry)) (acts_of notes) P (record { certain = certain; row = steps.kept_push entry steps.adds }) (λ held h. h) l

  -- it is kept, these bytes are written, and then more is done
  pub push_wrote : (s : State) (a : UnreadBytes) (c : Connection) (entry : Entry) (e : EndState) (w : List ℕ) (notes : List Note) (P : EndState → Type 0) → IsOn id (connection_seen s a) c e → Wrote id c.opened (pushed e entry).end (c.written ++ w) → LogonRule id (pushed e entry) c w → LawfulRunTo id (connected (pushed e entry) (writing c w)) (acts_of notes) P → LawfulRunTo id e (act.Kept (Push entry) ∷ act.Wrote w ∷ acts_of notes) P
  push_wrote s a c entry e w notes P h wrote rule l =
      push_kept entry e (Did (act.Wrote w) ∷ notes) P h.settled.doubt
      (leads_step id (pushed e entry) (connected (pushed e entry) (writing c w)) (act.Wrote w) (acts_of notes) P (record { certain = h.settled.doubt; row = steps.wrote w c h.is_open wrote rule }) (λ held k. k) l)

  -- it is kept, and memory is refused
  pub push_alone : (s : State) (entry : Entry) (e : EndState) → IsCertain s e → LawfulRunTo id e (act.Kept (Push entry) ∷ []) (IsCertain (with_last s (s.last + 1)))
  push_alone s entry e h =
      push_kept entry e [] (IsCertain (with_last s (s.last + 1))) h.doubt (leads_nowhere id (pushed e entry) (IsCertain (with_last s (s.last + 1))) (settled_pushed s e entry h))

  pub settled_sent : (s : State) (c : Connection) (entry : Entry) (e : EndState) (w : List ℕ) → IsCertain s e → IsCertain (with_last s (s.last + 1)) (connected (pushed e entry) (writing c w))
  settled_sent s c entry e w h = settled_connected (with_last s (s.last + 1)) (pushed e entry) (writing c w) (settled_pushed s e entry h)

-- ---- the steps

module _ (id : Identity) (frame : List ℕ) (b : UnreadBytes) where
  pub nowhere : (P : State → EndState → Type 0) → Triple id itself P (λ s. Carried id frame s []) P
  nowhere P s notes r s' none e h = leads_nowhere id e (P s) h

  pub first_of : (P Q R : State → EndState → Type 0) → HasNoDoubt Q → (x : Step) (xs : List Step) → Triple id itself P (λ s. Performed id frame s x) Q → Triple id itself Q (λ s. Carried id frame s xs) R → Triple id itself P (λ s. Carried id frame s (x ∷ xs)) R
  first_of P Q R certain x xs one rest s notes r s' (ends {e = end} d) e h = one s notes (Err end) s' d e h
  first_of P Q R certain x xs one rest s notes r s' (goes {mid = mid} {first = first} {more = more} d k) e h =
      leads_on id e first more (Q mid) (Behind (R s') r s') (certain mid) (one s first (Ok tt) mid d e h) (λ m q. rest mid more r s' k m q)

  pub nothing_leads : (P : State → EndState → Type 0) → Triple id itself P (λ s. Performed id frame s do_step.Nothing) P
  nothing_leads P s notes r s' answer.nothing e h = leads_nowhere id e (P s) h

  pub close_leads : (why : Why) (P Q : State → EndState → Type 0) → IsSettledIn P → Triple id itself P (λ s. Performed id frame s (do_step.Close why)) Q
  close_leads why P Q settled s notes r s' (answer.close w) e f =
      let h = settled s e f in
      leads_nowhere id e (IsCertain (with_phase s Down)) (record { doubt = h.doubt; numbers = record { expected = h.numbers.expected; stored = h.numbers.stored; out = h.numbers.out; role = h.numbers.role } })

  pub give_up_leads : (n : ℕ) (P Q : State → EndState → Type 0) → IsSettledIn P → Triple id itself P (λ s. Performed id frame s (do_step.GiveUp n)) Q
  give_up_leads n P Q settled s notes r s' (answer.give_up m) e f =
      let h = settled s e f in
      leads_nowhere id e (IsCertain (with_phase s Down)) (record { doubt = h.doubt; numbers = record { expected = h.numbers.expected; stored = h.numbers.stored; out = h.numbers.out; role = h.numbers.role } })

  pub go_up_leads : (n : ℕ) → Triple id itself (AdminDue id b n) (λ s. Performed id frame s do_step.GoUp) (AdminDue id b n)
  go_up_leads n s notes r s' answer.go_up e f =
      leads_nowhere id e (AdminDue id b n (with_phase s Up)) (record { connection = f.connection; on = on_state id s (with_phase s Up) b f.connection e (λ h. cc) refl refl refl f.on; counted = f.counted; free = f.free; read = f.read; due = f.due })

  pub count_admin_leads : (n : ℕ) → Triple id itself (AdminDue id b n) (λ s. Performed id frame s (do_step.Count n)) (In id b)
  count_admin_leads n s notes r s' (answer.count m) e f =
      let at : n ≡ e.expected = f.due ∙ sym f.on.settled.numbers.expected in
      leads_move id e (passed e) [] (In id b (with_expected s (n + 1))) (steps.past_admin f.connection (message.Admin n) (plain_free e f.connection f.on.settled.numbers.role f.on.is_open f.free) f.on.is_open f.read at) refl
      (leads_nowhere id (passed e) (In id b (with_expected s (n + 1))) (record { connection = f.connection; on = on_passed id s b f.connection e n f.due f.on; begun = plainly f.free; counted = λ k m. omega (arith, f.counted k m, f.due) }))

  pub count_app_leads : (n : ℕ) (body : List ℕ) → Triple id itself (AppGiven id b n body) (λ s. Performed id frame s (do_step.Count n)) (In id b)
  count_app_leads n body s notes r s' (answer.count m) e f =
      let at : n ≡ e.expected = f.due ∙ sym f.on.settled.numbers.expected in
      leads_move id e (passed e) [] (In id b (with_expected s (n + 1))) (steps.past_app f.connection n false body (plain_free e f.connection f.on.settled.numbers.role f.on.is_open f.free) f.on.is_open f.read at f.grew) refl
      (leads_nowhere id (passed e) (In id b (with_expected s (n + 1))) (record { connection = f.connection; on = on_passed id s b f.connection e n f.due f.on; begun = plainly f.free; counted = λ k m. omega (arith, f.counted k m, f.due) }))

  -- it wasn't given on this connection before
  may_hand : (n : ℕ) (body : List ℕ) (s : State) (e : EndState) (f : AppDue id b n body s e) → MayHand e f.connection n false body
  may_hand n body s e f = record {
    is_open = f.on.is_open;
    expected = f.due ∙ sym f.on.settled.numbers.expected;
    frame = f.read;
    unseen = λ m. (let low = f.counted n m in omega (arith, low, f.due));
  }

  pub hand_leads : (n : ℕ) (fs : List Field) → HasFields frame fs → Triple id itself (AppDue id b n (body_of fs)) (λ s. Performed id frame s (do_step.Hand n false)) (AppGiven id b n (body_of fs))
  hand_leads n fs has s notes r s' (answer.taken k marked fields had) e f =
      let same : fields ≡ fs = has_same frame fields fs had has in
      let c = f.connection in
      let body = body_of fs in
      let may : MayHand e c n false body = may_hand n body s e f in
      let l : LawfulRunTo id e (act.Handed n false body ∷ []) (AppGiven id b n body s) = leads_step id e (given e c n body) (act.Handed n false body) [] (AppGiven id b n body s) (record { certain = f.on.settled.doubt; row = steps.handed c n false body (plain_free e c f.on.settled.numbers.role f.on.is_open f.free) may }) (λ held h. h) (leads_nowhere id (given e c n body) (AppGiven id b n body s) (record {
        connection = giving c n;
        on = on_given id (connection_seen s b) c e n body f.on;
        counted = λ k m. elim (Among-cons_cases m) as (λ _. k ≤ s.expected) [ inl same_one ↦ omega (arith, same_one, f.due) | inr earlier ↦ (let low = f.counted k earlier in omega arith) ];
        free = f.free;
        read = record { messages = f.read.messages; shows = f.read.shows; among = f.read.among };
        due = f.due;
        grew = grew_given id (connection_seen s b) c e n body f.on;
      })) in
      subst (λ (gs : List Field). LawfulRunTo id e (act.Handed n false (body_of gs) ∷ []) (AppGiven id b n body s)) (sym same) l
  hand_leads n fs has s notes r s' (answer.hand_lost k marked fields had) e f =
      let same : fields ≡ fs = has_same frame fields fs had has in
      let c = f.connection in
      let body = body_of fs in
      let may : MayHand e c n false body = may_hand n body s e f in
      let left : EndState = record e { connection = None } in
      let h = f.on.settled in
      let l : LawfulRunTo id e (act.HandLost n false body ∷ []) (IsCertain s) = leads_step id e left (act.HandLost n false body) [] (IsCertain s) (record { certain = h.doubt; row = steps.hand_lost c n false body (plain_free e c f.on.settled.numbers.role f.on.is_open f.free) may }) (λ held h. h) (leads_nowhere id left (IsCertain s) (record { doubt = h.doubt; numbers = record { expected = h.numbers.expected; stored = h.numbers.stored; out = h.numbers.out; role = h.numbers.role } })) in
      subst (λ (gs : List Field). LawfulRunTo id e (act.HandLost n false (body_of gs) ∷ []) (IsCertain s)) (sym same) l
  hand_leads n fs has s notes r s' (answer.hand_memory k marked) e f = leads_nowhere id e (IsCertain s) f.on.settled

  -- a message is answered by another
  pub answer_leads : (say : Say) (n : ℕ) → Triple id itself (AdminDue id b n) (λ s. Performed id frame s (do_step.Send say (Some n))) (AdminDue id b n)
  answer_leads say n s notes r s' (answer.spent w m h) e f = leads_nowhere id e (IsCertain s) f.on.settled
  answer_leads say n s notes r s' (answer.keep_memory w m h) e f = leads_nowhere id e (IsCertain s) f.on.settled
  answer_leads say n s notes r s' (answer.keep_lost w m h) e f = push_lost id s (entry_of s say) e (lawful.entry say) f.on.settled
  answer_leads say n s notes r s' (answer.sent w m text small said) e f =
      let c = f.connection in
      push_wrote id s b c (entry_of s say) e text [] (AdminDue id b n (with_last s (s.last + 1))) f.on (wrote_all id s b c e say text small said f.on) (said_rule id s b c e say text said f.on)
      (leads_nowhere id (connected (pushed e (entry_of s say)) (writing c text)) (AdminDue id b n (with_last s (s.last + 1))) (record {
        connection = writing c text;
        on = on_sent id s b c e say text small said f.on;
        counted = f.counted;
        free = f.free;
        read = record { messages = f.read.messages; shows = f.read.shows; among = f.read.among };
        due = f.due;
      }))
  answer_leads say n s notes r s' (answer.write_lost w m text many small said) e f =
      let c = f.connection in
      let to = connected (pushed e (entry_of s say)) (writing c (take many text)) in
      let at : n ≡ e.expected = f.due ∙ sym f.on.settled.numbers.expected in
      let end = with_expected (with_last s (s.last + 1)) (n + 1) in
      let read : WasRead (writing c (take many text)) (message.Admin n) = record { messages = f.read.messages; shows = f.read.shows; among = f.read.among } in
      push_wrote id s b c (entry_of s say) e (take many text) [] (IsCertain end) f.on (wrote_some id s b c e say text many small said f.on) (some_rule id s b c e say text many said f.on)
      (leads_move id to (passed to) [] (IsCertain end) (steps.past_admin (writing c (take many text)) (message.Admin n) (plain_free to (writing c (take many text)) f.on.settled.numbers.role refl f.free) refl read at) refl
      (leads_nowhere id (passed to) (IsCertain end) (settled_passed (with_last s (s.last + 1)) to n f.due (settled_sent id s c (entry_of s say) e (take many text) f.on.settled))))
  answer_leads say n s notes r s' (answer.write_memory w m small) e f = push_alone id s (entry_of s say) e f.on.settled

  -- a message is sent
  pub send_leads : (say : Say) → Triple id itself (In id b) (λ s. Performed id frame s (do_step.Send say None)) (In id b)
  send_leads say s notes r s' (answer.spent w m h) e f = leads_nowhere id e (IsCertain s) f.on.settled
  send_leads say s notes r s' (answer.keep_memory w m h) e f = leads_nowhere id e (IsCertain s) f.on.settled
  send_leads say s notes r s' (answer.keep_lost w m h) e f = push_lost id s (entry_of s say) e (lawful.entry say) f.on.settled
  send_leads say s notes r s' (answer.sent w m text small said) e f =
      let c = f.connection in
      push_wrote id s b c (entry_of s say) e text [] (In id b (with_last s (s.last + 1))) f.on (wrote_all id s b c e say text small said f.on) (said_rule id s b c e say text said f.on)
      (leads_nowhere id (connected (pushed e (entry_of s say)) (writing c text)) (In id b (with_last s (s.last + 1))) (record { connection = writing c text; on = on_sent id s b c e say text small said f.on; begun = f.begun; counted = f.counted }))
  send_leads say s notes r s' (answer.write_lost w m text many small said) e f =
      let c = f.connection in
      let to = connected (pushed e (entry_of s say)) (writing c (take many text)) in
      push_wrote id s b c (entry_of s say) e (take many text) [] (IsCertain (with_last s (s.last + 1))) f.on (wrote_some id s b c e say text many small said f.on) (some_rule id s b c e say text many said f.on)
      (leads_nowhere id to (IsCertain (with_last s (s.last + 1))) (settled_sent id s c (entry_of s say) e (take many text) f.on.settled))
  send_leads say s notes r s' (answer.write_memory w m small) e f = push_alone id s (entry_of s say) e f.on.settled
