-- The answers to frames, and a turn's read and look at the clock, are complete.
use Rattle.std.proofs.Common.{◌≡◌, ◌≢◌, inl, inr, ℕ, zero, suc, ◌+◌, ◌<◌, ◌≤◌, List, [], ◌∷◌, ◌++◌, length, Bool, true}
use Rattle.std.proofs.Common.{false, Option, Some, None, Result, Ok, Err, refl, sym, subst, append_assoc, arith}
use Rattle.std.specs.Prelude.{⊤, IfSome, if◌then◌else◌, not, codes}
use Rattle.std.specs.List.{AllByRecursion}
use Rattle.std.proofs.lemmas.Bool.{cases_lt}
use Rattle.fix_base.specs.declared.identity.Identity.{Identity}
use Rattle.fix_base.specs.Session.{IsValidIdentity}
use Rattle.fix_base.specs.Payload.{LAST_TIME}
use Rattle.fix_base.specs.Shape.{IsFrame}
use Rattle.fix_base.specs.Stream.{UnreadBytes}
use Rattle.fix_base.specs.Says.{fields_text, body_of}
use Rattle.fix_base.specs.Sealed.{sealed}
use Rattle.fix_base.specs.declared.act.Act.TheVariants as act
use Rattle.fix_base.specs.declared.entry.Record.TheVariants.{Push}
use Rattle.fix_base.specs.Trace.{Note, Did}
use Rattle.fix_frame.specs.Sealable.{message_text}
use Rattle.fix_frame.specs.Given.{GivesFrame}
use Rattle.fix_engine.specs.State.{State, Phase, Down, AwaitLogon, Up, Ending, Say, Step, with_last, counted}
use Rattle.fix_engine.specs.declared.state.Ending.TheVariants as ending
use Rattle.fix_engine.specs.declared.state.Step.TheVariants as step
use Rattle.fix_engine.specs.Fold.{Each}
use Rattle.fix_engine.specs.Inbound.{InboundSeen, IsInbound, IsLogon}
use Rattle.fix_engine.specs.Written.{header_fields}
use Rattle.fix_engine.specs.Answer as answer
use Rattle.fix_engine.specs.Answer.{Performed, AnswerFrame, IsSaid, IsSayable, kind_of, fields_of, entry_of, answer_to}
use Rattle.fix_engine.specs.Answer.{answer_in, logon_answer, logout_answer, app_answer, not_built, refused, is_in_order}
use Rattle.fix_engine.specs.Answer.{is_app_type, names}
use Rattle.fix_engine.specs.Reading as turn
use Rattle.fix_engine.specs.Reading.{ConnectionSeen, connection_seen, fed, AnswerFrames, ReadFrames, ReadClock}
use Rattle.fix_engine.specs.Faults.{settles_of}
use Rattle.fix_engine.specs.Stated.{IsFaultless, CanNotFail}
use Rattle.fix_engine.proofs.EachTime.{each_time}
use Rattle.fix_engine.proofs.EachFrame.{sure, on_sure, map_sure, Next, frame_next, none_next, each_presents, each_next}
use Rattle.fix_engine.proofs.Complete.{faultless-append, Onward, IsComplete, onward_as, onward_ok, onward_after, each_complete}
use Rattle.fix_engine.proofs.FrameLemmas.{fields_in, frame_has}
use Rattle.fix_engine.proofs.SaidLemmas.{said_frame}
use Rattle.fix_engine.proofs.TakenLemmas.{frame_shortens}

-- ---- the steps of an answer

-- the reading has a text
abbrev pub IsTimely : State → Type 0
IsTimely s = s.reading ≤ LAST_TIME

-- what a step says can be said
abbrev IsFit : Step → Type 0
IsFit (step.Send say n) = IsSayable say
IsFit (step.Hand n marked) = ⊤
IsFit (step.Count n) = ⊤
IsFit step.GoUp = ⊤
IsFit (step.Close why) = ⊤
IsFit (step.GiveUp n) = ⊤
IsFit step.Nothing = ⊤

-- the frame of what is said
abbrev Said : Identity → State → Say → Type 0
Said id s say = (text : List ℕ) × IsSaid id (s.last + 1) s.reading say text

said : (id : Identity) (s : State) (say : Say) → IsValidIdentity id → s.last < 999999999 → IsTimely s →
    IsSayable say → Said id s say
said id s say valid few timely fits =
    let at = each_time s.reading timely in
    let header : List ℕ = fields_text (header_fields id (s.last + 1) at.0) in
    let rest : List ℕ = fields_text (fields_of say) in (
      sealed id.begin (message_text (kind_of say ∷ []) header rest),
      said_frame id (s.last + 1) s.reading say header rest _ valid (omega arith) fits
          (record { at = at.0; sent_at = at.1; spelled = refl }) refl refl,
    )

module _ (id : Identity) (frame : List ℕ) (valid : IsValidIdentity id) (f : IsFrame frame) where
  -- what is said is kept and written, of which this is noted so far
  said_on : (say : Say) (n : Option ℕ) (s : State) (notes more : List Note) (t : Said id s say) → IsTimely s →
      s.last < 999999999 → IsFaultless more →
      notes ++ more ≡ Did (act.Kept (Push (entry_of s say))) ∷ Did (act.Wrote t.0) ∷ [] →
      Onward IsTimely (λ s. Performed id frame s (step.Send say n)) s notes
  said_on say n s notes more t ok few calm same =
      onward_ok IsTimely (λ s. Performed id frame s (step.Send say n)) s notes more (with_last s (s.last + 1)) calm ok
      (subst (λ w. Performed id frame s (step.Send say n) w (Ok tt) (with_last s (s.last + 1))) (sym same)
      (answer.sent say n t.0 few t.1))

  -- a message is handed over
  handed_on : (n : ℕ) (marked : Bool) (s : State) → IsTimely s →
      Onward IsTimely (λ s. Performed id frame s (step.Hand n marked)) s []
  handed_on n marked s ok = onward_ok IsTimely (λ s. Performed id frame s (step.Hand n marked)) s []
      (Did (act.Handed n marked (body_of (fields_in f))) ∷ []) s tt ok
      (answer.taken n marked (fields_in f) (frame_has f))

  step_goes : (x : Step) → IsFit x → (s : State) → IsTimely s → Onward IsTimely (λ s. Performed id frame s x) s []
  step_goes step.Nothing fit s ok = onward_ok IsTimely (λ s. Performed id frame s step.Nothing) s [] [] _ tt ok
      answer.nothing
  step_goes (step.Count n) fit s ok = onward_ok IsTimely (λ s. Performed id frame s (step.Count n)) s [] [] _ tt ok
      (answer.count n)
  step_goes step.GoUp fit s ok = onward_ok IsTimely (λ s. Performed id frame s step.GoUp) s [] [] _ tt ok answer.go_up
  step_goes (step.Close why) fit s ok = record {
    more = [];
    faultless = tt;
    r = Err (ending.Closed why);
    to = _;
    good = ok;
    whole = answer.close why;
    no_want = λ h. cc;
  }
  step_goes (step.GiveUp n) fit s ok = record {
    more = [];
    faultless = tt;
    r = Err (ending.NotBuilt n);
    to = _;
    good = ok;
    whole = answer.give_up n;
    no_want = λ h. cc;
  }
  step_goes (step.Hand n marked) fit s ok = handed_on n marked s ok
  step_goes (step.Send say n) fit s ok =
      elim (cases_lt s.last 999999999) [
        | inr h ↦ record {
          more = [];
          faultless = tt;
          r = Err ending.NumbersSpent;
          to = _;
          good = ok;
          whole = answer.spent say n h;
          no_want = λ h. cc;
        }
        | inl h ↦
            let t = said id s say valid h ok fit in
            said_on say n s [] (Did (act.Kept (Push (entry_of s say))) ∷ Did (act.Wrote t.0) ∷ []) t ok h tt refl
      ]

  step_resumes : (x : Step) → IsFit x → (s : State) (notes : List Note) (to : State) → IsTimely s →
      Performed id frame s x notes (Err ending.OutOfMemory) to → Onward IsTimely (λ s. Performed id frame s x) s notes
  step_resumes x fit s notes to ok (answer.hand_memory n marked) = handed_on n marked s ok
  step_resumes x fit s notes to ok (answer.keep_memory say n h) =
      let t = said id s say valid h ok fit in
      said_on say n s [] (Did (act.Kept (Push (entry_of s say))) ∷ Did (act.Wrote t.0) ∷ []) t ok h tt refl
  step_resumes x fit s notes to ok (answer.write_memory say n h) =
      let t = said id s say valid h ok fit in
      said_on say n s (Did (act.Kept (Push (entry_of s say))) ∷ []) (Did (act.Wrote t.0) ∷ []) t ok h tt refl

  counted_timely : (s : State) (n : Option ℕ) → IsTimely s → IsTimely (counted s n)
  counted_timely s None ok = ok
  counted_timely s (Some n) ok = ok

  step_stays : (x : Step) (s : State) (notes : List Note) (r : Result ⊤ Ending) (to : State) → IsTimely s →
      Performed id frame s x notes r to → IsTimely to
  step_stays x s notes r to ok answer.nothing = ok
  step_stays x s notes r to ok (answer.count n) = ok
  step_stays x s notes r to ok answer.go_up = ok
  step_stays x s notes r to ok (answer.close why) = ok
  step_stays x s notes r to ok (answer.give_up n) = ok
  step_stays x s notes r to ok (answer.taken n marked fields has) = ok
  step_stays x s notes r to ok (answer.hand_lost n marked fields has) = ok
  step_stays x s notes r to ok (answer.hand_memory n marked) = ok
  step_stays x s notes r to ok (answer.spent say n h) = ok
  step_stays x s notes r to ok (answer.keep_memory say n h) = ok
  step_stays x s notes r to ok (answer.keep_lost say n h) = ok
  step_stays x s notes r to ok (answer.sent say n text h is) = ok
  step_stays x s notes r to ok (answer.write_lost say n text k h is) = counted_timely (with_last s (s.last + 1)) n ok
  step_stays x s notes r to ok (answer.write_memory say n h) = ok

  step_complete : (x : Step) → IsFit x → IsComplete IsTimely (λ s. Performed id frame s x)
  step_complete x fit = record {
    total = λ s ok. sure (step_goes x fit s ok);
    resumes = λ s notes to ok d. sure (step_resumes x fit s notes to ok d);
    stays = λ s notes r to h ok d. step_stays x s notes r to ok d;
  }

-- ---- what is answered can be said

pub by-test : {A : Type 0} (P : A → Type 0) (t : Bool) (x y : A) → P x → P y → P (if t then x else y)
by-test P true x y h k = h
by-test P false x y h k = k

logon-fits : (n : ℕ) (heart : Option ℕ) (i : InboundSeen) → IfSome heart (λ h. h ≤ 86400) →
    AllByRecursion IsFit (logon_answer n heart i)
logon-fits n None i h = (tt, (tt, (tt, (tt, tt))))
logon-fits n (Some heart) i h = (omega arith, (tt, (tt, (tt, tt))))

heart_small : (frame : List ℕ) (i : InboundSeen) → IsInbound frame i → IfSome i.heart (λ h. h ≤ 86400)
heart_small frame i p = small i.heart p.heart.known
  where
    small : (heart : Option ℕ) → IfSome heart (λ h. IsLogon p.fields h) → IfSome heart (λ h. h ≤ 86400)
    small None h = tt
    small (Some heart) h = h.at_most_a_day

answers-fit : (frame : List ℕ) (phase : Phase) (id : Identity) (s : State) (i : InboundSeen) → IsInbound frame i →
    AllByRecursion IsFit (answer_in phase id s i)
answers-fit frame Down id s i p = (tt, (tt, (tt, (tt, tt))))
answers-fit frame AwaitLogon id s i p =
    by-test (AllByRecursion IsFit) (not (names i.header.type (codes "A"))) (refused i)
    (if is_in_order id s i then logon_answer s.expected i.heart i else not_built i) (tt, (tt, (tt, (tt, tt))))
    (by-test (AllByRecursion IsFit) (is_in_order id s i) (logon_answer s.expected i.heart i) (not_built i)
    (logon-fits s.expected i.heart i (heart_small frame i p)) (tt, (tt, (tt, (tt, tt)))))
answers-fit frame Up id s i p =
    by-test (AllByRecursion IsFit) _ (not_built i) _ (tt, (tt, (tt, (tt, tt))))
    (by-test (AllByRecursion IsFit) (names i.header.type (codes "5")) (logout_answer s.expected) _
    (tt, (tt, (tt, (tt, tt))))
    (by-test (AllByRecursion IsFit) (is_app_type i.header.type) (app_answer s.expected) (not_built i)
    (tt, (tt, (tt, (tt, tt)))) (tt, (tt, (tt, (tt, tt))))))

-- ---- the frames

module _ (id : Identity) (frame : List ℕ) (valid : IsValidIdentity id) (f : IsFrame frame) where
  -- the steps that answer what a frame presents
  steps_complete : (s : State) (i : InboundSeen) → IsInbound frame i →
      IsComplete IsTimely (λ at. Each (Performed id frame) at (answer_to id s i))
  steps_complete s i p = each_complete IsTimely (Performed id frame) IsFit (step_complete id frame valid f)
      (answer_to id s i) (answers-fit frame s.phase id s i p)

  answered_on : (s : State) (notes : List Note) (i : InboundSeen) → IsInbound frame i →
      Onward IsTimely (λ at. Each (Performed id frame) at (answer_to id s i)) s notes →
      Onward IsTimely (λ s. AnswerFrame id s frame) s notes
  answered_on s notes i p = onward_as IsTimely IsTimely (λ at. Each (Performed id frame) at (answer_to id s i))
      (λ s. AnswerFrame id s frame) s s notes notes (λ to. to) (λ to ok. ok)
      (λ more r to d. record { inbound = i; presents = p; carried = d })

  frame_complete : IsComplete IsTimely (λ s. AnswerFrame id s frame)
  frame_complete = record {
    total = λ s ok. on_sure (each_presents frame f) (λ p.
        map_sure (answered_on s [] p.0 p.1) ((steps_complete s p.0 p.1).total s ok));
    resumes = λ s notes to ok d. map_sure (answered_on s notes d.inbound d.presents)
        ((steps_complete s d.inbound d.presents).resumes s notes to ok d.carried);
    stays = λ s notes r to h ok d. (steps_complete s d.inbound d.presents).stays s notes r to h ok d.carried;
  }

-- the state's reading has a text
abbrev pub IsOnTime : ConnectionSeen → Type 0
IsOnTime l = IsTimely l.state

module _ (id : Identity) (valid : IsValidIdentity id) where
  -- a frame as far as it is known, and then those of the bytes after it
  frame_onward : (s : State) (from after : UnreadBytes) (frame : List ℕ) (notes : List Note) →
      GivesFrame from after frame → ((mid : State) → IsTimely mid →
      CanNotFail (Onward IsOnTime (AnswerFrames id) (connection_seen mid after) [])) →
      Onward IsTimely (λ s. AnswerFrame id s frame) s notes →
      CanNotFail (Onward IsOnTime (AnswerFrames id) (connection_seen s from) notes)
  frame_onward s from after frame notes gives total g = by-answer g.r g.to g.good g.whole g.no_want
    where
      by-answer : (r : Result ⊤ Ending) (to : State) → IsTimely to → AnswerFrame id s frame (notes ++ g.more) r to →
          r ≢ Err ending.OutOfMemory → CanNotFail (Onward IsOnTime (AnswerFrames id) (connection_seen s from) notes)
      by-answer (Err e) to ok d n = sure
          (record {
            more = g.more;
            faultless = g.faultless;
            r = Err e;
            to = connection_seen to after;
            good = ok;
            whole = turn.ends frame gives d;
            no_want = n;
          })
      by-answer (Ok x) to ok d n = map_sure (λ t. record {
        more = g.more ++ t.more;
        faultless = faultless-append g.more t.more g.faultless t.faultless;
        r = t.r;
        to = t.to;
        good = t.good;
        whole = subst (λ l. AnswerFrames id (connection_seen s from) l t.r t.to) (append_assoc notes g.more t.more)
            (turn.goes frame gives d t.whole);
        no_want = t.no_want;
      }) (total to ok)

  -- what stands next in the bytes, where the frames of fewer bytes are known
  next_onward : (s : State) (from : UnreadBytes) → IsTimely s →
      ((mid : State) (b : UnreadBytes) → length b.bytes < length from.bytes → IsTimely mid →
      CanNotFail (Onward IsOnTime (AnswerFrames id) (connection_seen mid b) [])) → Next from →
      CanNotFail (Onward IsOnTime (AnswerFrames id) (connection_seen s from) [])
  next_onward s from ok fewer (none_next b gives) =
      sure (onward_ok IsOnTime (AnswerFrames id) (connection_seen s from) [] [] (connection_seen s b) tt ok
      (turn.no_more gives))
  next_onward s from ok fewer (frame_next b frame gives) =
      on_sure ((frame_complete id frame valid gives.frame_there.is.1).total s ok) (frame_onward s from b frame [] gives
      (λ mid timely. fewer mid b (frame_shortens from b frame gives) timely))

  -- the frames of fewer bytes than that
  frames_few : (n : ℕ) (s : State) (from : UnreadBytes) → length from.bytes < n → IsTimely s →
      CanNotFail (Onward IsOnTime (AnswerFrames id) (connection_seen s from) [])
  frames_few zero s from few ok = absurd (omega arith)
  frames_few (suc n) s from few ok = on_sure (each_next from) (next_onward s from ok
      (λ mid b less timely. frames_few n mid b (omega arith) timely))

  frames_total : (s : State) (from : UnreadBytes) → IsTimely s →
      CanNotFail (Onward IsOnTime (AnswerFrames id) (connection_seen s from) [])
  frames_total s from ok = frames_few (suc (length from.bytes)) s from (omega arith) ok

  frames_stay : (l : ConnectionSeen) (notes : List Note) (r : Result ⊤ Ending) (to : ConnectionSeen) →
      settles_of r ≡ true → IsOnTime l → AnswerFrames id l notes r to → IsOnTime to
  frames_stay l notes r to h ok (turn.no_more gives) = ok
  frames_stay l notes r to h ok (turn.ends {s = s} {s' = s'} {e = e} frame gives k) =
      (frame_complete id frame valid gives.frame_there.is.1).stays s notes (Err e) s' h ok k
  frames_stay l notes r to h ok (turn.goes {s = s} {mid = mid} {b = b} {first = first} {more = more} frame gives k others) =
      frames_stay (connection_seen mid b) more r to h
      ((frame_complete id frame valid gives.frame_there.is.1).stays s first (Ok tt) mid refl ok k) others

  frames_resume : (l : ConnectionSeen) (notes : List Note) (to : ConnectionSeen) → IsOnTime l →
      AnswerFrames id l notes (Err ending.OutOfMemory) to → CanNotFail (Onward IsOnTime (AnswerFrames id) l notes)
  frames_resume l notes to ok (turn.ends {s = s} {s' = s'} {a = from} {b = b} frame gives h) =
      on_sure ((frame_complete id frame valid gives.frame_there.is.1).resumes s notes s' ok h)
      (frame_onward s from b frame notes gives (λ mid timely. frames_total mid b timely))
  frames_resume l notes to ok (turn.goes {s = s} {mid = mid} {a = from} {b = b} {first = first} {more = more} frame gives h
      k) =
      map_sure (onward_after IsOnTime (AnswerFrames id) (AnswerFrames id) (connection_seen s from) (connection_seen mid b)
      first more (λ rest r end d. turn.goes frame gives h d))
      (frames_resume (connection_seen mid b) more to
      ((frame_complete id frame valid gives.frame_there.is.1).stays s first (Ok tt) mid refl ok h) k)

-- ---- a turn

module _ (id : Identity) (valid : IsValidIdentity id) where
  -- these bytes came, and their frames as far as they are known
  heard_on : (l : ConnectionSeen) (b : List ℕ) (notes : List Note) → 0 < length b → length b ≤ 65536 →
      Onward IsOnTime (AnswerFrames id) (connection_seen l.state (fed l.unread b)) notes →
      Onward IsOnTime (ReadFrames id) l (Did (act.Read b) ∷ notes)
  heard_on l b notes some fits = onward_as IsOnTime IsOnTime (AnswerFrames id) (ReadFrames id)
      (connection_seen l.state (fed l.unread b)) l notes (Did (act.Read b) ∷ notes) (λ to. to) (λ to ok. ok)
      (λ more r to d. turn.bytes b some fits (turn.fed_frames d))

  nothing_read : (l : ConnectionSeen) → IsOnTime l → Onward IsOnTime (ReadFrames id) l []
  nothing_read l ok = onward_ok IsOnTime (ReadFrames id) l [] (Did act.Idle ∷ []) l tt ok turn.idle

  read_resumes : (l : ConnectionSeen) (notes : List Note) (to : ConnectionSeen) → IsOnTime l →
      ReadFrames id l notes (Err ending.OutOfMemory) to → CanNotFail (Onward IsOnTime (ReadFrames id) l notes)
  read_resumes l notes to ok (turn.bytes {more = more} b some fits (turn.fed_frames d)) =
      map_sure (heard_on l b more some fits) (frames_resume id valid (connection_seen l.state (fed l.unread b)) more to ok d)
  read_resumes l notes to ok (turn.bytes b some fits turn.fed_memory) =
      map_sure (heard_on l b [] some fits) (frames_total id valid l.state (fed l.unread b) ok)
  read_resumes l notes to ok turn.read_memory = sure (nothing_read l ok)

  read_stays : (l : ConnectionSeen) (notes : List Note) (r : Result ⊤ Ending) (to : ConnectionSeen) →
      settles_of r ≡ true → IsOnTime l → ReadFrames id l notes r to → IsOnTime to
  read_stays l notes r to h ok (turn.bytes {more = more} b some fits (turn.fed_frames d)) =
      frames_stay id valid (connection_seen l.state (fed l.unread b)) more r to h ok d
  read_stays l notes r to h ok (turn.bytes b some fits turn.fed_memory) = ok
  read_stays l notes r to h ok turn.idle = ok
  read_stays l notes r to h ok turn.over = ok
  read_stays l notes r to h ok turn.read_lost = ok
  read_stays l notes r to h ok turn.read_memory = ok

  pub read_complete : IsComplete IsOnTime (ReadFrames id)
  read_complete = record { total = λ l ok. sure (nothing_read l ok); resumes = read_resumes; stays = read_stays }

clock_goes : (l : ConnectionSeen) → Onward IsOnTime ReadClock l []
clock_goes l = onward_ok IsOnTime ReadClock l [] (Did (act.Now 0) ∷ []) _ tt (omega arith) (turn.now 0)

clock_resumes : (l : ConnectionSeen) (notes : List Note) (to : ConnectionSeen) → IsOnTime l →
    ReadClock l notes (Err ending.OutOfMemory) to → CanNotFail (Onward IsOnTime ReadClock l notes)
clock_resumes l notes to ok turn.now_memory = sure (clock_goes l)

clock_stays : (l : ConnectionSeen) (notes : List Note) (r : Result ⊤ Ending) (to : ConnectionSeen) →
    settles_of r ≡ true → IsOnTime l → ReadClock l notes r to → IsOnTime to
clock_stays l notes r to h ok (turn.now t) = omega arith
clock_stays l notes r to h ok turn.now_memory = ok

pub clock_complete : IsComplete IsOnTime ReadClock
clock_complete = record { total = λ l ok. sure (clock_goes l); resumes = clock_resumes; stays = clock_stays }
