-- Why a connection was closed shows in the frames that were answered on it, and in the acts.
use Rattle.std.proofs.Common.{◌≡◌, ℕ, List, [], ◌∷◌, ◌++◌, Bool, true, false, Option, Some, None, Err, refl, sym, subst}
use Rattle.std.specs.Prelude.{if◌then◌else◌, not, ◌&&◌, codes, is_none}
use Rattle.fix_base.specs.declared.identity.Identity.{Identity}
use Rattle.fix_base.specs.declared.act.Act.{Act}
use Rattle.fix_base.specs.declared.act.Act.TheVariants as act
use Rattle.fix_base.specs.Lists.{Among, here, there}
use Rattle.fix_base.specs.Trace.{Note, acts_of}
use Rattle.fix_base.proofs.SeenLemmas.{acts_of-append}
use Rattle.fix_engine.specs.State.{State, Phase, Down, AwaitLogon, Up, Ending, Say, PeerEnd, LoggedOut, Refused}
use Rattle.fix_engine.specs.State.{NotLogon}
use Rattle.fix_engine.specs.declared.state.Step.TheVariants as step
use Rattle.fix_engine.specs.declared.stop.RunEnd.{RunEnd}
use Rattle.fix_engine.specs.declared.stop.RunEnd.TheVariants as run
use Rattle.fix_engine.specs.Fold.{Each, ends, goes}
use Rattle.fix_engine.specs.Inbound.{InboundSeen, IsInbound}
use Rattle.fix_engine.specs.Answer.{Performed, close, give_up, hand_lost, hand_memory, spent, keep_memory, keep_lost}
use Rattle.fix_engine.specs.Answer.{write_lost, write_memory, AnswerFrame, answer_in, logon_answer, logon_steps}
use Rattle.fix_engine.specs.Answer.{logout_answer, app_answer, not_built, refused, first_answer, up_answer, names}
use Rattle.fix_engine.specs.Answer.{is_in_order, is_app_type, number_or_0}
use Rattle.fix_engine.specs.Faults.{run_end}
use Rattle.fix_engine.specs.LookBack.{state_at, IsLast, IsLogout, IsNoLogon, IsOfNumber, IsShown}

-- what stands in a list stands in a longer one
pub among_before : {A : Type 0} (x : A) (xs ys : List A) → Among x xs → Among x (xs ++ ys)
among_before x xs ys here = here
among_before x xs ys (there {xs = more} a) = there (among_before x more ys a)

pub among_behind : {A : Type 0} (x : A) (xs ys : List A) → Among x ys → Among x (xs ++ ys)
among_behind x [] ys a = a
among_behind x (y ∷ xs) ys a = there (among_behind x xs ys a)

-- more acts hide nothing
shown_in : (r : RunEnd) (answered : List (List ℕ)) (xs ys : List Act) → (Among act.Ended xs → Among act.Ended ys) →
    IsShown r answered xs → IsShown r answered ys
shown_in (run.Closed PeerEnd) answered xs ys still h = still h
shown_in (run.Closed (LoggedOut n)) answered xs ys still h = h
shown_in (run.Closed (Refused n NotLogon)) answered xs ys still h = h
shown_in (run.NotBuilt n) answered xs ys still h = h
shown_in run.TurnsSpent answered xs ys still h = tt
shown_in run.StoreFault answered xs ys still h = tt
shown_in run.LinkFault answered xs ys still h = tt
shown_in run.AppFault answered xs ys still h = tt
shown_in run.NumbersSpent answered xs ys still h = tt
shown_in run.OutOfMemory answered xs ys still h = tt
shown_in (run.Stopped cause) answered xs ys still h = tt

pub shown_behind : (r : RunEnd) (answered : List (List ℕ)) (xs ys : List Note) → IsShown r answered (acts_of ys) →
    IsShown r answered (acts_of (xs ++ ys))
shown_behind r answered xs ys h = shown_in r answered (acts_of ys) (acts_of (xs ++ ys))
    (λ a. subst (Among act.Ended) (sym (acts_of-append xs ys)) (among_behind act.Ended (acts_of xs) (acts_of ys) a)) h

pub shown_before : (r : RunEnd) (answered : List (List ℕ)) (xs ys : List Note) → IsShown r answered (acts_of xs) →
    IsShown r answered (acts_of (xs ++ ys))
shown_before r answered xs ys h = shown_in r answered (acts_of xs) (acts_of (xs ++ ys))
    (λ a. subst (Among act.Ended) (sym (acts_of-append xs ys)) (among_before act.Ended (acts_of xs) (acts_of ys) a)) h

-- ---- what ends an answer

-- a case of a test, with its answer
by-test : {A : Type 0} (P : A → Type 0) (t : Bool) (x y : A) → (t ≡ true → P x) → (t ≡ false → P y) →
    P (if t then x else y)
by-test P true x y h k = h refl
by-test P false x y h k = k refl

and_left : (a b : Bool) → (a && b) ≡ true → a ≡ true
and_left true b h = refl
and_left false b h = cc

and_right : (a b : Bool) → (a && b) ≡ true → b ≡ true
and_right true b h = h
and_right false b h = cc

not_false : (a : Bool) → not a ≡ false → a ≡ true
not_false true h = refl
not_false false h = cc

not_true : (a : Bool) → not a ≡ true → a ≡ false
not_true true h = cc
not_true false h = refl

module _ (id : Identity) (frame : List ℕ) (answered : List (List ℕ)) (acts : List Act) where
  send_shown : (s s' : State) (say : Say) (n : Option ℕ) (notes : List Note) (e : Ending) →
      Performed id frame s (step.Send say n) notes (Err e) s' → IsShown (run_end (Err e)) answered acts
  send_shown s s' say n notes e (spent say' n' h) = tt
  send_shown s s' say n notes e (keep_memory say' n' h) = tt
  send_shown s s' say n notes e (keep_lost say' n' h) = tt
  send_shown s s' say n notes e (write_lost say' n' text k h is) = tt
  send_shown s s' say n notes e (write_memory say' n' h) = tt

  not_built_shown : (s s' : State) (i : InboundSeen) (notes : List Note) (e : Ending) →
      IsLast (IsOfNumber (number_or_0 i.header.number)) answered →
      Each (Performed id frame) s (not_built i) notes (Err e) s' → IsShown (run_end (Err e)) answered acts
  not_built_shown s s' i notes e is (ends (give_up n)) = is
  not_built_shown s s' i notes e is (goes d k) = elim d [ ]

  refused_shown : (s s' : State) (i : InboundSeen) (notes : List Note) (e : Ending) → (f : List ℕ) × (answered ≡ f ∷ []) ×
      IsNoLogon (number_or_0 i.header.number) f → Each (Performed id frame) s (refused i) notes (Err e) s' →
      IsShown (run_end (Err e)) answered acts
  refused_shown s s' i notes e is (ends (close why)) = is
  refused_shown s s' i notes e is (goes d k) = elim d [ ]

  logon_shown : (s s' : State) (n heart : ℕ) (notes : List Note) (e : Ending) →
      Each (Performed id frame) s (logon_steps n heart) notes (Err e) s' → IsShown (run_end (Err e)) answered acts
  logon_shown s s' n heart notes e (ends d) = send_shown _ _ _ _ _ e d
  logon_shown s s' n heart notes e (goes a (ends d)) = elim d [ ]
  logon_shown s s' n heart notes e (goes a (goes b (ends d))) = elim d [ ]
  logon_shown s s' n heart notes e (goes a (goes b (goes c (ends d)))) = elim d [ ]
  logon_shown s s' n heart notes e (goes a (goes b (goes c (goes f d)))) = elim d [ ]

  logout_shown : (s s' : State) (n : ℕ) (notes : List Note) (e : Ending) → IsLast (IsLogout n) answered →
      Each (Performed id frame) s (logout_answer n) notes (Err e) s' → IsShown (run_end (Err e)) answered acts
  logout_shown s s' n notes e is (ends d) = elim d [ ]
  logout_shown s s' n notes e is (goes a (ends d)) = send_shown _ _ _ _ _ e d
  logout_shown s s' n notes e is (goes a (goes b (ends (close why)))) = is
  logout_shown s s' n notes e is (goes a (goes b (goes c d))) = elim c [ ]

  app_shown : (s s' : State) (n : ℕ) (notes : List Note) (e : Ending) →
      Each (Performed id frame) s (app_answer n) notes (Err e) s' → IsShown (run_end (Err e)) answered acts
  app_shown s s' n notes e (ends (hand_lost m marked fields has)) = tt
  app_shown s s' n notes e (ends (hand_memory m marked)) = tt
  app_shown s s' n notes e (goes a (ends d)) = elim d [ ]
  app_shown s s' n notes e (goes a (goes b (ends d))) = elim d [ ]
  app_shown s s' n notes e (goes a (goes b (goes c (ends d)))) = elim d [ ]
  app_shown s s' n notes e (goes a (goes b (goes c (goes f d)))) = elim d [ ]

-- why a frame ended the run
module _ (id : Identity) (frame : List ℕ) (i : InboundSeen) (p : IsInbound frame i) where
  of_number : (answered : List (List ℕ)) → IsLast (IsOfNumber (number_or_0 i.header.number)) (answered ++ frame ∷ [])
  of_number answered = record {
    before = answered;
    frame = frame;
    are = refl;
    is = record { inbound = i; presents = p; number = refl };
  }

  logon_or_not : (s s' : State) (heart : Option ℕ) (acts : List Act) (notes : List Note) (e : Ending) →
      Each (Performed id frame) s (logon_answer s.expected heart i) notes (Err e) s' →
      IsShown (run_end (Err e)) (frame ∷ []) acts
  logon_or_not s s' None acts notes e d = not_built_shown id frame (frame ∷ []) acts s s' i notes e (of_number []) d
  logon_or_not s s' (Some heart) acts notes e d = logon_shown id frame (frame ∷ []) acts s s' s.expected heart notes e d

  first_shown : (s s' : State) (acts : List Act) (notes : List Note) (e : Ending) →
      Each (Performed id frame) s (first_answer id s i) notes (Err e) s' → IsShown (run_end (Err e)) (frame ∷ []) acts
  first_shown s s' acts notes e =
      by-test (λ steps. Each (Performed id frame) s steps notes (Err e) s' →
      IsShown (run_end (Err e)) (frame ∷ []) acts) (not (names i.header.type (codes "A"))) (refused i) _
      (λ t d. refused_shown id frame (frame ∷ []) acts s s' i notes e
      (frame, refl, record { inbound = i; presents = p; type = not_true _ t; number = refl }) d)
      (λ f. by-test (λ steps. Each (Performed id frame) s steps notes (Err e) s' →
      IsShown (run_end (Err e)) (frame ∷ []) acts) (is_in_order id s i) (logon_answer s.expected i.heart i)
      (not_built i)
      (λ t d. logon_or_not s s' i.heart acts notes e d)
      (λ f d. not_built_shown id frame (frame ∷ []) acts s s' i notes e (of_number []) d))

  up_shown : (answered : List (List ℕ)) (s s' : State) (acts : List Act) (notes : List Note) (e : Ending) →
      Each (Performed id frame) s (up_answer id s i) notes (Err e) s' →
      IsShown (run_end (Err e)) (answered ++ frame ∷ []) acts
  up_shown answered s s' acts notes e =
      by-test (λ steps. Each (Performed id frame) s steps notes (Err e) s' →
      IsShown (run_end (Err e)) (answered ++ frame ∷ []) acts)
      (not (is_in_order id s i && is_none i.header.poss_dup)) (not_built i) _
      (λ t d. not_built_shown id frame (answered ++ frame ∷ []) acts s s' i notes e (of_number answered) d)
      (λ f. by-test (λ steps. Each (Performed id frame) s steps notes (Err e) s' →
      IsShown (run_end (Err e)) (answered ++ frame ∷ []) acts) (names i.header.type (codes "5"))
      (logout_answer s.expected) _
      (λ t d. logout_shown id frame (answered ++ frame ∷ []) acts s s' s.expected notes e
      (record {
        before = answered;
        frame = frame;
        are = refl;
        is = record {
          inbound = i;
          presents = p;
          type = t;
          number = and_left _ _ (and_right _ _ (and_left _ _ (not_false _ f)));
        };
      }) d)
      (λ f. by-test (λ steps. Each (Performed id frame) s steps notes (Err e) s' →
      IsShown (run_end (Err e)) (answered ++ frame ∷ []) acts) (is_app_type i.header.type) (app_answer s.expected)
      (not_built i)
      (λ t d. app_shown id frame (answered ++ frame ∷ []) acts s s' s.expected notes e d)
      (λ f d. not_built_shown id frame (answered ++ frame ∷ []) acts s s' i notes e (of_number answered) d)))

pub frame_shown : (id : Identity) (start : State) (answered : List (List ℕ)) (before acts : List Act) (frame : List ℕ)
    (notes : List Note) (e : Ending) (s' : State) →
    AnswerFrame id (state_at start answered before) frame notes (Err e) s' →
    IsShown (run_end (Err e)) (answered ++ frame ∷ []) acts
frame_shown id start [] before acts frame notes e s' h =
    first_shown id frame h.inbound h.presents (state_at start [] before) s' acts notes e h.carried
frame_shown id start (a ∷ answered) before acts frame notes e s' h =
    up_shown id frame h.inbound h.presents (a ∷ answered) (state_at start (a ∷ answered) before) s' acts notes e
    h.carried

-- ---- no frame is the end of the connection

-- neither in this phase nor in another
no_peer_end : (id : Identity) (frame : List ℕ) (phase : Phase) (s s' : State) (i : InboundSeen) (notes : List Note)
    (e : Ending) → IsInbound frame i → Each (Performed id frame) s (answer_in phase id s i) notes (Err e) s' →
    IsShown (run_end (Err e)) (frame ∷ []) []
no_peer_end id frame AwaitLogon s s' i notes e p d = first_shown id frame i p s s' [] notes e d
no_peer_end id frame Up s s' i notes e p d = up_shown id frame i p [] s s' [] notes e d
no_peer_end id frame Down s s' i notes e p (ends d) = elim d [ ]
no_peer_end id frame Down s s' i notes e p (goes a (ends d)) = elim d [ ]
no_peer_end id frame Down s s' i notes e p (goes a (goes b (ends d))) = elim d [ ]
no_peer_end id frame Down s s' i notes e p (goes a (goes b (goes c (ends d)))) = elim d [ ]
no_peer_end id frame Down s s' i notes e p (goes a (goes b (goes c (goes f d)))) = elim d [ ]

nothing_among : Among act.Ended [] → ⊥
nothing_among a = elim a [ ]

pub frame_not_over : (id : Identity) (frame : List ℕ) (s s' : State) (notes : List Note) (e : Ending) →
    AnswerFrame id s frame notes (Err e) s' → run_end (Err e) ≡ run.Closed PeerEnd → ⊥
frame_not_over id frame s s' notes e h over =
    nothing_among (subst (λ r. IsShown r (frame ∷ []) []) over
    (no_peer_end id frame s.phase s s' h.inbound notes e h.presents h.carried))
