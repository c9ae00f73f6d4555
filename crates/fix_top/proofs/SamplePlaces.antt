-- The places of the sample session: before each of its three messages.
use Rattle.std.proofs.Common.{◌≡◌, ℕ, ◌+◌, ◌*◌, ◌≤◌, ◌-◌, List, [], ◌∷◌, ◌++◌, length, Result, Ok, Err, sym, ap, ◌∙◌, append_assoc, false, arith}
use Rattle.std.specs.Prelude.{⊤}
use Rattle.std.proofs.lemmas.List.{append-nil, length-append}
use Rattle.fix_base.specs.declared.act.Act.{Act}
use Rattle.fix_base.specs.declared.act.Act.TheVariants as act
use Rattle.fix_base.specs.Says.{joined}
use Rattle.fix_base.specs.Trace.{Note, acts_of}
use Rattle.fix_engine.specs.InStep.{bytes_written}
use Rattle.fix_engine.specs.declared.state.State.{State}
use Rattle.fix_engine.specs.declared.state.Phase.{Phase}
use Rattle.fix_engine.specs.declared.state.Phase.TheVariants.{AwaitLogon, Up}
use Rattle.fix_engine.specs.declared.state.Why.TheVariants.{LoggedOut}
use Rattle.fix_engine.specs.declared.state.Ending.{Ending}
use Rattle.fix_engine.specs.declared.state.Ending.TheVariants as ending
use Rattle.fix_top.specs.Sample.{SAMPLE_TIME, LOGON, ORDER, LOGOUT, LOGON_ANSWER, LOGOUT_ANSWER, BODY, HasRooms, handed_in}
use Rattle.fix_top.proofs.SampleReads.{Tells, tells-append}
use Rattle.fix_top.proofs.SampleRooms.{lines_in, lines_in-append, store_left, Leaves, leaves_then, rooms_first, rooms_then}

pub data Place : Type 0 where
  AtLogon : Place
  AtOrder : Place
  AtLogout : Place

-- the message there
abbrev pub text_at : Place → List ℕ
text_at AtLogon = LOGON
text_at AtOrder = ORDER
text_at AtLogout = LOGOUT

-- what is behind it
abbrev pub rest_at : Place → List ℕ
rest_at AtLogon = joined (ORDER ∷ LOGOUT ∷ [])
rest_at AtOrder = joined (LOGOUT ∷ [])
rest_at AtLogout = []

-- what is to be written from there on
abbrev pub written_at : Place → List ℕ
written_at AtLogon = LOGON_ANSWER ++ LOGOUT_ANSWER
written_at AtOrder = LOGOUT_ANSWER
written_at AtLogout = LOGOUT_ANSWER

-- what is to be handed over
abbrev pub handed_at : Place → List Act
handed_at AtLogon = act.Handed 2 false BODY ∷ []
handed_at AtOrder = act.Handed 2 false BODY ∷ []
handed_at AtLogout = []

abbrev pub phase_at : Place → Phase
phase_at AtLogon = AwaitLogon
phase_at AtOrder = Up
phase_at AtLogout = Up

abbrev pub expected_at : Place → ℕ
expected_at AtLogon = 1
expected_at AtOrder = 2
expected_at AtLogout = 3

abbrev pub last_at : Place → ℕ
last_at AtLogon = 0
last_at AtOrder = 1
last_at AtLogout = 1

-- how much the entries of what is to be said take in the store
abbrev pub said_at : Place → ℕ
said_at AtLogon = 38
said_at AtOrder = 19
said_at AtLogout = 19

-- the state there, whichever number is kept
pub record IsAt (p : Place) (s : State) : Type 0 where
  pub phase : s.phase ≡ phase_at p
  pub expected : s.expected ≡ expected_at p
  pub low : s.stored_expected ≤ expected_at p
  pub last : s.last ≡ last_at p
  pub reading : s.reading ≡ SAMPLE_TIME

-- so many bytes are to be kept of what is said, and ten for each number that may be expected yet: the last is 4
abbrev pub to_keep : ℕ → State → ℕ
to_keep said s = said + 10 * (4 - s.stored_expected)

-- what comes of a part of the run that begins there, in this state, and ends in that: want of memory; that it goes on at
-- some place with P; or that the Logout was answered, and all is written and handed over. The store has room for the rest
pub data Came (p : Place) (s : State) (notes : List Note) (P : Place → Type 0) (to : State) : Result ⊤ Ending → Type 0 where
  no_memory : Came p s notes P to (Err ending.OutOfMemory)
  on : (q : Place) → P q → (w : List ℕ) (h : List Act) → Tells notes w h → w ++ written_at q ≡ written_at p → h ++ handed_at q ≡ handed_at p → Leaves notes (to_keep (said_at p) s) (to_keep (said_at q) to) → Came p s notes P to (Ok tt)
  over : (n : ℕ) → Tells notes (written_at p) (handed_at p) → to.expected ≡ 4 → to.stored_expected ≤ 4 → Leaves notes (to_keep (said_at p) s) (to_keep 0 to) → Came p s notes P to (Err (ending.Closed (LoggedOut n)))

-- the parts have room for what is to come from there on
pub record IsFit (p : Place) (s : State) (notes : List Note) : Type 0 where
  pub link : ℕ
  pub app : ℕ
  pub store : ℕ
  pub rooms : HasRooms link app store notes
  pub written : length (written_at p) ≤ link
  pub handed : length (lines_in (handed_at p)) ≤ app
  pub kept : to_keep (said_at p) s ≤ store

pub fit_first : (p : Place) (s : State) (xs ys : List Note) → IsFit p s (xs ++ ys) → IsFit p s xs
fit_first p s xs ys h = record { link = h.link; app = h.app; store = h.store; rooms = rooms_first xs ys h.link h.app h.store h.rooms; written = h.written; handed = h.handed; kept = h.kept }

-- room that is left
left_for : (room : ℕ) (text more whole told : List ℕ) → told ≡ text → text ++ more ≡ whole → length whole ≤ room → length more ≤ room - length told
left_for room text more whole told same e h = omega (arith, ap length same, ap length e, length-append text more)

fit_then : (p q : Place) (s mid : State) (xs ys : List Note) (w : List ℕ) (h : List Act) → Tells xs w h → w ++ written_at q ≡ written_at p → h ++ handed_at q ≡ handed_at p → Leaves xs (to_keep (said_at p) s) (to_keep (said_at q) mid) → IsFit p s (xs ++ ys) → IsFit q mid ys
fit_then p q s mid xs ys w h t e f leaves fit = record {
  link = fit.link - length (bytes_written (acts_of xs));
  app = fit.app - length (lines_in (handed_in (acts_of xs)));
  store = store_left fit.store xs;
  rooms = rooms_then xs ys fit.link fit.app fit.store fit.rooms;
  written = left_for fit.link w (written_at q) (written_at p) (bytes_written (acts_of xs)) t.wrote e fit.written;
  handed = left_for fit.app (lines_in h) (lines_in (handed_at q)) (lines_in (handed_at p)) (lines_in (handed_in (acts_of xs))) (ap lines_in t.gave) (sym (lines_in-append h (handed_at q)) ∙ ap lines_in f) fit.handed;
  kept = leaves fit.store fit.kept;
}

-- one part, which went on there, and another
came_then : (p q : Place) (s mid to : State) (xs ys : List Note) (P : Place → Type 0) (r : Result ⊤ Ending) (v : List ℕ) (g : List Act) → Tells xs v g → v ++ written_at q ≡ written_at p → g ++ handed_at q ≡ handed_at p → Leaves xs (to_keep (said_at p) s) (to_keep (said_at q) mid) → Came q mid ys P to r → Came p s (xs ++ ys) P to r
came_then p q s mid to xs ys P r v g t e f leaves no_memory = no_memory
came_then p q s mid to xs ys P r v g t e f leaves (on z h w k u d c more) =
    on z h (v ++ w) (g ++ k) (tells-append xs ys v w g k t u) (append_assoc v w (written_at z) ∙ ap (λ (a : List ℕ). v ++ a) d ∙ e) (append_assoc g k (handed_at z) ∙ ap (λ (a : List Act). g ++ a) c ∙ f)
    (leaves_then xs ys (to_keep (said_at p) s) (to_keep (said_at q) mid) (to_keep (said_at z) to) leaves more)
came_then p q s mid to xs ys P r v g t e f leaves (over n u four low more) =
    let both = tells-append xs ys v (written_at q) g (handed_at q) t u in
    over n (record { wrote = both.wrote ∙ e; gave = both.gave ∙ f }) four low (leaves_then xs ys (to_keep (said_at p) s) (to_keep (said_at q) mid) (to_keep 0 to) leaves more)

-- one part, and where it went on another
pub came_bind : (p : Place) (s mid to : State) (xs ys : List Note) (P Q : Place → Type 0) (r : Result ⊤ Ending) → IsFit p s (xs ++ ys) → ((q : Place) → P q → IsFit q mid ys → Came q mid ys Q to r) → Came p s xs P mid (Ok tt) → Came p s (xs ++ ys) Q to r
came_bind p s mid to xs ys P Q r fit k (on q h w g t e f leaves) = came_then p q s mid to xs ys Q r w g t e f leaves (k q h (fit_then p q s mid xs ys w g t e f leaves fit))

pub came_map : (p : Place) (s to : State) (notes : List Note) (P Q : Place → Type 0) (r : Result ⊤ Ending) → ((q : Place) → P q → Q q) → Came p s notes P to r → Came p s notes Q to r
came_map p s to notes P Q r f no_memory = no_memory
came_map p s to notes P Q r f (on q h w g t d c leaves) = on q (f q h) w g t d c leaves
came_map p s to notes P Q r f (over n t four low leaves) = over n t four low leaves

-- behind an end nothing is said of a place
pub came_err : (p : Place) (s to : State) (notes : List Note) (P Q : Place → Type 0) (e : Ending) → Came p s notes P to (Err e) → Came p s notes Q to (Err e)
came_err p s to notes P Q e no_memory = no_memory
came_err p s to notes P Q e (over n t four low leaves) = over n t four low leaves

-- the expected number is at most 4 behind this, and the kept one is no greater
pub record IsLow (s : State) : Type 0 where
  pub kept : s.stored_expected ≤ s.expected
  pub expected : s.expected ≤ 4

pub low_at : (p : Place) (s : State) → IsAt p s → IsLow s
low_at AtLogon s at = record { kept = omega (arith, at.expected, at.low); expected = omega (arith, at.expected) }
low_at AtOrder s at = record { kept = omega (arith, at.expected, at.low); expected = omega (arith, at.expected) }
low_at AtLogout s at = record { kept = omega (arith, at.expected, at.low); expected = omega (arith, at.expected) }

-- what writes nothing, hands nothing over, and takes only the room for expected numbers
pub record IsSilent (s : State) (notes : List Note) (to : State) : Type 0 where
  pub tells : Tells notes [] []
  pub expected : to.expected ≡ s.expected
  pub low : to.stored_expected ≤ 4
  pub leaves : (said : ℕ) → Leaves notes (to_keep said s) (to_keep said to)

-- one part, and behind it something quiet
pub came_quiet : (p : Place) (s mid to : State) (xs ys : List Note) (P Q : Place → Type 0) (r : Result ⊤ Ending) → (IsLow mid → IsSilent mid ys to) → ((q : Place) → P q → IsLow mid) → ((q : Place) → P q → Q q) → Came p s xs P mid r → Came p s (xs ++ ys) Q to r
came_quiet p s mid to xs ys P Q r quiet low f no_memory = no_memory
came_quiet p s mid to xs ys P Q r quiet low f (on q h v g u d c leaves) =
    let is = quiet (low q h) in
    let both = tells-append xs ys v [] g [] u is.tells in
    on q (f q h) v g (record { wrote = both.wrote ∙ append-nil v; gave = both.gave ∙ append-nil g }) d c (leaves_then xs ys (to_keep (said_at p) s) (to_keep (said_at q) mid) (to_keep (said_at q) to) leaves (is.leaves (said_at q)))
came_quiet p s mid to xs ys P Q r quiet low f (over n u four kept leaves) =
    let is = quiet (record { kept = omega (arith, four, kept); expected = omega (arith, four) }) in
    let both = tells-append xs ys (written_at p) [] (handed_at p) [] u is.tells in
    over n (record { wrote = both.wrote ∙ append-nil (written_at p); gave = both.gave ∙ append-nil (handed_at p) }) (is.expected ∙ four) is.low (leaves_then xs ys (to_keep (said_at p) s) (to_keep 0 mid) (to_keep 0 to) leaves (is.leaves 0))
