-- Each act and each move of a reader keeps its agreement with a persistent writer.
use Rattle.std.proofs.Common.{◌≡◌, ◌≢◌, ◌⊎◌, inl, inr, ℕ, ◌+◌, ◌<◌, ◌≤◌, ◌==◌, if◌then◌else◌, List, [], ◌∷◌, ◌++◌, length, take, drop, take-append-drop, Bool, true, false, Option, Some, None, refl, sym, ap, ◌∙◌, subst, append_assoc, le_refl, eq-or-lt_of_le, arith}
use Rattle.std.proofs.lemmas.Bool.{eqb-true}
use Rattle.std.proofs.lemmas.List.{append-nil}
use Rattle.std.proofs.Math.Seq.{drop-append_seam}
use Rattle.fix_base.specs.Lists.{Among, here, there, IsPrefixOf}
use Rattle.fix_base.specs.Message as message
use Rattle.fix_base.specs.Message.{Message, IsAdminNumbered}
use Rattle.fix_base.specs.End.{Entry, Record, Push, Expect, Many, Withhold, Reset, ResetAsk, Confirm, End, folded, expecting, IsAppAt, IsAdminAt, IsSkipped, admin, GrowsTo}
use Rattle.fix_base.specs.Act as act
use Rattle.fix_base.specs.Act.{Act}
use Rattle.fix_base.specs.Session.{Identity}
use Rattle.fix_base.specs.EndStep as steps
use Rattle.fix_base.specs.EndStep.{Handling, Connection, EndState, IsAsking, IsBlocked, WasRead, first_app, Pushed, Chain, Row, handled_with, Move}
use Rattle.fix_base.specs.Agrees as agrees
use Rattle.fix_base.specs.Agrees.{has_number, top, greatest, Agrees, KeepsUp}
use Rattle.fix_base.specs.Reader.{Follows}
use Rattle.fix_base.proofs.ListLemmas.{some_same, Among-append_right, prefix_refl, prefix_append, prefix_trans}
use Rattle.fix_base.proofs.WroteLemmas.{Means}
use Rattle.fix_base.proofs.HandledLemmas.{seen_after, seen_after-snoc, has_number-self, has_number-cons, greatest-append, Among-greatest, test}
use Rattle.fix_base.proofs.AgreesLemmas.{le_or_lt, Agrees-more, Agrees-past_handled, Agrees-past_skipped, Agrees-past_gap, Agrees-grow, settled_below}

-- ---- what a reader has passed of what it didn't handle

-- each number from the running one up to the top was handled, or is one that the writer could skip at
-- some earlier moment. So what comes with such a number and wasn't handled came before that moment
pub record IsBehind (old : End) (stored expected : ℕ) (handled : List Handling) : Type 0 where
  pub each : (n : ℕ) → 1 ≤ n → expected ≤ n → n < top stored handled → (has_number n (seen_after [] handled) ≡ true) ⊎ IsSkipped old n

abbrev pub KeepsBehind : End → EndState → Type 0
KeepsBehind old s = IsBehind old s.end.stored s.expected s.handled

-- the message of the running number is handled
behind_grows : {old : End} {stored expected : ℕ} {handled : List Handling} (h : Handling) → h.number ≡ expected → IsBehind old stored expected handled → IsBehind old stored expected (handled ++ h ∷ [])
behind_grows {old = old} {stored = stored} {expected = expected} {handled = handled} h at k =
    record { each = λ n some low high. elim (eq-or-lt_of_le low) [ inl e ↦ inl (first n (at ∙ e)) | inr lt ↦ later n some lt high ] }
  where
    first : (n : ℕ) → h.number ≡ n → has_number n (seen_after [] (handled ++ h ∷ [])) ≡ true
    first n e = subst (λ w. has_number n w ≡ true) (sym (seen_after-snoc [] handled h)) (subst (λ m. has_number n (m ∷ seen_after [] handled) ≡ true) (sym e) (has_number-self n (seen_after [] handled)))

    later : (n : ℕ) → 1 ≤ n → expected < n → n < top stored (handled ++ h ∷ []) → (has_number n (seen_after [] (handled ++ h ∷ [])) ≡ true) ⊎ IsSkipped old n
    later n some lt high =
        elim (k.each n some (omega (arith, lt)) (omega (arith, lt, high, at, greatest-append handled h))) [
          | inl was ↦ inl (subst (λ w. has_number n w ≡ true) (sym (seen_after-snoc [] handled h)) (has_number-cons n h.number (seen_after [] handled) was))
          | inr skip ↦ inr skip
        ]

-- the running number is kept
behind_expects : {old : End} {stored expected : ℕ} {handled : List Handling} → IsBehind old stored expected handled → IsBehind old expected expected handled
behind_expects {expected = expected} {handled = handled} k = record { each = λ n some low high. k.each n some low (omega (arith, low, high)) }

-- the running number rises
behind_passes : {old : End} {stored expected m : ℕ} {handled : List Handling} → expected ≤ m → IsBehind old stored expected handled → IsBehind old stored m handled
behind_passes le k = record { each = λ n some low high. k.each n some (omega (arith, le, low)) high }

-- at the opening of a connection by a reader that agrees with the writer as it was then
pub behind_starts : {old : End} {stored : ℕ} (expected : ℕ) {handled : List Handling} → Agrees stored handled old → IsBehind old stored expected handled
behind_starts expected a = record { each = λ n some low high. settled_below a some high }

-- ---- what a reader hears

-- what a frame means, seen from some earlier moment of the writer, up to which the reader has passed
-- only what the writer could skip then
pub record HasMeaning (s : EndState) (new : End) (x : Message) : Type 0 where
  pub old : End
  pub means : Means old new x
  pub behind : KeepsBehind old s

-- each frame read on the connection, where messages count, is one that the writer may write
pub record Hears (s : EndState) (f : End) : Type 0 where
  pub each : (IsBlocked s → ⊥) → (c : Connection) → s.connection ≡ Some c → (x : Message) → WasRead c x → HasMeaning s f x

-- what decides whether messages count
pub record SameBlock (s s' : EndState) : Type 0 where
  pub role : s'.role ≡ s.role
  pub asked : s'.end.asked ≡ s.end.asked
  pub connection : s'.connection ≡ s.connection

pub asking_same : (s s' : EndState) → s'.role ≡ s.role → s'.end.asked ≡ s.end.asked → IsAsking s → IsAsking s'
asking_same s s' role asked h = (role ∙ h.0, asked ∙ h.1)

blocked_same : {s s' : EndState} → SameBlock s s' → IsBlocked s → IsBlocked s'
blocked_same {s = s} {s' = s'} b (steps.asks h) = steps.asks (asking_same s s' b.role b.asked h)
blocked_same b (steps.waits c o kept begun) = steps.waits c (b.connection ∙ o) kept begun

-- the same later on the connection
hears_on : {s s' : EndState} {f : End} → SameBlock s s' → ((old : End) → KeepsBehind old s → KeepsBehind old s') → Hears s f → Hears s' f
hears_on b keep h = record { each = λ free c o x read. (let k = h.each (λ was. free (blocked_same b was)) c (sym b.connection ∙ o) x read in record { old = k.old; means = k.means; behind = keep k.old k.behind }) }

pub KeepsUp-more : {end : End} {expected : ℕ} {handled : List Handling} {doubt : Option Record} {beside : List Handling} {f more : End} → GrowsTo f more → KeepsUp end expected handled doubt beside f → KeepsUp end expected handled doubt beside more
KeepsUp-more p h = record { now = Agrees-more p h.now; running = λ e. Agrees-more p (h.running e); settled = λ r e. Agrees-more p (h.settled r e) }

-- with no doubt the settled states need nothing
certain_keeps_up : {end : End} {expected : ℕ} {handled : List Handling} {doubt : Option Record} {beside : List Handling} {f : End} → doubt ≡ None → Agrees end.stored handled f → Agrees expected handled f → KeepsUp end expected handled doubt beside f
certain_keeps_up none now running = record { now = now; running = λ e. running; settled = λ r e. cc }

-- in doubt both settled states need it
doubtful_keeps_up : {end : End} {expected : ℕ} {handled beside : List Handling} {f : End} (r : Record) → Agrees end.stored handled f → Agrees (folded end r).stored (handled_with handled beside r) f → KeepsUp end expected handled (Some r) beside f
doubtful_keeps_up {end = end} {handled = handled} {beside = beside} {f = f} r now settled =
    record { now = now; running = λ e. cc; settled = λ q e. subst (λ p. Agrees (folded end p).stored (handled_with handled beside p) f) (some_same r q e) settled }

-- an end agrees that was reset
pub Agrees-new : (f : End) → Agrees 1 [] f
Agrees-new f = record { below = []; rest = f.out; is = refl; many = refl; same = agrees.none }

-- this item's frame is among these, and has this number
abbrev StandsAmong : ℕ → List Message → Handling → Type 0
StandsAmong n xs h = Among (message.App h.number h.marked h.body) xs × (h.number ≡ n)

first_or_later : (n k : ℕ) (marked : Bool) (body : List ℕ) (xs : List Message) (h : Handling) (t : Bool) → (k == n) ≡ t → (first_app n xs ≡ Some h → StandsAmong n xs h) → (if t then Some (record { number = k; body = body; marked = marked; rejected = true }) else first_app n xs) ≡ Some h → StandsAmong n (message.App k marked body ∷ xs) h
first_or_later n k marked body xs h true at later e =
    let same : record { number = k; body = body; marked = marked; rejected = true } ≡ h = cc in
    subst (StandsAmong n (message.App k marked body ∷ xs)) same (here, eqb-true k n at)
first_or_later n k marked body xs h false at later e = let found = later e in (there found.0, found.1)

first_app_among : (n : ℕ) (xs : List Message) (h : Handling) → first_app n xs ≡ Some h → StandsAmong n xs h
first_app_among n [] h e = cc
first_app_among n (message.Admin k ∷ xs) h e = let later = first_app_among n xs h e in (there later.0, later.1)
first_app_among n (message.GapFill k m ∷ xs) h e = let later = first_app_among n xs h e in (there later.0, later.1)
first_app_among n (message.ResetTo k m ∷ xs) h e = let later = first_app_among n xs h e in (there later.0, later.1)
first_app_among n (message.App k marked body ∷ xs) h e = first_or_later n k marked body xs h (k == n) refl (first_app_among n xs h) e

-- the message of the expected number is handled
grows : (s : EndState) (f : End) (h : Handling) → s.doubt ≡ None → h.number ≡ s.expected → HasMeaning s f (message.App h.number h.marked h.body) → Follows s f → KeepsUp s.end s.expected (s.handled ++ h ∷ []) s.doubt s.beside f
grows s f h none at told k =
    let grown = Agrees-grow h at app (fits (le_or_lt (top s.end.stored s.handled) s.expected)) k.now (k.running none) in
    certain_keeps_up none grown.0 grown.1
  where
    app : IsAppAt f.out s.expected h.body
    app = subst (λ n. IsAppAt f.out n h.body) at told.means.0

    some : 1 ≤ s.expected
    some = omega (arith, app.entry.place)

    fits : (top s.end.stored s.handled ≤ s.expected) ⊎ (s.expected < top s.end.stored s.handled) → (has_number s.expected (seen_after [] s.handled) ≡ true) ⊎ (top s.end.stored s.handled ≤ s.expected)
    fits (inl high) = inr high
    fits (inr low) = elim (told.behind.each s.expected some (le_refl s.expected) low) [ inl seen ↦ inl seen | inr skip ↦ absurd (told.means.2 (subst (λ n. IsSkipped told.old n) (sym at) skip)) ]

Among-dropped : (n : ℕ) (hs : List Handling) {h : Handling} → Among h (drop n hs) → Among h hs
Among-dropped n hs {h = h} m = subst (λ w. Among h w) (take-append-drop n hs) (Among-append_right (take n hs) m)

past_admin_frame : (s : EndState) (f : End) (n : ℕ) (handled : List Handling) (x : Message) → HasMeaning s f x → IsAdminNumbered n x → Agrees n handled f → Agrees (n + 1) handled f
past_admin_frame s f n handled (message.App k marked body) told at a = absurd at
past_admin_frame s f n handled (message.Admin k) told at a = Agrees-past_skipped (admin (subst (λ j. IsAdminAt f.out j) at told.means)) a
past_admin_frame s f n handled (message.GapFill k m) told at a = Agrees-past_skipped (subst (λ j. IsSkipped f j) at (told.means.1.each k (le_refl k) told.means.0)) a
past_admin_frame s f n handled (message.ResetTo k m) told at a = absurd told.means

-- each move of a reader
pub move_follows : (s s' : EndState) (f : End) → Move s s' → Hears s f → Follows s f → Follows s' f
move_follows s s' f (steps.settles_without r e) hears k = record { now = k.now; running = λ n. k.now; settled = λ q n. cc }
move_follows s s' f (steps.settles_with r e) hears k = record { now = k.settled r e; running = λ n. k.settled r e; settled = λ q n. cc }
move_follows s s' f (steps.past_admin c x free o read at) hears k = record { now = k.now; running = λ n. past_admin_frame s f s.expected s.handled x (hears.each free c o x read) at (k.running n); settled = k.settled }
move_follows s s' f (steps.past_app c n marked body free o read at grew) hears k =
    let item = grew.item in
    let small = Among-greatest (Among-dropped c.base s.handled grew.among) in
    record { now = k.now; running = λ e. Agrees-past_handled (omega (arith, small, grew.is, at)) (k.running e); settled = k.settled }
move_follows s s' f (steps.past_gap c n m free o read at lt) hears k =
    let gap = (hears.each free c o (message.GapFill n m) read).means in
    record { now = k.now; running = λ e. Agrees-past_gap gap.0 gap.1 (subst (λ j. Agrees j s.handled f) (sym at) (k.running e)); settled = k.settled }
move_follows s s' f (steps.reset_to c n m free o read le) hears k = absurd (hears.each free c o (message.ResetTo n m) read).means

move_behind : {s s' : EndState} (old : End) → s.doubt ≡ None → Move s s' → KeepsBehind old s → KeepsBehind old s'
move_behind old none (steps.settles_without r e) k = cc
move_behind old none (steps.settles_with r e) k = cc
move_behind old none (steps.past_admin c x free o read at) k = behind_passes (omega arith) k
move_behind old none (steps.past_app c n marked body free o read at grew) k = behind_passes (omega arith) k
move_behind old none (steps.past_gap c n m free o read at lt) k = behind_passes (omega (arith, lt)) k
move_behind old none (steps.reset_to c n m free o read le) k = behind_passes le k

-- ---- an entry is kept

pushed_follows : (s s' : EndState) (e : Entry) (f : End) → s.doubt ≡ None → Pushed s e s' → Hears s f → Follows s f → Follows s' f
pushed_follows s s' e f none steps.adds hears k = certain_keeps_up none k.now (k.running none)
pushed_follows s s' e f none (steps.rejects h free rejects) hears k =
    let first = first_app_among s.expected rejects.messages h rejects.first in
    let told = hears.each free rejects.connection rejects.is_open (message.App h.number h.marked h.body) (record { messages = rejects.messages; shows = rejects.shows; among = first.0 }) in
    let grown = grows s f h none first.1 told k in
    certain_keeps_up none grown.now (grown.running none)

pushed_behind : {s s' : EndState} {e : Entry} (old : End) → Pushed s e s' → KeepsBehind old s → KeepsBehind old s'
pushed_behind old steps.adds k = record { each = k.each }
pushed_behind {s = s} old (steps.rejects h free rejects) k =
    let first = first_app_among s.expected rejects.messages h rejects.first in
    record { each = (behind_grows h first.1 k).each }

pub pushed_end : {s s' : EndState} {e : Entry} → Pushed s e s' → s'.end ≡ folded s.end (Push e)
pushed_end steps.adds = refl
pushed_end (steps.rejects h free r) = refl

pub pushed_connection : {s s' : EndState} {e : Entry} → Pushed s e s' → s'.connection ≡ s.connection
pushed_connection steps.adds = refl
pushed_connection (steps.rejects h free r) = refl

pub pushed_block : {s s' : EndState} {e : Entry} → Pushed s e s' → SameBlock s s'
pushed_block steps.adds = record { role = refl; asked = refl; connection = refl }
pushed_block (steps.rejects h free r) = record { role = refl; asked = refl; connection = refl }

pub pushed_doubt : {s s' : EndState} {e : Entry} → Pushed s e s' → s'.doubt ≡ s.doubt
pushed_doubt steps.adds = refl
pushed_doubt (steps.rejects h free r) = refl

-- ---- a chain of entries, moves and an expected number

-- what a step of a chain leaves as it is
record Stays (s s' : EndState) : Type 0 where
  block : SameBlock s s'
  certain : s'.doubt ≡ None
  connection : s'.connection ≡ s.connection
  handled : IsPrefixOf s.handled s'.handled

then_block : {a b c : EndState} → SameBlock a b → SameBlock b c → SameBlock a c
then_block p q = record { role = q.role ∙ p.role; asked = q.asked ∙ p.asked; connection = q.connection ∙ p.connection }

pushed_stays : {s s' : EndState} {e : Entry} → s.doubt ≡ None → Pushed s e s' → Stays s s'
pushed_stays {s = s} none steps.adds = record { block = record { role = refl; asked = refl; connection = refl }; certain = none; connection = refl; handled = prefix_refl s.handled }
pushed_stays {s = s} none (steps.rejects h free r) = record { block = record { role = refl; asked = refl; connection = refl }; certain = none; connection = refl; handled = prefix_append s.handled (h ∷ []) }

pass_stays : {s s' : EndState} → s.doubt ≡ None → Move s s' → Stays s s'
pass_stays none (steps.settles_without r e) = cc
pass_stays none (steps.settles_with r e) = cc
pass_stays {s = s} none (steps.past_admin c x free o read at) = record { block = record { role = refl; asked = refl; connection = refl }; certain = none; connection = refl; handled = prefix_refl s.handled }
pass_stays {s = s} none (steps.past_app c n marked body free o read at grew) = record { block = record { role = refl; asked = refl; connection = refl }; certain = none; connection = refl; handled = prefix_refl s.handled }
pass_stays {s = s} none (steps.past_gap c n m free o read at lt) = record { block = record { role = refl; asked = refl; connection = refl }; certain = none; connection = refl; handled = prefix_refl s.handled }
pass_stays {s = s} none (steps.reset_to c n m free o read le) = record { block = record { role = refl; asked = refl; connection = refl }; certain = none; connection = refl; handled = prefix_refl s.handled }

pass_end : {s s' : EndState} → s.doubt ≡ None → Move s s' → s'.end ≡ s.end
pass_end none (steps.settles_without r e) = cc
pass_end none (steps.settles_with r e) = cc
pass_end none (steps.past_admin c x free o read at) = refl
pass_end none (steps.past_app c n marked body free o read at grew) = refl
pass_end none (steps.past_gap c n m free o read at lt) = refl
pass_end none (steps.reset_to c n m free o read le) = refl

-- a reader keeps up over a chain
chain_follows : (f : End) {s s' : EndState} {pushes : List Entry} {n : ℕ} → Chain s pushes n s' → s.doubt ≡ None → Hears s f → Follows s f → Follows s' f
chain_follows f steps.ends none hears k = k
chain_follows f {s = s} (steps.expects n some at) none hears k = certain_keeps_up none (subst (λ m. Agrees m s.handled f) (sym at) (k.running none)) (k.running none)
chain_follows f {s = s} (steps.push {mid = mid} {e = e} one chain) none hears k = let t = pushed_stays none one in chain_follows f chain t.certain (hears_on t.block (λ old b. pushed_behind old one b) hears) (pushed_follows s mid e f none one hears k)
chain_follows f {s = s} (steps.pass {mid = mid} m chain) none hears k = let t = pass_stays none m in chain_follows f chain t.certain (hears_on t.block (λ old b. move_behind old none m b) hears) (move_follows s mid f m hears k)

pub chain_behind : {s s' : EndState} {pushes : List Entry} {n : ℕ} (old : End) → Chain s pushes n s' → s.doubt ≡ None → KeepsBehind old s → KeepsBehind old s'
chain_behind old steps.ends none k = k
chain_behind {s = s} old (steps.expects n some at) none k = record { each = (subst (λ m. IsBehind old m s.expected s.handled) (sym at) (behind_expects k)).each }
chain_behind old (steps.push one chain) none k = let t = pushed_stays none one in chain_behind old chain t.certain (pushed_behind old one k)
chain_behind old (steps.pass m chain) none k = let t = pass_stays none m in chain_behind old chain t.certain (move_behind old none m k)

-- what a chain comes to
pub record Linked (s : EndState) (pushes : List Entry) (n : ℕ) (s' : EndState) : Type 0 where
  pub block : SameBlock s s'
  pub certain : s'.doubt ≡ None
  pub connection : s'.connection ≡ s.connection
  pub end : s'.end ≡ folded s.end (Many pushes n)
  pub handled : s'.handled ≡ s.handled ++ drop (length s.handled) s'.handled

beyond : (xs ys : List Handling) → IsPrefixOf xs ys → ys ≡ xs ++ drop (length xs) ys
beyond xs ys p = p.is ∙ ap (λ w. xs ++ w) (sym (ap (λ w. drop (length xs) w) p.is ∙ drop-append_seam xs p.rest))

same_many : (e : End) (xs ys : List Entry) (n : ℕ) → xs ≡ ys → expecting (record e { out = xs }) n ≡ expecting (record e { out = ys }) n
same_many e xs ys n same = ap (λ (w : List Entry). expecting (record e { out = w }) n) same

is_number : (n : ℕ) → 0 < n → (n == 0) ≡ false
is_number n some = elim (test (n == 0)) as (λ t. (n == 0) ≡ false) [ inl t ↦ (let none : n ≡ 0 = eqb-true n 0 t in absurd (omega arith)) | inr t ↦ t ]

ends_so : (e : End) → e ≡ folded e (Many [] 0)
ends_so e = same_many e e.out (e.out ++ []) 0 (sym (append-nil e.out))

expects_so : (e : End) (n : ℕ) → 0 < n → folded e (Expect n) ≡ folded e (Many [] n)
expects_so e n some = let no = is_number n some in rw no (ends_so (record e { stored = n }))

linked_to : {s s' : EndState} {pushes : List Entry} {n : ℕ} → Chain s pushes n s' → s.doubt ≡ None → Stays s s' × (s'.end ≡ folded s.end (Many pushes n))
linked_to {s = s} steps.ends none = (record { block = record { role = refl; asked = refl; connection = refl }; certain = none; connection = refl; handled = prefix_refl s.handled }, ends_so s.end)
linked_to {s = s} (steps.expects n some at) none =
    (record { block = record { role = refl; asked = refl; connection = refl }; certain = none; connection = refl; handled = prefix_refl s.handled }, expects_so s.end n some)
linked_to {s = s} {s' = s'} (steps.push {mid = mid} {e = e} {pushes = pushes} {k = n} one chain) none =
    let t = pushed_stays none one in
    let later = linked_to chain t.certain in
    let l = later.0 in (
      record { block = then_block t.block l.block; certain = l.certain; connection = l.connection ∙ t.connection; handled = prefix_trans t.handled l.handled },
      later.1 ∙ ap (λ z. folded z (Many pushes n)) (pushed_end one) ∙ same_many s.end ((s.end.out ++ e ∷ []) ++ pushes) (s.end.out ++ e ∷ pushes) n (append_assoc s.end.out (e ∷ []) pushes),
    )
linked_to {s = s} (steps.pass {mid = mid} {pushes = pushes} {k = n} m chain) none =
    let t = pass_stays none m in
    let later = linked_to chain t.certain in
    let l = later.0 in
    (record { block = then_block t.block l.block; certain = l.certain; connection = l.connection ∙ t.connection; handled = prefix_trans t.handled l.handled }, later.1 ∙ ap (λ z. folded z (Many pushes n)) (pass_end none m))

pub linked : {s s' : EndState} {pushes : List Entry} {n : ℕ} → Chain s pushes n s' → s.doubt ≡ None → Linked s pushes n s'
linked {s = s} {s' = s'} chain none =
    let t = linked_to chain none in
    let stays = t.0 in
    record { block = stays.block; certain = stays.certain; connection = stays.connection; end = t.1; handled = beyond s.handled s'.handled stays.handled }

-- ---- each act of a reader

pub row_follows : {id : Identity} (s s' : EndState) (x : Act) (f : End) → s.doubt ≡ None → Row id s x s' → Hears s f → Follows s f → Follows s' f
row_follows s s' x f none (steps.opened empty) hears k = k
row_follows s s' x f none (steps.now t) hears k = k
row_follows s s' x f none (steps.idle c o) hears k = k
row_follows s s' x f none (steps.ended c o) hears k = k
row_follows s s' x f none (steps.read b c o) hears k = k
row_follows s s' x f none (steps.wrote b c o w rule) hears k = k
row_follows s s' x f none (steps.kept_push e pushed) hears k = pushed_follows s s' e f none pushed hears k
row_follows s s' x f none (steps.kept_expect n at) hears k = certain_keeps_up none (subst (λ m. Agrees m s.handled f) (sym at) (k.running none)) (k.running none)
row_follows s s' x f none (steps.kept_many pushes n chain) hears k = chain_follows f chain none hears k
row_follows s s' x f none (steps.kept_withhold n offered) hears k = certain_keeps_up none k.now (k.running none)
row_follows s s' x f none (steps.kept_reset t c answer o stay asks) hears k = certain_keeps_up none (Agrees-new f) (Agrees-new f)
row_follows s s' x f none (steps.cut_reset t gone) hears k = certain_keeps_up none (Agrees-new f) (Agrees-new f)
row_follows s s' x f none (steps.kept_ask t alone) hears k = certain_keeps_up none (Agrees-new f) (Agrees-new f)
row_follows s s' x f none (steps.kept_confirm c o asking begun) hears k = certain_keeps_up none k.now (k.running none)
row_follows s s' x f none (steps.handed c n marked body free may) hears k =
    let told = hears.each free c may.is_open (message.App n marked body) may.frame in
    grows s f (record { number = n; body = body; marked = marked; rejected = false }) none may.expected told k
row_follows s s' x f none (steps.hand_lost c n marked body free may) hears k = k
row_follows s s' x f none (steps.allowed n may) hears k = k
row_follows s s' x f none (steps.offers n may) hears k = k
row_follows s s' x f none (steps.lost_push e) hears k = doubtful_keeps_up (Push e) k.now k.now
row_follows s s' x f none (steps.lost_expect n at) hears k = doubtful_keeps_up (Expect n) k.now (subst (λ m. Agrees m s.handled f) (sym at) (k.running none))
row_follows s s' x f none (steps.lost_many {s' = to} pushes n chain) hears k =
    let l = linked chain none in
    let after = chain_follows f chain none hears k in
    doubtful_keeps_up {handled = s.handled} {beside = drop (length s.handled) to.handled} (Many pushes n) k.now (subst (λ (e : End). Agrees e.stored (s.handled ++ drop (length s.handled) to.handled) f) l.end (subst (λ h. Agrees to.end.stored h f) l.handled after.now))
row_follows s s' x f none (steps.lost_withhold n offered) hears k = doubtful_keeps_up (Withhold n) k.now k.now
row_follows s s' x f none (steps.lost_reset t) hears k = doubtful_keeps_up (Reset t) k.now (Agrees-new f)
row_follows s s' x f none (steps.lost_ask t alone) hears k = doubtful_keeps_up (ResetAsk t) k.now (Agrees-new f)
row_follows s s' x f none (steps.lost_confirm c o asking begun) hears k = doubtful_keeps_up Confirm k.now k.now
row_follows s s' x f none steps.cut hears k = k
row_follows s s' x f none steps.stopped hears k = certain_keeps_up none k.now k.now

-- ---- what a reader has passed, while a connection is open

abbrev pub OpenBehind : End → EndState → Type 0
OpenBehind old s = (c : Connection) → s.connection ≡ Some c → KeepsBehind old s

pub row_behind : {id : Identity} {s s' : EndState} {x : Act} (old : End) → x ≢ act.Opened → s.doubt ≡ None → Row id s x s' → OpenBehind old s → OpenBehind old s'
row_behind old further none (steps.opened empty) k c e = absurd (further refl)
row_behind old further none (steps.now t) k c e = k c e
row_behind old further none (steps.idle d o) k c e = k c e
row_behind old further none (steps.ended d o) k c e = k c e
row_behind old further none (steps.read b d o) k c e = record { each = (k d o).each }
row_behind old further none (steps.wrote b d o w rule) k c e = record { each = (k d o).each }
row_behind old further none (steps.kept_push q pushed) k c e = pushed_behind old pushed (k c (sym (pushed_connection pushed) ∙ e))
row_behind {s = s} old further none (steps.kept_expect n at) k c e = record { each = (subst (λ m. IsBehind old m s.expected s.handled) (sym at) (behind_expects (k c e))).each }
row_behind old further none (steps.kept_many pushes n chain) k c e = chain_behind old chain none (k c (sym (linked chain none).connection ∙ e))
row_behind old further none (steps.kept_withhold n offered) k c e = record { each = (k c e).each }
row_behind old further none (steps.kept_reset t d answer o stay asks) k c e = record { each = λ n some low high. absurd (omega (arith, some, high)) }
row_behind old further none (steps.cut_reset t gone) k c e = cc
row_behind old further none (steps.kept_ask t alone) k c e = cc
row_behind old further none (steps.kept_confirm d o asking begun) k c e = record { each = (k d o).each }
row_behind old further none (steps.handed d n marked body free may) k c e = record { each = (behind_grows (record { number = n; body = body; marked = marked; rejected = false }) may.expected (k d may.is_open)).each }
row_behind old further none (steps.hand_lost d n marked body free may) k c e = cc
row_behind old further none (steps.allowed n may) k c e = k c e
row_behind old further none (steps.offers n may) k c e = record { each = (k c e).each }
row_behind old further none (steps.lost_push q) k c e = cc
row_behind old further none (steps.lost_expect n at) k c e = cc
row_behind old further none (steps.lost_many pushes n chain) k c e = cc
row_behind old further none (steps.lost_withhold n offered) k c e = cc
row_behind old further none (steps.lost_reset t) k c e = cc
row_behind old further none (steps.lost_ask t alone) k c e = cc
row_behind old further none (steps.lost_confirm d o asking begun) k c e = cc
row_behind old further none steps.cut k c e = cc
row_behind old further none steps.stopped k c e = cc

-- while a connection is open nothing is in doubt
abbrev pub OpenCertain : EndState → Type 0
OpenCertain s = (c : Connection) → s.connection ≡ Some c → s.doubt ≡ None

pub row_certain : {id : Identity} {s s' : EndState} {x : Act} → s.doubt ≡ None → Row id s x s' → OpenCertain s'
row_certain none (steps.opened empty) c e = none
row_certain none (steps.now t) c e = none
row_certain none (steps.idle d o) c e = none
row_certain none (steps.ended d o) c e = none
row_certain none (steps.read b d o) c e = none
row_certain none (steps.wrote b d o w rule) c e = none
row_certain none (steps.kept_push q pushed) c e = pushed_doubt pushed ∙ none
row_certain none (steps.kept_expect n at) c e = none
row_certain none (steps.kept_many pushes n chain) c e = (linked chain none).certain
row_certain none (steps.kept_withhold n offered) c e = none
row_certain none (steps.kept_reset t d answer o stay asks) c e = none
row_certain none (steps.cut_reset t gone) c e = cc
row_certain none (steps.kept_ask t alone) c e = none
row_certain none (steps.kept_confirm d o asking begun) c e = none
row_certain none (steps.handed d n marked body free may) c e = none
row_certain none (steps.hand_lost d n marked body free may) c e = cc
row_certain none (steps.allowed n may) c e = none
row_certain none (steps.offers n may) c e = none
row_certain none (steps.lost_push q) c e = cc
row_certain none (steps.lost_expect n at) c e = cc
row_certain none (steps.lost_many pushes n chain) c e = cc
row_certain none (steps.lost_withhold n offered) c e = cc
row_certain none (steps.lost_reset t) c e = cc
row_certain none (steps.lost_ask t alone) c e = cc
row_certain none (steps.lost_confirm d o asking begun) c e = cc
row_certain none steps.cut c e = cc
row_certain none steps.stopped c e = cc

pub move_open_behind : {s s' : EndState} (old : End) → Move s s' → OpenCertain s → OpenBehind old s → OpenBehind old s'
move_open_behind old (steps.settles_without r e) certain k c o = let none = certain c o in cc
move_open_behind old (steps.settles_with r e) certain k c o = let none = certain c o in cc
move_open_behind old (steps.past_admin d x free q read at) certain k c o = behind_passes (omega arith) (k c o)
move_open_behind old (steps.past_app d n marked body free q read at grew) certain k c o = behind_passes (omega arith) (k c o)
move_open_behind old (steps.past_gap d n m free q read at lt) certain k c o = behind_passes (omega (arith, lt)) (k c o)
move_open_behind old (steps.reset_to d n m free q read le) certain k c o = behind_passes le (k c o)

pub move_certain : {s s' : EndState} → Move s s' → OpenCertain s → OpenCertain s'
move_certain (steps.settles_without r e) certain c o = refl
move_certain (steps.settles_with r e) certain c o = refl
move_certain (steps.past_admin d x free q read at) certain c o = certain c o
move_certain (steps.past_app d n marked body free q read at grew) certain c o = certain c o
move_certain (steps.past_gap d n m free q read at lt) certain c o = certain c o
move_certain (steps.reset_to d n m free q read le) certain c o = certain c o
