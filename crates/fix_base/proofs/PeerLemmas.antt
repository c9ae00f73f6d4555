-- What a peer does as a reader: it keeps up, and marks are where they must be.
use Rattle.std.proofs.Common.{◌≡◌, ◌≢◌, inl, inr, ℕ, ◌<◌, ◌≤◌, ◌==◌, List, [], ◌∷◌, ◌++◌, length, Bool, true, false, Some, None, refl, sym, ap, ◌∙◌, subst, eq-or-lt_of_le, arith}
use Rattle.std.proofs.lemmas.Bool.{eqb-true}
use Rattle.fix_base.specs.Lists.{Among, here, there, IsPrefixOf}
use Rattle.fix_base.specs.Message as message
use Rattle.fix_base.specs.Message.{Message}
use Rattle.fix_base.specs.End.{End}
use Rattle.fix_base.specs.Act as act
use Rattle.fix_base.specs.Act.{Act}
use Rattle.fix_base.specs.Session.{Identity}
use Rattle.fix_base.specs.EndStep as steps
use Rattle.fix_base.specs.EndStep.{Connection, EndState, IsAsking, IsBlocked, WasRead, MayHand, Row, EndStep, Move}
use Rattle.fix_base.specs.Agrees.{Agrees}
use Rattle.fix_base.specs.Reader.{Gives, handed, hand_lost, Follows}
use Rattle.fix_base.specs.World.{Logged, Given, Peer, wrote_at, rested, IsQuiet, IsPlain}
use Rattle.fix_base.proofs.ListLemmas.{some_same, Among-cons_cases}
use Rattle.fix_base.proofs.BytesLemmas.{read_among, spells_nothing}
use Rattle.fix_base.proofs.WroteLemmas.{Means, front_means, IsEntry-inside}
use Rattle.fix_base.proofs.HandledLemmas.{test}
use Rattle.fix_base.proofs.FollowsLemmas.{Hears, KeepsBehind, row_follows, move_follows, behind_starts, row_behind, row_certain, move_open_behind, move_certain}
use Rattle.fix_base.proofs.Ways as ways
use Rattle.fix_base.proofs.Ways.{Later, Own, Comes, Deaf, Heeds, Way, ViewStep}
use Rattle.fix_base.proofs.RowLemmas.{row_asking, quiet_connection, opened_row, read_row, wrote_row, handed_row, lost_row, move_connection}

-- no frame is read from nothing
nothing_read : (c : Connection) (x : Message) → c.read ≡ [] → WasRead c x → ⊥
nothing_read c x none r = elim (read_among {ys = []} spells_nothing (record { rest = []; is = sym (ap (λ w. w ++ []) none) }) r.shows r.among) [ ]

prefix_none : (bytes : List ℕ) → IsPrefixOf bytes [] → bytes ≡ []
prefix_none [] p = refl
prefix_none (b ∷ bytes) p = let e = p.is in cc

found_comes : (f : Peer) (n : ℕ) (bytes : List ℕ) (log : List Logged) → ((l : Logged) → Among l log → Among l f.log) → IsPrefixOf bytes (wrote_at n log) → Comes f n bytes
found_comes f n bytes [] inside p = ways.nothing (prefix_none bytes p)
found_comes f n bytes (l ∷ log) inside p =
    elim (test (l.number == n)) [
      | inl t ↦ ways.some l (inside l here) (eqb-true l.number n t) (rw t at p)
      | inr t ↦ found_comes f n bytes log (λ k m. inside k (there m)) (rw t at p)
    ]

-- what was read at a number is a front of what is logged there
pub wrote_comes : (f : Peer) (n : ℕ) (bytes : List ℕ) → IsPrefixOf bytes (wrote_at n f.log) → Comes f n bytes
wrote_comes f n bytes p = found_comes f n bytes f.log (λ l m. m) p

later_lower : {f : Peer} {c d : ℕ} {h : End} → d ≤ c → Later f c h → Later f d h
later_lower le ways.now = ways.now
later_lower le (ways.opened l m lt) = ways.opened l m (omega arith)

-- what is read on a connection is what the writer wrote there, and lawful for each later moment
record Heard (e f : Peer) (x : Message) : Type 0 where
  logged : Logged
  among : Among logged f.log
  number : logged.number ≡ e.number
  means : (h : End) → Later f e.number h → Means logged.opened h x

heard : (e f : Peer) → Own f → (c : Connection) (x : Message) → Comes f e.number c.read → WasRead c x → Heard e f x
heard e f own c x (ways.nothing none) r = absurd (nothing_read c x none r)
heard e f own c x (ways.some l m number front) r =
    record {
      logged = l;
      among = m;
      number = number;
      means = λ h later. front_means l.opened h x (own.persistent e.number h later) (own.wrote l m h (subst (λ n. Later f n h) (sym number) later)) front r.shows r.among;
    }

-- a frame that is read on a deaf connection doesn't count
pub deaf_blocked : {s : EndState} {c : Connection} {x : Message} → Deaf s c → s.connection ≡ Some c → WasRead c x → IsBlocked s
deaf_blocked (ways.asks h) o r = steps.asks h
deaf_blocked {c = c} {x = x} (ways.waits kept begun) o r = steps.waits c o kept (begun x r)

-- so what counts was written
comes : {f : Peer} {n : ℕ} {s : EndState} {x : Message} (c : Connection) → (IsBlocked s → ⊥) → s.connection ≡ Some c → WasRead c x → Heeds f n s c → Comes f n c.read
comes c free o r (inl k) = k
comes c free o r (inr deaf) = absurd (free (deaf_blocked deaf o r))

hears : (e f : Peer) → Own f → Way e f → (h : End) → Later f e.number h → Hears e.state h
hears e f own w h later = record { each = λ free c o x r. (let k = heard e f own c x (comes c free o r (w.read c o)) r in record { old = k.logged.opened; means = k.means h later; behind = w.behind k.logged k.among k.number c o }) }

-- the reader keeps up with each later moment over an act
follows_on : {id : Identity} (e f : Peer) (s' : EndState) (x : Act) → Own f → Way e f → EndStep id e.state x s' → (h : End) → Later f e.number h → Follows s' h
follows_on e f s' x own w step h later = row_follows e.state s' x h step.certain step.row (hears e f own w h later) (w.follows h later)

-- a message that is handed over is one of an entry at each later moment
given_inside : (e f : Peer) → Own f → Way e f → (c : Connection) (n : ℕ) (marked : Bool) (body : List ℕ) → (IsBlocked e.state → ⊥) → MayHand e.state c n marked body → (h : End) → Later f e.number h → n ≤ length h.out
given_inside e f own w c n marked body free may h later = let k = heard e f own c (message.App n marked body) (comes c free may.is_open may.frame (w.read c may.is_open)) may.frame in IsEntry-inside (k.means h later).0.entry

-- a quiet act opens nothing
not_opened : {x : Act} → IsQuiet x → x ≢ act.Opened
not_opened quiet e = subst IsQuiet e quiet

opens_behind : {id : Identity} {s s' : EndState} {old : End} → Row id s act.Opened s' → Agrees s.end.stored s.handled old → KeepsBehind old s'
opens_behind {s = s} (steps.opened empty) a = record { each = (behind_starts s.expected a).each }

same_heeds : {f : Peer} {n : ℕ} {s s' : EndState} {c : Connection} → (IsAsking s → IsAsking s') → Heeds f n s c → Heeds f n s' c
same_heeds keep (inl k) = inl k
same_heeds keep (inr (ways.asks h)) = inr (ways.asks (keep h))
same_heeds keep (inr (ways.waits kept begun)) = inr (ways.waits kept begun)

wrote_heeds : {f : Peer} {n : ℕ} {s s' : EndState} {c : Connection} {written : List ℕ} → (IsAsking s → IsAsking s') → Heeds f n s c → Heeds f n s' (record c { written = written })
wrote_heeds keep (inl k) = inl k
wrote_heeds keep (inr (ways.asks h)) = inr (ways.asks (keep h))
wrote_heeds keep (inr (ways.waits kept begun)) = inr (ways.waits kept (λ x r. begun x (record { messages = r.messages; shows = r.shows; among = r.among })))

moved_heeds : {f : Peer} {n : ℕ} {s s' : EndState} {c : Connection} → Move s s' → s.doubt ≡ None → Heeds f n s c → Heeds f n s' c
moved_heeds (steps.settles_without r e) none h = cc
moved_heeds (steps.settles_with r e) none h = cc
moved_heeds (steps.past_admin d x free o read at) none h = same_heeds (λ a. a) h
moved_heeds (steps.past_app d n marked body free o read at grew) none h = same_heeds (λ a. a) h
moved_heeds (steps.past_gap d n m free o read at lt) none h = same_heeds (λ a. a) h
moved_heeds (steps.reset_to d n m free o read le) none h = same_heeds (λ a. a) h

-- each act of a reader
pub reader_steps : {id : Identity} (e f e' : Peer) (x : Act) → Own f → Way e f → ViewStep id e f x e' → IsPlain x → Way e' f
reader_steps e f e' x own w (ways.opens {s' = s'} c lt step) plain =
    record {
      follows = λ h later. follows_on e f s' act.Opened own w step h (later_lower (omega arith) later);
      read = λ d o. (let r = opened_row step.row in inl (ways.nothing (sym (ap (λ (k : Connection). k.read) (some_same _ d (sym r.connection ∙ o))))));
      told = λ g m. (let old = w.told g m in omega arith);
      known = λ g m h later. w.known g m h (later_lower (omega arith) later);
      before = λ g m l among number below. w.known g m l.opened (ways.opened l among (omega arith));
      certain = row_certain step.certain step.row;
      behind = λ l m number d o. opens_behind step.row (w.follows l.opened (ways.opened l m (omega (arith, number, lt)))).now;
      gave = λ d o g m at. (let old = w.told g m in absurd (omega arith));
    }
reader_steps e f e' x own w (ways.reads {s' = s'} b heeds step) plain =
    let r = read_row step.row in
    record {
      follows = follows_on e f s' (act.Read b) own w step;
      read = heeds;
      told = w.told;
      known = w.known;
      before = w.before;
      certain = row_certain step.certain step.row;
      behind = λ l m number. row_behind l.opened (λ e. cc) step.certain step.row (w.behind l m number);
      gave = λ d q g m at. subst (λ (k : Connection). Among g.number k.gave) (some_same _ d (sym r.connection ∙ q)) (w.gave r.was r.is_open g m at);
    }
reader_steps e f e' x own w (ways.writes {s' = s'} b step) plain =
    let r = wrote_row step.row in
    record {
      follows = follows_on e f s' (act.Wrote b) own w step;
      read = λ d q. subst (λ (k : Connection). Heeds f e.number s' k) (some_same _ d (sym r.connection ∙ q)) (wrote_heeds (row_asking step.certain step.row plain) (w.read r.was r.is_open));
      told = w.told;
      known = w.known;
      before = w.before;
      certain = row_certain step.certain step.row;
      behind = λ l m number. row_behind l.opened (λ e. cc) step.certain step.row (w.behind l m number);
      gave = λ d q g m at. subst (λ (k : Connection). Among g.number k.gave) (some_same _ d (sym r.connection ∙ q)) (w.gave r.was r.is_open g m at);
    }
reader_steps e f e' x own w (ways.hands {s' = s'} n marked body step) plain =
    let r = handed_row step.row in
    record {
      follows = follows_on e f s' (act.Handed n marked body) own w step;
      read = λ d q. inl (subst (λ (k : Connection). Comes f e.number k.read) (some_same _ d (sym r.connection ∙ q)) (comes r.was r.free r.may.is_open r.may.frame (w.read r.was r.may.is_open)));
      told = λ g m. (elim (Among-cons_cases m) [ inl new ↦ le_of_number g (ap (λ (k : Given). k.connection) new) | inr old ↦ w.told g old ]);
      known = λ g m h later. (elim (Among-cons_cases m) [ inl new ↦ subst (λ (k : Given). k.number ≤ length h.out) (sym new) (given_inside e f own w r.was n marked body r.free r.may h later) | inr old ↦ w.known g old h later ]);
      before = λ g m l among number below. (elim (Among-cons_cases m) [ inl new ↦ not_before g (ap (λ (k : Given). k.connection) new) below | inr old ↦ w.before g old l among number below ]);
      certain = row_certain step.certain step.row;
      behind = λ l m number. row_behind l.opened (λ e. cc) step.certain step.row (w.behind l m number);
      gave = λ d q g m at. subst (λ (k : Connection). Among g.number k.gave) (some_same _ d (sym r.connection ∙ q)) (elim (Among-cons_cases m) [ inl new ↦ subst (λ (k : Given). Among k.number (n ∷ r.was.gave)) (sym new) here | inr old ↦ there (w.gave r.was r.may.is_open g old at) ]);
    }
  where
    le_of_number : (g : Given) → g.connection ≡ e.number → g.connection ≤ e.number
    le_of_number g at = omega arith

    not_before : {A : Type 0} (g : Given) → g.connection ≡ e.number → g.connection < e.number → A
    not_before g at below = absurd (omega arith)
reader_steps e f e' x own w (ways.loses {s' = s'} n marked body step) plain =
    let r = lost_row step.row in
    record {
      follows = follows_on e f s' (act.HandLost n marked body) own w step;
      read = λ d q. (let none : None ≡ Some d = sym r.connection ∙ q in cc);
      told = λ g m. (elim (Among-cons_cases m) [ inl new ↦ le_of_number g (ap (λ (k : Given). k.connection) new) | inr old ↦ w.told g old ]);
      known = λ g m h later. (elim (Among-cons_cases m) [ inl new ↦ subst (λ (k : Given). k.number ≤ length h.out) (sym new) (given_inside e f own w r.was n marked body r.free r.may h later) | inr old ↦ w.known g old h later ]);
      before = λ g m l among number below. (elim (Among-cons_cases m) [ inl new ↦ not_before g (ap (λ (k : Given). k.connection) new) below | inr old ↦ w.before g old l among number below ]);
      certain = row_certain step.certain step.row;
      behind = λ l m number. row_behind l.opened (λ e. cc) step.certain step.row (w.behind l m number);
      gave = λ d q g m at. (let none : None ≡ Some d = sym r.connection ∙ q in cc);
    }
  where
    le_of_number : (g : Given) → g.connection ≡ e.number → g.connection ≤ e.number
    le_of_number g at = omega arith

    not_before : {A : Type 0} (g : Given) → g.connection ≡ e.number → g.connection < e.number → A
    not_before g at below = absurd (omega arith)
reader_steps e f e' x own w (ways.rests {s' = s'} y quiet step) plain =
    record {
      follows = follows_on e f s' y own w step;
      read = λ d q. same_heeds (row_asking step.certain step.row plain) (w.read d (quiet_connection step.certain step.row quiet plain d q));
      told = w.told;
      known = w.known;
      before = w.before;
      certain = row_certain step.certain step.row;
      behind = λ l m number. row_behind l.opened (not_opened quiet) step.certain step.row (w.behind l m number);
      gave = λ d q. w.gave d (quiet_connection step.certain step.row quiet plain d q);
    }

pub reader_moves : (e f : Peer) (s' : EndState) → Own f → Way e f → Move e.state s' → Way (rested e s') f
reader_moves e f s' own w m =
    record {
      follows = λ h later. move_follows e.state s' h m (hears e f own w h later) (w.follows h later);
      read = λ d q. moved_heeds m (w.certain d (move_connection m d q)) (w.read d (move_connection m d q));
      told = w.told;
      known = w.known;
      before = w.before;
      certain = move_certain m w.certain;
      behind = λ l among number. move_open_behind l.opened m w.certain (w.behind l among number);
      gave = λ d q. w.gave d (move_connection m d q);
    }

-- ---- marks

-- a message of this number was given
pub record HasGiven (a : Peer) (n : ℕ) : Type 0 where
  pub given : Given
  pub among : Among given a.given
  pub number : given.number ≡ n

repeat_marked : (e f : Peer) → Own f → Way e f → (c : Connection) (n : ℕ) (marked : Bool) (body : List ℕ) → (IsBlocked e.state → ⊥) → MayHand e.state c n marked body → HasGiven e n → marked ≡ true
repeat_marked e f own w c n marked body free may had =
    let g = had.given in
    elim (eq-or-lt_of_le (w.told g had.among)) [
      | inl at ↦ absurd (may.unseen (subst (λ k. Among k c.gave) had.number (w.gave c may.is_open g had.among at)))
      | inr below ↦ (elim (test marked) [ inl t ↦ t | inr t ↦ not_an_original below t ])
    ]
  where
    not_an_original : had.given.connection < e.number → marked ≡ false → marked ≡ true
    not_an_original below t =
        let k = heard e f own c (message.App n marked body) (comes c free may.is_open may.frame (w.read c may.is_open)) may.frame in
        let above = (k.means f.state.end ways.now).1 t in
        let low = w.before had.given had.among k.logged k.among k.number below in
        absurd (omega (arith, had.number))

pub step_marks : {id : Identity} (e f e' : Peer) (x : Act) (n : ℕ) (marked : Bool) → Own f → Way e f → Gives n marked x → ViewStep id e f x e' → HasGiven e n → marked ≡ true
step_marks e f e' x n marked own w (handed body) (ways.hands m b c step) had = let r = handed_row step.row in repeat_marked e f own w r.was n marked body r.free r.may had
step_marks e f e' x n marked own w (handed body) (ways.rests y quiet step) had = absurd quiet
step_marks e f e' x n marked own w (hand_lost body) (ways.loses m b c step) had = let r = lost_row step.row in repeat_marked e f own w r.was n marked body r.free r.may had
step_marks e f e' x n marked own w (hand_lost body) (ways.rests y quiet step) had = absurd quiet

-- what was given is known from then on
pub step_given : {id : Identity} (a o a' : Peer) (x : Act) (n : ℕ) → ViewStep id a o x a' → HasGiven a n → HasGiven a' n
step_given a o a' x n (ways.opens c lt step) had = record { given = had.given; among = had.among; number = had.number }
step_given a o a' x n (ways.reads b heeds step) had = record { given = had.given; among = had.among; number = had.number }
step_given a o a' x n (ways.writes b step) had = record { given = had.given; among = had.among; number = had.number }
step_given a o a' x n (ways.hands m marked body step) had = record { given = had.given; among = there had.among; number = had.number }
step_given a o a' x n (ways.loses m marked body step) had = record { given = had.given; among = there had.among; number = had.number }
step_given a o a' x n (ways.rests y quiet step) had = record { given = had.given; among = had.among; number = had.number }

pub step_gives : {id : Identity} (a o a' : Peer) (x : Act) (n : ℕ) (marked : Bool) → Gives n marked x → ViewStep id a o x a' → HasGiven a' n
step_gives a o a' x n marked (handed body) (ways.hands m b c step) = record { given = record { number = n; connection = a.number }; among = here; number = refl }
step_gives a o a' x n marked (handed body) (ways.rests y quiet step) = absurd quiet
step_gives a o a' x n marked (hand_lost body) (ways.loses m b c step) = record { given = record { number = n; connection = a.number }; among = here; number = refl }
step_gives a o a' x n marked (hand_lost body) (ways.rests y quiet step) = absurd quiet
