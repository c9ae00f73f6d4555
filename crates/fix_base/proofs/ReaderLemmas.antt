-- Over the acts of one connection, a reader of what a persistent writer wrote keeps up with it.
use Rattle.std.proofs.Common.{◌≡◌, ◌≢◌, inl, inr, ℕ, ◌≤◌, List, ◌∷◌, ◌++◌, length, Bool, true, Some, None, refl, sym, ap, ◌∙◌, subst, append_assoc, arith}
use Rattle.fix_base.specs.Lists.{Among, here, there, IsPrefixOf}
use Rattle.fix_base.specs.Message as message
use Rattle.fix_base.specs.Message.{Message}
use Rattle.fix_base.specs.End.{Reset, End}
use Rattle.fix_base.specs.Payload.{IsPersistent}
use Rattle.fix_base.specs.Act as act
use Rattle.fix_base.specs.Act.{Act}
use Rattle.fix_base.proofs.Told.{WroteMessages}
use Rattle.fix_base.specs.Session.{Identity, mirrored}
use Rattle.fix_base.specs.Wrote.{Wrote}
use Rattle.fix_base.specs.EndStep as steps
use Rattle.fix_base.specs.EndStep.{Connection, EndState, WasRead, Row, EndStep, Move, EndRun}
use Rattle.fix_base.specs.Agrees.{Agrees}
use Rattle.fix_base.specs.Reader.{bytes_read, AreOfOneConnection, Gives, handed, hand_lost, Follows, ReaderKeepsUp}
use Rattle.fix_base.proofs.ListLemmas.{some_same, prefix_front}
use Rattle.fix_base.proofs.WroteLemmas.{front_means}
use Rattle.fix_base.proofs.WrittenLemmas.{wrote_of}
use Rattle.fix_base.proofs.HandledLemmas.{test}
use Rattle.fix_base.proofs.AgreesLemmas.{Agrees-more}
use Rattle.fix_base.proofs.FollowsLemmas.{Hears, Agrees-new, pushed_connection, linked, row_follows, move_follows, behind_starts, OpenBehind, row_behind, move_open_behind, OpenCertain, row_certain, move_certain}

-- what the connection has read and these acts will read is a front of what was written
record Reads (w : List ℕ) (s : EndState) (acts : List Act) : Type 0 where
  front : (c : Connection) → s.connection ≡ Some c → IsPrefixOf (c.read ++ bytes_read acts) w

-- this connection has read the same
reads_same : (w : List ℕ) (s : EndState) (acts : List Act) (c : Connection) (k : Connection) → s.connection ≡ Some c → k.read ≡ c.read → IsPrefixOf (c.read ++ bytes_read acts) w → (d : Connection) → Some k ≡ Some d → IsPrefixOf (d.read ++ bytes_read acts) w
reads_same w s acts c k is_open same p d e = subst (λ z. IsPrefixOf (z ++ bytes_read acts) w) (sym same ∙ ap (λ (z : Connection). z.read) (some_same k d e)) p

row_reads : {id : Identity} (w : List ℕ) (s s' : EndState) (x : Act) (acts : List Act) → x ≢ act.Opened → Row id s x s' → s.doubt ≡ None → Reads w s (x ∷ acts) → Reads w s' acts
row_reads w s s' x acts further (steps.opened empty) none r = absurd (further refl)
row_reads w s s' x acts further (steps.now t) none r = record { front = r.front }
row_reads w s s' x acts further (steps.idle c o) none r = record { front = r.front }
row_reads w s s' x acts further (steps.ended c o) none r = record { front = r.front }
row_reads w s s' x acts further (steps.read b c o) none r = record { front = λ d e. subst (λ (k : Connection). IsPrefixOf (k.read ++ bytes_read acts) w) (some_same _ d e) (subst (λ z. IsPrefixOf z w) (sym (append_assoc c.read b (bytes_read acts))) (r.front c o)) }
row_reads w s s' x acts further (steps.wrote b c o h rule) none r = record { front = reads_same w s acts c _ o refl (r.front c o) }
row_reads w s s' x acts further (steps.kept_push e pushed) none r = record { front = λ d o. r.front d (sym (pushed_connection pushed) ∙ o) }
row_reads w s s' x acts further (steps.kept_expect n h) none r = record { front = r.front }
row_reads w s s' x acts further (steps.kept_many pushes n chain) none r = record { front = λ d o. r.front d (sym (linked chain none).connection ∙ o) }
row_reads w s s' x acts further (steps.kept_withhold n h) none r = record { front = r.front }
row_reads w s s' x acts further (steps.kept_reset t c answer o stay asks) none r = record { front = reads_same w s acts c _ o refl (r.front c o) }
row_reads w s s' x acts further (steps.cut_reset t gone) none r = record { front = λ d e. cc }
row_reads w s s' x acts further (steps.kept_ask t alone) none r = record { front = r.front }
row_reads w s s' x acts further (steps.kept_confirm c o asking begun) none r = record { front = reads_same w s acts c _ o refl (r.front c o) }
row_reads w s s' x acts further (steps.handed c n marked body free may) none r = record { front = reads_same w s acts c _ may.is_open refl (r.front c may.is_open) }
row_reads w s s' x acts further (steps.hand_lost c n marked body free may) none r = record { front = λ d e. cc }
row_reads w s s' x acts further (steps.allowed n may) none r = record { front = r.front }
row_reads w s s' x acts further (steps.offers n may) none r = record { front = r.front }
row_reads w s s' x acts further (steps.lost_push e) none r = record { front = λ d e. cc }
row_reads w s s' x acts further (steps.lost_expect n h) none r = record { front = λ d e. cc }
row_reads w s s' x acts further (steps.lost_many pushes n chain) none r = record { front = λ d e. cc }
row_reads w s s' x acts further (steps.lost_withhold n h) none r = record { front = λ d e. cc }
row_reads w s s' x acts further (steps.lost_reset t) none r = record { front = λ d e. cc }
row_reads w s s' x acts further (steps.lost_ask t alone) none r = record { front = λ d e. cc }
row_reads w s s' x acts further (steps.lost_confirm c o asking begun) none r = record { front = λ d e. cc }
row_reads w s s' x acts further steps.cut none r = record { front = λ d e. cc }
row_reads w s s' x acts further steps.stopped none r = record { front = λ d e. cc }

-- a move changes no connection
move_reads : (w : List ℕ) (s s' : EndState) (acts : List Act) → Move s s' → Reads w s acts → Reads w s' acts
move_reads w s s' acts (steps.settles_without q e) r = record { front = r.front }
move_reads w s s' acts (steps.settles_with q e) r = record { front = r.front }
move_reads w s s' acts (steps.past_admin c x free o read at) r = record { front = r.front }
move_reads w s s' acts (steps.past_app c n marked body free o read at grew) r = record { front = r.front }
move_reads w s s' acts (steps.past_gap c n m free o read at lt) r = record { front = r.front }
move_reads w s s' acts (steps.reset_to c n m free o read le) r = record { front = r.front }

-- what was read means what the writer wrote
hears_of : (f0 f1 : End) (w : List ℕ) → IsPersistent f1 → WroteMessages f0 f1 w → (s : EndState) (acts : List Act) → Reads w s acts → OpenBehind f0 s → Hears s f1
hears_of f0 f1 w kept wrote s acts r b = record { each = λ free c o x read. record { old = f0; means = front_means f0 f1 x kept wrote (prefix_front c.read (bytes_read acts) (r.front c o)) read.shows read.among; behind = b c o } }

unmarked_is_above : (f0 f1 : End) (w : List ℕ) → IsPersistent f1 → WroteMessages f0 f1 w → (s : EndState) (acts : List Act) → Reads w s acts → (c : Connection) (n : ℕ) (marked : Bool) (body : List ℕ) → s.connection ≡ Some c → WasRead c (message.App n marked body) → n ≤ length f0.out → marked ≡ true
unmarked_is_above f0 f1 w kept wrote s acts r c n marked body o read low =
    let means = front_means f0 f1 (message.App n marked body) kept wrote (prefix_front c.read (bytes_read acts) (r.front c o)) read.shows read.among in
    elim (test marked) [ inl t ↦ t | inr f ↦ (let above = means.1 f in absurd (omega arith)) ]

-- a Handed or HandLost of a number that the writer had at its Opened is marked
row_marks : {id : Identity} (f0 f1 : End) (w : List ℕ) → IsPersistent f1 → WroteMessages f0 f1 w → (s s' : EndState) (x : Act) (acts : List Act) (n : ℕ) (marked : Bool) → Gives n marked x → Row id s x s' → Reads w s acts → n ≤ length f0.out → marked ≡ true
row_marks f0 f1 w kept wrote s s' x acts n marked (handed body) (steps.handed c k m b free may) r low = unmarked_is_above f0 f1 w kept wrote s acts r c k m b may.is_open may.frame low
row_marks f0 f1 w kept wrote s s' x acts n marked (hand_lost body) (steps.hand_lost c k m b free may) r low = unmarked_is_above f0 f1 w kept wrote s acts r c k m b may.is_open may.frame low

-- what a reader holds by while it reads what was written
record Holds (f0 f1 : End) (w : List ℕ) (s : EndState) (acts : List Act) : Type 0 where
  reads : Reads w s acts
  certain : OpenCertain s
  behind : OpenBehind f0 s
  follows : Follows s f1

run_keeps_up : {id : Identity} (f0 f1 : End) (w : List ℕ) → IsPersistent f1 → WroteMessages f0 f1 w → {s s' : EndState} {acts : List Act} → EndRun id s acts s' → AreOfOneConnection acts → Holds f0 f1 w s acts → ReaderKeepsUp f0 f1 acts s'
run_keeps_up f0 f1 w kept wrote steps.stop one h = record { follows = h.follows; marks = λ x m. elim m [ ] }
run_keeps_up f0 f1 w kept wrote {s = s} {s' = s'} (steps.move {mid = mid} {acts = acts} m d) one h =
    run_keeps_up f0 f1 w kept wrote d one
    (record {
      reads = move_reads w s mid acts m h.reads;
      certain = move_certain m h.certain;
      behind = move_open_behind f0 m h.certain h.behind;
      follows = move_follows s mid f1 m (hears_of f0 f1 w kept wrote s acts h.reads h.behind) h.follows;
    })
run_keeps_up f0 f1 w kept wrote {s = s} {s' = s'} (steps.step {mid = mid} {a = x} {acts = acts} step d) one h =
    let later = run_keeps_up f0 f1 w kept wrote d one.1
    (record {
      reads = row_reads w s mid x acts one.0 step.row step.certain h.reads;
      certain = row_certain step.certain step.row;
      behind = row_behind f0 one.0 step.certain step.row h.behind;
      follows = row_follows s mid x f1 step.certain step.row (hears_of f0 f1 w kept wrote s (x ∷ acts) h.reads h.behind) h.follows;
    }) in
    record { follows = later.follows; marks = λ y m n marked gives low. first_or_later y m n marked gives low later.marks }
  where
    first_or_later : (y : Act) → Among y (x ∷ acts) → (n : ℕ) (marked : Bool) → Gives n marked y → n ≤ length f0.out → ((z : Act) → Among z acts → (j : ℕ) (b : Bool) → Gives j b z → j ≤ length f0.out → b ≡ true) → marked ≡ true
    first_or_later y here n marked gives low later = row_marks f0 f1 w kept wrote s mid x (x ∷ acts) n marked gives step.row h.reads low
    first_or_later y (there m) n marked gives low later = later y m n marked gives low

opened_starts : {id : Identity} (f0 f1 : End) (w : List ℕ) (s s' : EndState) (acts : List Act) → WroteMessages f0 f1 w → s.doubt ≡ None → Row id s act.Opened s' → IsPrefixOf (bytes_read acts) w → Agrees s.end.stored s.handled f0 → Agrees s.expected s.handled f0 → Holds f0 f1 w s' acts
opened_starts f0 f1 w s s' acts wrote none (steps.opened empty) front a b =
    record {
      reads = record { front = λ d e. subst (λ (k : Connection). IsPrefixOf (k.read ++ bytes_read acts) w) (some_same _ d e) front };
      certain = λ c o. none;
      behind = λ c o. behind_starts s.expected a;
      follows = record { now = Agrees-more wrote.grew a; running = λ e. Agrees-more wrote.grew b; settled = λ r e. cc };
    }

-- the law of a reader
pub reader : (id : Identity) (s opened s' : EndState) (acts : List Act) (f0 f1 : End) (w : List ℕ) → IsPersistent f1 → Wrote (mirrored id) f0 f1 w → EndStep id s act.Opened opened → EndRun id opened acts s' → AreOfOneConnection acts → IsPrefixOf (bytes_read acts) w → Agrees s.end.stored s.handled f0 → Agrees s.expected s.handled f0 → ReaderKeepsUp f0 f1 acts s'
reader id s opened s' acts f0 f1 w kept text step d one front a b =
    let wrote = wrote_of (mirrored id) f0 f1 w text in
    run_keeps_up f0 f1 w kept wrote d one (opened_starts f0 f1 w s opened acts wrote step.certain step.row front a b)

-- after a reset nothing is handled, and an end that expects 1 agrees with any other
reset_starts : {id : Identity} (f0 f1 : End) (w : List ℕ) (s s' : EndState) (t : ℕ) (acts : List Act) → s.doubt ≡ None → Row id s (act.Kept (Reset t)) s' → ((c : Connection) → s'.connection ≡ Some c → IsPrefixOf (c.read ++ bytes_read acts) w) → Holds f0 f1 w s' acts
reset_starts f0 f1 w s s' t acts none (steps.kept_reset _ c answer o stay asks) front =
    record {
      reads = record { front = front };
      certain = λ d e. none;
      behind = λ d e. behind_starts 1 (Agrees-new f0);
      follows = record { now = Agrees-new f1; running = λ e. Agrees-new f1; settled = λ r e. cc };
    }
reset_starts f0 f1 w s s' t acts none (steps.cut_reset _ gone) front =
    record {
      reads = record { front = front };
      certain = λ d e. none;
      behind = λ d e. behind_starts 1 (Agrees-new f0);
      follows = record { now = Agrees-new f1; running = λ e. Agrees-new f1; settled = λ r e. cc };
    }

-- the law of a reader after a reset
pub reset_reader : (id : Identity) (s reset s' : EndState) (t : ℕ) (acts : List Act) (f0 f1 : End) (w : List ℕ) → IsPersistent f1 → Wrote (mirrored id) f0 f1 w → EndStep id s (act.Kept (Reset t)) reset → EndRun id reset acts s' → AreOfOneConnection acts → ((c : Connection) → reset.connection ≡ Some c → IsPrefixOf (c.read ++ bytes_read acts) w) → ReaderKeepsUp f0 f1 acts s'
reset_reader id s reset s' t acts f0 f1 w kept text step d one front =
    let wrote = wrote_of (mirrored id) f0 f1 w text in
    run_keeps_up f0 f1 w kept wrote d one (reset_starts f0 f1 w s reset t acts step.certain step.row front)
