-- The law of two ends: what holds of them stays true over all events.
use Rattle.std.proofs.Common.{◌≡◌, inl, ℕ, List, [], ◌∷◌, ◌++◌, Bool, true, Some, refl, sym, ◌∙◌, subst}
use Rattle.fix_base.specs.Lists.{Among, here, there, IsPrefixOf}
use Rattle.fix_base.specs.End.{End}
use Rattle.fix_base.specs.Payload.{IsPersistent}
use Rattle.fix_base.specs.Act as act
use Rattle.fix_base.specs.Act.{Act}
use Rattle.fix_base.specs.Session.{Identity}
use Rattle.fix_base.specs.EndStep.{Role, Initiator, Acceptor, Connection, EndState, Row, Move}
use Rattle.fix_base.specs.World as world
use Rattle.fix_base.specs.World.{Peer, World, wrote_at, new_peer, new_world, rested, PeerStep, First, Second, Who, identity_of, peer_of, other_of, with_peer, Event, Does, WorldRun, IsPlain, EachPlain, AgreesWith, GivesBy, gives, MarksRepeats, WorldAgrees, ComeInOrder}
use Rattle.fix_base.proofs.StatedLemmas.{in_order}
use Rattle.fix_base.proofs.FollowsLemmas.{Agrees-new, KeepsUp-more}
use Rattle.fix_base.proofs.Ways as ways
use Rattle.fix_base.proofs.Ways.{Later, Own, Comes, Heeds, Way, ViewStep, Pair, swapped}
use Rattle.fix_base.proofs.RowLemmas.{folded_grows, read_row}
use Rattle.fix_base.proofs.ListLemmas.{some_same}
use Rattle.fix_base.proofs.WriterLemmas.{writer_steps, writer_moves, own_steps, own_moves}
use Rattle.fix_base.proofs.PeerLemmas.{wrote_comes, reader_steps, reader_moves, HasGiven, step_marks, step_given, step_gives}

-- ---- the invariant

pub view_pair : {id : Identity} (a o a' : Peer) (x : Act) → Pair a o → ViewStep id a o x a' → IsPlain x → Pair a' o
view_pair a o a' x p step h = record { own = own_steps a o a' x p.own step h; own_other = p.own_other; way = reader_steps a o a' x p.own_other p.way step h; back = writer_steps o a o a' x p.back step h }

-- what an act is as far as it matters
heeds_read : {id : Identity} {s s' : EndState} {f : Peer} {n : ℕ} {b : List ℕ} (c : Connection) → s.connection ≡ Some c → IsPrefixOf (c.read ++ b) (wrote_at n f.log) → Row id s (act.Read b) s' → (d : Connection) → s'.connection ≡ Some d → Heeds f n s' d
heeds_read {f = f} {n = n} {b = b} c o front row d q =
    let r = read_row row in
    let was : c ≡ r.was = some_same c r.was (sym o ∙ r.is_open) in
    inl (subst (λ (k : Connection). Comes f n k.read) (some_same _ d (sym r.connection ∙ q)) (subst (λ (k : Connection). Comes f n (k.read ++ b)) was (wrote_comes f n (c.read ++ b) front)))

viewed : {id : Identity} (a o a' : Peer) (x : Act) → PeerStep id a o x a' → ViewStep id a o x a'
viewed a o a' x (world.opens c lt step) = ways.opens c lt step
viewed a o a' x (world.reads b c o' front step) = ways.reads b (heeds_read c o' front step.row) step
viewed a o a' x (world.writes b step) = ways.writes b step
viewed a o a' x (world.hands n marked body step) = ways.hands n marked body step
viewed a o a' x (world.loses n marked body step) = ways.loses n marked body step
viewed a o a' x (world.rests y quiet step) = ways.rests y quiet step

step_pair : {id : Identity} (a o a' : Peer) (x : Act) → Pair a o → PeerStep id a o x a' → IsPlain x → Pair a' o
step_pair a o a' x p step h = view_pair a o a' x p (viewed a o a' x step) h

pub move_pair : (a o : Peer) (s' : EndState) → Pair a o → Move a.state s' → Pair (rested a s') o
move_pair a o s' p m = record { own = own_moves a s' p.own m; own_other = p.own_other; way = reader_moves a o s' p.own_other p.way m; back = writer_moves o a s' p.back p.own m }

abbrev Holds : World → Type 0
Holds w = Pair w.first w.second

along : {id : Identity} {w w' : World} {events : List Event} → WorldRun id w events w' → EachPlain events → Holds w → Holds w'
along world.stop plain p = p
along (world.step {w = w} {a' = a'} First x step d) plain p = along d plain.1 (step_pair w.first w.second a' x p step plain.0)
along (world.step {w = w} {a' = a'} Second x step d) plain p = along d plain.1 (swapped (step_pair w.second w.first a' x (swapped p) step plain.0))
along (world.move {w = w} {s' = s'} First m d) plain p = along d plain (move_pair w.first w.second s' p m)
along (world.move {w = w} {s' = s'} Second m d) plain p = along d plain (swapped (move_pair w.second w.first s' (swapped p) m))

later_new : {role : Role} (c : ℕ) (h : End) → Later (new_peer role) c h → IsPersistent h
later_new c h ways.now = record { each = λ x m. elim m [ ] }
later_new c h (ways.opened l m lt) = elim m [ ]

new_own : (role : Role) → Own (new_peer role)
new_own role = record { below = λ l m. elim m [ ]; last = λ c o. cc; wrote = λ l m. elim m [ ]; plain = λ r e. cc; persistent = later_new }

new_way : (role other : Role) → Way (new_peer role) (new_peer other)
new_way role other =
    record {
      follows = λ h later. record { now = Agrees-new h; running = λ e. Agrees-new h; settled = λ r e. cc };
      read = λ c o. cc;
      told = λ g m. elim m [ ];
      known = λ g m. elim m [ ];
      before = λ g m. elim m [ ];
      certain = λ c o. refl;
      behind = λ l m. elim m [ ];
      gave = λ c o. cc;
    }

pub new_holds : Pair (new_peer Initiator) (new_peer Acceptor)
new_holds = record { own = new_own Initiator; own_other = new_own Acceptor; way = new_way Initiator Acceptor; back = new_way Acceptor Initiator }

-- ---- agreement

agrees_with : (a o : Peer) → Own o → Way a o → AgreesWith a.state o.state
agrees_with a o own w =
    let now = w.follows o.state.end ways.now in
    record { now = now; settled = λ r e. KeepsUp-more (folded_grows o.state.end r (own.plain r e)) now }

-- ---- marks

record Split (id : Identity) (w : World) (xs ys : List Event) (w' : World) : Type 0 where
  mid : World
  front : WorldRun id w xs mid
  back : WorldRun id mid ys w'

split : {id : Identity} {w w' : World} {events : List Event} (xs ys : List Event) → WorldRun id w events w' → events ≡ xs ++ ys → Split id w xs ys w'
split {id = id} {w = w} {w' = w'} [] ys d e = record { mid = w; front = world.stop; back = subst (λ z. WorldRun id w z w') e d }
split (x ∷ xs) ys world.stop e = cc
split {id = id} {w' = w'} (y ∷ xs) ys (world.step {w = w} {events = events} who x step d) e =
    let same : Does who x ≡ y = cc in
    let others : events ≡ xs ++ ys = cc in
    let s = split xs ys d others in
    record { mid = s.mid; front = subst (λ z. WorldRun id w (z ∷ xs) s.mid) same (world.step who x step s.front); back = s.back }
split (y ∷ xs) ys (world.move who m d) e =
    let s = split (y ∷ xs) ys d e in
    record { mid = s.mid; front = world.move who m s.front; back = s.back }

plain_front : (xs ys : List Event) → EachPlain (xs ++ ys) → EachPlain xs
plain_front [] ys h = tt
plain_front (Does who x ∷ xs) ys h = (h.0, plain_front xs ys h.1)

given_stays : {id : Identity} {w w' : World} {events : List Event} (who : Who) (n : ℕ) → WorldRun id w events w' → HasGiven (peer_of who w) n → HasGiven (peer_of who w') n
given_stays who n world.stop had = had
given_stays First n (world.step {w = w} {a' = a'} First x step d) had = given_stays First n d (step_given w.first w.second a' x n (viewed w.first w.second a' x step) had)
given_stays First n (world.step Second x step d) had = given_stays First n d had
given_stays Second n (world.step First x step d) had = given_stays Second n d had
given_stays Second n (world.step {w = w} {a' = a'} Second x step d) had = given_stays Second n d (step_given w.second w.first a' x n (viewed w.second w.first a' x step) had)
given_stays First n (world.move First m d) had = given_stays First n d (record { given = had.given; among = had.among; number = had.number })
given_stays First n (world.move Second m d) had = given_stays First n d had
given_stays Second n (world.move First m d) had = given_stays Second n d had
given_stays Second n (world.move Second m d) had = given_stays Second n d (record { given = had.given; among = had.among; number = had.number })

event_gives : (id : Identity) (who by : Who) (w : World) (a' : Peer) (x : Act) (n : ℕ) (marked : Bool) → GivesBy who n marked (Does by x) → PeerStep (identity_of by id) (peer_of by w) (other_of by w) x a' → HasGiven (peer_of who (with_peer by w a')) n
event_gives id First First w a' x n marked (gives y g) step = step_gives w.first w.second a' x n marked g (viewed w.first w.second a' x step)
event_gives id First Second w a' x n marked g step = elim g [ ]
event_gives id Second First w a' x n marked g step = elim g [ ]
event_gives id Second Second w a' x n marked (gives y g) step = step_gives w.second w.first a' x n marked g (viewed w.second w.first a' x step)

-- what one of the events gave is known behind them
given_along : {id : Identity} {w w' : World} {events : List Event} (who : Who) (n : ℕ) (marked : Bool) (e : Event) → WorldRun id w events w' → Among e events → GivesBy who n marked e → HasGiven (peer_of who w') n
given_along who n marked e world.stop m g = elim m [ ]
given_along {id = id} who n marked e (world.step {w = w} {a' = a'} by x step d) here g = given_stays who n d (event_gives id who by w a' x n marked g step)
given_along who n marked e (world.step by x step d) (there m) g = given_along who n marked e d m g
given_along who n marked e (world.move by m d) k g = given_along who n marked e d k g

event_marked : (id : Identity) (who by : Who) (w : World) (a' : Peer) (x : Act) (n : ℕ) (marked : Bool) → GivesBy who n marked (Does by x) → Holds w → PeerStep (identity_of by id) (peer_of by w) (other_of by w) x a' → HasGiven (peer_of who w) n → marked ≡ true
event_marked id First First w a' x n marked (gives y g) p step had = step_marks w.first w.second a' x n marked p.own_other p.way g (viewed w.first w.second a' x step) had
event_marked id First Second w a' x n marked g p step had = elim g [ ]
event_marked id Second First w a' x n marked g p step had = elim g [ ]
event_marked id Second Second w a' x n marked (gives y g) p step had = step_marks w.second w.first a' x n marked p.own p.back g (viewed w.second w.first a' x step) had

next_marked : {id : Identity} {w w' : World} {events : List Event} (who : Who) (n : ℕ) (marked : Bool) (e : Event) (after : List Event) → WorldRun id w events w' → events ≡ e ∷ after → GivesBy who n marked e → Holds w → HasGiven (peer_of who w) n → marked ≡ true
next_marked who n marked e after world.stop same g p had = cc
next_marked {id = id} who n marked e after (world.step {w = w} {a' = a'} by x step d) same g p had =
    let first : e ≡ Does by x = cc in
    event_marked id who by w a' x n marked (subst (GivesBy who n marked) first g) p step had
next_marked First n marked e after (world.move {w = w} {s' = s'} First m d) same g p had = next_marked First n marked e after d same g (move_pair w.first w.second s' p m) (record { given = had.given; among = had.among; number = had.number })
next_marked Second n marked e after (world.move {w = w} {s' = s'} First m d) same g p had = next_marked Second n marked e after d same g (move_pair w.first w.second s' p m) had
next_marked First n marked e after (world.move {w = w} {s' = s'} Second m d) same g p had = next_marked First n marked e after d same g (swapped (move_pair w.second w.first s' (swapped p) m)) had
next_marked Second n marked e after (world.move {w = w} {s' = s'} Second m d) same g p had = next_marked Second n marked e after d same g (swapped (move_pair w.second w.first s' (swapped p) m)) (record { given = had.given; among = had.among; number = had.number })

marks : {id : Identity} (w : World) (events : List Event) → WorldRun id new_world events w → EachPlain events → MarksRepeats events
marks w events d plain =
    record {
      each = λ before after e earlier who n marked was same m g0 g. (
          let s = split before (e ∷ after) d same in
          let plain_before = plain_front before (e ∷ after) (subst EachPlain same plain) in
          next_marked who n marked e after s.back refl g (along s.front plain_before new_holds) (given_along who n was earlier s.front m g0));
    }

-- the law
pub agrees : (id : Identity) (w : World) (events : List Event) → WorldRun id new_world events w → EachPlain events → WorldAgrees events w
agrees id w events d plain =
    let p = along d plain new_holds in
    record { first = agrees_with w.first w.second p.own_other p.way; second = agrees_with w.second w.first p.own p.back; marks = marks w events d plain }

-- nothing comes behind a later message
pub come_in_order : (id : Identity) (w : World) (events : List Event) → WorldRun id new_world events w → EachPlain events → ComeInOrder w
come_in_order id w events d plain =
    let a = agrees id w events d plain in
    record { first = in_order w.first.state.end.stored w.first.state.handled w.second.state.end a.first.now.now; second = in_order w.second.state.end.stored w.second.state.handled w.first.state.end a.second.now.now }
