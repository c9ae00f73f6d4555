-- What stays true of two ends that reset by Logon: since the last shared reset they are two ends of a
-- world without resets.
use Rattle.std.proofs.Common.{◌≡◌, ◌⊎◌, ◌<◌, ◌≤◌, List, [], ◌∷◌, ◌++◌, Option, Some, None, refl, sym, ◌∙◌, subst, arith}
use Rattle.fix_base.specs.Lists.{Among, here}
use Rattle.fix_base.specs.Session.{Identity}
use Rattle.fix_base.specs.End.{Record, Push, Expect, Many, Withhold, Reset, ResetAsk, Confirm}
use Rattle.fix_base.specs.Act.{Act}
use Rattle.fix_base.specs.EndStep as steps
use Rattle.fix_base.specs.EndStep.{Role, Initiator, Acceptor, Connection, EndState, IsAsking, EndStep, Move}
use Rattle.fix_base.specs.World.{Peer, IsQuiet, IsPlainRecord, IsPlain}
use Rattle.fix_base.specs.Resets as resets
use Rattle.fix_base.specs.Resets.{EpochPeer, new_epoch_peer, AgreesSince, IsLater, IsAhead, EpochStep, EpochMove, still, StartsAnew}
use Rattle.fix_base.proofs.ListLemmas.{some_same}
use Rattle.fix_base.proofs.Ways as ways
use Rattle.fix_base.proofs.Ways.{Own, Way}
use Rattle.fix_base.proofs.RowLemmas.{DoubtIsPlain, move_plain, same_asking, row_asking, row_plain, row_same, move_same, quiet_connection, wrote_row, handed_row, lost_row, move_connection}
use Rattle.fix_base.proofs.WorldLemmas.{new_holds}
use Rattle.fix_base.proofs.ResetParts.{FollowsAll, asks_on, asks_moves, nothing_handled, seen_as, marks_none, IsSure}
use Rattle.fix_base.proofs.Eras.{Era, Current, together, unread, away, Inv}
use Rattle.fix_base.proofs.EpochAccepts.{a_opens, a_reads, a_writes, a_rests, a_moves, a_hands, a_loses, a_resets}
use Rattle.fix_base.proofs.EpochShared.{Joint, joint_of, inv_of, j_opens, j_reads, j_writes, j_hands, j_loses, j_rests, j_moves, confirm_row, j_confirms}
use Rattle.fix_base.proofs.EpochAsks.{i_asks, i_opens_asking, lonely_rests, lonely_moves, ahead_still, ahead_writes, ahead_asking, ahead_reads, no_answer, none_of, away_still}

-- ---- all acts

plain_not_anew : (r : Record) → IsPlainRecord r → StartsAnew r → ⊥
plain_not_anew (Push e) p h = h
plain_not_anew (Expect k) p h = h
plain_not_anew (Many pushes k) p h = h
plain_not_anew (Withhold n) p h = h
plain_not_anew (Reset t) p h = p
plain_not_anew (ResetAsk t) p h = p
plain_not_anew Confirm p h = p

no_role : {r : Role} {A : Type 0} → r ≡ Initiator → r ≡ Acceptor → A
no_role a b = cc

pub accepts_step : {id : Identity} {i a a' : EpochPeer} (x : Act) → Inv i a → EpochStep id a i x a' → IsSure x → Inv i a'
accepts_step x v (resets.opens c free lt step) sure = a_opens v c lt step
accepts_step x v (resets.opens_asking c asking lt step) sure = no_role asking.0 v.acceptor.role
accepts_step x v (resets.reads b c o front step) sure = a_reads v b c o front step
accepts_step x v (resets.writes b step) sure = a_writes v b step
accepts_step x v (resets.hands n epoch marked body at step) sure = a_hands v n epoch marked body at step
accepts_step x v (resets.loses n epoch marked body at step) sure = a_loses v n epoch marked body at step
accepts_step x v (resets.resets t role asked step) sure = a_resets v t asked step
accepts_step x v (resets.loses_reset t role asked step) sure = absurd sure
accepts_step x v (resets.asks t role step) sure = no_role role v.acceptor.role
accepts_step x v (resets.loses_ask t role step) sure = absurd sure
accepts_step x v (resets.confirms role step) sure = no_role role v.acceptor.role
accepts_step x v (resets.loses_confirm role step) sure = absurd sure
accepts_step x v (resets.rests y quiet plain step) sure = a_rests v y quiet plain step

pub accepts_move : {i a a' : EpochPeer} → Inv i a → EpochMove a a' → Inv i a'
accepts_move v (resets.moves m known) = a_moves v m
accepts_move v (resets.forgets r e anew) = absurd (plain_not_anew r (v.pair.own_other.plain r e) anew)
accepts_move v (resets.has_reset t e) = absurd (v.pair.own_other.plain (Reset t) e)
accepts_move v (resets.has_asked t e) = absurd (v.pair.own_other.plain (ResetAsk t) e)

-- where it is with the acceptor
with_acceptor : {id : Identity} {i a i' : EpochPeer} (x : Act) (v : Inv i a) → Joint i a → EpochStep id i a x i' → IsSure x → Inv i' a
with_acceptor x v j (resets.opens c free lt step) sure = inv_of (j_opens j c free lt step)
with_acceptor x v j (resets.opens_asking c asking lt step) sure = i_opens_asking v c asking lt step
with_acceptor x v j (resets.reads b c o front step) sure = inv_of (j_reads j b c o front step)
with_acceptor x v j (resets.writes b step) sure = inv_of (j_writes j b step)
with_acceptor x v j (resets.hands n epoch marked body e step) sure = inv_of (j_hands j n epoch marked body e step)
with_acceptor x v j (resets.loses n epoch marked body e step) sure = inv_of (j_loses j n epoch marked body e step)
with_acceptor x v j (resets.resets t role asked step) sure = no_role v.initiator.role role
with_acceptor x v j (resets.loses_reset t role asked step) sure = absurd sure
with_acceptor x v j (resets.asks t role step) sure = i_asks v t step
with_acceptor x v j (resets.loses_ask t role step) sure = absurd sure
with_acceptor {i = i} {a = a} x v j (resets.confirms role step) sure = let r = confirm_row step.row in subst (λ z. Inv (still i z) a) (sym r.is) (inv_of (j_confirms j r.was r.is_open step.certain))
with_acceptor x v j (resets.loses_confirm role step) sure = absurd sure
with_acceptor x v j (resets.rests y quiet plain step) sure = inv_of (j_rests j y quiet plain step)

-- where it is ahead
before_acceptor : {id : Identity} {i a i' : EpochPeer} (x : Act) (v : Inv i a) (y : Era) (rest : List Era) → v.eras ≡ y ∷ rest → y.peer.state ≡ i.state → y.peer.number ≡ i.number → i.epoch ≡ Some y.number → EpochStep id i a x i' → IsSure x → Inv i' a
before_acceptor x v y rest is state number at (resets.opens c free lt step) sure = absurd (free (ahead_asking v y rest is state))
before_acceptor x v y rest is state number at (resets.opens_asking c asking lt step) sure = i_opens_asking v c asking lt step
before_acceptor x v y rest is state number at (resets.reads b c o front step) sure = ahead_reads v y rest is state number at b c o front step
before_acceptor x v y rest is state number at (resets.writes b step) sure = ahead_writes v y rest is state number at b step
before_acceptor x v y rest is state number at (resets.hands n epoch marked body e step) sure = absurd ((handed_row step.row).free (steps.asks (ahead_asking v y rest is state)))
before_acceptor x v y rest is state number at (resets.loses n epoch marked body e step) sure = absurd ((lost_row step.row).free (steps.asks (ahead_asking v y rest is state)))
before_acceptor x v y rest is state number at (resets.resets t role asked step) sure = no_role v.initiator.role role
before_acceptor x v y rest is state number at (resets.loses_reset t role asked step) sure = absurd sure
before_acceptor x v y rest is state number at (resets.asks t role step) sure = i_asks v t step
before_acceptor x v y rest is state number at (resets.loses_ask t role step) sure = absurd sure
before_acceptor x v y rest is state number at (resets.confirms role step) sure = let r = confirm_row step.row in absurd (no_answer v y rest is number r.was r.begun (v.reads r.was r.is_open))
before_acceptor x v y rest is state number at (resets.loses_confirm role step) sure = absurd sure
before_acceptor {id = id} x v y rest is state number at (resets.rests {s' = s'} z quiet plain step) sure =
    ahead_still v y rest is number at s' (lonely_rests z (v.lonely y (subst (λ w. Among y w) (sym is) here)).0 quiet plain (subst (λ k. EndStep id k z s') (sym state) step)) (row_same step.certain step.row plain).role
    (λ c o. v.initiator.silent c (quiet_connection step.certain step.row quiet plain c o)) (λ c o. v.reads c (quiet_connection step.certain step.row quiet plain c o))

no_open : {o : Option Connection} {c : Connection} {A : Type 0} → o ≡ None → o ≡ Some c → A
no_open none some = cc

-- where it is away
away_rests : {id : Identity} {i a : EpochPeer} {s' : EndState} (v : Inv i a) (y : Act) → i.epoch ≡ None → IsAsking i.state → FollowsAll i.state → i.state.connection ≡ None → IsQuiet y → IsPlain y → EndStep id i.state y s' → Inv (still i s') a
away_rests {i = i} {s' = s'} v y at asking follows alone quiet p step =
    away_still v s' at (row_same step.certain step.row p).role (row_asking step.certain step.row p asking) (asks_on i.state s' y asking step.certain step.row follows)
    (none_of s'.connection (λ c o. no_open alone (quiet_connection step.certain step.row quiet p c o))) (row_plain step.row step.certain p)

from_acceptor : {id : Identity} {i a i' : EpochPeer} (x : Act) (v : Inv i a) → i.epoch ≡ None → IsAsking i.state → FollowsAll i.state → i.state.connection ≡ None → EpochStep id i a x i' → IsSure x → Inv i' a
from_acceptor x v at asking follows alone (resets.opens c free lt step) sure = absurd (free asking)
from_acceptor x v at asking follows alone (resets.opens_asking c h lt step) sure = i_opens_asking v c h lt step
from_acceptor x v at asking follows alone (resets.reads b c o front step) sure = no_open alone o
from_acceptor x v at asking follows alone (resets.writes b step) sure = no_open alone (wrote_row step.row).is_open
from_acceptor x v at asking follows alone (resets.hands n epoch marked body e step) sure = absurd ((handed_row step.row).free (steps.asks asking))
from_acceptor x v at asking follows alone (resets.loses n epoch marked body e step) sure = absurd ((lost_row step.row).free (steps.asks asking))
from_acceptor x v at asking follows alone (resets.resets t role asked step) sure = no_role v.initiator.role role
from_acceptor x v at asking follows alone (resets.loses_reset t role asked step) sure = absurd sure
from_acceptor x v at asking follows alone (resets.asks t role step) sure = i_asks v t step
from_acceptor x v at asking follows alone (resets.loses_ask t role step) sure = absurd sure
from_acceptor x v at asking follows alone (resets.confirms role step) sure = no_open alone (confirm_row step.row).is_open
from_acceptor x v at asking follows alone (resets.loses_confirm role step) sure = absurd sure
from_acceptor x v at asking follows alone (resets.rests y quiet p step) sure = away_rests v y at asking follows alone quiet p step

-- by where the initiator is
pub initiates_in : {id : Identity} {i a i' : EpochPeer} (x : Act) (v : Inv i a) → Current i v.e v.vi v.eras → EpochStep id i a x i' → IsSure x → Inv i' a
initiates_in x v (together ilog igiven none seen at inside asks) step sure = with_acceptor x v (joint_of v ilog igiven none seen at inside asks) step sure
initiates_in x v (unread y rest is state number at) step sure = before_acceptor x v y rest is state number at step sure
initiates_in x v (away at asking follows alone plain) step sure = from_acceptor x v at asking follows alone step sure

pub now_plain : {i a : EpochPeer} (v : Inv i a) → Current i v.e v.vi v.eras → DoubtIsPlain i.state
now_plain v (together ilog igiven none seen at inside asks) = (joint_of v ilog igiven none seen at inside asks).pair.own.plain
now_plain v (unread y rest is state number at) = subst DoubtIsPlain state (v.lonely y (subst (λ w. Among y w) (sym is) here)).0.own.plain
now_plain v (away at asking follows alone plain) = plain

pub initiates_move : {i a i' : EpochPeer} (v : Inv i a) → Current i v.e v.vi v.eras → EpochMove i i' → Inv i' a
initiates_move v (together ilog igiven none seen at inside asks) (resets.moves m known) = inv_of (j_moves (joint_of v ilog igiven none seen at inside asks) m)
initiates_move {i = i} v (unread y rest is state number at) (resets.moves {s' = s'} m known) =
    ahead_still v y rest is number at s' (lonely_moves (v.lonely y (subst (λ w. Among y w) (sym is) here)).0 (subst (λ k. Move k s') (sym state) m))
    (move_same m (subst DoubtIsPlain state (v.lonely y (subst (λ w. Among y w) (sym is) here)).0.own.plain)).role (λ c o. v.initiator.silent c (move_connection m c o)) (λ c o. v.reads c (move_connection m c o))
initiates_move {i = i} v (away at asking follows alone plain) (resets.moves {s' = s'} m known) =
    away_still v s' at (move_same m plain).role (same_asking i.state s' (move_same m plain) asking) (asks_moves i.state s' asking m follows) (none_of s'.connection (λ c o. (let was = move_connection m c o in cc))) (move_plain m plain)
initiates_move v k (resets.forgets r e anew) = absurd (plain_not_anew r (now_plain v k r e) anew)
initiates_move v k (resets.has_reset t e) = absurd (now_plain v k (Reset t) e)
initiates_move v k (resets.has_asked t e) = absurd (now_plain v k (ResetAsk t) e)

-- ---- the law

pub new_inv : Inv (new_epoch_peer Initiator) (new_epoch_peer Acceptor)
new_inv = record {
  e = 0;
  vi = seen_as (new_epoch_peer Initiator) [] [];
  alog = [];
  agiven = [];
  eras = [];
  pair = new_holds;
  lonely = λ x m. elim m [ ];
  acceptor = record { role = refl; epoch = refl; inside = omega arith; older = []; log = refl; old = λ l m. elim m [ ]; descends = tt; below = λ l m. elim m [ ]; covers = λ h m. elim m [ ]; recent = λ h m. elim m [ ]; kept = λ c o. cc; answers = λ l m. elim m [ ]; marks = marks_none };
  initiator = record { role = refl; within = omega arith; older = []; log = refl; old = λ l m. elim m [ ]; descends = tt; below = λ l m. elim m [ ]; covers = λ h m. elim m [ ]; recent = λ h m. elim m [ ]; silent = λ c o. cc; asked = λ l m. elim m [ ]; marks = marks_none; current = together [] [] refl refl refl (omega arith) (λ h. (let wrong = h.1 in cc)) };
  reads = λ c o. cc;
  reads_back = λ c o. cc;
}

since : (a o : Peer) → Own o → Way a o → a.state.doubt ≡ None → AgreesSince a.state o.state
since a o own w none = let k = w.follows o.state.end ways.now in record { kept = k.now; running = k.running none }

pub shared_by : {i a : EpochPeer} (v : Inv i a) → Current i v.e v.vi v.eras → i.state.doubt ≡ None → a.state.doubt ≡ None → i.epoch ≡ a.epoch → AgreesSince i.state a.state × AgreesSince a.state i.state
unfolding joint_of
shared_by {i = i} {a = a} v (together ilog igiven none seen at inside asks) p q same =
    let j = joint_of v ilog igiven none seen at inside asks in
    (since (seen_as i ilog igiven) (seen_as a j.alog j.agiven) j.pair.own_other j.pair.way p, since (seen_as a j.alog j.agiven) (seen_as i ilog igiven) j.pair.own j.pair.back q)
shared_by v (unread y rest is state number at) p q same = let lt = (v.lonely y (subst (λ w. Among y w) (sym is) here)).1 in let e = some_same y.number v.e (sym at ∙ same ∙ v.acceptor.epoch) in absurd (omega (arith, lt, e))
shared_by v (away at asking follows alone plain) p q same = let e : None ≡ Some v.e = sym at ∙ same ∙ v.acceptor.epoch in cc

pub apart_by : {i a : EpochPeer} (v : Inv i a) → Current i v.e v.vi v.eras → (i.epoch ≡ a.epoch → ⊥) → IsAhead (record { initiator = i; acceptor = a })
apart_by v (together ilog igiven none seen at inside asks) differ = absurd (differ (at ∙ sym v.acceptor.epoch))
apart_by {i = i} {a = a} v (unread y rest is state number at) differ =
    let one = v.lonely y (subst (λ w. Among y w) (sym is) here) in
    record { later = subst (λ p. IsLater p a.epoch) (sym at) (subst (λ q. IsLater (Some y.number) q) (sym v.acceptor.epoch) (resets.greater v.e y.number one.1)); nothing = nothing_handled i.state (subst FollowsAll state one.0.follows); asked = (ahead_asking v y rest is state).1 }
apart_by {i = i} {a = a} v (away at asking follows alone plain) differ =
    record { later = subst (λ p. IsLater p a.epoch) (sym at) (subst (λ q. IsLater None q) (sym v.acceptor.epoch) (resets.asked_for v.e)); nothing = nothing_handled i.state follows; asked = asking.1 }
