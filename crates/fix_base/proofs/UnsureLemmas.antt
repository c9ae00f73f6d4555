-- Two ends that reset by Logon, where it isn't known of a record for a reset whether it was kept: what
-- holds of both settled states.
use Rattle.std.proofs.Common.{◌≡◌, ◌⊎◌, inl, inr, ℕ, List, [], ◌∷◌, ◌++◌, Option, Some, None, refl, sym, ap, ◌∙◌, subst}
use Rattle.fix_base.specs.Lists.{IsPrefixOf}
use Rattle.fix_base.specs.Session.{Identity}
use Rattle.fix_base.specs.Logon.{IsFirstLogon, Begun}
use Rattle.fix_base.specs.End.{Record, Push, Expect, Many, Withhold, Reset, ResetAsk, Confirm, End, folded}
use Rattle.fix_base.specs.Act as act
use Rattle.fix_base.specs.Act.{Act}
use Rattle.fix_base.specs.EndStep as steps
use Rattle.fix_base.specs.EndStep.{Role, Initiator, Acceptor, Connection, EndState, IsAsking, IsAskedReset, Row, EndStep, Move}
use Rattle.fix_base.specs.World.{Logged, wrote_at, IsPlainRecord, IsPlain}
use Rattle.fix_base.specs.Resets as resets
use Rattle.fix_base.specs.Resets.{EpochPeer, EpochPeers, EpochStep, EpochMove, ResetEvent, ResetsRun, still, reset_epoch_peer, asking_epoch_peer, reopened_log, settled_anew, StartsAnew, MarksSince, ResetsAgree, new_epoch_peer, new_epoch_peers}
use Rattle.fix_base.proofs.ListLemmas.{some_same}
use Rattle.fix_base.proofs.RowLemmas.{row_plain, move_plain}
use Rattle.fix_base.proofs.ResetParts.{IsSureRecord, IsSure}
use Rattle.fix_base.proofs.Eras.{Inv}
use Rattle.fix_base.proofs.EpochAccepts.{reset_state, stays}
use Rattle.fix_base.proofs.EpochShared.{confirm_state}
use Rattle.fix_base.proofs.ResetLemmas.{accepts_step, accepts_move, initiates_in, initiates_move, now_plain, shared_by, apart_by, new_inv}

-- the peer where a record for a reset that is in doubt has settled
abbrev forgotten : EpochPeer → EpochPeer
forgotten p = still p (record p.state { expected = p.state.end.stored; doubt = None })

abbrev confirmed : EpochPeer → EpochPeer
confirmed p = still p (record p.state { end = folded p.state.end Confirm; expected = p.state.end.stored; doubt = None })

pub data Settles (p q : EpochPeer) : Type 0 where
  calm : ((r : Record) → p.state.doubt ≡ Some r → IsSureRecord r) → q ≡ p → Settles p q
  without : (r : Record) → p.state.doubt ≡ Some r → (IsSureRecord r → ⊥) → q ≡ forgotten p → Settles p q
  as_reset : (t : ℕ) → p.state.doubt ≡ Some (Reset t) → q ≡ reset_epoch_peer p (settled_anew p.state (Reset t)) → Settles p q
  as_asked : (t : ℕ) → p.state.doubt ≡ Some (ResetAsk t) → q ≡ asking_epoch_peer p (settled_anew p.state (ResetAsk t)) → Settles p q
  as_confirmed : p.state.doubt ≡ Some Confirm → q ≡ confirmed p → Settles p q

-- a peer in such a doubt has no connection
abbrev Lone : EpochPeer → Type 0
Lone p = (r : Record) → p.state.doubt ≡ Some r → (IsSureRecord r → ⊥) → p.state.connection ≡ None

-- what holds of two peers whichever way a reset in doubt settles
record Both (i a : EpochPeer) : Type 0 where
  each : (p q : EpochPeer) → Settles i p → Settles a q → Inv p q
  lone : Lone i
  lone_back : Lone a

settles_sure : {p q : EpochPeer} → ((r : Record) → p.state.doubt ≡ Some r → IsSureRecord r) → Settles p q → p ≡ q
settles_sure h (calm k is) = sym is
settles_sure h (without r e k is) = absurd (k (h r e))
settles_sure h (as_reset t e is) = absurd (h (Reset t) e)
settles_sure h (as_asked t e is) = absurd (h (ResetAsk t) e)
settles_sure h (as_confirmed e is) = absurd (h Confirm e)

is_calm : (p : EpochPeer) → p.state.doubt ≡ None → Settles p p
is_calm p none = calm (λ r e. cc) refl

plain_sure : (r : Record) → IsPlainRecord r → IsSureRecord r
plain_sure (Push e) h = tt
plain_sure (Expect k) h = tt
plain_sure (Many pushes k) h = tt
plain_sure (Withhold n) h = tt
plain_sure (Reset t) h = absurd h
plain_sure (ResetAsk t) h = absurd h
plain_sure Confirm h = absurd h

-- what was written is the same however a doubt settles
reopened_wrote : (n : ℕ) (log : List Logged) (e : End) → wrote_at n (reopened_log log e) ≡ wrote_at n log
reopened_wrote n [] e = refl
reopened_wrote n (l ∷ log) e = refl

same_wrote : {o q : EpochPeer} (n : ℕ) → Settles o q → wrote_at n q.log ≡ wrote_at n o.log
same_wrote n (calm h is) = ap (λ (z : EpochPeer). wrote_at n z.log) is
same_wrote n (without r e h is) = ap (λ (z : EpochPeer). wrote_at n z.log) is
same_wrote {o = o} n (as_reset t e is) = ap (λ (z : EpochPeer). wrote_at n z.log) is ∙ reopened_wrote n o.log (folded o.state.end (Reset t))
same_wrote n (as_asked t e is) = ap (λ (z : EpochPeer). wrote_at n z.log) is
same_wrote n (as_confirmed e is) = ap (λ (z : EpochPeer). wrote_at n z.log) is

-- so a step beside the other is one beside it settled
beside : {id : Identity} {p o q p' : EpochPeer} {x : Act} → Settles o q → EpochStep id p o x p' → EpochStep id p q x p'
beside s (resets.opens c free lt step) = resets.opens c free lt step
beside s (resets.opens_asking c asking lt step) = resets.opens_asking c asking lt step
beside {p = p} s (resets.reads b c o front step) = resets.reads b c o (subst (λ w. IsPrefixOf (c.read ++ b) w) (sym (same_wrote p.number s)) front) step
beside s (resets.writes b step) = resets.writes b step
beside s (resets.hands n epoch marked body at step) = resets.hands n epoch marked body at step
beside s (resets.loses n epoch marked body at step) = resets.loses n epoch marked body at step
beside s (resets.resets t role asked step) = resets.resets t role asked step
beside s (resets.loses_reset t role asked step) = resets.loses_reset t role asked step
beside s (resets.asks t role step) = resets.asks t role step
beside s (resets.loses_ask t role step) = resets.loses_ask t role step
beside s (resets.confirms role step) = resets.confirms role step
beside s (resets.loses_confirm role step) = resets.loses_confirm role step
beside s (resets.rests y quiet plain step) = resets.rests y quiet plain step

certain_step : {id : Identity} {p o p' : EpochPeer} {x : Act} → EpochStep id p o x p' → p.state.doubt ≡ None
certain_step (resets.opens c free lt step) = step.certain
certain_step (resets.opens_asking c asking lt step) = step.certain
certain_step (resets.reads b c o front step) = step.certain
certain_step (resets.writes b step) = step.certain
certain_step (resets.hands n epoch marked body at step) = step.certain
certain_step (resets.loses n epoch marked body at step) = step.certain
certain_step (resets.resets t role asked step) = step.certain
certain_step (resets.loses_reset t role asked step) = step.certain
certain_step (resets.asks t role step) = step.certain
certain_step (resets.loses_ask t role step) = step.certain
certain_step (resets.confirms role step) = step.certain
certain_step (resets.loses_confirm role step) = step.certain
certain_step (resets.rests y quiet plain step) = step.certain

-- ---- acts after which no record for a reset is in doubt

reset_doubt : {id : Identity} {s s' : EndState} {t : ℕ} → Row id s (act.Kept (Reset t)) s' → s'.doubt ≡ s.doubt
reset_doubt (steps.kept_reset t c answer o stay asks) = refl
reset_doubt (steps.cut_reset t gone) = refl

ask_doubt : {id : Identity} {s s' : EndState} {t : ℕ} → Row id s (act.Kept (ResetAsk t)) s' → s'.doubt ≡ s.doubt
ask_doubt (steps.kept_ask t alone) = refl

confirm_doubt : {id : Identity} {s s' : EndState} → Row id s (act.Kept Confirm) s' → s'.doubt ≡ s.doubt
confirm_doubt (steps.kept_confirm c o asking begun) = refl

none_sure : {o : Option Record} → o ≡ None → (r : Record) → o ≡ Some r → IsSureRecord r
none_sure none r e = cc

sure_after : {id : Identity} {p o p' : EpochPeer} {x : Act} → EpochStep id p o x p' → IsSure x → (r : Record) → p'.state.doubt ≡ Some r → IsSureRecord r
sure_after (resets.opens c free lt step) sure r e = plain_sure r (row_plain step.row step.certain tt r e)
sure_after (resets.opens_asking c asking lt step) sure r e = plain_sure r (row_plain step.row step.certain tt r e)
sure_after (resets.reads b c o front step) sure r e = plain_sure r (row_plain step.row step.certain tt r e)
sure_after (resets.writes b step) sure r e = plain_sure r (row_plain step.row step.certain tt r e)
sure_after (resets.hands n epoch marked body at step) sure r e = plain_sure r (row_plain step.row step.certain tt r e)
sure_after (resets.loses n epoch marked body at step) sure r e = plain_sure r (row_plain step.row step.certain tt r e)
sure_after (resets.resets t role asked step) sure r e = none_sure (reset_doubt step.row ∙ step.certain) r e
sure_after (resets.loses_reset t role asked step) sure r e = absurd sure
sure_after (resets.asks t role step) sure r e = none_sure (ask_doubt step.row ∙ step.certain) r e
sure_after (resets.loses_ask t role step) sure r e = absurd sure
sure_after (resets.confirms role step) sure r e = none_sure (confirm_doubt step.row ∙ step.certain) r e
sure_after (resets.loses_confirm role step) sure r e = absurd sure
sure_after (resets.rests y quiet plain step) sure r e = plain_sure r (row_plain step.row step.certain plain r e)

sure_lone : (p : EpochPeer) → ((r : Record) → p.state.doubt ≡ Some r → IsSureRecord r) → Lone p
sure_lone p h r e unsure = absurd (unsure (h r e))

initiates_sure : {id : Identity} {i a i' : EpochPeer} (x : Act) → Both i a → EpochStep id i a x i' → IsSure x → Both i' a
initiates_sure {i = i} {a = a} {i' = i'} x b step sure = record {
  each = λ p q si sa. subst (λ z. Inv z q) (settles_sure (sure_after step sure) si) (let v = b.each i q (is_calm i (certain_step step)) sa in initiates_in x v v.initiator.current (beside sa step) sure);
  lone = sure_lone i' (sure_after step sure);
  lone_back = b.lone_back;
}

accepts_sure : {id : Identity} {i a a' : EpochPeer} (x : Act) → Both i a → EpochStep id a i x a' → IsSure x → Both i a'
accepts_sure {i = i} {a = a} {a' = a'} x b step sure = record {
  each = λ p q si sa. subst (λ z. Inv p z) (settles_sure (sure_after step sure) sa) (let v = b.each p a si (is_calm a (certain_step step)) in accepts_step x v (beside si step) sure);
  lone = b.lone;
  lone_back = sure_lone a' (sure_after step sure);
}

-- ---- acts after which one is

-- the state with this doubt and no connection
abbrev lost_state : EndState → Record → EndState
lost_state s r = record s { doubt = Some r; connection = None }

-- a state where nothing is in doubt, with that written out
abbrev with_doubt : EndState → Option Record → EndState
with_doubt s o = record s { doubt = o }

-- the initiator stops
i_stops : (id : Identity) (i q : EpochPeer) → Inv i q → i.state.doubt ≡ None → Inv (still i (record i.state { expected = i.state.end.stored; doubt = None; connection = None })) q
i_stops id i q v none =
    subst (λ o. Inv (still i (record i.state { expected = i.state.end.stored; doubt = o; connection = None })) q) none
    (initiates_in {id = id} act.Stop v v.initiator.current (resets.rests act.Stop tt tt (record { certain = none; row = steps.stopped })) tt)

a_stops : (id : Identity) (i q : EpochPeer) → Inv i q → q.state.doubt ≡ None → Inv i (still q (record q.state { expected = q.state.end.stored; doubt = None; connection = None }))
a_stops id i q v none =
    subst (λ o. Inv i (still q (record q.state { expected = q.state.end.stored; doubt = o; connection = None }))) none
    (accepts_step {id = id} act.Stop v (resets.rests act.Stop tt tt (record { certain = none; row = steps.stopped })) tt)

-- the records for a reset differ
ask_reset : {t u : ℕ} → Some (ResetAsk t) ≡ Some (Reset u) → ⊥
ask_reset e = cc

ask_confirm : {t : ℕ} → Some (ResetAsk t) ≡ Some Confirm → ⊥
ask_confirm e = cc

reset_confirm : {t : ℕ} → Some (Reset t) ≡ Some Confirm → ⊥
reset_confirm e = cc

-- a ResetAsk is lost, and was kept
kept_asks : (id : Identity) (i q : EpochPeer) (t : ℕ) → Inv i q → i.state.doubt ≡ None → i.state.connection ≡ None → i.state.role ≡ Initiator → Inv (asking_epoch_peer i (settled_anew (lost_state i.state (ResetAsk t)) (ResetAsk t))) q
kept_asks id i q t v none alone role =
    subst (λ c. Inv (asking_epoch_peer i (record i.state { end = folded i.state.end (ResetAsk t); expected = 1; handled = []; doubt = None; offered = None; connection = c })) q) alone
    (subst (λ o. Inv (asking_epoch_peer i (record i.state { end = folded i.state.end (ResetAsk t); expected = 1; handled = []; doubt = o; offered = None })) q) none
    (initiates_in {id = id} (act.Kept (ResetAsk t)) v v.initiator.current (resets.asks t role (record { certain = none; row = steps.kept_ask t alone })) tt))

lost_asks : (id : Identity) (i q p : EpochPeer) (t : ℕ) → Inv i q → i.state.doubt ≡ None → i.state.connection ≡ None → i.state.role ≡ Initiator → Settles (still i (lost_state i.state (ResetAsk t))) p → Inv p q
lost_asks id i q p t v none alone role (calm h is) = absurd (h (ResetAsk t) refl)
lost_asks id i q p t v none alone role (without r e h is) = subst (λ z. Inv z q) (sym is) (i_stops id i q v none)
lost_asks id i q p t v none alone role (as_reset u e is) = absurd (ask_reset e)
lost_asks id i q p t v none alone role (as_asked u e is) = subst (λ z. Inv z q) (sym is) (kept_asks id i q u v none alone role)
lost_asks id i q p t v none alone role (as_confirmed e is) = absurd (ask_confirm e)

-- a Confirm is lost, and was kept
kept_confirms : (id : Identity) (i q : EpochPeer) (c : Connection) → Inv i q → i.state.doubt ≡ None → i.state.connection ≡ Some c → IsAsking i.state → Begun IsFirstLogon c.read → i.state.role ≡ Initiator → Inv (still i (confirm_state i.state c)) q
kept_confirms id i q c v none o asking begun role = initiates_in {id = id} (act.Kept Confirm) v v.initiator.current (resets.confirms role (record { certain = none; row = steps.kept_confirm c o asking begun })) tt

lost_confirms : (id : Identity) (i q p : EpochPeer) (c : Connection) → Inv i q → i.state.doubt ≡ None → i.state.connection ≡ Some c → IsAsking i.state → Begun IsFirstLogon c.read → i.state.role ≡ Initiator → Settles (still i (lost_state i.state Confirm)) p → Inv p q
lost_confirms id i q p c v none o asking begun role (calm h is) = absurd (h Confirm refl)
lost_confirms id i q p c v none o asking begun role (without r e h is) = subst (λ z. Inv z q) (sym is) (i_stops id i q v none)
lost_confirms id i q p c v none o asking begun role (as_reset u e is) = absurd (reset_confirm (sym e))
lost_confirms id i q p c v none o asking begun role (as_asked u e is) = absurd (ask_confirm (sym e))
lost_confirms id i q p c v none o asking begun role (as_confirmed e is) = subst (λ z. Inv z q) (sym is) (i_stops id (still i (confirm_state i.state c)) q (kept_confirms id i q c v none o asking begun role) none)

-- a Reset is lost, and was kept
kept_resets : (id : Identity) (i a : EpochPeer) (t : ℕ) → Inv i a → a.state.doubt ≡ None → (asked : IsAskedReset a.state) → a.state.role ≡ Acceptor → Inv i (reset_epoch_peer a (reset_state a.state t asked.connection))
kept_resets id i a t v none asked role =
    accepts_step {id = id} (act.Kept (Reset t)) v (resets.resets t role asked (record { certain = none; row = steps.kept_reset t asked.connection steps.AskedReset asked.is_open (stays a.state asked) (steps.by_logon asked) })) tt

lost_resets : (id : Identity) (i a q : EpochPeer) (t : ℕ) → Inv i a → a.state.doubt ≡ None → (asked : IsAskedReset a.state) → a.state.role ≡ Acceptor → Settles (still a (lost_state a.state (Reset t))) q → Inv i q
lost_resets id i a q t v none asked role (calm h is) = absurd (h (Reset t) refl)
lost_resets id i a q t v none asked role (without r e h is) = subst (Inv i) (sym is) (a_stops id i a v none)
lost_resets id i a q t v none asked role (as_reset u e is) = subst (Inv i) (sym is) (a_stops id i (reset_epoch_peer a (reset_state a.state u asked.connection)) (kept_resets id i a u v none asked role) none)
lost_resets id i a q t v none asked role (as_asked u e is) = absurd (ask_reset (sym e))
lost_resets id i a q t v none asked role (as_confirmed e is) = absurd (reset_confirm e)

record LostAsk (s : EndState) (t : ℕ) (s' : EndState) : Type 0 where
  alone : s.connection ≡ None
  is : s' ≡ lost_state s (ResetAsk t)

lost_ask_row : {id : Identity} {s s' : EndState} {t : ℕ} → Row id s (act.KeepLost (ResetAsk t)) s' → LostAsk s t s'
lost_ask_row (steps.lost_ask t alone) = record { alone = alone; is = refl }

record LostConfirm (s s' : EndState) : Type 0 where
  was : Connection
  is_open : s.connection ≡ Some was
  asking : IsAsking s
  begun : Begun IsFirstLogon was.read
  is : s' ≡ lost_state s Confirm

lost_confirm_row : {id : Identity} {s s' : EndState} → Row id s (act.KeepLost Confirm) s' → LostConfirm s s'
lost_confirm_row (steps.lost_confirm c o asking begun) = record { was = c; is_open = o; asking = asking; begun = begun; is = refl }

lost_reset_row : {id : Identity} {s s' : EndState} {t : ℕ} → Row id s (act.KeepLost (Reset t)) s' → s' ≡ lost_state s (Reset t)
lost_reset_row (steps.lost_reset t) = refl

-- ---- roles

doubt_kind : (o : Option Record) → ((r : Record) → o ≡ Some r → IsSureRecord r) ⊎ ((r : Record) × (o ≡ Some r) × (IsSureRecord r → ⊥))
doubt_kind None = inl (λ r e. cc)
doubt_kind (Some (Push q)) = inl (λ r e. subst IsSureRecord (some_same (Push q) r e) tt)
doubt_kind (Some (Expect k)) = inl (λ r e. subst IsSureRecord (some_same (Expect k) r e) tt)
doubt_kind (Some (Many pushes k)) = inl (λ r e. subst IsSureRecord (some_same (Many pushes k) r e) tt)
doubt_kind (Some (Withhold n)) = inl (λ r e. subst IsSureRecord (some_same (Withhold n) r e) tt)
doubt_kind (Some (Reset t)) = inr (Reset t, refl, λ h. h)
doubt_kind (Some (ResetAsk t)) = inr (ResetAsk t, refl, λ h. h)
doubt_kind (Some Confirm) = inr (Confirm, refl, λ h. h)

-- a peer as it may have settled
record Settled (p : EpochPeer) : Type 0 where
  to : EpochPeer
  is : Settles p to
  gave : to.gave ≡ p.gave
  role : to.state.role ≡ p.state.role

some_settled : (p : EpochPeer) → Settled p
some_settled p = elim (doubt_kind p.state.doubt) [
  | inl sure ↦ record { to = p; is = calm sure refl; gave = refl; role = refl }
  | inr k ↦ record { to = forgotten p; is = without k.0 k.1 k.2 refl; gave = refl; role = refl }
]

acceptor_role : {r : Role} → r ≡ Initiator → r ≡ Acceptor → ⊥
acceptor_role a b = cc

role_of : {i a : EpochPeer} → Both i a → i.state.role ≡ Initiator
role_of {i = i} {a = a} b = let p = some_settled i in let q = some_settled a in sym p.role ∙ (b.each p.to q.to p.is q.is).initiator.role

role_back : {i a : EpochPeer} → Both i a → a.state.role ≡ Acceptor
role_back {i = i} {a = a} b = let p = some_settled i in let q = some_settled a in sym q.role ∙ (b.each p.to q.to p.is q.is).acceptor.role

plain_is_sure : (x : Act) → IsPlain x → IsSure x
plain_is_sure act.Opened h = tt
plain_is_sure (act.Now t) h = tt
plain_is_sure (act.Read b) h = tt
plain_is_sure act.Idle h = tt
plain_is_sure act.Ended h = tt
plain_is_sure (act.Wrote b) h = tt
plain_is_sure (act.Kept r) h = tt
plain_is_sure (act.KeepLost r) h = plain_sure r h
plain_is_sure (act.Handed n marked body) h = tt
plain_is_sure (act.HandLost n marked body) h = tt
plain_is_sure (act.Withheld n) h = tt
plain_is_sure (act.Allowed n) h = tt
plain_is_sure act.Cut h = tt
plain_is_sure act.Stop h = tt

lost_lone : (p : EpochPeer) (s : EndState) (r : Record) → p.state ≡ lost_state s r → Lone p
lost_lone p s r e k at unsure = ap (λ (z : EndState). z.connection) e

initiates_each : {id : Identity} {i a i' : EpochPeer} (x : Act) → Both i a → EpochStep id i a x i' → Both i' a
initiates_each x b (resets.opens c free lt step) = initiates_sure x b (resets.opens c free lt step) tt
initiates_each x b (resets.opens_asking c asking lt step) = initiates_sure x b (resets.opens_asking c asking lt step) tt
initiates_each x b (resets.reads y c o front step) = initiates_sure x b (resets.reads y c o front step) tt
initiates_each x b (resets.writes y step) = initiates_sure x b (resets.writes y step) tt
initiates_each x b (resets.hands n epoch marked body at step) = initiates_sure x b (resets.hands n epoch marked body at step) tt
initiates_each x b (resets.loses n epoch marked body at step) = initiates_sure x b (resets.loses n epoch marked body at step) tt
initiates_each x b (resets.resets t role asked step) = initiates_sure x b (resets.resets t role asked step) tt
initiates_each {i = i} {a = a} x b (resets.loses_reset t role asked step) = absurd (acceptor_role (role_of b) role)
initiates_each x b (resets.asks t role step) = initiates_sure x b (resets.asks t role step) tt
initiates_each {id = id} {i = i} {a = a} {i' = i'} x b (resets.loses_ask t role step) =
    let r = lost_ask_row step.row in
    record { each = λ p q si sa. lost_asks id i q p t (b.each i q (is_calm i step.certain) sa) step.certain r.alone role (subst (λ z. Settles (still i z) p) r.is si); lone = lost_lone i' i.state (ResetAsk t) r.is; lone_back = b.lone_back }
initiates_each x b (resets.confirms role step) = initiates_sure x b (resets.confirms role step) tt
initiates_each {id = id} {i = i} {a = a} {i' = i'} x b (resets.loses_confirm role step) =
    let r = lost_confirm_row step.row in
    record { each = λ p q si sa. lost_confirms id i q p r.was (b.each i q (is_calm i step.certain) sa) step.certain r.is_open r.asking r.begun role (subst (λ z. Settles (still i z) p) r.is si); lone = lost_lone i' i.state Confirm r.is; lone_back = b.lone_back }
initiates_each x b (resets.rests y quiet plain step) = initiates_sure x b (resets.rests y quiet plain step) (plain_is_sure x plain)

accepts_each : {id : Identity} {i a a' : EpochPeer} (x : Act) → Both i a → EpochStep id a i x a' → Both i a'
accepts_each x b (resets.opens c free lt step) = accepts_sure x b (resets.opens c free lt step) tt
accepts_each x b (resets.opens_asking c asking lt step) = accepts_sure x b (resets.opens_asking c asking lt step) tt
accepts_each x b (resets.reads y c o front step) = accepts_sure x b (resets.reads y c o front step) tt
accepts_each x b (resets.writes y step) = accepts_sure x b (resets.writes y step) tt
accepts_each x b (resets.hands n epoch marked body at step) = accepts_sure x b (resets.hands n epoch marked body at step) tt
accepts_each x b (resets.loses n epoch marked body at step) = accepts_sure x b (resets.loses n epoch marked body at step) tt
accepts_each x b (resets.resets t role asked step) = accepts_sure x b (resets.resets t role asked step) tt
accepts_each {id = id} {i = i} {a = a} {a' = a'} x b (resets.loses_reset t role asked step) =
    let is = lost_reset_row step.row in
    record { each = λ p q si sa. lost_resets id p a q t (b.each p a si (is_calm a step.certain)) step.certain asked role (subst (λ z. Settles (still a z) q) is sa); lone = b.lone; lone_back = lost_lone a' a.state (Reset t) is }
accepts_each x b (resets.asks t role step) = accepts_sure x b (resets.asks t role step) tt
accepts_each x b (resets.loses_ask t role step) = absurd (acceptor_role role (role_back b))
accepts_each x b (resets.confirms role step) = accepts_sure x b (resets.confirms role step) tt
accepts_each x b (resets.loses_confirm role step) = absurd (acceptor_role role (role_back b))
accepts_each x b (resets.rests y quiet plain step) = accepts_sure x b (resets.rests y quiet plain step) (plain_is_sure x plain)

-- ---- moves

anew_unsure : (r : Record) → StartsAnew r → IsSureRecord r → ⊥
anew_unsure (Push e) h k = h
anew_unsure (Expect n) h k = h
anew_unsure (Many pushes n) h k = h
anew_unsure (Withhold n) h k = h
anew_unsure (Reset t) h k = k
anew_unsure (ResetAsk t) h k = k
anew_unsure Confirm h k = h

-- what is unsure and starts nothing anew is a Confirm
unsure_confirm : (r : Record) → (IsSureRecord r → ⊥) → (StartsAnew r → ⊥) → r ≡ Confirm
unsure_confirm (Push e) h k = absurd (h tt)
unsure_confirm (Expect n) h k = absurd (h tt)
unsure_confirm (Many pushes n) h k = absurd (h tt)
unsure_confirm (Withhold n) h k = absurd (h tt)
unsure_confirm (Reset t) h k = absurd (k tt)
unsure_confirm (ResetAsk t) h k = absurd (k tt)
unsure_confirm Confirm h k = refl

no_open : {o : Option Connection} {c : Connection} {A : Type 0} → o ≡ None → o ≡ Some c → A
no_open none some = cc

-- a Confirm in doubt settles
confirm_moves : (p : EpochPeer) (s' : EndState) → p.state.doubt ≡ Some Confirm → p.state.connection ≡ None → Move p.state s' → Settles p (still p s')
confirm_moves p s' e alone (steps.settles_without r f) = without Confirm e (λ h. h) refl
confirm_moves p s' e alone (steps.settles_with r f) = as_confirmed e (ap (λ z. still p (record p.state { end = folded p.state.end z; expected = (folded p.state.end z).stored; handled = steps.handled_with p.state.handled p.state.beside z; doubt = None; offered = steps.offered_with p.state.offered z })) (some_same r Confirm (sym f ∙ e)))
confirm_moves p s' e alone (steps.past_admin c x free o read at) = no_open alone o
confirm_moves p s' e alone (steps.past_app c n marked body free o read at grew) = no_open alone o
confirm_moves p s' e alone (steps.past_gap c n m free o read at lt) = no_open alone o
confirm_moves p s' e alone (steps.reset_to c n m free o read le) = no_open alone o

certain_after : (p : EpochPeer) (s' : EndState) → p.state.doubt ≡ Some Confirm → p.state.connection ≡ None → Move p.state s' → s'.doubt ≡ None
certain_after p s' e alone (steps.settles_without r f) = refl
certain_after p s' e alone (steps.settles_with r f) = refl
certain_after p s' e alone (steps.past_admin c x free o read at) = no_open alone o
certain_after p s' e alone (steps.past_app c n marked body free o read at grew) = no_open alone o
certain_after p s' e alone (steps.past_gap c n m free o read at lt) = no_open alone o
certain_after p s' e alone (steps.reset_to c n m free o read le) = no_open alone o

-- the peer became one of those that it may settle as
i_becomes : (i a i' : EpochPeer) → Both i a → Settles i i' → i'.state.doubt ≡ None → Both i' a
i_becomes i a i' b is none = record { each = λ p q si sa. subst (λ z. Inv z q) (settles_sure (none_sure none) si) (b.each i' q is sa); lone = sure_lone i' (none_sure none); lone_back = b.lone_back }

a_becomes : (i a a' : EpochPeer) → Both i a → Settles a a' → a'.state.doubt ≡ None → Both i a'
a_becomes i a a' b is none = record { each = λ p q si sa. subst (λ z. Inv p z) (settles_sure (none_sure none) sa) (b.each p a' si is); lone = b.lone; lone_back = sure_lone a' (none_sure none) }

known_confirm : (r : Record) (s : EndState) → s.doubt ≡ Some r → (IsSureRecord r → ⊥) → ((q : Record) → s.doubt ≡ Some q → StartsAnew q → ⊥) → s.doubt ≡ Some Confirm
known_confirm r s e unsure known = e ∙ ap Some (unsure_confirm r unsure (known r e))

i_moves : (i a : EpochPeer) (s' : EndState) → Both i a → Move i.state s' → ((r : Record) → i.state.doubt ≡ Some r → StartsAnew r → ⊥) → Both (still i s') a
i_moves i a s' b m known = elim (doubt_kind i.state.doubt) [
  | inl sure ↦ record {
    each = λ p q si sa. subst (λ z. Inv z q) (settles_sure (after sure q sa) si) (moved sure q sa);
    lone = sure_lone (still i s') (let other = some_settled a in after sure other.to other.is);
    lone_back = b.lone_back;
  }
  | inr k ↦ (let e = known_confirm k.0 i.state k.1 k.2 known in let alone = b.lone k.0 k.1 k.2 in i_becomes i a (still i s') b (confirm_moves i s' e alone m) (certain_after i s' e alone m))
]
  where
    moved : ((r : Record) → i.state.doubt ≡ Some r → IsSureRecord r) → (q : EpochPeer) → Settles a q → Inv (still i s') q
    moved sure q sa = let v = b.each i q (calm sure refl) sa in initiates_move v v.initiator.current (resets.moves m known)

    after : ((r : Record) → i.state.doubt ≡ Some r → IsSureRecord r) → (q : EpochPeer) → Settles a q → (r : Record) → s'.doubt ≡ Some r → IsSureRecord r
    after sure q sa r e = let v = b.each i q (calm sure refl) sa in plain_sure r (move_plain m (now_plain v v.initiator.current) r e)

a_moves : (i a : EpochPeer) (s' : EndState) → Both i a → Move a.state s' → ((r : Record) → a.state.doubt ≡ Some r → StartsAnew r → ⊥) → Both i (still a s')
a_moves i a s' b m known = elim (doubt_kind a.state.doubt) [
  | inl sure ↦ record {
    each = λ p q si sa. subst (λ z. Inv p z) (settles_sure (after sure p si) sa) (moved sure p si);
    lone = b.lone;
    lone_back = sure_lone (still a s') (let other = some_settled i in after sure other.to other.is);
  }
  | inr k ↦ (let e = known_confirm k.0 a.state k.1 k.2 known in let alone = b.lone_back k.0 k.1 k.2 in a_becomes i a (still a s') b (confirm_moves a s' e alone m) (certain_after a s' e alone m))
]
  where
    moved : ((r : Record) → a.state.doubt ≡ Some r → IsSureRecord r) → (p : EpochPeer) → Settles i p → Inv p (still a s')
    moved sure p si = accepts_move (b.each p a si (calm sure refl)) (resets.moves m known)

    after : ((r : Record) → a.state.doubt ≡ Some r → IsSureRecord r) → (p : EpochPeer) → Settles i p → (r : Record) → s'.doubt ≡ Some r → IsSureRecord r
    after sure p si r e = let v = b.each p a si (calm sure refl) in plain_sure r (move_plain m v.pair.own_other.plain r e)

initiator_moves : {i a i' : EpochPeer} → Both i a → EpochMove i i' → Both i' a
initiator_moves {i = i} {a = a} b (resets.moves {s' = s'} m known) = i_moves i a s' b m known
initiator_moves {i = i} {a = a} b (resets.forgets r e anew) = i_becomes i a (forgotten i) b (without r e (anew_unsure r anew) refl) refl
initiator_moves {i = i} {a = a} b (resets.has_reset t e) = i_becomes i a (reset_epoch_peer i (settled_anew i.state (Reset t))) b (as_reset t e refl) refl
initiator_moves {i = i} {a = a} b (resets.has_asked t e) = i_becomes i a (asking_epoch_peer i (settled_anew i.state (ResetAsk t))) b (as_asked t e refl) refl

acceptor_moves : {i a a' : EpochPeer} → Both i a → EpochMove a a' → Both i a'
acceptor_moves {i = i} {a = a} b (resets.moves {s' = s'} m known) = a_moves i a s' b m known
acceptor_moves {i = i} {a = a} b (resets.forgets r e anew) = a_becomes i a (forgotten a) b (without r e (anew_unsure r anew) refl) refl
acceptor_moves {i = i} {a = a} b (resets.has_reset t e) = a_becomes i a (reset_epoch_peer a (settled_anew a.state (Reset t))) b (as_reset t e refl) refl
acceptor_moves {i = i} {a = a} b (resets.has_asked t e) = a_becomes i a (asking_epoch_peer a (settled_anew a.state (ResetAsk t))) b (as_asked t e refl) refl

-- ---- the law

along : {id : Identity} {w w' : EpochPeers} {events : List ResetEvent} → ResetsRun id w events w' → Both w.initiator w.acceptor → Both w'.initiator w'.acceptor
along resets.stop b = b
along (resets.initiates x step d) b = along d (initiates_each x b step)
along (resets.accepts x step d) b = along d (accepts_each x b step)
along (resets.initiator_moves m d) b = along d (initiator_moves b m)
along (resets.acceptor_moves m d) b = along d (acceptor_moves b m)

new_both : Both (new_epoch_peer Initiator) (new_epoch_peer Acceptor)
new_both = record {
  each = λ p q si sa. subst (λ z. Inv p z) (settles_sure {p = new_epoch_peer Acceptor} (none_sure refl) sa) (subst (λ z. Inv z (new_epoch_peer Acceptor)) (settles_sure {p = new_epoch_peer Initiator} (none_sure refl) si) new_inv);
  lone = sure_lone (new_epoch_peer Initiator) (none_sure refl);
  lone_back = sure_lone (new_epoch_peer Acceptor) (none_sure refl);
}

pub resets_shared : (id : Identity) (w : EpochPeers) (events : List ResetEvent) → ResetsRun id new_epoch_peers events w → ResetsAgree w
resets_shared id w events d =
    let b = along d new_both in
    let p = some_settled w.initiator in
    let q = some_settled w.acceptor in
    let some = b.each p.to q.to p.is q.is in
    record {
      shared = λ x y. (let v = b.each w.initiator w.acceptor (is_calm w.initiator x) (is_calm w.acceptor y) in shared_by v v.initiator.current x y);
      apart = λ x y. (let v = b.each w.initiator w.acceptor (is_calm w.initiator x) (is_calm w.acceptor y) in apart_by v v.initiator.current);
      marks = subst MarksSince p.gave some.initiator.marks;
      marks_back = subst MarksSince q.gave some.acceptor.marks;
    }
