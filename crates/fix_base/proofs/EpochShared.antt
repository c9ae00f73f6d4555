-- What stays true at each act of the initiator, where both ends are in one epoch.
use Rattle.std.proofs.Common.{◌≡◌, ◌⊎◌, inl, inr, ℕ, ◌<◌, ◌≤◌, List, [], ◌∷◌, ◌++◌, Bool, false, Some, None, refl, sym, ap, ◌∙◌, subst, arith}
use Rattle.fix_base.specs.Lists.{Among, here, there, IsPrefixOf}
use Rattle.fix_base.specs.Logon.{IsResetLogon, IsFirstLogon, Begun}
use Rattle.fix_base.specs.Session.{Identity}
use Rattle.fix_base.specs.End.{Confirm, End, folded, GrowsTo}
use Rattle.fix_base.specs.Act as act
use Rattle.fix_base.specs.Act.{Act}
use Rattle.fix_base.specs.EndStep as steps
use Rattle.fix_base.specs.EndStep.{Initiator, AskedReset, Connection, EndState, IsAsking, LogonRule, Row, EndStep, Move}
use Rattle.fix_base.specs.Reader.{Gives, handed, hand_lost}
use Rattle.fix_base.specs.World.{Logged, Given, Peer, wrote_at, grown_log, opened_peer, wrote_peer, gave_peer, rested, IsQuiet, IsPlain}
use Rattle.fix_base.specs.Resets.{Handover, EpochPeer, MarksSince, opened_epoch_peer, wrote_epoch_peer, gave_epoch_peer, still}
use Rattle.fix_base.proofs.ListLemmas.{some_same, prefix_refl, Among-append_cases, Among-cons_cases}
use Rattle.fix_base.specs.Payload.{IsPersistent}
use Rattle.fix_base.proofs.Ways as ways
use Rattle.fix_base.proofs.Ways.{Comes, ViewStep, Pair}
use Rattle.fix_base.proofs.RowLemmas.{SameAsk, row_same, move_same, quiet_connection, opened_row, read_row, wrote_row, handed_row, lost_row, move_connection}
use Rattle.fix_base.proofs.WriterLemmas.{still_same, grown_still, own_rests, same_log, way_grown}
use Rattle.fix_base.proofs.PeerLemmas.{wrote_comes, step_marks}
use Rattle.fix_base.proofs.WorldLemmas.{view_pair, move_pair}
use Rattle.fix_base.proofs.ResetParts.{FollowsAll, asks_on, asks_moves, Descends, descends_grown, below_grown, below_more, descends_more, grown_split, whole, seen_as, comes_on, OpenReads, given_of, Covers, Recent, covers_more, recent_more, marks_more, answered}
use Rattle.fix_base.proofs.Eras.{logs, AcceptorFits, together, Inv, begun_nothing}
use Rattle.fix_base.proofs.EpochAccepts.{grown_cases}

-- ---- the initiator, where the epochs are equal

pub record Joint (i a : EpochPeer) : Type 0 where
  pub e : ℕ
  pub alog : List Logged
  pub agiven : List Given
  pub ilog : List Logged
  pub igiven : List Given
  pub pair : Pair (seen_as i ilog igiven) (seen_as a alog agiven)
  pub acceptor : AcceptorFits a e alog agiven
  pub role : i.state.role ≡ Initiator
  pub older : List Logged
  pub log : i.log ≡ ilog ++ older
  pub old : (l : Logged) → Among l older → l.number < e
  pub descends : Descends i.log
  pub below : (l : Logged) → Among l i.log → l.number ≤ i.number
  pub covers : Covers i.gave e igiven
  pub recent : Recent i.gave e
  pub silent : (c : Connection) → i.state.connection ≡ Some c → Among AskedReset c.kept → ⊥
  pub asked : (l : Logged) → Among l ilog → Begun IsResetLogon l.wrote → l.number ≡ e
  pub marks : MarksSince i.gave
  pub epoch : i.epoch ≡ Some e
  pub inside : e ≤ i.number
  pub asks : IsAsking i.state → FollowsAll i.state × (i.number ≡ e)
  pub reads : OpenReads i a
  pub reads_back : OpenReads a i

unfoldable pub joint_of : {i a : EpochPeer} (v : Inv i a) (ilog : List Logged) (igiven : List Given) → v.eras ≡ [] → v.vi ≡ seen_as i ilog igiven → i.epoch ≡ Some v.e → v.e ≤ i.number → (IsAsking i.state → FollowsAll i.state × (i.number ≡ v.e)) → Joint i a
joint_of {i = i} {a = a} v ilog igiven none seen at inside asks =
    let g = v.initiator in
    record {
      e = v.e;
      alog = v.alog;
      agiven = v.agiven;
      ilog = ilog;
      igiven = igiven;
      pair = subst (λ (z : Peer). Pair z (seen_as a v.alog v.agiven)) seen v.pair;
      acceptor = v.acceptor;
      role = g.role;
      older = g.older;
      log = g.log ∙ ap (λ w. logs w ++ (v.vi.log ++ g.older)) none ∙ ap (λ (z : Peer). z.log ++ g.older) seen;
      old = g.old;
      descends = g.descends;
      below = g.below;
      covers = subst (λ (z : Peer). Covers i.gave v.e z.given) seen g.covers;
      recent = g.recent;
      silent = g.silent;
      asked = subst (λ (z : Peer). (l : Logged) → Among l z.log → Begun IsResetLogon l.wrote → l.number ≡ v.e) seen g.asked;
      marks = g.marks;
      epoch = at;
      inside = inside;
      asks = asks;
      reads = v.reads;
      reads_back = v.reads_back;
    }

pub inv_of : {i a : EpochPeer} → Joint i a → Inv i a
inv_of {i = i} {a = a} j =
    record {
      e = j.e;
      vi = seen_as i j.ilog j.igiven;
      alog = j.alog;
      agiven = j.agiven;
      eras = [];
      pair = j.pair;
      lonely = λ x m. elim m [ ];
      acceptor = j.acceptor;
      initiator = record { role = j.role; within = j.inside; older = j.older; log = j.log; old = j.old; descends = j.descends; below = j.below; covers = j.covers; recent = j.recent; silent = j.silent; asked = j.asked; marks = j.marks; current = together j.ilog j.igiven refl refl j.epoch j.inside j.asks };
      reads = j.reads;
      reads_back = j.reads_back;
    }

-- where the connections didn't change
j_same : {i a : EpochPeer} (j : Joint i a) (s' : EndState) → Pair (seen_as (still i s') j.ilog j.igiven) (seen_as a j.alog j.agiven) → s'.role ≡ i.state.role → ((c : Connection) → s'.connection ≡ Some c → Among AskedReset c.kept → ⊥) → (IsAsking s' → FollowsAll s' × (i.number ≡ j.e)) → ((c : Connection) → s'.connection ≡ Some c → Comes (whole a) i.number c.read) → Joint (still i s') a
j_same j s' pair role silent asks reads =
    record {
      e = j.e;
      alog = j.alog;
      agiven = j.agiven;
      ilog = j.ilog;
      igiven = j.igiven;
      pair = pair;
      acceptor = j.acceptor;
      role = role ∙ j.role;
      older = j.older;
      log = j.log;
      old = j.old;
      descends = j.descends;
      below = j.below;
      covers = j.covers;
      recent = j.recent;
      silent = silent;
      asked = j.asked;
      marks = j.marks;
      epoch = j.epoch;
      inside = j.inside;
      asks = asks;
      reads = reads;
      reads_back = λ c o. comes_on (λ l m. still_same m) (j.reads_back c o);
    }

-- an end that asks goes on agreeing with anything
asks_still : {id : Identity} (s s' : EndState) (x : Act) (n e : ℕ) → s.doubt ≡ None → Row id s x s' → IsPlain x → s'.end.asked ≡ s.end.asked → s'.role ≡ s.role → (IsAsking s → FollowsAll s × (n ≡ e)) → IsAsking s' → FollowsAll s' × (n ≡ e)
asks_still s s' x n e none row plain asked role k h = let was : IsAsking s = (sym role ∙ h.0, sym asked ∙ h.1) in (asks_on s s' x was none row (k was).0, (k was).1)

-- what an initiator reads was written in the epoch
i_comes : {i a : EpochPeer} (j : Joint i a) {bytes : List ℕ} → Comes (whole a) i.number bytes → Comes (seen_as a j.alog j.agiven) i.number bytes
i_comes j (ways.nothing none) = ways.nothing none
i_comes {i = i} j (ways.some l m number front) =
    elim (Among-append_cases j.alog j.acceptor.older (subst (λ w. Among l w) j.acceptor.log m)) [
      | inl shared ↦ ways.some l shared number front
      | inr old ↦ (let low = j.acceptor.old l old in let inside = j.inside in absurd (omega (arith, low, number, inside)))
    ]

pub j_opens : {id : Identity} {i a : EpochPeer} {s' : EndState} (j : Joint i a) (c : ℕ) → (IsAsking i.state → ⊥) → i.number < c → EndStep id i.state act.Opened s' → Joint (opened_epoch_peer i s' c i.epoch) a
j_opens {id = id} {i = i} {a = a} {s' = s'} j c free lt step =
    let new : Logged = record { number = c; opened = i.state.end; wrote = [] } in
    let r = opened_row step.row in
    let same = row_same step.certain step.row tt in
    let inside = j.inside in
    record {
      e = j.e;
      alog = j.alog;
      agiven = j.agiven;
      ilog = new ∷ j.ilog;
      igiven = j.igiven;
      pair = view_pair (seen_as i j.ilog j.igiven) (seen_as a j.alog j.agiven) (opened_peer (seen_as i j.ilog j.igiven) s' c) act.Opened j.pair (ways.opens c lt step) tt;
      acceptor = j.acceptor;
      role = same.role ∙ j.role;
      older = j.older;
      log = ap (λ w. new ∷ w) j.log;
      old = j.old;
      descends = descends_more i.log i.number c i.state.end lt j.below j.descends;
      below = below_more i.log i.number c i.state.end lt j.below;
      covers = j.covers;
      recent = j.recent;
      silent = λ d o m. elim (subst (λ w. Among AskedReset w) (sym (ap (λ (k : Connection). k.kept) (some_same _ d (sym r.connection ∙ o)))) m) [ ];
      asked = λ l m begun. elim (Among-cons_cases m) [ inl e ↦ absurd (begun_nothing (subst (λ (z : Logged). Begun IsResetLogon z.wrote) e begun)) | inr old ↦ j.asked l old begun ];
      marks = j.marks;
      epoch = j.epoch;
      inside = omega (arith, inside, lt);
      asks = λ h. absurd (free (sym same.role ∙ h.0, sym same.asked ∙ h.1));
      reads = λ d o. ways.nothing (sym (ap (λ (k : Connection). k.read) (some_same _ d (sym r.connection ∙ o))));
      reads_back = λ d o. comes_on (λ l m. still_same (there m)) (j.reads_back d o);
    }

pub j_reads : {id : Identity} {i a : EpochPeer} {s' : EndState} (j : Joint i a) (b : List ℕ) (c : Connection) → i.state.connection ≡ Some c → IsPrefixOf (c.read ++ b) (wrote_at i.number a.log) → EndStep id i.state (act.Read b) s' → Joint (still i s') a
j_reads {id = id} {i = i} {a = a} {s' = s'} j b c o front step =
    j_same j s' (view_pair (seen_as i j.ilog j.igiven) (seen_as a j.alog j.agiven) (rested (seen_as i j.ilog j.igiven) s') (act.Read b) j.pair (ways.reads b (λ d q. inl (i_comes j (back d q))) step) tt) same.role
    (λ d q m. j.silent c o (subst (λ (k : Connection). Among AskedReset k.kept) (sym (is_read d q)) m)) (asks_still i.state s' (act.Read b) i.number j.e step.certain step.row tt same.asked same.role j.asks) back
  where
    same : SameAsk i.state s'
    same = row_same step.certain step.row tt

    is_read : (d : Connection) → s'.connection ≡ Some d → record c { read = c.read ++ b } ≡ d
    is_read d q =
        let r = read_row step.row in
        let was : c ≡ r.was = some_same c r.was (sym o ∙ r.is_open) in
        ap (λ (k : Connection). record k { read = k.read ++ b }) was ∙ some_same _ d (sym r.connection ∙ q)

    back : (d : Connection) → s'.connection ≡ Some d → Comes (whole a) i.number d.read
    back d q = subst (λ (k : Connection). Comes (whole a) i.number k.read) (is_read d q) (wrote_comes (whole a) i.number (c.read ++ b) front)

j_begun : {id : Identity} {i a : EpochPeer} (j : Joint i a) (c : Connection) (b : List ℕ) → i.state.connection ≡ Some c → LogonRule id i.state c b → (last : Logged) → Among last j.ilog → last.number ≡ i.number → last.wrote ≡ c.written → Begun IsResetLogon (last.wrote ++ b) → last.number ≡ j.e
j_begun j c b o (steps.asks text q asking entry original logon front) last m number wrote begun = number ∙ (j.asks asking).1
j_begun j c b o (steps.answers free first later) last m number wrote begun =
    elim (first (subst (λ w. Begun IsResetLogon (w ++ b)) wrote begun)) [
      | inl before ↦ j.asked last m (subst (Begun IsResetLogon) (sym wrote) before)
      | inr asked ↦ absurd (j.silent c o asked)
    ]

pub j_writes : {id : Identity} {i a : EpochPeer} {s' : EndState} (j : Joint i a) (b : List ℕ) → EndStep id i.state (act.Wrote b) s' → Joint (wrote_epoch_peer i s' b) a
j_writes {id = id} {i = i} {a = a} {s' = s'} j b step =
    let r = wrote_row step.row in
    let same = row_same step.certain step.row tt in
    let last = j.pair.own.last r.was r.is_open in
    record {
      e = j.e;
      alog = j.alog;
      agiven = j.agiven;
      ilog = grown_log j.ilog b;
      igiven = j.igiven;
      pair = view_pair (seen_as i j.ilog j.igiven) (seen_as a j.alog j.agiven) (wrote_peer (seen_as i j.ilog j.igiven) s' b) (act.Wrote b) j.pair (ways.writes b step) tt;
      acceptor = j.acceptor;
      role = same.role ∙ j.role;
      older = j.older;
      log = grown_split i.log j.ilog j.older last.before last.last b j.log last.log;
      old = j.old;
      descends = descends_grown i.log b j.descends;
      below = below_grown i.log b i.number j.below;
      covers = j.covers;
      recent = j.recent;
      silent = λ d q m. j.silent r.was r.is_open (subst (λ (k : Connection). Among AskedReset k.kept) (sym (some_same _ d (sym r.connection ∙ q))) m);
      asked = λ l m begun. elim (grown_cases j.ilog last.before last.last b l last.log m) [
        | inl new ↦ (let number = ap (λ (z : Logged). z.number) new in let at = j_begun j r.was b r.is_open (r.rule r.was r.is_open) last.last (subst (λ w. Among last.last w) (sym last.log) here) last.number last.wrote (subst (λ (z : Logged). Begun IsResetLogon z.wrote) new begun) in number ∙ at)
        | inr old ↦ j.asked l old begun
      ];
      marks = j.marks;
      epoch = j.epoch;
      inside = j.inside;
      asks = asks_still i.state s' (act.Wrote b) i.number j.e step.certain step.row tt same.asked same.role j.asks;
      reads = λ d q. subst (λ (k : Connection). Comes (whole a) i.number k.read) (some_same _ d (sym r.connection ∙ q)) (j.reads r.was r.is_open);
      reads_back = λ d o. comes_on (grown_still i.log b) (j.reads_back d o);
    }

j_gives : {id : Identity} {i a : EpochPeer} {s' : EndState} (j : Joint i a) (n epoch : ℕ) (marked : Bool) (x : Act) → i.epoch ≡ Some epoch → Gives n marked x → ViewStep id (seen_as i j.ilog j.igiven) (seen_as a j.alog j.agiven) x (gave_peer (seen_as i j.ilog j.igiven) s' n) → IsPlain x → s'.role ≡ i.state.role → ((c : Connection) → s'.connection ≡ Some c → Among AskedReset c.kept → ⊥) → (IsAsking s' → FollowsAll s' × (i.number ≡ j.e)) → ((c : Connection) → s'.connection ≡ Some c → Comes (whole a) i.number c.read) → Joint (gave_epoch_peer i s' n epoch marked) a
j_gives {id = id} {i = i} {a = a} {s' = s'} j n epoch marked x at gives step plain role silent asks reads =
    let new : Handover = record { number = n; connection = i.number; epoch = epoch; marked = marked } in
    let same : epoch ≡ j.e = some_same epoch j.e (sym at ∙ j.epoch) in
    record {
      e = j.e;
      alog = j.alog;
      agiven = j.agiven;
      ilog = j.ilog;
      igiven = given_of new ∷ j.igiven;
      pair = view_pair (seen_as i j.ilog j.igiven) (seen_as a j.alog j.agiven) (gave_peer (seen_as i j.ilog j.igiven) s' n) x j.pair step plain;
      acceptor = j.acceptor;
      role = role ∙ j.role;
      older = j.older;
      log = j.log;
      old = j.old;
      descends = j.descends;
      below = j.below;
      covers = covers_more new j.covers;
      recent = recent_more new same j.recent;
      silent = silent;
      asked = j.asked;
      marks = marks_more new i.gave (λ y m number of_epoch. step_marks (seen_as i j.ilog j.igiven) (seen_as a j.alog j.agiven) (gave_peer (seen_as i j.ilog j.igiven) s' n) x n marked j.pair.own_other j.pair.way gives step (record { given = given_of y; among = j.covers y m (of_epoch ∙ same); number = number })) j.marks;
      epoch = j.epoch;
      inside = j.inside;
      asks = asks;
      reads = reads;
      reads_back = λ c o. comes_on (λ l m. still_same m) (j.reads_back c o);
    }

pub j_hands : {id : Identity} {i a : EpochPeer} {s' : EndState} (j : Joint i a) (n epoch : ℕ) (marked : Bool) (body : List ℕ) → i.epoch ≡ Some epoch → EndStep id i.state (act.Handed n marked body) s' → Joint (gave_epoch_peer i s' n epoch marked) a
j_hands {id = id} {i = i} {a = a} {s' = s'} j n epoch marked body at step =
    let r = handed_row step.row in
    let same = row_same step.certain step.row tt in
    j_gives {id = id} j n epoch marked (act.Handed n marked body) at (handed body) (ways.hands n marked body step) tt same.role
    (λ d q m. j.silent r.was r.may.is_open (subst (λ (k : Connection). Among AskedReset k.kept) (sym (some_same _ d (sym r.connection ∙ q))) m)) (asks_still i.state s' (act.Handed n marked body) i.number j.e step.certain step.row tt same.asked same.role j.asks)
    (λ d q. subst (λ (k : Connection). Comes (whole a) i.number k.read) (some_same _ d (sym r.connection ∙ q)) (j.reads r.was r.may.is_open))

pub j_loses : {id : Identity} {i a : EpochPeer} {s' : EndState} (j : Joint i a) (n epoch : ℕ) (marked : Bool) (body : List ℕ) → i.epoch ≡ Some epoch → EndStep id i.state (act.HandLost n marked body) s' → Joint (gave_epoch_peer i s' n epoch marked) a
j_loses {id = id} {i = i} {a = a} {s' = s'} j n epoch marked body at step =
    let r = lost_row step.row in
    let same = row_same step.certain step.row tt in
    j_gives {id = id} j n epoch marked (act.HandLost n marked body) at (hand_lost body) (ways.loses n marked body step) tt same.role
    (λ d q m. (let none : None ≡ Some d = sym r.connection ∙ q in cc)) (asks_still i.state s' (act.HandLost n marked body) i.number j.e step.certain step.row tt same.asked same.role j.asks)
    (λ d q. (let none : None ≡ Some d = sym r.connection ∙ q in cc))

pub j_rests : {id : Identity} {i a : EpochPeer} {s' : EndState} (j : Joint i a) (x : Act) → IsQuiet x → IsPlain x → EndStep id i.state x s' → Joint (still i s') a
j_rests {i = i} {a = a} {s' = s'} j x quiet plain step =
    let same = row_same step.certain step.row plain in
    j_same j s' (view_pair (seen_as i j.ilog j.igiven) (seen_as a j.alog j.agiven) (rested (seen_as i j.ilog j.igiven) s') x j.pair (ways.rests x quiet step) plain) same.role
    (λ c o. j.silent c (quiet_connection step.certain step.row quiet plain c o)) (asks_still i.state s' x i.number j.e step.certain step.row plain same.asked same.role j.asks) (λ c o. j.reads c (quiet_connection step.certain step.row quiet plain c o))

pub j_moves : {i a : EpochPeer} {s' : EndState} (j : Joint i a) → Move i.state s' → Joint (still i s') a
j_moves {i = i} {a = a} {s' = s'} j m =
    j_same j s' (move_pair (seen_as i j.ilog j.igiven) (seen_as a j.alog j.agiven) s' j.pair m) same.role (λ c o. j.silent c (move_connection m c o)) asks (λ c o. j.reads c (move_connection m c o))
  where
    same : SameAsk i.state s'
    same = move_same m j.pair.own.plain

    asks : IsAsking s' → FollowsAll s' × (i.number ≡ j.e)
    asks h = let was : IsAsking i.state = (sym same.role ∙ h.0, sym same.asked ∙ h.1) in (asks_moves i.state s' was m (j.asks was).0, (j.asks was).1)

-- ---- the initiator is answered

abbrev pub confirm_state : EndState → Connection → EndState
confirm_state s c = record s { end = folded s.end Confirm; connection = Some (record c { kept = steps.Confirmed ∷ c.kept }) }

pub record ConfirmRow (s s' : EndState) : Type 0 where
  pub was : Connection
  pub is_open : s.connection ≡ Some was
  pub asking : IsAsking s
  pub begun : Begun IsFirstLogon was.read
  pub is : s' ≡ confirm_state s was

pub confirm_row : {id : Identity} {s s' : EndState} → Row id s (act.Kept Confirm) s' → ConfirmRow s s'
confirm_row (steps.kept_confirm c o asking begun) = record { was = c; is_open = o; asking = asking; begun = begun; is = refl }

-- an end that isn't asked any more
unasked_grows : (e : End) → GrowsTo e (record e { asked = false })
unasked_grows e = record { out = prefix_refl e.out; withheld = prefix_refl e.withheld }

pub j_confirms : {i a : EpochPeer} (j : Joint i a) (c : Connection) → i.state.connection ≡ Some c → i.state.doubt ≡ None → Joint (still i (confirm_state i.state c)) a
j_confirms {i = i} {a = a} j c o certain =
    j_same j (confirm_state i.state c) pair refl (λ d q m. unanswered d q m) (λ h. (let wrong = h.1 in cc)) (λ d q. subst (λ (k : Connection). Comes (whole a) i.number k.read) (some_same _ d q) (j.reads c o))
  where
    vi : Peer
    vi = seen_as i j.ilog j.igiven

    va : Peer
    va = seen_as a j.alog j.agiven

    unanswered : (d : Connection) → Some (record c { kept = steps.Confirmed ∷ c.kept }) ≡ Some d → Among AskedReset d.kept → ⊥
    unanswered d q m = elim (Among-cons_cases (subst (λ w. Among AskedReset w) (sym (ap (λ (k : Connection). k.kept) (some_same _ d q))) m)) [ inl e ↦ cc | inr old ↦ j.silent c o old ]

    grows : GrowsTo i.state.end (folded i.state.end Confirm)
    grows = unasked_grows i.state.end

    persistent : IsPersistent (folded i.state.end Confirm)
    persistent = record { each = (j.pair.own.persistent 0 i.state.end ways.now).each }

    pair : Pair (seen_as (still i (confirm_state i.state c)) j.ilog j.igiven) (seen_as a j.alog j.agiven)
    pair =
        let w = j.pair.way in
        record {
          own = own_rests vi (confirm_state i.state c) j.igiven j.pair.own grows persistent (λ r e. (let none = certain in cc))
              (λ d q. (let same = some_same _ d q in record { was = c; is_open = o; opened = ap (λ (k : Connection). k.opened) same; written = ap (λ (k : Connection). k.written) same }));
          own_other = j.pair.own_other;
          way = record {
            follows = λ h later. (let k = w.follows h later in record { now = k.now; running = λ e. k.running e; settled = λ r e. (let none = certain in cc) });
            read = λ d q. inl (subst (λ (k : Connection). Comes va i.number k.read) (some_same _ d q) (i_comes j (j.reads c o)));
            told = w.told;
            known = w.known;
            before = w.before;
            certain = λ d q. certain;
            behind = λ l m number d q. record { each = (w.behind l m number c o).each };
            gave = λ d q g m at. subst (λ (k : Connection). Among g.number k.gave) (some_same _ d q) (w.gave c o g m at);
          };
          back = way_grown va vi (rested vi (confirm_state i.state c)) j.pair.back (same_log vi (confirm_state i.state c) j.igiven grows);
        }
