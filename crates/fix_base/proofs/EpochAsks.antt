-- What stays true at each act of the initiator, where it asks for a reset that isn't answered.
use Rattle.std.proofs.Common.{◌≡◌, ◌⊎◌, inl, inr, ℕ, ◌<◌, ◌≤◌, List, [], ◌∷◌, ◌++◌, Option, Some, None, refl, sym, ap, ◌∙◌, subst, append_assoc, lit≤, arith}
use Rattle.fix_base.specs.Lists.{Among, here, there, IsPrefixOf}
use Rattle.fix_base.specs.Logon.{IsFirstLogon, Begun}
use Rattle.fix_base.specs.Session.{Identity}
use Rattle.fix_base.specs.End.{ResetAsk, End, folded}
use Rattle.fix_base.specs.Act as act
use Rattle.fix_base.specs.Act.{Act}
use Rattle.fix_base.specs.EndStep as steps
use Rattle.fix_base.specs.EndStep.{AskedReset, Connection, EndState, IsAsking, LogonRule, Row, EndStep, Move}
use Rattle.fix_base.specs.World.{Logged, Peer, wrote_at, grown_log, wrote_peer, rested, IsQuiet, IsPlain}
use Rattle.fix_base.specs.Resets.{EpochPeer, opened_epoch_peer, wrote_epoch_peer, still, asking_epoch_peer}
use Rattle.fix_base.proofs.ListLemmas.{some_same, Among-cons_cases}
use Rattle.fix_base.proofs.FollowsLemmas.{row_certain, move_certain, Agrees-new}
use Rattle.fix_base.proofs.Told.{WroteMessages}
use Rattle.fix_base.proofs.WroteLemmas.{GrowsTo-refl, WroteMessages-nothing}
use Rattle.fix_base.proofs.WrittenLemmas.{original_of}
use Rattle.fix_base.specs.Payload.{IsPersistent}
use Rattle.fix_base.proofs.Ways as ways
use Rattle.fix_base.proofs.Ways.{Later, Own, Comes}
use Rattle.fix_base.proofs.RowLemmas.{DoubtIsPlain, same_asking, row_asking, row_plain, OpenedRow, row_same, move_same, opened_row, read_row, wrote_row}
use Rattle.fix_base.proofs.WriterLemmas.{still_same, grown_still, own_steps, own_moves}
use Rattle.fix_base.proofs.PeerLemmas.{wrote_comes}
use Rattle.fix_base.proofs.ResetParts.{FollowsAll, asks_on, asks_moves, Silent, silence, logon_front, begun_more, begun_resets, descends_grown, below_grown, below_more, descends_more, grown_split, whole, comes_on}
use Rattle.fix_base.proofs.Eras.{Era, logs, Lonely, Current, together, unread, away, Inv, begun_nothing}

-- ---- the initiator asks for a reset

abbrev pub ask_state : EndState → ℕ → EndState
ask_state s t = record s { end = folded s.end (ResetAsk t); expected = 1; handled = []; offered = None }

record AskRow (s : EndState) (t : ℕ) (s' : EndState) : Type 0 where
  alone : s.connection ≡ None
  is : s' ≡ ask_state s t

ask_row : {id : Identity} {s s' : EndState} {t : ℕ} → Row id s (act.Kept (ResetAsk t)) s' → AskRow s t s'
ask_row (steps.kept_ask t alone) = record { alone = alone; is = refl }

i_asks_to : {i a : EpochPeer} (v : Inv i a) (t : ℕ) → i.state.connection ≡ None → i.state.doubt ≡ None → Inv (asking_epoch_peer i (ask_state i.state t)) a
i_asks_to {i = i} {a = a} v t alone certain =
    let g = v.initiator in
    record {
      e = v.e;
      vi = v.vi;
      alog = v.alog;
      agiven = v.agiven;
      eras = v.eras;
      pair = v.pair;
      lonely = v.lonely;
      acceptor = v.acceptor;
      initiator = record {
        role = g.role;
        within = g.within;
        older = g.older;
        log = g.log;
        old = g.old;
        descends = g.descends;
        below = g.below;
        covers = g.covers;
        recent = g.recent;
        silent = λ c o m. (let none = alone in cc);
        asked = g.asked;
        marks = g.marks;
        current = away refl (g.role, refl) (λ f. record { now = Agrees-new f; running = λ e. Agrees-new f; settled = λ r e. (let none = certain in cc) }) alone (λ r e. (let none = certain in cc));
      };
      reads = λ c o. (let none = alone in cc);
      reads_back = λ c o. comes_on (λ l m. still_same m) (v.reads_back c o);
    }

pub i_asks : {id : Identity} {i a : EpochPeer} {s' : EndState} (v : Inv i a) (t : ℕ) → EndStep id i.state (act.Kept (ResetAsk t)) s' → Inv (asking_epoch_peer i s') a
i_asks {i = i} {a = a} v t step = let r = ask_row step.row in subst (λ z. Inv (asking_epoch_peer i z) a) (sym r.is) (i_asks_to v t r.alone step.certain)

-- ---- and opens the connection on which it asks

follows_now : {i a : EpochPeer} (v : Inv i a) → IsAsking i.state → Current i v.e v.vi v.eras → FollowsAll i.state
follows_now v h (together ilog igiven none seen at inside asks) = (asks h).0
follows_now v h (unread x rest is state number at) = subst FollowsAll state (v.lonely x (subst (λ w. Among x w) (sym is) here)).0.follows
follows_now v h (away at asking follows alone plain) = follows

record OpenedEmpty (s s' : EndState) : Type 0 where
  empty : s.end.out ≡ []
  end : s'.end ≡ s.end

opened_empty : {id : Identity} {s s' : EndState} → IsAsking s → Row id s act.Opened s' → OpenedEmpty s s'
opened_empty h (steps.opened empty) = record { empty = empty h; end = refl }

fresh_own : {id : Identity} (s s' : EndState) (c : ℕ) → IsAsking s → EndStep id s act.Opened s' → Own (record { state = s'; number = c; log = record { number = c; opened = s.end; wrote = [] } ∷ []; given = [] })
fresh_own {id = id} s s' c asking step =
    record {
      below = λ l m. (elim (Among-cons_cases m) [ inl e ↦ (let at = ap (λ (z : Logged). z.number) e in omega (arith, at)) | inr none ↦ elim none [ ] ]);
      last = λ d o. (let same = some_same _ d (sym r.connection ∙ o) in record { before = []; last = new; log = refl; number = refl; opened = ap (λ (k : Connection). k.opened) same; wrote = ap (λ (k : Connection). k.written) same });
      wrote = λ l m f later. elim (Among-cons_cases m) [ inl e ↦ subst (λ (z : Logged). WroteMessages z.opened f z.wrote) (sym e) (nothing f (subst (λ (z : Logged). Later peer z.number f) e later)) | inr none ↦ elim none [ ] ];
      plain = row_plain step.row step.certain tt;
      persistent = λ k f later. persistent k f later;
    }
  where
    new : Logged
    new = record { number = c; opened = s.end; wrote = [] }

    peer : Peer
    peer = record { state = s'; number = c; log = new ∷ []; given = [] }

    r : OpenedRow s s'
    r = opened_row step.row

    e : OpenedEmpty s s'
    e = opened_empty asking step.row

    none_out : IsPersistent s.end
    none_out = record { each = λ q m. elim (subst (λ w. Among q w) e.empty m) [ ] }

    nothing : (f : End) → Later peer c f → WroteMessages s.end f []
    nothing f ways.now = subst (λ (z : End). WroteMessages s.end z []) (sym e.end) (WroteMessages-nothing (GrowsTo-refl s.end))
    nothing f (ways.opened l m lt) = elim (Among-cons_cases m) [ inl q ↦ (let at = ap (λ (z : Logged). z.number) q in absurd (omega (arith, at, lt))) | inr none ↦ elim none [ ] ]

    persistent : (k : ℕ) (f : End) → Later peer k f → IsPersistent f
    persistent k f ways.now = subst IsPersistent (sym e.end) none_out
    persistent k f (ways.opened l m lt) = elim (Among-cons_cases m) [ inl q ↦ subst (λ (z : Logged). IsPersistent z.opened) (sym q) none_out | inr none ↦ elim none [ ] ]

pub i_opens_asking : {id : Identity} {i a : EpochPeer} {s' : EndState} (v : Inv i a) (c : ℕ) → IsAsking i.state → i.number < c → EndStep id i.state act.Opened s' → Inv (opened_epoch_peer i s' c (Some c)) a
i_opens_asking {id = id} {i = i} {a = a} {s' = s'} v c asking lt step =
    let g = v.initiator in
    let same = row_same step.certain step.row tt in
    let r = opened_row step.row in
    let new : Logged = record { number = c; opened = i.state.end; wrote = [] } in
    let peer : Peer = record { state = s'; number = c; log = new ∷ []; given = [] } in
    let era : Era = record { number = c; peer = peer } in
    let one : Lonely c peer = record {
      own = fresh_own i.state s' c asking step;
      asking = (same.role ∙ asking.0, same.asked ∙ asking.1);
      follows = asks_on i.state s' act.Opened asking step.certain step.row (follows_now v asking g.current);
      certain = row_certain step.certain step.row;
      at = refl;
      last = new;
      log = refl;
      first = refl;
      silent = silence refl;
      given = refl;
    } in
    let within = g.within in
    record {
      e = v.e;
      vi = v.vi;
      alog = v.alog;
      agiven = v.agiven;
      eras = era ∷ v.eras;
      pair = v.pair;
      lonely = λ x m. elim (Among-cons_cases m) [ inl e ↦ subst (λ (z : Era). Lonely z.number z.peer × (v.e < z.number)) (sym e) (one, omega (arith, within, lt)) | inr old ↦ v.lonely x old ];
      acceptor = v.acceptor;
      initiator = record {
        role = same.role ∙ g.role;
        within = omega (arith, within, lt);
        older = g.older;
        log = ap (λ w. new ∷ w) g.log;
        old = g.old;
        descends = descends_more i.log i.number c i.state.end lt g.below g.descends;
        below = below_more i.log i.number c i.state.end lt g.below;
        covers = g.covers;
        recent = g.recent;
        silent = λ d o m. elim (subst (λ w. Among AskedReset w) (sym (ap (λ (k : Connection). k.kept) (some_same _ d (sym r.connection ∙ o)))) m) [ ];
        asked = g.asked;
        marks = g.marks;
        current = unread era v.eras refl refl refl refl;
      };
      reads = λ d o. ways.nothing (sym (ap (λ (k : Connection). k.read) (some_same _ d (sym r.connection ∙ o))));
      reads_back = λ d o. comes_on (λ l m. still_same (there m)) (v.reads_back d o);
    }

-- ---- the initiator ahead: each act on a connection on which it asks

pub lonely_rests : {id : Identity} {n : ℕ} {peer : Peer} {s' : EndState} (x : Act) (one : Lonely n peer) → IsQuiet x → IsPlain x → EndStep id peer.state x s' → Lonely n (rested peer s')
lonely_rests {peer = peer} {s' = s'} x one quiet plain step = record {
  own = own_steps peer peer (rested peer s') x one.own (ways.rests x quiet step) plain;
  asking = row_asking step.certain step.row plain one.asking;
  follows = asks_on peer.state s' x one.asking step.certain step.row one.follows;
  certain = row_certain step.certain step.row;
  at = one.at;
  last = one.last;
  log = one.log;
  first = one.first;
  silent = one.silent;
  given = one.given;
}

lonely_reads : {id : Identity} {n : ℕ} {peer : Peer} {s' : EndState} (b : List ℕ) (one : Lonely n peer) → EndStep id peer.state (act.Read b) s' → Lonely n (rested peer s')
lonely_reads {peer = peer} {s' = s'} b one step = record {
  own = own_steps peer peer (rested peer s') (act.Read b) one.own (ways.reads b (λ d q. inr (ways.asks (row_asking step.certain step.row tt one.asking))) step) tt;
  asking = row_asking step.certain step.row tt one.asking;
  follows = asks_on peer.state s' (act.Read b) one.asking step.certain step.row one.follows;
  certain = row_certain step.certain step.row;
  at = one.at;
  last = one.last;
  log = one.log;
  first = one.first;
  silent = one.silent;
  given = one.given;
}

pub lonely_moves : {n : ℕ} {peer : Peer} {s' : EndState} (one : Lonely n peer) → Move peer.state s' → Lonely n (rested peer s')
lonely_moves {peer = peer} {s' = s'} one m = record {
  own = own_moves peer s' one.own m;
  asking = same_asking peer.state s' (move_same m one.own.plain) one.asking;
  follows = asks_moves peer.state s' one.asking m one.follows;
  certain = move_certain m one.certain;
  at = one.at;
  last = one.last;
  log = one.log;
  first = one.first;
  silent = one.silent;
  given = one.given;
}

silent_rule : {id : Identity} {s : EndState} {c : Connection} {b : List ℕ} → IsAsking s → LogonRule id s c b → Silent (c.written ++ b)
silent_rule {id = id} asking (steps.asks text q h entry original logon front) =
    logon_front text (original_of id 1 q text original.at original.type original.rest (lit≤ tt) (lit≤ tt) original.carries original.sealed_so).frame logon front
silent_rule asking (steps.answers free first later) = absurd (free asking)

lonely_writes : {id : Identity} {n : ℕ} {peer : Peer} {s' : EndState} (b : List ℕ) (one : Lonely n peer) → EndStep id peer.state (act.Wrote b) s' → Lonely n (wrote_peer peer s' b)
lonely_writes {id = id} {peer = peer} {s' = s'} b one step =
    let r = wrote_row step.row in
    let was = one.own.last r.was r.is_open in
    let same : was.last ≡ one.last = first_logged (sym was.log ∙ one.log) in
    record {
      own = own_steps peer peer (wrote_peer peer s' b) (act.Wrote b) one.own (ways.writes b step) tt;
      asking = row_asking step.certain step.row tt one.asking;
      follows = asks_on peer.state s' (act.Wrote b) one.asking step.certain step.row one.follows;
      certain = row_certain step.certain step.row;
      at = one.at;
      last = record { number = one.last.number; opened = one.last.opened; wrote = one.last.wrote ++ b };
      log = ap (λ w. grown_log w b) one.log;
      first = one.first;
      silent = subst (λ w. Silent (w ++ b)) (sym was.wrote ∙ ap (λ (z : Logged). z.wrote) same) (silent_rule one.asking (r.rule r.was r.is_open));
      given = one.given;
    }
  where
    first_logged : {l k : Logged} {ls ks : List Logged} → l ∷ ls ≡ k ∷ ks → l ≡ k
    first_logged e = cc

-- the initiator ahead, where its connections didn't change
pub ahead_still : {i a : EpochPeer} (v : Inv i a) (x : Era) (rest : List Era) → v.eras ≡ x ∷ rest → x.peer.number ≡ i.number → i.epoch ≡ Some x.number → (s' : EndState) → Lonely x.number (rested x.peer s') → s'.role ≡ i.state.role → ((c : Connection) → s'.connection ≡ Some c → Among AskedReset c.kept → ⊥) → ((c : Connection) → s'.connection ≡ Some c → Comes (whole a) i.number c.read) → Inv (still i s') a
ahead_still {i = i} {a = a} v x rest is number at s' one role silent reads =
    let g = v.initiator in
    let era : Era = record { number = x.number; peer = rested x.peer s' } in
    let lt = (v.lonely x (subst (λ w. Among x w) (sym is) here)).1 in
    record {
      e = v.e;
      vi = v.vi;
      alog = v.alog;
      agiven = v.agiven;
      eras = era ∷ rest;
      pair = v.pair;
      lonely = λ y m. elim (Among-cons_cases m) [ inl e ↦ subst (λ (z : Era). Lonely z.number z.peer × (v.e < z.number)) (sym e) (one, lt) | inr old ↦ v.lonely y (subst (λ w. Among y w) (sym is) (there old)) ];
      acceptor = v.acceptor;
      initiator = record {
        role = role ∙ g.role;
        within = g.within;
        older = g.older;
        log = g.log ∙ ap (λ w. logs w ++ (v.vi.log ++ g.older)) is;
        old = g.old;
        descends = g.descends;
        below = g.below;
        covers = g.covers;
        recent = g.recent;
        silent = silent;
        asked = g.asked;
        marks = g.marks;
        current = unread era rest refl refl number at;
      };
      reads = reads;
      reads_back = λ c o. comes_on (λ l m. still_same m) (v.reads_back c o);
    }

pub ahead_writes : {id : Identity} {i a : EpochPeer} {s' : EndState} (v : Inv i a) (x : Era) (rest : List Era) → v.eras ≡ x ∷ rest → x.peer.state ≡ i.state → x.peer.number ≡ i.number → i.epoch ≡ Some x.number → (b : List ℕ) → EndStep id i.state (act.Wrote b) s' → Inv (wrote_epoch_peer i s' b) a
ahead_writes {id = id} {i = i} {a = a} {s' = s'} v x rest is state number at b step =
    let g = v.initiator in
    let old = v.lonely x (subst (λ w. Among x w) (sym is) here) in
    let one = lonely_writes b old.0 (subst (λ z. EndStep id z (act.Wrote b) s') (sym state) step) in
    let r = wrote_row step.row in
    let same = row_same step.certain step.row tt in
    let era : Era = record { number = x.number; peer = wrote_peer x.peer s' b } in
    let log : i.log ≡ x.peer.log ++ (logs rest ++ (v.vi.log ++ g.older)) = g.log ∙ ap (λ w. logs w ++ (v.vi.log ++ g.older)) is ∙ append_assoc x.peer.log (logs rest) (v.vi.log ++ g.older) in
    record {
      e = v.e;
      vi = v.vi;
      alog = v.alog;
      agiven = v.agiven;
      eras = era ∷ rest;
      pair = v.pair;
      lonely = λ y m. elim (Among-cons_cases m) [ inl e ↦ subst (λ (z : Era). Lonely z.number z.peer × (v.e < z.number)) (sym e) (one, old.1) | inr k ↦ v.lonely y (subst (λ w. Among y w) (sym is) (there k)) ];
      acceptor = v.acceptor;
      initiator = record {
        role = same.role ∙ g.role;
        within = g.within;
        older = g.older;
        log = grown_split i.log x.peer.log (logs rest ++ (v.vi.log ++ g.older)) [] old.0.last b log old.0.log ∙ sym (append_assoc (grown_log x.peer.log b) (logs rest) (v.vi.log ++ g.older));
        old = g.old;
        descends = descends_grown i.log b g.descends;
        below = below_grown i.log b i.number g.below;
        covers = g.covers;
        recent = g.recent;
        silent = λ d q m. g.silent r.was r.is_open (subst (λ (k : Connection). Among AskedReset k.kept) (sym (some_same _ d (sym r.connection ∙ q))) m);
        asked = g.asked;
        marks = g.marks;
        current = unread era rest refl refl number at;
      };
      reads = λ d q. subst (λ (k : Connection). Comes (whole a) i.number k.read) (some_same _ d (sym r.connection ∙ q)) (v.reads r.was r.is_open);
      reads_back = λ c o. comes_on (grown_still i.log b) (v.reads_back c o);
    }

pub ahead_asking : {i a : EpochPeer} (v : Inv i a) (x : Era) (rest : List Era) → v.eras ≡ x ∷ rest → x.peer.state ≡ i.state → IsAsking i.state
ahead_asking v x rest is state = subst IsAsking state (v.lonely x (subst (λ w. Among x w) (sym is) here)).0.asking

pub ahead_reads : {id : Identity} {i a : EpochPeer} {s' : EndState} (v : Inv i a) (x : Era) (rest : List Era) → v.eras ≡ x ∷ rest → x.peer.state ≡ i.state → x.peer.number ≡ i.number → i.epoch ≡ Some x.number → (b : List ℕ) (c : Connection) → i.state.connection ≡ Some c → IsPrefixOf (c.read ++ b) (wrote_at i.number a.log) → EndStep id i.state (act.Read b) s' → Inv (still i s') a
ahead_reads {id = id} {i = i} {a = a} {s' = s'} v x rest is state number at b c o front step =
    ahead_still v x rest is number at s' (lonely_reads b (v.lonely x (subst (λ w. Among x w) (sym is) here)).0 (subst (λ z. EndStep id z (act.Read b) s') (sym state) step)) (row_same step.certain step.row tt).role
    (λ d q m. v.initiator.silent c o (subst (λ (k : Connection). Among AskedReset k.kept) (sym (is_read d q)) m))
    (λ d q. subst (λ (k : Connection). Comes (whole a) i.number k.read) (is_read d q) (wrote_comes (whole a) i.number (c.read ++ b) front))
  where
    is_read : (d : Connection) → s'.connection ≡ Some d → record c { read = c.read ++ b } ≡ d
    is_read d q =
        let r = read_row step.row in
        let was : c ≡ r.was = some_same c r.was (sym o ∙ r.is_open) in
        ap (λ (k : Connection). record k { read = k.read ++ b }) was ∙ some_same _ d (sym r.connection ∙ q)

-- no Logon with 141=Y answers an epoch that the acceptor hasn't reset for
pub no_answer : {i a : EpochPeer} (v : Inv i a) (x : Era) (rest : List Era) → v.eras ≡ x ∷ rest → x.peer.number ≡ i.number → (c : Connection) → Begun IsFirstLogon c.read → Comes (whole a) i.number c.read → ⊥
no_answer v x rest is number c begun (ways.nothing none) = begun_nothing (subst (Begun IsFirstLogon) none begun)
no_answer v x rest is number c begun (ways.some l m at front) =
    let one = v.lonely x (subst (λ w. Among x w) (sym is) here) in
    let low = v.acceptor.answers l m (begun_more front (begun_resets begun)) in
    let lt = one.1 in
    let num = one.0.at in
    absurd (omega (arith, low, lt, num, number, at))

pub none_of : {A : Type 0} (o : Option A) → ((x : A) → o ≡ Some x → ⊥) → o ≡ None
none_of None h = refl
none_of (Some x) h = absurd (h x refl)

-- the initiator away: between its asking and its next connection
pub away_still : {i a : EpochPeer} (v : Inv i a) (s' : EndState) → i.epoch ≡ None → s'.role ≡ i.state.role → IsAsking s' → FollowsAll s' → s'.connection ≡ None → DoubtIsPlain s' → Inv (still i s') a
away_still {i = i} {a = a} v s' at role asking follows alone plain =
    let g = v.initiator in
    record {
      e = v.e;
      vi = v.vi;
      alog = v.alog;
      agiven = v.agiven;
      eras = v.eras;
      pair = v.pair;
      lonely = v.lonely;
      acceptor = v.acceptor;
      initiator = record {
        role = role ∙ g.role;
        within = g.within;
        older = g.older;
        log = g.log;
        old = g.old;
        descends = g.descends;
        below = g.below;
        covers = g.covers;
        recent = g.recent;
        silent = λ c o m. (let none = alone in cc);
        asked = g.asked;
        marks = g.marks;
        current = away at asking follows alone plain;
      };
      reads = λ c o. (let none = alone in cc);
      reads_back = λ c o. comes_on (λ l m. still_same m) (v.reads_back c o);
    }
