-- What stays true at each act of the acceptor, a reset included.
use Rattle.std.proofs.Common.{◌≡◌, ◌⊎◌, inl, inr, ℕ, ◌<◌, ◌≤◌, List, [], ◌∷◌, ◌++◌, Bool, Some, None, refl, sym, ap, ◌∙◌, subst, append_assoc, arith}
use Rattle.fix_base.specs.Lists.{Among, here, there, IsPrefixOf}
use Rattle.fix_base.specs.Logon.{IsResetLogon, IsFirstLogon, Begun}
use Rattle.fix_base.specs.Session.{Identity}
use Rattle.fix_base.specs.End.{Reset, End, folded}
use Rattle.fix_base.specs.Act as act
use Rattle.fix_base.specs.Act.{Act}
use Rattle.fix_base.specs.EndStep as steps
use Rattle.fix_base.specs.EndStep.{Answer, AskedReset, Connection, EndState, IsAskedReset, LogonRule, Row, EndStep, Move}
use Rattle.fix_base.specs.Reader.{Gives, handed, hand_lost}
use Rattle.fix_base.specs.World.{Logged, Given, Peer, wrote_at, grown_log, opened_peer, wrote_peer, gave_peer, rested, IsQuiet, IsPlain}
use Rattle.fix_base.specs.Resets as resets
use Rattle.fix_base.specs.Resets.{Handover, EpochPeer, opened_epoch_peer, wrote_epoch_peer, gave_epoch_peer, still, reset_epoch_peer, reopened_log}
use Rattle.fix_base.proofs.ListLemmas.{some_same, prefix_refl, Among-append_left, Among-append_right, Among-append_cases, Among-cons_cases}
use Rattle.fix_base.proofs.FollowsLemmas.{Agrees-new, behind_starts}
use Rattle.fix_base.proofs.Told.{WroteMessages}
use Rattle.fix_base.proofs.WroteLemmas.{GrowsTo-refl, WroteMessages-nothing}
use Rattle.fix_base.specs.Payload.{IsPersistent}
use Rattle.fix_base.proofs.Ways as ways
use Rattle.fix_base.proofs.Ways.{Later, Own, IsLast, Comes, ViewStep, Pair, swapped}
use Rattle.fix_base.proofs.RowLemmas.{row_same, move_same, quiet_connection, opened_row, read_row, wrote_row, handed_row, lost_row, move_connection}
use Rattle.fix_base.proofs.WriterLemmas.{StillIn, still_same, grown_still}
use Rattle.fix_base.proofs.PeerLemmas.{wrote_comes, step_marks}
use Rattle.fix_base.proofs.WorldLemmas.{view_pair, move_pair}
use Rattle.fix_base.proofs.ResetParts.{FollowsAll, begun_more, begun_resets, Descends, descends_grown, descends_parts, below_grown, below_more, descends_more, grown_split, whole, seen_as, comes_on, given_of, covers_more, recent_more, marks_more, KeptAt, open_yet, answered}
use Rattle.fix_base.proofs.Eras.{Era, logs, Lonely, AcceptorFits, Current, together, unread, away, Inv, begun_nothing, InEra, in_logs, of_lonely, a_heeds}

-- ---- each act of the acceptor

kept_means : {kept : List Answer} {e n : ℕ} {x : Answer} → KeptAt kept e n → Among x kept → n ≡ e
kept_means {x = x} (open_yet none lt) m = elim (subst (λ w. Among x w) none m) [ ]
kept_means (answered some at) m = at

last_begun : {id : Identity} {a : EpochPeer} {e : ℕ} {alog : List Logged} {agiven : List Given} (h : AcceptorFits a e alog agiven) (c : Connection) (b : List ℕ) → a.state.connection ≡ Some c → LogonRule id a.state c b → (last : Logged) → Among last a.log → last.number ≡ a.number → last.wrote ≡ c.written → Begun IsResetLogon (last.wrote ++ b) → last.number ≤ e
last_begun h c b o (steps.asks text q asking entry original logon front) last m number wrote begun = let role = h.role in let other = asking.0 in cc
last_begun {e = e} h c b o (steps.answers free first later) last m number wrote begun =
    elim (first (subst (λ w. Begun IsResetLogon (w ++ b)) wrote begun)) [
      | inl before ↦ h.answers last m (subst (Begun IsResetLogon) (sym wrote) before)
      | inr asked ↦ (let at = kept_means (h.kept c o) asked in omega (arith, number, at))
    ]

-- what stands in a log that has grown
pub grown_cases : (log before : List Logged) (last : Logged) (b : List ℕ) (l : Logged) → log ≡ last ∷ before → Among l (grown_log log b) → (l ≡ record { number = last.number; opened = last.opened; wrote = last.wrote ++ b }) ⊎ Among l log
grown_cases log before last b l e m =
    elim (Among-cons_cases (subst (λ w. Among l (grown_log w b)) e m)) [
      | inl new ↦ inl new
      | inr old ↦ inr (subst (λ w. Among l w) (sym e) (there old))
    ]

-- an open connection is the last one logged
a_last : {i a : EpochPeer} (v : Inv i a) (c : Connection) → a.state.connection ≡ Some c → IsLast (seen_as a v.alog v.agiven) c
a_last v c o = v.pair.own_other.last c o

-- the same invariant where the connections of the acceptor didn't change
a_same : {i a : EpochPeer} (v : Inv i a) (s' : EndState) → Pair v.vi (seen_as (still a s') v.alog v.agiven) → s'.role ≡ a.state.role → ((c : Connection) → s'.connection ≡ Some c → KeptAt c.kept v.e a.number) → ((c : Connection) → s'.connection ≡ Some c → Comes (whole i) a.number c.read) → Inv i (still a s')
a_same v s' pair role kept back =
    let h = v.acceptor in
    record {
      e = v.e;
      vi = v.vi;
      alog = v.alog;
      agiven = v.agiven;
      eras = v.eras;
      pair = pair;
      lonely = v.lonely;
      acceptor = record { role = role ∙ h.role; epoch = h.epoch; inside = h.inside; older = h.older; log = h.log; old = h.old; descends = h.descends; below = h.below; covers = h.covers; recent = h.recent; kept = kept; answers = h.answers; marks = h.marks };
      initiator = v.initiator;
      reads = λ c o. comes_on (λ l m. still_same m) (v.reads c o);
      reads_back = back;
    }

pub a_opens : {id : Identity} {i a : EpochPeer} {s' : EndState} (v : Inv i a) (c : ℕ) → a.number < c → EndStep id a.state act.Opened s' → Inv i (opened_epoch_peer a s' c a.epoch)
a_opens {id = id} {i = i} {a = a} {s' = s'} v c lt step =
    let h = v.acceptor in
    let new : Logged = record { number = c; opened = a.state.end; wrote = [] } in
    let r = opened_row step.row in
    let inside = h.inside in
    record {
      e = v.e;
      vi = v.vi;
      alog = new ∷ v.alog;
      agiven = v.agiven;
      eras = v.eras;
      pair = swapped (view_pair (seen_as a v.alog v.agiven) v.vi (opened_peer (seen_as a v.alog v.agiven) s' c) act.Opened (swapped v.pair) (ways.opens c lt step) tt);
      lonely = v.lonely;
      acceptor = record {
        role = (row_same step.certain step.row tt).role ∙ h.role;
        epoch = h.epoch;
        inside = omega (arith, inside, lt);
        older = h.older;
        log = ap (λ w. new ∷ w) h.log;
        old = h.old;
        descends = descends_more a.log a.number c a.state.end lt h.below h.descends;
        below = below_more a.log a.number c a.state.end lt h.below;
        covers = h.covers;
        recent = h.recent;
        kept = λ d o. open_yet (sym (ap (λ (k : Connection). k.kept) (some_same _ d (sym r.connection ∙ o)))) (omega (arith, inside, lt));
        answers = λ l m begun. elim (Among-cons_cases m) [ inl same ↦ absurd (begun_nothing (subst (λ (z : Logged). Begun IsResetLogon z.wrote) same begun)) | inr old ↦ h.answers l old begun ];
        marks = h.marks;
      };
      initiator = v.initiator;
      reads = λ k open_at. comes_on (λ l m. still_same (there m)) (v.reads k open_at);
      reads_back = λ d o. ways.nothing (sym (ap (λ (k : Connection). k.read) (some_same _ d (sym r.connection ∙ o))));
    }

pub a_reads : {id : Identity} {i a : EpochPeer} {s' : EndState} (v : Inv i a) (b : List ℕ) (c : Connection) → a.state.connection ≡ Some c → IsPrefixOf (c.read ++ b) (wrote_at a.number i.log) → EndStep id a.state (act.Read b) s' → Inv i (still a s')
a_reads {id = id} {i = i} {a = a} {s' = s'} v b c o front step =
    a_same v s' (swapped (view_pair (seen_as a v.alog v.agiven) v.vi (rested (seen_as a v.alog v.agiven) s') (act.Read b) (swapped v.pair) (ways.reads b (λ d q. a_heeds v s' d (kept d q) (back d q)) step) tt)) (row_same step.certain step.row tt).role kept back
  where
    is_read : (d : Connection) → s'.connection ≡ Some d → record c { read = c.read ++ b } ≡ d
    is_read d q =
        let r = read_row step.row in
        let was : c ≡ r.was = some_same c r.was (sym o ∙ r.is_open) in
        ap (λ (k : Connection). record k { read = k.read ++ b }) was ∙ some_same _ d (sym r.connection ∙ q)

    kept : (d : Connection) → s'.connection ≡ Some d → KeptAt d.kept v.e a.number
    kept d q = subst (λ (k : Connection). KeptAt k.kept v.e a.number) (is_read d q) (v.acceptor.kept c o)

    back : (d : Connection) → s'.connection ≡ Some d → Comes (whole i) a.number d.read
    back d q = subst (λ (k : Connection). Comes (whole i) a.number k.read) (is_read d q) (wrote_comes (whole i) a.number (c.read ++ b) front)

pub a_writes : {id : Identity} {i a : EpochPeer} {s' : EndState} (v : Inv i a) (b : List ℕ) → EndStep id a.state (act.Wrote b) s' → Inv i (wrote_epoch_peer a s' b)
a_writes {id = id} {i = i} {a = a} {s' = s'} v b step =
    let h = v.acceptor in
    let r = wrote_row step.row in
    let last = a_last v r.was r.is_open in
    let log = grown_split a.log v.alog h.older last.before last.last b h.log last.log in
    let whole_log : a.log ≡ last.last ∷ (last.before ++ h.older) = h.log ∙ ap (λ w. w ++ h.older) last.log in
    record {
      e = v.e;
      vi = v.vi;
      alog = grown_log v.alog b;
      agiven = v.agiven;
      eras = v.eras;
      pair = swapped (view_pair (seen_as a v.alog v.agiven) v.vi (wrote_peer (seen_as a v.alog v.agiven) s' b) (act.Wrote b) (swapped v.pair) (ways.writes b step) tt);
      lonely = v.lonely;
      acceptor = record {
        role = (row_same step.certain step.row tt).role ∙ h.role;
        epoch = h.epoch;
        inside = h.inside;
        older = h.older;
        log = log;
        old = h.old;
        descends = descends_grown a.log b h.descends;
        below = below_grown a.log b a.number h.below;
        covers = h.covers;
        recent = h.recent;
        kept = λ d q. subst (λ (k : Connection). KeptAt k.kept v.e a.number) (some_same _ d (sym r.connection ∙ q)) (h.kept r.was r.is_open);
        answers = λ l m begun. elim (grown_cases a.log (last.before ++ h.older) last.last b l whole_log m) [
          | inl new ↦ (let number = ap (λ (z : Logged). z.number) new in let low = last_begun h r.was b r.is_open (r.rule r.was r.is_open) last.last (subst (λ w. Among last.last w) (sym whole_log) here) last.number last.wrote (subst (λ (z : Logged). Begun IsResetLogon z.wrote) new begun) in omega (arith, number, low))
          | inr old ↦ h.answers l old begun
        ];
        marks = h.marks;
      };
      initiator = v.initiator;
      reads = λ k open_at. comes_on (grown_still a.log b) (v.reads k open_at);
      reads_back = λ d q. subst (λ (k : Connection). Comes (whole i) a.number k.read) (some_same _ d (sym r.connection ∙ q)) (v.reads_back r.was r.is_open);
    }

-- a message that is given to the acceptor's application
a_gives : {id : Identity} {i a : EpochPeer} {s' : EndState} (v : Inv i a) (n epoch : ℕ) (marked : Bool) (x : Act) → a.epoch ≡ Some epoch → Gives n marked x → ViewStep id (seen_as a v.alog v.agiven) v.vi x (gave_peer (seen_as a v.alog v.agiven) s' n) → IsPlain x → s'.role ≡ a.state.role → ((c : Connection) → s'.connection ≡ Some c → KeptAt c.kept v.e a.number) → ((c : Connection) → s'.connection ≡ Some c → Comes (whole i) a.number c.read) → Inv i (gave_epoch_peer a s' n epoch marked)
a_gives {id = id} {i = i} {a = a} {s' = s'} v n epoch marked x at gives step plain role kept back =
    let h = v.acceptor in
    let new : Handover = record { number = n; connection = a.number; epoch = epoch; marked = marked } in
    let same : epoch ≡ v.e = some_same epoch v.e (sym at ∙ h.epoch) in
    record {
      e = v.e;
      vi = v.vi;
      alog = v.alog;
      agiven = given_of new ∷ v.agiven;
      eras = v.eras;
      pair = swapped (view_pair (seen_as a v.alog v.agiven) v.vi (gave_peer (seen_as a v.alog v.agiven) s' n) x (swapped v.pair) step plain);
      lonely = v.lonely;
      acceptor = record {
        role = role ∙ h.role;
        epoch = h.epoch;
        inside = h.inside;
        older = h.older;
        log = h.log;
        old = h.old;
        descends = h.descends;
        below = h.below;
        covers = covers_more new h.covers;
        recent = recent_more new same h.recent;
        kept = kept;
        answers = h.answers;
        marks = marks_more new a.gave (λ y m number of_epoch. step_marks (seen_as a v.alog v.agiven) v.vi (gave_peer (seen_as a v.alog v.agiven) s' n) x n marked v.pair.own v.pair.back gives step (record { given = given_of y; among = h.covers y m (of_epoch ∙ same); number = number })) h.marks;
      };
      initiator = v.initiator;
      reads = λ k open_at. comes_on (λ l m. still_same m) (v.reads k open_at);
      reads_back = back;
    }

pub a_rests : {id : Identity} {i a : EpochPeer} {s' : EndState} (v : Inv i a) (x : Act) → IsQuiet x → IsPlain x → EndStep id a.state x s' → Inv i (still a s')
a_rests {a = a} {s' = s'} v x quiet plain step =
    a_same v s' (swapped (view_pair (seen_as a v.alog v.agiven) v.vi (rested (seen_as a v.alog v.agiven) s') x (swapped v.pair) (ways.rests x quiet step) plain)) (row_same step.certain step.row plain).role
    (λ c o. v.acceptor.kept c (quiet_connection step.certain step.row quiet plain c o)) (λ c o. v.reads_back c (quiet_connection step.certain step.row quiet plain c o))

pub a_moves : {i a : EpochPeer} {s' : EndState} (v : Inv i a) → Move a.state s' → Inv i (still a s')
a_moves {a = a} {s' = s'} v m =
    a_same v s' (swapped (move_pair (seen_as a v.alog v.agiven) v.vi s' (swapped v.pair) m)) (move_same m v.pair.own_other.plain).role
    (λ c o. v.acceptor.kept c (move_connection m c o)) (λ c o. v.reads_back c (move_connection m c o))

pub a_hands : {id : Identity} {i a : EpochPeer} {s' : EndState} (v : Inv i a) (n epoch : ℕ) (marked : Bool) (body : List ℕ) → a.epoch ≡ Some epoch → EndStep id a.state (act.Handed n marked body) s' → Inv i (gave_epoch_peer a s' n epoch marked)
a_hands {id = id} {i = i} {a = a} {s' = s'} v n epoch marked body at step =
    let r = handed_row step.row in
    a_gives {id = id} v n epoch marked (act.Handed n marked body) at (handed body) (ways.hands n marked body step) tt (row_same step.certain step.row tt).role
    (λ d q. subst (λ (k : Connection). KeptAt k.kept v.e a.number) (some_same _ d (sym r.connection ∙ q)) (v.acceptor.kept r.was r.may.is_open))
    (λ d q. subst (λ (k : Connection). Comes (whole i) a.number k.read) (some_same _ d (sym r.connection ∙ q)) (v.reads_back r.was r.may.is_open))

pub a_loses : {id : Identity} {i a : EpochPeer} {s' : EndState} (v : Inv i a) (n epoch : ℕ) (marked : Bool) (body : List ℕ) → a.epoch ≡ Some epoch → EndStep id a.state (act.HandLost n marked body) s' → Inv i (gave_epoch_peer a s' n epoch marked)
a_loses {id = id} {i = i} {a = a} {s' = s'} v n epoch marked body at step =
    let r = lost_row step.row in
    a_gives {id = id} v n epoch marked (act.HandLost n marked body) at (hand_lost body) (ways.loses n marked body step) tt (row_same step.certain step.row tt).role
    (λ d q. (let none : None ≡ Some d = sym r.connection ∙ q in cc)) (λ d q. (let none : None ≡ Some d = sym r.connection ∙ q in cc))

-- ---- the acceptor resets

-- the state behind a Reset asked by a Logon
abbrev pub reset_state : EndState → ℕ → Connection → EndState
reset_state s t c = record s { end = folded s.end (Reset t); expected = 1; handled = []; offered = None; connection = Some (record { opened = folded s.end (Reset t); read = c.read; written = c.written; base = 0; gave = c.gave; kept = AskedReset ∷ c.kept }) }

pub stays : (s : EndState) → IsAskedReset s → steps.MayStay s
stays s h = record { connection = h.connection; is_open = h.is_open; silent = h.silent; logon = record { text = h.logon.text; others = h.logon.others; items = h.logon.items; rest = h.logon.rest; takes = h.logon.takes; first = h.logon.first; is = record { fields = h.logon.is.fields; has = h.logon.is.has; type = h.logon.is.type } } }

reset_row : {id : Identity} {s s' : EndState} (t : ℕ) (h : IsAskedReset s) → Row id s (act.Kept (Reset t)) s' → s' ≡ reset_state s t h.connection
reset_row u h (steps.cut_reset t gone) = absurd (gone (stays _ h))
reset_row {s = s} u h (steps.kept_reset t c answer o stay (steps.otherwise none)) = absurd (none h)
reset_row {s = s} u h (steps.kept_reset t c answer o stay (steps.by_logon asked)) = ap (λ k. reset_state s t k) (some_same c h.connection (sym o ∙ h.is_open))

-- the eras before one, and behind it
record Splits (eras : List Era) (x : Era) : Type 0 where
  newer : List Era
  mid : List Era
  is : eras ≡ newer ++ x ∷ mid

split_at : (eras : List Era) (x : Era) → Among x eras → Splits eras x
split_at [] x m = elim m [ ]
split_at (y ∷ eras) x here = record { newer = []; mid = eras; is = refl }
split_at (y ∷ eras) x (there m) = let s = split_at eras x m in record { newer = y ∷ s.newer; mid = s.mid; is = ap (λ w. y ∷ w) s.is }

logs-append : (xs ys : List Era) → logs (xs ++ ys) ≡ logs xs ++ logs ys
logs-append [] ys = refl
logs-append (x ∷ xs) ys = ap (λ w. x.peer.log ++ w) (logs-append xs ys) ∙ sym (append_assoc x.peer.log (logs xs) (logs ys))

in_era_logs : (eras : List Era) (x : Era) (l : Logged) → Among x eras → Among l x.peer.log → Among l (logs eras)
in_era_logs [] x l k m = elim k [ ]
in_era_logs (y ∷ eras) x l here m = Among-append_left (logs eras) m
in_era_logs (y ∷ eras) x l (there k) m = Among-append_right y.peer.log (in_era_logs eras x l k m)

peer_is : (s : Peer) (state : EndState) (number : ℕ) → s.state ≡ state → s.number ≡ number → s ≡ record { state = state; number = number; log = s.log; given = s.given }
peer_is s state number e f = ap (λ (z : EndState). record { state = z; number = s.number; log = s.log; given = s.given }) e ∙ ap (λ n. record { state = state; number = n; log = s.log; given = s.given }) f

first_same : (p q : Era) (ps qs : List Era) → p ∷ ps ≡ q ∷ qs → p ≡ q
first_same p q ps qs e = cc

-- the initiator in the epoch that is answered now
current_reset : {i : EpochPeer} {e : ℕ} {vi : Peer} {eras : List Era} (x : Era) (s : Splits eras x) → Lonely x.number x.peer → Current i e vi eras → Current i x.number x.peer s.newer
current_reset x s one (together ilog igiven none seen at inside asks) = elim (subst (λ w. Among x w) (sym s.is ∙ none) (Among-append_right s.newer here)) [ ]
current_reset {i = i} x s one (away at asking follows alone plain) = away at asking follows alone plain
current_reset {i = i} {eras = eras} x s one (unread y rest is state number at) = of_first s.newer refl
  where
    both : y ∷ rest ≡ s.newer ++ x ∷ s.mid
    both = sym is ∙ s.is

    of_first : (newer : List Era) → s.newer ≡ newer → Current i x.number x.peer s.newer
    of_first [] none =
        let same : y ≡ x = first_same y x rest s.mid (both ∙ ap (λ w. w ++ x ∷ s.mid) none) in
        let st : x.peer.state ≡ i.state = ap (λ (z : Era). z.peer.state) (sym same) ∙ state in
        let nu : x.peer.number ≡ i.number = ap (λ (z : Era). z.peer.number) (sym same) ∙ number in
        together x.peer.log x.peer.given none (peer_is x.peer i.state i.number st nu) (at ∙ ap (λ (z : Era). Some z.number) same) (let here_at = one.at in omega (arith, here_at, nu)) (λ a. (subst FollowsAll st one.follows, sym nu ∙ one.at))
    of_first (z ∷ newer) some =
        let same : y ≡ z = first_same y z rest (newer ++ x ∷ s.mid) (both ∙ ap (λ w. w ++ x ∷ s.mid) some) in
        unread y newer (some ∙ ap (λ w. w ∷ newer) (sym same)) state number at

reopened_still : (log : List Logged) (e : End) (l : Logged) → Among l log → StillIn (reopened_log log e) l
reopened_still [] e l m = elim m [ ]
reopened_still (k ∷ log) e l here = record { is = record { number = k.number; opened = e; wrote = k.wrote }; among = here; number = refl; wrote = prefix_refl k.wrote }
reopened_still (k ∷ log) e l (there m) = still_same (there m)

-- the connection of the initiator whose Logon is answered is that of an era that isn't
record Asked (eras : List Era) (number : ℕ) (bytes : List ℕ) : Type 0 where
  era : Era
  among : Among era eras
  at : era.number ≡ number
  logged : Logged
  inside : Among logged era.peer.log
  front : IsPrefixOf bytes logged.wrote

asked_era : {i a : EpochPeer} (v : Inv i a) (c : Connection) → v.e < a.number → Begun IsFirstLogon c.read → Comes (whole i) a.number c.read → Asked v.eras a.number c.read
asked_era v c lt begun (ways.nothing none) = absurd (begun_nothing (subst (Begun IsFirstLogon) none begun))
asked_era {a = a} v c lt begun (ways.some l m number front) =
    elim (Among-append_cases (logs v.eras) (v.vi.log ++ v.initiator.older) (subst (λ w. Among l w) v.initiator.log m)) [
      | inl lonely ↦ (let f = in_logs v.eras l lonely in of_era f)
      | inr known ↦ elim (Among-append_cases v.vi.log v.initiator.older known) [
        | inl shared ↦ (let at = v.initiator.asked l shared (begun_more front (begun_resets begun)) in absurd (omega (arith, at, number, lt)))
        | inr old ↦ (let low = v.initiator.old l old in absurd (omega (arith, low, number, lt)))
      ]
    ]
  where
    of_era : InEra v.eras l → Asked v.eras a.number c.read
    of_era f =
        let one = (v.lonely f.era f.among).0 in
        let same : l.number ≡ f.era.number = ap (λ (z : Logged). z.number) (of_lonely one l f.logged) ∙ one.first in
        record { era = f.era; among = f.among; at = sym same ∙ number; logged = l; inside = f.logged; front = front }

open_above : {kept : List Answer} {e n : ℕ} → KeptAt kept e n → kept ≡ [] → e < n
open_above (open_yet none lt) k = lt
open_above (answered some at) k = absurd (some k)

-- an end that was just reset
reset_own : (s : EndState) (t : ℕ) (c : Connection) (last : Logged) (n : ℕ) → last.number ≡ n → last.wrote ≡ c.written → c.written ≡ [] → s.doubt ≡ None → Own (record { state = reset_state s t c; number = n; log = record { number = last.number; opened = folded s.end (Reset t); wrote = last.wrote } ∷ []; given = [] })
reset_own s t c last n number wrote silent certain =
    record {
      below = λ l m. (elim (Among-cons_cases m) [ inl e ↦ (let at = ap (λ (z : Logged). z.number) e in omega (arith, at, number)) | inr none ↦ elim none [ ] ]);
      last = λ d o. (let same = some_same _ d o in record { before = []; last = new; log = refl; number = number; opened = ap (λ (k : Connection). k.opened) same; wrote = wrote ∙ ap (λ (k : Connection). k.written) same });
      wrote = λ l m f later. elim (Among-cons_cases m) [ inl e ↦ subst (λ (z : Logged). WroteMessages z.opened f z.wrote) (sym e) (nothing f (subst (λ (z : Logged). Later peer z.number f) e later)) | inr none ↦ elim none [ ] ];
      plain = λ r e. (let none = certain in cc);
      persistent = λ k f later. persistent k f later;
    }
  where
    new : Logged
    new = record { number = last.number; opened = folded s.end (Reset t); wrote = last.wrote }

    peer : Peer
    peer = record { state = reset_state s t c; number = n; log = new ∷ []; given = [] }

    nothing : (f : End) → Later peer last.number f → WroteMessages (folded s.end (Reset t)) f last.wrote
    nothing f ways.now = subst (λ w. WroteMessages (folded s.end (Reset t)) f w) (sym (wrote ∙ silent)) (WroteMessages-nothing (GrowsTo-refl (folded s.end (Reset t))))
    nothing f (ways.opened l m lt) = elim (Among-cons_cases m) [ inl e ↦ (let at = ap (λ (z : Logged). z.number) e in absurd (omega (arith, at, lt))) | inr none ↦ elim none [ ] ]

    persistent : (k : ℕ) (f : End) → Later peer k f → IsPersistent f
    persistent k f ways.now = record { each = λ q m. elim m [ ] }
    persistent k f (ways.opened l m lt) = elim (Among-cons_cases m) [ inl e ↦ subst (λ (z : Logged). IsPersistent z.opened) (sym e) (record { each = λ q z. elim z [ ] }) | inr none ↦ elim none [ ] ]

no_given : {given : List Given} {g : Given} {A : Type 0} → given ≡ [] → Among g given → A
no_given {g = g} e m = elim (subst (λ w. Among g w) e m) [ ]

-- it and the initiator that asked are two ends that agree
reset_pair : (s : EndState) (t : ℕ) (c : Connection) (last : Logged) (n : ℕ) (x : Era) (l : Logged) → Lonely x.number x.peer → x.number ≡ n → Among l x.peer.log → IsPrefixOf c.read l.wrote → last.number ≡ n → last.wrote ≡ c.written → c.written ≡ [] → s.doubt ≡ None → Pair x.peer (record { state = reset_state s t c; number = n; log = record { number = last.number; opened = folded s.end (Reset t); wrote = last.wrote } ∷ []; given = [] })
reset_pair s t c last n x l one at m front number wrote silent certain =
    record {
      own = one.own;
      own_other = reset_own s t c last n number wrote silent certain;
      way = record {
        follows = λ h later. one.follows h;
        read = λ d o. inr (ways.asks one.asking);
        told = λ g k. no_given one.given k;
        known = λ g k. no_given one.given k;
        before = λ g k. no_given one.given k;
        certain = one.certain;
        behind = λ k among num d o. behind_starts x.peer.state.expected (one.follows k.opened).now;
        gave = λ d o g k. no_given one.given k;
      };
      back = record {
        follows = λ h later. record { now = Agrees-new h; running = λ e. Agrees-new h; settled = λ r e. (let none = certain in cc) };
        read = λ d o. inl (ways.some l m same (subst (λ (k : Connection). IsPrefixOf k.read l.wrote) (some_same _ d o) front));
        told = λ g k. elim k [ ];
        known = λ g k. elim k [ ];
        before = λ g k. elim k [ ];
        certain = λ d o. certain;
        behind = λ k among num d o. record { each = λ j some low high. absurd (omega (arith, some, high)) };
        gave = λ d o g k. elim k [ ];
      };
    }
  where
    same : l.number ≡ n
    same = ap (λ (z : Logged). z.number) (of_lonely one l m) ∙ one.first ∙ at

below_all : (last new : Logged) (rest : List Logged) (n : ℕ) → new.number ≡ last.number → last.number ≡ n → ((k : Logged) → Among k rest → k.number < last.number) → (l : Logged) → Among l (new ∷ rest) → l.number ≤ n
below_all last new rest n same number fell l m = elim (Among-cons_cases m) [ inl e ↦ (let at = ap (λ (z : Logged). z.number) e in omega (arith, at, same, number)) | inr old ↦ (let low = fell l old in omega (arith, low, number)) ]

no_kept : {o : End} {read written : List ℕ} {base : ℕ} {gave : List ℕ} {kept : List Answer} {d : Connection} → record { opened = o; read = read; written = written; base = base; gave = gave; kept = AskedReset ∷ kept } ≡ d → d.kept ≡ [] → ⊥
no_kept e none = let k = ap (λ (z : Connection). z.kept) e in let wrong = k ∙ none in cc

descends_behind : (xs ys zs : List Logged) (y z : Logged) → Descends (xs ++ (ys ++ zs)) → Among y ys → Among z zs → z.number < y.number
descends_behind [] ys zs y z d m k = descends_parts ys zs y z d m k
descends_behind (x ∷ xs) ys zs y z d m k = descends_behind xs ys zs y z d.1 m k

-- the eras behind the answered one stay unanswered
newer_lonely : {eras : List Era} {x : Era} (parts : Splits eras x) (rest : List Logged) {n : ℕ} → ((y : Era) → Among y eras → Lonely y.number y.peer) → Descends (logs parts.newer ++ (x.peer.log ++ rest)) → (l : Logged) → Among l x.peer.log → l.number ≡ n → (y : Era) → Among y parts.newer → Lonely y.number y.peer × (n < y.number)
newer_lonely {x = x} parts rest each fell l inside at y m =
    let one = each y (subst (λ w. Among y w) (sym parts.is) (Among-append_left (x ∷ parts.mid) m)) in
    let in_log : Among one.last y.peer.log = subst (λ w. Among one.last w) (sym one.log) here in
    let low = descends_parts (logs parts.newer) (x.peer.log ++ rest) one.last l fell (in_era_logs parts.newer y one.last m in_log) (Among-append_left rest inside) in
    let first = one.first in
    (one, omega (arith, low, at, first))

a_resets_to : {i a : EpochPeer} (v : Inv i a) (t : ℕ) (asked : IsAskedReset a.state) → a.state.doubt ≡ None → Inv i (reset_epoch_peer a (reset_state a.state t asked.connection))
a_resets_to {i = i} {a = a} v t asked certain =
    let h = v.acceptor in
    let g = v.initiator in
    let c = asked.connection in
    let lt = open_above (h.kept c asked.is_open) asked.unanswered in
    let found = asked_era v c lt asked.logon (v.reads_back c asked.is_open) in
    let x = found.era in
    let one = (v.lonely x found.among).0 in
    let parts = split_at v.eras x found.among in
    let at = found.at in
    let last = a_last v c asked.is_open in
    let whole_log : a.log ≡ last.last ∷ (last.before ++ h.older) = h.log ∙ ap (λ w. w ++ h.older) last.log in
    let new : Logged = record { number = last.last.number; opened = folded a.state.end (Reset t); wrote = last.last.wrote } in
    let new_log : reopened_log a.log (folded a.state.end (Reset t)) ≡ new ∷ (last.before ++ h.older) = ap (λ w. reopened_log w (folded a.state.end (Reset t))) whole_log in
    let fell : Descends (last.last ∷ (last.before ++ h.older)) = subst Descends whole_log h.descends in
    let i_log : i.log ≡ logs parts.newer ++ (x.peer.log ++ (logs parts.mid ++ (v.vi.log ++ g.older))) =
    g.log ∙ ap (λ w. w ++ (v.vi.log ++ g.older)) (ap (λ w. logs w) parts.is ∙ logs-append parts.newer (x ∷ parts.mid)) ∙ append_assoc (logs parts.newer) (x.peer.log ++ logs parts.mid) (v.vi.log ++ g.older) ∙ ap (λ w. logs parts.newer ++ w) (append_assoc x.peer.log (logs parts.mid) (v.vi.log ++ g.older)) in
    let i_fell : Descends (logs parts.newer ++ (x.peer.log ++ (logs parts.mid ++ (v.vi.log ++ g.older)))) = subst Descends i_log g.descends in
    let first_at : found.logged.number ≡ x.number = ap (λ (z : Logged). z.number) (of_lonely one found.logged found.inside) ∙ one.first in
    record {
      e = a.number;
      vi = x.peer;
      alog = new ∷ [];
      agiven = [];
      eras = parts.newer;
      pair = reset_pair a.state t c last.last a.number x found.logged one at found.inside found.front last.number last.wrote asked.silent certain;
      lonely = λ y m. newer_lonely parts (logs parts.mid ++ (v.vi.log ++ g.older)) (λ z k. (v.lonely z k).0) i_fell found.logged found.inside (first_at ∙ at) y m;
      acceptor = record {
        role = h.role;
        epoch = refl;
        inside = omega arith;
        older = last.before ++ h.older;
        log = new_log;
        old = λ l m. (let low = fell.0 l m in let here_at = last.number in omega (arith, low, here_at));
        descends = subst Descends (sym new_log) (fell.0, fell.1);
        below = λ l m. below_all last.last new (last.before ++ h.older) a.number refl last.number (λ k z. fell.0 k z) l (subst (λ w. Among l w) new_log m);
        covers = λ y m at_epoch. (let low = h.recent y m in absurd (omega (arith, low, at_epoch, lt)));
        recent = λ y m. (let low = h.recent y m in omega (arith, low, lt));
        kept = λ d o. answered (λ none. no_kept (some_same _ d o) none) refl;
        answers = λ l m begun. below_all last.last new (last.before ++ h.older) a.number refl last.number (λ k z. fell.0 k z) l (subst (λ w. Among l w) new_log m);
        marks = h.marks;
      };
      initiator = record {
        role = g.role;
        within = (let low = g.below found.logged (subst (λ w. Among found.logged w) (sym i_log) (Among-append_right (logs parts.newer) (Among-append_left (logs parts.mid ++ (v.vi.log ++ g.older)) found.inside))) in omega (arith, low, first_at, at));
        older = logs parts.mid ++ (v.vi.log ++ g.older);
        log = i_log;
        old = λ l m. (let low = descends_behind (logs parts.newer) x.peer.log (logs parts.mid ++ (v.vi.log ++ g.older)) found.logged l i_fell found.inside m in omega (arith, low, first_at, at));
        descends = g.descends;
        below = g.below;
        covers = λ y m at_epoch. (let low = g.recent y m in absurd (omega (arith, low, at_epoch, lt)));
        recent = λ y m. (let low = g.recent y m in omega (arith, low, lt));
        silent = g.silent;
        asked = λ l m begun. ap (λ (z : Logged). z.number) (of_lonely one l m) ∙ one.first ∙ at;
        marks = g.marks;
        current = subst (λ n. Current i n x.peer parts.newer) at (current_reset x parts one g.current);
      };
      reads = λ d o. comes_on (λ l m. reopened_still a.log (folded a.state.end (Reset t)) l m) (v.reads d o);
      reads_back = λ d o. subst (λ (k : Connection). Comes (whole i) a.number k.read) (some_same _ d o) (v.reads_back c asked.is_open);
    }

pub a_resets : {id : Identity} {i a : EpochPeer} {s' : EndState} (v : Inv i a) (t : ℕ) → IsAskedReset a.state → EndStep id a.state (act.Kept (Reset t)) s' → Inv i (reset_epoch_peer a s')
a_resets {i = i} {a = a} v t asked step = subst (λ z. Inv i (reset_epoch_peer a z)) (sym (reset_row t asked step.row)) (a_resets_to v t asked step.certain)
