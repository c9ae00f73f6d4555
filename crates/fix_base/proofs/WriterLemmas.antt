-- What a peer does as a writer: it stays lawful by itself, and its reader keeps up.
use Rattle.std.proofs.Common.{◌≡◌, ◌⊎◌, inl, inr, ℕ, ◌<◌, ◌≤◌, List, [], ◌∷◌, ◌++◌, length, Some, None, refl, sym, ap, ◌∙◌, subst, arith}
use Rattle.fix_base.specs.Lists.{Among, here, there, IsPrefixOf}
use Rattle.fix_base.specs.End.{End, GrowsTo}
use Rattle.fix_base.specs.Payload.{IsPersistent}
use Rattle.fix_base.specs.Act as act
use Rattle.fix_base.specs.Act.{Act}
use Rattle.fix_base.proofs.Told.{WroteMessages}
use Rattle.fix_base.specs.Session.{Identity}
use Rattle.fix_base.specs.EndStep.{Connection, EndState, EndStep, Move}
use Rattle.fix_base.specs.World.{Logged, Given, Peer, grown_log, opened_peer, wrote_peer, rested, IsPlain}
use Rattle.fix_base.proofs.ListLemmas.{some_same, length-prefix, Among-cons_cases, prefix_refl, prefix_append, prefix_trans}
use Rattle.fix_base.proofs.WroteLemmas.{GrowsTo-refl, WroteMessages-more, WroteMessages-nothing}
use Rattle.fix_base.proofs.FollowsLemmas.{KeepsUp-more, OpenBehind, behind_starts}
use Rattle.fix_base.proofs.Ways as ways
use Rattle.fix_base.proofs.Ways.{Later, IsLast, Own, Comes, Way, ViewStep}
use Rattle.fix_base.proofs.RowLemmas.{row_grows, row_persistent, row_plain, quiet_connection, opened_row, read_row, WroteRow, wrote_row, handed_row, lost_row, DoubtIsPlain, move_grows, move_persistent, move_plain, move_connection}

-- ---- the log

-- this stood in the log, with less written
pub record WasIn (log : List Logged) (l : Logged) : Type 0 where
  pub was : Logged
  pub among : Among was log
  pub number : was.number ≡ l.number
  pub opened : was.opened ≡ l.opened

-- this stands in the log, with more written
pub record StillIn (log : List Logged) (l : Logged) : Type 0 where
  pub is : Logged
  pub among : Among is log
  pub number : is.number ≡ l.number
  pub wrote : IsPrefixOf l.wrote is.wrote

was_same : {log : List Logged} {l : Logged} → Among l log → WasIn log l
was_same {l = l} m = record { was = l; among = m; number = refl; opened = refl }

pub still_same : {log : List Logged} {l : Logged} → Among l log → StillIn log l
still_same {l = l} m = record { is = l; among = m; number = refl; wrote = prefix_refl l.wrote }

pub grown_was : (log : List Logged) (b : List ℕ) (l : Logged) → Among l (grown_log log b) → WasIn log l
grown_was [] b l m = elim m [ ]
grown_was (k ∷ log) b l here = record { was = k; among = here; number = refl; opened = refl }
grown_was (k ∷ log) b l (there m) = was_same (there m)

pub grown_still : (log : List Logged) (b : List ℕ) (l : Logged) → Among l log → StillIn (grown_log log b) l
grown_still [] b l m = elim m [ ]
grown_still (k ∷ log) b l here = record { is = record { number = k.number; opened = k.opened; wrote = k.wrote ++ b }; among = here; number = refl; wrote = prefix_append k.wrote b }
grown_still (k ∷ log) b l (there m) = still_same (there m)

-- ---- a writer that has grown

-- a later moment is one of before, or has grown from one
pub record Back (f : Peer) (c : ℕ) (h : End) : Type 0 where
  pub was : End
  pub later : Later f c was
  pub grew : GrowsTo was h

pub record Grows (f f' : Peer) : Type 0 where
  pub later : (c : ℕ) (h : End) → Later f' c h → Back f c h
  pub logged : (l : Logged) → Among l f'.log → WasIn f.log l ⊎ (l.opened ≡ f.state.end)
  pub wrote : (l : Logged) → Among l f.log → StillIn f'.log l

-- its reader keeps up
pub way_grown : (e f f' : Peer) → Way e f → Grows f f' → Way e f'
way_grown e f f' w g =
    record {
      follows = λ h later. (let b = g.later e.number h later in KeepsUp-more b.grew (w.follows b.was b.later));
      read = λ c o. elim (w.read c o) [ inl k ↦ inl (comes k) | inr deaf ↦ inr deaf ];
      told = w.told;
      known = λ n m h later. (let b = g.later e.number h later in let known = w.known n m b.was b.later in let longer = length-prefix b.grew.out in omega arith);
      before = λ n m l among number lt. before n m l lt number (g.logged l among);
      certain = w.certain;
      behind = λ l m number. behind l number (g.logged l m);
      gave = w.gave;
    }
  where
    comes : {bytes : List ℕ} → Comes f e.number bytes → Comes f' e.number bytes
    comes (ways.nothing none) = ways.nothing none
    comes (ways.some l m number front) = let still = g.wrote l m in ways.some still.is still.among (still.number ∙ number) (prefix_trans front still.wrote)

    before : (n : Given) → Among n e.given → (l : Logged) → n.connection < e.number → l.number ≡ e.number → WasIn f.log l ⊎ (l.opened ≡ f.state.end) → n.number ≤ length l.opened.out
    before n m l lt number (inl was) = subst (λ (h : End). n.number ≤ length h.out) was.opened (w.before n m was.was was.among (was.number ∙ number) lt)
    before n m l lt number (inr new) = subst (λ (h : End). n.number ≤ length h.out) (sym new) (w.known n m f.state.end ways.now)

    behind : (l : Logged) → l.number ≡ e.number → WasIn f.log l ⊎ (l.opened ≡ f.state.end) → OpenBehind l.opened e.state
    behind l number (inl was) = subst (λ h. OpenBehind h e.state) was.opened (w.behind was.was was.among (was.number ∙ number))
    behind l number (inr new) = subst (λ h. OpenBehind h e.state) (sym new) (λ c o. behind_starts e.state.expected (w.follows f.state.end ways.now).now)

-- where the log stays
pub same_log : (f : Peer) (s' : EndState) (given : List Given) → GrowsTo f.state.end s'.end → Grows f (record { state = s'; number = f.number; log = f.log; given = given })
same_log f s' given p = record { later = λ c h l. back c h l; logged = λ l m. inl (was_same m); wrote = λ l m. still_same m }
  where
    back : (c : ℕ) (h : End) → Later (record { state = s'; number = f.number; log = f.log; given = given }) c h → Back f c h
    back c h ways.now = record { was = f.state.end; later = ways.now; grew = p }
    back c h (ways.opened l m lt) = record { was = l.opened; later = ways.opened l m lt; grew = GrowsTo-refl l.opened }

-- where a connection was opened
more_log : (f : Peer) (s' : EndState) (n : ℕ) → GrowsTo f.state.end s'.end → Grows f (opened_peer f s' n)
more_log f s' n p = record { later = λ c h l. back c h l; logged = λ l m. logged l m; wrote = λ l m. still_same (there m) }
  where
    new : Logged
    new = record { number = n; opened = f.state.end; wrote = [] }

    back_log : (c : ℕ) (l : Logged) → Among l (new ∷ f.log) → c < l.number → Back f c l.opened
    back_log c l here lt = record { was = f.state.end; later = ways.now; grew = GrowsTo-refl f.state.end }
    back_log c l (there m) lt = record { was = l.opened; later = ways.opened l m lt; grew = GrowsTo-refl l.opened }

    back : (c : ℕ) (h : End) → Later (opened_peer f s' n) c h → Back f c h
    back c h ways.now = record { was = f.state.end; later = ways.now; grew = p }
    back c h (ways.opened l m lt) = back_log c l m lt

    logged : (l : Logged) → Among l (new ∷ f.log) → WasIn f.log l ⊎ (l.opened ≡ f.state.end)
    logged l here = inr refl
    logged l (there m) = inl (was_same m)

-- where the last connection's bytes have grown
grown_log_grows : (f : Peer) (s' : EndState) (b : List ℕ) → GrowsTo f.state.end s'.end → Grows f (wrote_peer f s' b)
grown_log_grows f s' b p = record { later = λ c h l. back c h l; logged = λ l m. inl (grown_was f.log b l m); wrote = λ l m. grown_still f.log b l m }
  where
    back : (c : ℕ) (h : End) → Later (wrote_peer f s' b) c h → Back f c h
    back c h ways.now = record { was = f.state.end; later = ways.now; grew = p }
    back c h (ways.opened l m lt) =
        let was = grown_was f.log b l m in
        record { was = was.was.opened; later = ways.opened was.was was.among (omega (arith, was.number)); grew = subst (λ (k : End). GrowsTo was.was.opened k) was.opened (GrowsTo-refl was.was.opened) }

-- each act of a writer
step_grows : {id : Identity} (f o f' : Peer) (x : Act) → ViewStep id f o x f' → IsPlain x → Grows f f'
step_grows f o f' x (ways.opens {s' = s'} c lt step) h = more_log f s' c (row_grows step.certain step.row h)
step_grows f o f' x (ways.reads {s' = s'} b heeds step) h = same_log f s' f.given (row_grows step.certain step.row h)
step_grows f o f' x (ways.writes {s' = s'} b step) h = grown_log_grows f s' b (row_grows step.certain step.row h)
step_grows f o f' x (ways.hands {s' = s'} n marked body step) h = same_log f s' (record { number = n; connection = f.number } ∷ f.given) (row_grows step.certain step.row h)
step_grows f o f' x (ways.loses {s' = s'} n marked body step) h = same_log f s' (record { number = n; connection = f.number } ∷ f.given) (row_grows step.certain step.row h)
step_grows f o f' x (ways.rests {s' = s'} y quiet step) h = same_log f s' f.given (row_grows step.certain step.row h)

pub writer_steps : {id : Identity} (e f o f' : Peer) (x : Act) → Way e f → ViewStep id f o x f' → IsPlain x → Way e f'
writer_steps e f o f' x w step h = way_grown e f f' w (step_grows f o f' x step h)

pub writer_moves : (e f : Peer) (s' : EndState) → Way e f → Own f → Move f.state s' → Way e (rested f s')
writer_moves e f s' w own m = way_grown e f (rested f s') w (same_log f s' f.given (move_grows m own.plain))

-- ---- a peer by itself

-- the connection is that of before, as far as its writing goes
pub record Carries (a : Peer) (c : Connection) : Type 0 where
  pub was : Connection
  pub is_open : a.state.connection ≡ Some was
  pub opened : was.opened ≡ c.opened
  pub written : was.written ≡ c.written

carries_same : {a : Peer} {c : Connection} → a.state.connection ≡ Some c → Carries a c
carries_same {c = c} o = record { was = c; is_open = o; opened = refl; written = refl }

-- where the log stays
pub own_rests : (a : Peer) (s' : EndState) (given : List Given) → Own a → GrowsTo a.state.end s'.end → IsPersistent s'.end → DoubtIsPlain s' → ((c : Connection) → s'.connection ≡ Some c → Carries a c) → Own (record { state = s'; number = a.number; log = a.log; given = given })
own_rests a s' given own p kept plain carries =
    let grows = same_log a s' given p in
    record {
      below = own.below;
      last = λ c o. (let k = carries c o in let l = own.last k.was k.is_open in record { before = l.before; last = l.last; log = l.log; number = l.number; opened = l.opened ∙ k.opened; wrote = l.wrote ∙ k.written });
      wrote = λ l m f later. (let b = grows.later l.number f later in WroteMessages-more b.grew (own.wrote l m b.was b.later));
      plain = plain;
      persistent = λ c f later. persistent c f later;
    }
  where
    persistent : (c : ℕ) (f : End) → Later (record { state = s'; number = a.number; log = a.log; given = given }) c f → IsPersistent f
    persistent c f ways.now = kept
    persistent c f (ways.opened l m lt) = own.persistent c l.opened (ways.opened l m lt)

-- where a connection is opened
own_opens : {id : Identity} (a : Peer) (s' : EndState) (n : ℕ) → Own a → a.number < n → EndStep id a.state act.Opened s' → Own (opened_peer a s' n)
own_opens a s' n own above step =
    record {
      below = λ l m. below l m;
      last = λ c o. last c o;
      wrote = λ l m f later. wrote l m f later;
      plain = row_plain step.row step.certain tt;
      persistent = λ c f later. persistent c f later;
    }
  where
    p : GrowsTo a.state.end s'.end
    p = row_grows step.certain step.row tt

    below : (l : Logged) → Among l (record { number = n; opened = a.state.end; wrote = [] } ∷ a.log) → l.number ≤ n
    below l here = omega arith
    below l (there m) = omega (arith, own.below l m)

    last : (c : Connection) → s'.connection ≡ Some c → IsLast (opened_peer a s' n) c
    last c o =
        let r = opened_row step.row in
        let same = some_same _ c (sym r.connection ∙ o) in
        record { before = a.log; last = record { number = n; opened = a.state.end; wrote = [] }; log = refl; number = refl; opened = ap (λ (k : Connection). k.opened) same; wrote = ap (λ (k : Connection). k.written) same }

    wrote_new : (f : End) → Later (opened_peer a s' n) n f → WroteMessages a.state.end f []
    wrote_new f ways.now = WroteMessages-nothing p
    wrote_new f (ways.opened l m lt) = absurd (omega (arith, below l m))

    wrote : (l : Logged) → Among l (record { number = n; opened = a.state.end; wrote = [] } ∷ a.log) → (f : End) → Later (opened_peer a s' n) l.number f → WroteMessages l.opened f l.wrote
    wrote l here f later = wrote_new f later
    wrote l (there m) f later = let grows = more_log a s' n p in let b = grows.later l.number f later in WroteMessages-more b.grew (own.wrote l m b.was b.later)

    persistent_log : (c : ℕ) (l : Logged) → Among l (record { number = n; opened = a.state.end; wrote = [] } ∷ a.log) → c < l.number → IsPersistent l.opened
    persistent_log c l here lt = own.persistent c a.state.end ways.now
    persistent_log c l (there m) lt = own.persistent c l.opened (ways.opened l m lt)

    persistent : (c : ℕ) (f : End) → Later (opened_peer a s' n) c f → IsPersistent f
    persistent c f ways.now = row_persistent step.certain step.row tt (own.persistent c a.state.end ways.now)
    persistent c f (ways.opened l m lt) = persistent_log c l m lt

-- where something is written
own_writes : {id : Identity} (a : Peer) (s' : EndState) (b : List ℕ) → Own a → EndStep id a.state (act.Wrote b) s' → Own (wrote_peer a s' b)
own_writes {id = id} a s' b own step =
    record {
      below = λ l m. (let was = grown_was a.log b l m in omega (arith, own.below was.was was.among, was.number));
      last = λ c o. (let same = some_same _ c (sym r.connection ∙ o) in record {
        before = l0.before;
        last = record { number = l0.last.number; opened = l0.last.opened; wrote = l0.last.wrote ++ b };
        log = ap (λ w. grown_log w b) l0.log;
        number = l0.number;
        opened = l0.opened ∙ ap (λ (k : Connection). k.opened) same;
        wrote = ap (λ w. w ++ b) l0.wrote ∙ ap (λ (k : Connection). k.written) same;
      });
      wrote = λ l m f later. (elim (Among-cons_cases (subst (λ w. Among l (grown_log w b)) l0.log m)) [
        | inl e ↦ wrote_last l e f later
        | inr k ↦ (let old = Among-later l k in let g = grows.later l.number f later in WroteMessages-more g.grew (own.wrote l old g.was g.later))
      ]);
      plain = row_plain step.row step.certain tt;
      persistent = λ c f later. persistent c f later;
    }
  where
    p : GrowsTo a.state.end s'.end
    p = row_grows step.certain step.row tt

    grows : Grows a (wrote_peer a s' b)
    grows = grown_log_grows a s' b p

    r : WroteRow id a.state b s'
    r = wrote_row step.row

    l0 : IsLast a r.was
    l0 = own.last r.was r.is_open

    Among-later : (l : Logged) → Among l l0.before → Among l a.log
    Among-later l m = subst (λ w. Among l w) (sym l0.log) (there m)

    wrote_new : (f : End) → Later (wrote_peer a s' b) l0.last.number f → WroteMessages l0.last.opened f (l0.last.wrote ++ b)
    wrote_new f ways.now = subst (λ (o : End). WroteMessages o s'.end (l0.last.wrote ++ b)) (sym l0.opened) (subst (λ w. WroteMessages r.was.opened s'.end (w ++ b)) (sym l0.wrote) r.lawful)
    wrote_new f (ways.opened l m lt) = let was = grown_was a.log b l m in absurd (omega (arith, own.below was.was was.among, was.number, l0.number))

    wrote_last : (l : Logged) → l ≡ record { number = l0.last.number; opened = l0.last.opened; wrote = l0.last.wrote ++ b } → (f : End) → Later (wrote_peer a s' b) l.number f → WroteMessages l.opened f l.wrote
    wrote_last l e = subst (λ (z : Logged). (f : End) → Later (wrote_peer a s' b) z.number f → WroteMessages z.opened f z.wrote) (sym e) wrote_new

    persistent : (c : ℕ) (f : End) → Later (wrote_peer a s' b) c f → IsPersistent f
    persistent c f ways.now = row_persistent step.certain step.row tt (own.persistent c a.state.end ways.now)
    persistent c f (ways.opened l m lt) = let was = grown_was a.log b l m in subst IsPersistent was.opened (own.persistent c was.was.opened (ways.opened was.was was.among (omega (arith, was.number))))

pub own_steps : {id : Identity} (a o a' : Peer) (x : Act) → Own a → ViewStep id a o x a' → IsPlain x → Own a'
own_steps a o a' x own (ways.opens {s' = s'} c lt step) h = own_opens a s' c own lt step
own_steps a o a' x own (ways.writes {s' = s'} b step) h = own_writes a s' b own step
own_steps a o a' x own (ways.reads {s' = s'} b heeds step) h =
    let r = read_row step.row in
    own_rests a s' a.given own (row_grows step.certain step.row h) (row_persistent step.certain step.row h (own.persistent 0 a.state.end ways.now)) (row_plain step.row step.certain h)
    (λ d e. let same = some_same _ d (sym r.connection ∙ e) in record { was = r.was; is_open = r.is_open; opened = ap (λ (k : Connection). k.opened) same; written = ap (λ (k : Connection). k.written) same })
own_steps a o a' x own (ways.hands {s' = s'} n marked body step) h =
    let r = handed_row step.row in
    own_rests a s' (record { number = n; connection = a.number } ∷ a.given) own (row_grows step.certain step.row h) (row_persistent step.certain step.row h (own.persistent 0 a.state.end ways.now)) (row_plain step.row step.certain h)
    (λ d e. let same = some_same _ d (sym r.connection ∙ e) in record { was = r.was; is_open = r.may.is_open; opened = ap (λ (k : Connection). k.opened) same; written = ap (λ (k : Connection). k.written) same })
own_steps a o a' x own (ways.loses {s' = s'} n marked body step) h =
    let r = lost_row step.row in
    own_rests a s' (record { number = n; connection = a.number } ∷ a.given) own (row_grows step.certain step.row h) (row_persistent step.certain step.row h (own.persistent 0 a.state.end ways.now)) (row_plain step.row step.certain h)
    (λ d e. let none : None ≡ Some d = sym r.connection ∙ e in cc)
own_steps a o a' x own (ways.rests {s' = s'} y quiet step) h =
    own_rests a s' a.given own (row_grows step.certain step.row h) (row_persistent step.certain step.row h (own.persistent 0 a.state.end ways.now)) (row_plain step.row step.certain h)
    (λ d e. carries_same (quiet_connection step.certain step.row quiet h d e))

pub own_moves : (a : Peer) (s' : EndState) → Own a → Move a.state s' → Own (rested a s')
own_moves a s' own m =
    own_rests a s' a.given own (move_grows m own.plain) (move_persistent m own.plain (own.persistent 0 a.state.end ways.now)) (move_plain m own.plain)
    (λ d e. carries_same (move_connection m d e))
