-- What stays true of the two peers of a world that resets by Logon, each by itself.
use Rattle.std.proofs.Common.{◌≡◌, inl, inr, ℕ, ◌<◌, ◌≤◌, List, [], ◌∷◌, ◌++◌, true, Some, None, refl, sym, ap, ◌∙◌, subst, arith}
use Rattle.std.proofs.lemmas.List.{append-nil}
use Rattle.fix_base.specs.Lists.{Among, here, there, IsPrefixOf}
use Rattle.fix_base.specs.Message.{Message}
use Rattle.fix_base.specs.Shape.{IsFrame}
use Rattle.fix_base.specs.Stream.{frames}
use Rattle.fix_base.specs.Says as says
use Rattle.fix_base.specs.Says.{SaysAll, Shows, joined}
use Rattle.fix_base.specs.Logon.{IsResetLogon, IsFirstLogon, Begun}
use Rattle.fix_base.specs.Session.{Identity}
use Rattle.fix_base.specs.End.{Record, Push, Expect, Many, Withhold, Reset, ResetAsk, Confirm, End, Sent, app_entries, new_end}
use Rattle.fix_base.specs.Act as act
use Rattle.fix_base.specs.Act.{Act}
use Rattle.fix_base.specs.EndStep as steps
use Rattle.fix_base.specs.EndStep.{Role, Initiator, Acceptor, Answer, AskedReset, Handling, Connection, EndState, IsAsking, IsBlocked, WasRead, Row, EndStep, Move}
use Rattle.fix_base.specs.Agrees as agrees
use Rattle.fix_base.specs.Agrees.{fresh, Less}
use Rattle.fix_base.specs.Reader.{Follows}
use Rattle.fix_base.specs.World.{Logged, Given, Peer, grown_log}
use Rattle.fix_base.specs.Resets.{Handover, EpochPeer, MarksSince}
use Rattle.fix_base.proofs.ListLemmas.{prefix_trans, Among-append_right, Among-cons_cases}
use Rattle.fix_base.proofs.FramingLemmas.{front_frames}
use Rattle.fix_base.proofs.BytesLemmas.{read_among, spells_nothing}
use Rattle.fix_base.proofs.Runs.{all_more}
use Rattle.fix_base.proofs.FollowsLemmas.{Hears, row_follows, move_follows}
use Rattle.fix_base.proofs.Ways as ways
use Rattle.fix_base.proofs.Ways.{Comes}
use Rattle.fix_base.proofs.WriterLemmas.{StillIn, grown_was}

-- ---- an end that agrees with any other

abbrev pub FollowsAll : EndState → Type 0
FollowsAll s = (f : End) → Follows s f

-- one that asks for a reset hears nothing
hears_nothing : (s : EndState) (f : End) → IsAsking s → Hears s f
hears_nothing s f a = record { each = λ free c o x r. absurd (free (steps.asks a)) }

pub asks_on : {id : Identity} (s s' : EndState) (x : Act) → IsAsking s → s.doubt ≡ None → Row id s x s' → FollowsAll s → FollowsAll s'
asks_on s s' x a none row k = λ f. row_follows s s' x f none row (hears_nothing s f a) (k f)

pub asks_moves : (s s' : EndState) → IsAsking s → Move s s' → FollowsAll s → FollowsAll s'
asks_moves s s' a m k = λ f. move_follows s s' f m (hears_nothing s f a) (k f)

less_none : {held : List ℕ} {all left : List Sent} → Less held all left → all ≡ [] → left ≡ []
less_none agrees.none e = refl
less_none (agrees.keeps x l) e = cc
less_none (agrees.drops x h l) e = cc

fresh_none : (hs : List Handling) → fresh hs ≡ [] → hs ≡ []
fresh_none [] e = refl
fresh_none (h ∷ hs) e = cc

no_parts : {A : Type 0} (xs ys : List A) → [] ≡ xs ++ ys → xs ≡ []
no_parts [] ys e = refl
no_parts (x ∷ xs) ys e = cc

-- it handled nothing
pub nothing_handled : (s : EndState) → FollowsAll s → s.handled ≡ []
nothing_handled s k =
    let a = (k new_end).now in
    fresh_none s.handled (less_none a.same (ap (λ w. app_entries w) (no_parts a.below a.rest a.is)))

-- ---- the bytes of an end that asks

-- nothing, or a front of one Logon of number 1 with 141=Y
pub data Silent (w : List ℕ) : Type 0 where
  silence : w ≡ [] → Silent w
  logon_front : (text : List ℕ) → IsFrame text → IsFirstLogon text → IsPrefixOf w text → Silent w

pub first_resets : {text : List ℕ} → IsFirstLogon text → IsResetLogon text
first_resets h = record { fields = h.fields; has = h.has; type = h.type; flag = h.flag }

record HasFirst (texts : List (List ℕ)) : Type 0 where
  text : List ℕ
  others : List (List ℕ)
  is : texts ≡ text ∷ others

some_frame : {texts : List (List ℕ)} {xs : List Message} {x : Message} → SaysAll texts xs → Among x xs → HasFirst texts
some_frame says.none m = elim m [ ]
some_frame (says.says {text = text} {texts = texts} s others) m = record { text = text; others = texts; is = refl }
some_frame (says.silent {text = text} {texts = texts} s others) m = record { text = text; others = texts; is = refl }

same_first : (t text : List ℕ) (ts fs : List (List ℕ)) → fs ≡ t ∷ ts → IsPrefixOf fs (text ∷ []) → text ≡ t
same_first t text ts fs e p = let is : text ∷ [] ≡ fs ++ p.rest = p.is in let both : text ∷ [] ≡ t ∷ (ts ++ p.rest) = is ∙ ap (λ w. w ++ p.rest) e in cc

-- whatever is read of them, the first frame is that Logon
pub silent_begun : {w bytes : List ℕ} {xs : List Message} {x : Message} → Silent w → IsPrefixOf bytes w → Shows bytes xs → Among x xs → Begun IsResetLogon bytes
silent_begun {bytes = bytes} (silence none) p shows m = elim (read_among {ys = []} spells_nothing (subst (IsPrefixOf bytes) none p) shows m) [ ]
silent_begun {w = w} {bytes = bytes} (logon_front text frame logon whole_front) p shows m =
    let first = some_frame shows.says m in
    let front : IsPrefixOf bytes (joined (text ∷ [])) = subst (IsPrefixOf bytes) (sym (append-nil text)) (prefix_trans p whole_front) in
    let among = front_frames (text ∷ []) bytes shows.items shows.rest (record { each = λ t k. elim (Among-cons_cases k) [ inl e ↦ subst IsFrame (sym e) frame | inr none ↦ elim none [ ] ] }) front shows.takes in
    record {
      text = first.text;
      others = first.others;
      items = shows.items;
      rest = shows.rest;
      takes = shows.takes;
      first = first.is;
      is = subst IsResetLogon (same_first first.text text first.others (frames shows.items) first.is among) (first_resets logon);
    }

-- the first frame stays, whatever comes
pub begun_more : {P : List ℕ → Type 0} {bytes w : List ℕ} → IsPrefixOf bytes w → Begun P bytes → Begun P w
begun_more {P = P} {bytes = bytes} p b = subst (Begun P) (sym p.is) (record { text = b.text; others = b.others; items = b.items; rest = _; takes = all_more (record { may_mark = true; bytes = bytes }) b.items b.rest p.rest b.takes; first = b.first; is = b.is })

pub begun_resets : {bytes : List ℕ} → Begun IsFirstLogon bytes → Begun IsResetLogon bytes
begun_resets b = record { text = b.text; others = b.others; items = b.items; rest = b.rest; takes = b.takes; first = b.first; is = first_resets b.is }

-- ---- logs

-- the numbers fall strictly
abbrev pub Descends : List Logged → Type 0
Descends [] = Unit {0}
Descends (l ∷ log) = ((k : Logged) → Among k log → k.number < l.number) × Descends log

pub descends_grown : (log : List Logged) (b : List ℕ) → Descends log → Descends (grown_log log b)
descends_grown [] b d = tt
descends_grown (l ∷ log) b d = (d.0, d.1)

pub descends_parts : (xs ys : List Logged) (x y : Logged) → Descends (xs ++ ys) → Among x xs → Among y ys → y.number < x.number
descends_parts (l ∷ xs) ys x y d here m = d.0 y (Among-append_right xs m)
descends_parts (l ∷ xs) ys x y d (there k) m = descends_parts xs ys x y d.1 k m
descends_parts [] ys x y d k m = elim k [ ]

pub below_grown : (log : List Logged) (b : List ℕ) (n : ℕ) → ((l : Logged) → Among l log → l.number ≤ n) → (l : Logged) → Among l (grown_log log b) → l.number ≤ n
below_grown log b n h l m = let was = grown_was log b l m in let old = h was.was was.among in omega (arith, old, was.number)

pub below_more : (log : List Logged) (n c : ℕ) (e : End) → n < c → ((l : Logged) → Among l log → l.number ≤ n) → (l : Logged) → Among l (record { number = c; opened = e; wrote = [] } ∷ log) → l.number ≤ c
below_more log n c e lt h l m = elim (Among-cons_cases m) [ inl same ↦ (let at = ap (λ (k : Logged). k.number) same in omega (arith, at)) | inr old ↦ (let low = h l old in omega (arith, low, lt)) ]

pub descends_more : (log : List Logged) (n c : ℕ) (e : End) → n < c → ((l : Logged) → Among l log → l.number ≤ n) → Descends log → Descends (record { number = c; opened = e; wrote = [] } ∷ log)
descends_more log n c e lt h d = (λ k m. (let low = h k m in omega (arith, low, lt)), d)

-- a log in two parts grows in its first
pub grown_parts : (l : Logged) (xs ys : List Logged) (b : List ℕ) → grown_log ((l ∷ xs) ++ ys) b ≡ grown_log (l ∷ xs) b ++ ys
grown_parts l xs ys b = refl

pub grown_split : (log first rest before : List Logged) (l : Logged) (b : List ℕ) → log ≡ first ++ rest → first ≡ l ∷ before → grown_log log b ≡ grown_log first b ++ rest
grown_split log first rest before l b e f = ap (λ w. grown_log w b) (e ∙ ap (λ w. w ++ rest) f) ∙ ap (λ w. grown_log w b ++ rest) (sym f)

-- a peer of an epoch as a peer with all its connections
abbrev pub whole : EpochPeer → Peer
whole p = record { state = p.state; number = p.number; log = p.log; given = [] }

-- a peer as a peer of an epoch, with these connections and these messages given
abbrev pub seen_as : EpochPeer → List Logged → List Given → Peer
seen_as p log given = record { state = p.state; number = p.number; log = log; given = given }

pub comes_on : {f f' : Peer} {n : ℕ} {bytes : List ℕ} → ((l : Logged) → Among l f.log → StillIn f'.log l) → Comes f n bytes → Comes f' n bytes
comes_on still (ways.nothing e) = ways.nothing e
comes_on still (ways.some l m number front) = let s = still l m in ways.some s.is s.among (s.number ∙ number) (prefix_trans front s.wrote)

-- what is read on an open connection is a front of what the other has written there
abbrev pub OpenReads : EpochPeer → EpochPeer → Type 0
OpenReads p o = (c : Connection) → p.state.connection ≡ Some c → Comes (whole o) p.number c.read

-- ---- what was given

-- what was given in this epoch
abbrev pub given_of : Handover → Given
given_of h = record { number = h.number; connection = h.connection }

abbrev pub Covers : List Handover → ℕ → List Given → Type 0
Covers gave e given = (h : Handover) → Among h gave → h.epoch ≡ e → Among (given_of h) given

abbrev pub Recent : List Handover → ℕ → Type 0
Recent gave e = (h : Handover) → Among h gave → h.epoch ≤ e

pub covers_more : {gave : List Handover} {e : ℕ} {given : List Given} (h : Handover) → Covers gave e given → Covers (h ∷ gave) e (given_of h ∷ given)
covers_more {e = e} {given = given} h k x m at = elim (Among-cons_cases m) [ inl same ↦ subst (λ (z : Handover). Among (given_of z) (given_of h ∷ given)) (sym same) here | inr old ↦ there (k x old at) ]

pub recent_more : {gave : List Handover} {e : ℕ} (h : Handover) → h.epoch ≡ e → Recent gave e → Recent (h ∷ gave) e
recent_more h at k x m = elim (Among-cons_cases m) [ inl same ↦ (let z = ap (λ (w : Handover). w.epoch) same in omega (arith, at, z)) | inr old ↦ k x old ]

pub marks_none : MarksSince []
marks_none = record { each = λ newer older h earlier e m n p. elim (subst (λ w. Among h w) (sym e) (Among-append_right newer here)) [ ] }

marks_at : (h : Handover) (gave newer older : List Handover) (x earlier : Handover) → ((y : Handover) → Among y gave → y.number ≡ h.number → y.epoch ≡ h.epoch → h.marked ≡ true) → MarksSince gave → h ∷ gave ≡ newer ++ x ∷ older → Among earlier older → earlier.number ≡ x.number → earlier.epoch ≡ x.epoch → x.marked ≡ true
marks_at h gave [] older x earlier marked k e m n p =
    let same : h ≡ x = cc in
    let rest : gave ≡ older = cc in
    subst (λ (z : Handover). z.marked ≡ true) same (marked earlier (subst (λ w. Among earlier w) (sym rest) m) (n ∙ ap (λ (z : Handover). z.number) (sym same)) (p ∙ ap (λ (z : Handover). z.epoch) (sym same)))
marks_at h gave (y ∷ newer) older x earlier marked k e m n p =
    let rest : gave ≡ newer ++ x ∷ older = cc in
    k.each newer older x earlier rest m n p

pub marks_more : (h : Handover) (gave : List Handover) → ((y : Handover) → Among y gave → y.number ≡ h.number → y.epoch ≡ h.epoch → h.marked ≡ true) → MarksSince gave → MarksSince (h ∷ gave)
marks_more h gave marked k = record { each = λ newer older x earlier e m n p. marks_at h gave newer older x earlier marked k e m n p }

-- ---- answers on a connection

-- nothing was answered yet on a connection above the epoch, or a reset was on that of the epoch
pub data KeptAt (kept : List Answer) (e number : ℕ) : Type 0 where
  open_yet : kept ≡ [] → e < number → KeptAt kept e number
  answered : (kept ≡ [] → ⊥) → number ≡ e → KeptAt kept e number

-- ---- acts after which it is known of each record for a reset whether it was kept

abbrev pub IsSureRecord : Record → Type 0
IsSureRecord (Push e) = Unit {0}
IsSureRecord (Expect k) = Unit {0}
IsSureRecord (Many pushes k) = Unit {0}
IsSureRecord (Withhold n) = Unit {0}
IsSureRecord (Reset t) = ⊥
IsSureRecord (ResetAsk t) = ⊥
IsSureRecord Confirm = ⊥

abbrev pub IsSure : Act → Type 0
IsSure (act.KeepLost r) = IsSureRecord r
IsSure (act.Kept r) = Unit {0}
IsSure act.Opened = Unit {0}
IsSure (act.Now t) = Unit {0}
IsSure (act.Read b) = Unit {0}
IsSure act.Idle = Unit {0}
IsSure act.Ended = Unit {0}
IsSure (act.Wrote b) = Unit {0}
IsSure (act.Handed n marked body) = Unit {0}
IsSure (act.HandLost n marked body) = Unit {0}
IsSure (act.Withheld n) = Unit {0}
IsSure (act.Allowed n) = Unit {0}
IsSure act.Cut = Unit {0}
IsSure act.Stop = Unit {0}
