-- What each act and each move does to the parts of a state.
use Rattle.std.proofs.Common.{◌≡◌, inl, inr, ℕ, ◌==◌, if◌then◌else◌, List, [], ◌∷◌, ◌++◌, Bool, true, false, Some, None, refl, sym, ◌∙◌, subst}
use Rattle.fix_base.specs.Lists.{Among, here, there}
use Rattle.std.specs.List.{AllByRecursion}
use Rattle.fix_base.specs.End.{Entry, Record, Push, Expect, Many, Withhold, Reset, ResetAsk, Confirm, End, folded, GrowsTo}
use Rattle.fix_base.specs.Payload.{IsPersistentEntry, IsPersistent}
use Rattle.fix_base.specs.Act as act
use Rattle.fix_base.specs.Act.{Act}
use Rattle.fix_base.proofs.Told.{WroteMessages}
use Rattle.fix_base.specs.Session.{Identity}
use Rattle.fix_base.specs.EndStep as steps
use Rattle.fix_base.specs.EndStep.{Connection, EndState, IsAsking, IsBlocked, LogonRule, MayHand, Pushed, Row, Move}
use Rattle.fix_base.specs.World.{IsPlainRecord, IsPlain, IsQuiet}
use Rattle.fix_base.proofs.ListLemmas.{some_same, Among-append_cases}
use Rattle.fix_base.proofs.WroteLemmas.{GrowsTo-refl}
use Rattle.fix_base.proofs.WrittenLemmas.{wrote_of}
use Rattle.fix_base.proofs.WholeLemmas.{push_grows, expect_grows, many_grows, withhold_grows}
use Rattle.fix_base.proofs.FollowsLemmas.{pushed_block, pushed_end, pushed_connection, pushed_doubt, linked}

-- a record that is no reset only adds
pub folded_grows : (e : End) (r : Record) → IsPlainRecord r → GrowsTo e (folded e r)
folded_grows e (Push entry) h = push_grows e entry
folded_grows e (Expect k) h = expect_grows e k
folded_grows e (Many pushes k) h = many_grows e pushes k
folded_grows e (Withhold n) h = withhold_grows e n
folded_grows e (Reset t) h = absurd h
folded_grows e (ResetAsk t) h = absurd h
folded_grows e Confirm h = absurd h

each_persistent : (x : Entry) (pushes : List Entry) → AllByRecursion IsPersistentEntry pushes → Among x pushes → IsPersistentEntry x
each_persistent x [] h m = elim m [ ]
each_persistent x (e ∷ pushes) h here = h.0
each_persistent x (e ∷ pushes) h (there m) = each_persistent x pushes h.1 m

-- entries that may be sent again are added
added_persistent : (e : End) (pushes : List Entry) (x : Entry) → AllByRecursion IsPersistentEntry pushes → IsPersistent e → Among x (e.out ++ pushes) → IsPersistentEntry x
added_persistent e pushes x h p m = elim (Among-append_cases e.out pushes m) [ inl old ↦ p.each x old | inr new ↦ each_persistent x pushes h new ]

expecting_out : (f : End) (none : Bool) (k : ℕ) → (if none then f else record f { stored = k }).out ≡ f.out
expecting_out f true k = refl
expecting_out f false k = refl

pub folded_persistent : (e : End) (r : Record) → IsPlainRecord r → IsPersistent e → IsPersistent (folded e r)
folded_persistent e (Push entry) h p = record { each = λ x m. added_persistent e (entry ∷ []) x (h, tt) p m }
folded_persistent e (Expect k) h p = record { each = p.each }
folded_persistent e (Many pushes k) h p = record { each = λ x m. added_persistent e pushes x h p (subst (λ w. Among x w) (expecting_out (record e { out = e.out ++ pushes }) (k == 0) k) m) }
folded_persistent e (Withhold n) h p = record { each = p.each }
folded_persistent e (Reset t) h p = absurd h
folded_persistent e (ResetAsk t) h p = absurd h
folded_persistent e Confirm h p = absurd h

-- ---- an act

push_of : {s s' : EndState} {e : Entry} → Pushed s e s' → IsPersistentEntry e → GrowsTo s.end s'.end
push_of {s = s} {e = e} pushed h = subst (λ (f : End). GrowsTo s.end f) (sym (pushed_end pushed)) (push_grows s.end e)

pub row_grows : {id : Identity} {s s' : EndState} {x : Act} → s.doubt ≡ None → Row id s x s' → IsPlain x → GrowsTo s.end s'.end
row_grows {s = s} none (steps.opened empty) h = GrowsTo-refl s.end
row_grows {s = s} none (steps.now t) h = GrowsTo-refl s.end
row_grows {s = s} none (steps.idle c o) h = GrowsTo-refl s.end
row_grows {s = s} none (steps.ended c o) h = GrowsTo-refl s.end
row_grows {s = s} none (steps.read b c o) h = GrowsTo-refl s.end
row_grows {s = s} none (steps.wrote b c o w rule) h = GrowsTo-refl s.end
row_grows {s = s} none (steps.kept_push e pushed) h = push_of pushed h
row_grows {s = s} none (steps.kept_expect k at) h = folded_grows s.end (Expect k) h
row_grows {s = s} none (steps.kept_many pushes k chain) h = subst (λ (f : End). GrowsTo s.end f) (sym (linked chain none).end) (many_grows s.end pushes k)
row_grows {s = s} none (steps.kept_withhold n offered) h = withhold_grows s.end n
row_grows {s = s} none (steps.kept_reset t c answer o stay asks) h = absurd h
row_grows {s = s} none (steps.cut_reset t gone) h = absurd h
row_grows {s = s} none (steps.kept_ask t alone) h = absurd h
row_grows {s = s} none (steps.kept_confirm c o asking begun) h = absurd h
row_grows {s = s} none (steps.handed c n marked body free may) h = GrowsTo-refl s.end
row_grows {s = s} none (steps.hand_lost c n marked body free may) h = GrowsTo-refl s.end
row_grows {s = s} none (steps.allowed n may) h = GrowsTo-refl s.end
row_grows {s = s} none (steps.offers n may) h = GrowsTo-refl s.end
row_grows {s = s} none (steps.lost_push e) h = GrowsTo-refl s.end
row_grows {s = s} none (steps.lost_expect k at) h = GrowsTo-refl s.end
row_grows {s = s} none (steps.lost_many pushes k chain) h = GrowsTo-refl s.end
row_grows {s = s} none (steps.lost_withhold n offered) h = GrowsTo-refl s.end
row_grows {s = s} none (steps.lost_reset t) h = GrowsTo-refl s.end
row_grows {s = s} none (steps.lost_ask t alone) h = absurd h
row_grows {s = s} none (steps.lost_confirm c o asking begun) h = absurd h
row_grows {s = s} none steps.cut h = GrowsTo-refl s.end
row_grows {s = s} none steps.stopped h = GrowsTo-refl s.end

pub row_persistent : {id : Identity} {s s' : EndState} {x : Act} → s.doubt ≡ None → Row id s x s' → IsPlain x → IsPersistent s.end → IsPersistent s'.end
row_persistent {s = s} none (steps.opened empty) h p = p
row_persistent {s = s} none (steps.now t) h p = p
row_persistent {s = s} none (steps.idle c o) h p = p
row_persistent {s = s} none (steps.ended c o) h p = p
row_persistent {s = s} none (steps.read b c o) h p = p
row_persistent {s = s} none (steps.wrote b c o w rule) h p = p
row_persistent {s = s} none (steps.kept_push e pushed) h p = subst IsPersistent (sym (pushed_end pushed)) (folded_persistent s.end (Push e) h p)
row_persistent {s = s} none (steps.kept_expect k at) h p = folded_persistent s.end (Expect k) h p
row_persistent {s = s} none (steps.kept_many pushes k chain) h p = subst IsPersistent (sym (linked chain none).end) (folded_persistent s.end (Many pushes k) h p)
row_persistent {s = s} none (steps.kept_withhold n offered) h p = folded_persistent s.end (Withhold n) h p
row_persistent {s = s} none (steps.kept_reset t c answer o stay asks) h p = absurd h
row_persistent {s = s} none (steps.cut_reset t gone) h p = absurd h
row_persistent {s = s} none (steps.kept_ask t alone) h p = absurd h
row_persistent {s = s} none (steps.kept_confirm c o asking begun) h p = absurd h
row_persistent {s = s} none (steps.handed c n marked body free may) h p = p
row_persistent {s = s} none (steps.hand_lost c n marked body free may) h p = p
row_persistent {s = s} none (steps.allowed n may) h p = p
row_persistent {s = s} none (steps.offers n may) h p = p
row_persistent {s = s} none (steps.lost_push e) h p = p
row_persistent {s = s} none (steps.lost_expect k at) h p = p
row_persistent {s = s} none (steps.lost_many pushes k chain) h p = p
row_persistent {s = s} none (steps.lost_withhold n offered) h p = p
row_persistent {s = s} none (steps.lost_reset t) h p = p
row_persistent {s = s} none (steps.lost_ask t alone) h p = absurd h
row_persistent {s = s} none (steps.lost_confirm c o asking begun) h p = absurd h
row_persistent {s = s} none steps.cut h p = p
row_persistent {s = s} none steps.stopped h p = p

lost_plain : (r q : Record) → IsPlainRecord r → Some r ≡ Some q → IsPlainRecord q
lost_plain r q h e = subst IsPlainRecord (some_same r q e) h

-- what comes into doubt is plain
pub row_plain : {id : Identity} {s s' : EndState} {x : Act} → Row id s x s' → s.doubt ≡ None → IsPlain x → (r : Record) → s'.doubt ≡ Some r → IsPlainRecord r
row_plain (steps.opened empty) none h r e = cc
row_plain (steps.now t) none h r e = cc
row_plain (steps.idle c o) none h r e = cc
row_plain (steps.ended c o) none h r e = cc
row_plain (steps.read b c o) none h r e = cc
row_plain (steps.wrote b c o w rule) none h r e = cc
row_plain (steps.kept_push k pushed) none h r e = (let certain = pushed_doubt pushed in cc)
row_plain (steps.kept_expect k at) none h r e = cc
row_plain (steps.kept_many pushes k chain) none h r e = (let certain = (linked chain none).certain in cc)
row_plain (steps.kept_withhold n offered) none h r e = cc
row_plain (steps.kept_reset t c answer o stay asks) none h r e = absurd h
row_plain (steps.cut_reset t gone) none h r e = absurd h
row_plain (steps.kept_ask t alone) none h r e = absurd h
row_plain (steps.kept_confirm c o asking begun) none h r e = absurd h
row_plain (steps.handed c n marked body free may) none h r e = cc
row_plain (steps.hand_lost c n marked body free may) none h r e = cc
row_plain (steps.allowed n may) none h r e = cc
row_plain (steps.offers n may) none h r e = cc
row_plain (steps.lost_push k) none h r e = lost_plain (Push k) r h e
row_plain (steps.lost_expect k at) none h r e = lost_plain (Expect k) r tt e
row_plain (steps.lost_many pushes k chain) none h r e = lost_plain (Many pushes k) r h e
row_plain (steps.lost_withhold n offered) none h r e = lost_plain (Withhold n) r tt e
row_plain (steps.lost_reset t) none h r e = absurd h
row_plain (steps.lost_ask t alone) none h r e = absurd h
row_plain (steps.lost_confirm c o asking begun) none h r e = absurd h
row_plain steps.cut none h r e = cc
row_plain steps.stopped none h r e = cc

-- a quiet act leaves the connection, or ends it
pub quiet_connection : {id : Identity} {s s' : EndState} {x : Act} → s.doubt ≡ None → Row id s x s' → IsQuiet x → IsPlain x → (c : Connection) → s'.connection ≡ Some c → s.connection ≡ Some c
quiet_connection none (steps.opened empty) q h c e = absurd q
quiet_connection none (steps.now t) q h c e = e
quiet_connection none (steps.idle k o) q h c e = e
quiet_connection none (steps.ended k o) q h c e = e
quiet_connection none (steps.read b k o) q h c e = absurd q
quiet_connection none (steps.wrote b k o w rule) q h c e = absurd q
quiet_connection none (steps.kept_push k pushed) q h c e = sym (pushed_connection pushed) ∙ e
quiet_connection none (steps.kept_expect k at) q h c e = e
quiet_connection none (steps.kept_many pushes k chain) q h c e = sym (linked chain none).connection ∙ e
quiet_connection none (steps.kept_withhold n offered) q h c e = e
quiet_connection none (steps.kept_reset t k answer o stay asks) q h c e = absurd h
quiet_connection none (steps.cut_reset t gone) q h c e = absurd h
quiet_connection none (steps.kept_ask t alone) q h c e = absurd h
quiet_connection none (steps.kept_confirm k o asking begun) q h c e = absurd h
quiet_connection none (steps.handed k n marked body free may) q h c e = absurd q
quiet_connection none (steps.hand_lost k n marked body free may) q h c e = absurd q
quiet_connection none (steps.allowed n may) q h c e = e
quiet_connection none (steps.offers n may) q h c e = e
quiet_connection none (steps.lost_push k) q h c e = cc
quiet_connection none (steps.lost_expect k at) q h c e = cc
quiet_connection none (steps.lost_many pushes k chain) q h c e = cc
quiet_connection none (steps.lost_withhold n offered) q h c e = cc
quiet_connection none (steps.lost_reset t) q h c e = cc
quiet_connection none (steps.lost_ask t alone) q h c e = absurd h
quiet_connection none (steps.lost_confirm k o asking begun) q h c e = absurd h
quiet_connection none steps.cut q h c e = cc
quiet_connection none steps.stopped q h c e = cc

abbrev pub DoubtIsPlain : EndState → Type 0
DoubtIsPlain s = (r : Record) → s.doubt ≡ Some r → IsPlainRecord r

-- a plain act and a plain move leave the role and whether a reset is asked for
pub record SameAsk (s s' : EndState) : Type 0 where
  pub role : s'.role ≡ s.role
  pub asked : s'.end.asked ≡ s.end.asked

pub row_same : {id : Identity} {s s' : EndState} {x : Act} → s.doubt ≡ None → Row id s x s' → IsPlain x → SameAsk s s'
row_same none (steps.opened empty) h = record { role = refl; asked = refl }
row_same none (steps.now t) h = record { role = refl; asked = refl }
row_same none (steps.idle c o) h = record { role = refl; asked = refl }
row_same none (steps.ended c o) h = record { role = refl; asked = refl }
row_same none (steps.read b c o) h = record { role = refl; asked = refl }
row_same none (steps.wrote b c o w rule) h = record { role = refl; asked = refl }
row_same none (steps.kept_push e pushed) h = let same = pushed_block pushed in record { role = same.role; asked = same.asked }
row_same none (steps.kept_expect k at) h = record { role = refl; asked = refl }
row_same none (steps.kept_many pushes k chain) h = let same = (linked chain none).block in record { role = same.role; asked = same.asked }
row_same none (steps.kept_withhold n offered) h = record { role = refl; asked = refl }
row_same none (steps.kept_reset t c answer o stay asks) h = absurd h
row_same none (steps.cut_reset t gone) h = absurd h
row_same none (steps.kept_ask t alone) h = absurd h
row_same none (steps.kept_confirm c o asking begun) h = absurd h
row_same none (steps.handed c n marked body free may) h = record { role = refl; asked = refl }
row_same none (steps.hand_lost c n marked body free may) h = record { role = refl; asked = refl }
row_same none (steps.allowed n may) h = record { role = refl; asked = refl }
row_same none (steps.offers n may) h = record { role = refl; asked = refl }
row_same none (steps.lost_push e) h = record { role = refl; asked = refl }
row_same none (steps.lost_expect k at) h = record { role = refl; asked = refl }
row_same none (steps.lost_many pushes k chain) h = record { role = refl; asked = refl }
row_same none (steps.lost_withhold n offered) h = record { role = refl; asked = refl }
row_same none (steps.lost_reset t) h = absurd h
row_same none (steps.lost_ask t alone) h = absurd h
row_same none (steps.lost_confirm c o asking begun) h = absurd h
row_same none steps.cut h = record { role = refl; asked = refl }
row_same none steps.stopped h = record { role = refl; asked = refl }

pub same_asking : (s s' : EndState) → SameAsk s s' → IsAsking s → IsAsking s'
same_asking s s' same h = (same.role ∙ h.0, same.asked ∙ h.1)

pub row_asking : {id : Identity} {s s' : EndState} {x : Act} → s.doubt ≡ None → Row id s x s' → IsPlain x → IsAsking s → IsAsking s'
row_asking {s = s} {s' = s'} none row h a = same_asking s s' (row_same none row h) a

expecting_asked : (f : End) (none : Bool) (k : ℕ) → (if none then f else record f { stored = k }).asked ≡ f.asked
expecting_asked f true k = refl
expecting_asked f false k = refl

folded_asked : (e : End) (r : Record) → IsPlainRecord r → (folded e r).asked ≡ e.asked
folded_asked e (Push q) h = refl
folded_asked e (Expect k) h = refl
folded_asked e (Many pushes k) h = expecting_asked (record e { out = e.out ++ pushes }) (k == 0) k
folded_asked e (Withhold n) h = refl
folded_asked e (Reset t) h = absurd h
folded_asked e (ResetAsk t) h = absurd h
folded_asked e Confirm h = absurd h

pub move_same : {s s' : EndState} → Move s s' → DoubtIsPlain s → SameAsk s s'
move_same {s = s} (steps.settles_without r e) plain = record { role = refl; asked = refl }
move_same {s = s} (steps.settles_with r e) plain = record { role = refl; asked = folded_asked s.end r (plain r e) }
move_same (steps.past_admin c x free o read at) plain = record { role = refl; asked = refl }
move_same (steps.past_app c n marked body free o read at grew) plain = record { role = refl; asked = refl }
move_same (steps.past_gap c n m free o read at lt) plain = record { role = refl; asked = refl }
move_same (steps.reset_to c n m free o read le) plain = record { role = refl; asked = refl }

-- ---- the acts that do something to the connection

pub record OpenedRow (s s' : EndState) : Type 0 where
  pub base : ℕ
  pub connection : s'.connection ≡ Some (record { opened = s.end; read = []; written = []; base = base; gave = []; kept = [] })

pub opened_row : {id : Identity} {s s' : EndState} → Row id s act.Opened s' → OpenedRow s s'
opened_row (steps.opened empty) = record { base = _; connection = refl }

pub record ReadRow (s : EndState) (b : List ℕ) (s' : EndState) : Type 0 where
  pub was : Connection
  pub is_open : s.connection ≡ Some was
  pub connection : s'.connection ≡ Some (record was { read = was.read ++ b })

pub read_row : {id : Identity} {s s' : EndState} {b : List ℕ} → Row id s (act.Read b) s' → ReadRow s b s'
read_row (steps.read b c o) = record { was = c; is_open = o; connection = refl }

pub record WroteRow (id : Identity) (s : EndState) (b : List ℕ) (s' : EndState) : Type 0 where
  pub rule : (c : Connection) → s.connection ≡ Some c → LogonRule id s c b
  pub was : Connection
  pub is_open : s.connection ≡ Some was
  pub end : s'.end ≡ s.end
  pub lawful : WroteMessages was.opened s'.end (was.written ++ b)
  pub connection : s'.connection ≡ Some (record was { written = was.written ++ b })

pub wrote_row : {id : Identity} {s s' : EndState} {b : List ℕ} → Row id s (act.Wrote b) s' → WroteRow id s b s'
wrote_row {id = id} {s = s} (steps.wrote b c o w rule) = record { rule = λ d p. subst (λ k. LogonRule id s k b) (some_same c d (sym o ∙ p)) rule; was = c; is_open = o; end = refl; lawful = wrote_of id c.opened s.end (c.written ++ b) w; connection = refl }

pub record HandedRow (s : EndState) (n : ℕ) (marked : Bool) (body : List ℕ) (s' : EndState) : Type 0 where
  pub was : Connection
  pub free : IsBlocked s → ⊥
  pub may : MayHand s was n marked body
  pub connection : s'.connection ≡ Some (record was { gave = n ∷ was.gave })

pub handed_row : {id : Identity} {s s' : EndState} {n : ℕ} {marked : Bool} {body : List ℕ} → Row id s (act.Handed n marked body) s' → HandedRow s n marked body s'
handed_row (steps.handed c n marked body free may) = record { was = c; free = free; may = may; connection = refl }

pub record LostRow (s : EndState) (n : ℕ) (marked : Bool) (body : List ℕ) (s' : EndState) : Type 0 where
  pub was : Connection
  pub free : IsBlocked s → ⊥
  pub may : MayHand s was n marked body
  pub connection : s'.connection ≡ None

pub lost_row : {id : Identity} {s s' : EndState} {n : ℕ} {marked : Bool} {body : List ℕ} → Row id s (act.HandLost n marked body) s' → LostRow s n marked body s'
lost_row (steps.hand_lost c n marked body free may) = record { was = c; free = free; may = may; connection = refl }

-- ---- a move

pub move_grows : {s s' : EndState} → Move s s' → DoubtIsPlain s → GrowsTo s.end s'.end
move_grows {s = s} (steps.settles_without r e) plain = GrowsTo-refl s.end
move_grows {s = s} (steps.settles_with r e) plain = folded_grows s.end r (plain r e)
move_grows {s = s} (steps.past_admin c x free o read at) plain = GrowsTo-refl s.end
move_grows {s = s} (steps.past_app c n marked body free o read at grew) plain = GrowsTo-refl s.end
move_grows {s = s} (steps.past_gap c n m free o read at lt) plain = GrowsTo-refl s.end
move_grows {s = s} (steps.reset_to c n m free o read le) plain = GrowsTo-refl s.end

pub move_persistent : {s s' : EndState} → Move s s' → DoubtIsPlain s → IsPersistent s.end → IsPersistent s'.end
move_persistent {s = s} (steps.settles_without r e) plain p = p
move_persistent {s = s} (steps.settles_with r e) plain p = folded_persistent s.end r (plain r e) p
move_persistent {s = s} (steps.past_admin c x free o read at) plain p = p
move_persistent {s = s} (steps.past_app c n marked body free o read at grew) plain p = p
move_persistent {s = s} (steps.past_gap c n m free o read at lt) plain p = p
move_persistent {s = s} (steps.reset_to c n m free o read le) plain p = p

pub move_plain : {s s' : EndState} → Move s s' → DoubtIsPlain s → DoubtIsPlain s'
move_plain (steps.settles_without r e) plain = λ q f. cc
move_plain (steps.settles_with r e) plain = λ q f. cc
move_plain (steps.past_admin c x free o read at) plain = plain
move_plain (steps.past_app c n marked body free o read at grew) plain = plain
move_plain (steps.past_gap c n m free o read at lt) plain = plain
move_plain (steps.reset_to c n m free o read le) plain = plain

pub move_connection : {s s' : EndState} → Move s s' → (c : Connection) → s'.connection ≡ Some c → s.connection ≡ Some c
move_connection (steps.settles_without r e) c f = f
move_connection (steps.settles_with r e) c f = f
move_connection (steps.past_admin k x free o read at) c f = f
move_connection (steps.past_app k n marked body free o read at grew) c f = f
move_connection (steps.past_gap k n m free o read at lt) c f = f
move_connection (steps.reset_to k n m free o read le) c f = f
