-- The sample is served in one way, however the connection cuts its bytes.
use Rattle.std.proofs.Common.{◌≡◌, ◌≢◌, true≢false, ℕ, ◌+◌, ◌-◌, ◌*◌, ◌<◌, ◌≤◌, List, [], ◌∷◌, ◌++◌, length, Some, None, Result, Ok, Err, true, false, refl, sym, ap, subst, ◌∙◌, append_assoc, inl, inr, arith, replicate}
use Rattle.std.specs.Prelude.{⊤, min}
use Rattle.std.proofs.lemmas.List.{append-nil, length-replicate}
use Rattle.std.proofs.lemmas.Bool.{cases_lt}
use Rattle.fix_base.specs.declared.act.Act.{Act}
use Rattle.fix_base.specs.declared.act.Act.TheVariants as act
use Rattle.fix_base.specs.Payload.{LAST_TIME}
use Rattle.fix_base.specs.Says.{joined}
use Rattle.fix_base.specs.Stream.{HasNoItem}
use Rattle.fix_base.specs.Trace.{Note, Did, Asked, acts_of, OutsideSeen}
use Rattle.fix_base.specs.End.{new_end}
use Rattle.fix_base.proofs.Fronted.{nothing_ahead}
use Rattle.fix_base.specs.Parts.{left_before, HasNoRoom}
use Rattle.fix_base.specs.declared.entry.Record.TheVariants.{Expect}
use Rattle.fix_engine.specs.declared.state.State.{State}
use Rattle.fix_engine.specs.declared.state.Ending.{Ending}
use Rattle.fix_engine.specs.declared.stop.RunEnd.{RunEnd}
use Rattle.fix_engine.specs.Answer.{AnswerFrame}
use Rattle.fix_engine.specs.State.{with_stored_expected}
use Rattle.fix_engine.specs.Fold as fold
use Rattle.fix_engine.specs.Fold.{Each, AndThen, first_ends, both}
use Rattle.fix_engine.specs.Reading as turn
use Rattle.fix_engine.specs.Reading.{ConnectionSeen, connection_seen, fed, AnswerFrames, Feed, ReadFrames, ReadClock, StoreExpected, down}
use Rattle.fix_engine.specs.declared.pending.PendingDraft.{PendingDraft}
use Rattle.fix_engine.specs.Turn as course
use Rattle.fix_engine.specs.Turn.{TurnSeen, turn_seen, no_draft, OfferDraft, beside, SendReadClock, Turn, OneTurn, RunAndCut}
use Rattle.fix_outside.specs.declared.outside.LoadFault.TheVariants as load
use Rattle.fix_engine.specs.Run.{state_of, no_bytes, begun, opened_to}
use Rattle.fix_engine.specs.Faults.{settles_of, run_end}
use Rattle.fix_engine.proofs.Turns.{Feed-answers}
use Rattle.fix_top.specs.Serve.{status_of, Served, not_made, not_opened, not_begun, ran}
use Rattle.fix_top.specs.Sample.{SAMPLE_ID, SAMPLE_TIME, SAMPLE, BODY, LOGON_ANSWER, LOGOUT_ANSWER, LooksAt, ReadsPieces, HasRooms, ServesSample}
use Rattle.fix_top.proofs.SampleStream.{IsAhead, given, none_given, not_waiting}
use Rattle.fix_top.proofs.SampleReads.{reads_over, looks_of, IsFair, fair_first, fair_then, to_come, read_takes, read_less, idle_less}
use Rattle.fix_top.proofs.SampleRooms.{lines_in, store_left, Leaves, rooms_then}
use Rattle.fix_top.proofs.SamplePlaces.{Place, AtLogon, text_at, rest_at, said_at, IsAt, IsLow, low_at, IsSilent, to_keep, IsFit, fit_first, Came, no_memory, on, over, came_bind, came_map, came_err, came_quiet}
use Rattle.fix_top.proofs.SampleFrames.{whole_at}
use Rattle.fix_top.proofs.SampleHandled.{IsNextAt, handles}

-- the session is there, where these bytes are still to come
record Stands (more : List ℕ) (l : ConnectionSeen) (p : Place) : Type 0 where
  state : IsAt p l.state
  unread : IsAhead l.unread more (text_at p ++ rest_at p)

-- and no item stands whole in what was read
record Rests (more : List ℕ) (l : ConnectionSeen) (p : Place) : Type 0 where
  stands : Stands more l p
  none : HasNoItem l.unread

-- ---- the frames of a read

AnswerFrames-came : (more : List ℕ) (l : ConnectionSeen) (notes : List Note) (r : Result ⊤ Ending) (to : ConnectionSeen) → AnswerFrames SAMPLE_ID l notes r to → (p : Place) → IsFit p l.state notes → Stands more l p → Came p l.state notes (Rests more to) to.state r
AnswerFrames-came more l notes r to (turn.no_more {s = s} {a = a} {b = b} gives) p fit h =
    let still = none_given a b more (text_at p) (rest_at p) (whole_at p) h.unread gives in
    on p (record { stands = record { state = h.state; unread = still.0 }; none = still.1 }) [] [] (record { wrote = refl; gave = refl }) refl refl (λ store room. room)
AnswerFrames-came more l notes r to (turn.ends {s = s} {s' = s'} {a = a} {b = b} {e = e} frame gives d) p fit h =
    let is = given a b frame more (text_at p) (rest_at p) (whole_at p) h.unread gives in
    came_err p s s' notes (IsNextAt p s') (Rests more to) e (handles p s s' notes (Err e) h.state fit (subst (λ (f : List ℕ). AnswerFrame SAMPLE_ID s f notes (Err e) s') is.0 d))
AnswerFrames-came more l notes r to (turn.goes {s = s} {mid = mid} {a = a} {b = b} {first = first} {more = others} frame gives d k) p fit h =
    let is = given a b frame more (text_at p) (rest_at p) (whole_at p) h.unread gives in
    came_bind p s mid to.state first others (IsNextAt p mid) (Rests more to) r fit
    (λ q next fits. AnswerFrames-came more (connection_seen mid b) others r to k q fits (record { state = next.state; unread = subst (IsAhead b more) next.text is.1 }))
    (handles p s mid first (Ok tt) h.state (fit_first p s first others fit) (subst (λ (f : List ℕ). AnswerFrame SAMPLE_ID s f first (Ok tt) mid) is.0 d))

Feed-came : (more b : List ℕ) (l : ConnectionSeen) (notes : List Note) (r : Result ⊤ Ending) (to : ConnectionSeen) → Feed SAMPLE_ID b l notes r to → (p : Place) → IsFit p l.state notes → Stands (b ++ more) l p → Came p l.state notes (Rests more to) to.state r
Feed-came more b l notes r to (turn.fed_frames d) p fit h =
    AnswerFrames-came more (connection_seen l.state (fed l.unread b)) notes r to d p fit (record { state = h.state; unread = record { mark = h.unread.mark; bytes = append_assoc l.unread.bytes b more ∙ h.unread.bytes } })
Feed-came more b l notes r to turn.fed_memory p fit h = no_memory

-- ---- one turn

-- the session is there, with fewer pieces or bytes to come than these
record WentOn (pieces : List (List ℕ)) (behind : List Act) (to : ConnectionSeen) (q : Place) : Type 0 where
  later : List (List ℕ)
  rests : Rests (joined later) to q
  reads : ReadsPieces later behind
  less : to_come later < to_come pieces

none_below : (n : ℕ) → n < 0 → ⊥
none_below n h = omega arith

ReadFrames-came : (l : ConnectionSeen) (notes : List Note) (r : Result ⊤ Ending) (to : ConnectionSeen) → ReadFrames SAMPLE_ID l notes r to → (p : Place) (pieces : List (List ℕ)) (behind : List Act) → IsFair SAMPLE_TIME pieces notes behind → IsFit p l.state notes → Rests (joined pieces) l p → Came p l.state notes (WentOn pieces behind to) to.state r
ReadFrames-came l notes r to (turn.bytes {more = others} b some fits d) p pieces behind fair room h =
    let left = left_before fair.reads.0 fair.reads.1 in
    let e : joined pieces ≡ b ++ joined left = read_takes pieces fair.reads.1 b fair.reads.0 fair.reads.2 in
    let stands : Stands (b ++ joined left) l p = subst (λ (w : List ℕ). Stands w l p) e h.stands in
    let reads = reads_over left (acts_of others) behind (Feed-answers SAMPLE_ID b l others r to d).reads fair.reads.3 in
    let less = read_less pieces fair.reads.1 b fair.reads.0 some fair.reads.2 in
    came_bind p l.state l.state to.state (Did (act.Read b) ∷ []) others (λ q. q ≡ p) (WentOn pieces behind to) r room
    (λ q same fit. came_map q l.state to.state others (Rests (joined left) to) (WentOn pieces behind to) r (λ z rests. record { later = left; rests = rests; reads = reads; less = less }) (Feed-came (joined left) b l others r to d q fit (subst (Stands (b ++ joined left) l) (sym same) stands)))
    (on p refl [] [] (record { wrote = refl; gave = refl }) refl refl (λ store room. room))
ReadFrames-came l notes r to turn.idle p pieces behind fair room h =
    let later = fair.reads.0 in
    on p (record { later = later; rests = subst (λ (w : List ℕ). Rests w l p) (ap joined fair.reads.1) h; reads = fair.reads.2; less = idle_less pieces later fair.reads.1 }) [] [] (record { wrote = refl; gave = refl }) refl refl (λ store room. room)
ReadFrames-came l notes r to turn.over p pieces behind fair room h =
    absurd (not_waiting l.unread (text_at p) (rest_at p) (whole_at p) (subst (λ (w : List (List ℕ)). IsAhead l.unread (joined w) (text_at p ++ rest_at p)) fair.reads.0 h.stands.unread) h.none)
ReadFrames-came l notes r to turn.read_lost p pieces behind fair room h = absurd (none_below room.link room.rooms.0)
ReadFrames-came l notes r to turn.read_memory p pieces behind fair room h = no_memory

-- the same place with another state
moved : (pieces : List (List ℕ)) (behind acts : List Act) (l : ConnectionSeen) (s : State) (q : Place) (w : WentOn pieces acts l q) → IsAt q s → ReadsPieces w.later behind → WentOn pieces behind (connection_seen s l.unread) q
moved pieces behind acts l s q w at reads = record { later = w.later; rests = record { stands = record { state = at; unread = w.rests.stands.unread }; none = w.rests.none }; reads = reads; less = w.less }

ReadClock-came : (l : ConnectionSeen) (notes : List Note) (r : Result ⊤ Ending) (to : ConnectionSeen) → ReadClock l notes r to → (q : Place) (pieces : List (List ℕ)) (behind : List Act) → LooksAt SAMPLE_TIME (acts_of notes) → WentOn pieces (acts_of notes ++ behind) l q → Came q l.state notes (WentOn pieces behind to) to.state r
ReadClock-came l notes r to (turn.now t) q pieces behind looks w =
    let at = w.rests.stands.state in
    on q (moved pieces behind _ l _ q w (record { phase = at.phase; expected = at.expected; low = at.low; last = at.last; reading = ap (λ u. min u LAST_TIME) looks.0 }) w.reads) [] [] (record { wrote = refl; gave = refl }) refl refl (λ store room. room)
ReadClock-came l notes r to turn.now_memory q pieces behind looks w = no_memory

ReadFrames-clocked-came : (l : ConnectionSeen) (notes : List Note) (r : Result ⊤ Ending) (to : ConnectionSeen) → AndThen (ReadFrames SAMPLE_ID) ReadClock l notes r to → (p : Place) (pieces : List (List ℕ)) (behind : List Act) → IsFair SAMPLE_TIME pieces notes behind → IsFit p l.state notes → Rests (joined pieces) l p → Came p l.state notes (WentOn pieces behind to) to.state r
ReadFrames-clocked-came l notes r to (first_ends {e = e} d) p pieces behind fair room h = ReadFrames-came l notes (Err e) to d p pieces behind fair room h
ReadFrames-clocked-came l notes r to (both {mid = mid} {first = first} {more = more} d k) p pieces behind fair room h =
    let then = acts_of more ++ behind in
    let looks = (looks_of SAMPLE_TIME first more fair.looks).1 in
    came_bind p l.state mid.state to.state first more (WentOn pieces then mid) (WentOn pieces behind to) r room
    (λ q w fit. ReadClock-came mid more r to k q pieces behind looks w)
    (ReadFrames-came l first (Ok tt) mid d p pieces then (fair_first SAMPLE_TIME pieces first more behind fair) (fit_first p l.state first more room) h)

-- ---- no draft is given

-- nothing is asked for, or nothing is given
data Quiet (d : TurnSeen) : List Note → Result ⊤ Ending → TurnSeen → Type 0 where
  no_ask : Quiet d [] (Ok tt) d
  asks_none : (h : PendingDraft) → h.draft ≡ None → Quiet d (Asked None ∷ []) (Ok tt) (turn_seen d.connection h)

offered_quiet : (d : TurnSeen) (notes : List Note) (r : Result ⊤ Ending) (to : TurnSeen) → OfferDraft SAMPLE_ID d notes r to → d.pending.draft ≡ None → (link app store : ℕ) → HasRooms link app store notes → Quiet d notes r to
offered_quiet d notes r to (course.not_up h) none link app store rooms = no_ask
offered_quiet d notes r to (course.asked None up e (course.empty k)) none link app store rooms = asks_none (record { draft = None; store_failed = d.pending.store_failed }) refl
offered_quiet d notes r to (course.asked None up e (course.holds draft some k)) none link app store rooms = absurd (cc)
offered_quiet d notes r to (course.asked (Some draft) up e k) none link app store rooms = absurd (let wrong = rooms.0 in cc)
offered_quiet d notes r to (course.was_in_hand draft up some k) none link app store rooms = absurd (let wrong : Some draft ≡ None = sym some ∙ none in cc)

-- the same on a session that has no draft in hand
record Went (pieces : List (List ℕ)) (behind : List Act) (to : TurnSeen) (q : Place) : Type 0 where
  on : WentOn pieces behind to.connection q
  pending : to.pending.draft ≡ None

quiet_came : (d mid : TurnSeen) (first more : List Note) (r : Result ⊤ Ending) (to : ConnectionSeen) → Quiet d first (Ok tt) mid → AndThen (ReadFrames SAMPLE_ID) ReadClock mid.connection more r to → d.pending.draft ≡ None → (p : Place) (pieces : List (List ℕ)) (behind : List Act) → IsFair SAMPLE_TIME pieces (first ++ more) behind → IsFit p d.connection.state (first ++ more) → Rests (joined pieces) d.connection p → Came p d.connection.state (first ++ more) (Went pieces behind (turn_seen to mid.pending)) to.state r
quiet_came d mid first more r to no_ask k none p pieces behind fair room h =
    came_map p d.connection.state to.state more (WentOn pieces behind to) (Went pieces behind (turn_seen to d.pending)) r (λ q w. record { on = w; pending = none })
    (ReadFrames-clocked-came d.connection more r to k p pieces behind fair room h)
quiet_came d mid first more r to (asks_none pending given_none) k none p pieces behind fair room h =
    came_bind p d.connection.state d.connection.state to.state (Asked None ∷ []) more (λ q. q ≡ p) (Went pieces behind (turn_seen to pending)) r room
    (λ q same fit. came_map q d.connection.state to.state more (WentOn pieces behind to) (Went pieces behind (turn_seen to pending)) r (λ z w. record { on = w; pending = given_none })
    (ReadFrames-clocked-came d.connection more r to k q pieces behind (record { looks = fair.looks; reads = fair.reads }) fit (subst (Rests (joined pieces) d.connection) (sym same) h)))
    (on p refl [] [] (record { wrote = refl; gave = refl }) refl refl (λ store room. room))

never_ends : (d to : TurnSeen) (notes : List Note) (e : Ending) → Quiet d notes (Err e) to → ⊥
never_ends d to notes e q = elim q [ ]

SendReadClock-came : (d : TurnSeen) (notes : List Note) (r : Result ⊤ Ending) (to : TurnSeen) → SendReadClock SAMPLE_ID d notes r to → d.pending.draft ≡ None → (p : Place) (pieces : List (List ℕ)) (behind : List Act) → IsFair SAMPLE_TIME pieces notes behind → IsFit p d.connection.state notes → Rests (joined pieces) d.connection p → Came p d.connection.state notes (Went pieces behind to) to.connection.state r
SendReadClock-came d notes r to (first_ends {e = e} o) none p pieces behind fair room h = absurd (never_ends d to notes e (offered_quiet d notes (Err e) to o none room.link room.app room.store room.rooms))
SendReadClock-came d notes r to (both {mid = mid} {first = first} {more = more} o (beside {to = heard} k)) none p pieces behind fair room h =
    let fits = fit_first p d.connection.state first more room in
    quiet_came d mid first more r heard (offered_quiet d first (Ok tt) mid o none fits.link fits.app fits.store fits.rooms) k none p pieces behind fair room h

-- a low number that isn't kept yet
not_kept : (s : State) → IsLow s → s.stored_expected ≢ s.expected → s.stored_expected < s.expected
not_kept s low h = elim (cases_lt s.stored_expected s.expected) [
  | inl below ↦ below
  | inr not_below ↦ absurd (h (omega (arith, low.kept, not_below)))
]

-- the room behind an expected number
expect_less : (store said kept expected : ℕ) → said + 10 * (4 - kept) ≤ store → kept < expected → expected ≤ 4 → said + 10 * (4 - expected) ≤ store - 10
expect_less store said kept expected room below low = omega (arith, room, below, low)

expected_leaves : (s : State) → IsLow s → s.stored_expected ≢ s.expected → (said : ℕ) → Leaves (Did (act.Kept (Expect s.expected)) ∷ []) (to_keep said s) (to_keep said (with_stored_expected s))
expected_leaves s low h said store room = expect_less store said s.stored_expected s.expected room (not_kept s low h) low.expected

kept_silent : (l : ConnectionSeen) (notes : List Note) (to : ConnectionSeen) → StoreExpected l notes (Ok tt) to → IsLow l.state → IsSilent l.state notes to.state
kept_silent l notes to (turn.same h) low = record { tells = record { wrote = refl; gave = refl }; expected = refl; low = omega (arith, low.kept, low.expected); leaves = λ said store room. room }
kept_silent l notes to (turn.kept h) low = record { tells = record { wrote = refl; gave = refl }; expected = refl; low = low.expected; leaves = expected_leaves l.state low h }

at_most : (n bound : ℕ) → n ≡ bound → n ≤ bound
at_most n bound e = omega (arith, e)

kept_on : (l : ConnectionSeen) (notes : List Note) (to : ConnectionSeen) → StoreExpected l notes (Ok tt) to → (pieces : List (List ℕ)) (behind : List Act) (q : Place) → WentOn pieces (acts_of notes ++ behind) l q → WentOn pieces behind to q
kept_on l notes to (turn.same h) pieces behind q w = moved pieces behind _ l l.state q w w.rests.stands.state w.reads
kept_on l notes to (turn.kept h) pieces behind q w =
    let at = w.rests.stands.state in
    moved pieces behind _ l (with_stored_expected l.state) q w (record { phase = at.phase; expected = at.expected; low = at_most _ _ at.expected; last = at.last; reading = at.reading }) w.reads

-- a number that isn't kept yet has room
unlost : (s : State) (said store : ℕ) → IsLow s → s.stored_expected ≢ s.expected → to_keep said s ≤ store → store < 10 → ⊥
unlost s said store low h room lost = omega (arith, room, lost, not_kept s low h, low.expected)

unkept : (l : ConnectionSeen) (notes : List Note) (e : Ending) (to : ConnectionSeen) → StoreExpected l notes (Err e) to → IsLow l.state → (p : Place) (s : State) (all : List Note) (P : Place → Type 0) (link app store said : ℕ) → to_keep said l.state ≤ store → HasRooms link app store notes → Came p s all P to.state (Err e)
unkept l notes e to (turn.expect_lost h) low p s all P link app store said room rooms = absurd (unlost l.state said store low h room rooms.0)
unkept l notes e to (turn.expect_memory h) low p s all P link app store said room rooms = no_memory

-- the same behind the rest of a turn
unkept_then : (p : Place) (s : State) (mid to : ConnectionSeen) (first more : List Note) (P Q : Place → Type 0) (met : Result ⊤ Ending) (e : Ending) → settles_of met ≡ true → ((q : Place) → P q → IsLow mid.state) → StoreExpected mid more (Err e) to → IsFit p s (first ++ more) → Came p s first P mid.state met → Came p s (first ++ more) Q to.state (Err e)
unkept_then p s mid to first more P Q met e h low k fit no_memory = absurd (true≢false (sym h))
unkept_then p s mid to first more P Q met e h low k fit (on q there w g t c d leaves) =
    unkept mid more e to k (low q there) p s (first ++ more) Q _ _ (store_left fit.store first) (said_at q) (leaves fit.store fit.kept) (rooms_then first more fit.link fit.app fit.store fit.rooms)
unkept_then p s mid to first more P Q met e h low k fit (over n t four kept leaves) =
    unkept mid more e to k (record { kept = omega (arith, four, kept); expected = omega (arith, four) }) p s (first ++ more) Q _ _ (store_left fit.store first) 0 (leaves fit.store fit.kept) (rooms_then first more fit.link fit.app fit.store fit.rooms)

-- where the session is there, its numbers are low
went_low : (pieces : List (List ℕ)) (behind : List Act) (d : TurnSeen) (q : Place) → Went pieces behind d q → IsLow d.connection.state
went_low pieces behind d q w = low_at q d.connection.state w.on.rests.stands.state

Turn-came : (d : TurnSeen) (notes : List Note) (r : Result ⊤ Ending) (to : TurnSeen) → Turn SAMPLE_ID d notes r to → d.pending.draft ≡ None → (p : Place) (pieces : List (List ℕ)) (behind : List Act) → IsFair SAMPLE_TIME pieces notes behind → IsFit p d.connection.state notes → Rests (joined pieces) d.connection p → Came p d.connection.state notes (Went pieces behind to) to.connection.state r
Turn-came d notes r to (course.stops h m) none p pieces behind fair room k = SendReadClock-came d notes r to m none p pieces behind fair room k
Turn-came d notes r to (course.keeps {mid = mid} {met = met} {first = first} {more = more} h m (beside {to = kept} e)) none p pieces behind fair room k =
    let then = acts_of more ++ behind in
    came_quiet p d.connection.state mid.connection.state kept.state first more (Went pieces then mid) (Went pieces behind to) met (kept_silent mid.connection more kept e) (went_low pieces then mid) (λ q w. record { on = kept_on mid.connection more kept e pieces behind q w.on; pending = w.pending })
    (SendReadClock-came d first met mid m none p pieces then (fair_first SAMPLE_TIME pieces first more behind fair) (fit_first p d.connection.state first more room) k)
Turn-came d notes r to (course.keeps_not {mid = mid} {met = met} {first = first} {more = more} {e = e} h m (beside {to = kept} k)) none p pieces behind fair room rests =
    let then = acts_of more ++ behind in
    unkept_then p d.connection.state mid.connection kept first more (Went pieces then mid) (Went pieces behind to) met e h (went_low pieces then mid) k room
    (SendReadClock-came d first met mid m none p pieces then (fair_first SAMPLE_TIME pieces first more behind fair) (fit_first p d.connection.state first more room) rests)

-- ---- the run

abbrev Nowhere : Place → Type 0
Nowhere q = ⊥

TakeTurns-came : (us : List ⊤) (d : TurnSeen) (notes : List Note) (r : Result ⊤ Ending) (to : TurnSeen) → Each (OneTurn SAMPLE_ID) d us notes r to → d.pending.draft ≡ None → (p : Place) (pieces : List (List ℕ)) (behind : List Act) → to_come pieces < length us → IsFair SAMPLE_TIME pieces notes behind → IsFit p d.connection.state notes → Rests (joined pieces) d.connection p → Came p d.connection.state notes Nowhere to.connection.state r
TakeTurns-came [] d notes r to t none p pieces behind enough fair room h = absurd (omega arith)
TakeTurns-came (u ∷ us) d notes r to (fold.ends {e = e} t) none p pieces behind enough fair room h = came_err p d.connection.state to.connection.state notes (Went pieces behind to) Nowhere e (Turn-came d notes (Err e) to t none p pieces behind fair room h)
TakeTurns-came (u ∷ us) d notes r to (fold.goes {mid = mid} {first = first} {more = more} t k) none p pieces behind enough fair room h =
    let then = acts_of more ++ behind in
    came_bind p d.connection.state mid.connection.state to.connection.state first more (Went pieces then mid) Nowhere r room
    (λ q w fit. TakeTurns-came us mid more r to k w.pending q w.on.later behind (let less = w.on.less in omega (arith, enough, less)) (fair_then SAMPLE_TIME pieces w.on.later first more behind fair w.on.reads) fit w.on.rests)
    (Turn-came d first (Ok tt) mid t none p pieces then (fair_first SAMPLE_TIME pieces first more behind fair) (fit_first p d.connection.state first more room) h)

enough_turns : (n : ℕ) (pieces : List (List ℕ)) → to_come pieces < n → to_come pieces < length (replicate {A = ⊤} n tt)
enough_turns n pieces h = omega (arith, length-replicate {A = ⊤} n tt)

-- the same where the connection is closed behind it
came_down : (p : Place) (s : State) (l : ConnectionSeen) (notes : List Note) (P : Place → Type 0) (r : Result ⊤ Ending) → Came p s notes P l.state r → Came p s notes P (down l).state r
came_down p s l notes P r no_memory = no_memory
came_down p s l notes P r (on q h w g t e f leaves) = on q h w g t e f leaves
came_down p s l notes P r (over n t four low leaves) = over n t four low leaves

RunAndCut-came : (n : ℕ) (d : TurnSeen) (notes : List Note) (r : Result ⊤ Ending) (to : TurnSeen) → RunAndCut SAMPLE_ID n d notes r to → d.pending.draft ≡ None → (p : Place) (pieces : List (List ℕ)) (behind : List Act) → to_come pieces < n → IsFair SAMPLE_TIME pieces notes behind → IsFit p d.connection.state notes → Rests (joined pieces) d.connection p → Came p d.connection.state notes Nowhere to.connection.state r
RunAndCut-came n d notes r to (course.all_turns t) none p pieces behind enough fair room h = TakeTurns-came (replicate n tt) d notes (Ok tt) to t none p pieces behind (enough_turns n pieces enough) fair room h
RunAndCut-came n d notes r to (course.cut {to = at} {notes = xs} {e = e} cuts t) none p pieces behind enough fair room h =
    let more = Did act.Cut ∷ [] in
    came_quiet p d.connection.state at.connection.state (down at.connection).state xs more Nowhere Nowhere (Err e) (λ low. record { tells = record { wrote = refl; gave = refl }; expected = refl; low = omega (arith, low.kept, low.expected); leaves = λ said store room. room }) (λ q never. absurd never) (λ q never. never)
    (TakeTurns-came (replicate n tt) d xs (Err e) at t none p pieces (act.Cut ∷ behind) (enough_turns n pieces enough) (fair_first SAMPLE_TIME pieces xs more behind fair) (fit_first p d.connection.state xs more room) h)
RunAndCut-came n d notes r to (course.cut_memory cuts t) none p pieces behind enough fair room h = no_memory
RunAndCut-came n d notes r to (course.no_cut {to = at} {e = e} cuts t) none p pieces behind enough fair room h =
    came_down p d.connection.state at.connection notes Nowhere (Err e) (TakeTurns-came (replicate n tt) d notes (Err e) at t none p pieces behind (enough_turns n pieces enough) fair room h)

-- the status, and what was written and handed over
ends_so : (s to : State) (notes : List Note) (r : Result ⊤ Ending) → Came AtLogon s notes Nowhere to r → ServesSample (status_of (run_end r)) (acts_of notes)
ends_so s to notes r no_memory = inl refl
ends_so s to notes r (on q never w h t e f leaves) = absurd never
ends_so s to notes r (over n t four low leaves) = inr (record { done = refl; wrote = t.wrote; gave = t.gave })

-- acts that write nothing before those
ends_behind : (t status : ℕ) (notes : List Note) → ServesSample status (acts_of notes) → ServesSample status (act.Stop ∷ act.Now t ∷ act.Opened ∷ acts_of notes)
ends_behind t status notes (inl memory) = inl memory
ends_behind t status notes (inr s) = inr (record { done = s.done; wrote = s.wrote; gave = s.gave })

-- what is to be handed over in all
abbrev pub ALL_LINES : List ℕ
ALL_LINES = lines_in (act.Handed 2 false BODY ∷ [])

-- a store that is new, has a file that is one, and tells its room
pub record IsNewStore (w : OutsideSeen) : Type 0 where
  pub new : w.Holds new_end
  pub told : w.Tells
  pub whole : (place : ℕ) → w.Breaks place → ⊥
  pub roomy : HasNoRoom 0 w.parts.store_room → ⊥

-- what is to be kept in all: two entries and three expected numbers
abbrev pub ALL_KEPT : ℕ
ALL_KEPT = 68

all_kept : (store expected : ℕ) → 68 ≤ store → expected ≡ 1 → 38 + 10 * (4 - expected) ≤ store
all_kept store expected room first = omega (arith, room, first)

-- A connection that gives the sample's bytes, in whatever pieces, is served in one way, where the parts have room.
pub sample_served : (turns status : ℕ) (w : OutsideSeen) (notes : List Note) (pieces : List (List ℕ)) → IsNewStore w → joined pieces ≡ SAMPLE → length pieces + length SAMPLE < turns → Served SAMPLE_ID turns w status notes → (link app store : ℕ) → length (LOGON_ANSWER ++ LOGOUT_ANSWER) ≤ link → length ALL_LINES ≤ app → ALL_KEPT ≤ store → HasRooms link app store notes → LooksAt SAMPLE_TIME (acts_of notes) → ReadsPieces pieces (acts_of notes) → ServesSample status (acts_of notes)
sample_served turns status w notes pieces fresh bytes enough not_made link app store wrote gave kept rooms looks reads = inl refl
sample_served turns status w notes pieces fresh bytes enough (not_opened load.Failed told) link app store wrote gave kept rooms looks reads = absurd (fresh.roomy told)
sample_served turns status w notes pieces fresh bytes enough (not_opened (load.Damaged place) told) link app store wrote gave kept rooms looks reads = absurd (fresh.whole place (told fresh.told))
sample_served turns status w notes pieces fresh bytes enough (not_opened load.OutOfMemory told) link app store wrote gave kept rooms looks reads = inl refl
sample_served turns status w notes pieces fresh bytes enough (not_begun stored told b) link app store wrote gave kept rooms looks reads = inl refl
sample_served turns status w notes pieces fresh bytes enough (ran {to = to} {more = more} stored told (opened_to t) d) link app store wrote gave kept rooms looks reads =
    let numbers = told.told new_end fresh.new in
    let l = begun (connection_seen (state_of stored) no_bytes) t in
    let at : IsAt AtLogon l.state = record { phase = refl; expected = numbers.expected; low = at_most _ _ numbers.expected; last = numbers.last; reading = ap (λ u. min u LAST_TIME) looks.0 } in
    let rests : Rests (joined pieces) l AtLogon = record { stands = record { state = at; unread = record { mark = refl; bytes = bytes } }; none = nothing_ahead true [] refl } in
    let fairly : IsFair SAMPLE_TIME pieces more [] = record { looks = looks.1; reads = subst (ReadsPieces pieces) (sym (append-nil (acts_of more))) reads } in
    let room : IsFit AtLogon l.state more = record { link = link; app = app; store = store; rooms = rooms; written = wrote; handed = gave; kept = all_kept store stored.expected kept numbers.expected } in
    let came = RunAndCut-came turns (turn_seen l no_draft) more d.r to d.ran refl AtLogon pieces [] (omega (arith, enough, ap length bytes)) fairly room rests in
    ends_behind t _ more (subst (λ (a : RunEnd). ServesSample (status_of a) (acts_of more)) (sym d.answered) (ends_so l.state to.connection.state more d.r came))
