-- A run of two ends in which a message is withheld: its number is passed over by a gap fill, and the
-- message behind it arrives.
use Rattle.std.proofs.Common.{◌≡◌, ℕ, ◌≤◌, ◌<◌, nat_le, codes, List, [], ◌∷◌, length, false, Option, Some, None, refl, subst, lit<, lit≤, arith}
use Rattle.std.specs.List.{AllByRecursion}
use Rattle.std.specs.Fmt.{decimal}
use Rattle.fix_base.specs.Lists.{here, there, IsPrefixOf}
use Rattle.fix_base.specs.Fields.{Field}
use Rattle.fix_base.specs.Sealed.{sealed}
use Rattle.fix_base.specs.Message as message
use Rattle.fix_base.specs.Message.{Message}
use Rattle.fix_base.specs.Says.{fields_text, Shows, joined}
use Rattle.fix_base.specs.Session.{Identity, IsValidIdentity, mirrored}
use Rattle.fix_base.specs.End.{Caller, Push, Expect, Withhold, End, new_end, folded, IsAppAt, IsSkipped, withheld}
use Rattle.fix_base.specs.Act as act
use Rattle.fix_base.specs.Payload.{IsPersistentEntry}
use Rattle.fix_base.specs.Wrote as wrote
use Rattle.fix_base.specs.Wrote.{IsSealed, original_fields, gap_fields, Wrote}
use Rattle.fix_base.specs.EndStep as steps
use Rattle.fix_base.specs.EndStep.{Role, Initiator, Acceptor, IsBlocked, LogonRule, Connection, EndState, Handling, WasRead, Move}
use Rattle.fix_base.specs.World as world
use Rattle.fix_base.specs.World.{Peer, World, new_peer, new_world, rested, opened_peer, wrote_peer, gave_peer, First, Second, Event, Does, PeerStep, WorldRun, PassesWithheld}
use Rattle.fix_base.proofs.Told as told
use Rattle.fix_base.proofs.Told.{SaysEach}
use Rattle.fix_base.proofs.ListLemmas.{prefix_refl}
use Rattle.fix_base.proofs.BytesLemmas.{shows_each}
use Rattle.fix_base.proofs.OrderLemmas.{orders_rule, orders_free}
use Rattle.fix_base.proofs.PlainFields.{IsPlainField, plain_fields}
use Rattle.fix_base.proofs.ShortFields.{clear_of, comp_id_clear, comp_id_short, IsShortField, short_fields}
use Rattle.fix_base.proofs.Seals.{sealed_is_frame}
use Rattle.fix_base.proofs.WrittenLemmas.{original_is, app_original, gap_is, gap_fill_says}
use Rattle.fix_base.proofs.WroteLemmas.{GrowsTo-trans}
use Rattle.fix_base.proofs.WholeLemmas.{push_grows, withhold_grows}
use Rattle.fix_base.proofs.LetterLemmas.{clear_number, short_number, at, at_epoch, at_clear, order, order_field, order_short, body, body_is, letter}
use Rattle.fix_base.proofs.ArrivesLemmas.{entry, kept_end, of_both}

-- ---- the two frames: a gap fill from 1 to 2, and the original of entry 2

abbrev gap_parts : Identity → List Field
gap_parts id = gap_fields id (decimal 1) (decimal 2) at

abbrev pub next_parts : Identity → List Field
next_parts id = original_fields id (decimal 2) at order []

gap_plain : (id : Identity) → IsValidIdentity id → AllByRecursion IsPlainField (gap_parts id)
gap_plain id valid = (
  record { first = lit≤ tt; last = lit≤ tt; no_soh = clear_of (λ b. nat_le 2 b) (codes "4") refl refl; no_length = refl },
  (
    record { first = lit≤ tt; last = lit≤ tt; no_soh = clear_number 1 (lit< tt); no_length = refl },
    (
      record { first = lit≤ tt; last = lit≤ tt; no_soh = clear_of (λ b. nat_le 2 b) (codes "Y") refl refl; no_length = refl },
      (
        record { first = lit≤ tt; last = lit≤ tt; no_soh = comp_id_clear id.sender valid.sender; no_length = refl },
        (
          record { first = lit≤ tt; last = lit≤ tt; no_soh = at_clear; no_length = refl },
          (
            record { first = lit≤ tt; last = lit≤ tt; no_soh = comp_id_clear id.target valid.target; no_length = refl },
            (
              record { first = lit≤ tt; last = lit≤ tt; no_soh = at_clear; no_length = refl },
              (
                record { first = lit≤ tt; last = lit≤ tt; no_soh = clear_number 2 (lit< tt); no_length = refl },
                (record { first = lit≤ tt; last = lit≤ tt; no_soh = clear_of (λ b. nat_le 2 b) (codes "Y") refl refl; no_length = refl }, tt),
              ),
            ),
          ),
        ),
      ),
    ),
  ),
)

gap_short : (id : Identity) → IsValidIdentity id → AllByRecursion IsShortField (gap_parts id)
gap_short id valid = (
  record { last = lit≤ tt; short = lit≤ tt },
  (
    record { last = lit≤ tt; short = short_number 1 (lit< tt) },
    (
      record { last = lit≤ tt; short = lit≤ tt },
      (
        record { last = lit≤ tt; short = comp_id_short id.sender valid.sender },
        (
          record { last = lit≤ tt; short = lit≤ tt },
          (
            record { last = lit≤ tt; short = comp_id_short id.target valid.target },
            (record { last = lit≤ tt; short = lit≤ tt }, (record { last = lit≤ tt; short = short_number 2 (lit< tt) }, (record { last = lit≤ tt; short = lit≤ tt }, tt))),
          ),
        ),
      ),
    ),
  ),
)

next_plain : (id : Identity) → IsValidIdentity id → AllByRecursion IsPlainField (next_parts id)
next_plain id valid = (
  order_field,
  (
    record { first = lit≤ tt; last = lit≤ tt; no_soh = clear_number 2 (lit< tt); no_length = refl },
    (
      record { first = lit≤ tt; last = lit≤ tt; no_soh = comp_id_clear id.sender valid.sender; no_length = refl },
      (
        record { first = lit≤ tt; last = lit≤ tt; no_soh = at_clear; no_length = refl },
        (record { first = lit≤ tt; last = lit≤ tt; no_soh = comp_id_clear id.target valid.target; no_length = refl }, tt),
      ),
    ),
  ),
)

next_short : (id : Identity) → IsValidIdentity id → AllByRecursion IsShortField (next_parts id)
next_short id valid = (
  order_short,
  (
    record { last = lit≤ tt; short = short_number 2 (lit< tt) },
    (
      record { last = lit≤ tt; short = comp_id_short id.sender valid.sender },
      (record { last = lit≤ tt; short = lit≤ tt }, (record { last = lit≤ tt; short = comp_id_short id.target valid.target }, tt)),
    ),
  ),
)

abbrev gap : Identity → List ℕ
gap id = sealed id.begin (fields_text (gap_parts id))

abbrev pub next : Identity → List ℕ
next id = sealed id.begin (fields_text (next_parts id))

gap_sealed : (id : Identity) → IsValidIdentity id → IsSealed id (gap_parts id) (gap id)
gap_sealed id valid =
    let bound : length (fields_text (gap_parts id)) ≤ 900 = short_fields (gap_parts id) (gap_short id valid) in
    record { spelled = refl; are = plain_fields (gap_parts id) (gap_plain id valid); short = omega arith }

pub next_sealed : (id : Identity) → IsValidIdentity id → IsSealed id (next_parts id) (next id)
next_sealed id valid =
    let bound : length (fields_text (next_parts id)) ≤ 500 = short_fields (next_parts id) (next_short id valid) in
    record { spelled = refl; are = plain_fields (next_parts id) (next_plain id valid); short = omega arith }

-- ---- the writer's ends: with order 1, with it withheld, and with order 2

abbrev held_end : List ℕ → End
held_end body = folded (kept_end body) (Withhold 1)

abbrev both_end : List ℕ → End
both_end body = folded (held_end body) (Push (entry body))

-- what may be written, and what a reader has of it
record Written (id : Identity) (body : List ℕ) : Type 0 where
  text : List ℕ
  lawful : Wrote id (kept_end body) (both_end body) text
  shows : Shows text (message.GapFill 1 2 ∷ message.App 2 false body ∷ [])
  texts : List (List ℕ)
  says : SaysEach texts (message.GapFill 1 2 ∷ message.App 2 false body ∷ [])
  front : IsPrefixOf text (joined texts)

first_app : IsAppAt (both_end body).out 1 body
first_app = record { time = 0; by = Caller; entry = record { before = []; after = entry body ∷ []; is = refl; place = refl } }

first_skipped : (k : ℕ) → 1 ≤ k → k < 2 → IsSkipped (both_end body) k
first_skipped k low high = let same : 1 ≡ k = omega (arith, low, high) in subst (λ n. IsSkipped (both_end body) n) same (withheld body first_app here)

lawful : (id : Identity) → IsValidIdentity id → Wrote id (kept_end body) (both_end body) (joined (gap id ∷ next id ∷ []))
lawful id valid = record {
  grew = GrowsTo-trans (withhold_grows (kept_end body) 1) (push_grows (held_end body) (entry body));
  texts = gap id ∷ next id ∷ [];
  last = 2;
  writes = wrote.gap_fill 1 2 0 (lit≤ tt) (lit< tt) (lit≤ tt) (record { each = first_skipped }) (record { at = at; sent_at = at_epoch; sealed_so = gap_sealed id valid })
      (wrote.original 2 (entry body) (lit≤ tt) (lit< tt) (record { before = entry body ∷ []; after = []; is = refl; place = refl }) (record { type = order; at = at; rest = []; carries = wrote.app body_is; sent_at = at_epoch; sealed_so = next_sealed id valid }) wrote.done);
  front = prefix_refl (joined (gap id ∷ next id ∷ []));
}

says : (id : Identity) → IsValidIdentity id → SaysEach (gap id ∷ next id ∷ []) (message.GapFill 1 2 ∷ message.App 2 false body ∷ [])
says id valid =
    told.one (sealed_is_frame id (gap_parts id) (gap id) (gap_is id (decimal 1) (decimal 2) at) (gap_sealed id valid)) (gap_fill_says id 1 2 (gap id) at (lit≤ tt) (lit≤ tt) (lit≤ tt) (lit≤ tt) (gap_sealed id valid))
    (told.one (sealed_is_frame id (next_parts id) (next id) (original_is id (decimal 2) at order [] tt) (next_sealed id valid)) (app_original id 2 (next id) at order [] (lit≤ tt) (lit≤ tt) body_is.app tt (next_sealed id valid)) told.done)

written : (id : Identity) → IsValidIdentity id → Written id body
written id valid = record { text = joined (gap id ∷ next id ∷ []); lawful = lawful id valid; shows = shows_each (says id valid); texts = gap id ∷ next id ∷ []; says = says id valid; front = prefix_refl (joined (gap id ∷ next id ∷ [])) }

-- ---- the writer: it keeps order 1 on a connection on which nothing goes out. On the next one the
-- application withholds it; it writes the gap fill, and order 2

abbrev connection : End → List ℕ → List ℕ → List ℕ → Connection
connection end read written gave = record { opened = end; read = read; written = written; base = 0; gave = gave; kept = [] }

abbrev state : Role → End → ℕ → List Handling → Option ℕ → Connection → EndState
state role end expected handled offered connection = record { role = role; end = end; expected = expected; handled = handled; doubt = None; beside = []; offered = offered; connection = Some connection }

abbrev c1 : Connection
c1 = connection new_end [] [] []

abbrev c2 : List ℕ → List ℕ → Connection
c2 body written = connection (kept_end body) [] written []

abbrev w1 : Peer
w1 = opened_peer (new_peer Acceptor) (state Acceptor new_end 1 [] None c1) 1

abbrev w2 : List ℕ → Peer
w2 body = rested w1 (state Acceptor (kept_end body) 1 [] None c1)

abbrev w3 : List ℕ → Peer
w3 body = opened_peer (w2 body) (state Acceptor (kept_end body) 1 [] None (c2 body [])) 2

abbrev w4 : List ℕ → Peer
w4 body = rested (w3 body) (state Acceptor (kept_end body) 1 [] (Some 1) (c2 body []))

abbrev w5 : List ℕ → Peer
w5 body = rested (w4 body) (state Acceptor (held_end body) 1 [] None (c2 body []))

abbrev w6 : List ℕ → Peer
w6 body = rested (w5 body) (state Acceptor (both_end body) 1 [] None (c2 body []))

abbrev w7 : List ℕ → List ℕ → Peer
w7 body text = wrote_peer (w6 body) (state Acceptor (both_end body) 1 [] None (c2 body text)) text

opens : {id : Identity} (o : Peer) → PeerStep id (new_peer Acceptor) o act.Opened w1
opens o = world.opens 1 (lit< tt) (record { certain = refl; row = steps.opened (λ h. (let wrong = h.1 in cc)) })

keeps : {id : Identity} (body : List ℕ) (o : Peer) → PeerStep id w1 o (act.Kept (Push (entry body))) (w2 body)
keeps body o = world.rests (act.Kept (Push (entry body))) tt (record { certain = refl; row = steps.kept_push (entry body) steps.adds })

reopens : {id : Identity} (body : List ℕ) (o : Peer) → PeerStep id (w2 body) o act.Opened (w3 body)
reopens body o = world.opens 2 (lit< tt) (record { certain = refl; row = steps.opened (λ h. (let wrong = h.1 in cc)) })

holds : {id : Identity} (body : List ℕ) (o : Peer) → PeerStep id (w3 body) o (act.Withheld 1) (w4 body)
holds body o =
    world.rests (act.Withheld 1) tt
    (record { certain = refl; row = steps.offers 1 (record { body = body; app = record { time = 0; by = Caller; entry = record { before = []; after = []; is = refl; place = refl } }; free = λ m. elim m [ ] }) })

keeps_held : {id : Identity} (body : List ℕ) (o : Peer) → PeerStep id (w4 body) o (act.Kept (Withhold 1)) (w5 body)
keeps_held body o = world.rests (act.Kept (Withhold 1)) tt (record { certain = refl; row = steps.kept_withhold 1 refl })

keeps_next : {id : Identity} (body : List ℕ) (o : Peer) → PeerStep id (w5 body) o (act.Kept (Push (entry body))) (w6 body)
keeps_next body o = world.rests (act.Kept (Push (entry body))) tt (record { certain = refl; row = steps.kept_push (entry body) steps.adds })

writes : {id : Identity} (body text : List ℕ) (o : Peer) → LogonRule id (w6 body).state (c2 body []) text → Wrote id (kept_end body) (both_end body) text → PeerStep id (w6 body) o (act.Wrote text) (w7 body text)
writes body text o rule lawful = world.writes text (record { certain = refl; row = steps.wrote text (c2 body []) refl lawful rule })

-- ---- the reader: it opens its connection with the second number, reads, passes the gap, hands order 2
-- over, passes it and keeps the number that it then expects

abbrev order_2 : List ℕ → Handling
order_2 body = record { number = 2; body = body; marked = false; rejected = false }

abbrev r1 : Peer
r1 = opened_peer (new_peer Initiator) (state Initiator new_end 1 [] None c1) 2

abbrev r2 : List ℕ → Peer
r2 text = rested r1 (state Initiator new_end 1 [] None (connection new_end text [] []))

abbrev r3 : List ℕ → Peer
r3 text = rested (r2 text) (state Initiator new_end 2 [] None (connection new_end text [] []))

abbrev r4 : List ℕ → List ℕ → Peer
r4 body text = gave_peer (r3 text) (state Initiator new_end 2 (order_2 body ∷ []) None (connection new_end text [] (2 ∷ []))) 2

abbrev r5 : List ℕ → List ℕ → Peer
r5 body text = rested (r4 body text) (state Initiator new_end 3 (order_2 body ∷ []) None (connection new_end text [] (2 ∷ [])))

abbrev r6 : List ℕ → List ℕ → Peer
r6 body text = rested (r5 body text) (state Initiator (folded new_end (Expect 3)) 3 (order_2 body ∷ []) None (connection new_end text [] (2 ∷ [])))

abbrev shown : List ℕ → List Message
shown body = message.GapFill 1 2 ∷ message.App 2 false body ∷ []

opens_second : {id : Identity} (o : Peer) → PeerStep id (new_peer Initiator) o act.Opened r1
opens_second o = world.opens 2 (lit< tt) (record { certain = refl; row = steps.opened (λ h. (let wrong = h.1 in cc)) })

reads : {id : Identity} (body text : List ℕ) → PeerStep id r1 (w7 body text) (act.Read text) (r2 text)
reads body text = world.reads text c1 refl (prefix_refl text) (record { certain = refl; row = steps.read text c1 refl })

passes_gap : (body text : List ℕ) → (IsBlocked (r2 text).state → ⊥) → Shows text (shown body) → Move (r2 text).state (r3 text).state
passes_gap body text free shows = steps.past_gap (connection new_end text [] []) 1 2 free refl (record { messages = shown body; shows = shows; among = here }) refl (lit< tt)

hands : {id : Identity} (body text : List ℕ) (o : Peer) → (IsBlocked (r3 text).state → ⊥) → Shows text (shown body) → PeerStep id (r3 text) o (act.Handed 2 false body) (r4 body text)
hands body text o free shows =
    world.hands 2 false body
    (record { certain = refl; row = steps.handed (connection new_end text [] []) 2 false body free (record { is_open = refl; expected = refl; frame = record { messages = shown body; shows = shows; among = there here }; unseen = λ m. elim m [ ] }) })

passes : (body text : List ℕ) → (IsBlocked (r4 body text).state → ⊥) → Shows text (shown body) → Move (r4 body text).state (r5 body text).state
passes body text free shows = steps.past_app (connection new_end text [] (2 ∷ [])) 2 false body free refl (record { messages = shown body; shows = shows; among = there here }) refl (record { item = order_2 body; among = here; is = refl })

expects : {id : Identity} (body text : List ℕ) (o : Peer) → PeerStep id (r5 body text) o (act.Kept (Expect 3)) (r6 body text)
expects body text o = world.rests (act.Kept (Expect 3)) tt (record { certain = refl; row = steps.kept_expect 3 refl })

-- ---- both

late : {id : Identity} (body text : List ℕ) {texts : List (List ℕ)} → SaysEach texts (shown body) → IsPrefixOf text (joined texts) → Shows text (shown body) → WorldRun id (of_both (new_peer Initiator) (w7 body text)) (Does First act.Opened ∷ Does First (act.Read text) ∷ Does First (act.Handed 2 false body) ∷ Does First (act.Kept (Expect 3)) ∷ []) (of_both (r6 body text) (w7 body text))
late body text each front shows =
    let other = w7 body text in
    world.step {w = of_both (new_peer Initiator) other} {a' = r1} First act.Opened (opens_second other)
    (world.step {w = of_both r1 other} {a' = r2 text} First (act.Read text) (reads body text)
    (world.move {w = of_both (r2 text) other} {s' = (r3 text).state} First (passes_gap body text (orders_free (r2 text).state (connection new_end text [] []) refl (λ h. (let wrong = h.1 in cc)) each (tt, (tt, tt)) front) shows)
    (world.step {w = of_both (r3 text) other} {a' = r4 body text} First (act.Handed 2 false body) (hands body text other (orders_free (r3 text).state (connection new_end text [] []) refl (λ h. (let wrong = h.1 in cc)) each (tt, (tt, tt)) front) shows)
    (world.move {w = of_both (r4 body text) other} {s' = (r5 body text).state} First (passes body text (orders_free (r4 body text).state (connection new_end text [] (2 ∷ [])) refl (λ h. (let wrong = h.1 in cc)) each (tt, (tt, tt)) front) shows)
    (world.step {w = of_both (r5 body text) other} {a' = r6 body text} First (act.Kept (Expect 3)) (expects body text other) world.stop)))))

early : {id : Identity} (body text : List ℕ) {events : List Event} {texts : List (List ℕ)} {w : World} → SaysEach texts (shown body) → IsPrefixOf text (joined texts) → Wrote (mirrored id) (kept_end body) (both_end body) text → WorldRun id (of_both (new_peer Initiator) (w7 body text)) events w → WorldRun id new_world (Does Second act.Opened ∷ Does Second (act.Kept (Push (entry body))) ∷ Does Second act.Opened ∷ Does Second (act.Withheld 1) ∷ Does Second (act.Kept (Withhold 1)) ∷ Does Second (act.Kept (Push (entry body))) ∷ Does Second (act.Wrote text) ∷ events) w
early body text each front lawful d =
    world.step {w = new_world} {a' = w1} Second act.Opened (opens (new_peer Initiator))
    (world.step {w = of_both (new_peer Initiator) w1} {a' = w2 body} Second (act.Kept (Push (entry body))) (keeps body (new_peer Initiator))
    (world.step {w = of_both (new_peer Initiator) (w2 body)} {a' = w3 body} Second act.Opened (reopens body (new_peer Initiator))
    (world.step {w = of_both (new_peer Initiator) (w3 body)} {a' = w4 body} Second (act.Withheld 1) (holds body (new_peer Initiator))
    (world.step {w = of_both (new_peer Initiator) (w4 body)} {a' = w5 body} Second (act.Kept (Withhold 1)) (keeps_held body (new_peer Initiator))
    (world.step {w = of_both (new_peer Initiator) (w5 body)} {a' = w6 body} Second (act.Kept (Push (entry body))) (keeps_next body (new_peer Initiator))
    (world.step {w = of_both (new_peer Initiator) (w6 body)} {a' = w7 body text} Second (act.Wrote text) (writes body text (new_peer Initiator) (orders_rule (w6 body).state (c2 body []) text (λ h. (let wrong = h.1 in cc)) each (tt, (tt, tt)) front) lawful) d))))))

passes_as : (id : Identity) (body : List ℕ) → IsPersistentEntry (entry body) → Written (mirrored id) body → PassesWithheld id
passes_as id body kept t = record {
  events = Does Second act.Opened ∷ Does Second (act.Kept (Push (entry body))) ∷ Does Second act.Opened ∷ Does Second (act.Withheld 1) ∷ Does Second (act.Kept (Withhold 1)) ∷ Does Second (act.Kept (Push (entry body))) ∷ Does Second (act.Wrote t.text)
      ∷ Does First act.Opened ∷ Does First (act.Read t.text) ∷ Does First (act.Handed 2 false body) ∷ Does First (act.Kept (Expect 3)) ∷ [];
  world = of_both (r6 body t.text) (w7 body t.text);
  run = early body t.text t.says t.front t.lawful (late body t.text t.says t.front t.shows);
  plain = (tt, (kept, (tt, (tt, (tt, (kept, (tt, (tt, (tt, (tt, (tt, tt)))))))))));
  stored = refl;
  withheld = refl;
  body = body;
  handled = refl;
  expected = refl;
}

-- a message is withheld, and the one behind it arrives
pub passes_withheld : (id : Identity) → IsValidIdentity id → PassesWithheld id
passes_withheld id valid =
    let other : IsValidIdentity (mirrored id) = record { sender = valid.target; target = valid.sender } in
    passes_as id body (letter (mirrored id) other).kept (written (mirrored id) other)
