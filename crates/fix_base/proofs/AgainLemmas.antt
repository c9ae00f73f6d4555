-- A run of two ends in which a message is handed over twice, the second time marked: the reader stops
-- before it keeps the next number, and the writer repeats the message on the next connection.
use Rattle.std.proofs.Common.{ℕ, ◌≤◌, nat_le, codes, List, [], ◌∷◌, length, true, false, Some, None, refl, lit<, lit≤, arith}
use Rattle.std.specs.List.{AllByRecursion}
use Rattle.std.specs.Fmt.{decimal}
use Rattle.fix_base.specs.Lists.{here}
use Rattle.fix_base.specs.Fields.{Field}
use Rattle.fix_base.specs.Sealed.{sealed}
use Rattle.fix_base.specs.Message as message
use Rattle.fix_base.specs.Says.{fields_text, Shows}
use Rattle.fix_base.specs.Session.{Identity, IsValidIdentity, mirrored}
use Rattle.fix_base.specs.End.{Caller, Push, Expect, End, new_end, folded}
use Rattle.fix_base.specs.Act as act
use Rattle.fix_base.specs.Payload.{field}
use Rattle.fix_base.specs.Wrote as wrote
use Rattle.fix_base.specs.Wrote.{IsSealed, repeat_fields, Wrote}
use Rattle.fix_base.specs.EndStep as steps
use Rattle.fix_base.specs.EndStep.{Role, Initiator, Acceptor, Connection, EndState, Handling, WasRead, Move}
use Rattle.fix_base.specs.World as world
use Rattle.fix_base.specs.World.{Peer, World, new_peer, new_world, rested, opened_peer, wrote_peer, gave_peer, First, Second, Event, Does, PeerStep, WorldRun, handed_over, ComesAgain}
use Rattle.fix_base.proofs.ListLemmas.{prefix_refl}
use Rattle.fix_base.proofs.WroteLemmas.{GrowsTo-refl}
use Rattle.fix_base.proofs.PlainFields.{IsPlainField, plain_fields}
use Rattle.fix_base.proofs.ShortFields.{clear_of, comp_id_clear, comp_id_short, IsShortField, short_fields}
use Rattle.fix_base.proofs.Seals.{sealed_is_frame}
use Rattle.fix_base.proofs.WrittenLemmas.{repeat_is, app_repeat}
use Rattle.fix_base.proofs.LetterLemmas.{number_clear, number_short, at, at_epoch, at_clear, order, order_field, order_short, body, body_is, Letter, letter, shown}
use Rattle.fix_base.proofs.ArrivesLemmas.{entry, kept_end, a3, e3, of_both, early, middle, front_of}
use Rattle.fix_base.proofs.Told as told
use Rattle.fix_base.proofs.Told.{SaysEach}
use Rattle.fix_base.proofs.OrderLemmas.{orders_rule, orders_free}

-- ---- the repeat's frame

abbrev fields : Identity → List Field
fields id = repeat_fields id (decimal 1) at at order []

yes_field : IsPlainField (field 43 (codes "Y"))
yes_field = record { first = lit≤ tt; last = lit≤ tt; no_soh = clear_of (λ b. nat_le 2 b) (codes "Y") refl refl; no_length = refl }

plain : (id : Identity) → IsValidIdentity id → AllByRecursion IsPlainField (fields id)
plain id valid = (
  order_field,
  (
    record { first = lit≤ tt; last = lit≤ tt; no_soh = number_clear; no_length = refl },
    (
      yes_field,
      (
        record { first = lit≤ tt; last = lit≤ tt; no_soh = comp_id_clear id.sender valid.sender; no_length = refl },
        (
          record { first = lit≤ tt; last = lit≤ tt; no_soh = at_clear; no_length = refl },
          (
            record { first = lit≤ tt; last = lit≤ tt; no_soh = comp_id_clear id.target valid.target; no_length = refl },
            (record { first = lit≤ tt; last = lit≤ tt; no_soh = at_clear; no_length = refl }, tt),
          ),
        ),
      ),
    ),
  ),
)

short : (id : Identity) → IsValidIdentity id → AllByRecursion IsShortField (fields id)
short id valid = (
  order_short,
  (
    record { last = lit≤ tt; short = number_short },
    (
      record { last = lit≤ tt; short = lit≤ tt },
      (
        record { last = lit≤ tt; short = comp_id_short id.sender valid.sender },
        (
          record { last = lit≤ tt; short = lit≤ tt },
          (record { last = lit≤ tt; short = comp_id_short id.target valid.target }, (record { last = lit≤ tt; short = lit≤ tt }, tt)),
        ),
      ),
    ),
  ),
)

abbrev frame : Identity → List ℕ
frame id = sealed id.begin (fields_text (fields id))

frame_sealed : (id : Identity) → IsValidIdentity id → IsSealed id (fields id) (frame id)
frame_sealed id valid =
    let bound : length (fields_text (fields id)) ≤ 700 = short_fields (fields id) (short id valid) in
    record { spelled = refl; are = plain_fields (fields id) (plain id valid); short = omega arith }

-- a repeat of message 1 that an end may write on a later connection, and what a reader has of it
record Repeat (id : Identity) (body : List ℕ) : Type 0 where
  text : List ℕ
  lawful : Wrote id (kept_end body) (kept_end body) text
  shows : Shows text (message.App 1 true body ∷ [])
  says : SaysEach (text ∷ []) (message.App 1 true body ∷ [])

lawful : (id : Identity) → IsValidIdentity id → Wrote id (kept_end body) (kept_end body) (frame id)
lawful id valid = record {
  grew = GrowsTo-refl (kept_end body);
  texts = frame id ∷ [];
  last = 1;
  writes = wrote.again 1 0 Caller body 0 (lit≤ tt) (record { before = []; after = []; is = refl; place = refl }) (λ held. elim held [ ]) (record { none = λ gap m. elim m [ ] }) (record { type = order; at = at; was = at; rest = []; carries = body_is; sent_at = at_epoch; sent_first_at = at_epoch; sealed_so = frame_sealed id valid }) wrote.done;
  front = record { rest = []; is = refl };
}

repeated : (id : Identity) → IsValidIdentity id → Repeat id body
repeated id valid = record {
  text = frame id;
  lawful = lawful id valid;
  shows = shown (frame id) (sealed_is_frame id (fields id) (frame id) (repeat_is id (decimal 1) at at order [] tt) (frame_sealed id valid)) _ (app_repeat id 1 (frame id) at at order [] (lit≤ tt) (lit≤ tt) body_is.app tt (frame_sealed id valid));
  says = told.one (sealed_is_frame id (fields id) (frame id) (repeat_is id (decimal 1) at at order [] tt) (frame_sealed id valid)) (app_repeat id 1 (frame id) at at order [] (lit≤ tt) (lit≤ tt) body_is.app tt (frame_sealed id valid)) told.done;
}

-- ---- the writer: it opens the next connection and writes the repeat

abbrev Says2 : List ℕ → List ℕ → Type 0
Says2 body text = SaysEach (text ∷ []) (message.App 1 true body ∷ [])

abbrev w_connection : List ℕ → List ℕ → Connection
w_connection body written = record { opened = kept_end body; read = []; written = written; base = 0; gave = []; kept = [] }

abbrev w_state : List ℕ → List ℕ → EndState
w_state body written = record { role = Acceptor; end = kept_end body; expected = 1; handled = []; doubt = None; beside = []; offered = None; connection = Some (w_connection body written) }

-- with what it wrote first, and the repeat
abbrev w1 : List ℕ → List ℕ → Peer
w1 body text = opened_peer (a3 body text) (w_state body []) 2

abbrev w2 : List ℕ → List ℕ → List ℕ → Peer
w2 body text again = wrote_peer (w1 body text) (w_state body again) again

reopens : {id : Identity} (body text : List ℕ) (o : Peer) → PeerStep id (a3 body text) o act.Opened (w1 body text)
reopens body text o = world.opens 2 (lit< tt) (record { certain = refl; row = steps.opened (λ h. (let wrong = h.1 in cc)) })

repeats : {id : Identity} (body text again : List ℕ) (o : Peer) → Says2 body again → Wrote id (kept_end body) (kept_end body) again → PeerStep id (w1 body text) o (act.Wrote again) (w2 body text again)
repeats body text again o says lawful = world.writes again (record { certain = refl; row = steps.wrote again (w_connection body []) refl lawful (orders_rule (w_state body []) (w_connection body []) again (λ h. (let wrong = h.1 in cc)) says (tt, tt) (front_of again)) })

-- ---- the reader: it stops, opens the next connection, reads the repeat, hands it over, passes it and
-- keeps the number that it then expects

-- what it handed over
abbrev once : List ℕ → List Handling
once body = handed_over false body ∷ []

abbrev twice : List ℕ → List Handling
twice body = handed_over false body ∷ handed_over true body ∷ []

abbrev r_connection : List ℕ → List ℕ → Connection
r_connection read gave = record { opened = new_end; read = read; written = []; base = 1; gave = gave; kept = [] }

abbrev r_state : End → ℕ → List Handling → Connection → EndState
r_state end expected handled connection = record { role = Initiator; end = end; expected = expected; handled = handled; doubt = None; beside = []; offered = None; connection = Some connection }

abbrev r0 : List ℕ → List ℕ → Peer
r0 body text = rested (e3 body text) (record { role = Initiator; end = new_end; expected = 1; handled = once body; doubt = None; beside = []; offered = None; connection = None })

abbrev r1 : List ℕ → List ℕ → Peer
r1 body text = opened_peer (r0 body text) (r_state new_end 1 (once body) (r_connection [] [])) 2

abbrev r2 : List ℕ → List ℕ → List ℕ → Peer
r2 body text again = rested (r1 body text) (r_state new_end 1 (once body) (r_connection again []))

abbrev s3 : List ℕ → List ℕ → EndState
s3 body again = r_state new_end 1 (twice body) (r_connection again (1 ∷ []))

abbrev s4 : List ℕ → List ℕ → EndState
s4 body again = r_state new_end 2 (twice body) (r_connection again (1 ∷ []))

abbrev s5 : List ℕ → List ℕ → EndState
s5 body again = r_state (folded new_end (Expect 2)) 2 (twice body) (r_connection again (1 ∷ []))

abbrev r3 : List ℕ → List ℕ → List ℕ → Peer
r3 body text again = gave_peer (r2 body text again) (s3 body again) 1

abbrev r4 : List ℕ → List ℕ → List ℕ → Peer
r4 body text again = rested (r3 body text again) (s4 body again)

abbrev r5 : List ℕ → List ℕ → List ℕ → Peer
r5 body text again = rested (r4 body text again) (s5 body again)

stops : {id : Identity} (body text : List ℕ) (o : Peer) → PeerStep id (e3 body text) o act.Stop (r0 body text)
stops body text o = world.rests act.Stop tt (record { certain = refl; row = steps.stopped })

opens_next : {id : Identity} (body text : List ℕ) (o : Peer) → PeerStep id (r0 body text) o act.Opened (r1 body text)
opens_next body text o = world.opens 2 (lit< tt) (record { certain = refl; row = steps.opened (λ h. (let wrong = h.1 in cc)) })

was_read : (body again gave : List ℕ) → Shows again (message.App 1 true body ∷ []) → WasRead (r_connection again gave) (message.App 1 true body)
was_read body again gave shows = record { messages = message.App 1 true body ∷ []; shows = shows; among = here }

reads : {id : Identity} (body text again : List ℕ) → PeerStep id (r1 body text) (w2 body text again) (act.Read again) (r2 body text again)
reads body text again = world.reads again (r_connection [] []) refl (prefix_refl again) (record { certain = refl; row = steps.read again (r_connection [] []) refl })

hands : {id : Identity} (body text again : List ℕ) (o : Peer) → Says2 body again → Shows again (message.App 1 true body ∷ []) → PeerStep id (r2 body text again) o (act.Handed 1 true body) (r3 body text again)
hands body text again o says shows = world.hands 1 true body (record { certain = refl; row = steps.handed (r_connection again []) 1 true body (orders_free (r_state new_end 1 (once body) (r_connection again [])) (r_connection again []) refl (λ h. (let wrong = h.1 in cc)) says (tt, tt) (front_of again)) (record { is_open = refl; expected = refl; frame = was_read body again [] shows; unseen = λ m. elim m [ ] }) })

passes : (body again : List ℕ) → Says2 body again → Shows again (message.App 1 true body ∷ []) → Move (s3 body again) (s4 body again)
passes body again says shows = steps.past_app (r_connection again (1 ∷ [])) 1 true body (orders_free (s3 body again) (r_connection again (1 ∷ [])) refl (λ h. (let wrong = h.1 in cc)) says (tt, tt) (front_of again)) refl (was_read body again (1 ∷ []) shows) refl (record { item = handed_over true body; among = here; is = refl })

expects : {id : Identity} (body text again : List ℕ) (o : Peer) → PeerStep id (r4 body text again) o (act.Kept (Expect 2)) (r5 body text again)
expects body text again o = world.rests (act.Kept (Expect 2)) tt (record { certain = refl; row = steps.kept_expect 2 refl })

-- ---- both

-- from the stop to the repeat
torn : {id : Identity} (body text again : List ℕ) {events : List Event} {w : World} → Says2 body again → Wrote (mirrored id) (kept_end body) (kept_end body) again → WorldRun id (of_both (r1 body text) (w2 body text again)) events w → WorldRun id (of_both (e3 body text) (a3 body text)) (Does First act.Stop ∷ Does Second act.Opened ∷ Does First act.Opened ∷ Does Second (act.Wrote again) ∷ events) w
torn body text again says lawful d =
    world.step {w = of_both (e3 body text) (a3 body text)} {a' = r0 body text} First act.Stop (stops body text (a3 body text))
    (world.step {w = of_both (r0 body text) (a3 body text)} {a' = w1 body text} Second act.Opened (reopens body text (r0 body text))
    (world.step {w = of_both (r0 body text) (w1 body text)} {a' = r1 body text} First act.Opened (opens_next body text (w1 body text))
    (world.step {w = of_both (r1 body text) (w1 body text)} {a' = w2 body text again} Second (act.Wrote again) (repeats body text again (r1 body text) says lawful) d)))

-- from the repeat to the end
taken : {id : Identity} (body text again : List ℕ) → Says2 body again → Shows again (message.App 1 true body ∷ []) → WorldRun id (of_both (r1 body text) (w2 body text again)) (Does First (act.Read again) ∷ Does First (act.Handed 1 true body) ∷ Does First (act.Kept (Expect 2)) ∷ []) (of_both (r5 body text again) (w2 body text again))
taken body text again says shows =
    let other = w2 body text again in
    world.step {w = of_both (r1 body text) other} {a' = r2 body text again} First (act.Read again) (reads body text again)
    (world.step {w = of_both (r2 body text again) other} {a' = r3 body text again} First (act.Handed 1 true body) (hands body text again other says shows)
    (world.move {w = of_both (r3 body text again) other} {s' = s4 body again} First (passes body again says shows)
    (world.step {w = of_both (r4 body text again) other} {a' = r5 body text again} First (act.Kept (Expect 2)) (expects body text again other) world.stop)))

comes_as : (id : Identity) (body : List ℕ) → Letter (mirrored id) body → Repeat (mirrored id) body → ComesAgain id
comes_as id body l r = record {
  events = Does Second act.Opened ∷ Does Second (act.Kept (Push (entry body))) ∷ Does Second (act.Wrote l.text) ∷ Does First act.Opened ∷ Does First (act.Read l.text) ∷ Does First (act.Handed 1 false body) ∷ Does First act.Stop ∷ Does Second act.Opened ∷ Does First act.Opened ∷ Does Second (act.Wrote r.text) ∷ Does First (act.Read r.text) ∷ Does First (act.Handed 1 true body) ∷ Does First (act.Kept (Expect 2)) ∷ [];
  world = of_both (r5 body l.text r.text) (w2 body l.text r.text);
  run = early body l.text l.says l.lawful (middle body l.text l.says l.shows (torn body l.text r.text r.says r.lawful (taken body l.text r.text r.says r.shows)));
  plain = (tt, (l.kept, (tt, (tt, (tt, (tt, (tt, (tt, (tt, (tt, (tt, (tt, (tt, tt)))))))))))));
  body = body;
  handled = refl;
  expected = refl;
}

-- a message comes twice, the second time marked
pub comes_again : (id : Identity) → IsValidIdentity id → ComesAgain id
comes_again id valid =
    let other : IsValidIdentity (mirrored id) = record { sender = valid.target; target = valid.sender } in
    comes_as id body (letter (mirrored id) other) (repeated (mirrored id) other)
