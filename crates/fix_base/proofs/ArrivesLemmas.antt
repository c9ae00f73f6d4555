-- A run of two ends in which a message is kept, written, read, handed over and passed.
use Rattle.std.proofs.Common.{ℕ, List, [], ◌∷◌, false, Some, None, refl, lit<}
use Rattle.fix_base.specs.Lists.{here, IsPrefixOf}
use Rattle.fix_base.specs.Message as message
use Rattle.fix_base.specs.Message.{Message}
use Rattle.fix_base.specs.Says.{Shows, joined}
use Rattle.fix_base.proofs.Told.{SaysEach}
use Rattle.fix_base.proofs.OrderLemmas.{orders_rule, orders_free}
use Rattle.fix_base.specs.Session.{Identity, IsValidIdentity, mirrored}
use Rattle.fix_base.specs.End.{Caller, Entry, App, Push, Expect, End, new_end, folded}
use Rattle.fix_base.specs.Act as act
use Rattle.fix_base.specs.Wrote.{Wrote}
use Rattle.fix_base.specs.EndStep as steps
use Rattle.fix_base.specs.EndStep.{Role, Initiator, Acceptor, Connection, EndState, Handling, WasRead, Move}
use Rattle.fix_base.specs.World as world
use Rattle.fix_base.specs.World.{Peer, World, new_peer, new_world, rested, opened_peer, wrote_peer, gave_peer, First, Second, Event, Does, PeerStep, WorldRun, Arrives}
use Rattle.fix_base.proofs.ListLemmas.{prefix_refl}
use Rattle.fix_base.proofs.LetterLemmas.{body, Letter, letter}

-- ---- the writer: it opens a connection, keeps the message and writes it

abbrev pub entry : List ℕ → Entry
entry body = App 0 Caller body

abbrev pub kept_end : List ℕ → End
kept_end body = folded new_end (Push (entry body))

abbrev connection : List ℕ → List ℕ → List ℕ → Connection
connection read written gave = record { opened = new_end; read = read; written = written; base = 0; gave = gave; kept = [] }

-- an end that expects this number, with what it handled, on its connection
abbrev pub state : Role → End → ℕ → List Handling → Connection → EndState
state role end expected handled connection = record { role = role; end = end; expected = expected; handled = handled; doubt = None; beside = []; offered = None; connection = Some connection }

abbrev s1 : Role → EndState
s1 role = state role new_end 1 [] (connection [] [] [])

abbrev s2 : List ℕ → EndState
s2 body = state Acceptor (kept_end body) 1 [] (connection [] [] [])

abbrev pub s3 : List ℕ → List ℕ → EndState
s3 body text = state Acceptor (kept_end body) 1 [] (connection [] text [])

abbrev a1 : Role → Peer
a1 role = opened_peer (new_peer role) (s1 role) 1

abbrev a2 : List ℕ → Peer
a2 body = rested (a1 Acceptor) (s2 body)

abbrev pub a3 : List ℕ → List ℕ → Peer
a3 body text = wrote_peer (a2 body) (s3 body text) text

-- the text is the frame of the order
abbrev pub Says1 : List ℕ → List ℕ → Type 0
Says1 body text = SaysEach (text ∷ []) (message.App 1 false body ∷ [])

pub front_of : (text : List ℕ) → IsPrefixOf text (joined (text ∷ []))
front_of text = record { rest = []; is = refl }

opens : {id : Identity} (role : Role) (o : Peer) → PeerStep id (new_peer role) o act.Opened (a1 role)
opens role o = world.opens 1 (lit< tt) (record { certain = refl; row = steps.opened (λ h. refl) })

keeps : {id : Identity} (body : List ℕ) (o : Peer) → PeerStep id (a1 Acceptor) o (act.Kept (Push (entry body))) (a2 body)
keeps body o = world.rests (act.Kept (Push (entry body))) tt (record { certain = refl; row = steps.kept_push (entry body) steps.adds })

writes : {id : Identity} (body text : List ℕ) (o : Peer) → Says1 body text → Wrote id new_end (kept_end body) text → PeerStep id (a2 body) o (act.Wrote text) (a3 body text)
writes body text o says lawful = world.writes text (record { certain = refl; row = steps.wrote text (connection [] [] []) refl lawful (orders_rule (s2 body) (connection [] [] []) text (λ h. (let wrong = h.1 in cc)) says (tt, tt) (front_of text)) })

-- ---- the reader: it opens its connection, reads the frame, hands the message over, passes it and keeps
-- the number that it then expects

abbrev pub item : List ℕ → Handling
item body = record { number = 1; body = body; marked = false; rejected = false }

abbrev r2 : List ℕ → EndState
r2 text = state Initiator new_end 1 [] (connection text [] [])

abbrev pub r3 : List ℕ → List ℕ → EndState
r3 body text = state Initiator new_end 1 (item body ∷ []) (connection text [] (1 ∷ []))

abbrev r4 : List ℕ → List ℕ → EndState
r4 body text = state Initiator new_end 2 (item body ∷ []) (connection text [] (1 ∷ []))

abbrev r5 : List ℕ → List ℕ → EndState
r5 body text = state Initiator (folded new_end (Expect 2)) 2 (item body ∷ []) (connection text [] (1 ∷ []))

abbrev e2 : List ℕ → Peer
e2 text = rested (a1 Initiator) (r2 text)

abbrev pub e3 : List ℕ → List ℕ → Peer
e3 body text = gave_peer (e2 text) (r3 body text) 1

abbrev e4 : List ℕ → List ℕ → Peer
e4 body text = rested (e3 body text) (r4 body text)

abbrev e5 : List ℕ → List ℕ → Peer
e5 body text = rested (e4 body text) (r5 body text)

was_read : (body text : List ℕ) (gave : List ℕ) → Shows text (message.App 1 false body ∷ []) → WasRead (connection text [] gave) (message.App 1 false body)
was_read body text gave shows = record { messages = message.App 1 false body ∷ []; shows = shows; among = here }

reads : {id : Identity} (body text : List ℕ) → PeerStep id (a1 Initiator) (a3 body text) (act.Read text) (e2 text)
reads body text = world.reads text (connection [] [] []) refl (prefix_refl text) (record { certain = refl; row = steps.read text (connection [] [] []) refl })

hands : {id : Identity} (body text : List ℕ) → Says1 body text → Shows text (message.App 1 false body ∷ []) → PeerStep id (e2 text) (a3 body text) (act.Handed 1 false body) (e3 body text)
hands body text says shows = world.hands 1 false body (record { certain = refl; row = steps.handed (connection text [] []) 1 false body (orders_free (r2 text) (connection text [] []) refl (λ h. (let wrong = h.1 in cc)) says (tt, tt) (front_of text)) (record { is_open = refl; expected = refl; frame = was_read body text [] shows; unseen = λ m. elim m [ ] }) })

passes : (body text : List ℕ) → Says1 body text → Shows text (message.App 1 false body ∷ []) → Move (r3 body text) (r4 body text)
passes body text says shows = steps.past_app (connection text [] (1 ∷ [])) 1 false body (orders_free (r3 body text) (connection text [] (1 ∷ [])) refl (λ h. (let wrong = h.1 in cc)) says (tt, tt) (front_of text)) refl (was_read body text (1 ∷ []) shows) refl (record { item = item body; among = here; is = refl })

expects : {id : Identity} (body text : List ℕ) → PeerStep id (e4 body text) (a3 body text) (act.Kept (Expect 2)) (e5 body text)
expects body text = world.rests (act.Kept (Expect 2)) tt (record { certain = refl; row = steps.kept_expect 2 refl })

-- ---- both

abbrev pub of_both : Peer → Peer → World
of_both e a = record { first = e; second = a }

late : {id : Identity} (body text : List ℕ) → Says1 body text → Shows text (message.App 1 false body ∷ []) → WorldRun id (of_both (e3 body text) (a3 body text)) (Does First (act.Kept (Expect 2)) ∷ []) (of_both (e5 body text) (a3 body text))
late body text says shows =
    world.move {w = of_both (e3 body text) (a3 body text)} {s' = r4 body text} First (passes body text says shows)
    (world.step {w = of_both (e4 body text) (a3 body text)} {a' = e5 body text} First (act.Kept (Expect 2)) (expects body text) world.stop)

pub middle : {id : Identity} (body text : List ℕ) {events : List Event} {w : World} → Says1 body text → Shows text (message.App 1 false body ∷ []) → WorldRun id (of_both (e3 body text) (a3 body text)) events w → WorldRun id (of_both (new_peer Initiator) (a3 body text)) (Does First act.Opened ∷ Does First (act.Read text) ∷ Does First (act.Handed 1 false body) ∷ events) w
middle body text says shows d =
    world.step {w = of_both (new_peer Initiator) (a3 body text)} {a' = a1 Initiator} First act.Opened (opens Initiator (a3 body text))
    (world.step {w = of_both (a1 Initiator) (a3 body text)} {a' = e2 text} First (act.Read text) (reads body text)
    (world.step {w = of_both (e2 text) (a3 body text)} {a' = e3 body text} First (act.Handed 1 false body) (hands body text says shows) d))

pub early : {id : Identity} (body text : List ℕ) {events : List Event} {w : World} → Says1 body text → Wrote (mirrored id) new_end (kept_end body) text → WorldRun id (of_both (new_peer Initiator) (a3 body text)) events w → WorldRun id new_world (Does Second act.Opened ∷ Does Second (act.Kept (Push (entry body))) ∷ Does Second (act.Wrote text) ∷ events) w
early body text says lawful d =
    world.step {w = new_world} {a' = a1 Acceptor} Second act.Opened (opens Acceptor (new_peer Initiator))
    (world.step {w = of_both (new_peer Initiator) (a1 Acceptor)} {a' = a2 body} Second (act.Kept (Push (entry body))) (keeps body (new_peer Initiator))
    (world.step {w = of_both (new_peer Initiator) (a2 body)} {a' = a3 body text} Second (act.Wrote text) (writes body text (new_peer Initiator) says lawful) d))

arrives_as : (id : Identity) (body : List ℕ) → Letter (mirrored id) body → Arrives id
arrives_as id body l = record {
  events = Does Second act.Opened ∷ Does Second (act.Kept (Push (entry body))) ∷ Does Second (act.Wrote l.text) ∷ Does First act.Opened ∷ Does First (act.Read l.text) ∷ Does First (act.Handed 1 false body) ∷ Does First (act.Kept (Expect 2)) ∷ [];
  world = of_both (e5 body l.text) (a3 body l.text);
  run = early body l.text l.says l.lawful (middle body l.text l.says l.shows (late body l.text l.says l.shows));
  plain = (tt, (l.kept, (tt, (tt, (tt, (tt, (tt, tt)))))));
  handled = refl;
  expected = refl;
}

-- a message arrives
pub arrives : (id : Identity) → IsValidIdentity id → Arrives id
arrives id valid = arrives_as id body (letter (mirrored id) (record { sender = valid.target; target = valid.sender }))
