-- A message arrives after a reset that is shared.
use Rattle.std.proofs.Common.{◌≡◌, inl, ℕ, List, [], ◌∷◌, ◌++◌, length, length-append, append_assoc, true, false, Option, Some, None, refl, sym, ap, ◌∙◌, subst, lit<, lit≤, arith}
use Rattle.std.specs.Fmt.{decimal}
use Rattle.std.proofs.lemmas.List.{append-nil}
use Rattle.fix_base.specs.Lists.{Among, here, there, IsPrefixOf}
use Rattle.fix_base.specs.Shape.{IsFrame}
use Rattle.fix_base.specs.Stream.{Frame, frames}
use Rattle.fix_base.specs.Message as message
use Rattle.fix_base.specs.Message.{Message}
use Rattle.fix_base.specs.Says.{Says, Shows, joined}
use Rattle.fix_base.specs.Logon.{IsResetLogon, Begun, Completes}
use Rattle.fix_base.specs.Session.{Identity, IsValidIdentity, mirrored}
use Rattle.fix_base.specs.End.{Record, Push, Expect, Confirm, End, folded}
use Rattle.fix_base.specs.Act as act
use Rattle.fix_base.specs.Wrote as wrote
use Rattle.fix_base.specs.Wrote.{Wrote}
use Rattle.fix_base.specs.EndStep as steps
use Rattle.fix_base.specs.EndStep.{Initiator, Acceptor, Answer, AskedReset, Confirmed, Handling, Connection, EndState, IsBlocked, LogonRule, WasRead, Move}
use Rattle.fix_base.specs.Agrees as agrees
use Rattle.fix_base.specs.Agrees.{Agrees}
use Rattle.fix_base.specs.Payload.{IsPersistentEntry}
use Rattle.fix_base.specs.Resets as resets
use Rattle.fix_base.specs.Resets.{EpochPeer, EpochPeers, still, wrote_epoch_peer, gave_epoch_peer, ResetEvent, Initiates, Accepts, ResetsRun, SharesReset}
use Rattle.fix_base.proofs.ListLemmas.{prefix_refl, some_same}
use Rattle.fix_base.proofs.FramingLemmas.{front_frames}
use Rattle.fix_base.proofs.Runs.{frames-append}
use Rattle.fix_base.proofs.Told as told
use Rattle.fix_base.proofs.Told.{SaysEach}
use Rattle.fix_base.proofs.BytesLemmas.{shows_each, each_frame}
use Rattle.fix_base.proofs.OrderLemmas.{logon_says}
use Rattle.fix_base.proofs.Seals.{sealed_is_frame}
use Rattle.fix_base.proofs.WrittenLemmas.{original_is, app_original, admin_original}
use Rattle.fix_base.proofs.LetterLemmas.{at, at_epoch, order, body, body_is, entry, letter}
use Rattle.fix_base.proofs.HeldLemmas.{next_parts, next, next_sealed}
use Rattle.fix_base.proofs.SharesLemmas.{logon, carried, frame, is_frame, frame_sealed, is_original, begun, empty, with_logon, link, p6, q5, of_both, resetting, reset_peers, shares_as}

-- ---- what the initiator writes: the Logon, and the order under the number after it

abbrev with_order : End
with_order = folded (folded (with_logon true) Confirm) (Push entry)

abbrev said : List Message
said = message.Admin 1 ∷ message.App 2 false body ∷ []

is_next : (id : Identity) → IsValidIdentity id → IsFrame (next id)
is_next id valid = sealed_is_frame id (next_parts id) (next id) (original_is id (decimal 2) at order [] tt) (next_sealed id valid)

next_says : (id : Identity) → IsValidIdentity id → Says (next id) (message.App 2 false body)
next_says id valid = app_original id 2 (next id) at order [] (lit≤ tt) (lit≤ tt) body_is.app tt (next_sealed id valid)

says : (id : Identity) → IsValidIdentity id → SaysEach (frame id ∷ next id ∷ []) said
says id valid = told.one (is_frame id valid) (admin_original id 1 (frame id) at (lit≤ tt) (lit≤ tt) carried (frame_sealed id valid)) (told.one (is_next id valid) (next_says id valid) told.done)

both : (a b : List ℕ) → joined (a ∷ b ∷ []) ≡ a ++ b
both a b = sym (append_assoc a b []) ∙ append-nil (a ++ b)

shows : (id : Identity) → IsValidIdentity id → Shows (frame id ++ next id) said
shows id valid = subst (λ w. Shows w said) (both (frame id) (next id)) (shows_each (says id valid))

lawful : (id : Identity) → IsValidIdentity id → Wrote id (empty true) with_order (frame id ++ next id)
lawful id valid = record {
  grew = record { out = record { rest = logon ∷ entry ∷ []; is = refl }; withheld = record { rest = []; is = refl } };
  texts = frame id ∷ next id ∷ [];
  last = 2;
  writes = wrote.original 1 logon (lit≤ tt) (lit< tt) (record { before = []; after = entry ∷ []; is = refl; place = refl }) (is_original id valid)
      (wrote.original 2 entry (lit≤ tt) (lit< tt) (record { before = logon ∷ []; after = []; is = refl; place = refl }) (record { type = order; at = at; rest = []; carries = wrote.app body_is; sent_at = at_epoch; sealed_so = next_sealed id valid }) wrote.done);
  front = record { rest = []; is = sym (append_assoc (frame id) (next id) []) };
}

-- of two frames one that is no Logon with 141=Y isn't the second
only_first : (xs : List (List ℕ)) (a b text : List ℕ) → IsPrefixOf (xs ++ text ∷ []) (a ∷ b ∷ []) → (text ≡ b → ⊥) → xs ≡ []
only_first [] a b text p other = refl
only_first (x ∷ []) a b text p other = (let e = p.is in let same : text ≡ b = cc in absurd (other same))
only_first (x ∷ y ∷ xs) a b text p other = let long = ap (λ (w : List (List ℕ)). length w) p.is in absurd (omega (arith, long, length-append ((x ∷ y ∷ xs) ++ text ∷ []) p.rest, length-append xs (text ∷ [])))

begins : (id : Identity) → IsValidIdentity id → Begun IsResetLogon (frame id)
begins id valid = let b = begun id valid in record { text = b.text; others = b.others; items = b.items; rest = b.rest; takes = b.takes; first = b.first; is = record { fields = b.is.fields; has = b.is.has; type = b.is.type; flag = b.is.flag } }

-- the order is written after a Logon with 141=Y, and is none
order_rule : (id : Identity) (valid : IsValidIdentity id) (s : EndState) (c : Connection) → s.end.asked ≡ false → c.written ≡ frame id → LogonRule id s c (next id)
order_rule id valid s c unasked written = steps.answers (λ h. (let wrong = h.1 in cc)) (λ b. inl (subst (λ w. Begun IsResetLogon w) (sym written) (begins id valid))) first
  where
    first : (text : List ℕ) (w : Completes c.written (next id) text) → IsResetLogon text → frames w.before ≡ []
    first text w l =
        let among = front_frames (frame id ∷ next id ∷ []) (c.written ++ next id) (w.before ++ Frame text ∷ []) w.rest (record { each = each_frame (says id valid) }) (record { rest = []; is = sym (append_assoc (frame id) (next id) []) ∙ ap (λ (z : List ℕ). (z ++ next id) ++ []) (sym written) }) w.takes in
        only_first (frames w.before) (frame id) (next id) text (subst (λ z. IsPrefixOf z (frame id ∷ next id ∷ [])) (frames-append w.before (Frame text ∷ [])) among) (λ e. logon_says (next id) (message.App 2 false body) (subst IsResetLogon e l) (next_says id valid) tt)

-- ---- the initiator keeps the order, and writes it

abbrev sender : End → List ℕ → List ℕ → EndState
sender end theirs written = record { role = Initiator; end = end; expected = 1; handled = []; doubt = None; beside = []; offered = None; connection = Some (link (empty true) theirs written (Confirmed ∷ [])) }

abbrev p7 : Identity → EpochPeer
p7 id = still (p6 (frame id) (frame (mirrored id))) (sender with_order (frame (mirrored id)) (frame id))

abbrev p8 : Identity → EpochPeer
p8 id = wrote_epoch_peer (p7 id) (sender with_order (frame (mirrored id)) (frame id ++ next id)) (next id)

-- ---- the acceptor reads it, passes the Logon, hands the order over, passes it, and keeps what it expects

abbrev order_2 : Handling
order_2 = record { number = 2; body = body; marked = false; rejected = false }

abbrev reading : Identity → List ℕ → Connection
reading id gave = record { opened = empty false; read = frame id ++ next id; written = frame (mirrored id); base = 0; gave = gave; kept = AskedReset ∷ [] }

abbrev reader : End → ℕ → List Handling → Connection → EndState
reader end expected handled c = record { role = Acceptor; end = end; expected = expected; handled = handled; doubt = None; beside = []; offered = None; connection = Some c }

abbrev q6 : Identity → EpochPeer
q6 id = still (q5 (frame id) (frame (mirrored id))) (reader (with_logon false) 1 [] (reading id []))

abbrev q7 : Identity → EpochPeer
q7 id = still (q6 id) (reader (with_logon false) 2 [] (reading id []))

abbrev q8 : Identity → EpochPeer
q8 id = gave_epoch_peer (q7 id) (reader (with_logon false) 2 (order_2 ∷ []) (reading id (2 ∷ []))) 2 1 false

abbrev q9 : Identity → EpochPeer
q9 id = still (q8 id) (reader (with_logon false) 3 (order_2 ∷ []) (reading id (2 ∷ [])))

abbrev q10 : Identity → EpochPeer
q10 id = still (q9 id) (reader (folded (with_logon false) (Expect 3)) 3 (order_2 ∷ []) (reading id (2 ∷ [])))

-- the reset is answered, so messages count
free : (s : EndState) (c : Connection) → s.role ≡ Acceptor → s.connection ≡ Some c → c.kept ≡ AskedReset ∷ [] → IsBlocked s → ⊥
free s c role is_open kept (steps.asks h) = let wrong = h.0 in cc
free s c role is_open kept (steps.waits d other none b) = let same : c ≡ d = some_same c d (sym is_open ∙ other) in (let wrong : c.kept ≡ [] = ap (λ (k : Connection). k.kept) same ∙ none in cc)

was_read : (id : Identity) (valid : IsValidIdentity id) (gave : List ℕ) (x : Message) → Among x said → WasRead (reading id gave) x
was_read id valid gave x among = record { messages = said; shows = shows id valid; among = among }

passes_logon : (id : Identity) → IsValidIdentity id → Move (q6 id).state (q7 id).state
passes_logon id valid = steps.past_admin (reading id []) (message.Admin 1) (free (q6 id).state (reading id []) refl refl refl) refl (was_read id valid [] (message.Admin 1) here) refl

passes_order : (id : Identity) → IsValidIdentity id → Move (q8 id).state (q9 id).state
passes_order id valid = steps.past_app (reading id (2 ∷ [])) 2 false body (free (q8 id).state (reading id (2 ∷ [])) refl refl refl) refl (was_read id valid (2 ∷ []) (message.App 2 false body) (there here)) refl (record { item = order_2; among = here; is = refl })

plain : (r : Record) (d : Option Record) → d ≡ None → d ≡ Some r → resets.StartsAnew r → ⊥
plain r d none some anew = cc

-- ---- both

abbrev arriving : Identity → List ResetEvent
arriving id = Initiates (act.Kept (Push entry)) ∷ Initiates (act.Wrote (next id)) ∷ Accepts (act.Read (next id)) ∷ Accepts (act.Handed 2 false body) ∷ Accepts (act.Kept (Expect 3)) ∷ []

arrives : (id : Identity) → IsValidIdentity id → IsPersistentEntry entry → ResetsRun id (reset_peers id) (arriving id) (of_both (p8 id) (q10 id))
arrives id valid kept =
    resets.initiates {w = reset_peers id} {p = p7 id} (act.Kept (Push entry)) (resets.rests (act.Kept (Push entry)) tt kept (record { certain = refl; row = steps.kept_push entry steps.adds }))
    (resets.initiates {w = of_both (p7 id) (q5 (frame id) (frame (mirrored id)))} {p = p8 id} (act.Wrote (next id)) (resets.writes (next id) (record { certain = refl; row = steps.wrote (next id) (link (empty true) (frame (mirrored id)) (frame id) (Confirmed ∷ [])) refl (lawful id valid) (order_rule id valid (p7 id).state (link (empty true) (frame (mirrored id)) (frame id) (Confirmed ∷ [])) refl refl) }))
    (resets.accepts {w = of_both (p8 id) (q5 (frame id) (frame (mirrored id)))} {p = q6 id} (act.Read (next id)) (resets.reads (next id) (link (empty false) (frame id) (frame (mirrored id)) (AskedReset ∷ [])) refl (prefix_refl (frame id ++ next id)) (record { certain = refl; row = steps.read (next id) (link (empty false) (frame id) (frame (mirrored id)) (AskedReset ∷ [])) refl }))
    (resets.acceptor_moves {w = of_both (p8 id) (q6 id)} {p = q7 id} (resets.moves (passes_logon id valid) (λ r e. plain r None refl e))
    (resets.accepts {w = of_both (p8 id) (q7 id)} {p = q8 id} (act.Handed 2 false body) (resets.hands 2 1 false body refl (record { certain = refl; row = steps.handed (reading id []) 2 false body (free (q7 id).state (reading id []) refl refl refl) (record { is_open = refl; expected = refl; frame = was_read id valid [] (message.App 2 false body) (there here); unseen = λ m. elim m [ ] }) }))
    (resets.acceptor_moves {w = of_both (p8 id) (q8 id)} {p = q9 id} (resets.moves (passes_order id valid) (λ r e. plain r None refl e))
    (resets.accepts {w = of_both (p8 id) (q9 id)} {p = q10 id} (act.Kept (Expect 3)) (resets.rests (act.Kept (Expect 3)) tt tt (record { certain = refl; row = steps.kept_expect 3 refl })) resets.stop))))))

order_agrees : Agrees 3 (order_2 ∷ []) with_order
order_agrees = record { below = logon ∷ entry ∷ []; rest = []; is = refl; many = refl; same = agrees.keeps (record { number = 2; body = body }) agrees.none }

nothing_agrees : Agrees 1 [] (folded (with_logon false) (Expect 3))
nothing_agrees = record { below = []; rest = logon ∷ []; is = refl; many = refl; same = agrees.none }

-- a reset is shared, and a message arrives after it
pub shares_reset : (id : Identity) → IsValidIdentity id → SharesReset id
shares_reset id valid =
    let other : IsValidIdentity (mirrored id) = record { sender = valid.target; target = valid.sender } in
    record {
      events = resetting id (arriving id);
      peers = of_both (p8 id) (q10 id);
      run = shares_as id valid other (arrives id valid (letter id valid).kept);
      epoch = refl;
      epoch_back = refl;
      asked = refl;
      certain = (refl, refl);
      body = body;
      stored = refl;
      handled = refl;
      expected = refl;
      agree = record { kept = order_agrees; running = order_agrees };
      agree_back = record { kept = nothing_agrees; running = nothing_agrees };
    }
