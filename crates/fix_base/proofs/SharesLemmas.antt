-- A run of two ends in which a reset is asked for, answered and confirmed.
use Rattle.std.proofs.Common.{◌≡◌, inl, inr, ℕ, ◌≤◌, nat_le, codes, List, [], ◌∷◌, ◌++◌, length, length-append, Bool, true, false, Some, None, refl, sym, ap, subst, lit<, lit≤, arith}
use Rattle.std.specs.List.{AllByRecursion}
use Rattle.std.specs.Fmt.{decimal}
use Rattle.std.proofs.lemmas.List.{append-nil}
use Rattle.fix_base.specs.Lists.{here, IsPrefixOf}
use Rattle.fix_base.specs.Fields.{Field}
use Rattle.fix_base.specs.Sealed.{sealed}
use Rattle.fix_base.specs.Shape.{IsFrame}
use Rattle.fix_base.specs.Stream.{UnreadBytes, Frame, frames, ends_in_soh}
use Rattle.fix_base.specs.Says.{fields_text}
use Rattle.fix_base.specs.Logon.{IsFirstLogon, Begun, Completes}
use Rattle.fix_base.specs.Session.{Identity, IsValidIdentity, mirrored}
use Rattle.fix_base.specs.End.{Entry, Admin, Push, Reset, ResetAsk, Confirm, End, folded, IsEntry}
use Rattle.fix_base.specs.Act as act
use Rattle.fix_base.specs.Payload.{field, IsEntryField, IsPersistentEntry}
use Rattle.fix_base.specs.Wrote as wrote
use Rattle.fix_base.specs.Wrote.{IsSealed, original_fields, AdminFields, IsOriginal, Wrote}
use Rattle.fix_base.specs.EndStep as steps
use Rattle.fix_base.specs.EndStep.{Role, Initiator, Acceptor, Answer, AskedReset, Confirmed, Connection, EndState, new_state, IsAsking, IsAskedReset, LogonRule}
use Rattle.fix_base.specs.Resets as resets
use Rattle.fix_base.specs.Resets.{EpochPeer, EpochPeers, new_epoch_peer, new_epoch_peers, still, opened_epoch_peer, wrote_epoch_peer, reset_epoch_peer, asking_epoch_peer, EpochStep, ResetEvent, Initiates, Accepts, ResetsRun}
use Rattle.fix_base.proofs.ListLemmas.{prefix_refl, Among-cons_cases}
use Rattle.fix_base.proofs.FramingLemmas.{front_frames}
use Rattle.fix_base.proofs.Runs.{frames-append}
use Rattle.fix_base.proofs.PlainFields.{IsPlainField, plain_fields}
use Rattle.fix_base.proofs.ShortFields.{clear_of, comp_id_clear, comp_id_short, IsShortField, short_fields}
use Rattle.fix_base.proofs.Seals.{sealed_is_frame, sealed_has_fields}
use Rattle.fix_base.proofs.WrittenLemmas.{original_is, original_number, seq_num_decimal, admin_fields}
use Rattle.fix_base.proofs.WholeLemmas.{push_grows}
use Rattle.fix_base.proofs.LetterLemmas.{clear_number, short_number, number_clear, number_short, at, at_epoch, at_clear}
use Rattle.fix_base.proofs.EpochAccepts.{stays}
use Rattle.fix_base.proofs.EpochShared.{confirm_state}
use Rattle.fix_base.proofs.EpochAsks.{ask_state}

-- ---- the Logon (35=A) of entry 1, with EncryptMethod (98), HeartBtInt (108) and ResetSeqNumFlag (141) = Y

abbrev pub rest : List Field
rest = field 98 (codes "0") ∷ field 108 (decimal 30) ∷ field 141 (codes "Y") ∷ []

-- entry 1 carries them
pub carried : AdminFields 0 65 rest
carried = wrote.logon 30 true

pub rest_fields : AllByRecursion IsEntryField rest
rest_fields = admin_fields carried

abbrev pub logon : Entry
logon = Admin 0 65 0

pub logon_kept : IsPersistentEntry logon
logon_kept = record { payload = record { time_fits = lit≤ tt; kind_known = refl; about_fits = lit< tt }; kept = λ e. omega (arith, e) }

abbrev pub fields : Identity → List Field
fields id = original_fields id (decimal 1) at (codes "A") rest

plain : (id : Identity) → IsValidIdentity id → AllByRecursion IsPlainField (fields id)
plain id valid = (
  record { first = lit≤ tt; last = lit≤ tt; no_soh = clear_of (λ b. nat_le 2 b) (codes "A") refl refl; no_length = refl },
  (
    record { first = lit≤ tt; last = lit≤ tt; no_soh = number_clear; no_length = refl },
    (
      record { first = lit≤ tt; last = lit≤ tt; no_soh = comp_id_clear id.sender valid.sender; no_length = refl },
      (
        record { first = lit≤ tt; last = lit≤ tt; no_soh = at_clear; no_length = refl },
        (
          record { first = lit≤ tt; last = lit≤ tt; no_soh = comp_id_clear id.target valid.target; no_length = refl },
          (
            record { first = lit≤ tt; last = lit≤ tt; no_soh = clear_of (λ b. nat_le 2 b) (codes "0") refl refl; no_length = refl },
            (
              record { first = lit≤ tt; last = lit≤ tt; no_soh = clear_number 30 (lit< tt); no_length = refl },
              (record { first = lit≤ tt; last = lit≤ tt; no_soh = clear_of (λ b. nat_le 2 b) (codes "Y") refl refl; no_length = refl }, tt),
            ),
          ),
        ),
      ),
    ),
  ),
)

short : (id : Identity) → IsValidIdentity id → AllByRecursion IsShortField (fields id)
short id valid = (
  record { last = lit≤ tt; short = lit≤ tt },
  (
    record { last = lit≤ tt; short = number_short },
    (
      record { last = lit≤ tt; short = comp_id_short id.sender valid.sender },
      (
        record { last = lit≤ tt; short = lit≤ tt },
        (
          record { last = lit≤ tt; short = comp_id_short id.target valid.target },
          (record { last = lit≤ tt; short = lit≤ tt }, (record { last = lit≤ tt; short = short_number 30 (lit< tt) }, (record { last = lit≤ tt; short = lit≤ tt }, tt))),
        ),
      ),
    ),
  ),
)

abbrev pub frame : Identity → List ℕ
frame id = sealed id.begin (fields_text (fields id))

pub frame_sealed : (id : Identity) → IsValidIdentity id → IsSealed id (fields id) (frame id)
frame_sealed id valid =
    let bound : length (fields_text (fields id)) ≤ 800 = short_fields (fields id) (short id valid) in
    record { spelled = refl; are = plain_fields (fields id) (plain id valid); short = omega arith }

pub is_frame : (id : Identity) → IsValidIdentity id → IsFrame (frame id)
is_frame id valid = sealed_is_frame id (fields id) (frame id) (original_is id (decimal 1) at (codes "A") rest rest_fields) (frame_sealed id valid)

is_first : (id : Identity) → IsValidIdentity id → IsFirstLogon (frame id)
is_first id valid = record {
  fields = fields id;
  has = sealed_has_fields id (fields id) (frame id) (original_is id (decimal 1) at (codes "A") rest rest_fields) (frame_sealed id valid);
  type = refl;
  flag = refl;
  number = original_number id (decimal 1) 1 at (codes "A") rest (seq_num_decimal 1 (lit≤ tt) (lit≤ tt)) rest_fields;
}

pub is_original : (id : Identity) → IsValidIdentity id → IsOriginal id 1 logon (frame id)
is_original id valid = record { type = codes "A"; at = at; rest = rest; carries = wrote.admin carried; sent_at = at_epoch; sealed_so = frame_sealed id valid }

pub begun : (id : Identity) → IsValidIdentity id → Begun IsFirstLogon (frame id)
begun id valid =
    let behind : UnreadBytes = record { may_mark = ends_in_soh (frame id); bytes = [] } in
    record { text = frame id; others = []; items = Frame (frame id) ∷ []; rest = behind; takes = (behind, record { is = (refl, is_frame id valid); spelled = sym (append-nil (frame id)); mark = refl }, refl); first = refl; is = is_first id valid }

-- ---- ends without entries, and with the Logon

abbrev pub empty : Bool → End
empty asked = record { out = []; stored = 1; since = Some 0; withheld = []; asked = asked }

abbrev pub with_logon : Bool → End
with_logon asked = folded (empty asked) (Push logon)

logon_entry : (asked : Bool) → IsEntry (with_logon asked).out 1 logon
logon_entry asked = record { before = []; after = []; is = refl; place = refl }

lawful : (id : Identity) (asked : Bool) → IsValidIdentity id → Wrote id (empty asked) (with_logon asked) (frame id)
lawful id asked valid = record {
  grew = push_grows (empty asked) logon;
  texts = frame id ∷ [];
  last = 1;
  writes = wrote.original 1 logon (lit≤ tt) (lit< tt) (logon_entry asked) (is_original id valid) wrote.done;
  front = record { rest = []; is = refl };
}

-- ---- the initiator

abbrev pub link : End → List ℕ → List ℕ → List Answer → Connection
link opened read written kept = record { opened = opened; read = read; written = written; base = 0; gave = []; kept = kept }

abbrev asks_state : Connection → End → EndState
asks_state c end = record { role = Initiator; end = end; expected = 1; handled = []; doubt = None; beside = []; offered = None; connection = Some c }

abbrev p1 : EpochPeer
p1 = asking_epoch_peer (new_epoch_peer Initiator) (ask_state (new_state Initiator) 0)

abbrev p2 : EpochPeer
p2 = opened_epoch_peer p1 (asks_state (link (empty true) [] [] []) (empty true)) 1 (Some 1)

abbrev p3 : EpochPeer
p3 = still p2 (asks_state (link (empty true) [] [] []) (with_logon true))

abbrev p4 : List ℕ → EpochPeer
p4 mine = wrote_epoch_peer p3 (asks_state (link (empty true) [] mine []) (with_logon true)) mine

abbrev p5 : List ℕ → List ℕ → EpochPeer
p5 mine theirs = still (p4 mine) (asks_state (link (empty true) theirs mine []) (with_logon true))

abbrev pub p6 : List ℕ → List ℕ → EpochPeer
p6 mine theirs = still (p5 mine theirs) (confirm_state (asks_state (link (empty true) theirs mine []) (with_logon true)) (link (empty true) theirs mine []))

-- ---- the acceptor

abbrev answers_state : Connection → End → EndState
answers_state c end = record { role = Acceptor; end = end; expected = 1; handled = []; doubt = None; beside = []; offered = None; connection = Some c }

abbrev q1 : EpochPeer
q1 = opened_epoch_peer (new_epoch_peer Acceptor) (answers_state (link (new_state Acceptor).end [] [] []) (new_state Acceptor).end) 1 (Some 0)

abbrev q2 : List ℕ → EpochPeer
q2 mine = still q1 (answers_state (link (new_state Acceptor).end mine [] []) (new_state Acceptor).end)

abbrev q3 : List ℕ → EpochPeer
q3 mine = reset_epoch_peer (q2 mine) (answers_state (link (empty false) mine [] (AskedReset ∷ [])) (empty false))

abbrev q4 : List ℕ → EpochPeer
q4 mine = still (q3 mine) (answers_state (link (empty false) mine [] (AskedReset ∷ [])) (with_logon false))

abbrev pub q5 : List ℕ → List ℕ → EpochPeer
q5 mine theirs = wrote_epoch_peer (q4 mine) (answers_state (link (empty false) mine theirs (AskedReset ∷ [])) (with_logon false)) theirs

was_asked : (mine : List ℕ) → Begun IsFirstLogon mine → IsAskedReset (q2 mine).state
was_asked mine b = record { connection = link (new_state Acceptor).end mine [] []; is_open = refl; silent = refl; unanswered = refl; logon = b }

none_before : (xs : List (List ℕ)) (t text : List ℕ) → IsPrefixOf (xs ++ text ∷ []) (t ∷ []) → xs ≡ []
none_before [] t text p = refl
none_before (x ∷ xs) t text p = let long = ap (λ (w : List (List ℕ)). length w) p.is in absurd (omega (arith, long, length-append ((x ∷ xs) ++ text ∷ []) p.rest, length-append xs (text ∷ [])))

answer_rule : (id : Identity) (mine : List ℕ) (valid : IsValidIdentity id) → LogonRule id (q4 mine).state (link (empty false) mine [] (AskedReset ∷ [])) (frame id)
answer_rule id mine valid = steps.answers (λ h. (let wrong = h.1 in cc)) (λ b. inr here) (λ text w l. one_frame text w)
  where
    one_frame : (text : List ℕ) (w : Completes [] (frame id) text) → frames w.before ≡ []
    one_frame text w =
        let among = front_frames (frame id ∷ []) (frame id) (w.before ++ Frame text ∷ []) w.rest (record { each = λ t k. elim (Among-cons_cases k) [ inl e ↦ subst IsFrame (sym e) (is_frame id valid) | inr none ↦ elim none [ ] ] }) (record { rest = []; is = refl }) w.takes in
        none_before (frames w.before) (frame id) text (subst (λ z. IsPrefixOf z (frame id ∷ [])) (frames-append w.before (Frame text ∷ [])) among)

-- ---- both

abbrev pub of_both : EpochPeer → EpochPeer → EpochPeers
of_both p q = record { initiator = p; acceptor = q }

-- what happens in it
abbrev pub resetting : Identity → List ResetEvent → List ResetEvent
resetting id events =
    Initiates (act.Kept (ResetAsk 0)) ∷ Initiates act.Opened ∷ Initiates (act.Kept (Push logon)) ∷ Initiates (act.Wrote (frame id))
    ∷ Accepts act.Opened ∷ Accepts (act.Read (frame id)) ∷ Accepts (act.Kept (Reset 0)) ∷ Accepts (act.Kept (Push logon)) ∷ Accepts (act.Wrote (frame (mirrored id)))
    ∷ Initiates (act.Read (frame (mirrored id))) ∷ Initiates (act.Kept Confirm) ∷ events

-- the two as they are then
abbrev pub reset_peers : Identity → EpochPeers
reset_peers id = of_both (p6 (frame id) (frame (mirrored id))) (q5 (frame id) (frame (mirrored id)))

-- and it is a run, whatever follows
pub shares_as : (id : Identity) {events : List ResetEvent} {w : EpochPeers} → IsValidIdentity id → IsValidIdentity (mirrored id) → ResetsRun id (reset_peers id) events w → ResetsRun id new_epoch_peers (resetting id events) w
shares_as id valid other later =
    let mine = frame id in
    let theirs = frame (mirrored id) in
    resets.initiates {w = new_epoch_peers} {p = p1} (act.Kept (ResetAsk 0)) (resets.asks 0 refl (record { certain = refl; row = steps.kept_ask 0 refl }))
    (resets.initiates {w = of_both p1 (new_epoch_peer Acceptor)} {p = p2} act.Opened (resets.opens_asking 1 (refl, refl) (lit< tt) (record { certain = refl; row = steps.opened (λ h. refl) }))
    (resets.initiates {w = of_both p2 (new_epoch_peer Acceptor)} {p = p3} (act.Kept (Push logon)) (resets.rests (act.Kept (Push logon)) tt logon_kept (record { certain = refl; row = steps.kept_push logon steps.adds }))
    (resets.initiates {w = of_both p3 (new_epoch_peer Acceptor)} {p = p4 mine} (act.Wrote mine) (resets.writes mine (record { certain = refl; row = steps.wrote mine (link (empty true) [] [] []) refl (lawful id true valid) (steps.asks mine logon (refl, refl) (logon_entry true) (is_original id valid) (is_first id valid) (prefix_refl mine)) }))
    (resets.accepts {w = of_both (p4 mine) (new_epoch_peer Acceptor)} {p = q1} act.Opened (resets.opens 1 (λ h. (let wrong = h.1 in cc)) (lit< tt) (record { certain = refl; row = steps.opened (λ h. refl) }))
    (resets.accepts {w = of_both (p4 mine) q1} {p = q2 mine} (act.Read mine) (resets.reads mine (link (new_state Acceptor).end [] [] []) refl (prefix_refl mine) (record { certain = refl; row = steps.read mine (link (new_state Acceptor).end [] [] []) refl }))
    (resets.accepts {w = of_both (p4 mine) (q2 mine)} {p = q3 mine} (act.Kept (Reset 0)) (resets.resets 0 refl (was_asked mine (begun id valid)) (record { certain = refl; row = steps.kept_reset 0 (link (new_state Acceptor).end mine [] []) AskedReset refl (stays (q2 mine).state (was_asked mine (begun id valid))) (steps.by_logon (was_asked mine (begun id valid))) }))
    (resets.accepts {w = of_both (p4 mine) (q3 mine)} {p = q4 mine} (act.Kept (Push logon)) (resets.rests (act.Kept (Push logon)) tt logon_kept (record { certain = refl; row = steps.kept_push logon steps.adds }))
    (resets.accepts {w = of_both (p4 mine) (q4 mine)} {p = q5 mine theirs} (act.Wrote theirs) (resets.writes theirs (record { certain = refl; row = steps.wrote theirs (link (empty false) mine [] (AskedReset ∷ [])) refl (lawful (mirrored id) false other) (answer_rule (mirrored id) mine other) }))
    (resets.initiates {w = of_both (p4 mine) (q5 mine theirs)} {p = p5 mine theirs} (act.Read theirs) (resets.reads theirs (link (empty true) [] mine []) refl (prefix_refl theirs) (record { certain = refl; row = steps.read theirs (link (empty true) [] mine []) refl }))
    (resets.initiates {w = of_both (p5 mine theirs) (q5 mine theirs)} {p = p6 mine theirs} (act.Kept Confirm) (resets.confirms refl (record { certain = refl; row = steps.kept_confirm (link (empty true) theirs mine []) refl (refl, refl) (begun (mirrored id) other) })) later))))))))))
