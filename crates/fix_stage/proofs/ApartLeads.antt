-- A flush of a session that writes nothing is a run of a lawful end.
use Rattle.std.proofs.Common.{◌≡◌, ◌⊎◌, ℕ, ◌+◌, ◌==◌, List, [], ◌∷◌, length, length-append, Bool}
use Rattle.std.proofs.Common.{Option, Some, None, Result, Err, refl, ◌∙◌, ap, arith}
use Rattle.std.specs.Prelude.{⊤}
use Rattle.fix_base.specs.declared.identity.Identity.{Identity}
use Rattle.fix_base.specs.End.{End}
use Rattle.fix_base.specs.EndStep.{Connection, EndState, Chain}
use Rattle.fix_outside.specs.declared.outside.KeepFault.TheVariants as keep
use Rattle.fix_outside.specs.Calls.{Call, Keep}
use Rattle.fix_base.proofs.FollowsLemmas.{linked}
use Rattle.fix_stage.specs.Combine as combine
use Rattle.fix_stage.specs.Combine.{Each}
use Rattle.fix_stage.specs.Sender.{Sender, StageFault, emptied}
use Rattle.fix_stage.specs.Flush as flush
use Rattle.fix_stage.specs.Flush.{record_of, is_due, WroteOne, Flushed, sender_kept}
use Rattle.fix_stage.specs.Lawful.{IsCertain, IsInDoubt, IsAhead, Apart, AreUnwritten, Bare, LawfulRunTo, After, AfterApart}
use Rattle.fix_stage.proofs.LeadsLemmas.{leads_nowhere, leads_kept, leads_call}
use Rattle.fix_stage.proofs.ChainLemmas.{plain}
use Rattle.fix_stage.proofs.PlainLemmas.{still_free}
use Rattle.fix_stage.proofs.KeepLeads.{chain_of, chain_expected, numbered, kept_run, record_same, lost_at, in_doubt, many_stored, many_out}

-- a connection that nobody looks at
abbrev no_connection : End → Connection
no_connection end = record { opened = end; read = []; written = []; base = 0; gave = []; kept = [] }

-- what is staged is added entry by entry
ahead_plain : (b : Sender) (e : EndState) → Apart b e → IsAhead b.numbers.expected b.stage.entries e (no_connection e.end)
ahead_plain b e h =
    let p = plain b.stage.entries e in
    record { to = p.to; run = p.run; expected = p.expected ∙ h.here; base = omega arith }

-- nothing is written
no_writes : (frames : List (Option (List ℕ))) (more : List Call) (r : Result ⊤ StageFault) (to : Sender) (e : EndState) → AreUnwritten frames → Each WroteOne tt frames more r tt → Bare to e → (id : Identity) → LawfulRunTo id e more (After AfterApart Bare r to)
no_writes [] more r to e h combine.none b id = leads_nowhere id e (Bare to) b
no_writes (None ∷ frames) more r to e h (combine.ends d) b id = elim d [ ]
no_writes (None ∷ frames) more r to e h (combine.goes {more = others} flush.no_frame rest) b id = no_writes frames others r to e h rest b id
no_writes (Some text ∷ frames) more r to e h d b id = absurd h

pub apart_flushed : (id : Identity) (k : ℕ) (b : Sender) (calls : List Call) (r : Result ⊤ StageFault) (to : Sender) → (k ≡ 0) ⊎ (k ≡ b.numbers.expected) → Flushed k b calls r to → (e : EndState) → Apart b e → LawfulRunTo id e calls (After AfterApart Bare r to)
apart_flushed id k b calls r to which (flush.nothing_due due) e f = leads_nowhere id e (Bare (emptied b)) (record { certain = f.certain; here = f.here; empty = refl })
apart_flushed id k b calls r to which (flush.not_kept due flush.keep_memory) e f = leads_call id e (Keep (record_of b.stage.entries k) (Err keep.OutOfMemory)) [] (IsCertain to.numbers) refl (λ held s. s.stores)
    (λ so. leads_nowhere id e (IsCertain to.numbers) f.certain)
apart_flushed id k b calls r to which (flush.not_kept due flush.keep_lost) e f =
    lost_at id b.numbers.expected k b.stage.entries e (no_connection e.end) (ahead_plain b e f) (IsInDoubt to) f.certain.doubt which due (k == 0) refl
    (λ e' end role doubt closed. in_doubt b.numbers.expected k b to e e' refl refl due which f.certain.kept end role doubt closed)
apart_flushed id k b calls r to which (flush.kept_and_written {more = more} due flush.kept w) e f = by (k == 0) refl
  where
    a : IsAhead b.numbers.expected b.stage.entries e (no_connection e.end)
    a = ahead_plain b e f

    by : (t : Bool) → (k == 0) ≡ t → LawfulRunTo id e calls (After AfterApart Bare r to)
    by t z =
        let es = b.stage.entries in
        let e' : EndState = chain_of k e a.to t in
        let chain : Chain e es k e' = numbered b.numbers.expected k es e (no_connection e.end) a which t z in
        let l = linked chain f.certain.doubt in
        let bare : Bare to e' = record {
          certain = record {
            doubt = l.certain;
            kept = record {
              stored = ap (λ (x : End). x.stored) l.end ∙ many_stored e.end es k b.numbers.stored_expected f.certain.kept.stored;
              out = ap (λ (x : End). length x.out) l.end ∙ ap length (many_out e.end es k) ∙ length-append e.end.out es ∙ ap (λ m. m + length es) f.certain.kept.out;
              free = still_free e e' l.block.role l.block.asked f.certain.kept.free;
            };
          };
          here = chain_expected k e a.to t ∙ a.expected;
          empty = refl;
        } in
        leads_kept id e e' (record_of es k) more (After AfterApart Bare r to) (kept_run id es k e e' t z due f.certain.doubt chain) (l.end ∙ record_same e.end es k t z due)
        (no_writes b.stage.frames more r to e' f.unwritten w bare id)
