-- Staging a message is a run of a lawful end: flushes, and nothing else.
use Rattle.std.proofs.Common.{◌≡◌, ◌⊎◌, inl, inr, ℕ, ◌+◌, ◌≤◌, List, [], ◌∷◌, ◌++◌, length, length-append, drop, Bool, true, false, ◌==◌, if◌then◌else◌}
use Rattle.std.proofs.Common.{Option, Some, None, Result, Ok, Err, refl, sym, ◌∙◌, ap, subst, arith}
use Rattle.std.specs.Prelude.{⊤}
use Rattle.std.proofs.lemmas.List.{drop-append-le}
use Rattle.fix_base.specs.Lists.{Among, here}
use Rattle.fix_base.specs.declared.identity.Identity.{Identity}
use Rattle.fix_base.specs.Session.{IsValidIdentity}
use Rattle.fix_base.specs.declared.entry.Entry.{Entry}
use Rattle.fix_base.specs.declared.entry.Entry.TheVariants.{Admin}
use Rattle.fix_base.specs.End.{folded, REJECT}
use Rattle.fix_base.specs.declared.entry.Record.TheVariants.{Push}
use Rattle.fix_base.specs.EndStep as steps
use Rattle.fix_base.specs.EndStep.{Answer, Handling, Connection, EndState, IsAsking, IsBlocked, Rejects, Pushed, Chain, Move, Grew, first_app}
use Rattle.fix_base.specs.Message.{Message}
use Rattle.fix_base.specs.Says.{Shows}
use Rattle.fix_outside.specs.Calls.{Call}
use Rattle.fix_base.proofs.ListLemmas.{Among-append_right}
use Rattle.fix_base.proofs.FollowsLemmas.{linked}
use Rattle.fix_fields.specs.Drafted.{DraftText, draft_body}
use Rattle.fix_base.specs.declared.entry.By.TheVariants.{Caller}
use Rattle.fix_stage.specs.Combine.{AndThen}
use Rattle.fix_stage.specs.Stage.{Staged, no_stage, size_in_stage}
use Rattle.fix_stage.specs.Sender.{Sender, StageFault, next_number, with_numbers, with_expected, due_number}
use Rattle.fix_stage.specs.declared.fault.StageFault.TheVariants as fault
use Rattle.fix_stage.specs.Flush.{Flushed, Settled}
use Rattle.fix_stage.specs.Outgoing as outgoings
use Rattle.fix_stage.specs.Outgoing.{Outgoing, draft_outgoing, IsOutgoing, IsStagedFrame}
use Rattle.fix_stage.specs.Staging as staging
use Rattle.fix_stage.specs.Staging.{Numbered, Roomy, Put, Staging, with_staged, MakesAndStages, StagesPending}
use Rattle.fix_stage.specs.Lawful.{IsCertain, MayTellReset, AreOriginals, AsksNoReset, IsAhead}
use Rattle.fix_stage.specs.Lawful.{Fits, Level, Apart, AreUnwritten, Bare, After, AfterFault, AfterApart, LeadsFrom}
use Rattle.fix_stage.proofs.SendingLemmas.{Flushed-empty, Flushed-number}
use Rattle.fix_stage.proofs.LeadsLemmas.{leads_nowhere, leads_weaker, HasNoDoubt, then_leads}
use Rattle.fix_stage.proofs.ChainLemmas.{level_fits}
use Rattle.fix_stage.proofs.FlushLeads.{flushed_leads}
use Rattle.fix_stage.proofs.ApartLeads.{apart_flushed}
use Rattle.fix_stage.proofs.OutgoingLemmas.{frame_original}
use Rattle.fix_stage.proofs.PlainLemmas.{app_free, still_free}
use Rattle.fix_stage.proofs.WriteLeads.{originals_weaker}

-- a session's value with room for its numbers
abbrev Numbered_ : (Sender → EndState → Type 0) → Sender → EndState → Type 0
Numbered_ P b e = P b e × (next_number b ≤ 999999999)

-- ---- the parts of a staging, from and to P. After a flush it has Q0, which is enough for P

module _ (id : Identity) (Failed : StageFault → Sender → EndState → Type 0) (P Q0 : Sender → EndState → Type 0)
    (up : (b : Sender) (e : EndState) → Q0 b e → P b e) (certain : HasNoDoubt P)
    (memory : (b : Sender) (e : EndState) → P b e → Failed fault.OutOfMemory b e)
    (spent : (b : Sender) (e : EndState) → b.stage ≡ no_stage → Q0 b e → Failed fault.NumbersSpent b e)
    (flushed : LeadsFrom id Failed P (Flushed 0) Q0) where
  -- with the number that was free before it
  free_after : (b : Sender) (calls : List Call) (r : Result ⊤ StageFault) (to : Sender) → next_number b ≤ 999999999 → Flushed 0 b calls r to → (e : EndState) → After Failed Q0 r to e → After Failed (Numbered_ P) r to e
  free_after b calls (Ok x) to free d e h = (up to e h, (let same = Flushed-number 0 b calls to d in omega (arith, same, free)))
  free_after b calls (Err f) to free d e h = h

  numbered_leads : LeadsFrom id Failed P Numbered (Numbered_ P)
  numbered_leads b calls r to (staging.has_number h) e p = leads_nowhere id e (Numbered_ P b) (p, h)
  numbered_leads b calls r to (staging.spent h d) e p =
      leads_weaker id e calls (Q0 to) (Failed fault.NumbersSpent to) (λ e' l. spent to e' (Flushed-empty 0 b calls (Ok tt) to d) l) (flushed b calls (Ok tt) to d e p)
  numbered_leads b calls r to (staging.spent_fault {e = f} h d) e p = flushed b calls (Err f) to d e p

  roomy_leads : (size : ℕ) → LeadsFrom id Failed (Numbered_ P) (Roomy size) (Numbered_ P)
  roomy_leads size b calls r to (staging.fits h) e p = leads_nowhere id e (Numbered_ P b) p
  roomy_leads size b calls r to (staging.full h d) e p =
      leads_weaker id e calls (After Failed Q0 r to) (After Failed (Numbered_ P) r to) (λ e' h. free_after b calls r to p.1 d e' h) (flushed b calls r to d e p.0)

  certain_numbered : HasNoDoubt (Numbered_ P)
  certain_numbered b e h = certain b e h.0

  -- a staging leads where its last part does
  pub staging_leads : (m : Outgoing) (Q : Sender → EndState → Type 0) → LeadsFrom id Failed (Numbered_ P) (Put id m) Q → LeadsFrom id Failed P (Staging id m) Q
  staging_leads m Q one =
      then_leads id Failed P (Numbered_ P) Q Numbered (AndThen (Roomy (size_in_stage m.entry)) (Put id m)) certain_numbered numbered_leads
      (then_leads id Failed (Numbered_ P) (Numbered_ P) Q (Roomy (size_in_stage m.entry)) (Put id m) certain_numbered (roomy_leads (size_in_stage m.entry)) one)

  pub makes_leads : (m : Outgoing) (Q : Sender → EndState → Type 0) → LeadsFrom id Failed (Numbered_ P) (Put id m) Q → LeadsFrom id Failed P (MakesAndStages id m) Q
  makes_leads m Q one b calls r to (staging.made d) e p = staging_leads m Q one b calls r to d e p
  makes_leads m Q one b calls r to staging.not_made e p = leads_nowhere id e (Failed fault.OutOfMemory b) (memory b e p)

-- the same on the session's connection, from and to what is between being level and being in step
module _ (id : Identity) (read : List ℕ) (resets : List Answer) (given : List ℕ) (n : ℕ) (P : Sender → EndState → Type 0)
    (up : (b : Sender) (e : EndState) → Level id read resets given n b e → P b e)
    (down : (b : Sender) (e : EndState) → P b e → Fits id read resets given n b e) where
  down_flushed : LeadsFrom id (AfterFault id read resets given n) P (Flushed 0) (Level id read resets given n)
  down_flushed b calls r to d e p = flushed_leads id read resets given n 0 b calls r to (inl refl) d e (down b e p)

  pub staging_on : (m : Outgoing) (Q : Sender → EndState → Type 0) → LeadsFrom id (AfterFault id read resets given n) (Numbered_ P) (Put id m) Q → LeadsFrom id (AfterFault id read resets given n) P (Staging id m) Q
  staging_on m Q one =
      staging_leads id (AfterFault id read resets given n) P (Level id read resets given n) up (λ b e p. (down b e p).certain.doubt) (λ b e p. (down b e p).certain) (λ b e s l. (l, s)) down_flushed m Q one

  pub makes_on : (m : Outgoing) (Q : Sender → EndState → Type 0) → LeadsFrom id (AfterFault id read resets given n) (Numbered_ P) (Put id m) Q → LeadsFrom id (AfterFault id read resets given n) P (MakesAndStages id m) Q
  makes_on m Q one =
      makes_leads id (AfterFault id read resets given n) P (Level id read resets given n) up (λ b e p. (down b e p).certain.doubt) (λ b e p. (down b e p).certain) (λ b e s l. (l, s)) down_flushed m Q one

-- one that has a flush first
pub flush_fits : (id : Identity) (read : List ℕ) (resets : List Answer) (given : List ℕ) (n : ℕ) → LeadsFrom id (AfterFault id read resets given n) (Fits id read resets given n) (Flushed 0) (Level id read resets given n)
flush_fits id read resets given n b calls r to d e f = flushed_leads id read resets given n 0 b calls r to (inl refl) d e f

-- ---- one entry more

-- with one frame more they are originals still
originals_push : (id : Identity) (Told : Type 0) (last : ℕ) (es : List Entry) (frames : List (Option (List ℕ))) (x : Entry) (frame : Option (List ℕ)) → AreOriginals id Told last es frames → AreOriginals id ⊥ (last + length es) (x ∷ []) (frame ∷ []) → AreOriginals id Told last (es ++ x ∷ []) (frames ++ frame ∷ [])
originals_push id Told last [] [] x frame are one =
    originals_weaker id ⊥ Told (λ no. absurd no) last (x ∷ []) (frame ∷ []) (subst (λ n. AreOriginals id ⊥ n (x ∷ []) (frame ∷ [])) (let same : last + 0 ≡ last = omega arith in same) one)
originals_push id Told last [] (f ∷ frames) x frame are one = absurd are
originals_push id Told last (y ∷ es) [] x frame are one = absurd are
originals_push id Told last (y ∷ es) (None ∷ frames) x frame are one =
    originals_push id Told (last + 1) es frames x frame are (subst (λ n. AreOriginals id ⊥ n (x ∷ []) (frame ∷ [])) (let same : last + length (y ∷ es) ≡ last + 1 + length es = omega arith in same) one)
originals_push id Told last (y ∷ es) (Some text ∷ frames) x frame are one =
    (are.0, originals_push id ⊥ (last + 1) es frames x frame are.1 (subst (λ n. AreOriginals id ⊥ n (x ∷ []) (frame ∷ [])) (let same : last + length (y ∷ es) ≡ last + 1 + length es = omega arith in same) one))

-- the frame of a message is the original of its entry
frame_is : (id : Identity) (last : ℕ) (m : Outgoing) (frame : Option (List ℕ)) → IsValidIdentity id → AsksNoReset id m → last + 1 ≤ 999999999 → IsOutgoing m → IsStagedFrame id (last + 1) m frame → AreOriginals id ⊥ last (m.entry ∷ []) (frame ∷ [])
frame_is id last m frame valid free fits is (outgoings.unwritten h) = tt
frame_is id last m frame valid free fits is (outgoings.framed text h f) =
    (record { fits = fits; original = frame_original id (last + 1) m text valid fits is f; plain = inl (free (last + 1) text fits f) }, tt)

pub staged_originals : (id : Identity) (Told : Type 0) (b : Sender) (m : Outgoing) (frame : Option (List ℕ)) → IsValidIdentity id → AsksNoReset id m → next_number b ≤ 999999999 → IsOutgoing m → IsStagedFrame id (next_number b) m frame → AreOriginals id Told b.numbers.last b.stage.entries b.stage.frames → AreOriginals id Told b.numbers.last (b.stage.entries ++ m.entry ∷ []) (b.stage.frames ++ frame ∷ [])
staged_originals id Told b m frame valid free fits is f are =
    originals_push id Told b.numbers.last b.stage.entries b.stage.frames m.entry frame are (frame_is id (b.numbers.last + length b.stage.entries) m frame valid free fits is f)

-- a message is staged where the end is level, as a draft is before the read of its turn
pub put_level : (id : Identity) (read : List ℕ) (resets : List Answer) (given : List ℕ) (n : ℕ) (m : Outgoing) → IsValidIdentity id → (IsOutgoing m → AsksNoReset id m) → LeadsFrom id (AfterFault id read resets given n) (Numbered_ (Level id read resets given n)) (Put id m) (Level id read resets given n)
put_level id read resets given n m valid free b calls r to (staging.put frame is f) e p =
    let l = p.0 in
    leads_nowhere id e (Level id read resets given n to) (record {
      certain = l.certain;
      on = l.on;
      here = l.here;
      base = l.base;
      expected = l.expected;
      frames = staged_originals id (MayTellReset l.on.connection) b m frame valid (free is) p.1 is f l.frames;
    })
put_level id read resets given n m valid free b calls r to staging.put_memory e p = leads_nowhere id e (IsCertain to.numbers) p.0.certain

-- one entry more of a chain
pub chain_push : (x : Entry) {s s' s'' : EndState} {es : List Entry} {k : ℕ} → Chain s es k s' → k ≡ 0 → Pushed s' x s'' → Chain s (es ++ x ∷ []) 0 s''
chain_push x steps.ends zeroed one = steps.push one steps.ends
chain_push x (steps.expects k some at) zeroed one = absurd (omega (arith, some, zeroed))
chain_push x (steps.push pushed chain) zeroed one = steps.push pushed (chain_push x chain zeroed one)
chain_push x (steps.pass m chain) zeroed one = steps.pass m (chain_push x chain zeroed one)

-- one move more
pub chain_move : {s s' s'' : EndState} {es : List Entry} {k : ℕ} → Chain s es k s' → k ≡ 0 → Move s' s'' → Chain s es 0 s''
chain_move steps.ends zeroed m = steps.pass m steps.ends
chain_move (steps.expects k some at) zeroed m = absurd (omega (arith, some, zeroed))
chain_move (steps.push pushed chain) zeroed m = steps.push pushed (chain_move chain zeroed m)
chain_move (steps.pass p chain) zeroed m = steps.pass p (chain_move chain zeroed m)

-- the end ahead, with one entry more by this push
abbrev pub put_ahead : (id : Identity) (read : List ℕ) (resets : List Answer) (given : List ℕ) (n : ℕ) (m : Outgoing) (frame : Option (List ℕ)) (b : Sender) (e : EndState) (f : Fits id read resets given n b e) (s : EndState) → IsValidIdentity id → AsksNoReset id m → next_number b ≤ 999999999 → IsOutgoing m → IsStagedFrame id (next_number b) m frame → Pushed f.ahead.to m.entry s → s.expected ≡ n → f.on.connection.base ≤ length s.handled → Fits id read resets given n (with_staged b m frame) e
put_ahead id read resets given n m frame b e f s valid free fits is shown one expected base = record {
  certain = f.certain;
  on = f.on;
  ahead = record { to = s; run = chain_push m.entry f.ahead.run refl one; expected = expected; base = base };
  expected = f.expected;
  frames = staged_originals id (MayTellReset f.on.connection) b m frame valid free fits is shown f.frames;
}

-- a message is staged in the middle of a turn
pub put_fits : (id : Identity) (read : List ℕ) (resets : List Answer) (given : List ℕ) (n : ℕ) (m : Outgoing) → IsValidIdentity id → (IsOutgoing m → AsksNoReset id m) → LeadsFrom id (AfterFault id read resets given n) (Numbered_ (Fits id read resets given n)) (Put id m) (Fits id read resets given n)
put_fits id read resets given n m valid free b calls r to (staging.put frame is f) e p =
    let a = p.0.ahead in
    leads_nowhere id e (Fits id read resets given n to)
    (put_ahead id read resets given n m frame b e p.0 (record a.to { end = folded a.to.end (Push m.entry) }) valid (free is) p.1 is f steps.adds a.expected a.base)
put_fits id read resets given n m valid free b calls r to staging.put_memory e p = leads_nowhere id e (IsCertain to.numbers) p.0.certain

fits_self : (id : Identity) (read : List ℕ) (resets : List Answer) (given : List ℕ) (n : ℕ) (b : Sender) (e : EndState) → Fits id read resets given n b e → Fits id read resets given n b e
fits_self id read resets given n b e f = f

level_self : (id : Identity) (read : List ℕ) (resets : List Answer) (given : List ℕ) (n : ℕ) (b : Sender) (e : EndState) → Level id read resets given n b e → Level id read resets given n b e
level_self id read resets given n b e l = l

-- ---- stagings

-- an answer
pub staged_fits : (id : Identity) (read : List ℕ) (resets : List Answer) (given : List ℕ) (n : ℕ) (m : Outgoing) → IsValidIdentity id → (IsOutgoing m → AsksNoReset id m) → LeadsFrom id (AfterFault id read resets given n) (Fits id read resets given n) (Staging id m) (Fits id read resets given n)
staged_fits id read resets given n m valid free =
    staging_on id read resets given n (Fits id read resets given n) (level_fits id read resets given n) (fits_self id read resets given n) m (Fits id read resets given n) (put_fits id read resets given n m valid free)

-- one whose entry is made first
pub made_level : (id : Identity) (read : List ℕ) (resets : List Answer) (given : List ℕ) (n : ℕ) (m : Outgoing) → IsValidIdentity id → (IsOutgoing m → AsksNoReset id m) → LeadsFrom id (AfterFault id read resets given n) (Level id read resets given n) (MakesAndStages id m) (Level id read resets given n)
made_level id read resets given n m valid free =
    makes_on id read resets given n (Level id read resets given n) (level_self id read resets given n) (level_fits id read resets given n) m (Level id read resets given n) (put_level id read resets given n m valid free)

-- no frame of a draft asks for a reset
pub draft_free : (id : Identity) (time : ℕ) (d : DraftText) (written : Bool) → IsValidIdentity id → IsOutgoing (draft_outgoing time d written) → AsksNoReset id (draft_outgoing time d written)
draft_free id time d written valid is n text fits f =
    app_free id n time Caller (draft_body d) text (frame_original id n (draft_outgoing time d written) text valid fits is f)

-- the draft in hand
pub pending_leads : (id : Identity) (read : List ℕ) (resets : List Answer) (given : List ℕ) (n : ℕ) → IsValidIdentity id → LeadsFrom id (AfterFault id read resets given n) (Level id read resets given n) (StagesPending id) (Level id read resets given n)
pending_leads id read resets given n valid b calls r to (staging.empty h) e l = leads_nowhere id e (Level id read resets given n b) l
pending_leads id read resets given n valid b calls r to (staging.draft_memory d h) e l = leads_nowhere id e (IsCertain b.numbers) l.certain
pending_leads id read resets given n valid b calls r to (staging.not_staged {e = f} d h k) e l =
    made_level id read resets given n (draft_outgoing b.numbers.reading d true) valid (draft_free id b.numbers.reading d true valid) b calls (Err f) to k e l
pending_leads id read resets given n valid b calls r to (staging.draft_staged {to = mid} d h k) e l =
    leads_weaker id e calls (Level id read resets given n mid) (Level id read resets given n to)
    (λ e' q. record { certain = q.certain; on = q.on; here = q.here; base = q.base; expected = q.expected; frames = q.frames })
    (made_level id read resets given n (draft_outgoing b.numbers.reading d true) valid (draft_free id b.numbers.reading d true valid) b calls (Ok tt) mid k e l)

-- ---- the flush at the end of a turn

due_is : (b : Sender) (n : ℕ) → b.numbers.expected ≡ n → (due_number b.numbers ≡ 0) ⊎ (due_number b.numbers ≡ n)
due_is b n h = by (b.numbers.stored_expected == b.numbers.expected)
  where
    by : (t : Bool) → ((if t then 0 else b.numbers.expected) ≡ 0) ⊎ ((if t then 0 else b.numbers.expected) ≡ n)
    by true = inl refl
    by false = inr h

-- of a session on its connection
pub settled_leads : (id : Identity) (read : List ℕ) (resets : List Answer) (given : List ℕ) (n : ℕ) → LeadsFrom id (AfterFault id read resets given n) (Fits id read resets given n) Settled (Level id read resets given n)
settled_leads id read resets given n b calls r to d e f = flushed_leads id read resets given n (due_number b.numbers) b calls r to (due_is b n f.expected) d e f

-- and of one that writes no more
pub settled_apart : (id : Identity) → LeadsFrom id AfterApart Apart Settled Bare
settled_apart id b calls r to d e f = apart_flushed id (due_number b.numbers) b calls r to (due_is b b.numbers.expected refl) d e f

-- ---- a session that writes nothing, as one with no connection

pub flush_apart : (id : Identity) → LeadsFrom id AfterApart Apart (Flushed 0) Bare
flush_apart id b calls r to d e f = apart_flushed id 0 b calls r to (inl refl) d e f

pub bare_apart : (b : Sender) (e : EndState) → Bare b e → Apart b e
bare_apart b e h = record { certain = h.certain; here = h.here; unwritten = subst (λ (s : Staged). AreUnwritten s.frames) (sym h.empty) tt }

unwritten_push : (frames : List (Option (List ℕ))) → AreUnwritten frames → AreUnwritten (frames ++ None ∷ [])
unwritten_push [] h = tt
unwritten_push (None ∷ frames) h = unwritten_push frames h
unwritten_push (Some text ∷ frames) h = absurd h

put_apart : (id : Identity) (m : Outgoing) → m.written ≡ false → LeadsFrom id AfterApart (Numbered_ Apart) (Put id m) Apart
put_apart id m kept_only b calls r to (staging.put frame is (outgoings.unwritten h)) e p =
    leads_nowhere id e (Apart to) (record { certain = p.0.certain; here = p.0.here; unwritten = unwritten_push b.stage.frames p.0.unwritten })
put_apart id m kept_only b calls r to (staging.put frame is (outgoings.framed text h f)) e p = absurd (let both : true ≡ false = sym h ∙ kept_only in cc)
put_apart id m kept_only b calls r to staging.put_memory e p = leads_nowhere id e (IsCertain to.numbers) p.0.certain

-- a message that isn't written
pub made_apart : (id : Identity) (m : Outgoing) → m.written ≡ false → LeadsFrom id AfterApart Apart (MakesAndStages id m) Apart
made_apart id m kept_only =
    makes_leads id AfterApart Apart Bare bare_apart (λ b e p. p.certain.doubt) (λ b e p. p.certain) (λ b e s h. h) (flush_apart id) m Apart (put_apart id m kept_only)

-- ---- counting

-- the end ahead passes a message: another number is expected then
pub counted : (id : Identity) (read : List ℕ) (resets : List Answer) (given : List ℕ) (n k : ℕ) (b : Sender) (e : EndState) (f : Fits id read resets given n b e) → Move f.ahead.to (record f.ahead.to { expected = k }) → Fits id read resets given k (with_numbers b (with_expected b.numbers k)) e
counted id read resets given n k b e f m = record {
  certain = record { doubt = f.certain.doubt; kept = record { stored = f.certain.kept.stored; out = f.certain.kept.out; free = f.certain.kept.free } };
  on = f.on;
  ahead = record { to = record f.ahead.to { expected = k }; run = chain_move f.ahead.run refl m; expected = refl; base = f.ahead.base };
  expected = refl;
  frames = f.frames;
}

-- an end ahead has what the end has, and is on its connection
pub record AheadSeen (e to : EndState) (c : Connection) : Type 0 where
  pub doubt : to.doubt ≡ None
  pub free : (IsAsking e → ⊥) → IsAsking to → ⊥
  pub connection : to.connection ≡ Some c

pub ahead_seen : (id : Identity) (read : List ℕ) (resets : List Answer) (given : List ℕ) (n : ℕ) (b : Sender) (e : EndState) (f : Fits id read resets given n b e) → AheadSeen e f.ahead.to f.on.connection
ahead_seen id read resets given n b e f =
    let l = linked f.ahead.run f.certain.doubt in record { doubt = l.certain; free = still_free e f.ahead.to l.block.role l.block.asked; connection = l.connection ∙ f.on.is_open }

-- what doesn't change the numbers that are kept or expected, nor what is staged, leaves an end in step
pub same_fits : (id : Identity) (read : List ℕ) (resets : List Answer) (given : List ℕ) (n : ℕ) (b b' : Sender) (e : EndState) → b'.numbers.expected ≡ b.numbers.expected → b'.numbers.stored_expected ≡ b.numbers.stored_expected → b'.numbers.last ≡ b.numbers.last → b'.stage ≡ b.stage → Fits id read resets given n b e → Fits id read resets given n b' e
same_fits id read resets given n b b' e expected stored last stage f = record {
  certain = record { doubt = f.certain.doubt; kept = record { stored = f.certain.kept.stored ∙ sym stored; out = f.certain.kept.out ∙ sym last; free = f.certain.kept.free } };
  on = f.on;
  ahead = subst (λ (s : Staged). IsAhead n s.entries e f.on.connection) (sym stage) f.ahead;
  expected = expected ∙ f.expected;
  frames = subst (λ (s : Staged). AreOriginals id (MayTellReset f.on.connection) b'.numbers.last s.entries s.frames) (sym stage)
      (subst (λ m. AreOriginals id (MayTellReset f.on.connection) m b.stage.entries b.stage.frames) (sym last) f.frames);
}

pub same_level : (id : Identity) (read : List ℕ) (resets : List Answer) (given : List ℕ) (n : ℕ) (b b' : Sender) (e : EndState) → b'.numbers.expected ≡ b.numbers.expected → b'.numbers.stored_expected ≡ b.numbers.stored_expected → b'.numbers.last ≡ b.numbers.last → b'.stage ≡ b.stage → Level id read resets given n b e → Level id read resets given n b' e
same_level id read resets given n b b' e expected stored last stage f = record {
  certain = record { doubt = f.certain.doubt; kept = record { stored = f.certain.kept.stored ∙ sym stored; out = f.certain.kept.out ∙ sym last; free = f.certain.kept.free } };
  on = f.on;
  here = f.here;
  base = f.base;
  expected = expected ∙ f.expected;
  frames = subst (λ (s : Staged). AreOriginals id (MayTellReset f.on.connection) b'.numbers.last s.entries s.frames) (sym stage)
      (subst (λ m. AreOriginals id (MayTellReset f.on.connection) m b.stage.entries b.stage.frames) (sym last) f.frames);
}

-- ---- rejecting

-- the message of this number was rejected, by an entry that is staged
pub record Rejected (id : Identity) (read : List ℕ) (resets : List Answer) (given : List ℕ) (n : ℕ) (b : Sender) (e : EndState) : Type 0 where
  pub fits : Fits id read resets given n b e
  pub grew : Grew fits.on.connection fits.ahead.to.handled n

-- what was read says a message of this number, first with this body
pub record WasShown (read : List ℕ) (n : ℕ) (h : Handling) : Type 0 where
  pub messages : List Message
  pub shows : Shows read messages
  pub first : first_app n messages ≡ Some h
  pub number : h.number ≡ n

pub put_reject : (id : Identity) (read : List ℕ) (resets : List Answer) (given : List ℕ) (n time : ℕ) (h : Handling) (m : Outgoing) → m.entry ≡ Admin time REJECT n → IsValidIdentity id → (IsOutgoing m → AsksNoReset id m) → WasShown read n h
    → ((e : EndState) → (f : Connection) → (IsAsking e → ⊥) → e.connection ≡ Some f → f.read ≡ read → f.kept ≡ resets → IsBlocked e → ⊥)
    → LeadsFrom id (AfterFault id read resets given n) (Numbered_ (Fits id read resets given n)) (Put id m) (Rejected id read resets given n)
put_reject id read resets given n time h m entry valid free shown unblocked b calls r to (staging.put frame is f) e p =
    let a = p.0.ahead in
    let c = p.0.on.connection in
    let seen = ahead_seen id read resets given n b e p.0 in
    let s : EndState = record a.to { end = folded a.to.end (Push m.entry); handled = a.to.handled ++ h ∷ [] } in
    let rejects : Rejects a.to m.entry h = record {
      time = time;
      is = entry ∙ ap (λ k. Admin time REJECT k) (sym a.expected);
      connection = c;
      is_open = seen.connection;
      messages = shown.messages;
      shows = subst (λ l. Shows l shown.messages) (sym p.0.on.reads) shown.shows;
      first = ap (λ k. first_app k shown.messages) a.expected ∙ shown.first;
    } in
    let one : Pushed a.to m.entry s = steps.rejects h (unblocked a.to c (seen.free p.0.certain.kept.free) seen.connection p.0.on.reads p.0.on.keeps) rejects in
    leads_nowhere id e (Rejected id read resets given n to) (record {
      fits = put_ahead id read resets given n m frame b e p.0 s valid (free is) p.1 is f one a.expected (omega (arith, a.base, length-append a.to.handled (h ∷ [])));
      grew = record {
        item = h;
        among = subst (λ w. Among h w) (sym (drop-append-le c.base a.to.handled (h ∷ []) a.base)) (Among-append_right (drop c.base a.to.handled) here);
        is = shown.number;
      };
    })
put_reject id read resets given n time h m entry valid free shown unblocked b calls r to staging.put_memory e p = leads_nowhere id e (IsCertain to.numbers) p.0.certain

pub staged_reject : (id : Identity) (read : List ℕ) (resets : List Answer) (given : List ℕ) (n time : ℕ) (h : Handling) (m : Outgoing) → m.entry ≡ Admin time REJECT n → IsValidIdentity id → (IsOutgoing m → AsksNoReset id m) → WasShown read n h
    → ((e : EndState) → (f : Connection) → (IsAsking e → ⊥) → e.connection ≡ Some f → f.read ≡ read → f.kept ≡ resets → IsBlocked e → ⊥)
    → LeadsFrom id (AfterFault id read resets given n) (Fits id read resets given n) (Staging id m) (Rejected id read resets given n)
staged_reject id read resets given n time h m entry valid free shown unblocked =
    staging_on id read resets given n (Fits id read resets given n) (level_fits id read resets given n) (fits_self id read resets given n) m (Rejected id read resets given n)
    (put_reject id read resets given n time h m entry valid free shown unblocked)
