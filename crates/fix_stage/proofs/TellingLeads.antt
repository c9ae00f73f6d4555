-- Staging a Logon with 141=Y, where one may be told, is a run of a lawful end.
use Rattle.std.proofs.Common.{◌≡◌, inr, ℕ, ◌+◌, ◌≤◌, List, [], ◌∷◌, ◌++◌, length, true, Option, Some, refl, sym, subst, arith}
use Rattle.fix_base.specs.declared.identity.Identity.{Identity}
use Rattle.fix_base.specs.Session.{IsValidIdentity}
use Rattle.fix_base.specs.EndStep.{Answer}
use Rattle.fix_stage.specs.Stage.{Staged, no_stage, is_something}
use Rattle.fix_stage.specs.Sender.{Sender, next_number, emptied}
use Rattle.fix_stage.specs.Flush as flush
use Rattle.fix_stage.specs.Flush.{Flushed, is_due}
use Rattle.fix_stage.specs.Outgoing as outgoings
use Rattle.fix_stage.specs.Outgoing.{Outgoing, IsOutgoing, IsStagedFrame}
use Rattle.fix_stage.specs.Staging as staging
use Rattle.fix_stage.specs.Staging.{Put, MakesAndStages}
use Rattle.fix_stage.specs.Lawful.{IsCertain, MayTellReset, MayTell, AreOriginals, Level, AfterFault, LeadsFrom}
use Rattle.fix_stage.proofs.LeadsLemmas.{leads_nowhere}
use Rattle.fix_stage.proofs.OutgoingLemmas.{frame_original}
use Rattle.fix_stage.proofs.FlushLeads.{level_emptied}
use Rattle.fix_stage.proofs.StagingLeads.{makes_leads}

module _ (id : Identity) (read : List ℕ) (resets : List Answer) (given : List ℕ) (n : ℕ) where
  -- nothing is staged, so a flush does nothing
  none_due : (b : Sender) → b.stage ≡ no_stage → is_due b 0 ≡ true → ⊥
  none_due b empty due = let none : is_something no_stage 0 ≡ true = subst (λ (s : Staged). is_something s 0 ≡ true) empty due in cc

  told_flushed : LeadsFrom id (AfterFault id read resets given n) (MayTell id read resets given n) (Flushed 0) (MayTell id read resets given n)
  told_flushed b calls r to (flush.nothing_due due) e h =
      leads_nowhere id e (MayTell id read resets given n (emptied b)) (record { level = level_emptied id read resets given n b e h.level; empty = refl; told = h.told })
  told_flushed b calls r to (flush.not_kept due d) e h = absurd (none_due b h.empty due)
  told_flushed b calls r to (flush.kept_and_written due d w) e h = absurd (none_due b h.empty due)

  -- its frame is the first
  told_frame : (Told : Type 0) (last number : ℕ) (m : Outgoing) (frame : Option (List ℕ)) → Told → IsValidIdentity id → number ≡ last + 1 → number ≤ 999999999 → IsOutgoing m → IsStagedFrame id number m frame → AreOriginals id Told last (m.entry ∷ []) (frame ∷ [])
  told_frame Told last number m frame told valid same fits is (outgoings.unwritten h) = tt
  told_frame Told last number m frame told valid same fits is (outgoings.framed text h f) =
      subst (λ k. AreOriginals id Told last (m.entry ∷ []) (Some text ∷ [])) same
      (record { fits = omega (arith, fits, same); original = frame_original id (last + 1) m text valid (omega (arith, fits, same)) is (subst (λ k. outgoings.IsFrameOf id k m text) same f); plain = inr told }, tt)

  put_told : (m : Outgoing) → IsValidIdentity id → LeadsFrom id (AfterFault id read resets given n) (λ b e. MayTell id read resets given n b e × (next_number b ≤ 999999999)) (Put id m) (Level id read resets given n)
  put_told m valid b calls r to (staging.put frame is f) e p =
      let l = p.0.level in
      let none : length b.stage.entries ≡ 0 = subst (λ (s : Staged). length s.entries ≡ 0) (sym p.0.empty) refl in
      leads_nowhere id e (Level id read resets given n to) (record {
        certain = l.certain;
        on = l.on;
        here = l.here;
        base = l.base;
        expected = l.expected;
        frames = subst (λ (s : Staged). AreOriginals id (MayTellReset l.on.connection) b.numbers.last (s.entries ++ m.entry ∷ []) (s.frames ++ frame ∷ [])) (sym p.0.empty)
            (told_frame (MayTellReset l.on.connection) b.numbers.last (next_number b) m frame p.0.told valid (omega (arith, none)) p.1 is f);
      })
  put_told m valid b calls r to staging.put_memory e p = leads_nowhere id e (IsCertain to.numbers) p.0.level.certain

  pub told_leads : (m : Outgoing) → IsValidIdentity id → LeadsFrom id (AfterFault id read resets given n) (MayTell id read resets given n) (MakesAndStages id m) (Level id read resets given n)
  told_leads m valid =
      makes_leads id (AfterFault id read resets given n) (MayTell id read resets given n) (MayTell id read resets given n) (λ b e h. h) (λ b e h. h.level.certain.doubt)
      (λ b e h. h.level.certain) (λ b e s h. (h.level, s)) told_flushed m (Level id read resets given n) (put_told m valid)
