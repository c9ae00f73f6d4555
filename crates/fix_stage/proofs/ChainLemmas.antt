-- Chains of entries: what is owed while something is staged.
use Rattle.std.proofs.Common.{◌≡◌, ℕ, ◌<◌, ◌≤◌, List, [], ◌∷◌}
use Rattle.std.proofs.Common.{length, None, refl, sym, ◌∙◌}
use Rattle.std.proofs.Common.{subst, arith}
use Rattle.fix_base.specs.declared.identity.Identity.{Identity}
use Rattle.fix_base.specs.declared.entry.Entry.{Entry}
use Rattle.fix_base.specs.declared.entry.Record.TheVariants.{Push, Expect}
use Rattle.fix_base.specs.declared.act.Act.TheVariants as act
use Rattle.fix_base.specs.End.{folded}
use Rattle.fix_base.specs.EndStep as steps
use Rattle.fix_base.specs.EndStep.{Answer, Connection, EndState, Pushed, Chain, Move, Row, EndStep, EndRun, LogonRule}
use Rattle.fix_stage.specs.Sender.{Sender}
use Rattle.fix_stage.specs.Lawful.{Fits, Level}

-- ---- chains of entries

-- where nothing is in doubt a move leaves the end as it is
pub record Still (s s' : EndState) : Type 0 where
  pub end : s'.end ≡ s.end
  pub doubt : s'.doubt ≡ None

pub move_still : {s s' : EndState} → s.doubt ≡ None → Move s s' → Still s s'
move_still sure (steps.settles_without r e) = cc
move_still sure (steps.settles_with r e) = cc
move_still sure (steps.past_admin c x free o read at) = record { end = refl; doubt = sure }
move_still sure (steps.past_app c n marked body free o read at grew) = record { end = refl; doubt = sure }
move_still sure (steps.past_gap c n m free o read at lt) = record { end = refl; doubt = sure }
move_still sure (steps.reset_to c n m free o read le) = record { end = refl; doubt = sure }

-- a chain of no entries is moves
pub moves_run : (id : Identity) {s s' : EndState} {es : List Entry} {k : ℕ} → Chain s es k s' → es ≡ [] → k ≡ 0 → EndRun id s [] s'
moves_run id steps.ends nothing zeroed = steps.stop
moves_run id (steps.expects k some at) nothing zeroed = absurd (omega (arith, zeroed))
moves_run id (steps.push one chain) nothing zeroed = cc
moves_run id (steps.pass m chain) nothing zeroed = steps.move m (moves_run id chain nothing zeroed)

-- one of one entry keeps it, with moves before and after
pub push_run : (id : Identity) (x : Entry) {s s' : EndState} {es : List Entry} {k : ℕ} → s.doubt ≡ None → Chain s es k s' → es ≡ x ∷ [] → k ≡ 0 → EndRun id s (act.Kept (Push x) ∷ []) s'
push_run id x sure steps.ends one zeroed = cc
push_run id x sure (steps.expects k some at) one zeroed = cc
push_run id x {s = s} {s' = s'} sure (steps.push {mid = mid} {e = e} {pushes = others} pushed chain) one zeroed =
    let same : e ≡ x = cc in
    let nothing : others ≡ [] = cc in
    steps.step (record { certain = sure; row = subst (λ (y : Entry). Row id s (act.Kept (Push y)) mid) same (steps.kept_push e pushed) })
    (moves_run id chain nothing zeroed)
push_run id x sure (steps.pass m chain) one zeroed = steps.move m (push_run id x (move_still sure m).doubt chain one zeroed)

-- one of no entries and a number keeps that, with moves before
pub expect_run : (id : Identity) {s s' : EndState} {es : List Entry} {k : ℕ} → s.doubt ≡ None → Chain s es k s' → es ≡ [] → 0 < k → EndRun id s (act.Kept (Expect k) ∷ []) s'
expect_run id sure steps.ends nothing some = absurd (omega (arith, some))
expect_run id sure (steps.expects k more at) nothing some = steps.step (record { certain = sure; row = steps.kept_expect k at }) steps.stop
expect_run id sure (steps.push pushed chain) nothing some = cc
expect_run id sure (steps.pass m chain) nothing some = steps.move m (expect_run id (move_still sure m).doubt chain nothing some)

-- the same entries, and then the running number
pub chain_expects : (k : ℕ) {s s' : EndState} {es : List Entry} {j : ℕ} → Chain s es j s' → j ≡ 0 → 0 < k → k ≡ s'.expected → Chain s es k (record s' { end = folded s'.end (Expect k) })
chain_expects k steps.ends zeroed some at = steps.expects k some at
chain_expects k (steps.expects j more is) zeroed some at = absurd (omega (arith, zeroed))
chain_expects k (steps.push pushed chain) zeroed some at = steps.push pushed (chain_expects k chain zeroed some at)
chain_expects k (steps.pass m chain) zeroed some at = steps.pass m (chain_expects k chain zeroed some at)

pub record Plain (es : List Entry) (e : EndState) : Type 0 where
  pub to : EndState
  pub run : Chain e es 0 to
  pub expected : to.expected ≡ e.expected
  pub handled : to.handled ≡ e.handled

pub plain : (es : List Entry) (e : EndState) → Plain es e
plain [] e = record { to = e; run = steps.ends; expected = refl; handled = refl }
plain (x ∷ es) e =
    let p = plain es (record e { end = folded e.end (Push x) }) in
    record { to = p.to; run = steps.push steps.adds p.run; expected = p.expected; handled = p.handled }

-- a level end is in step: what is staged is added entry by entry
pub level_fits : (id : Identity) (read : List ℕ) (resets : List Answer) (given : List ℕ) (n : ℕ) (b : Sender) (e : EndState) → Level id read resets given n b e → Fits id read resets given n b e
level_fits id read resets given n b e l =
    let p = plain b.stage.entries e in
    record {
      certain = l.certain;
      on = l.on;
      ahead = record { to = p.to; run = p.run; expected = p.expected ∙ l.here; base = subst (λ h. l.on.connection.base ≤ length h) (sym p.handled) l.base };
      expected = l.expected;
      frames = l.frames;
    }
