-- One change more, at the next moment.
use Rattle.std.proofs.Common.{◌≡◌, ◌⊎◌, inl, inr, ⊎_elim, ℕ, ◌<◌, ◌≤◌, max, List, [], ◌∷◌, ◌++◌, Option, refl, sym, ◌∙◌, ap, subst, arith}
use Rattle.fix_disk.specs.Disk.{Elapses, next_moment}
use Rattle.fix_disk.specs.State.{State, Leaves, blank}
use Rattle.fix_disk.specs.Past.{Step, Change, after, replayed, LeavesSince, latest}
use Rattle.fix_disk.specs.MemoryDisk.{told}

pub replayed_push : (steps : List Step) (step : Step) (s : State) → replayed (steps ++ step ∷ []) s ≡ after step.change (replayed steps s)
replayed_push [] step s = refl
replayed_push (x ∷ steps) step s = replayed_push steps step (after x.change s)

pub latest_push : (steps : List Step) (step : Step) → latest (steps ++ step ∷ []) ≡ max (latest steps) step.moment
latest_push [] step = omega arith
latest_push (x ∷ steps) step = omega (arith, latest_push steps step)

-- what was left stays among what was left since
keeps : (steps : List Step) (step : Step) (s : State) (t : ℕ) (c : List ℕ) → t < step.moment → LeavesSince steps s t c → LeavesSince (steps ++ step ∷ []) s t c
keeps [] step s t c lt left = inl (lt, left)
keeps (x ∷ steps) step s t c lt (inl before) = inl before
keeps (x ∷ steps) step s t c lt (inr left) = inr (keeps steps step (after x.change s) t c lt left)

-- and what is new is what is left behind the step
adds : (steps : List Step) (step : Step) (s : State) (t : ℕ) (c : List ℕ) → LeavesSince (steps ++ step ∷ []) s t c → LeavesSince steps s t c ⊎ Leaves (after step.change (replayed steps s)) c
adds [] step s t c (inl before) = inl before.1
adds [] step s t c (inr now) = inr now
adds (x ∷ steps) step s t c (inl before) = inl (inl before)
adds (x ∷ steps) step s t c (inr left) = ⊎_elim (λ l. inl (inr l)) (λ l. inr l) (adds steps step (after x.change s) t c left)

-- a call that changes nothing
pub elapses_same : (state : State) (steps : List Step) (past clock later faults failed : ℕ) (room : Option ℕ) → later ≡ next_moment clock → Elapses (told state steps past clock faults room) (told state steps past later failed room)
elapses_same state steps past clock later faults failed room is = record {
  clock = λ told. is;
  room = refl;
  tells_images = (λ t. t, λ t. t);
  tells_past = (λ p. ((p.0, omega (arith, p.1, is)), p.1), λ p. (p.0.0, p.1));
  nothing_else = λ told t c le left. inl left;
  keeps = λ told t c le left. left;
}

-- a call that makes a change, which is kept where the past is told
pub elapses_step : (state now : State) (steps more : List Step) (change : Change) (past kept clock moment later faults failed : ℕ) (room new_room : Option ℕ) → new_room ≡ room → later ≡ next_moment clock → moment ≡ later → kept ≡ past
    → (0 < past → more ≡ steps ++ record { moment = moment; change = change } ∷ []) → (0 < past → replayed steps blank ≡ state) → now ≡ after change state
    → Elapses (told state steps past clock faults room) (told now more kept later failed new_room)
elapses_step state now steps more change past kept clock moment later faults failed room new_room is_room is is_moment is_kept pushed replays becomes = record {
  clock = λ told. is;
  room = is_room;
  tells_images = (λ t. t, λ t. t);
  tells_past = (λ p. ((was p.0, omega (arith, p.1, is)), p.1), λ p. (omega (arith, p.0.0, is_kept), p.1));
  nothing_else = λ told t c le left.
      let split = adds steps (record { moment = moment; change = change }) blank t c (subst (λ l. LeavesSince l blank t c) (pushed (was told.0)) left) in
      ⊎_elim (λ l. inl l) (λ l. inr (subst (λ s. Leaves s c) (sym becomes) (subst (λ s. Leaves (after change s) c) (replays (was told.0)) l))) split;
  keeps = λ told t c le left. subst (λ l. LeavesSince l blank t c) (sym (pushed (was told.0))) (keeps steps (record { moment = moment; change = change }) blank t c (omega (arith, le, is, is_moment, told.1)) left);
}
  where
    was : 0 < kept → 0 < past
    was some = omega (arith, some, is_kept)

pub in_time_push : (steps more : List Step) (moment now : ℕ) (change : Change) → more ≡ steps ++ record { moment = moment; change = change } ∷ [] → latest steps ≤ now → moment ≤ now → latest more ≤ now
in_time_push steps more moment now change is le le' = rw is (omega (arith, latest_push steps (record { moment = moment; change = change }), le, le'))

pub replays_push : (steps more : List Step) (moment : ℕ) (change : Change) (state now : State) → more ≡ steps ++ record { moment = moment; change = change } ∷ [] → replayed steps blank ≡ state → now ≡ after change state → replayed more blank ≡ now
replays_push steps more moment change state now is replays becomes =
    ap (λ l. replayed l blank) is ∙ replayed_push steps (record { moment = moment; change = change }) blank ∙ ap (after change) replays ∙ sym becomes
