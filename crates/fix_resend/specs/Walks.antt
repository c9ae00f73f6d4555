-- A walk over the numbers of a ResendRequest, one after another.
use Rattle.std.specs.Prelude.{◌≡◌, ℕ, suc, ◌-◌, ◌≤◌, List, [], ◌∷◌, ◌++◌, length, nat_lt, replicate, Bool, false}
use Rattle.std.specs.Prelude.{if◌then◌else◌, Option, Some, None, option_to_list}
use Rattle.fix_resend.specs.Cut.{Out, Repeat, Gap, cut_from}

-- it stands at a number, or after the last one. The numbers from `open` on before it are still to be passed over
pub record WalkSeen : Type 0 where
  pub open_from : ℕ
  pub at : ℕ
  pub to : ℕ

-- from its first number
abbrev pub begun : ℕ → ℕ → WalkSeen
begun from to = record { open_from = from; at = from; to = to }

-- what it has still to give for these truth values
abbrev pub rest_of : WalkSeen → List Bool → List Out
rest_of w apps = cut_from w.open_from (replicate (w.at - w.open_from) false ++ apps)

-- what one step gives, in its order
abbrev pub given : Option Out × Option Out → List Out
given gives = option_to_list gives.0 ++ option_to_list gives.1

-- a step: the walk goes on by one number, whose truth value it's given
pub record Steps (old : WalkSeen) (app : Bool) (gives : Option Out × Option Out) (new : WalkSeen) : Type 0 where
  pub at : new.at ≡ suc old.at
  pub to : new.to ≡ old.to
  -- the repeat of this number, where its message comes again
  pub repeat : gives.1 ≡ (if app then Some (Repeat old.at) else None)
  -- what it gives and what is still to come are what was to come, however the numbers after it go on
  pub rest : (apps : List Bool) → length apps ≡ old.to - old.at → rest_of old (app ∷ apps) ≡ given gives
      ++ rest_of new apps
  -- after the last number nothing is still to be passed over
  pub last : old.at ≡ old.to → new.open_from ≡ new.at

-- a walk that is given these truth values, one a step, gives these
pub data Walked : WalkSeen → List Bool → List Out → WalkSeen → Type 0 where
  stays : (w : WalkSeen) → Walked w [] [] w
  goes : {w mid to : WalkSeen} {apps : List Bool} {outs : List Out} (app : Bool) (gives : Option Out × Option Out)
      → w.at ≤ w.to → Steps w app gives mid → Walked mid apps outs to → Walked w (app ∷ apps) (given gives ++ outs) to

-- the gap fill over the numbers from one up to another, if there are any
abbrev pub gap_of : ℕ → ℕ → Option Out
gap_of from next = if nat_lt from next then Some (Gap from next) else None
