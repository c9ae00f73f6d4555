-- An end that starts again from what is stored.
use Rattle.std.specs.Prelude.{◌≡◌, ◌⊎◌, ℕ, [], ◌∷◌, Option, Some, None}
use Rattle.fix_base.specs.declared.identity.Identity.{Identity}
use Rattle.fix_base.specs.declared.act.Act.TheVariants as act
use Rattle.fix_base.specs.declared.entry.Record.{Record}
use Rattle.fix_base.specs.declared.entry.Record.TheVariants.{Withhold}
use Rattle.fix_base.specs.declared.entry.Stored.{Stored}
use Rattle.fix_base.specs.End.{End, folded}
use Rattle.fix_base.specs.EndStep.{Acceptor, EndState, EndRun}
use Rattle.fix_outside.specs.Outside.{IsStoredOf}
use Rattle.fix_engine.specs.Lawful.{IsCertain, IsStoredOrInDoubt}
use Rattle.fix_engine.specs.Run.{state_of}

-- these are the numbers of the end, with or without the record that is in doubt
abbrev pub HasNumbersOf : Option Record → End → Stored → Type 0
HasNumbersOf None e stored = IsStoredOf stored e
HasNumbersOf (Some r) e stored = IsStoredOf stored e ⊎ IsStoredOf stored (folded e r)

-- they are those of this end, which is an acceptor's
pub record StartsAt (stored : Stored) (start : EndState) : Type 0 where
  pub role : start.role ≡ Acceptor
  pub numbers : HasNumbersOf start.doubt start.end stored

-- no message is withheld, nor in doubt of being: of these the numbers tell nothing
pub record NumbersTell (start : EndState) : Type 0 where
  pub none : start.end.withheld ≡ []
  pub not_in_doubt : (n : ℕ) → start.doubt ≡ Some (Withhold n) → ⊥

-- A process that stopped and starts again with these numbers goes on as a lawful end: whatever was in doubt
-- is settled, and the end has the session's numbers. Where these tell which end it is, it is the one that a
-- store holds which has them.
pub record Restarts (id : Identity) (stored : Stored) (start : EndState) : Type 0 where
  pub to : EndState
  pub run : EndRun id start (act.Stop ∷ []) to
  pub certain : IsCertain (state_of stored) to
  pub held : NumbersTell start → (e : End) → IsStoredOrInDoubt start.doubt start.end (Some e) → IsStoredOf stored e
      → e ≡ to.end

-- The same over a store that holds this end: it is the one that it goes on with.
pub record RestartsAt (id : Identity) (stored : Stored) (held : End) (start : EndState) : Type 0 where
  pub to : EndState
  pub run : EndRun id start (act.Stop ∷ []) to
  pub certain : IsCertain (state_of stored) to
  pub is : held ≡ to.end
