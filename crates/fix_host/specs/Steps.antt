-- One step of a greeting.
use Rattle.std.specs.Prelude.{◌≡◌, ℕ, List, ◌++◌, Option}
use Rattle.fix_base.specs.Parts.{ClockReads}
use Rattle.fix_base.specs.declared.identity.Identity.{Identity}
use Rattle.fix_outside.specs.declared.connection.ReadTurn.{ReadTurn}
use Rattle.fix_parts.specs.Link.{LinkSeen}
use Rattle.fix_host.specs.declared.greeting.Step.{Step}
use Rattle.fix_host.specs.declared.greeting.Step.TheVariants as step
use Rattle.fix_host.specs.declared.known.Greeted.TheVariants as greeted
use Rattle.fix_host.specs.Looking.{IsLookedTo}
use Rattle.fix_host.specs.Greet.{Turn, ReadsOnce, IsOpen, IsEarly, IsUndecided, Decides, EndsIn}

-- what the bytes decide, or up to where they were looked at
abbrev pub Judges : List Identity → List ℕ → Step → Type 0
Judges known bytes (step.Ends answer) = Decides known bytes answer
Judges known bytes (step.GoesOn place) = IsUndecided bytes × IsLookedTo bytes place

-- what a turn came to
abbrev pub ComesTo : List Identity → (seconds since : ℕ) → List ℕ → Turn → Step → Type 0
ComesTo known seconds since bytes turn (step.Ends answer) = EndsIn known seconds since bytes turn answer
ComesTo known seconds since bytes turn (step.GoesOn place) = IsOpen turn.read × IsEarly seconds since turn.now
    × IsUndecided bytes × IsLookedTo bytes place

-- a turn that this read and this reading of the clock made
abbrev pub turn_of : ReadTurn → List ℕ → ℕ → Turn
turn_of read bytes now = record { read = read; bytes = bytes; now = now }

-- a step is a turn, or it was out of memory before it
pub data TakesStep (known : List Identity) (seconds since : ℕ) (held held' : List ℕ) (link link' : LinkSeen)
    (readings readings' : Option (List ℕ)) : Step → Type 0 where
  takes : {step : Step} (turn : Turn) → ReadsOnce held turn link link' → ClockReads turn.now readings readings' → held'
      ≡ held ++ turn.bytes → ComesTo known seconds since held' turn step → TakesStep known seconds since held held' link
      link' readings readings' step
  refused : held' ≡ held → link' ≡ link → readings' ≡ readings → TakesStep known seconds since held held' link link'
      readings readings' (step.Ends greeted.OutOfMemory)
