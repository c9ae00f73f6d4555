-- What is no message.
use Rattle.std.proofs.Common.{ℕ, Bool}
use Rattle.fix_machine.specs.declared.event.Event.TheVariants as event
use Rattle.fix_machine.specs.Event.{EventSeen, IsEvent, is_first, moves, looks, wrote}
use Rattle.fix_machine.specs.Numbers.{IsNoMessage}

pub first_other : (e : EventSeen) → IsEvent event.First e → IsNoMessage e
first_other e is_first = tt

pub moved_other : (waiting : Bool) (e : EventSeen) → IsEvent (event.Moved waiting) e → IsNoMessage e
moved_other waiting e (moves w) = tt

pub clock_other : (now : ℕ) (inside : Bool) (e : EventSeen) → IsEvent (event.Clock now inside) e → IsNoMessage e
clock_other now inside e (looks n i) = tt

pub wrote_other : (now : ℕ) (e : EventSeen) → IsEvent (event.Wrote now) e → IsNoMessage e
wrote_other now e (wrote n) = tt
