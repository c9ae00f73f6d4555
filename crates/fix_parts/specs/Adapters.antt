-- What is seen of the adapters: how often they failed, and nothing else.
use Rattle.std.specs.Prelude.{ℕ, None}
use Rattle.fix_parts.specs.declared.stdio_link.StdioLink.{StdioLink}
use Rattle.fix_parts.specs.declared.system_clock.SystemClock.{SystemClock}
use Rattle.fix_parts.specs.Link.{LinkSeen}

abbrev pub stdio_link_of : {I O : Type 0} → StdioLink I O → LinkSeen
stdio_link_of l = record { to_come = None; written = None; room = None; faults = l.faults }

-- what a clock gives where the system's can't be read
abbrev pub last_reading : {R : Type 0} → SystemClock R → ℕ
last_reading c = c.last
