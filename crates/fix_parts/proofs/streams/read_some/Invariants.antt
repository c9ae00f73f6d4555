use Rattle.std.specs.Io.KnownBytes.{Keeps}
use Rattle.fix_parts.proofs.streams.read_some.Given as goal

-- an interrupted read takes nothing
abbrev pub invariant-loop : goal.invariant-loop
invariant-loop g l = Keeps (g.R.Read.remaining l.initial.input) (g.R.Read.remaining l.input)
