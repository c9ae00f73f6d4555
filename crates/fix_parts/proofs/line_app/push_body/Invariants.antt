use Rattle.std.proofs.Common.{◌≡◌, ◌++◌, drop}
use Rattle.fix_base.specs.Line.{body_text}
use Rattle.fix_parts.proofs.line_app.push_body.Given as goal

-- what is written and what is still to write make the whole
abbrev pub invariant-loop-byte : goal.invariant-loop-byte
invariant-loop-byte l = l.line.items ++ body_text (drop l.byte-index l.body) ≡ l.initial.line.items ++ body_text l.body
