use Rattle.std.proofs.Common.{◌≡◌, ◌++◌, map, drop, option_map}
use Rattle.fix_fields.specs.Drafted.{draft_body}
use Rattle.fix_parts.specs.App.{drafts_in}
use Rattle.fix_parts.proofs.memory_app.copies_of.Given as goal

-- what is copied and what is still to copy make the whole
abbrev pub invariant-loop-answer : goal.invariant-loop-answer
invariant-loop-answer l = map draft_body l.copies.items ++ drafts_in (map (option_map draft_body) (drop l.answer-index l.drafts)) ≡ drafts_in (map (option_map draft_body) l.initial.drafts)
