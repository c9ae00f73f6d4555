use Rattle.fix_base.proofs.TagTexts.{HasTag}
use Rattle.fix_fields.proofs.tag.tag_at.Given as goal

abbrev pub invariant-loop-i : goal.invariant-loop-i
invariant-loop-i l = HasTag l.i l.bytes l.tag
