use Rattle.std.proofs.Common.{◌≡◌, length}
use Rattle.fix_dict.specs.Notes.{AreNotes}
use Rattle.fix_dict.proofs.note.notes_of.Given as goal

abbrev pub invariant-loop-i : goal.invariant-loop-i
invariant-loop-i l = AreNotes l.fields l.header l.trailer l.notes.items × (length l.notes.items ≡ l.i)
