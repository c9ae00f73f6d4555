use Rattle.std.proofs.Common.{◌≡◌, ◌≤◌, map, take, length}
use Rattle.fix_base.specs.Says.{fields_text}
use Rattle.fix_fields.specs.Drafted.{AreTagged, given}
use Rattle.fix_fields.proofs.draft.written.Given as goal

abbrev pub invariant-loop-field : goal.invariant-loop-field
invariant-loop-field l = record {
  text : l.text.items ≡ fields_text (map given (take l.field-index l.fields));
  tags : AreTagged (map given (take l.field-index l.fields));
  fits : length l.text.items ≤ l.room;
}
