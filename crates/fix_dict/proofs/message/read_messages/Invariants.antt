use Rattle.std.proofs.Common.{◌≡◌, drop, map}
use Rattle.serde_json.specs.View.{view}
use Rattle.fix_dict.specs.Messages.{messages_in}
use Rattle.fix_dict.proofs.message.read_messages.Given as goal

abbrev pub invariant-loop-i : goal.invariant-loop-i
invariant-loop-i l = messages_in l.fields l.i l.messages (map view (drop l.i l.items)) ≡ messages_in l.fields 0 l.fn.messages (map view l.items)
