use Rattle.std.proofs.Common.{◌≡◌, ◌+◌, rules}
use Rattle.fix_dict.proofs.NoteLemmas.{notes_more, one_more}
use Rattle.fix_dict.proofs.note.notes_of.Goals as goal

pub loop-i-preserved : goal.loop-i-preserved
loop-i-preserved c =
    let t : c.in-Some.tag ≡ c.loop-i.i + 1 = search rules in (
      notes_more c.args.fields.now c.args.header.now c.args.trailer.now c.loop-i.notes.items c.push.new.self.items c.loop-i.i c.in-Some.tag c.note_of.result c.loop-i.invariant.0 c.loop-i.invariant.1 t c.note_of.ensures c.in_ok-push.ensures.items,
      one_more c.loop-i.notes.items c.push.new.self.items c.loop-i.i c.note_of.result c.loop-i.invariant.1 c.in_ok-push.ensures.items,
    )
