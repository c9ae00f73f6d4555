use Rattle.fix_validate.proofs.NoteLemmas.{in_header, in_trailer, in_message, own_header, own_trailer, role_has}
use Rattle.fix_validate.proofs.fields.is_known.Goals as goal

pub returns-then-is_own : goal.returns-then-is_own
returns-then-is_own c =
    in_header c.args.dict.now c.args.message.now c.args.tag (own_header c.args.dict.now c.args.tag c.args.note.now c.is_own.result _ c.requires.note c.is_own.ensures c.if-is_own.true)

pub returns-then-is_own-2 : goal.returns-then-is_own-2
returns-then-is_own-2 c =
    in_trailer c.args.dict.now c.args.message.now c.args.tag (own_trailer c.args.dict.now c.args.tag c.args.note.now c.is_own-2.result _ c.requires.note c.is_own-2.ensures c.if-is_own-2.true)

pub returns : goal.returns
returns c =
    in_message c.args.dict.now c.args.message.now c.args.tag c.is_known.result (own_header c.args.dict.now c.args.tag c.args.note.now c.is_own.result _ c.requires.note c.is_own.ensures c.if-is_own.false)
    (own_trailer c.args.dict.now c.args.tag c.args.note.now c.is_own-2.result _ c.requires.note c.is_own-2.ensures c.if-is_own-2.false)
    (role_has c.args.message.now c.args.tag c.args.role c.is_known.result c.requires.role c.is_known.ensures)
