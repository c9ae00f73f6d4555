use Rattle.fix_frame.proofs.Waiting.{still_part, no_head, no_kind, told_same}
use Rattle.fix_frame.proofs.shape.least_of.Goals as goal

pub returns-clause-waits : goal.returns-clause-waits
returns-clause-waits c = λ more few. still_part c.in-Ok.length c.args.bytes.now c.in-Ok.behind.now c.in-Ok-after_text.rest.now more c.in-Ok.ensures c.in-Ok-after_text.ensures few

pub returns-in_default-clause-told : goal.returns-in_default-clause-told
returns-in_default-clause-told c = λ n behind rest head kind. absurd (no_head n c.args.bytes.now behind _ head c.in_default.ensures)

pub returns-in_default-after_text-clause-told : goal.returns-in_default-after_text-clause-told
returns-in_default-after_text-clause-told c = λ n behind rest head kind.
    absurd (no_kind n c.in-Ok.length c.args.bytes.now behind c.in-Ok.behind.now rest _ head kind c.in-Ok.ensures c.in_default-after_text.ensures)

pub returns-clause-told : goal.returns-clause-told
returns-clause-told c = λ n behind rest head kind.
    told_same n c.in-Ok.length c.args.bytes.now behind rest c.in-Ok.behind.now c.in-Ok-after_text.rest.now head kind c.in-Ok.ensures c.in-Ok-after_text.ensures
