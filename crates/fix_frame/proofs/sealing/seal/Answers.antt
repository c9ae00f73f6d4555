use Rattle.std.proofs.Common.{◌≡◌, ◌≤◌, length, sym, ◌∙◌, ap, subst, arith}
use Rattle.fix_base.specs.Sealed.{sealed}
use Rattle.fix_base.specs.Shape.{IsFrame}
use Rattle.fix_frame.specs.Sealable.{message_text}
use Rattle.fix_frame.proofs.Sealables.{message_sealed, frame_stands}
use Rattle.fix_frame.proofs.sealing.seal.Goals as goal

pub returns-clause-frame : goal.returns-clause-frame
returns-clause-frame c =
    let text : c.from_vec.result ≡ sealed c.args.begin (message_text c.args.kind.now c.args.header.now c.args.rest.now) = c.from_vec.ensures ∙ c.in-Ok-spelling.ensures ∙ ap (sealed c.args.begin) (c.deref.ensures.value ∙ c.in-Ok.ensures) in
    let short : length (message_text c.args.kind.now c.args.header.now c.args.rest.now) ≤ 1048576 = omega (arith, ap length c.in-Ok.ensures, c.len.ensures, c.if-len-gt-GREATEST_LENGTH.false) in
    subst IsFrame (sym text) (message_sealed c.args.begin c.args.kind.now c.args.header.now c.args.rest.now c.requires short)

pub returns-clause-again : goal.returns-clause-again
returns-clause-again c = λ more.
    let text : c.from_vec.result ≡ sealed c.args.begin (message_text c.args.kind.now c.args.header.now c.args.rest.now) = c.from_vec.ensures ∙ c.in-Ok-spelling.ensures ∙ ap (sealed c.args.begin) (c.deref.ensures.value ∙ c.in-Ok.ensures) in
    let short : length (message_text c.args.kind.now c.args.header.now c.args.rest.now) ≤ 1048576 = omega (arith, ap length c.in-Ok.ensures, c.len.ensures, c.if-len-gt-GREATEST_LENGTH.false) in
    frame_stands c.from_vec.result more (subst IsFrame (sym text) (message_sealed c.args.begin c.args.kind.now c.args.header.now c.args.rest.now c.requires short))
