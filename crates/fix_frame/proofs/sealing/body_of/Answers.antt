use Rattle.std.proofs.Common.{rules}
use Rattle.fix_frame.proofs.Sealables.{type_text}
use Rattle.fix_frame.proofs.sealing.body_of.Goals as goal

pub returns : goal.returns
returns c = rw (type_text c.args.kind.now c.args.header.now c.args.rest.now) (search rules)
