use Rattle.std.proofs.Common.{arith}
use Rattle.fix_host.proofs.KnownLemmas.{names_one, names_none}
use Rattle.fix_host.proofs.known.recognise.Goals as goal

pub returns-then-index-known : goal.returns-then-index-known
returns-then-index-known c = names_one c.args.known.now c.args.frame.now _ _ c.place_of-index.result c.requires c.envelope-header.ensures.begin c.envelope-header.ensures.fields c.if-index-known.true c.place_of-index.ensures

pub returns-else-index-known : goal.returns-else-index-known
returns-else-index-known c = names_none c.args.known.now c.args.frame.now _ _ c.place_of-index.result c.requires c.envelope-header.ensures.begin c.envelope-header.ensures.fields (omega (arith, c.if-index-known.false)) c.place_of-index.ensures
