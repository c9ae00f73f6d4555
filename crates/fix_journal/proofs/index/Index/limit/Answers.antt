use Rattle.fix_journal.proofs.IndexLemmas.{limit_closed}
use Rattle.fix_journal.proofs.index.Index.limit.Goals as goal

pub returns-else-next-len-clause-is : goal.returns-else-next-len-clause-is
returns-else-next-len-clause-is c = λ payloads is. limit_closed c.args.self.now payloads c.args.index is c.requires.within
