use Rattle.std.proofs.Common.{arith}
use Rattle.fix_host.proofs.HeldLemmas.{read_link, read_ahead}
use Rattle.fix_host.proofs.held.HeldLink.read.Goals as goal

pub returns-then-self-len-clause-held : goal.returns-then-self-len-clause-held
returns-then-self-len-clause-held g c = read_link c.read.result c.read.new.room c.args.self.now.unread.items c.args.self.now.given _ _ (omega arith) c.read.ensures.moves

pub returns-clause-held : goal.returns-clause-held
returns-clause-held g c =
    let count = rw c.deref.ensures.value at c.give-count.ensures.count in
    let bytes = rw c.deref.ensures.value at c.give-count.ensures.bytes in
    read_ahead c.give-count.result c.args.self.now.given c.args.self.now.unread.items c.give-count.new.room _ (omega arith) count bytes
