use Rattle.std.proofs.Common.{subst}
use Rattle.fix_outbox.specs.declared.pass.Outbox.{Outbox}
use Rattle.fix_outbox.specs.Passes.{capacity_of}
use Rattle.fix_host.specs.Posts.{Posts}
use Rattle.fix_host.specs.Echoing.{echoed}
use Rattle.fix_host.proofs.DraftingLemmas.{body_of_made}
use Rattle.fix_host.proofs.echoing.EchoAppApp.hand.Goals as goal

-- src/echoing.rt:79:5
pub returns-in-Taken-Some-clause-echoes : goal.returns-in-Taken-Some-clause-echoes
returns-in-Taken-Some-clause-echoes g c =
    echoed c.in-Taken-Some.draft c.in-Taken-Some.is-0 (body_of_made _ c.in-Ok.draft c.in-Taken-Some.draft c.in-Taken-Some.is-1 c.in-Ok.ensures)
    (subst (λ (o : Outbox). Posts (capacity_of o) c.in-Taken-Some.draft c.args.self.now.sender c.post.new.sender) c.hand-said.ensures.outbox c.post.ensures.posts)
