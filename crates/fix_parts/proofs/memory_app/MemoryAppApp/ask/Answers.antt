use Rattle.std.proofs.Common.{sym, ◌∙◌, arith, refl}
use Rattle.fix_parts.proofs.DraftLemmas.{gave}
use Rattle.fix_parts.proofs.memory_app.MemoryAppApp.ask.Goals as goal

pub invariant_of-self-clause-few : goal.invariant_of-self-clause-few
invariant_of-self-clause-few c =
    let few = (gave c.args.self.now.asked c.args.self.now.copies.items _ _ _ (sym c.is_some.ensures ∙ c.if-is_some.true) c.args.self.now.copied c.next_draft-draft.ensures.drafts).few in
    omega (arith, few, c.args.self.now.copies.ok)

pub invariant_of-self-clause-copied : goal.invariant_of-self-clause-copied
invariant_of-self-clause-copied c =
    (gave c.args.self.now.asked c.args.self.now.copies.items _ _ _ (sym c.is_some.ensures ∙ c.if-is_some.true) c.args.self.now.copied c.next_draft-draft.ensures.drafts).left

pub returns-then-is_some-clause-asks : goal.returns-then-is_some-clause-asks
returns-then-is_some-clause-asks c =
    let given = (gave c.args.self.now.asked c.args.self.now.copies.items _ _ _ (sym c.is_some.ensures ∙ c.if-is_some.true) c.args.self.now.copied c.next_draft-draft.ensures.drafts).given in
    (c.next_draft-draft.ensures.answers, rw given refl)
