use Rattle.std.proofs.Common.{List, refl, subst}
use Rattle.fix_base.specs.Fields.{Field}
use Rattle.fix_fields.specs.Drafts.{IsRefused}
use Rattle.fix_fields.proofs.DraftLemmas.{refused_first}
use Rattle.fix_fields.proofs.draft.Draft.new.Goals as goal

pub returns-in-Some-clause-err : goal.returns-in-Some-clause-err
returns-in-Some-clause-err c = refused_first c.args.kind.now c.args.fields.now c.in-Some.fault (c.if-not-is_draft_kind.ensures.0 refl) (subst (λ (fs : List Field). IsRefused fs c.in-Some.fault) c.given-given.ensures c.in-Some.ensures)
