use Rattle.std.proofs.Common.{ℕ, List, ◌∙◌, sym, subst, rules}
use Rattle.std.proofs.lemmas.Bool.{iff_false}
use Rattle.fix_validate.specs.Checks.{whole}
use Rattle.fix_validate.specs.Table.{IsNoValueOf}
use Rattle.fix_validate.proofs.RowLemmas.{finds_here, finds_later, finds_none}
use Rattle.fix_validate.proofs.FieldLemmas.{last_row}
use Rattle.fix_validate.proofs.fields.field_fault.Goals as goal

pub returns-then-not-allows : goal.returns-then-not-allows
returns-then-not-allows c =
    last_row c.args.dict.now (whole c.args.dict.now c.args.message.now) c.args.again c.args.misplaced c.args.field.now c.tag-tag.result c.kind_by-kind.result _ c.tag-tag.ensures c.kind_by-kind.ensures (sym c.is_invalid.ensures ∙ c.if-is_invalid.false) (search rules) (sym c.is_foreign.ensures ∙ c.if-is_foreign.false) c.if-again.false c.if-misplaced.false
    (subst (λ (v : List ℕ). IsNoValueOf c.kind_by-kind.result v → ⊥) c.value-2.ensures (iff_false c.is_no_value.ensures c.if-is_no_value.false)) (search (rules, finds_here))

pub returns : goal.returns
returns c =
    last_row c.args.dict.now (whole c.args.dict.now c.args.message.now) c.args.again c.args.misplaced c.args.field.now c.tag-tag.result c.kind_by-kind.result _ c.tag-tag.ensures c.kind_by-kind.ensures (sym c.is_invalid.ensures ∙ c.if-is_invalid.false) (search rules) (sym c.is_foreign.ensures ∙ c.if-is_foreign.false) c.if-again.false c.if-misplaced.false
    (subst (λ (v : List ℕ). IsNoValueOf c.kind_by-kind.result v → ⊥) c.value-2.ensures (iff_false c.is_no_value.ensures c.if-is_no_value.false)) (search (rules, finds_later, finds_none))
