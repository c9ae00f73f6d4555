use Rattle.std.proofs.Common.{◌∙◌, List, ℕ, Option, None, Bor, ap, sym, subst}
use Rattle.std.specs.Prelude.{option_map}
use Rattle.fix_base.specs.Fields.{FieldsAfter}
use Rattle.fix_fields.specs.HeaderValues.{Firsts, firsts_of}
use Rattle.fix_fields.proofs.EnvelopeLemmas.{has_type, some_of_map, header_from}
use Rattle.fix_fields.proofs.reading.envelope.Goals as goal

pub unwrap-requires : goal.unwrap-requires
unwrap-requires c =
    let t = has_type c.args.frame.now c.parts_of.result.1.now c.requires c.parts_of.ensures.body in
    some_of_map (Bor (List ℕ)) (λ v. v.now) c.of-noted.result.kind t.2 (ap (λ (n : Firsts). n.type) (c.of-noted.ensures t.0 t.1) ∙ t.3)

pub returns-clause-fields : goal.returns-clause-fields
returns-clause-fields c = λ fs h.
    let n = c.of-noted.ensures fs (subst (λ (b : List ℕ). FieldsAfter None b fs) (sym (c.parts_of.ensures.body h.parts h.shape)) h.are) in
    header_from c.parts_of.result.0.now c.unwrap.result.now c.seq_num.result (firsts_of c.of-noted.result) fs n (ap (λ (o : Option (Bor (List ℕ))). option_map (λ v. v.now) o) c.unwrap.ensures) c.seq_num.ensures
