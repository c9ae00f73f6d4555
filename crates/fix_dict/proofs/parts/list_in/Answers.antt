use Rattle.std.proofs.Common.{ap, sym, ◌∙◌, map, option_map, Some}
use Rattle.serde_json.specs.View.{view}
use Rattle.fix_dict.specs.Parts.{listed}
use Rattle.fix_dict.proofs.PartLemmas.{listed-items_of}
use Rattle.fix_dict.proofs.parts.list_in.Goals as goal

pub returns-in-Some : goal.returns-in-Some
returns-in-Some c = ap (λ l. Some (map view l)) c.as_slice.ensures.value ∙ ap Some (sym (listed-items_of _)) ∙ ap (option_map listed) c.in-Some.ensures
