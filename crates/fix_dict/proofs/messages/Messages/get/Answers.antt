use Rattle.std.proofs.Common.{sym, ap, ◌∙◌}
use Rattle.std.specs.FinMap.{get}
use Rattle.fix_dict.proofs.TableLemmas.{get_bytes_is}
use Rattle.fix_dict.proofs.messages.Messages.get.Goals as goal

pub returns : goal.returns
returns c = c.get.ensures.value ∙ sym (get_bytes_is c.self.inside.layouts.entries c.args.kind.now) ∙ ap (λ m. get m c.args.kind.now) c.self.view_is
