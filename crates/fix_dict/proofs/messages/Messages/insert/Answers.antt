use Rattle.std.proofs.Common.{ap, ◌∙◌}
use Rattle.std.specs.FinMap.{insert}
use Rattle.fix_dict.proofs.TableLemmas.{insert_bytes_is}
use Rattle.fix_dict.proofs.messages.Messages.insert.Goals as goal

pub returns : goal.returns
returns c =
    insert_bytes_is c.self.inside.layouts.entries c.insert.new.self.entries c.args.kind c.args.layout c.in_ok-insert.ensures.entries
    ∙ ap (λ m. insert m c.args.kind.items c.args.layout) c.self.view_is
