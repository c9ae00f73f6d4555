use Rattle.std.proofs.Common.{None}
use Rattle.fix_base.proofs.FieldLists.{fields_same}
use Rattle.fix_base.proofs.stream_laws.a_text_has_one_list_of_fields.Goals as goal

pub returns : goal.returns
returns c = fields_same None
