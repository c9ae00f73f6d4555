use Rattle.fix_admin.proofs.PushLemmas.{five}
use Rattle.fix_admin.proofs.building.push_reject.Goals as goal

pub returns : goal.returns
returns c =
    five _ _ _ _ _ _ _ _ _ _ _ c.in_ok-push_number.ensures c.in_ok-push_tag.ensures c.in_ok-push_type.ensures c.in_ok-push_reason.ensures
    (rw c.reason_text.ensures at c.in_ok-push_text.ensures)
