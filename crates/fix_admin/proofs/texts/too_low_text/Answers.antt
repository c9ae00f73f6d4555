use Rattle.fix_admin.proofs.PushLemmas.{four}
use Rattle.fix_admin.proofs.texts.too_low_text.Goals as goal

pub returns : goal.returns
returns c =
    four _ _ _ _ _ _ _ _ (rw c.new-out.ensures.items at c.in_ok-extend_from_slice.ensures.items)
    (rw (c.as_bytes.ensures.value, c.format.ensures.text) at c.in_ok-extend_from_slice-2.ensures.items)
    c.in_ok-extend_from_slice-3.ensures.items
    (rw (c.as_bytes-2.ensures.value, c.format-2.ensures.text) at c.in_ok-extend_from_slice-4.ensures.items)
