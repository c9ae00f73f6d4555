use Rattle.std.proofs.Common.{◌≡◌, ◌==◌, length}
use Rattle.std.specs.List.{list_all, slice_split}
use Rattle.fix_settings.specs.Forms.{is_type}
use Rattle.fix_settings.proofs.form.are_types.Given as goal

abbrev pub invariant-loop-piece : goal.invariant-loop-piece
invariant-loop-piece l = list_all is_type (slice_split (λ b. b == 44) l.rest) ≡ list_all is_type (slice_split (λ b. b == 44) l.fn.text)

abbrev pub decreases-loop-piece : goal.decreases-loop-piece
decreases-loop-piece l = length l.rest
