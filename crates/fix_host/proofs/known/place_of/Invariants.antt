use Rattle.std.proofs.Common.{◌≡◌, false}
use Rattle.std.specs.List.{AllWithin}
use Rattle.fix_fields.specs.Header.{header_of}
use Rattle.fix_host.specs.Known.{is_for}
use Rattle.fix_host.proofs.known.place_of.Given as goal

abbrev pub invariant-loop-index : goal.invariant-loop-index
invariant-loop-index l = AllWithin (λ id. is_for (header_of l.header) id ≡ false) l.known 0 l.index
