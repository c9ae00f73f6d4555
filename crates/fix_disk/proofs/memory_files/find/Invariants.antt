use Rattle.std.proofs.Common.{◌↔◌, ℕ, List, length}
use Rattle.fix_disk.specs.Source.{IsFile}
use Rattle.fix_disk.proofs.memory_files.find.Given as goal

-- a file is among the rest just where it is among all
abbrev pub invariant-loop-rest : goal.invariant-loop-rest
invariant-loop-rest l = (bytes : List ℕ) → IsFile l.name bytes l.rest ↔ IsFile l.name bytes l.files

abbrev pub decreases-loop-rest : goal.decreases-loop-rest
decreases-loop-rest l = length l.rest
