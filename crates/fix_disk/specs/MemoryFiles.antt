-- What is seen of files in memory.
use Rattle.std.specs.Prelude.{List, ℕ, Some}
use Rattle.fix_disk.specs.declared.memory_files.MemoryFiles.{MemoryFiles}
use Rattle.fix_disk.specs.Script.{Script, script_with}
use Rattle.fix_disk.specs.Source.{SourceSeen}

abbrev pub files_in : MemoryFiles → List (List ℕ × List ℕ)
files_in m = m.files.items

abbrev pub files_of : MemoryFiles → SourceSeen
files_of m = record { files = Some m.files.items; faults = m.failing.faults }

abbrev pub files_script : MemoryFiles → Script
files_script m = script_with m.failing 0
