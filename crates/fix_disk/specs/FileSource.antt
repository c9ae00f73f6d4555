-- What is seen of the files of the system: how often a read failed, and nothing else.
use Rattle.std.specs.Prelude.{None}
use Rattle.fix_disk.specs.declared.file_source.FileSource.{FileSource}
use Rattle.fix_disk.specs.Source.{SourceSeen}

abbrev pub file_source_of : {R : Type 0} → FileSource R → SourceSeen
file_source_of s = record { files = None; faults = s.faults }
