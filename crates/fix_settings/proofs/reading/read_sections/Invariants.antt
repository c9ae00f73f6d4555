use Rattle.std.proofs.Common.{drop, take, map}
use Rattle.fix_settings.specs.Lines.{defaults_of}
use Rattle.fix_settings.specs.Lent.{lines_read, section_read, party_read}
use Rattle.fix_settings.proofs.ReadLemmas.{SoFar}
use Rattle.fix_settings.proofs.reading.read_sections.Given as goal

abbrev pub invariant-loop-section : goal.invariant-loop-section
invariant-loop-section l = SoFar (defaults_of (lines_read l.fn.lines)) (map section_read l.sections) (map section_read (take l.section-index l.sections)) (map section_read (drop l.section-index l.sections)) l.sessions.items (map party_read l.endpoint_list.items)
