use Rattle.std.proofs.Common.{ℕ, List, Bor, map, ap}
use Rattle.fix_disk.specs.MemoryDisk.{disk_of}
use Rattle.fix_rim.specs.Rim.{disk_seen}
use Rattle.fix_top.specs.Sample.{SAMPLE_ID}
use Rattle.fix_top.proofs.SampleWritten.{just_made, new_store, sample_form, enough_turns, sample_written}
use Rattle.fix_top.proofs.sample.serve_sample.Goals as goal

abbrev text : Bor (List ℕ) → List ℕ
text w = w.now

pub returns : goal.returns
returns c =
    let made = c.in_ok-outside.ensures in
    let disk = disk_seen disk_of c.in_ok-outside.outside in
    let pieces = c.args.pieces in
    let goes = c.serve_stdio-status.ensures.serves SAMPLE_ID (sample_form _ (ap (map text) c.as_slice.ensures)) in
    let enough = enough_turns pieces.items pieces.len pieces.cap pieces.ok.0 pieces.ok.1 pieces.small in
    let from = just_made disk _ _ _ pieces.items made.file made.disk made.link made.sink made.clock in
    sample_written _ _ _ goes.0 _ pieces.items (new_store disk made.file made.disk _ _ _ _ _) c.requires enough from goes.2 goes.1.parts
