use Rattle.std.proofs.Common.{length, ◌≡◌, take, map}
use Rattle.fix_settings.specs.Lines.{last_of, defaults_of}
use Rattle.fix_settings.specs.Lent.{lines_read, pairs_read}
use Rattle.fix_settings.specs.Table.{name_of}
use Rattle.fix_settings.proofs.section.default_pairs_of.Given as goal

abbrev pub invariant-loop-key : goal.invariant-loop-key
invariant-loop-key l = record {
  long : length l.pairs.items ≡ l.key-index;
  pairs : pairs_read l.pairs.items ≡ map (λ k. last_of (name_of k) (defaults_of (lines_read l.lines))) (take l.key-index l.keys);
}
