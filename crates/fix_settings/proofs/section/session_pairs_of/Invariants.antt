use Rattle.std.proofs.Common.{length, ◌≡◌, List, take, map}
use Rattle.fix_settings.specs.Lines.{Pair, last_of, run_of}
use Rattle.fix_settings.specs.Lent.{lines_read, pairs_read}
use Rattle.fix_settings.specs.Table.{name_of}
use Rattle.fix_settings.specs.Reading.{pair_for}
use Rattle.fix_settings.proofs.section.session_pairs_of.Given as goal

abbrev pub invariant-loop-i : goal.invariant-loop-i
invariant-loop-i l = record {
  long : length l.pairs.items ≡ l.i;
  pairs : (of : List Pair) → pairs_read l.defaults ≡ map (λ k. last_of (name_of k) of) l.keys → pairs_read l.pairs.items ≡ map (pair_for of (run_of (lines_read l.behind))) (take l.i l.keys);
}
