use Rattle.std.proofs.Common.{◌≡◌, drop, map}
use Rattle.std.specs.List.{list_any}
use Rattle.fix_settings.specs.Lent.{party_read}
use Rattle.fix_settings.specs.Reading.{is_same}
use Rattle.fix_settings.proofs.judging.stands_before.Given as goal

abbrev pub invariant-loop-other : goal.invariant-loop-other
invariant-loop-other l = list_any (is_same (party_read l.endpoints)) (map party_read (drop l.other-index l.before)) ≡ list_any (is_same (party_read l.endpoints)) (map party_read l.before)
