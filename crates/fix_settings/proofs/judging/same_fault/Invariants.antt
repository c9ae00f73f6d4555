use Rattle.std.proofs.Common.{◌≡◌, [], drop, take, map}
use Rattle.fix_settings.specs.Lent.{party_read}
use Rattle.fix_settings.specs.Reading.{same_refusal}
use Rattle.fix_settings.proofs.judging.same_fault.Given as goal

abbrev pub invariant-loop-i : goal.invariant-loop-i
invariant-loop-i l = same_refusal (map party_read (take l.i l.endpoint_list)) (map party_read (drop l.i l.endpoint_list)) ≡ same_refusal [] (map party_read l.endpoint_list)
