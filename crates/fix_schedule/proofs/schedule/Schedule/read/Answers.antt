use Rattle.fix_schedule.proofs.ReadLemmas.{start_below, end_below, end_beside}
use Rattle.fix_schedule.proofs.schedule.Schedule.read.Goals.{in_default-via-in-Some+in_default, in_default-via-in_default}
use Rattle.fix_schedule.proofs.schedule.Schedule.read.Goals as goal

pub returns-in_default-clause-ok : goal.returns-in_default-clause-ok
returns-in_default-clause-ok c = elim c.in_default.branch [
  | in_default-via-in-Some+in_default w ↦ absurd (end_beside c.args.settings.now w.in_default.field-0-0 c.requires w.in_default.is-0 w.in_default.is-1)
  | in_default-via-in_default w ↦ w.in_default.is-0
]

pub invariant_of-result : goal.invariant_of-result
invariant_of-result c = record {
  start_in = start_below c.args.settings.now c.in-Some-Some.start_time c.requires c.in-Some-Some.is-0;
  end_in = end_below c.args.settings.now c.in-Some-Some.end_time c.requires c.in-Some-Some.is-1;
}
