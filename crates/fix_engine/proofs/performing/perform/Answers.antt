use Rattle.fix_base.proofs.SeenLemmas.{Trace-nil}
use Rattle.fix_engine.specs.Answer.{nothing, count, go_up, close, give_up}
use Rattle.fix_engine.proofs.performing.perform.Goals as goal

pub returns-in-Nothing-clause-notes : goal.returns-in-Nothing-clause-notes
returns-in-Nothing-clause-notes g c = rw c.in-Nothing.is (_, Trace-nil _, nothing)

pub returns-in-Count-clause-notes : goal.returns-in-Count-clause-notes
returns-in-Count-clause-notes g c = rw (c.in-Count.is, c.get.ensures.value) (_, Trace-nil _, count _)

pub returns-in-GoUp-clause-notes : goal.returns-in-GoUp-clause-notes
returns-in-GoUp-clause-notes g c = rw c.in-GoUp.is (_, Trace-nil _, go_up)

pub returns-in-Close-clause-notes : goal.returns-in-Close-clause-notes
returns-in-Close-clause-notes g c = rw c.in-Close.is (_, Trace-nil _, close _)

pub returns-in-GiveUp-clause-notes : goal.returns-in-GiveUp-clause-notes
returns-in-GiveUp-clause-notes g c = rw c.in-GiveUp.is (_, Trace-nil _, give_up _)

pub returns-in-Send-clause-notes : goal.returns-in-Send-clause-notes
returns-in-Send-clause-notes g c = rw c.in-Send.is (c.send.ensures.notes _)
