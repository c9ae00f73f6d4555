use Rattle.fix_store.proofs.WalkLemmas.{folds_same}
use Rattle.fix_store.proofs.walking.fold.Goals as goal

pub returns-in-Ok-clause-folds : goal.returns-in-Ok-clause-folds
returns-in-Ok-clause-folds g c = λ payloads holds count. folds_same c.with_room.result c.in-Ok.folded payloads c.with_room.ensures.same c.with_room.ensures.memory (c.in-Ok.ensures.folds payloads holds count)
