use Rattle.fix_steps.proofs.AnsweringLemmas.{carried_only}
use Rattle.fix_steps.proofs.laws.an_answer_sends_and_hands_over.Goals as goal

pub returns : goal.returns
returns c = λ id frame steps fit b ok calls r to all d. carried_only frame id steps fit b ok calls r to all d
