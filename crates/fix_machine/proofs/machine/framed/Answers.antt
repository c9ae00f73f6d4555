use Rattle.std.proofs.Common.{◌≡◌, subst}
use Rattle.fix_machine.specs.Event.{Inbound, reads}
use Rattle.fix_machine.specs.Answer.{answered_by, texts_of}
use Rattle.fix_machine.specs.Decide.{message}
use Rattle.fix_machine.proofs.EventLemmas.{frame_is}
use Rattle.fix_machine.proofs.TimedLemmas.{next_timed, message_timed, no_texts}
use Rattle.fix_machine.proofs.machine.framed.Goals as goal

pub returns-in_default-clause-timed : goal.returns-in_default-clause-timed
returns-in_default-clause-timed c = next_timed no_texts c.silent.result _ (c.silent.ensures no_texts) c.requires

pub returns-clause-answers : goal.returns-clause-answers
returns-clause-answers c = λ i is.
    let e = frame_is c.in-Frame.head c.in-Frame.verdict c.in-Frame.full c.in-Frame.gap c.in-Frame.reset c.time_of.result c.time_of-2.result i c.time_of.ensures c.time_of-2.ensures (rw c.in-Frame.is at is) in
    subst (λ (j : Inbound). answered_by (texts_of j) c.message.result ≡ message c.args.state.phase c.args.options.now c.args.state j) e c.message.ensures

pub returns-clause-timed : goal.returns-clause-timed
returns-clause-timed c = next_timed _ c.message.result _ c.message.ensures (message_timed c.args.state.phase c.args.options.now c.args.state _ c.requires).timed

pub returns-clause-is : goal.returns-clause-is
returns-clause-is c = λ f. rw c.in-Frame.is (_, reads c.in-Frame.head c.in-Frame.verdict c.in-Frame.full c.in-Frame.gap c.in-Frame.reset c.time_of.result c.time_of-2.result c.time_of.ensures c.time_of-2.ensures)
