use Rattle.std.proofs.Common.{◌≡◌, ◌∙◌, ap}
use Rattle.fix_machine.specs.Event.{begins, is_first, moves, looks, leaves, ends, wrote}
use Rattle.fix_machine.specs.State.{MachineState, begun_as, read_clock, sent, closed}
use Rattle.fix_machine.specs.Answer.{silent, answered_by}
use Rattle.fix_machine.specs.Decide as table
use Rattle.fix_machine.specs.Clock as clocks
use Rattle.fix_machine.proofs.EventLemmas.{begin_is, first_is, moved_is, clock_is, leave_is, ended_is, wrote_is, frame_of}
use Rattle.fix_machine.proofs.TimedLemmas.{next_timed, no_texts, begun_timed, clock_timed, sent_timed, looked_timed, moved_timed, left_timed}
use Rattle.fix_machine.proofs.machine.answer_to.Goals as goal

pub returns-in-Begin : goal.returns-in-Begin
returns-in-Begin c =
    let k : c.begun_as.result ≡ begun_as c.args.options.now c.in-Begin.role (read_clock c.in-Begin.now c.args.state) = c.begun_as.ensures ∙ ap (begun_as c.args.options.now c.in-Begin.role) c.read_clock.ensures in
    record {
      answers = λ e is. rw (begin_is c.in-Begin.role c.in-Begin.now e (rw c.in-Begin.is at is)) (c.silent.ensures no_texts ∙ ap silent k);
      timed = next_timed no_texts c.silent.result _ (c.silent.ensures no_texts ∙ ap silent k) (begun_timed c.args.options.now c.in-Begin.role (read_clock c.in-Begin.now c.args.state) (clock_timed c.in-Begin.now c.args.state c.requires));
      is = rw c.in-Begin.is (_, begins c.in-Begin.role c.in-Begin.now);
    }

pub returns-in-First : goal.returns-in-First
returns-in-First c = record {
  answers = λ e is. rw (first_is e (rw c.in-First.is at is)) (c.first_logon.ensures no_texts);
  timed = next_timed no_texts c.first_logon.result _ (c.first_logon.ensures no_texts) (sent_timed c.args.state c.requires);
  is = rw c.in-First.is (_, is_first);
}

pub returns-in-Frame : goal.returns-in-Frame
returns-in-Frame c = record {
  answers = λ e is.
      let f = frame_of c.in-Frame.head c.in-Frame.verdict c.in-Frame.full c.in-Frame.gap c.in-Frame.reset e (rw c.in-Frame.is at is) in
      rw f.is (c.framed.ensures.answers f.message (rw c.in-Frame.is f.says) ∙ ap (λ (s : MachineState). table.message s.phase c.args.options.now s f.message) c.heard.ensures);
  timed = c.framed.ensures.timed;
  is = c.framed.ensures.is (rw c.in-Frame.is tt);
}

pub returns-in-Moved : goal.returns-in-Moved
returns-in-Moved c = record {
  answers = λ e is. rw (moved_is c.in-Moved.waiting e (rw c.in-Moved.is at is)) (c.moved.ensures no_texts);
  timed = next_timed no_texts c.moved.result _ (c.moved.ensures no_texts) (moved_timed c.args.state.resend_requested c.args.options.now c.args.state c.requires).timed;
  is = rw c.in-Moved.is (_, moves c.in-Moved.waiting);
}

pub returns-in-Clock : goal.returns-in-Clock
returns-in-Clock c =
    let k : answered_by no_texts c.clock.result ≡ clocks.clock c.args.options.now (read_clock c.in-Clock.now c.args.state) c.in-Clock.inside = c.clock.ensures no_texts ∙ ap (λ (s : MachineState). clocks.clock c.args.options.now s c.in-Clock.inside) c.read_clock-in-Clock.ensures in
    record {
      answers = λ e is. rw (clock_is c.in-Clock.now c.in-Clock.inside e (rw c.in-Clock.is at is)) k;
      timed = next_timed no_texts c.clock.result _ k (looked_timed c.args.options.now (read_clock c.in-Clock.now c.args.state) c.in-Clock.inside (clock_timed c.in-Clock.now c.args.state c.requires)).timed;
      is = rw c.in-Clock.is (_, looks c.in-Clock.now c.in-Clock.inside);
    }

pub returns-in-Leave : goal.returns-in-Leave
returns-in-Leave c =
    let k : answered_by no_texts c.left.result ≡ table.leave c.args.state.phase (read_clock c.in-Leave.now c.args.state) = c.left.ensures no_texts ∙ ap (λ (s : MachineState). table.leave s.phase s) c.read_clock-in-Leave.ensures in
    record {
      answers = λ e is. rw (leave_is c.in-Leave.now e (rw c.in-Leave.is at is)) k;
      timed = next_timed no_texts c.left.result _ k (left_timed c.args.state.phase (read_clock c.in-Leave.now c.args.state) (clock_timed c.in-Leave.now c.args.state c.requires)).timed;
      is = rw c.in-Leave.is (_, leaves c.in-Leave.now);
    }

pub returns-in-Ended : goal.returns-in-Ended
returns-in-Ended c =
    let k : answered_by no_texts c.silent-in-Ended.result ≡ silent (closed c.args.state) = c.silent-in-Ended.ensures no_texts ∙ ap silent c.closed.ensures in
    record {
      answers = λ e is. rw (ended_is e (rw c.in-Ended.is at is)) k;
      timed = next_timed no_texts c.silent-in-Ended.result _ k c.requires;
      is = rw c.in-Ended.is (_, ends);
    }

pub returns-in-Wrote : goal.returns-in-Wrote
returns-in-Wrote c =
    let k : answered_by no_texts c.silent-in-Wrote.result ≡ silent (sent (read_clock c.in-Wrote.now c.args.state)) = c.silent-in-Wrote.ensures no_texts ∙ ap silent (c.sent.ensures ∙ ap sent c.read_clock-in-Wrote.ensures) in
    record {
      answers = λ e is. rw (wrote_is c.in-Wrote.now e (rw c.in-Wrote.is at is)) k;
      timed = next_timed no_texts c.silent-in-Wrote.result _ k (sent_timed (read_clock c.in-Wrote.now c.args.state) (clock_timed c.in-Wrote.now c.args.state c.requires));
      is = rw c.in-Wrote.is (_, wrote c.in-Wrote.now);
    }
