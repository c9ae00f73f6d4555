-- A connection that was opened and the run on it, whatever the outside tells of them.
use Rattle.std.proofs.Common.{ℕ, List, subst, sym, arith}
use Rattle.fix_base.specs.declared.identity.Identity.{Identity}
use Rattle.fix_base.specs.declared.act.Act.TheVariants as act
use Rattle.fix_base.specs.EndStep.{EndState, EndStep}
use Rattle.fix_base.specs.Trace.{Note, acts_of}
use Rattle.fix_base.proofs.ReaderLemmas.{reader}
use Rattle.fix_engine.specs.declared.stop.RunEnd.{RunEnd}
use Rattle.fix_engine.specs.Reading.{ConnectionSeen}
use Rattle.fix_engine.specs.declared.pending.PendingDraft.{PendingDraft}
use Rattle.fix_engine.specs.Turn.{TurnSeen, turn_seen}
use Rattle.fix_engine.specs.Run.{RunsTo, begun}
use Rattle.fix_engine.specs.Lawful.{IsCertain}
use Rattle.fix_engine.specs.InStep.{HasServed}
use Rattle.fix_engine.proofs.InStepLemmas.{opened_by, opening, fits_opened}
use Rattle.fix_engine.proofs.LawfulRuns.{RunAndCut-lawful}
use Rattle.fix_engine.proofs.RunActs.{of_run_one, RunAndCut-plainly}
use Rattle.fix_engine.proofs.WritingLemmas.{run_wrote, run_persistent}

-- the opening of a connection is a step of an end that is in no doubt
pub begun_opens : (id : Identity) (l : ConnectionSeen) (e : EndState) → IsCertain l.state e → EndStep id e act.Opened (opened_by e)
begun_opens id l e h = opening id e h.numbers.role h.doubt

-- what the run wrote is lawful, and it keeps up with its counterparty
pub begun_serves : (id : Identity) (n : ℕ) (l : ConnectionSeen) (pending : PendingDraft) (t : ℕ) (answer : RunEnd) (to : TurnSeen) (notes : List Note) → RunsTo id n (turn_seen (begun l t) pending) answer to notes → (start : EndState) → IsCertain l.state start → HasServed id answer to.connection start (opened_by start) (acts_of notes)
begun_serves id n l pending t answer to notes h start certain =
    let acts = acts_of notes in
    let open_run = opening id start certain.numbers.role certain.doubt in
    let led = RunAndCut-lawful id n (turn_seen (begun l t) pending) notes h.r to h.ran (opened_by start) (fits_opened id l t start certain) in
    let ran = RunAndCut-plainly id n (turn_seen (begun l t) pending) notes h.r to h.ran (omega arith) in
    subst (λ x. HasServed id x to.connection start (opened_by start) acts) (sym h.answered)
    (record {
      to = led.to;
      run = led.run;
      behind = led.holds;
      store = led.store;
      ran = ran;
      persistent = run_persistent id start (opened_by start) led.to acts open_run led.run ran;
      wrote = run_wrote id start (opened_by start) led.to acts open_run led.run ran;
      keeps_up = λ f0 f1 p. reader id start (opened_by start) led.to acts f0 f1 p.wrote p.persistent p.writes open_run led.run (of_run_one acts ran) p.front p.stored p.running;
    })
