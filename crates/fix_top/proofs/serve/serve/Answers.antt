use Rattle.fix_top.proofs.ServeLemmas.{opened-begun-ran, opened-not_begun, not-opened, serves-lawfully, ran_cause, load_causes, memory_cause, opened_down}
use Rattle.fix_top.proofs.serve.serve.Goals as goal

pub returns-in-Err-clause-serves : goal.returns-in-Err-clause-serves
returns-in-Err-clause-serves g c =
    let o = c.in-Err.ensures.opens in
    rw c.load_status.ensures (not-opened _ _ _ _ _ _ _ o.1 o.2.1 o.2.2)

pub begin-requires-clause-phase : goal.begin-requires-clause-phase
begin-requires-clause-phase g c = opened_down _ _ _ _ c.in-Ok.ensures.opens.2.2

pub returns-in-Ok-begin-clause-serves : goal.returns-in-Ok-begin-clause-serves
returns-in-Ok-begin-clause-serves g c =
    let o = c.in-Ok.ensures.opens in
    rw c.status.ensures (opened-begun-ran _ _ _ _ _ _ _ _ _ _ _ _ _ o.1 o.2.1 o.2.2 c.in-Ok-begin.ensures.begins c.run_turns.ensures.runs)

pub returns-clause-serves : goal.returns-clause-serves
returns-clause-serves g c =
    let o = c.in-Ok.ensures.opens in
    opened-not_begun _ _ _ _ _ _ _ _ _ _ o.1 o.2.1 o.2.2 c.in-Err-begin.ensures.begins

pub returns-in-Err-clause-lawful : goal.returns-in-Err-clause-lawful
returns-in-Err-clause-lawful g c =
    let o = c.in-Err.ensures.opens in
    rw c.load_status.ensures (serves-lawfully _ c.args.turns _ _ _ (not-opened _ _ _ _ _ _ _ o.1 o.2.1 o.2.2))

pub returns-in-Ok-begin-clause-lawful : goal.returns-in-Ok-begin-clause-lawful
returns-in-Ok-begin-clause-lawful g c =
    let o = c.in-Ok.ensures.opens in
    rw c.status.ensures (serves-lawfully _ _ _ _ _ (opened-begun-ran _ _ _ _ _ _ _ _ _ _ _ _ _ o.1 o.2.1 o.2.2 c.in-Ok-begin.ensures.begins c.run_turns.ensures.runs))

pub returns-clause-lawful : goal.returns-clause-lawful
returns-clause-lawful g c =
    let o = c.in-Ok.ensures.opens in
    serves-lawfully _ c.args.turns _ _ _ (opened-not_begun _ _ _ _ _ _ _ _ _ _ o.1 o.2.1 o.2.2 c.in-Err-begin.ensures.begins)

pub returns-in-Err-clause-cause : goal.returns-in-Err-clause-cause
returns-in-Err-clause-cause g c =
    let o = c.in-Err.ensures.opens in
    rw c.load_status.ensures (load_causes _ _ _ _ _ _ o.1 o.2.1 o.2.2)

pub returns-in-Ok-begin-clause-cause : goal.returns-in-Ok-begin-clause-cause
returns-in-Ok-begin-clause-cause g c =
    let o = c.in-Ok.ensures.opens in
    rw c.status.ensures (ran_cause _ _ _ _ _ _ _ _ _ _ _ o.2.1 o.2.2 c.in-Ok-begin.ensures.begins c.run_turns.ensures.cause)

pub returns-clause-cause : goal.returns-clause-cause
returns-clause-cause g c = memory_cause _ _
