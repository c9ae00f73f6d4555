use Rattle.fix_outside.proofs.CallLemmas.{Called-nil}
use Rattle.fix_steps.specs.Steps.{says, serves, hands, waits, expects, resets, confirms, closes, nothing}
use Rattle.fix_steps.proofs.carrying.perform.Goals as goal

pub returns-in-Send-clause-calls : goal.returns-in-Send-clause-calls
returns-in-Send-clause-calls g c = rw c.in-Send.is (let h = c.say.ensures.calls in (h.0, h.1, says _ h.2))

pub returns-in-Serve-clause-calls : goal.returns-in-Serve-clause-calls
returns-in-Serve-clause-calls g c = rw c.in-Serve.is (let h = c.serve_range.ensures.calls in (h.0, h.1, serves _ _ h.2))

pub returns-in-Hand-clause-calls : goal.returns-in-Hand-clause-calls
returns-in-Hand-clause-calls g c = rw c.in-Hand.is (let h = c.hand_over.ensures.calls in (h.0, h.1, hands h.2))

pub returns-in-Expect-clause-calls : goal.returns-in-Expect-clause-calls
returns-in-Expect-clause-calls g c = rw c.in-Expect.is (_, Called-nil _, expects _)

pub returns-in-Reset-clause-calls : goal.returns-in-Reset-clause-calls
returns-in-Reset-clause-calls g c = rw c.in-Reset.is (let h = c.reset.ensures.calls in (h.0, h.1, resets h.2))

pub returns-in-Confirm-clause-calls : goal.returns-in-Confirm-clause-calls
returns-in-Confirm-clause-calls g c = rw c.in-Confirm.is (let h = c.confirm.ensures.calls in (h.0, h.1, confirms h.2))

pub returns-in-Stash-clause-calls : goal.returns-in-Stash-clause-calls
returns-in-Stash-clause-calls g c = rw c.in-Stash.is (_, Called-nil _, waits)

pub returns-in-Close-clause-calls : goal.returns-in-Close-clause-calls
returns-in-Close-clause-calls g c = rw c.in-Close.is (_, Called-nil _, closes _)

pub returns-in-Nothing-clause-calls : goal.returns-in-Nothing-clause-calls
returns-in-Nothing-clause-calls g c = rw c.in-Nothing.is (_, Called-nil _, nothing)
