use Rattle.std.proofs.Common.{length, ◌++◌, ◌∙◌, ap}
use Rattle.std.specs.Int.{w32, to_be_bytes}
use Rattle.fix_store.proofs.EntryLists.{nth_none, nth_first, nth_later, further}
use Rattle.fix_store.proofs.entries.+nth_part.Goals as goal

pub returns-in_default-clause-is : goal.returns-in_default-clause-is
returns-in_default-clause-is t c = λ es e each is at. absurd (nth_none c.args.bytes.now c.args.nth c.in_default.ensures es e each is at)

pub returns-then-nth-eq0-clause-is : goal.returns-then-nth-eq0-clause-is
returns-then-nth-eq0-clause-is t c = nth_first c.args.bytes.now c.in-Some.first.now c.in-Some.later.now c.in-Some.ensures.0 c.in-Some.ensures.1 c.args.nth c.if-nth-eq0.true

pub returns-clause-within : goal.returns-clause-within
returns-clause-within t c =
    let n = to_be_bytes w32 (length c.in-Some.first.now) in
    let first = c.in-Some.first.now in
    let rest = c.nth_part.ensures.within in
    (n ++ (first ++ rest.0), c.in-Some.ensures.1 ∙ ap (λ l. n ++ (first ++ l)) rest.1 ∙ further n first rest.0 _)

pub returns-clause-is : goal.returns-clause-is
returns-clause-is t c = nth_later c.args.bytes.now c.in-Some.first.now c.in-Some.later.now c.in-Some.ensures.0 c.in-Some.ensures.1 c.args.nth c.if-nth-eq0.false c.nth_part.result.0.now c.nth_part.ensures.is
