use Rattle.fix_store.specs.Folding.{lent_entry}
use Rattle.fix_store.proofs.EntryLists.{are_none, are_bad, are_more}
use Rattle.fix_store.proofs.entries.+are_entries.Goals as goal

pub returns-in_default : goal.returns-in_default
returns-in_default t c = are_none c.args.bytes.now c.args.count c.in_default.ensures c.if-count-eq0.false

pub returns-in-None : goal.returns-in-None
returns-in-None t c = are_bad c.args.bytes.now c.in-Some.first.now c.in-Some.later.now c.args.count c.if-count-eq0.false c.in-Some.ensures.0 c.in-Some.ensures.1 c.in-None.ensures

pub returns-in-Some-entry_in : goal.returns-in-Some-entry_in
returns-in-Some-entry_in t c = are_more c.args.bytes.now c.in-Some.first.now c.in-Some.later.now c.args.count c.if-count-eq0.false c.in-Some.ensures.0 c.in-Some.ensures.1 (lent_entry _) c.in-Some-entry_in.ensures.0 c.in-Some-entry_in.ensures.1 c.are_entries.result c.are_entries.ensures
