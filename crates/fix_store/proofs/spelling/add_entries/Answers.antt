use Rattle.std.proofs.Common.{◌++◌, length, take, sym, ◌∙◌, ap, append_assoc}
use Rattle.std.specs.Int.{w32, to_be_bytes}
use Rattle.std.proofs.lemmas.Option.{get_or_from_slice_get}
use Rattle.fix_store.specs.Spelling.{spelled_entry, spelled_entries}
use Rattle.fix_store.proofs.EntryLists.{entries_more}
use Rattle.fix_store.proofs.KeepLemmas.{each_at}
use Rattle.fix_store.proofs.spelling.add_entries.Goals as goal

pub size-requires : goal.size-requires
size-requires c = each_at c.args.entries.now c.requires c.loop-nth.nth c.nth_of-entry.result.now c.nth_of-entry.ensures

pub add_entry-requires : goal.add_entry-requires
add_entry-requires c = each_at c.args.entries.now c.requires c.loop-nth.nth c.nth_of-entry.result.now c.nth_of-entry.ensures

pub loop-nth-preserved : goal.loop-nth-preserved
loop-nth-preserved c =
    let e = c.nth_of-entry.result.now in
    let es = c.args.entries.now in
    let i = c.loop-nth.nth in
    let old = c.args.into.now.items in
    let n = to_be_bytes w32 (length (spelled_entry e)) in
    let sized = c.to_be_bytes.ensures ∙ ap (to_be_bytes w32) c.size.ensures in
    c.in_ok-add_entry.ensures
    ∙ ap (λ l. l ++ spelled_entry e) (c.in_ok-extend_from_slice.ensures.items ∙ (λ k. c.loop-nth.invariant k ++ sized k))
    ∙ append_assoc (old ++ spelled_entries (take i es)) n (spelled_entry e)
    ∙ append_assoc old (spelled_entries (take i es)) (n ++ spelled_entry e)
    ∙ ap (λ l. old ++ l) (sym (entries_more es i e c.loop-nth-test.true (sym (get_or_from_slice_get es i e e c.nth_of-entry.ensures))))
