use Rattle.std.proofs.Common.{◌≡◌, ◌+◌, ◌-◌, ◌*◌, ◌<◌, ◌^◌, length, Some, refl, sym, subst, arith}
use Rattle.std.specs.Prelude.{min, slice_get, IfSome}
use Rattle.std.proofs.lemmas.Option.{slice_get_read}
use Rattle.fix_store.specs.declared.finding.Spot.{Spot}
use Rattle.fix_store.specs.Counts.{counted_in, IsMark}
use Rattle.fix_store.specs.Folding.{entries_before, pushed}
use Rattle.fix_store.specs.Finding.{IsAt, IsFoundAt, AreSpotsOf}
use Rattle.fix_store.proofs.RecordLists.{get_inside}
use Rattle.fix_store.proofs.FindLemmas.{one_on, one_of, mark_of, mark_above, found_number, target_in, nearest_is, inside, ok_so}
use Rattle.fix_store.proofs.finding.find.Goals as goal

pub seek-requires-clause-spot : goal.seek-requires-clause-spot
seek-requires-clause-spot g c =
    let cs = counted_in c.args.counts.now in
    let journal = c.args.journal.now in
    let k = c.mark_between-mark.result in
    let target = cs.total - (cs.last - c.args.number) - 1 in
    let mark : IsMark cs.before target k = subst (λ l. IsMark l target k) c.deref.ensures.value c.mark_between-mark.ensures in
    let within = get_inside cs.before k mark.at mark.is in
    let marked : Spot = record { cursor = c.at_mark.result; before = c.index.result.now } in
    let spot = c.nearest-spot.result in
    let inside_so = c.requires.searchable.within k within in
    one_on g.D.Disk.disk journal marked c.args.near spot (record { within = omega (arith, inside_so, c.at_mark.ensures.index); stands = c.at_mark.ensures.stands }) c.requires.near c.nearest-spot.ensures.one

pub returns-clause-found : goal.returns-clause-found
returns-clause-found g c = λ payloads items out holds first counts near.
    let cs = counted_in c.args.counts.now in
    let journal = c.args.journal.now in
    let k = c.mark_between-mark.result in
    let target = cs.total - (cs.last - c.args.number) - 1 in
    let mark : IsMark cs.before target k = subst (λ l. IsMark l target k) c.deref.ensures.value c.mark_between-mark.ensures in
    let within = get_inside cs.before k mark.at mark.is in
    let before : slice_get cs.before k ≡ Some c.index.result.now = slice_get_read cs.before (length cs.before) k c.index.result.now refl within c.index.ensures in
    let marked : Spot = record { cursor = c.at_mark.result; before = c.index.result.now } in
    let spot = c.nearest-spot.result in
    let below : target < cs.total = omega (arith, c.requires.searchable.few, c.requires.first, c.requires.last) in
    let of = mark_of items cs out counts journal.count target k first.few below mark within marked c.at_mark.ensures.index before in
    let spot_of = one_of items marked c.args.near spot of near c.nearest-spot.ensures.one in
    let end : c.end_of-end.result ≡ min (64 * k + 64) journal.count = omega (arith, c.end_of-end.ensures, c.index-2.ensures, c.at_mark.ensures.index, c.count.ensures) in
    let above : target < entries_before items c.end_of-end.result = subst (λ n. target < entries_before items n) (sym end) (mark_above items cs out counts journal.count target k first.few below mark within) in
    let small : length (pushed items) < 2 ^ 64 = omega (arith, counts.total) in
    ok_so c.seek.result (λ f. IsAt items target c.seek.new.payload.items f × AreSpotsOf items f) (λ f. IsFoundAt items out c.args.number c.seek.new.payload.items f × AreSpotsOf items f)
    (λ f both. (found_number items cs out counts c.args.number target c.requires.first c.requires.last refl c.seek.new.payload.items f both.0, both.1))
    (c.seek.ensures.found payloads items holds first spot_of small above)

pub returns-clause-soon : goal.returns-clause-soon
returns-clause-soon g c = λ payloads items out f j holds first counts is both stands low high.
    let cs = counted_in c.args.counts.now in
    let journal = c.args.journal.now in
    let k = c.mark_between-mark.result in
    let target = cs.total - (cs.last - c.args.number) - 1 in
    let mark : IsMark cs.before target k = subst (λ l. IsMark l target k) c.deref.ensures.value c.mark_between-mark.ensures in
    let within = get_inside cs.before k mark.at mark.is in
    let before : slice_get cs.before k ≡ Some c.index.result.now = slice_get_read cs.before (length cs.before) k c.index.result.now refl within c.index.ensures in
    let marked : Spot = record { cursor = c.at_mark.result; before = c.index.result.now } in
    let spot = c.nearest-spot.result in
    let below : target < cs.total = omega (arith, c.requires.searchable.few, c.requires.first, c.requires.last) in
    let of = mark_of items cs out counts journal.count target k first.few below mark within marked c.at_mark.ensures.index before in
    let spot_of = one_of items marked c.args.near spot of (subst (λ o. IfSome o (AreSpotsOf items)) (sym is) both) c.nearest-spot.ensures.one in
    let bounds = target_in items cs out counts c.args.number target j c.requires.first c.requires.last refl stands in
    let here = nearest_is items marked c.args.near f spot target j is both spot_of c.nearest-spot.ensures bounds.0 bounds.1 low high in
    c.seek.ensures.soon payloads items holds first spot_of (subst (λ m. target < entries_before items (m + 1)) (sym here) bounds.1)
    (inside items spot (j + 1) target spot_of c.nearest-spot.ensures.before bounds.1)
