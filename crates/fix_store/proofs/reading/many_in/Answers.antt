use Rattle.std.proofs.Common.{◌++◌, ◌∙◌, ap, refl, arith}
use Rattle.std.specs.Int.{w32, to_be_bytes}
use Rattle.fix_store.proofs.EntryLists.{too_long, many_read}
use Rattle.fix_store.proofs.reading.many_in.Goals as goal

pub returns-then-rest-gt-MOST_REST : goal.returns-then-rest-gt-MOST_REST
returns-then-rest-gt-MOST_REST c = too_long c.args.rest.now c.if-rest-gt-MOST_REST.true

pub returns : goal.returns
returns c =
    many_read c.args.rest.now c.in_ok-count.count c.in_ok-expect.expect c.in_ok-expect.entries.now (record {
      count_fits = c.in_ok-count.ensures.0;
      expect_fits = c.in_ok-expect.ensures.0;
      is = c.in_ok-count.ensures.1 ∙ ap (λ l. to_be_bytes w32 c.in_ok-count.count ++ l) c.in_ok-expect.ensures.1;
    }) (omega (arith, c.if-rest-gt-MOST_REST.false)) (c.if-not-has_many_counts.ensures.0 refl) (c.if-not-are_entries.ensures.0 refl)
