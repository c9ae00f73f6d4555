use Rattle.std.proofs.Common.{inr, ◌∙◌, sym, subst, arith}
use Rattle.std.specs.Prelude.{IsSome}
use Rattle.std.proofs.lemmas.List.{length-set}
use Rattle.fix_host.proofs.PostLemmas.{same_at, rest_on, posted_on, gone_on, loads_on, loads_end}
use Rattle.fix_host.proofs.posting.post_all.Goals as goal

pub post_at-requires-clause-some : goal.post_at-requires-clause-some
post_at-requires-clause-some g c =
    let i = c.loop-k.invariant in
    subst IsSome (sym (same_at c.loop-k.drafts c.args.drafts.now c.loop-k.k c.index-drafts-k.result (omega (arith, c.loop-k-test.true, c.loop-k.auto.k-end, i.size)) i.size i.rest).0) (c.requires.some c.loop-k.k _ (omega (arith, c.loop-k-test.true, c.loop-k.auto.k-end, i.size)))

pub loop-k-preserved : goal.loop-k-preserved
loop-k-preserved g c =
    let i = c.loop-k.invariant in
    record {
      pass = c.if-not-post_at.ensures.pass.0;
      number = c.if-not-post_at.ensures.pass.1 ∙ i.number;
      count = omega (arith, i.count);
      size = length-set c.loop-k.drafts c.loop-k.k _ ∙ i.size;
      posted = posted_on _ _ _ _ _ c.loop-k.drafts c.args.drafts.now c.loop-k.k c.index-drafts-k.result (omega (arith, c.loop-k-test.true, c.loop-k.auto.k-end, i.size)) i.size i.rest i.number i.posted c.if-not-post_at.ensures.posted;
      gone = gone_on c.loop-k.drafts c.loop-k.k _ (omega (arith, c.loop-k-test.true, c.loop-k.auto.k-end, i.size)) c.if-not-post_at.ensures.draft i.gone;
      rest = rest_on c.loop-k.drafts c.args.drafts.now c.loop-k.k c.index-drafts-k.result _ (omega (arith, c.loop-k-test.true, c.loop-k.auto.k-end, i.size)) i.size i.rest;
      found = loads_on _ _ _ i.found c.if-not-post_at.ensures.found;
    }

pub returns-then-not-post_at-clause-end : goal.returns-then-not-post_at-clause-end
returns-then-not-post_at-clause-end g c =
    let i = c.loop-k.invariant in
    inr (omega (arith, c.loop-k-test.true, c.loop-k.auto.k-end, i.size, i.count), loads_end _ _ _ i.found c.if-not-post_at.ensures.found)
