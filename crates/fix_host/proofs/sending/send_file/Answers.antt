use Rattle.std.proofs.Common.{rules, ◌∙◌, sym, subst}
use Rattle.std.specs.Prelude.{All, IsSome}
use Rattle.fix_host.proofs.SendLemmas.{all_some, no_more, has_sent}
use Rattle.fix_host.proofs.sending.send_file.Goals as goal

pub post_all-posted-requires-clause-some : goal.post_all-posted-requires-clause-some
post_all-posted-requires-clause-some g c =
    let (ds, is, lines) = c.requires.drafts in
    subst (λ xs. All (λ d. IsSome d) xs) (sym (c.as_mut_slice.ensures.value ∙ is)) (all_some ds)

pub invariant_of-result : goal.invariant_of-result
invariant_of-result g c =
    let (ds, is, lines) = c.requires.drafts in
    let e = c.post_all-posted.ensures in
    record {
      sent = ∣ has_sent c.post_all-posted.new.pass _ c.post_all-posted.result c.len-count.result _ c.args.file c.as_mut_slice.result.now ds (c.as_mut_slice.ensures.value ∙ is) lines
          (search rules) (no_more _ _ _ _ e.end) e.pass.1 c.requires.pass.1 e.posted ∣₁;
    }
