use Rattle.std.proofs.Common.{◌≡◌, ℕ, ◌<◌, get_or, arith, rules}
use Rattle.fix_journal.proofs.HeadLemmas.{small_size, a_record}
use Rattle.fix_journal.proofs.heads.judge.Goals as goal

pub returns-clause-judges : goal.returns-clause-judges
returns-clause-judges c = λ rest long is.
    let head = c.args.head.now in
    let gate : get_or head 0 0 ≡ 1 = search rules in
    let small : (i : ℕ) → get_or head i 0 < 256 = λ i. omega (arith, c.type_inv.head i) in
    a_record rest head (omega (arith, long, c.if-left-lt6.false)) is c.from_be_bytes-size.result c.from_be_bytes-size.ensures gate (small_size head small) (search rules) c.if-size-gt-MOST_PAYLOAD.false (omega (arith, long, c.if-left-size.false))
