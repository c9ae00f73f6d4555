use Rattle.std.proofs.Common.{◌≡◌, ◌<◌, ◌++◌, ℕ, take, drop, get_or, sym, ◌∙◌, ap, subst, arith, rules, take-append-drop}
use Rattle.std.specs.Int.{w32, to_be_bytes}
use Rattle.std.proofs.lemmas.Nat.{be_bytes_4}
use Rattle.fix_store.proofs.Spellings.{small_front}
use Rattle.fix_store.proofs.numbers.number_at.Goals as goal

pub returns : goal.returns
returns c =
    let bytes = c.args.bytes.now in
    let first = c.in_ok-first.first.now in
    let front : first ≡ take 4 bytes = c.in_ok-first.ensures.cases.0 in
    let small : (i : ℕ) → get_or first i 0 < 256 = subst (λ l. (i : ℕ) → get_or l i 0 < 256) (sym front) (small_front 4 bytes (λ i. omega (arith, c.type_inv.bytes i))) in
    let number : to_be_bytes w32 c.from_be_bytes.result ≡ first = be_bytes_4 first _ (search rules) small c.from_be_bytes.ensures in (
      search rules,
      sym (take-append-drop 4 bytes)
          ∙ ap (λ l. l ++ drop 4 bytes) (sym front ∙ sym number)
          ∙ ap (λ l. to_be_bytes w32 c.from_be_bytes.result ++ l) (sym c.in_ok-first.ensures.cases.1),
    )
