use Rattle.std.proofs.Common.{◌≡◌, ◌-◌, ◌++◌, length, take, drop, sym, ◌∙◌, ap, arith, take-append-drop, append_assoc, length-drop}
use Rattle.std.proofs.lemmas.List.{take_all}
use Rattle.fix_store.proofs.fetching.part_of.Goals as goal

pub returns-clause-within : goal.returns-clause-within
returns-clause-within c =
    let bytes = c.args.payload.now in
    let rest = c.nth_part.ensures.within in
    let all : take (length bytes - 9) (drop 9 bytes) ≡ drop 9 bytes = take_all (length bytes - 9) (drop 9 bytes) (omega (arith, length-drop 9 bytes)) in
    (take 9 bytes ++ rest.0, sym (take-append-drop 9 bytes) ∙ ap (λ l. take 9 bytes ++ l) (sym all ∙ rest.1) ∙ sym (append_assoc (take 9 bytes) rest.0 _))
