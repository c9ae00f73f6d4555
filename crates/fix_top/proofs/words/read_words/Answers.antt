use Rattle.std.proofs.Common.{◌≡◌, ℕ, List, [], ◌∷◌, map, subst, Bor, IfSome, IfNone}
use Rattle.fix_top.specs.declared.words.Named.{Named}
use Rattle.fix_top.specs.Words.{IsForm, IsNoForm, identity_of}
use Rattle.fix_top.proofs.WordsLemmas.{four-seen}
use Rattle.fix_top.proofs.words.read_words.Goals as goal

abbrev text : Bor (List ℕ) → List ℕ
text w = w.now

-- the four words, as they are seen
the_words : (c : goal.After-named_in) → c.as_bytes.result.now ∷ c.as_bytes-2.result.now ∷ c.as_bytes-3.result.now ∷ c.as_bytes-4.result.now ∷ [] ≡ map text c.args.words.now
the_words c =
    let w = four-seen text c.args.words.now (record { ref_ptr = (0, 0); now = [] }) c.in-len4.len_at_least c.in-len4.len_below in
    cc (w, c.as_bytes.ensures.value, c.as_bytes-2.ensures.value, c.as_bytes-3.ensures.value, c.as_bytes-4.ensures.value)

pub returns-clause-known : goal.returns-clause-known
returns-clause-known c =
    subst (λ words. IfSome c.named_in.result (λ (n : Named). IsForm words (identity_of n))) (the_words c) c.named_in.ensures.known

pub returns-clause-each : goal.returns-clause-each
returns-clause-each c =
    subst (λ words. IfNone c.named_in.result (IsNoForm words)) (the_words c) c.named_in.ensures.each
