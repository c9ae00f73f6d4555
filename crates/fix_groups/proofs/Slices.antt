-- Slices of fields, and the tags and numbers that they say.
use Rattle.std.proofs.Common.{◌≡◌, ℕ, ◌+◌, ◌<◌, List, [], ◌∷◌, ◌++◌, length, take, drop, get_or, append_assoc, append-nil, true, false, if◌then◌else◌, refl, ap, sym, ◌∙◌, arith}
use Rattle.std.proofs.Math.Seq.{take-add}
use Rattle.std.proofs.lemmas.Grind.{common_steps}
use Rattle.fix_base.specs.Fields.{Field}
use Rattle.fix_fields.specs.Shapes.{Shapes}
use Rattle.fix_fields.specs.NoTwice.{has_tag}
use Rattle.fix_groups.specs.Runs.{run_of}
use Rattle.fix_groups.specs.Tagged.{tagged, all_tagged}

pub tagged-append : (a b : List Field) → all_tagged (a ++ b) ≡ all_tagged a ++ all_tagged b
tagged-append [] b = refl
tagged-append (f ∷ a) b = ap (λ l. tagged f ∷ l) (tagged-append a b)

take_more : (fs : List Field) (n : ℕ) (d : Field) → n < length fs → take (n + 1) fs ≡ take n fs ++ get_or fs n d ∷ []
take_more fs n d h = grind (arith, common_steps, take-add)

drop_more : (fs : List Field) (n : ℕ) (d : Field) → n < length fs → drop n fs ≡ get_or fs n d ∷ drop (n + 1) fs
drop_more fs n d h = grind (arith, common_steps)

pub tagged_taken : (fs : List Field) (n : ℕ) (d : Field) → n < length fs → all_tagged (take (n + 1) fs) ≡ all_tagged (take n fs) ++ tagged (get_or fs n d) ∷ []
tagged_taken fs n d h = ap all_tagged (take_more fs n d h) ∙ tagged-append (take n fs) (get_or fs n d ∷ [])

pub tagged_dropped : (fs : List Field) (n : ℕ) (d : Field) → n < length fs → all_tagged (drop n fs) ≡ tagged (get_or fs n d) ∷ all_tagged (drop (n + 1) fs)
tagged_dropped fs n d h = ap all_tagged (drop_more fs n d h)

pub tagged-length : (fs : List Field) → length (all_tagged fs) ≡ length fs
tagged-length [] = refl
tagged-length (f ∷ fs) = grind (arith, common_steps, tagged-length fs)

-- a run that goes on by one field more
pub run_taken : (g : Shapes) (fs : List Field) (n : ℕ) (d : Field) → n < length fs → has_tag (get_or fs n d).tag g ≡ true → run_of g (all_tagged fs) ≡ all_tagged (take n fs) ++ run_of g (all_tagged (drop n fs))
    → run_of g (all_tagged fs) ≡ all_tagged (take (n + 1) fs) ++ run_of g (all_tagged (drop (n + 1) fs))
run_taken g fs n d lt on h =
    let e : run_of g (all_tagged (drop n fs)) ≡ tagged (get_or fs n d) ∷ run_of g (all_tagged (drop (n + 1) fs)) =
    ap (run_of g) (tagged_dropped fs n d lt) ∙ ap (λ b. if b then tagged (get_or fs n d) ∷ run_of g (all_tagged (drop (n + 1) fs)) else []) on in
    h ∙ ap (λ l. all_tagged (take n fs) ++ l) e ∙ sym (append_assoc (all_tagged (take n fs)) (tagged (get_or fs n d) ∷ []) (run_of g (all_tagged (drop (n + 1) fs)))) ∙ ap (λ l. l ++ run_of g (all_tagged (drop (n + 1) fs))) (sym (tagged_taken fs n d lt))

pub run_stops : (g : Shapes) (fs : List Field) (n : ℕ) (d : Field) → n < length fs → has_tag (get_or fs n d).tag g ≡ false → run_of g (all_tagged fs) ≡ all_tagged (take n fs) ++ run_of g (all_tagged (drop n fs)) → all_tagged (take n fs) ≡ run_of g (all_tagged fs)
run_stops g fs n d lt off h =
    let e : run_of g (all_tagged (drop n fs)) ≡ [] = ap (run_of g) (tagged_dropped fs n d lt) ∙ ap (λ b. if b then tagged (get_or fs n d) ∷ run_of g (all_tagged (drop (n + 1) fs)) else []) off in
    sym (h ∙ ap (λ l. all_tagged (take n fs) ++ l) e ∙ append-nil (all_tagged (take n fs)))
