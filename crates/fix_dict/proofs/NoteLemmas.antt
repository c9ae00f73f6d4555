-- Notes of tags, one after another.
use Rattle.std.proofs.Common.{◌≡◌, ℕ, ◌+◌, ◌<◌, inl, inr, List, [], ◌∷◌, ◌++◌, length, get_or, sym, ap, ◌∙◌, arith}
use Rattle.std.proofs.lemmas.Grind.{common_steps}
use Rattle.std.proofs.lemmas.Bool.{cases_lt}
use Rattle.fix_fields.specs.Shapes.{Shapes}
use Rattle.fix_dict.specs.declared.note.TagNote.{TagNote}
use Rattle.fix_dict.specs.Fields.{FieldTable}
use Rattle.fix_dict.specs.Notes.{note_of, AreNotes}

pub no_notes : (fields : FieldTable) (header trailer : Shapes) → AreNotes fields header trailer []
no_notes fields header trailer i d h = absurd (omega (arith, h))

pub old_one : {X : Type 0} (xs : List X) (x d : X) (i : ℕ) → i < length xs → get_or (xs ++ x ∷ []) i d ≡ get_or xs i d
old_one xs x d i h = grind (arith, common_steps)

pub new_one : {X : Type 0} (xs : List X) (x d : X) (i : ℕ) → i ≡ length xs → get_or (xs ++ x ∷ []) i d ≡ x
new_one xs x d i h = grind (arith, common_steps)

pub longer : {X : Type 0} (xs : List X) (x : X) → length (xs ++ x ∷ []) ≡ length xs + 1
longer xs x = grind (arith, common_steps)

-- with the note of the next tag
pub notes_more : (fields : FieldTable) (header trailer : Shapes) (old new : List TagNote) (i tag : ℕ) (note : TagNote) → AreNotes fields header trailer old → length old ≡ i → tag ≡ i + 1
    → note ≡ note_of fields header trailer tag → new ≡ old ++ note ∷ [] → AreNotes fields header trailer new
notes_more fields header trailer old new i tag note are n t is e k d h =
    let lt : k < length old + 1 = omega (arith, h, ap length e, longer old note) in
    ap (λ l. get_or l k d) e ∙ elim (cases_lt k (length old)) [
      | inl before ↦ old_one old note d k before ∙ are k d before
      | inr not_before ↦ let same : k ≡ length old = omega (arith, lt, not_before) in
          new_one old note d k same ∙ is ∙ ap (note_of fields header trailer) (t ∙ ap (λ m. m + 1) (sym n ∙ sym same))
    ]

pub one_more : {X : Type 0} (old new : List X) (i : ℕ) (note : X) → length old ≡ i → new ≡ old ++ note ∷ [] → length new ≡ i + 1
one_more old new i note n e = ap length e ∙ longer old note ∙ ap (λ m. m + 1) n
