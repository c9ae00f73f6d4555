-- The fields of a list, taken one after another.
use Rattle.std.proofs.Common.{◌≡◌, List, [], ◌∷◌, ◌++◌, append_assoc, append-nil, ap, sym, ◌∙◌, refl}
use Rattle.fix_base.specs.Fields.{Field}
use Rattle.fix_fields.specs.Faulty.{FieldListSeen, AreLeft}

-- these were taken, and the others are left
pub record Collected (list : FieldListSeen) (all : List Field) (now : FieldListSeen) : Type 0 where
  pub each : (fs : List Field) → AreLeft list fs → (left : List Field) × AreLeft now left × (all ++ left ≡ fs)

pub collect_none : (list now : FieldListSeen) (all : List Field) → all ≡ [] → now ≡ list → Collected list all now
collect_none list now all none same = record { each = λ fs are. (fs, rw same are, rw none refl) }

pub collect_more : (list now next : FieldListSeen) (all new : List Field) (x y : Field) → ((fs : List Field) → AreLeft now fs → (left : List Field) × (fs ≡ x ∷ left) × AreLeft next left) → y ≡ x → new ≡ all ++ y ∷ [] → Collected list all now → Collected list new next
collect_more list now next all new x y step same grown h = record {
  each = λ fs are.
      let l = h.each fs are in
      let s = step l.0 l.1 in
      (s.0, s.2, rw (grown, same) (append_assoc all (x ∷ []) s.0 ∙ ap (λ k. all ++ k) (sym s.1) ∙ l.2));
}

pub collect_all : (list now : FieldListSeen) (all : List Field) → ((fs : List Field) → AreLeft now fs → fs ≡ []) → Collected list all now → (fs : List Field) → AreLeft list fs → all ≡ fs
collect_all list now all over h fs are = let l = h.each fs are in sym (append-nil all) ∙ ap (λ k. all ++ k) (sym (over l.0 l.1)) ∙ l.2
