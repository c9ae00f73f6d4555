-- One record more in a journal's file.
use Rattle.std.proofs.Common.{◌≡◌, ◌≢◌, inl, inr, ℕ, List, [], ◌∷◌, ◌++◌, sym, ◌∙◌, ap, append_assoc}
use Rattle.std.specs.Prelude.{All}
use Rattle.std.proofs.lemmas.Bool.{cases_eq}
use Rattle.std.proofs.lemmas.List.{append-nil}
use Rattle.std.proofs.lemmas.List.Elements.{All-push}
use Rattle.fix_journal.specs.Format.{OPEN, NAME, IsPayload, body_of, recorded, front, IsJournal}
use Rattle.fix_journal.specs.AtRest.{IsEither}

-- the records, then a record and what stands behind it
recorded_push : (payloads : List (List ℕ)) (payload later : List ℕ) → recorded payloads ++ OPEN ∷ (body_of payload ++ later) ≡ recorded (payloads ++ payload ∷ []) ++ later
recorded_push [] payload later = ap (λ l. OPEN ∷ l) (ap (λ l. l ++ later) (sym (append-nil (body_of payload))))
recorded_push (p ∷ payloads) payload later =
    ap (λ l. OPEN ∷ l)
    (append_assoc (body_of p) (recorded payloads) (OPEN ∷ (body_of payload ++ later))
    ∙ ap (λ l. body_of p ++ l) (recorded_push payloads payload later)
    ∙ sym (append_assoc (body_of p) (recorded (payloads ++ payload ∷ [])) later))

pub front_push : (payloads : List (List ℕ)) (payload later : List ℕ) → front payloads ++ OPEN ∷ (body_of payload ++ later) ≡ front (payloads ++ payload ∷ []) ++ later
front_push payloads payload later = ap (λ l. OPEN ∷ (NAME ++ l)) (recorded_push payloads payload later)

module _ (payloads : List (List ℕ)) (payload : List ℕ) (each : All IsPayload payloads) (fits : IsPayload payload) where
  pub is_before : (file : List ℕ) (gate : ℕ) (behind : List ℕ) → file ≡ front payloads ++ gate ∷ behind → gate ≢ OPEN → IsJournal file payloads
  is_before file gate behind is closed = record { gate = gate; behind = behind; is = is; closed = closed; each = each }

  pub is_after : (file : List ℕ) (gate : ℕ) (behind : List ℕ) → file ≡ front payloads ++ OPEN ∷ (body_of payload ++ gate ∷ behind) → gate ≢ OPEN → IsJournal file (payloads ++ payload ∷ [])
  is_after file gate behind is closed = record {
    gate = gate;
    behind = behind;
    is = is ∙ front_push payloads payload (gate ∷ behind);
    closed = closed;
    each = All-push IsPayload payloads payload each fits;
  }

  pub gate_decides : (file : List ℕ) (first gate : ℕ) (behind : List ℕ) → file ≡ front payloads ++ first ∷ (body_of payload ++ gate ∷ behind) → gate ≢ OPEN → IsEither payloads payload file
  gate_decides file first gate behind is closed = elim (cases_eq first OPEN) [
    | inl open_gate ↦ inr (is_after file gate behind (is ∙ ap (λ g. front payloads ++ g ∷ (body_of payload ++ gate ∷ behind)) open_gate) closed)
    | inr shut ↦ inl (is_before file first (body_of payload ++ gate ∷ behind) is shut)
  ]
