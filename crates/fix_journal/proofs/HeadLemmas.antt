-- What the first five bytes from a gate on say of the rest.
use Rattle.std.proofs.Common.{◌≡◌, ℕ, ◌+◌, ◌-◌, ◌<◌, ◌≤◌, zero, suc, List, [], ◌∷◌, ◌++◌, length, take, drop, get_or, refl, sym, ◌∙◌, ap, arith, append_assoc, length-append, length-drop, take-append-drop}
use Rattle.std.specs.Int.{w32, to_be_bytes, from_be_bytes}
use Rattle.std.proofs.lemmas.Nat.{be_bytes_4, from_be_bytes-to_be_bytes_4}
use Rattle.std.proofs.lemmas.List.{take_at, length-take-le}
use Rattle.fix_journal.specs.Format.{OPEN, MOST_PAYLOAD, body_of, HoldsNoRecord}
use Rattle.fix_journal.specs.Opening.{Judges}
use Rattle.fix_journal.specs.declared.heads.Head.TheVariants.{Record}

-- the four bytes behind the first
abbrev pub size_of : List ℕ → List ℕ
size_of head = get_or head 1 0 ∷ get_or head 2 0 ∷ get_or head 3 0 ∷ get_or head 4 0 ∷ []

pub small_size : (head : List ℕ) → ((i : ℕ) → get_or head i 0 < 256) → (i : ℕ) → get_or (size_of head) i 0 < 256
small_size head small zero = small 1
small_size head small (suc zero) = small 2
small_size head small (suc (suc zero)) = small 3
small_size head small (suc (suc (suc zero))) = small 4
small_size head small (suc (suc (suc (suc i)))) = omega arith

pub too_short : (rest : List ℕ) → length rest < 6 → HoldsNoRecord (drop 1 rest)
too_short rest short payload next later fits is =
    absurd (omega (arith, short, fits.0, ap length is, length-drop 1 rest, length-append (body_of payload) (next ∷ later), length-append (to_be_bytes w32 (length payload)) payload))

module _ (rest head : List ℕ) (long : 5 ≤ length rest) (is : head ≡ take 5 rest) (size : ℕ) (size_is : size ≡ from_be_bytes w32 (size_of head)) where
  in_rest : size_of head ≡ take 4 (drop 1 rest)
  in_rest = ap size_of is ∙ shown rest long
    where
      shown : (l : List ℕ) → 5 ≤ length l → size_of (take 5 l) ≡ take 4 (drop 1 l)
      shown [] le = absurd (omega (arith, le))
      shown (a ∷ []) le = absurd (omega (arith, le))
      shown (a ∷ b ∷ []) le = absurd (omega (arith, le))
      shown (a ∷ b ∷ c ∷ []) le = absurd (omega (arith, le))
      shown (a ∷ b ∷ c ∷ d ∷ []) le = absurd (omega (arith, le))
      shown (a ∷ b ∷ c ∷ d ∷ e ∷ l) le = refl

  pub no_record : (1 ≤ size → size ≤ MOST_PAYLOAD → 5 + size < length rest → ⊥) → HoldsNoRecord (drop 1 rest)
  no_record bad payload next later fits at =
      let bytes = to_be_bytes w32 (length payload) in
      let first : take 4 (drop 1 rest) ≡ bytes = ap (take 4) (at ∙ append_assoc bytes payload (next ∷ later)) ∙ take_at bytes (payload ++ next ∷ later) 4 refl in
      let same : size ≡ length payload = size_is ∙ ap (from_be_bytes w32) (in_rest ∙ first) ∙ from_be_bytes-to_be_bytes_4 (length payload) (omega (arith, fits.1)) in
      let whole : length rest - 1 ≡ 4 + length payload + 1 + length later = omega (arith, ap length at, length-drop 1 rest, length-append (body_of payload) (next ∷ later), length-append bytes payload) in
      bad (omega (arith, same, fits.0)) (omega (arith, same, fits.1)) (omega (arith, same, whole, long))

  pub a_record : get_or head 0 0 ≡ OPEN → ((i : ℕ) → get_or (size_of head) i 0 < 256) → 1 ≤ size → size ≤ MOST_PAYLOAD → 5 + size < length rest → Judges (Record size) rest
  a_record gate small some few within =
      let payload = take size (drop 5 rest) in
      let size_long : length payload ≡ size = length-take-le size (drop 5 rest) (omega (arith, within, length-drop 5 rest)) in
      let bytes : to_be_bytes w32 (length payload) ≡ take 4 (drop 1 rest) = be_bytes_4 (size_of head) (length payload) refl small (size_long ∙ size_is) ∙ in_rest in
      let whole : rest ≡ get_or head 0 0 ∷ (take 4 (drop 1 rest) ++ drop 5 rest) = shown rest long ∙ ap (λ l. get_or l 0 0 ∷ (take 4 (drop 1 rest) ++ drop 5 rest)) (sym is) in (
        payload,
        (omega (arith, size_long, some), omega (arith, size_long, few)),
        size_long,
        whole
            ∙ ap (λ g. g ∷ (take 4 (drop 1 rest) ++ drop 5 rest)) gate
            ∙ ap (λ l. OPEN ∷ (take 4 (drop 1 rest) ++ l)) (sym (take-append-drop size (drop 5 rest)))
            ∙ ap (λ l. OPEN ∷ l) (sym (append_assoc (take 4 (drop 1 rest)) payload (drop size (drop 5 rest))))
            ∙ ap (λ l. OPEN ∷ ((l ++ payload) ++ drop size (drop 5 rest))) (sym bytes),
      )
    where
      shown : (l : List ℕ) → 5 ≤ length l → l ≡ get_or (take 5 l) 0 0 ∷ (take 4 (drop 1 l) ++ drop 5 l)
      shown [] le = absurd (omega (arith, le))
      shown (a ∷ []) le = absurd (omega (arith, le))
      shown (a ∷ b ∷ []) le = absurd (omega (arith, le))
      shown (a ∷ b ∷ c ∷ []) le = absurd (omega (arith, le))
      shown (a ∷ b ∷ c ∷ d ∷ []) le = absurd (omega (arith, le))
      shown (a ∷ b ∷ c ∷ d ∷ e ∷ l) le = refl
