-- One fixed place of a frame at the front of bytes.
use Rattle.std.proofs.Common.{◌≡◌, ◌≢◌, ℕ, ◌+◌, ◌-◌, ◌<◌, ◌≤◌, List, [], ◌∷◌, ◌++◌, length, get_or, take, drop, replicate, refl, sym, ap, subst, ◌∙◌, append_assoc, arith, inl, inr}
use Rattle.std.proofs.lemmas.Bool.{cases_lt}
use Rattle.std.proofs.lemmas.List.{length-append, length-take-le, length-replicate, get_or_append_left, get_or_at, get_or-take, take-append-drop, take_at, take-append-le, take-take, same_from_push, drop_more, take_rest}
use Rattle.std.proofs.lemmas.List.Prefix.{front_from_reads, front_reads}
use Rattle.fix_base.specs.Front.{Begins, NeverBegins, IsPartOf}
use Rattle.fix_base.specs.Frame.{IsText, IsLong, HasNoSoh, IsLine}
use Rattle.fix_base.proofs.Fronts.{IsPrefixFree}

-- the rest as a slice gives it
abbrev pub from : ℕ → List ℕ → List ℕ
from n bytes = take (length bytes - n) (drop n bytes)

-- ---- one text

pub text_begins : (bytes text : List ℕ) → length text ≤ length bytes → ((k : ℕ) → k < length text → get_or bytes k 0 ≡ get_or text k 0) → Begins (IsText text) bytes (from (length text) bytes)
text_begins bytes text fits same = record { text = text; is = refl; spelled = front_from_reads 0 bytes text fits same ∙ ap (λ (t : List ℕ). text ++ t) (sym (take_rest bytes (length text))) }

pub text_partial : (bytes text : List ℕ) → length bytes < length text → ((k : ℕ) → k < length bytes → get_or bytes k 0 ≡ get_or text k 0) → IsPartOf (IsText text) bytes
text_partial bytes text short same =
    let whole : text ≡ bytes ++ drop (length bytes) text = front_from_reads 0 text bytes (omega arith) (λ k lt. sym (same k lt)) in
    record { missing = drop (length bytes) text; nonempty = omega (arith, ap length whole, length-append bytes (drop (length bytes) text)); is = sym whole }

pub text_wrong : (bytes text : List ℕ) (i : ℕ) → i < length bytes → i < length text → (get_or bytes i 0 ≢ get_or text i 0) → NeverBegins (IsText text) bytes
text_wrong bytes text i in_bytes in_text apart = record {
  refutes = λ more rest b.
      apart (sym (get_or_append_left bytes more 0 i in_bytes) ∙ front_reads 0 (bytes ++ more) text rest (b.spelled ∙ ap (λ (t : List ℕ). t ++ rest) b.is) i in_text);
}

pub text_free : (text : List ℕ) → IsPrefixFree (λ (_ : Unit {0}). IsText text)
text_free text = record { same = λ _ _ a b u v p q e. p ∙ sym q; value = λ _ _ a p q. refl }

-- ---- so many bytes

pub long_begins : (bytes : List ℕ) (n : ℕ) → n ≤ length bytes → Begins (IsLong n) bytes (from n bytes)
long_begins bytes n fits = record { text = take n bytes; is = length-take-le n bytes fits; spelled = sym (take-append-drop n bytes) ∙ ap (λ (t : List ℕ). take n bytes ++ t) (sym (take_rest bytes n)) }

pub long_partial : (bytes : List ℕ) (n : ℕ) → length bytes < n → IsPartOf (IsLong n) bytes
long_partial bytes n short =
    let filled = length-replicate {A = ℕ} (n - length bytes) 0 in
    record { missing = replicate (n - length bytes) 0; nonempty = omega (arith, filled); is = omega (arith, filled, length-append bytes (replicate (n - length bytes) 0)) }

pub long_free : (n : ℕ) → IsPrefixFree (λ (_ : Unit {0}). IsLong n)
long_free n = record {
  same = λ _ _ a b u v p q e. sym (take_at a u n p) ∙ ap (take n) e ∙ take_at b v n q;
  value = λ _ _ a p q. refl;
}

-- ---- a value and its SOH

-- the value reads as the bytes do, and the SOH stands behind it
line_soh : (s v rest : List ℕ) → s ≡ (v ++ 1 ∷ []) ++ rest → get_or s (length v) 0 ≡ 1
line_soh s v rest e = ap (λ (t : List ℕ). get_or t (length v) 0) (e ∙ append_assoc v (1 ∷ []) rest) ∙ get_or_at v 1 rest 0 (length v) refl

line_value : (s v rest : List ℕ) → s ≡ (v ++ 1 ∷ []) ++ rest → (k : ℕ) → k < length v → get_or s k 0 ≡ get_or v k 0
line_value s v rest e k lt = front_reads 0 s v (1 ∷ rest) (e ∙ append_assoc v (1 ∷ []) rest) k lt

-- the value ends no earlier than the first SOH
line_reaches : (s v rest : List ℕ) (i : ℕ) → s ≡ (v ++ 1 ∷ []) ++ rest → ((k : ℕ) → k < i → get_or s k 0 ≢ 1) → i ≤ length v
line_reaches s v rest i e clear =
    elim (cases_lt (length v) i) [ inl lt ↦ absurd (clear (length v) lt (line_soh s v rest e)) | inr le ↦ le ]

-- and no later
line_ends : (s v rest : List ℕ) (i : ℕ) → s ≡ (v ++ 1 ∷ []) ++ rest → HasNoSoh v → get_or s i 0 ≡ 1 → length v ≤ i
line_ends s v rest i e clear soh =
    elim (cases_lt i (length v)) [ inl lt ↦ absurd (clear i lt (sym (line_value s v rest e i lt) ∙ soh)) | inr le ↦ le ]

-- the value is the front of the bytes
line_front : (s v rest : List ℕ) → s ≡ (v ++ 1 ∷ []) ++ rest → take (length v) s ≡ v
line_front s v rest e = ap (take (length v)) (e ∙ append_assoc v (1 ∷ []) rest) ∙ take_at v (1 ∷ rest) (length v) refl

pub line_free : {Y : Type 0} (P : Y → List ℕ → Type 0) → ((y z : Y) (a : List ℕ) → P y a → P z a → y ≡ z) → IsPrefixFree (λ y. IsLine (P y))
line_free P one = record {
  same = λ y z a b u v p q e.
      let left : a ++ u ≡ (p.value ++ 1 ∷ []) ++ u = ap (λ (t : List ℕ). t ++ u) p.spelled in
      let right : a ++ u ≡ (q.value ++ 1 ∷ []) ++ v = e ∙ ap (λ (t : List ℕ). t ++ v) q.spelled in
      let le : length p.value ≤ length q.value = line_reaches (a ++ u) q.value v (length p.value) right (λ k lt h. p.no_soh k lt (sym (line_value (a ++ u) p.value u left k lt) ∙ h)) in
      let ge : length q.value ≤ length p.value = line_reaches (a ++ u) p.value u (length q.value) left (λ k lt h. q.no_soh k lt (sym (line_value (a ++ u) q.value v right k lt) ∙ h)) in
      let len : length p.value ≡ length q.value = omega arith in
      let value : p.value ≡ q.value = sym (line_front (a ++ u) p.value u left) ∙ ap (λ n. take n (a ++ u)) len ∙ line_front (a ++ u) q.value v right in
      p.spelled ∙ ap (λ (t : List ℕ). t ++ 1 ∷ []) value ∙ sym q.spelled;
  value = λ y z a p q. one y z q.value (subst (P y) (same_from_push p.value q.value 1 1 (sym p.spelled ∙ q.spelled)).0 p.is) q.is;
}

-- the first SOH stands at i, and what is before it is a value
pub line_begins : (P : List ℕ → Type 0) (bytes : List ℕ) (i : ℕ) → i < length bytes → ((k : ℕ) → k < i → get_or bytes k 0 ≢ 1) → get_or bytes i 0 ≡ 1 → P (take i bytes) → Begins (IsLine P) bytes (from (i + 1) bytes)
line_begins P bytes i lt clear soh p =
    let len : length (take i bytes) ≡ i = length-take-le i bytes (omega arith) in
    let behind : drop i bytes ≡ 1 ∷ drop (i + 1) bytes = drop_more bytes i 0 lt ∙ ap (λ b. b ∷ drop (i + 1) bytes) soh in
    record {
      text = take i bytes ++ 1 ∷ [];
      is = record { value = take i bytes; no_soh = λ k h. rw (get_or-take i bytes k 0 (omega arith)) (clear k (omega arith)); is = p; spelled = refl };
      spelled = sym (take-append-drop i bytes) ∙ ap (λ (t : List ℕ). take i bytes ++ t) (behind ∙ ap (λ (t : List ℕ). 1 ∷ t) (sym (take_rest bytes (i + 1)))) ∙ sym (append_assoc (take i bytes) (1 ∷ []) (from (i + 1) bytes));
    }

-- the first SOH stands at i, and what is before it is no value
pub line_wrong_at : (P : List ℕ → Type 0) (bytes : List ℕ) (i : ℕ) → i < length bytes → ((k : ℕ) → k < i → get_or bytes k 0 ≢ 1) → get_or bytes i 0 ≡ 1 → (P (take i bytes) → ⊥) → NeverBegins (IsLine P) bytes
line_wrong_at P bytes i lt clear soh never = record {
  refutes = λ more rest b.
      let s = bytes ++ more in
      let e : s ≡ (b.is.value ++ 1 ∷ []) ++ rest = b.spelled ∙ ap (λ (t : List ℕ). t ++ rest) b.is.spelled in
      let at : (k : ℕ) → k < length bytes → get_or s k 0 ≡ get_or bytes k 0 = λ k h. get_or_append_left bytes more 0 k h in
      let reaches : i ≤ length b.is.value = line_reaches s b.is.value rest i e (λ k h x. clear k h (sym (at k (omega arith)) ∙ x)) in
      let ends : length b.is.value ≤ i = line_ends s b.is.value rest i e b.is.no_soh (at i lt ∙ soh) in
      let len : length b.is.value ≡ i = omega arith in
      let value : take i bytes ≡ b.is.value = sym (take-append-le i bytes more (omega arith)) ∙ ap (λ n. take n s) (sym len) ∙ line_front s b.is.value rest e in
      never (subst P (sym value) b.is.is);
}

-- no SOH is among the first i, and no value begins so
pub line_wrong : (P : List ℕ → Type 0) (bytes : List ℕ) (i : ℕ) → i ≤ length bytes → ((k : ℕ) → k < i → get_or bytes k 0 ≢ 1) → ((w : List ℕ) → P (take i bytes ++ w) → ⊥) → NeverBegins (IsLine P) bytes
line_wrong P bytes i le clear never = record {
  refutes = λ more rest b.
      let s = bytes ++ more in
      let e : s ≡ (b.is.value ++ 1 ∷ []) ++ rest = b.spelled ∙ ap (λ (t : List ℕ). t ++ rest) b.is.spelled in
      let reaches : i ≤ length b.is.value = line_reaches s b.is.value rest i e (λ k h x. clear k h (sym (get_or_append_left bytes more 0 k (omega arith)) ∙ x)) in
      let front : take i b.is.value ≡ take i bytes = ap (take i) (sym (line_front s b.is.value rest e)) ∙ take-take i (length b.is.value) s reaches ∙ take-append-le i bytes more le in
      never (drop i b.is.value) (subst P (sym (take-append-drop i b.is.value) ∙ ap (λ (t : List ℕ). t ++ drop i b.is.value) front) b.is.is);
}

-- the bytes go on as a value
pub line_partial : (P : List ℕ → Type 0) (bytes w : List ℕ) → HasNoSoh (bytes ++ w) → P (bytes ++ w) → IsPartOf (IsLine P) bytes
line_partial P bytes w clear p = record {
  missing = w ++ 1 ∷ [];
  nonempty = omega (arith, length-append w (1 ∷ []));
  is = record { value = bytes ++ w; no_soh = clear; is = p; spelled = sym (append_assoc bytes w (1 ∷ [])) };
}
