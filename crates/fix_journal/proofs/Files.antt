-- What a write leaves of a file with a gate in the middle, whole or torn.
use Rattle.std.proofs.Common.{◌≡◌, ℕ, ◌+◌, ◌-◌, ◌<◌, ◌≤◌, List, [], ◌∷◌, ◌++◌, length, take, drop, get_or, sym, ◌∙◌, ap, arith, append_assoc, length-append, length-drop, take-append-drop}
use Rattle.std.proofs.lemmas.List.{take_at, drop_at, drop_more, length-take-le, get_or-take, get_or-drop, get_or_default, same_lists, drop-drop}
use Rattle.fix_disk.specs.Disk.{Torn, overwritten}

-- a byte of one list is that of the other, whatever stands for one past it
at_default : (xs ys : List ℕ) (i d : ℕ) → i < length xs → i < length ys → get_or xs i 0 ≡ get_or ys i 0 → get_or xs i d ≡ get_or ys i d
at_default xs ys i d lt lt' same = get_or_default xs i d 0 lt ∙ same ∙ get_or_default ys i 0 d lt'

pub torn_front : (at count : ℕ) (old new : List ℕ) → at ≤ length old → Torn at count old new → take at new ≡ take at old
torn_front at count old new within torn =
    let long_new : length (take at new) ≡ at = length-take-le at new (omega (arith, within, torn.no_shorter)) in
    let long_old : length (take at old) ≡ at = length-take-le at old within in
    same_lists (take at new) (take at old) (long_new ∙ sym long_old) (λ i d lt.
    get_or-take at new i d (omega (arith, lt, long_new))
    ∙ at_default new old i d (omega (arith, lt, long_new, within, torn.no_shorter)) (omega (arith, lt, long_new, within)) (torn.before i (omega (arith, lt, long_new, within)) (omega (arith, lt, long_new)))
    ∙ sym (get_or-take at old i d (omega (arith, lt, long_new))))

pub torn_back : (at count : ℕ) (old new : List ℕ) → at + count ≤ length old → Torn at count old new → drop (at + count) new ≡ drop (at + count) old
torn_back at count old new within torn =
    let same_length : length new ≡ length old = omega (arith, within, torn.no_shorter, torn.no_longer) in
    let long_new : length (drop (at + count) new) ≡ length new - (at + count) = length-drop (at + count) new in
    let long_old : length (drop (at + count) old) ≡ length old - (at + count) = length-drop (at + count) old in
    same_lists (drop (at + count) new) (drop (at + count) old) (omega (arith, long_new, long_old, same_length)) (λ i d lt.
    get_or-drop (at + count) new i d
    ∙ at_default new old (at + count + i) d (omega (arith, lt, long_new)) (omega (arith, lt, long_new, same_length)) (torn.after (at + count + i) (omega (arith, lt, long_new, same_length)) (omega arith))
    ∙ sym (get_or-drop (at + count) old i d))

module _ (xs : List ℕ) (gate n : ℕ) (ys : List ℕ) (behind : n ≡ length xs + 1) where
  front_is : take n (xs ++ gate ∷ ys) ≡ xs ++ gate ∷ []
  front_is = ap (take n) (sym (append_assoc xs (gate ∷ []) ys)) ∙ take_at (xs ++ gate ∷ []) ys n (omega (arith, behind, length-append xs (gate ∷ [])))

  back_is : drop n (xs ++ gate ∷ ys) ≡ ys
  back_is = ap (drop n) (sym (append_assoc xs (gate ∷ []) ys)) ∙ drop_at (xs ++ gate ∷ []) ys n (omega (arith, behind, length-append xs (gate ∷ [])))

  -- what has the same front has the gate
  pub gate_stays : (c : List ℕ) → take n c ≡ take n (xs ++ gate ∷ ys) → c ≡ xs ++ gate ∷ drop n c
  gate_stays c same = sym (take-append-drop n c) ∙ ap (λ l. l ++ drop n c) (same ∙ front_is) ∙ append_assoc xs (gate ∷ []) (drop n c)

  pub staged : (items : List ℕ) → overwritten n items (xs ++ gate ∷ ys) ≡ xs ++ gate ∷ (items ++ drop (length items) ys)
  staged items =
      ap (λ l. l ++ items ++ drop (n + length items) (xs ++ gate ∷ ys)) front_is
      ∙ ap (λ l. (xs ++ gate ∷ []) ++ items ++ l) (drop_further ∙ ap (drop (length items)) back_is)
      ∙ append_assoc (xs ++ gate ∷ []) items (drop (length items) ys)
      ∙ append_assoc xs (gate ∷ []) (items ++ drop (length items) ys)
    where
      drop_further : drop (n + length items) (xs ++ gate ∷ ys) ≡ drop (length items) (drop n (xs ++ gate ∷ ys))
      drop_further = sym (drop-drop (length items) n (xs ++ gate ∷ ys) ∙ ap (λ k. drop k (xs ++ gate ∷ ys)) (omega arith))

-- the gate alone may be torn
pub gate_torn : (xs : List ℕ) (gate n : ℕ) (zs c : List ℕ) → n ≡ length xs → Torn n 1 (xs ++ gate ∷ zs) c → c ≡ xs ++ get_or c n 0 ∷ zs
gate_torn xs gate n zs c is torn =
    let long : length (xs ++ gate ∷ zs) ≡ n + 1 + length zs = omega (arith, is, length-append xs (gate ∷ zs)) in
    let before : take n c ≡ xs = torn_front n 1 (xs ++ gate ∷ zs) c (omega (arith, long)) torn ∙ take_at xs (gate ∷ zs) n (sym is) in
    let after : drop (n + 1) c ≡ zs = torn_back n 1 (xs ++ gate ∷ zs) c (omega (arith, long)) torn ∙ back_is xs gate (n + 1) zs (omega (arith, is)) in
    sym (take-append-drop n c) ∙ ap (λ l. l ++ drop n c) before ∙ ap (λ l. xs ++ l) (drop_more c n 0 (omega (arith, long, torn.no_shorter)) ∙ ap (λ l. get_or c n 0 ∷ l) after)

pub gate_written : (xs : List ℕ) (gate new n : ℕ) (zs : List ℕ) → n ≡ length xs → overwritten n (new ∷ []) (xs ++ gate ∷ zs) ≡ xs ++ new ∷ zs
gate_written xs gate new n zs is =
    ap (λ l. l ++ (new ∷ []) ++ drop (n + 1) (xs ++ gate ∷ zs)) (take_at xs (gate ∷ zs) n (sym is))
    ∙ ap (λ l. xs ++ (new ∷ []) ++ l) (back_is xs gate (n + 1) zs (omega (arith, is)))
    ∙ append_assoc xs (new ∷ []) zs
