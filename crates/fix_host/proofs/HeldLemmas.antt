-- What a connection gives of which bytes were read ahead.
use Rattle.std.proofs.Common.{◌≡◌, ℕ, suc, zero, ◌+◌, ◌-◌, ◌<◌, ◌≤◌, min, List, [], ◌∷◌, length, take, drop, refl, sym, ap, ◌∙◌, arith}
use Rattle.std.proofs.lemmas.List.{drop_all, length-drop}
use Rattle.std.proofs.Math.Seq.{drop-nil}
use Rattle.fix_parts.specs.Link.{LinkSeen, LinkReads}
use Rattle.fix_outside.specs.declared.connection.ReadTurn.{ReadTurn}
use Rattle.fix_outside.specs.declared.connection.ReadTurn.TheVariants as read
use Rattle.fix_host.specs.Held.{HeldReads}
use Rattle.fix_host.specs.Held as held

-- nothing is left ahead
pub read_link : (turn : ReadTurn) (room xs : List ℕ) (given : ℕ) (inner inner' : LinkSeen) → length xs ≤ given → LinkReads turn room inner inner' → HeldReads turn room (drop given xs) (drop given xs) inner inner'
read_link turn room xs given inner inner' none moves = rw (drop_all given xs none) (held.of_link moves)

dropped_on : (i n : ℕ) (xs : List ℕ) → drop (i + n) xs ≡ drop n (drop i xs)
dropped_on zero n xs = let e : zero + n ≡ n = omega arith in ap (λ k. drop k xs) e
dropped_on (suc i) n [] = drop-nil (suc i + n) ∙ sym (drop-nil n)
dropped_on (suc i) n (x ∷ xs) = let e : suc i + n ≡ suc (i + n) = omega arith in ap (λ k. drop k (x ∷ xs)) e ∙ dropped_on i n xs

-- the whole rest of the bytes ahead
rest_is : (given : ℕ) (xs : List ℕ) → take (length xs - given) (drop given xs) ≡ drop given xs
rest_is given xs = let e : length xs - given ≡ length (drop given xs) = sym (length-drop given xs) in ap (λ k. take k (drop given xs)) e ∙ take_all_of (drop given xs)
  where
    take_all_of : (ys : List ℕ) → take (length ys) ys ≡ ys
    take_all_of [] = refl
    take_all_of (y ∷ ys) = ap (λ zs. y ∷ zs) (take_all_of ys)

-- some bytes are
pub read_ahead : (n given : ℕ) (xs room : List ℕ) (inner : LinkSeen) → given < length xs → n ≡ min (length (take (length xs - given) (drop given xs))) (length room) → take n room ≡ take n (take (length xs - given) (drop given xs)) → HeldReads (read.Bytes n) room (drop given xs) (drop (given + n) xs) inner inner
read_ahead n given xs room inner some many bytes =
    let left : 0 < length (drop given xs) = omega (arith, length-drop given xs, some) in
    rw (dropped_on given n xs) (held.of_ahead n (drop given xs) inner left (many ∙ ap (λ ys. min (length ys) (length room)) (rest_is given xs)) refl (bytes ∙ ap (take n) (rest_is given xs)))
