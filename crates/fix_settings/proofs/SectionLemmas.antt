-- The pairs of a session's section, key by key.
use Rattle.std.proofs.Common.{◌≡◌, ℕ, ◌+◌, ◌<◌, List, [], ◌∷◌, ◌++◌, length, map, take, get_or, Option, None, option_map, sym, ap, ◌∙◌, add-one, arith}
use Rattle.std.specs.Option.{option_or}
use Rattle.std.proofs.lemmas.List.{map-append, get_or-map}
use Rattle.std.proofs.Math.Seq.{take-suc}
use Rattle.fix_settings.specs.declared.key.Key.{Key}
use Rattle.fix_settings.specs.declared.line.PairRef.{PairRef}
use Rattle.fix_settings.specs.Lines.{Pair, last_of}
use Rattle.fix_settings.specs.Lent.{pair_read, pairs_read}
use Rattle.fix_settings.specs.Table.{name_of}
use Rattle.fix_settings.specs.Reading.{pair_for}
use Rattle.fix_settings.proofs.LineLemmas.{read_or}

-- the default pair at a place
default_at : (of : List Pair) (keys : List Key) (defaults : List (Option PairRef)) (i : ℕ) (d : Key) → i < length keys → length defaults ≡ length keys → pairs_read defaults ≡ map (λ k. last_of (name_of k) of) keys → option_map pair_read (get_or defaults i None) ≡ last_of (name_of (get_or keys i d)) of
default_at of keys defaults i d lt long are =
    let a : get_or (pairs_read defaults) i None ≡ option_map pair_read (get_or defaults i None) = get_or-map (option_map pair_read) defaults i None None (omega arith) in
    let b : get_or (map (λ k. last_of (name_of k) of) keys) i None ≡ last_of (name_of (get_or keys i d)) of = get_or-map (λ k. last_of (name_of k) of) keys i d None lt in
    sym a ∙ ap (λ xs. get_or xs i None) are ∙ b

-- one more key
pub session_more : (of own : List Pair) (keys : List Key) (defaults made : List (Option PairRef)) (i : ℕ) (d : Key) (x last default : Option PairRef) → i < length keys → length defaults ≡ length keys → option_map pair_read last ≡ last_of (name_of (get_or keys i d)) own → default ≡ get_or defaults i None → x ≡ option_or last default → pairs_read defaults ≡ map (λ k. last_of (name_of k) of) keys → pairs_read made ≡ map (pair_for of own) (take i keys) → pairs_read (made ++ x ∷ []) ≡ map (pair_for of own) (take (i + 1) keys)
session_more of own keys defaults made i d x last default lt long l is o are inv =
    let e : option_map pair_read x ≡ pair_for of own (get_or keys i d) =
    ap (option_map pair_read) o ∙ read_or last default ∙ ap (λ y. option_or y (option_map pair_read default)) l
    ∙ ap (λ y. option_or (last_of (name_of (get_or keys i d)) own) (option_map pair_read y)) is
    ∙ ap (option_or (last_of (name_of (get_or keys i d)) own)) (default_at of keys defaults i d lt long are) in
    let front : pairs_read (made ++ x ∷ []) ≡ map (pair_for of own) (take i keys) ++ pair_for of own (get_or keys i d) ∷ [] =
    map-append (option_map pair_read) made (x ∷ []) ∙ ap (λ xs. xs ++ option_map pair_read x ∷ []) inv ∙ ap (λ y. map (pair_for of own) (take i keys) ++ y ∷ []) e in
    let keys_are : take (i + 1) keys ≡ take i keys ++ get_or keys i d ∷ [] = rw add-one (take-suc keys i d lt) in
    front ∙ sym (ap (map (pair_for of own)) keys_are ∙ map-append (pair_for of own) (take i keys) (get_or keys i d ∷ []))
