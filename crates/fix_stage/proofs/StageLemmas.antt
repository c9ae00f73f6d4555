-- How large what is staged is, and that all of it may be kept as one record.
use Rattle.std.proofs.Common.{◌≡◌, ◌<◌, ◌+◌, ℕ, List, [], ◌∷◌, ◌++◌, length, length-append}
use Rattle.std.proofs.Common.{true, nat_lt, Option, refl, arith}
use Rattle.std.specs.List.{AllByRecursion}
use Rattle.std.proofs.lemmas.Bool.{and_parts, ltb-true}
use Rattle.fix_base.specs.declared.entry.Entry.{Entry}
use Rattle.fix_base.specs.Payload.{HasPayload, payloads_size}
use Rattle.fix_stage.specs.Stage.{Staged, IsStaged, no_stage, staged_size, size_in_stage, has_room, with_entry}

pub payloads_size-push : (es : List Entry) (e : Entry) → payloads_size (es ++ e ∷ []) ≡ payloads_size es + size_in_stage e
payloads_size-push [] e = omega arith
payloads_size-push (x ∷ es) e = omega (arith, payloads_size-push es e)

pub all-push : {A : Type 0} (P : A → Type 0) (xs : List A) (x : A) → AllByRecursion P xs → P x → AllByRecursion P (xs ++ x ∷ [])
all-push P [] x all p = (p, tt)
all-push P (y ∷ xs) x all p = (all.0, all-push P xs x all.1 p)

pub none_staged : IsStaged no_stage × (9 ≡ staged_size [])
none_staged = (record { same = refl; few = omega arith; each = tt; fits = omega arith }, refl)

pub one_more : (s : Staged) (size : ℕ) (e : Entry) (frame : Option (List ℕ)) → IsStaged s → size ≡ staged_size s.entries
    → HasPayload e → has_room s (size_in_stage e) ≡ true
    → IsStaged (with_entry s e frame) × (size + size_in_stage e ≡ staged_size (s.entries ++ e ∷ []))
one_more s size e frame h is payload room =
    let p = and_parts (nat_lt (length s.entries) 64) (nat_lt (staged_size s.entries + size_in_stage e) 1114113) room in
    let few : length s.entries < 64 = ltb-true _ _ p.0 in
    let fits : staged_size s.entries + size_in_stage e < 1114113 = ltb-true _ _ p.1 in
    let grown : payloads_size (s.entries ++ e ∷ []) ≡ payloads_size s.entries + size_in_stage e = payloads_size-push s.entries e in (
      record {
        same = omega (arith, h.same, length-append s.entries (e ∷ []), length-append s.frames (frame ∷ []));
        few = omega (arith, few, length-append s.entries (e ∷ []));
        each = all-push HasPayload s.entries e h.each payload;
        fits = omega (arith, fits, grown);
      },
      omega (arith, grown, is),
    )
