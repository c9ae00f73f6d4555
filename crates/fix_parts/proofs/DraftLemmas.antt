-- The drafts that an application in memory gives, one after another.
use Rattle.std.proofs.Common.{◌≡◌, ℕ, zero, suc, ◌+◌, ◌<◌, ◌≤◌, List, [], ◌∷◌, ◌++◌, length, map, drop, take, true, Option, Some, None, option_map, refl, ap, ◌∙◌, arith, add-one}
use Rattle.std.specs.Option.{is_some}
use Rattle.fix_base.specs.Parts.{extended, given_draft}
use Rattle.fix_fields.specs.Drafted.{DraftText, draft_body}

-- the first of those that are left goes behind those that were given
pub record Gave (n : ℕ) (bodies : List (List ℕ)) (body : List ℕ) (later : List (List ℕ)) : Type 0 where
  pub more : n < length bodies
  pub left : drop (suc n) bodies ≡ later
  pub given : take (suc n) bodies ≡ take n bodies ++ body ∷ []

gives_first : (n : ℕ) (bodies : List (List ℕ)) (body : List ℕ) (later : List (List ℕ)) → drop n bodies ≡ body ∷ later → Gave n bodies body later
gives_first zero [] body later e = cc
gives_first (suc n) [] body later e = cc
gives_first zero (b ∷ bs) body later e = let first : b ≡ body = cc in let rest : bs ≡ later = cc in record { more = omega arith; left = rest; given = ap (λ (x : List ℕ). x ∷ []) first }
gives_first (suc n) (b ∷ bs) body later e = let h = gives_first n bs body later e in record { more = let m = h.more in omega (arith, m); left = h.left; given = ap (λ (w : List (List ℕ)). b ∷ w) h.given }

-- what a draft that was given changes of the copies of all
pub record GaveOne (n : ℕ) (drafts : List DraftText) (new : List (List ℕ)) (draft : Option DraftText) : Type 0 where
  pub few : n + 1 ≤ length drafts
  pub left : drop (n + 1) (map draft_body drafts) ≡ new
  pub given : Some (take (n + 1) (map draft_body drafts)) ≡ extended (Some (take n (map draft_body drafts))) (given_draft (option_map draft_body draft))

length_bodies : (drafts : List DraftText) → length (map draft_body drafts) ≡ length drafts
length_bodies [] = refl
length_bodies (d ∷ ds) = ap suc (length_bodies ds)

pub gave : (n : ℕ) (drafts : List DraftText) (old new : List (List ℕ)) (draft : Option DraftText) → is_some draft ≡ true → drop n (map draft_body drafts) ≡ old → old ≡ given_draft (option_map draft_body draft) ++ new → GaveOne n drafts new draft
gave n drafts old new None is e f = cc
gave n drafts old new (Some d) is e f =
    let bodies = map draft_body drafts in
    let h = gives_first n bodies (draft_body d) new (e ∙ f) in
    let more = h.more in
    record {
      few = omega (arith, more, length_bodies drafts);
      left = rw add-one h.left;
      given = rw add-one (ap Some h.given);
    }

pub taken_bodies : (n : ℕ) (drafts : List DraftText) → take n (map draft_body drafts) ≡ map draft_body (take n drafts)
taken_bodies zero drafts = refl
taken_bodies (suc n) [] = refl
taken_bodies (suc n) (d ∷ ds) = ap (λ (w : List (List ℕ)). draft_body d ∷ w) (taken_bodies n ds)
