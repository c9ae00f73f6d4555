-- The frames of a front of a concatenation of frames are a front of these frames.
use Rattle.std.proofs.Common.{◌≡◌, ℕ, ◌-◌, List, [], ◌∷◌, ◌++◌, length, get_or, true, map, refl, sym, ap, ◌∙◌, subst, append_assoc, eq-eqb, arith}
use Rattle.std.proofs.lemmas.List.{length-append, get_or_at}
use Rattle.fix_base.specs.Shape.{IsFrame}
use Rattle.fix_base.specs.Stream.{UnreadBytes, Item, Frame, ends_in_soh, TakesAll, frames}
use Rattle.fix_base.proofs.Fronted.{nothing_ahead}
use Rattle.fix_base.proofs.Runs.{with_more, all_more, front_stays, frames-append}
use Rattle.fix_base.specs.Lists.{Among, here, there, IsPrefixOf}
use Rattle.fix_base.specs.Says.{joined}

-- what ends with an SOH
soh_ends : (xs text : List ℕ) → text ≡ xs ++ 1 ∷ [] → ends_in_soh text ≡ true
soh_ends xs text e =
    let last : get_or (xs ++ 1 ∷ []) (length (xs ++ 1 ∷ []) - 1) 0 ≡ 1 = get_or_at xs 1 [] 0 (length (xs ++ 1 ∷ []) - 1) (omega (arith, length-append xs (1 ∷ []))) in
    rw e (eq-eqb _ _ last)

-- a frame ends with an SOH
frame_ends : (text : List ℕ) → IsFrame text → ends_in_soh text ≡ true
frame_ends text f =
    let s = f.shape in
    let t = s.is_trailer in
    let l = t.is_second in
    soh_ends (f.parts.before_sum ++ t.first ++ l.value) text (s.spelled ∙ ap (λ (w : List ℕ). f.parts.before_sum ++ w) (t.spelled ∙ ap (λ (w : List ℕ). t.first ++ w) l.spelled) ∙ simp append_assoc)

-- each of these is a frame
pub record AreFrames (texts : List (List ℕ)) : Type 0 where
  pub each : (text : List ℕ) → Among text texts → IsFrame text

abbrev at_start : List ℕ → UnreadBytes
at_start bytes = record { may_mark = true; bytes = bytes }

-- frames one after the other are read as these
pub takes_frames : (texts : List (List ℕ)) → AreFrames texts → TakesAll (at_start (joined texts)) (map Frame texts) (at_start [])
takes_frames [] all = refl
takes_frames (text ∷ texts) all =
    let f = all.each text here in
    (at_start (joined texts), record { is = (refl, f); spelled = refl; mark = sym (frame_ends text f) }, takes_frames texts (record { each = λ t m. all.each t (there m) }))

pub frames_of_frames : (texts : List (List ℕ)) → frames (map Frame texts) ≡ texts
frames_of_frames [] = refl
frames_of_frames (text ∷ texts) = ap (λ w. text ∷ w) (frames_of_frames texts)

-- the frames of a front of these are a front of these
pub front_frames : (texts : List (List ℕ)) (bytes : List ℕ) (items : List Item) (rest : UnreadBytes) → AreFrames texts → IsPrefixOf bytes (joined texts) → TakesAll (at_start bytes) items rest → IsPrefixOf (frames items) texts
front_frames texts bytes items rest all front takes =
    let longer : TakesAll (at_start (bytes ++ front.rest)) items (with_more rest front.rest) = all_more (at_start bytes) items rest front.rest takes in
    let whole : TakesAll (at_start (joined texts)) items (with_more rest front.rest) = subst (λ (w : List ℕ). TakesAll (at_start w) items (with_more rest front.rest)) (sym front.is) longer in
    let stays = front_stays (at_start (joined texts)) items (map Frame texts) (with_more rest front.rest) (at_start []) whole (record { all = takes_frames texts all; end = nothing_ahead true [] refl }) in
    record { rest = frames stays.0; is = sym (frames_of_frames texts) ∙ ap (λ w. frames w) stays.1 ∙ frames-append items stays.0 }
