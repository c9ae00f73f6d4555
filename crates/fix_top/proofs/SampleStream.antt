-- What a reader gives where a frame stands, of which a part may be still to come.
use Rattle.std.proofs.Common.{◌≡◌, ℕ, List, [], ◌∷◌, ◌++◌, true, sym, ap, subst, ◌∙◌}
use Rattle.std.proofs.lemmas.List.{append-nil}
use Rattle.fix_base.specs.Shape.{IsFrame}
use Rattle.fix_base.specs.Stream.{UnreadBytes, Item, Frame, text_of, Takes, TakesAll, HasNoItem, ends_in_soh, frames}
use Rattle.fix_base.proofs.Runs.{with_more, takes_more, takes_same}
use Rattle.fix_frame.specs.Given.{GivesFrame, GivesNone}

-- a frame, and a mark may follow it
pub record IsWhole (text : List ℕ) : Type 0 where
  pub frame : IsFrame text
  pub ends : ends_in_soh text ≡ true

-- with what is still to come, these bytes are ahead
pub record IsAhead (a : UnreadBytes) (more left : List ℕ) : Type 0 where
  pub mark : a.may_mark ≡ true
  pub bytes : a.bytes ++ more ≡ left

abbrev behind_of : List ℕ → UnreadBytes
behind_of rest = record { may_mark = true; bytes = rest }

-- with what is still to come the frame stands there
whole_takes : (a : UnreadBytes) (more text rest : List ℕ) → IsWhole text → IsAhead a more (text ++ rest) → Takes (with_more a more) (Frame text) (behind_of rest)
whole_takes a more text rest w h = record { is = (h.mark, w.frame); spelled = h.bytes; mark = sym w.ends }

-- no other item stands there
item_is : (a b : UnreadBytes) (item : Item) (more text rest : List ℕ) → IsWhole text → IsAhead a more (text ++ rest) → Takes a item b → (item ≡ Frame text) × (with_more b more ≡ behind_of rest)
item_is a b item more text rest w h t = takes_same (with_more a more) item (Frame text) (with_more b more) (behind_of rest) (takes_more a item b more t) (whole_takes a more text rest w h)

-- a frame is no item that is skipped
no_frame_skipped : (item : Item) (items : List Item) (text : List ℕ) → item ≡ Frame text → frames (item ∷ items) ≡ [] → ⊥
no_frame_skipped item items text e none = let some : frames (Frame text ∷ items) ≡ [] = subst (λ (x : Item). frames (x ∷ items) ≡ []) e none in cc

-- nothing is skipped
items_none : (a b : UnreadBytes) (items : List Item) (more text rest : List ℕ) → IsWhole text → IsAhead a more (text ++ rest) → TakesAll a items b → frames items ≡ [] → a ≡ b
items_none a b [] more text rest w h t none = t
items_none a b (item ∷ items) more text rest w h t none = absurd (no_frame_skipped item items text (item_is a t.0 item more text rest w h t.1).0 none)

-- the frame is given, and what is behind it is ahead then
pub given : (a b : UnreadBytes) (frame more text rest : List ℕ) → IsWhole text → IsAhead a more (text ++ rest) → GivesFrame a b frame → (frame ≡ text) × IsAhead b more rest
given a b frame more text rest w h g =
    let here : a ≡ g.at = items_none a g.at g.skips.items more text rest w h g.skips.take g.skips.none in
    let takes : Takes a (Frame frame) b = subst (λ (x : UnreadBytes). Takes x (Frame frame) b) (sym here) g.frame_there in
    let is = item_is a b (Frame frame) more text rest w h takes in
    (ap text_of is.0, record { mark = ap (λ (x : UnreadBytes). x.may_mark) is.1; bytes = ap (λ (x : UnreadBytes). x.bytes) is.1 })

-- none is given before all of it is there, and it is ahead still
pub none_given : (a b : UnreadBytes) (more text rest : List ℕ) → IsWhole text → IsAhead a more (text ++ rest) → GivesNone a b → IsAhead b more (text ++ rest) × HasNoItem b
none_given a b more text rest w h g =
    let here : a ≡ b = items_none a b g.skips.items more text rest w h g.skips.take g.skips.none in
    (subst (λ (x : UnreadBytes). IsAhead x more (text ++ rest)) here h, g.end.none)

-- where nothing is to come it is given
pub not_waiting : (a : UnreadBytes) (text rest : List ℕ) → IsWhole text → IsAhead a [] (text ++ rest) → HasNoItem a → ⊥
not_waiting a text rest w h none = none.none (Frame text) (behind_of rest) (record { is = (h.mark, w.frame); spelled = sym (append-nil a.bytes) ∙ h.bytes; mark = sym w.ends })
