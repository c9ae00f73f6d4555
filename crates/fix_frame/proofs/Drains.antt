-- Frames given one after the other.
use Rattle.std.proofs.Common.{◌≡◌, ℕ, ◌+◌, ◌<◌, ◌≤◌, true, List, [], ◌∷◌, ◌++◌, length, get_or, take, refl, sym, ap, subst, ◌∙◌, append_assoc, arith}
use Rattle.std.proofs.lemmas.List.{length-append, append-nil, take_more}
use Rattle.fix_base.specs.Stream.{AreFramesOf, UnreadBytes, Item, Frame, text_of, HasNoItem, TakesAll, frames, Reads}
use Rattle.fix_frame.specs.Given.{GivesFrame, GivesNone}
use Rattle.fix_base.specs.Says.{joined}
use Rattle.fix_base.proofs.Fronted as fronted
use Rattle.fix_frame.specs.Whole.{GivesAll}
use Rattle.fix_base.proofs.Spans.{shape_long}
use Rattle.fix_base.proofs.Runs.{with_more, all_more, all_then, frames-append, reads_same}

-- what was taken, and given of it
pub record Gave (a b : UnreadBytes) (old new : List (List ℕ)) : Type 0 where
  pub items : List Item
  pub take : TakesAll a items b
  pub given : new ≡ old ++ frames items

all_shorter : (a : UnreadBytes) (items : List Item) (b : UnreadBytes) → TakesAll a items b → length b.bytes ≤ length a.bytes
all_shorter a [] b e = omega (arith, ap (λ x. length x.bytes) e)
all_shorter a (item ∷ items) b t = omega (arith, all_shorter t.0 items b t.2, ap length t.1.spelled, length-append (text_of item) t.0.bytes)

pub frame_shorter : (a b : UnreadBytes) (frame : List ℕ) → GivesFrame a b frame → length b.bytes < length a.bytes
frame_shorter a b frame g =
    let f = g.frame_there.is.1 in
    omega (arith, all_shorter a g.skips.items g.at g.skips.take, ap length g.frame_there.spelled, length-append frame b.bytes, shape_long f.parts frame f.shape)

pub gave_start : (a : UnreadBytes) (old : List (List ℕ)) → Gave a a old old
gave_start a old = record { items = []; take = refl; given = sym (append-nil old) }

pub gave_more : (a b c : UnreadBytes) (old mid : List (List ℕ)) (frame : List ℕ) → Gave a b old mid → GivesFrame b c frame → Gave a c old (mid ++ frame ∷ [])
gave_more a b c old mid frame g f =
    let step : List Item = f.skips.items ++ Frame frame ∷ [] in
    let step_is : frames step ≡ frame ∷ [] = frames-append f.skips.items (Frame frame ∷ []) ∙ ap (λ (w : List (List ℕ)). w ++ frame ∷ []) f.skips.none in
    record {
      items = g.items ++ step;
      take = all_then a g.items b step c g.take (all_then b f.skips.items f.at (Frame frame ∷ []) c f.skips.take (c, f.frame_there, refl));
      given = ap (λ (w : List (List ℕ)). w ++ frame ∷ []) g.given ∙ append_assoc old (frames g.items) (frame ∷ []) ∙ ap (λ (w : List (List ℕ)). old ++ w) (ap (λ (w : List (List ℕ)). frames g.items ++ w) (sym step_is) ∙ sym (frames-append g.items step));
    }

pub gave_all : (a b c : UnreadBytes) (old new : List (List ℕ)) → Gave a b old new → GivesNone b c → GivesAll a c old new
gave_all a b c old new g n = record {
  items = g.items ++ n.skips.items;
  take = all_then a g.items b n.skips.items c g.take n.skips.take;
  end = n.end.none;
  given = g.given ∙ ap (λ (w : List (List ℕ)). old ++ w) (sym (frames-append g.items n.skips.items ∙ ap (λ (w : List (List ℕ)). frames g.items ++ w) n.skips.none ∙ append-nil (frames g.items)));
}

-- the stream of the pieces so far, read to the end
pub record Read (pieces : List (List ℕ)) (now : UnreadBytes) (given : List (List ℕ)) : Type 0 where
  pub items : List Item
  pub take : TakesAll (record { may_mark = true; bytes = joined pieces }) items now
  pub end : HasNoItem now
  pub frames_are : given ≡ frames items

-- the pieces of two lists of them
joined-append : (xs ys : List (List ℕ)) → joined (xs ++ ys) ≡ joined xs ++ joined ys
joined-append [] ys = refl
joined-append (x ∷ xs) ys = ap (λ (w : List ℕ). x ++ w) (joined-append xs ys) ∙ sym (append_assoc x (joined xs) (joined ys))

-- nothing was fed
pub read_start : Read [] (record { may_mark = true; bytes = [] }) []
read_start = record { items = []; take = refl; end = fronted.nothing_ahead true [] refl; frames_are = refl }

-- one more piece
pub read_more : (pieces more : List (List ℕ)) (now next : UnreadBytes) (given new : List (List ℕ)) → Read pieces now given → GivesAll (with_more now (joined more)) next given new → Read (pieces ++ more) next new
read_more pieces more now next given new r g =
    let whole : joined (pieces ++ more) ≡ joined pieces ++ joined more = joined-append pieces more in
    record {
      items = r.items ++ g.items;
      take = subst (λ (w : List ℕ). TakesAll (record { may_mark = true; bytes = w }) (r.items ++ g.items) next) (sym whole) (all_then (record { may_mark = true; bytes = joined pieces ++ joined more }) r.items (with_more now (joined more)) g.items next (all_more (record { may_mark = true; bytes = joined pieces }) r.items now (joined more) r.take) g.take);
      end = g.end;
      frames_are = g.given ∙ ap (λ (w : List (List ℕ)). w ++ frames g.items) r.frames_are ∙ sym (frames-append r.items g.items);
    }

-- the stream has this one reading
pub read_one : (pieces : List (List ℕ)) (now : UnreadBytes) (given : List (List ℕ)) → Read pieces now given → (items : List Item) (rest : UnreadBytes) → Reads (record { may_mark = true; bytes = joined pieces }) items rest → given ≡ frames items
read_one pieces now given r items rest h =
    let same = reads_same (record { may_mark = true; bytes = joined pieces }) r.items items now rest (record { all = r.take; end = r.end }) h in
    r.frames_are ∙ ap frames same.0

-- one more piece of a loop
pub read_piece : (pieces : List (List ℕ)) (i : ℕ) (piece : List ℕ) (now fed next : UnreadBytes) (given new : List (List ℕ)) → i < length pieces → piece ≡ get_or pieces i piece → Read (take i pieces) now given → fed ≡ with_more now piece → GivesAll fed next given new → Read (take (i + 1) pieces) next new
read_piece pieces i piece now fed next given new lt is r fed_is g =
    let more : take (i + 1) pieces ≡ take i pieces ++ piece ∷ [] = take_more pieces i piece lt ∙ ap (λ p. take i pieces ++ p ∷ []) (sym is) in
    let one : joined (piece ∷ []) ≡ piece = append-nil piece in
    let whole : fed ≡ with_more now (joined (piece ∷ [])) = fed_is ∙ ap (λ w. with_more now w) (sym one) in
    subst (λ ps. Read ps next new) (sym more) (read_more (take i pieces) (piece ∷ []) now next given new r (subst (λ x. GivesAll x next given new) whole g))

-- what was given are the frames of all pieces
pub read_all : (pieces : List (List ℕ)) (now : UnreadBytes) (given : List (List ℕ)) → Read pieces now given → AreFramesOf (joined pieces) given
read_all pieces now given r = record { items = r.items; rest = now; reads = record { all = r.take; end = r.end }; frames_are = r.frames_are }
