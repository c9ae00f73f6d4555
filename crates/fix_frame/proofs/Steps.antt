-- The search for the next frame, step by step.
use Rattle.std.proofs.Common.{◌≡◌, ℕ, ◌+◌, ◌-◌, ◌<◌, ◌≤◌, Bool, nat_eq, List, [], ◌∷◌, ◌++◌, length, get_or, take, drop, refl, sym, ap, ◌∙◌, subst, arith, lit<}
use Rattle.std.proofs.lemmas.List.{length-append, length-drop, drop-drop, drop_at, get_or-drop, take_at}
use Rattle.std.proofs.lemmas.List.Prefix.{front_reads}
use Rattle.fix_base.specs.Stream.{UnreadBytes, Item, Frame, Span, Byte, text_of, IsItem, Takes, frames}
use Rattle.fix_frame.specs.Answer.{Stands, Skipped}
use Rattle.fix_frame.specs.Given.{GivesFrame}
use Rattle.fix_frame.specs.Seeks.{SkipsBy, SeeksFrame}
use Rattle.fix_base.proofs.Spans.{shape_long}
use Rattle.fix_base.proofs.Runs.{all_then, frames-append}

-- an item has a byte
item_some : (a : UnreadBytes) (item : Item) → IsItem a item → 0 < length (text_of item)
item_some a (Frame text) h = shape_long h.1.parts text h.1.shape
item_some a (Span text) h = shape_long h.1.0 text h.1.1
item_some a (Byte byte) h = lit< tt

pub record Steps (bytes : List ℕ) (at n : ℕ) (mark : Bool) (item : Item) : Type 0 where
  pub take : Takes (record { may_mark = mark; bytes = drop at bytes }) item (record { may_mark = nat_eq (get_or bytes (at + n - 1) 0) 1; bytes = drop (at + n) bytes })
  pub some : 0 < n
  pub inside : at + n ≤ length bytes

pub steps : (bytes : List ℕ) (at n : ℕ) (mark : Bool) (item : Item) → at ≤ length bytes → Stands (record { may_mark = mark; bytes = drop at bytes }) item → length (text_of item) ≡ n → Steps bytes at n mark item
steps bytes at n mark item le s long =
    let some : 0 < length (text_of item) = item_some (record { may_mark = mark; bytes = drop at bytes }) item s.is in
    let behind : drop (at + n) bytes ≡ s.rest = sym (drop-drop n at bytes) ∙ ap (drop n) s.spelled ∙ drop_at (text_of item) s.rest n long in
    let last : get_or bytes (at + n - 1) 0 ≡ get_or (text_of item) (length (text_of item) - 1) 0 =
    ap (λ k. get_or bytes k 0) (omega arith) ∙ sym (get_or-drop at bytes (length (text_of item) - 1) 0) ∙ front_reads 0 (drop at bytes) (text_of item) s.rest s.spelled (length (text_of item) - 1) (omega arith) in
    record {
      take = record { is = s.is; spelled = s.spelled ∙ ap (λ (w : List ℕ). text_of item ++ w) (sym behind); mark = ap (λ b. nat_eq b 1) last };
      some = omega arith;
      inside = omega (arith, ap length s.spelled, length-append (text_of item) s.rest, length-drop at bytes);
    }

pub skip_fits : (bytes : List ℕ) (at n : ℕ) (mark : Bool) → at ≤ length bytes → Skipped (record { may_mark = mark; bytes = drop at bytes }) n → (0 < n) × (at + n ≤ length bytes)
skip_fits bytes at n mark le h = let s = steps bytes at n mark h.item le h.stands h.long in (s.some, s.inside)

pub skips_on : (a : UnreadBytes) (at n : ℕ) (mark : Bool) → SkipsBy a at mark → Skipped (record { may_mark = mark; bytes = drop at a.bytes }) n → SkipsBy a (at + n) (nat_eq (get_or a.bytes (at + n - 1) 0) 1)
skips_on a at n mark k h =
    let s = steps a.bytes at n mark h.item k.inside h.stands h.long in
    let b : UnreadBytes = record { may_mark = mark; bytes = drop at a.bytes } in
    let d : UnreadBytes = record { may_mark = nat_eq (get_or a.bytes (at + n - 1) 0) 1; bytes = drop (at + n) a.bytes } in
    record {
      items = k.items ++ h.item ∷ [];
      take = all_then a k.items b (h.item ∷ []) d k.take (d, s.take, refl);
      none = frames-append k.items (h.item ∷ []) ∙ ap (λ (w : List (List ℕ)). w ++ frames (h.item ∷ [])) k.none ∙ h.no_frame;
      inside = s.inside;
    }

pub frame_fits : (bytes : List ℕ) (at : ℕ) (mark : Bool) (frame : List ℕ) → at ≤ length bytes → Stands (record { may_mark = mark; bytes = drop at bytes }) (Frame frame) → (0 < length frame) × (at + length frame ≤ length bytes)
frame_fits bytes at mark frame le h = let s = steps bytes at (length frame) mark (Frame frame) le h refl in (s.some, s.inside)

pub seeks_frame : (a : UnreadBytes) (at : ℕ) (mark : Bool) (frame : List ℕ) → SkipsBy a at mark → Stands (record { may_mark = mark; bytes = drop at a.bytes }) (Frame frame) → SeeksFrame a at (at + length frame) (nat_eq (get_or a.bytes (at + length frame - 1) 0) 1)
seeks_frame a at mark frame k h =
    let s = steps a.bytes at (length frame) mark (Frame frame) k.inside h refl in
    let text : frame ≡ take (at + length frame - at) (drop at a.bytes) = sym (ap (take (at + length frame - at)) h.spelled ∙ take_at frame h.rest (at + length frame - at) (omega arith)) in
    record {
      before = mark;
      skips = k;
      frame = subst (λ (w : List ℕ). Takes (record { may_mark = mark; bytes = drop at a.bytes }) (Frame w) (record { may_mark = nat_eq (get_or a.bytes (at + length frame - 1) 0) 1; bytes = drop (at + length frame) a.bytes })) text s.take;
      order = omega arith;
      inside = s.inside;
    }

-- the same of what is kept from a place on
pub gives_here : (kept : List ℕ) (place start end : ℕ) (mark after : Bool) → SeeksFrame (record { may_mark = mark; bytes = drop place kept }) start end after
    → GivesFrame (record { may_mark = mark; bytes = drop place kept }) (record { may_mark = after; bytes = drop (place + end) kept }) (take (place + end - (place + start)) (drop (place + start) kept))
gives_here kept place start end mark after s =
    let len : end - start ≡ place + end - (place + start) = omega arith in
    let first = drop-drop start place kept in
    let text : take (end - start) (drop start (drop place kept)) ≡ take (place + end - (place + start)) (drop (place + start) kept) = ap (λ n. take n (drop start (drop place kept))) len ∙ ap (take (place + end - (place + start))) first in
    record {
      at = record { may_mark = s.before; bytes = drop start (drop place kept) };
      skips = record { items = s.skips.items; take = s.skips.take; none = s.skips.none };
      frame_there = subst (λ (w : List ℕ). Takes (record { may_mark = s.before; bytes = drop start (drop place kept) }) (Frame w) (record { may_mark = after; bytes = drop (place + end) kept })) text
          (subst (λ (w : List ℕ). Takes (record { may_mark = s.before; bytes = drop start (drop place kept) }) (Frame (take (end - start) (drop start (drop place kept)))) (record { may_mark = after; bytes = w })) (drop-drop end place kept) s.frame);
    }
