-- The items of a stream are one list, and more bytes only add to them.
use Rattle.std.proofs.Common.{◌≡◌, ℕ, Bool, IsTrue, List, [], ◌∷◌, ◌++◌, get_or, refl, sym, ap, subst, ◌∙◌, append_assoc}
use Rattle.std.proofs.lemmas.List.{append-nil}
use Rattle.fix_base.specs.Shape.{IsShape, IsFrame}
use Rattle.fix_base.specs.Stream.{UnreadBytes, Item, Frame, Span, Byte, text_of, IsItem, ends_in_soh, Takes, HasNoItem, TakesAll, frames, Reads}
use Rattle.fix_base.proofs.Fronts.{rest_is}
use Rattle.fix_base.proofs.Spans.{shape_free}

-- the same place with more bytes
abbrev pub with_more : UnreadBytes → List ℕ → UnreadBytes
with_more a more = record { may_mark = a.may_mark; bytes = a.bytes ++ more }

is_more : (a : UnreadBytes) (item : Item) (more : List ℕ) → IsItem a item → IsItem (with_more a more) item
is_more a (Frame text) more h = h
is_more a (Span text) more h = h
is_more a (Byte byte) more h = λ mark. record {
  refutes = λ further rest b.
      (h mark).refutes (more ++ further) rest (record { text = b.text; is = b.is; spelled = sym (append_assoc a.bytes more further) ∙ b.spelled });
}

-- an item stays, whatever comes
pub takes_more : (a : UnreadBytes) (item : Item) (b : UnreadBytes) (more : List ℕ) → Takes a item b → Takes (with_more a more) item (with_more b more)
takes_more a item b more t = record {
  is = is_more a item more t.is;
  spelled = ap (λ (w : List ℕ). w ++ more) t.spelled ∙ append_assoc (text_of item) b.bytes more;
  mark = t.mark;
}

pub all_more : (a : UnreadBytes) (items : List Item) (b : UnreadBytes) (more : List ℕ) → TakesAll a items b → TakesAll (with_more a more) items (with_more b more)
all_more a [] b more e = ap (λ x. with_more x more) e
all_more a (item ∷ items) b more t = (with_more t.0 more, takes_more a item t.0 more t.1, all_more t.0 items b more t.2)

pub all_then : (a : UnreadBytes) (items : List Item) (b : UnreadBytes) (others : List Item) (c : UnreadBytes) → TakesAll a items b → TakesAll b others c → TakesAll a (items ++ others) c
all_then a [] b others c e t = subst (λ x. TakesAll x others c) (sym e) t
all_then a (item ∷ items) b others c s t = (s.0, s.1, all_then s.0 items b others c s.2 t)

pub frames-append : (xs ys : List Item) → frames (xs ++ ys) ≡ frames xs ++ frames ys
frames-append [] ys = refl
frames-append (Frame text ∷ xs) ys = ap (λ w. text ∷ w) (frames-append xs ys)
frames-append (Span text ∷ xs) ys = frames-append xs ys
frames-append (Byte byte ∷ xs) ys = frames-append xs ys

-- ---- one reading

shapes_same : (v w x y : List ℕ) → IsShape v → IsShape w → v ++ x ≡ w ++ y → v ≡ w
shapes_same v w x y p q e = shape_free.same p.0 q.0 v w x y p.1 q.1 e

shape_of : (f : List ℕ) → IsFrame f → IsShape f
shape_of f h = (h.parts, h.shape)

no_byte : (a : UnreadBytes) (byte : ℕ) (text rest : List ℕ) → IsItem a (Byte byte) → IsTrue a.may_mark → IsShape text → a.bytes ≡ text ++ rest → ⊥
no_byte a byte text rest h mark s e = (h mark).refutes [] rest (record { text = text; is = s; spelled = append-nil a.bytes ∙ e })

item_same : (a : UnreadBytes) (i j : Item) (x y : List ℕ) → IsItem a i → IsItem a j → a.bytes ≡ text_of i ++ x → a.bytes ≡ text_of j ++ y → i ≡ j
item_same a (Frame v) (Frame w) x y p q e f = ap Frame (shapes_same v w x y (shape_of v p.1) (shape_of w q.1) (sym e ∙ f))
item_same a (Frame v) (Span w) x y p q e f = absurd (q.2 (subst IsFrame (shapes_same v w x y (shape_of v p.1) q.1 (sym e ∙ f)) p.1))
item_same a (Frame v) (Byte b) x y p q e f = absurd (no_byte a b v x q p.0 (shape_of v p.1) e)
item_same a (Span v) (Frame w) x y p q e f = absurd (p.2 (subst IsFrame (shapes_same w v y x (shape_of w q.1) p.1 (sym f ∙ e)) q.1))
item_same a (Span v) (Span w) x y p q e f = ap Span (shapes_same v w x y p.1 q.1 (sym e ∙ f))
item_same a (Span v) (Byte b) x y p q e f = absurd (no_byte a b v x q p.0 p.1 e)
item_same a (Byte b) (Frame w) x y p q e f = absurd (no_byte a b w y p q.0 (shape_of w q.1) f)
item_same a (Byte b) (Span w) x y p q e f = absurd (no_byte a b w y p q.0 q.1 f)
item_same a (Byte b) (Byte d) x y p q e f = ap (λ t. Byte (get_or t 0 0)) (sym e ∙ f)

pub takes_same : (a : UnreadBytes) (i j : Item) (b c : UnreadBytes) → Takes a i b → Takes a j c → (i ≡ j) × (b ≡ c)
takes_same a i j b c s t =
    let same : i ≡ j = item_same a i j b.bytes c.bytes s.is t.is s.spelled t.spelled in
    let behind : b.bytes ≡ c.bytes = rest_is (text_of i) (text_of j) b.bytes c.bytes (sym s.spelled ∙ t.spelled) (ap text_of same) in
    let mark : b.may_mark ≡ c.may_mark = s.mark ∙ ap (λ k. ends_in_soh (text_of k)) same ∙ sym t.mark in
    (same, ap (λ (m : Bool). record { may_mark = m; bytes = b.bytes }) mark ∙ ap (λ (w : List ℕ). record { may_mark = c.may_mark; bytes = w }) behind)

all_same : (a : UnreadBytes) (xs ys : List Item) (b c : UnreadBytes) → TakesAll a xs b → TakesAll a ys c → HasNoItem b → HasNoItem c → (xs ≡ ys) × (b ≡ c)
all_same a [] [] b c s t p q = (refl, sym s ∙ t)
all_same a [] (y ∷ ys) b c s t p q = absurd ((subst HasNoItem (sym s) p).none y t.0 t.1)
all_same a (x ∷ xs) [] b c s t p q = absurd ((subst HasNoItem (sym t) q).none x s.0 s.1)
all_same a (x ∷ xs) (y ∷ ys) b c s t p q =
    let first = takes_same a x y s.0 t.0 s.1 t.1 in
    let others = all_same t.0 xs ys b c (subst (λ z. TakesAll z xs b) first.1 s.2) t.2 p q in
    (ap (λ z. z ∷ xs) first.0 ∙ ap (λ zs. y ∷ zs) others.0, others.1)

-- the bytes have one list of items
pub reads_same : (a : UnreadBytes) (xs ys : List Item) (b c : UnreadBytes) → Reads a xs b → Reads a ys c → (xs ≡ ys) × (b ≡ c)
reads_same a xs ys b c s t = all_same a xs ys b c s.all t.all s.end t.end

-- what was read of the front stands at the front of any reading of it
pub front_stays : (a : UnreadBytes) (xs ys : List Item) (b c : UnreadBytes) → TakesAll a xs b → Reads a ys c → (zs : List Item) × (ys ≡ xs ++ zs)
front_stays a [] ys b c s t = (ys, refl)
front_stays a (x ∷ xs) [] b c s t = absurd ((subst HasNoItem (sym t.all) t.end).none x s.0 s.1)
front_stays a (x ∷ xs) (y ∷ ys) b c s t =
    let first = takes_same a x y s.0 t.all.0 s.1 t.all.1 in
    let others = front_stays t.all.0 xs ys b c (subst (λ z. TakesAll z xs b) first.1 s.2) (record { all = t.all.2; end = t.end }) in
    (others.0, ap (λ z. z ∷ ys) (sym first.0) ∙ ap (λ zs. x ∷ zs) others.1)
