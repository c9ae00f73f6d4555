-- What can't fail to be there: the next frame of bytes or none, and what a frame presents.
use Rattle.std.proofs.Common.{◌≡◌, ◌⊎◌, inl, inr, ℕ, zero, suc, ◌-◌, ◌<◌, ◌≤◌, List, [], ◌∷◌, ◌++◌, length, take, drop}
use Rattle.std.proofs.Common.{Bool, true, false, Option, Some, None, refl, sym, ap, subst, ◌∙◌, arith, ℤ, pos, neg_ℤ}
use Rattle.std.specs.Str.Parse.{AllDigits}
use Rattle.std.proofs.lemmas.Bool.{cases_lt}
use Rattle.std.proofs.lemmas.Int.{ints}
use Rattle.std.proofs.lemmas.List.{length-append, length-drop, length-take-le, take-append-drop, take-append-le}
use Rattle.std.proofs.lemmas.List.{take_at}
use Rattle.fix_base.specs.Fields.{Field}
use Rattle.fix_base.specs.Front.{Begins, IsPartOf}
use Rattle.fix_base.specs.Shape.{IsShape, IsFrame}
use Rattle.fix_base.specs.Says.{value_of}
use Rattle.fix_base.specs.Stream.{UnreadBytes, Item, Frame, Span, Byte, ends_in_soh, Takes, HasNoItem, frames}
use Rattle.fix_base.specs.Times.{IsUtcTimestamp}
use Rattle.fix_base.proofs.Spans.{shape_long, part_short}
use Rattle.fix_fields.specs.Header.{header_of_fields}
use Rattle.fix_fields.specs.Value.{IsDigitsOf, IsInt, plain, minus}
use Rattle.fix_fields.proofs.EnvelopeLemmas.{has_first, begin_is}
use Rattle.fix_fields.proofs.TimedLemmas.{stamp_same}
use Rattle.fix_frame.specs.Given.{GivesFrame, GivesNone}
use Rattle.fix_engine.specs.Inbound.{InboundSeen, IsOnly, IsSent, IsLogon, IsInbound}
use Rattle.fix_engine.specs.Stated.{CanNotFail}
use Rattle.fix_engine.proofs.FrameLemmas.{fields_in, frame_has}
use Rattle.fix_engine.proofs.InboundLemmas.{some_same, only_none}

-- ---- what can't fail

pub sure : {A : Type 0} → A → CanNotFail A
sure a k = k a

pub on_sure : {A B : Type 0} → CanNotFail A → (A → CanNotFail B) → CanNotFail B
on_sure a f k = a (λ x. f x k)

pub map_sure : {A B : Type 0} → (A → B) → CanNotFail A → CanNotFail B
map_sure f a k = a (λ x. k (f x))

pub decided : (A : Type 0) → CanNotFail (A ⊎ (A → ⊥))
decided A k = k (inr (λ a. k (inl a)))

-- the only value that has P, or that there is none
only : {A : Type 0} (P : A → Type 0) → ((x y : A) → P x → P y → x ≡ y) →
    CanNotFail ((found : Option A) × IsOnly P found)
only {A} P one = map_sure by-case (decided ((x : A) × P x))
  where
    by-case : ((x : A) × P x) ⊎ (((x : A) × P x) → ⊥) → (found : Option A) × IsOnly P found
    by-case (inl h) = (Some h.0, record { known = h.1; each = λ y p. ap Some (one h.0 y h.1 p) })
    by-case (inr never) = (None, only_none P (λ x p. never (x, p)))

-- ---- what a frame presents

digits_same : (value : List ℕ) (m n : ℕ) → IsDigitsOf m value → IsDigitsOf n value → m ≡ n
digits_same value m n p q = p.says ∙ sym q.says

no_minus : (value digits : List ℕ) (n : ℕ) → value ≡ 45 ∷ digits → IsDigitsOf n value → ⊥
no_minus value digits n e p = let all : AllDigits 10 (45 ∷ digits) = subst (AllDigits 10) e p.digits in
    omega (arith, all.0)

-- an int says one number
int_same : (value : List ℕ) (x y : ℤ) → IsInt value x → IsInt value y → x ≡ y
int_same value x y (plain m p e) (plain n q f) = e ∙ ap pos (digits_same value m n p q) ∙ sym f
int_same value x y (plain m p e) (minus n digits is q f) = absurd (no_minus value digits m is p)
int_same value x y (minus m digits is p e) (plain n q f) = absurd (no_minus value digits n is q)
int_same value x y (minus m digits is p e) (minus n others too q f) =
    let same : digits ≡ others = ap (drop 1) (sym is ∙ too) in
    e ∙ ap (λ k. neg_ℤ (pos k)) (digits_same others m n (subst (IsDigitsOf m) same p) q) ∙ sym f

-- fields have one HeartBtInt
heart_same : (fields : List Field) (x y : ℕ) → IsLogon fields x → IsLogon fields y → x ≡ y
heart_same fields x y p q =
    let a = p.heart_bt_int in
    let b = q.heart_bt_int in
    let value : a.value ≡ b.value = some_same a.value b.value (sym a.there ∙ b.there) in
    let same : pos x ≡ pos y = int_same b.value (pos x) (pos y) (subst (λ v. IsInt v (pos x)) value a.int) b.int in
    omega (arith, ints, same)

each_sent : (value : Option (List ℕ)) → CanNotFail ((sent : Option ℤ) × IsSent value sent)
each_sent None = sure (None, refl)
each_sent (Some value) = only (IsUtcTimestamp value) (stamp_same value)

pub each_presents : (frame : List ℕ) → IsFrame frame → CanNotFail ((i : InboundSeen) × IsInbound frame i)
each_presents frame f =
    let line = has_first frame f in
    let fields : List Field = fields_in f in
    let begin : List ℕ = drop 2 line.value in
    on_sure (each_sent (value_of 52 fields)) (λ sent. map_sure (λ heart. (
      record { header = header_of_fields begin fields; sent = sent.0; heart = heart.0 },
      record {
        fields = fields;
        has = frame_has f;
        begins = begin_is frame line.value line.rest f line.is;
        header = refl;
        sent = sent.1;
        heart = heart.1;
      },
    )) (only (IsLogon fields) (heart_same fields)))

-- ---- the next frame

-- a shape is not longer than the longest
shape_most : (text : List ℕ) → IsShape text → length text ≤ 1048612
shape_most text s =
    let some : 0 < length text = shape_long s.0 text s.1 in
    let n : ℕ = length text - 1 in
    let part : IsPartOf IsShape (take n text) =
    record {
      missing = drop n text;
      nonempty = omega (arith, length-drop n text);
      is = subst IsShape (sym (take-append-drop n text)) s;
    } in
    omega (arith, part_short (take n text) part, length-take-le n text (omega arith))

-- a text at the front of bytes with more behind them stands in the bytes, where these are long enough
front_there : (bytes more text rest : List ℕ) → bytes ++ more ≡ text ++ rest → length text ≤ length bytes →
    bytes ≡ text ++ drop (length text) bytes
front_there bytes more text rest e fits =
    let front : take (length text) bytes ≡ text = sym (take-append-le (length text) bytes more fits) ∙
    ap (take (length text)) e ∙ take_at text rest (length text) refl in
    sym (take-append-drop (length text) bytes) ∙ ap (λ (w : List ℕ). w ++ drop (length text) bytes) front

-- as many bytes as the longest shape has show an item
long_has_item : (mark : Bool) (bytes : List ℕ) → 1048612 ≤ length bytes →
    HasNoItem (record { may_mark = mark; bytes = bytes }) → ⊥
long_has_item mark [] long never = omega arith
long_has_item false (b ∷ bytes) long never =
    never.none (Byte b) (record { may_mark = ends_in_soh (b ∷ []); bytes = bytes })
    (record { is = λ h. absurd cc; spelled = refl; mark = refl })
long_has_item true (b ∷ bytes) long never =
    never.none (Byte b) (record { may_mark = ends_in_soh (b ∷ []); bytes = bytes })
    (record { is = λ h. record { refutes = λ more rest s. no_shape more rest s }; spelled = refl; mark = refl })
  where
    no_shape : (more rest : List ℕ) → Begins IsShape ((b ∷ bytes) ++ more) rest → ⊥
    no_shape more rest s =
        let fits : length s.text ≤ length (b ∷ bytes) = omega (arith, shape_most s.text s.is) in
        let there : b ∷ bytes ≡ s.text ++ drop (length s.text) (b ∷ bytes) =
        front_there (b ∷ bytes) more s.text rest s.spelled fits in
        let behind : UnreadBytes = record { may_mark = ends_in_soh s.text; bytes = drop (length s.text) (b ∷ bytes) } in
        never.none (Span s.text) behind
        (record {
          is = (
            refl,
            s.is,
            λ f. never.none (Frame s.text) behind
                (record { is = (refl, f); spelled = there; mark = refl }),
          );
          spelled = there;
          mark = refl;
        })

few_bytes : (a : UnreadBytes) → HasNoItem a → length a.bytes < 1048612
few_bytes a never = elim (cases_lt (length a.bytes) 1048612)
    [ inl less ↦ less | inr long ↦ absurd (long_has_item a.may_mark a.bytes long never) ]

-- the next frame from a place on, or that the bytes have none yet
pub data Next (a : UnreadBytes) : Type 0 where
  frame_next : (b : UnreadBytes) (frame : List ℕ) → GivesFrame a b frame → Next a
  none_next : (b : UnreadBytes) → GivesNone a b → Next a

-- an item that is no frame is skipped
skip_on : (a b : UnreadBytes) (item : Item) → ((items : List Item) → frames (item ∷ items) ≡ frames items) →
    Takes a item b → Next b → Next a
skip_on a b item no_frame t (frame_next c frame g) =
    frame_next c frame
    (record {
      at = g.at;
      skips = record {
        items = item ∷ g.skips.items;
        take = (b, t, g.skips.take);
        none = no_frame g.skips.items ∙ g.skips.none;
      };
      frame_there = g.frame_there;
    })
skip_on a b item no_frame t (none_next c g) =
    none_next c
    (record {
      skips = record {
        items = item ∷ g.skips.items;
        take = (b, t, g.skips.take);
        none = no_frame g.skips.items ∙ g.skips.none;
      };
      end = g.end;
    })

abbrev There : UnreadBytes → Type 0
There a = (item : Item) × (b : UnreadBytes) × Takes a item b

-- what stands first, where the next of fewer bytes is known
by_first : (a : UnreadBytes) → ((b : UnreadBytes) → length b.bytes < length a.bytes → CanNotFail (Next b)) → There a ⊎
    (There a → ⊥) → CanNotFail (Next a)
by_first a fewer (inr never) = let none : HasNoItem a = record { none = λ item b t. never (item, b, t) } in
    sure (none_next a
    (record {
      skips = record { items = []; take = refl; none = refl };
      end = record { none = none; few = few_bytes a none };
    }))
by_first a fewer (inl h) = at_item h.0 h.1 h.2
  where
    at_item : (item : Item) (b : UnreadBytes) → Takes a item b → CanNotFail (Next a)
    at_item (Frame text) b t =
        sure (frame_next b text
        (record { at = a; skips = record { items = []; take = refl; none = refl }; frame_there = t }))
    at_item (Span text) b t = map_sure (skip_on a b (Span text) (λ items. refl) t)
        (fewer b (omega (arith, ap length t.spelled, length-append text b.bytes, shape_long t.is.1.0 text t.is.1.1)))
    at_item (Byte byte) b t = map_sure (skip_on a b (Byte byte) (λ items. refl) t)
        (fewer b (omega (arith, ap length t.spelled, length-append (byte ∷ []) b.bytes)))

next_of_few : (n : ℕ) (a : UnreadBytes) → length a.bytes < n → CanNotFail (Next a)
next_of_few zero a few = absurd (omega arith)
next_of_few (suc n) a few = on_sure (decided (There a)) (by_first a (λ b less. next_of_few n b (omega arith)))

pub each_next : (a : UnreadBytes) → CanNotFail (Next a)
each_next a = next_of_few (suc (length a.bytes)) a (omega arith)
