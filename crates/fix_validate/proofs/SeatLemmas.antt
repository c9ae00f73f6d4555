-- A tag has its seat where no tag before it ends in the same byte.
use Rattle.std.proofs.Common.{◌≡◌, ◌≢◌, ℕ, zero, suc, ◌+◌, ◌%◌, ◌<◌, ◌≤◌, Bool, true, false, ◌||◌, ◌==◌, if◌then◌else◌, inl, inr, List, [], ◌∷◌, ◌++◌, length, take, get_or, set, replicate, refl, sym, ap, ◌∙◌, arith, subst}
use Rattle.std.specs.List.{list_any}
use Rattle.std.proofs.lemmas.List.{get_or-set_same, get_or-set_other, length-set, length-replicate}
use Rattle.std.proofs.lemmas.Bool.{eq-eqb, ne_eqb, eqb-true, cases_eq}
use Rattle.fix_base.specs.Fields.{Field}
use Rattle.fix_groups.specs.Tagged.{all_tagged}
use Rattle.fix_validate.specs.Table.{has_field}
use Rattle.fix_validate.specs.Index.{ends_in, seat_taken, IsSeated, AreSeats}
use Rattle.fix_validate.specs.Required.{is_there}
use Rattle.fix_validate.proofs.FieldLemmas.{take_more, any_more}

neither : (a b : Bool) → (a || b) ≡ false → (a ≡ false) × (b ≡ false)
neither true b e = cc
neither false b e = (refl, e)

none_of : (a b : Bool) → a ≡ false → b ≡ false → (a || b) ≡ false
none_of a b p q = ap (λ x. x || b) p ∙ q

or_true : (a b : Bool) → b ≡ true → (a || b) ≡ true
or_true true b e = refl
or_true false b e = e

split_tags : (b : Bool) → b ≡ true → b ≡ false → ⊥
split_tags true p q = cc
split_tags false p q = cc

-- the seats after so many fields
pub record Seated (fs : List Field) (n : ℕ) (seats : List ℕ) : Type 0 where
  pub long : length seats ≡ 256
  pub empty : (byte : ℕ) → byte < 256 → get_or seats byte 0 ≡ 0 → ends_in byte (take n fs) ≡ false
  pub before : (byte place : ℕ) → get_or seats byte 0 ≡ place + 1 → ends_in byte (take place fs) ≡ false

pub not_in : (tag : ℕ) (fs : List Field) → ends_in (tag % 256) fs ≡ false → has_field tag fs ≡ false
not_in tag [] e = refl
not_in tag (f ∷ fs) e =
    let n = neither (f.tag % 256 == tag % 256) (ends_in (tag % 256) fs) e in
    none_of (f.tag == tag) (has_field tag fs) (ne_eqb f.tag tag (λ same. split_tags (f.tag % 256 == tag % 256) (eq-eqb (f.tag % 256) (tag % 256) (ap (λ (n : ℕ). n % 256) same)) n.0)) (not_in tag fs n.1)

-- a field that is seated is the first with its tag
pub first_seat : (fs : List Field) (seats : List ℕ) (tag byte place : ℕ) → IsSeated fs seats → byte ≡ tag % 256 → get_or seats byte 0 ≡ place + 1 → false ≡ has_field tag (take place fs)
first_seat fs seats tag byte place h is at = sym (not_in tag (take place fs) (subst (λ (b : ℕ). ends_in b (take place fs) ≡ false) is (h.before byte place at)))

-- a field with the tag
pub there_of : (tag : ℕ) (fs : List Field) (i : ℕ) (f : Field) → i < length fs → f ≡ get_or fs i f → f.tag ≡ tag → is_there tag (all_tagged fs) ≡ true
there_of tag [] i f lt here is = absurd (omega (arith, lt))
there_of tag (x ∷ fs) zero f lt here is = ap (λ (b : Bool). b || is_there tag (all_tagged fs)) (eq-eqb x.tag tag (ap (λ (g : Field). g.tag) (sym here) ∙ is))
there_of tag (x ∷ fs) (suc i) f lt here is = or_true (x.tag == tag) (is_there tag (all_tagged fs)) (there_of tag fs i f (omega (arith, lt)) here is)

none_yet : (n byte : ℕ) → get_or {A = ℕ} (replicate n 0) byte 0 ≡ 0
none_yet zero byte = refl
none_yet (suc n) zero = refl
none_yet (suc n) (suc byte) = none_yet n byte

pub seated_start : (fs : List Field) (seats : List ℕ) → seats ≡ replicate 256 0 → Seated fs 0 seats
seated_start fs seats is = record {
  long = ap length is ∙ length-replicate {A = ℕ} 256 0;
  empty = λ byte lt e. refl;
  before = λ byte place e. absurd (omega (arith, e, ap (λ (l : List ℕ). get_or l byte 0) is, none_yet 256 byte));
}

ends_more : (byte : ℕ) (fs : List Field) (n : ℕ) (f : Field) → n < length fs → f ≡ get_or fs n f → (byte ≡ f.tag % 256 → ⊥) → ends_in byte (take n fs) ≡ false → ends_in byte (take (n + 1) fs) ≡ false
ends_more byte fs n f lt here off h =
    ap (ends_in byte) (take_more fs n f lt ∙ ap (λ (g : Field). take n fs ++ g ∷ []) (sym here))
    ∙ any_more (λ (g : Field). g.tag % 256 == byte) (take n fs) f
    ∙ none_of (ends_in byte (take n fs)) (f.tag % 256 == byte) h (ne_eqb (f.tag % 256) byte (λ e. off (sym e)))

pub seated_more : (fs : List Field) (n : ℕ) (f : Field) (old new : List ℕ) (byte : ℕ) → n < length fs → f ≡ get_or fs n f → byte < 256 → byte ≡ f.tag % 256 → new ≡ seat_taken byte n old → Seated fs n old → Seated fs (n + 1) new
seated_more fs n f old new byte lt here small is taken h = elim (cases_eq (get_or old byte 0) 0) [
  | inl free ↦
      let e : new ≡ set old byte (n + 1) = taken ∙ ap (λ b. if b then set old byte (n + 1) else old) (eq-eqb (get_or old byte 0) 0 free) in
      let own : get_or new byte 0 ≡ n + 1 = ap (λ (l : List ℕ). get_or l byte 0) e ∙ get_or-set_same old byte (n + 1) 0 (omega (arith, small, h.long)) in
      let other : (b : ℕ) → (b ≡ byte → ⊥) → get_or new b 0 ≡ get_or old b 0 = λ b off. ap (λ (l : List ℕ). get_or l b 0) e ∙ get_or-set_other old byte b (n + 1) 0 off in
      record {
        long = ap length e ∙ length-set old byte (n + 1) ∙ h.long;
        empty = λ b low z. elim (cases_eq b byte) [
          | inl same ↦ absurd (omega (arith, own, ap (λ (k : ℕ). get_or new k 0) (sym same), z))
          | inr off ↦ ends_more b fs n f lt here (λ x. off (x ∙ sym is)) (h.empty b low (sym (other b off) ∙ z))
        ];
        before = λ b place z. elim (cases_eq b byte) [
          | inl same ↦
              let p : place ≡ n = omega (arith, own, ap (λ (k : ℕ). get_or new k 0) (sym same), z) in
              ap (λ (k : ℕ). ends_in b (take k fs)) p ∙ h.empty b (omega (arith, small, same)) (ap (λ (k : ℕ). get_or old k 0) same ∙ free)
          | inr off ↦ h.before b place (sym (other b off) ∙ z)
        ];
      }
  | inr kept ↦
      let e : new ≡ old = taken ∙ ap (λ b. if b then set old byte (n + 1) else old) (ne_eqb (get_or old byte 0) 0 kept) in
      record {
        long = ap length e ∙ h.long;
        empty = λ b low z.
            let was : get_or old b 0 ≡ 0 = ap (λ (l : List ℕ). get_or l b 0) (sym e) ∙ z in
            ends_more b fs n f lt here (λ x. kept (ap (λ (k : ℕ). get_or old k 0) (is ∙ sym x) ∙ was)) (h.empty b low was);
        before = λ b place z. h.before b place (ap (λ (l : List ℕ). get_or l b 0) (sym e) ∙ z);
      }
]

pub seated_end : (fs : List Field) (n : ℕ) (seats : List ℕ) → Seated fs n seats → AreSeats fs seats
seated_end fs n seats h few = record { before = h.before }

pub seated_few : (fs : List Field) (seats : List ℕ) → 48 < length fs → AreSeats fs seats
seated_few fs seats many few = absurd (omega (arith, many, few))
