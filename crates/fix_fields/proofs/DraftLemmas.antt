-- Fields that are judged one after another, and what fields that are accepted are.
use Rattle.std.proofs.Common.{◌≡◌, ℕ, ◌+◌, ◌<◌, ◌≤◌, Bool, true, false, not, ◌&&◌, ◌||◌, ◌==◌, if◌then◌else◌, List, [], ◌∷◌, ◌++◌, length, get_or, take, drop, map, Option, Some, None, refl, sym, ap, subst, ◌∙◌, append_assoc, arith}
use Rattle.std.proofs.lemmas.List.{append-nil, length-append, map-append, take_more, take_all, take-append-drop, drop_more}
use Rattle.std.proofs.lemmas.List.Folds.{list_any-append}
use Rattle.fix_base.specs.Fields.{Field, data_after}
use Rattle.fix_base.specs.Tags.{is_data_tag, is_header_tag, is_engine_tag}
use Rattle.fix_base.specs.Payload.{field, LONGEST_BODY}
use Rattle.fix_base.specs.Says.{field_text, fields_text}
use Rattle.fix_fields.specs.Faulty.{due_behind}
use Rattle.fix_fields.specs.Drafts.{has_body_field, has_soh, is_due, refusal, refusal_of, AreAccepted, IsRefused, IsDraftKind, IsFirstFault, IsRoomFault, MayBeDraft, body_with}
use Rattle.fix_fields.specs.Drafted.{HasTag, AreTagged, given}
use Rattle.fix_fields.specs.declared.judging.DraftFault.{DraftFault}
use Rattle.fix_fields.specs.declared.judging.DraftFault.TheVariants as fault
use Rattle.fix_fields.specs.declared.draft_fields.GivenField.{GivenField}

-- ---- one field after another

-- none of these fields is refused, and what they say of the next one
pub record HasJudged (before : List Field) (due : Option (ℕ × ℕ)) (late : Bool) : Type 0 where
  pub accepted : AreAccepted [] before
  pub due_is : due ≡ due_behind None before
  pub late_is : late ≡ has_body_field before

pub judged_none : HasJudged [] None false
judged_none = record { accepted = tt; due_is = refl; late_is = refl }

accepted_push : (before fs : List Field) (f : Field) → AreAccepted before fs → refusal (before ++ fs) f ≡ None → AreAccepted before (fs ++ f ∷ [])
accepted_push before [] f all e = (subst (λ (b : List Field). refusal b f ≡ None) (append-nil before) e, tt)
accepted_push before (g ∷ fs) f all e = (all.0, accepted_push (before ++ g ∷ []) fs f all.1 (subst (λ (b : List Field). refusal b f ≡ None) (sym (append_assoc before (g ∷ []) fs)) e))

pub tags_push : (fs : List Field) (f : Field) → AreTagged fs → HasTag f → AreTagged (fs ++ f ∷ [])
tags_push [] f all h = (h, tt)
tags_push (g ∷ fs) f all h = (all.0, tags_push fs f all.1 h)

pub due_push : (due : Option (ℕ × ℕ)) (fs : List Field) (f : Field) → due_behind due (fs ++ f ∷ []) ≡ data_after f
due_push due [] f = refl
due_push due (g ∷ fs) f = due_push (data_after g) fs f

or_none : (a b : Bool) → (a || b) ≡ (a || (b || false))
or_none true b = refl
or_none false true = refl
or_none false false = refl

late_push : (fs : List Field) (f : Field) → (has_body_field fs || not (is_header_tag f.tag)) ≡ has_body_field (fs ++ f ∷ [])
late_push fs f = or_none (has_body_field fs) (not (is_header_tag f.tag)) ∙ sym (list_any-append (λ (g : Field). not (is_header_tag g.tag)) fs (f ∷ []))

refused_by : (before : List Field) (due : Option (ℕ × ℕ)) (late : Bool) (f : Field) → HasJudged before due late → refusal_of due late f ≡ refusal before f
refused_by before due late f h = ap (λ (d : Option (ℕ × ℕ)). refusal_of d late f) h.due_is ∙ ap (λ b. refusal_of (due_behind None before) b f) h.late_is

pub judged_more : (before : List Field) (due next : Option (ℕ × ℕ)) (late later : Bool) (f : Field) → HasJudged before due late → refusal_of due late f ≡ None → next ≡ data_after f → later ≡ (late || not (is_header_tag f.tag)) → HasJudged (before ++ f ∷ []) next later
judged_more before due next late later f h e n l = record {
  accepted = accepted_push [] before f h.accepted (sym (refused_by before due late f h) ∙ e);
  due_is = n ∙ sym (due_push None before f);
  late_is = l ∙ ap (λ b. b || not (is_header_tag f.tag)) h.late_is ∙ late_push before f;
}

pub refused_here : (fs before behind : List Field) (due : Option (ℕ × ℕ)) (late : Bool) (f : Field) (why : DraftFault) → HasJudged before due late → fs ≡ before ++ f ∷ behind → refusal_of due late f ≡ Some why → IsRefused fs why
refused_here fs before behind due late f why h e r = record { before = before; field = f; behind = behind; spelled = e; accepted = h.accepted; refused = sym (refused_by before due late f h) ∙ r }

-- the fields that were given, around one of them, and with one more
given_field : (xs : List GivenField) (i : ℕ) (item : GivenField) (value : List ℕ) → item ≡ get_or xs i item → value ≡ item.value → given (get_or xs i item) ≡ record { tag = item.tag; value = value }
given_field xs i item value is e = ap given (sym is) ∙ ap (λ (v : List ℕ). record { tag = item.tag; value = v }) (sym e)

pub given_around : (xs : List GivenField) (i : ℕ) (item : GivenField) (value : List ℕ) → i < length xs → item ≡ get_or xs i item → value ≡ item.value → map given xs ≡ map given (take i xs) ++ (record { tag = item.tag; value = value }) ∷ map given (drop (i + 1) xs)
given_around xs i item value lt is e =
    ap (map given) (sym (take-append-drop i xs) ∙ ap (λ (t : List GivenField). take i xs ++ t) (drop_more xs i item lt))
    ∙ map-append given (take i xs) (get_or xs i item ∷ drop (i + 1) xs)
    ∙ ap (λ (f : Field). map given (take i xs) ++ f ∷ map given (drop (i + 1) xs)) (given_field xs i item value is e)

pub given_more : (xs : List GivenField) (i : ℕ) (item : GivenField) (value : List ℕ) → i < length xs → item ≡ get_or xs i item → value ≡ item.value → map given (take (i + 1) xs) ≡ map given (take i xs) ++ (record { tag = item.tag; value = value }) ∷ []
given_more xs i item value lt is e =
    ap (map given) (take_more xs i item lt) ∙ map-append given (take i xs) (get_or xs i item ∷ []) ∙ ap (λ (f : Field). map given (take i xs) ++ f ∷ []) (given_field xs i item value is e)

pub given_all : (xs : List GivenField) (i : ℕ) → length xs ≤ i → map given (take i xs) ≡ map given xs
given_all xs i le = ap (map given) (take_all i xs le)

-- ---- what is written

pub fields_text-append : (xs ys : List Field) → fields_text (xs ++ ys) ≡ fields_text xs ++ fields_text ys
fields_text-append [] ys = refl
fields_text-append (x ∷ xs) ys = ap (λ (t : List ℕ). field_text x ++ t) (fields_text-append xs ys) ∙ sym (append_assoc (field_text x) (fields_text xs) (fields_text ys))

pub fields_text-push : (xs : List Field) (f : Field) → fields_text (xs ++ f ∷ []) ≡ fields_text xs ++ field_text f
fields_text-push xs f = fields_text-append xs (f ∷ []) ∙ ap (λ (t : List ℕ). fields_text xs ++ t) (append-nil (field_text f))

-- a front of the fields that is too long makes all of them too long
pub too_long : (fs before behind : List Field) (f : Field) (room : ℕ) → fs ≡ before ++ f ∷ behind → room < length (fields_text before ++ field_text f) → room < length (fields_text fs)
too_long fs before behind f room e long =
    let whole : fields_text fs ≡ (fields_text before ++ field_text f) ++ fields_text behind = ap fields_text e ∙ fields_text-append before (f ∷ behind) ∙ sym (append_assoc (fields_text before) (field_text f) (fields_text behind)) in
    omega (arith, long, ap length whole, length-append (fields_text before ++ field_text f) (fields_text behind))

pub text_more : (old new : List ℕ) (before : List Field) (n tag : ℕ) (value : List ℕ) → new ≡ old ++ field_text (field n value) → old ≡ fields_text before → n ≡ tag → new ≡ fields_text before ++ field_text (field tag value)
text_more old new before n tag value e is same = e ∙ ap (λ (t : List ℕ). t ++ field_text (field n value)) is ∙ ap (λ (k : ℕ). fields_text before ++ field_text (field k value)) same

-- ---- which fault comes from where

some_same : {A : Type 0} (x y : A) → Some x ≡ Some y → x ≡ y
some_same x y e = cc

-- a fault of a field
abbrev OfField : DraftFault → Type 0
OfField fault.BadKind = ⊥
OfField (fault.ReservedTag tag) = Unit {0}
OfField (fault.HeaderOrder tag) = Unit {0}
OfField (fault.EmptyValue tag) = Unit {0}
OfField (fault.SohInValue tag) = Unit {0}
OfField (fault.LengthMismatch tag) = Unit {0}
OfField fault.TooLarge = ⊥
OfField fault.OutOfMemory = ⊥

row_of : (engine misplaced empty sized due soh : Bool) (tag : ℕ) (why : DraftFault)
    → (if engine then Some (fault.ReservedTag tag) else (if misplaced then Some (fault.HeaderOrder tag) else (if empty then Some (fault.EmptyValue tag) else (if sized then (if due then None else Some (fault.LengthMismatch tag)) else (if soh then Some (fault.SohInValue tag) else None))))) ≡ Some why → OfField why
row_of true m e d u s tag why is = subst OfField (some_same (fault.ReservedTag tag) why is) tt
row_of false true e d u s tag why is = subst OfField (some_same (fault.HeaderOrder tag) why is) tt
row_of false false true d u s tag why is = subst OfField (some_same (fault.EmptyValue tag) why is) tt
row_of false false false true true s tag why is = cc
row_of false false false true false s tag why is = subst OfField (some_same (fault.LengthMismatch tag) why is) tt
row_of false false false false u true tag why is = subst OfField (some_same (fault.SohInValue tag) why is) tt
row_of false false false false u false tag why is = cc

of_field : (before : List Field) (f : Field) (why : DraftFault) → refusal before f ≡ Some why → OfField why
of_field before f why is = row_of (is_engine_tag f.tag) (is_header_tag f.tag && has_body_field before) (length f.value == 0) (is_data_tag f.tag) (is_due (due_behind None before) f) (has_soh f.value) f.tag why is

pub refused_first : (kind : List ℕ) (fs : List Field) (why : DraftFault) → IsDraftKind kind → IsRefused fs why → IsFirstFault kind fs why
refused_first kind fs fault.BadKind k h = absurd (of_field h.before h.field fault.BadKind h.refused)
refused_first kind fs (fault.ReservedTag tag) k h = (k, h)
refused_first kind fs (fault.HeaderOrder tag) k h = (k, h)
refused_first kind fs (fault.EmptyValue tag) k h = (k, h)
refused_first kind fs (fault.SohInValue tag) k h = (k, h)
refused_first kind fs (fault.LengthMismatch tag) k h = (k, h)
refused_first kind fs fault.TooLarge k h = absurd (of_field h.before h.field fault.TooLarge h.refused)
refused_first kind fs fault.OutOfMemory k h = tt

body_long : (kind rest : List ℕ) → length (body_with kind rest) ≡ 4 + length kind + length rest
body_long kind rest = omega (arith, length-append kind (1 ∷ rest))

pub room_first : (kind : List ℕ) (fs : List Field) (room : ℕ) (why : DraftFault) → IsDraftKind kind → AreAccepted [] fs → room + 4 + length kind ≡ LONGEST_BODY → IsRoomFault room (fields_text fs) why → IsFirstFault kind fs why
room_first kind fs room fault.BadKind k a e h = absurd h
room_first kind fs room (fault.ReservedTag tag) k a e h = absurd h
room_first kind fs room (fault.HeaderOrder tag) k a e h = absurd h
room_first kind fs room (fault.EmptyValue tag) k a e h = absurd h
room_first kind fs room (fault.SohInValue tag) k a e h = absurd h
room_first kind fs room (fault.LengthMismatch tag) k a e h = absurd h
room_first kind fs room fault.TooLarge k a e h = (k, a, omega (arith, body_long kind (fields_text fs), h, e))
room_first kind fs room fault.OutOfMemory k a e h = tt

pub may_be : (kind : List ℕ) (fs : List Field) (room : ℕ) → IsDraftKind kind → AreAccepted [] fs → room + 4 + length kind ≡ LONGEST_BODY → length (fields_text fs) ≤ room → MayBeDraft kind fs
may_be kind fs room k a e le = record { named = k; accepted = a; fits = omega (arith, body_long kind (fields_text fs), le, e) }
