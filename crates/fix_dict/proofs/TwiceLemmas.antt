-- What is judged right has no tag twice.
use Rattle.std.proofs.Common.{◌≡◌, ℕ, zero, suc, ◌+◌, Bool, true, false, not, ◌&&◌, ◌||◌, ◌==◌, if◌then◌else◌, List, [], ◌∷◌, map, codes, cond, IfOk, Option, Some, None, is_some, option_and_then, unwrap_or, Result, Ok, Err, refl, sym, ap, subst, ◌∙◌, rules}
use Rattle.std.proofs.lemmas.Bool.{true≢false}
use Rattle.std.specs.Ordering.{nat_cmp, eq_by_cmp}
use Rattle.std.specs.Cmp.{nat_cmp_total, unsigned_tied}
use Rattle.std.specs.Cmp.Lexicographic.{slice_cmp, nat_list_cmp_total}
use Rattle.std.specs.FinSet as set
use Rattle.std.specs.FinMap as table
use Rattle.serde_json.specs.Data.{Data}
use Rattle.serde_json.specs.Find.{as_object}
use Rattle.fix_fields.specs.Shapes.{Shapes, no_more, plain, group}
use Rattle.fix_fields.specs.Members.{shapes_of}
use Rattle.fix_fields.specs.NoTwice.{has_tag, IsLed, HasNoTwice}
use Rattle.fix_fields.specs.declared.layout.Member.{Member}
use Rattle.fix_fields.specs.declared.layout.Member.TheVariants.{Plain, Group}
use Rattle.fix_dict.specs.declared.fault.DictFault.{DictFault}
use Rattle.fix_dict.specs.declared.fault.DictFault.TheVariants.{DuplicateTag, UnknownTag}
use Rattle.fix_dict.specs.Parts.{list_at, items_at, text_at, flag_at, tag_at, has}
use Rattle.fix_dict.specs.Faults.{and_then, inside, need}
use Rattle.fix_dict.specs.Fields.{FieldTable, fields_in}
use Rattle.fix_dict.specs.Messages.{MessageTable, most_groups, type_in, new_type, message_in, messages_in}
use Rattle.fix_dict.specs.Dictionary.{DictionarySeen, version, dictionary_in, AreTold, IsTold, Says}
use Rattle.fix_dict.specs.Members.{TagSet, are_some, tag_or, with_members, member_shape, own_tag, judged_member, judged_items, inside_group, member_tag, is_required, member_in, inner_members, members_in}

-- ---- what an Ok came from

abbrev is_fine : {A E : Type 0} → Result A E → Bool
is_fine (Ok a) = true
is_fine (Err e) = false

no : {A E : Type 0} (e : E) (a : A) → Err e ≡ Ok a → ⊥
no e a h = true≢false (sym (ap is_fine h))

abbrev number_of : {E : Type 0} → Result ℕ E → ℕ
number_of (Ok n) = n
number_of (Err e) = 0

record Came {A B : Type 0} (r : Result A DictFault) (f : A → Result B DictFault) (b : B) : Type 0 where
  value : A
  first : r ≡ Ok value
  next : f value ≡ Ok b

came : {A B : Type 0} (r : Result A DictFault) (f : A → Result B DictFault) (b : B) → and_then r f ≡ Ok b → Came r f b
came (Ok a) f b h = record { value = a; first = refl; next = h }
came (Err e) f b h = absurd (no e b h)

came_inside : {A : Type 0} (name : List ℕ) (index : ℕ) (r : Result A DictFault) (a : A) → inside name index r ≡ Ok a → r ≡ Ok a
came_inside name index (Ok x) a h = h
came_inside name index (Err e) a h = absurd (no _ a h)

-- ---- sets

or_left : (a b : Bool) → a ≡ true → (a || b) ≡ true
or_left true b h = refl
or_left false b h = absurd (true≢false (sym h))

or_right : (a b : Bool) → b ≡ true → (a || b) ≡ true
or_right true b h = refl
or_right false b h = h

or_either : {P : Type 0} (a b : Bool) → (a ≡ true → P) → (b ≡ true → P) → (a || b) ≡ true → P
or_either true b x y h = x refl
or_either false b x y h = y h

off : (b : Bool) → (b ≡ true → ⊥) → b ≡ false
off true h = absurd (h refl)
off false h = refl

same : (t u : ℕ) → (t == u) ≡ true → t ≡ u
same t u h = search (rules, h)

itself : (t : ℕ) → (t == t) ≡ true
itself t = search rules

in_old : (s : TagSet) (k t : ℕ) → set.contains s t ≡ true → set.contains (set.insert s k) t ≡ true
in_old s k t h = set.contains-insert nat_cmp_total s k t ∙ or_right (eq_by_cmp nat_cmp t k) (set.contains s t) h

in_new : (s : TagSet) (k : ℕ) → set.contains (set.insert s k) k ≡ true
in_new s k = set.contains-insert nat_cmp_total s k k ∙ or_left (eq_by_cmp nat_cmp k k) (set.contains s k) (unsigned_tied k k ∙ itself k)

-- ---- layouts that come behind a set of tags

record Comes (seen after : TagSet) (s : Shapes) : Type 0 where
  told : HasNoTwice s
  apart : (t : ℕ) → has_tag t s ≡ true → set.contains seen t ≡ true → ⊥
  keeps : (t : ℕ) → set.contains seen t ≡ true → set.contains after t ≡ true
  adds : (t : ℕ) → has_tag t s ≡ true → set.contains after t ≡ true

comes_none : (seen : TagSet) → Comes seen seen no_more
comes_none seen = record { told = tt; apart = λ t h. absurd (true≢false (sym h)); keeps = λ t h. h; adds = λ t h. absurd (true≢false (sym h)) }

comes_plain : (seen after : TagSet) (k : ℕ) (required : Bool) (s : Shapes) → set.contains seen k ≡ false → Comes (set.insert seen k) after s → Comes seen after (plain k required s)
comes_plain seen after k required s new h = record {
  told = (off (has_tag k s) (λ on. h.apart k on (in_new seen k)), h.told);
  apart = λ t on old. or_either (t == k) (has_tag t s) (λ is. true≢false (sym old ∙ ap (set.contains seen) (same t k is) ∙ new)) (λ x. h.apart t x (in_old seen k t old)) on;
  keeps = λ t old. h.keeps t (in_old seen k t old);
  adds = λ t on. or_either (t == k) (has_tag t s) (λ is. h.keeps t (ap (set.contains (set.insert seen k)) (same t k is) ∙ in_new seen k)) (h.adds t) on;
}

comes_group : (seen middle after : TagSet) (k : ℕ) (required : Bool) (inner s : Shapes) → set.contains seen k ≡ false → IsLed inner → Comes (set.insert seen k) middle inner → Comes middle after s → Comes seen after (group k required inner s)
comes_group seen middle after k required inner s new led g h = record {
  told = (off (has_tag k inner) (λ on. g.apart k on (in_new seen k)), off (has_tag k s) (λ on. h.apart k on (g.keeps k (in_new seen k))), (λ u on. off (has_tag u s) (λ x. h.apart u x (g.adds u on))), led, g.told, h.told);
  apart = λ t on old. or_either (t == k) (has_tag t inner || has_tag t s) (λ is. true≢false (sym old ∙ ap (set.contains seen) (same t k is) ∙ new))
      (or_either (has_tag t inner) (has_tag t s) (λ x. g.apart t x (in_old seen k t old)) (λ x. h.apart t x (g.keeps t (in_old seen k t old)))) on;
  keeps = λ t old. h.keeps t (g.keeps t (in_old seen k t old));
  adds = λ t on. or_either (t == k) (has_tag t inner || has_tag t s) (λ is. h.keeps t (g.keeps t (ap (set.contains (set.insert seen k)) (same t k is) ∙ in_new seen k)))
      (or_either (has_tag t inner) (has_tag t s) (λ x. h.keeps t (g.adds t x)) (h.adds t)) on;
}

-- ---- one member

record Shaped (leads has_group : Bool) (found : ℕ) (ds : List Data) (tag : ℕ) : Type 0 where
  tag_is : found ≡ tag
  some : has_group ≡ true → are_some ds ≡ true
  field : leads ≡ true → has_group ≡ false

shaped : (top flag has_field has_group leads : Bool) (f g : Option ℕ) (ds : List Data) (tag : ℕ)
    → (if not top then Err [] else (if not flag then Err (codes "required") else (if has_field then (if has_group then Err [] else tag_or f (codes "tag"))
    else (if leads then Err (codes "tag") else (if has_group then with_members g ds else Err (codes "tag")))))) ≡ Ok tag
    → Shaped leads has_group (unwrap_or (if has_field then f else g) 1) ds tag
shaped false flag has_field has_group leads f g ds tag h = absurd (no _ tag h)
shaped true false has_field has_group leads f g ds tag h = absurd (no _ tag h)
shaped true true true true leads f g ds tag h = absurd (no _ tag h)
shaped true true true false leads None g ds tag h = absurd (no _ tag h)
shaped true true true false leads (Some t) g ds tag h = record { tag_is = ap number_of h; some = λ x. absurd (true≢false (sym x)); field = λ x. refl }
shaped true true false has_group true f g ds tag h = absurd (no _ tag h)
shaped true true false false false f g ds tag h = absurd (no _ tag h)
shaped true true false true false f None ds tag h = absurd (no _ tag h)
shaped true true false true false f (Some t) [] tag h = absurd (no _ tag h)
shaped true true false true false f (Some t) (d ∷ ds) tag h = record { tag_is = ap number_of h; some = λ x. refl; field = λ x. absurd (true≢false (sym x)) }

new_came : (a b : Bool) (t tag : ℕ) → (if a then (if b then Err (DuplicateTag t) else Ok t) else Err (UnknownTag t)) ≡ Ok tag → (b ≡ false) × (t ≡ tag)
new_came true true t tag h = absurd (no _ tag h)
new_came true false t tag h = (refl, ap number_of h)
new_came false b t tag h = absurd (no _ tag h)

own_came : (fields : FieldTable) (seen : TagSet) (shape : Result ℕ (List ℕ)) (tag : ℕ) → own_tag fields seen shape ≡ Ok tag → (shape ≡ Ok tag) × (set.contains seen tag ≡ false)
own_came fields seen (Ok t) tag h = let p = new_came (table.contains_key fields t) (set.contains seen t) t tag h in (ap Ok p.1, subst (λ x. set.contains seen x ≡ false) p.1 p.0)
own_came fields seen (Err path) tag h = absurd (no _ tag h)

-- what is inside groups comes behind what stands before it
abbrev GroupsCome : (TagSet → List Data → Result TagSet DictFault) → (List Data → List Member) → Type 0
GroupsCome judge inner = (seen after : TagSet) (ds : List Data) → are_some ds ≡ true → judge seen ds ≡ Ok after → Comes seen after (shapes_of (inner ds)) × IsLed (shapes_of (inner ds))

joined : (has_group : Bool) (k found : ℕ) (required : Bool) (judge : TagSet → List Data → Result TagSet DictFault) (inner : List Data → List Member) → GroupsCome judge inner → (ds : List Data) (rest : List Member) (seen middle after : TagSet)
    → found ≡ k → set.contains seen k ≡ false → (has_group ≡ true → are_some ds ≡ true) → (if has_group then judge (set.insert seen k) ds else Ok (set.insert seen k)) ≡ Ok middle → Comes middle after (shapes_of rest)
    → Comes seen after (shapes_of ((if has_group then Group found required (shapes_of (inner ds)) else Plain found required) ∷ rest))
joined true k found required judge inner groups ds rest seen middle after is new some h more =
    let p = groups (set.insert seen k) middle ds (some refl) h in
    subst (λ t. Comes seen after (group t required (shapes_of (inner ds)) (shapes_of rest))) (sym is) (comes_group seen middle after k required (shapes_of (inner ds)) (shapes_of rest) new p.1 p.0 more)
joined false k found required judge inner groups ds rest seen middle after is new some h more =
    subst (λ t. Comes seen after (plain t required (shapes_of rest))) (sym is)
    (comes_plain seen after k required (shapes_of rest) new (subst (λ s. Comes s after (shapes_of rest)) (sym (ap (set_of (set.insert seen k)) h)) more))
  where
    set_of : TagSet → Result TagSet DictFault → TagSet
    set_of other (Ok s) = s
    set_of other (Err e) = other

-- ---- one after another

items_come : (judge : TagSet → List Data → Result TagSet DictFault) (inner : List Data → List Member) → GroupsCome judge inner → (fields : FieldTable) (name : List ℕ) (leads : Bool) (index : ℕ) (seen after : TagSet) (ds : List Data)
    → judged_items judge fields name leads index seen ds ≡ Ok after → Comes seen after (shapes_of (map (member_in inner) ds))
items_come judge inner groups fields name leads index seen after [] h = subst (λ s. Comes seen s no_more) (ap (set_in seen) h) (comes_none seen)
  where
    set_in : TagSet → Result TagSet DictFault → TagSet
    set_in other (Ok s) = s
    set_in other (Err e) = other
items_come judge inner groups fields name leads index seen after (d ∷ ds) h =
    let first = leads && (index == 0) in
    let c = came (inside name index (judged_member judge fields first seen d)) _ after h in
    let m = came (own_tag fields seen (member_shape first d)) _ c.value (came_inside name index (judged_member judge fields first seen d) c.value c.first) in
    let o = own_came fields seen (member_shape first d) m.value m.first in
    let s = shaped (is_some (as_object d)) (is_some (flag_at (codes "required") d)) (has (codes "tag") d) (has (codes "group") d) first (tag_at (codes "tag") d) (tag_at (codes "group") d) (items_at (codes "members") d) m.value o.0 in
    joined (has (codes "group") d) m.value (member_tag d) (is_required d) judge inner groups (items_at (codes "members") d) (map (member_in inner) ds) seen c.value after
    s.tag_is o.1 s.some m.next (items_come judge inner groups fields name leads (index + 1) c.value after ds c.next)

led_first : (has_group : Bool) (k : ℕ) (required : Bool) (s : Shapes) (rest : List Member) → has_group ≡ false → IsLed (shapes_of ((if has_group then Group k required s else Plain k required) ∷ rest))
led_first true k required s rest h = absurd (true≢false h)
led_first false k required s rest h = tt

items_led : (judge : TagSet → List Data → Result TagSet DictFault) (inner : List Data → List Member) (fields : FieldTable) (name : List ℕ) (seen after : TagSet) (ds : List Data)
    → are_some ds ≡ true → judged_items judge fields name true 0 seen ds ≡ Ok after → IsLed (shapes_of (map (member_in inner) ds))
items_led judge inner fields name seen after [] some h = absurd (true≢false (sym some))
items_led judge inner fields name seen after (d ∷ ds) some h =
    let c = came (inside name 0 (judged_member judge fields true seen d)) _ after h in
    let m = came (own_tag fields seen (member_shape true d)) _ c.value (came_inside name 0 (judged_member judge fields true seen d) c.value c.first) in
    let o = own_came fields seen (member_shape true d) m.value m.first in
    let s = shaped (is_some (as_object d)) (is_some (flag_at (codes "required") d)) (has (codes "tag") d) (has (codes "group") d) true (tag_at (codes "tag") d) (tag_at (codes "group") d) (items_at (codes "members") d) m.value o.0 in
    led_first (has (codes "group") d) (member_tag d) (is_required d) _ (map (member_in inner) ds) (s.field refl)

groups_come : (depth_left : ℕ) (fields : FieldTable) → GroupsCome (inside_group depth_left fields) (inner_members depth_left)
groups_come zero fields seen after ds some h = absurd (no _ after h)
groups_come (suc depth_left) fields seen after ds some h = (
  items_come (inside_group depth_left fields) (inner_members depth_left) (groups_come depth_left fields) fields (codes "members") true 0 seen after ds h,
  items_led (inside_group depth_left fields) (inner_members depth_left) fields (codes "members") seen after ds some h,
)

pub no_twice : (depth_left : ℕ) (fields : FieldTable) (name : List ℕ) (leads : Bool) (seen after : TagSet) (ds : List Data)
    → judged_items (inside_group depth_left fields) fields name leads 0 seen ds ≡ Ok after → HasNoTwice (shapes_of (members_in depth_left ds))
no_twice depth_left fields name leads seen after ds h = (items_come (inside_group depth_left fields) (inner_members depth_left) (groups_come depth_left fields) fields name leads 0 seen after ds h).told

-- ---- messages, and the whole

abbrev some_of : Shapes → Option Shapes → Shapes
some_of other None = other
some_of other (Some s) = s

picked : (b : Bool) (v x : Shapes) (found : Option Shapes) → HasNoTwice v → (found ≡ Some x → HasNoTwice x) → cond b (Some v) found ≡ Some x → HasNoTwice x
picked true v x found told later h = subst HasNoTwice (ap (some_of v) h) told
picked false v x found told later h = later h

insert_told : (m : MessageTable) (k : List ℕ) (v : Shapes) → AreTold m → HasNoTwice v → AreTold (table.insert m k v)
insert_told m k v told new q x h = picked (eq_by_cmp (slice_cmp nat_cmp) q k) v x (table.get m q) new (told q x) (sym (table.get-insert nat_list_cmp_total m k v q) ∙ h)

abbrev set_or : MessageTable → Result MessageTable DictFault → MessageTable
set_or other (Ok m) = m
set_or other (Err e) = other

message_told : (fields : FieldTable) (before after : MessageTable) (d : Data) → AreTold before → message_in fields before d ≡ Ok after → AreTold after
message_told fields before after d told h =
    let a = came (need (as_object d) []) _ after h in
    let b = came (new_type before (type_in (text_at (codes "type") d))) _ after a.next in
    let c = came (need (text_at (codes "name") d) (codes "name")) _ after b.next in
    let e = came (need (list_at (codes "members") d) (codes "members")) _ after c.next in
    let f = came (judged_items (inside_group most_groups fields) fields (codes "members") false 0 set.empty e.value) _ after e.next in
    subst AreTold (ap (set_or before) f.next) (insert_told before b.value (shapes_of (members_in most_groups e.value)) told (no_twice most_groups fields (codes "members") false set.empty f.value e.value f.first))

messages_told : (fields : FieldTable) (index : ℕ) (before after : MessageTable) (ds : List Data) → AreTold before → messages_in fields index before ds ≡ Ok after → AreTold after
messages_told fields index before after [] told h = subst AreTold (ap (set_or before) h) told
messages_told fields index before after (d ∷ ds) told h =
    let c = came (inside (codes "messages") index (message_in fields before d)) _ after h in
    messages_told fields (index + 1) c.value after ds (message_told fields before c.value d told (came_inside (codes "messages") index (message_in fields before d) c.value c.first)) c.next

none_told : AreTold table.empty
none_told q x h = absurd (true≢false (sym (ap is_some (sym (table.get-empty (slice_cmp nat_cmp) q) ∙ h))))

abbrev book_or : DictionarySeen → Result DictionarySeen DictFault → DictionarySeen
book_or other (Ok b) = b
book_or other (Err e) = other

pub book_told : (d : Data) (dictionary : DictionarySeen) → dictionary_in d ≡ Ok dictionary → IsTold dictionary
book_told d dictionary h =
    let a = came (need (as_object d) []) _ dictionary h in
    let b = came (need (option_and_then version (text_at (codes "begin") d)) (codes "begin")) _ dictionary a.next in
    let c = came (need (list_at (codes "fields") d) (codes "fields")) _ dictionary b.next in
    let e = came (fields_in 0 table.empty c.value) _ dictionary c.next in
    let f = came (need (list_at (codes "header") d) (codes "header")) _ dictionary e.next in
    let g = came (judged_items (inside_group most_groups e.value) e.value (codes "header") false 0 set.empty f.value) _ dictionary f.next in
    let i = came (need (list_at (codes "trailer") d) (codes "trailer")) _ dictionary g.next in
    let j = came (judged_items (inside_group most_groups e.value) e.value (codes "trailer") false 0 g.value i.value) _ dictionary i.next in
    let k = came (need (list_at (codes "messages") d) (codes "messages")) _ dictionary j.next in
    let l = came (messages_in e.value 0 table.empty k.value) _ dictionary k.next in
    subst IsTold (ap (book_or dictionary) l.next) (record {
      header = no_twice most_groups e.value (codes "header") false set.empty g.value f.value g.first;
      trailer = no_twice most_groups e.value (codes "trailer") false g.value j.value i.value j.first;
      messages = messages_told e.value 0 table.empty l.value k.value none_told l.first;
    })

pub read_told : (answer : Result DictionarySeen DictFault) (bytes : List ℕ) → IfOk answer (λ dictionary. Says bytes (Ok dictionary)) → IfOk answer IsTold
read_told (Ok dictionary) bytes h = book_told h.0 dictionary h.2
read_told (Err e) bytes h = h
