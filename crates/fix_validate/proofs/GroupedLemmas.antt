-- Where no field has anything to do with a group, only required tags are left to be asked for.
use Rattle.std.proofs.Common.{◌≡◌, ℕ, Bool, true, false, ◌||◌, ◌==◌, if◌then◌else◌, ◌≤◌, length, take, arith, inl, inr, List, [], ◌∷◌, ◌++◌, Option, Some, None, refl, sym, ap, ◌∙◌, subst}
use Rattle.std.specs.List.{list_any}
use Rattle.std.proofs.lemmas.Bool.{both_ways}
use Rattle.std.proofs.lemmas.Grind.{common_steps}
use Rattle.fix_base.specs.Fields.{Field}
use Rattle.fix_base.specs.declared.fault.Fault.{Fault}
use Rattle.fix_fields.specs.Shapes.{Shapes, no_more, plain, group}
use Rattle.fix_fields.specs.NoTwice.{has_tag}
use Rattle.fix_groups.specs.Tagged.{Tagged, tagged, all_tagged}
use Rattle.fix_groups.specs.Joined.{joined}
use Rattle.fix_groups.specs.Touched.{touches, touched}
use Rattle.fix_groups.specs.Runs.{run_of, lead}
use Rattle.fix_dict.specs.declared.note.TagNote.{TagNote}
use Rattle.fix_dict.specs.declared.noted.Role.{Role}
use Rattle.fix_dict.specs.declared.noted.Role.TheVariants.{Absent, Plain, Grouped}
use Rattle.fix_dict.specs.Dictionary.{DictionarySeen, note_in}
use Rattle.fix_dict.specs.Notes.{standing_of, is_in_group}
use Rattle.fix_dict.specs.Roles.{is_grouped, role_of, is_of_group, required_one, required_tags}
use Rattle.fix_dict.proofs.RoleLemmas.{grouped_is}
use Rattle.fix_base.specs.Tags.{is_header_tag, is_trailer_tag}
use Rattle.fix_validate.specs.Rows.{Row, IsFirst, Finds}
use Rattle.fix_validate.specs.Table.{is_touching}
use Rattle.fix_validate.specs.Required.{is_there, instances_of, instances_in, rows_of_each, required_tag_missing, tag_rows, required_rows}
use Rattle.fix_validate.specs.Checks.{whole}

neither : (a b : Bool) → (a || b) ≡ false → (a ≡ false) × (b ≡ false)
neither true b e = cc
neither false b e = (refl, e)

or_or : (a b c : Bool) → (a || (b || c)) ≡ ((a || b) || c)
or_or true b c = refl
or_or false b c = refl

swapped : (a b c d : Bool) → ((a || b) || (c || d)) ≡ ((a || c) || (b || d))
swapped true b c d = refl
swapped false true true d = refl
swapped false true false d = refl
swapped false false c d = refl

turned : (a b c : Bool) → (a || (b || c)) ≡ (b || (a || c))
turned true true c = refl
turned true false c = refl
turned false true c = refl
turned false false c = refl

-- ---- a list of fields is touched where one of them is

any_none : (fs : List Tagged) → list_any (λ (f : Tagged). false) fs ≡ false
any_none [] = refl
any_none (f ∷ fs) = any_none fs

any_or : (p q : Tagged → Bool) (fs : List Tagged) → list_any (λ f. p f || q f) fs ≡ (list_any p fs || list_any q fs)
any_or p q [] = refl
any_or p q (f ∷ fs) = ap (λ b. (p f || q f) || b) (any_or p q fs) ∙ swapped (p f) (q f) (list_any p fs) (list_any q fs)

grouped_any : (s : Shapes) (fs : List Tagged) → list_any (λ f. is_grouped f.tag s) fs ≡ touched s fs
grouped_any no_more fs = any_none fs
grouped_any (plain t r more) fs = grouped_any more fs
grouped_any (group c r inner more) fs =
    any_or (λ f. f.tag == c || has_tag f.tag inner) (λ f. is_grouped f.tag more) fs
    ∙ ap (λ b. touches c inner fs || b) (grouped_any more fs)

any_tagged : (p : ℕ → Bool) (fs : List Field) → list_any (λ f. p f.tag) fs ≡ list_any (λ f. p f.tag) (all_tagged fs)
any_tagged p [] = refl
any_tagged p (f ∷ fs) = ap (λ b. p f.tag || b) (any_tagged p fs)

any_same : (p q : Field → Bool) (fs : List Field) → ((f : Field) → p f ≡ q f) → list_any p fs ≡ list_any q fs
any_same p q [] same = refl
any_same p q (f ∷ fs) same = ap (λ b. b || list_any p fs) (same f) ∙ ap (λ b. q f || b) (any_same p q fs same)

grouped-joined : (t : ℕ) (a b : Shapes) → is_grouped t (joined a b) ≡ (is_grouped t a || is_grouped t b)
grouped-joined t no_more b = refl
grouped-joined t (plain u r more) b = grouped-joined t more b
grouped-joined t (group c r inner more) b =
    ap (λ x. (t == c || has_tag t inner) || x) (grouped-joined t more b) ∙ or_or (t == c || has_tag t inner) (is_grouped t more) (is_grouped t b)

standing_is : (role : Role) (standard : Bool) → is_in_group (standing_of role standard) ≡ is_of_group role
standing_is Grouped standard = refl
standing_is Plain standard = refl
standing_is Absent true = refl
standing_is Absent false = refl

-- a tag is touching just where it is one of a group of the whole
pub touching_is : (dictionary : DictionarySeen) (message : Shapes) (tag : ℕ) → is_touching (note_in dictionary tag) (role_of message tag) ≡ is_grouped tag (whole dictionary message)
touching_is dictionary message tag =
    let h = standing_is (role_of dictionary.header tag) (is_header_tag tag) ∙ grouped_is dictionary.header tag in
    let t = standing_is (role_of dictionary.trailer tag) (is_trailer_tag tag) ∙ grouped_is dictionary.trailer tag in
    ap (λ b. b || (is_in_group (note_in dictionary tag).header || is_in_group (note_in dictionary tag).trailer)) (grouped_is message tag)
    ∙ ap (λ b. is_grouped tag message || (b || is_in_group (note_in dictionary tag).trailer)) h
    ∙ ap (λ b. is_grouped tag message || (is_grouped tag dictionary.header || b)) t
    ∙ turned (is_grouped tag message) (is_grouped tag dictionary.header) (is_grouped tag dictionary.trailer)
    ∙ ap (λ b. is_grouped tag dictionary.header || b) (sym (grouped-joined tag message dictionary.trailer))
    ∙ sym (grouped-joined tag dictionary.header (joined message dictionary.trailer))

-- a field is touching
abbrev pub touching_field : DictionarySeen → Shapes → Field → Bool
touching_field dictionary message f = is_touching (note_in dictionary f.tag) (role_of message f.tag)

pub touching_any : (dictionary : DictionarySeen) (message : Shapes) (fs : List Field) → list_any (touching_field dictionary message) fs ≡ touched (whole dictionary message) (all_tagged fs)
touching_any dictionary message fs =
    any_same (touching_field dictionary message) (λ f. is_grouped f.tag (whole dictionary message)) fs (λ f. touching_is dictionary message f.tag)
    ∙ any_tagged (λ t. is_grouped t (whole dictionary message)) fs
    ∙ grouped_any (whole dictionary message) (all_tagged fs)

pub touched_end : (dictionary : DictionarySeen) (message : Shapes) (fs : List Field) (n : ℕ) (t : Bool) → length fs ≤ n → t ≡ list_any (touching_field dictionary message) (take n fs) → t ≡ touched (whole dictionary message) (all_tagged fs)
touched_end dictionary message fs n t le is =
    let all : take n fs ≡ fs = grind (arith, common_steps) in
    is ∙ ap (list_any (touching_field dictionary message)) all ∙ touching_any dictionary message fs

-- ---- required tags of a layout that no field touches

no_count : (c : ℕ) (inner : Shapes) (fs : List Tagged) → touches c inner fs ≡ false → instances_in c inner fs ≡ []
no_count c inner [] e = refl
no_count c inner (f ∷ fs) e =
    let both = neither (f.tag == c || has_tag f.tag inner) (touches c inner fs) e in
    let here = neither (f.tag == c) (has_tag f.tag inner) both.0 in
    ap (λ (b : Bool). if b then instances_of (lead inner) (run_of inner fs) ++ instances_in c inner fs else instances_in c inner fs) here.0 ∙ no_count c inner fs both.1

member_first : (t : ℕ) (r : Bool) (ts : List ℕ) (rest : List Row) (fs : List Tagged) (a : Option Fault) → (IsFirst (tag_rows ts fs) a → IsFirst rest a)
    → IsFirst (tag_rows (required_one t r ++ ts) fs) a → IsFirst (required_tag_missing t r fs ∷ rest) a
member_first t true ts rest fs a on (inl h) = inl h
member_first t true ts rest fs a on (inr h) = inr (h.0, on h.1)
member_first t false ts rest fs a on h = inr (both_ways _ refl, on h)

tags_first : (s : Shapes) (fs : List Tagged) (a : Option Fault) → touched s fs ≡ false → IsFirst (tag_rows (required_tags s) fs) a → IsFirst (required_rows s fs) a
tags_first no_more fs a e h = h
tags_first (plain t r more) fs a e h = member_first t r (required_tags more) (required_rows more fs) fs a (tags_first more fs a e) h
tags_first (group c r inner more) fs a e h =
    let both = neither (touches c inner fs) (touched more fs) e in
    subst (λ (l : List (List Tagged)). IsFirst (required_tag_missing c r fs ∷ (rows_of_each (required_rows inner) l ++ required_rows more fs)) a) (sym (no_count c inner fs both.0))
    (member_first c r (required_tags more) (required_rows more fs) fs a (tags_first more fs a both.1) h)

pub tags_find : (s : Shapes) (fs : List Tagged) (tags : List ℕ) (a : Option Fault) → touched s fs ≡ false → tags ≡ required_tags s → Finds (tag_rows tags fs) a → Finds (required_rows s fs) a
tags_find s fs tags a e is h = record { is = tags_first s fs a e (subst (λ (l : List ℕ). IsFirst (tag_rows l fs) a) is h.is) }

touched-joined : (a b : Shapes) (fs : List Tagged) → touched (joined a b) fs ≡ (touched a fs || touched b fs)
touched-joined no_more b fs = refl
touched-joined (plain t r more) b fs = touched-joined more b fs
touched-joined (group c r inner more) b fs = ap (λ x. touches c inner fs || x) (touched-joined more b fs) ∙ or_or (touches c inner fs) (touched more fs) (touched b fs)

-- nor does one touch header, message or trailer
pub record IsFree (dictionary : DictionarySeen) (own : Shapes) (fs : List Tagged) : Type 0 where
  pub header : touched dictionary.header fs ≡ false
  pub message : touched own fs ≡ false
  pub trailer : touched dictionary.trailer fs ≡ false

pub free : (dictionary : DictionarySeen) (message : Shapes) (fs : List Tagged) → touched (whole dictionary message) fs ≡ false → IsFree dictionary message fs
free dictionary message fs e =
    let one = neither (touched dictionary.header fs) (touched (joined message dictionary.trailer) fs) (sym (touched-joined dictionary.header (joined message dictionary.trailer) fs) ∙ e) in
    let two = neither (touched message fs) (touched dictionary.trailer fs) (sym (touched-joined message dictionary.trailer fs) ∙ one.1) in
    record { header = one.0; message = two.0; trailer = two.1 }
