-- The members of a message, of a header, of a trailer or of a group: the first wrong place among
-- them, and the layout that they say.
use Rattle.std.specs.Prelude.{ℕ, zero, suc, ◌+◌, Bool, true, false, not, ◌&&◌, ◌==◌, if◌then◌else◌, List, [], ◌∷◌}
use Rattle.std.specs.Prelude.{map, codes, Option, Some, None, is_some, unwrap_or, Result, Ok, Err}
use Rattle.std.specs.Ordering.{nat_cmp}
use Rattle.std.specs.FinMap as table
use Rattle.std.specs.FinSet as set
use Rattle.serde_json.specs.Data.{Data}
use Rattle.serde_json.specs.Find.{as_object}
use Rattle.fix_fields.specs.Members.{shapes_of}
use Rattle.fix_fields.specs.declared.layout.Member.{Member}
use Rattle.fix_fields.specs.declared.layout.Member.TheVariants.{Plain, Group}
use Rattle.fix_dict.specs.declared.fault.DictFault.{DictFault}
use Rattle.fix_dict.specs.declared.fault.DictFault.TheVariants.{BadShape, DuplicateTag, UnknownTag, DepthPassed}
use Rattle.fix_dict.specs.Faults.{and_then, inside}
use Rattle.fix_dict.specs.Fields.{FieldTable}
use Rattle.fix_dict.specs.Parts.{items_at, flag_at, tag_at, has}

-- a set of tags
abbrev pub TagSet : Type 0
TagSet = set.FinSet nat_cmp

-- ---- members

abbrev pub are_some : List Data → Bool
are_some [] = false
are_some (d ∷ ds) = true

abbrev pub tag_or : Option ℕ → List ℕ → Result ℕ (List ℕ)
tag_or (Some tag) path = Ok tag
tag_or None path = Err path

-- the tag of a member of its form, or where it isn't, as a path from the member on: a field has
-- `tag`, and a group `group` and some members; the first member of a group is a field
abbrev pub with_members : Option ℕ → List Data → Result ℕ (List ℕ)
with_members None ds = Err (codes "group")
with_members (Some tag) ds = if are_some ds then Ok tag else Err (codes "members")

abbrev pub member_shape : Bool → Data → Result ℕ (List ℕ)
member_shape leads d =
    if not (is_some (as_object d)) then Err []
    else (if not (is_some (flag_at (codes "required") d)) then Err (codes "required")
    else (if has (codes "tag") d then
    (if has (codes "group") d then Err [] else tag_or (tag_at (codes "tag") d) (codes "tag"))
    else (if leads then Err (codes "tag")
    else (if has (codes "group") d then with_members (tag_at (codes "group") d)
    (items_at (codes "members") d) else Err (codes "tag")))))

-- the tag, where it is one of the fields' and none before has it
abbrev pub new_tag : (fields : FieldTable) → (seen : TagSet) → ℕ → Result ℕ DictFault
new_tag fields seen tag =
    if table.contains_key fields tag then
    (if set.contains seen tag then Err (DuplicateTag tag) else Ok tag) else Err (UnknownTag tag)

abbrev pub own_tag : (fields : FieldTable) → (seen : TagSet) → Result ℕ (List ℕ) → Result ℕ DictFault
own_tag fields seen (Ok tag) = new_tag fields seen tag
own_tag fields seen (Err path) = Err (BadShape path)

-- the tags after a member: what is inside a group is judged by `inner`
abbrev pub judged_member : (inner : TagSet → List Data → Result TagSet DictFault) → (fields : FieldTable)
    → (leads : Bool) → (seen : TagSet) → Data → Result TagSet DictFault
judged_member inner fields leads seen d =
    and_then (own_tag fields seen (member_shape leads d))
    (λ tag. if has (codes "group") d then inner (set.insert seen tag) (items_at (codes "members") d) else Ok
    (set.insert seen tag))

-- the tags after the items of the array with the name, from the index on
abbrev pub judged_items : (inner : TagSet → List Data → Result TagSet DictFault) → (fields : FieldTable)
    → (name : List ℕ) → (leads : Bool) → (index : ℕ) → (seen : TagSet) → List Data → Result TagSet DictFault
judged_items inner fields name leads index seen [] = Ok seen
judged_items inner fields name leads index seen (d ∷ ds) =
    and_then (inside name index (judged_member inner fields (leads && (index == 0)) seen d))
    (λ behind. judged_items inner fields name leads (index + 1) behind ds)

-- so many groups may stand one in another
abbrev pub inside_group : (depth_left : ℕ) → (fields : FieldTable) → TagSet → List Data → Result TagSet DictFault
inside_group zero fields seen ds = Err DepthPassed
inside_group (suc depth_left) fields seen ds = judged_items (inside_group depth_left fields) fields
    (codes "members") true 0 seen ds

abbrev pub judged_members : (depth_left : ℕ) → (fields : FieldTable) → (name : List ℕ) → (leads : Bool) → TagSet
    → List Data → Result TagSet DictFault
judged_members depth_left fields name leads seen ds = judged_items
    (inside_group depth_left fields) fields name leads 0 seen ds

-- ---- the layout that they say

abbrev pub member_tag : Data → ℕ
member_tag d = unwrap_or (if has (codes "tag") d then tag_at (codes "tag") d else tag_at (codes "group") d) 1

abbrev pub is_required : Data → Bool
is_required d = unwrap_or (flag_at (codes "required") d) false

abbrev pub member_in : (inner : List Data → List Member) → Data → Member
member_in inner d =
    if has (codes "group") d then Group (member_tag d) (is_required d)
    (shapes_of (inner (items_at (codes "members") d)))
    else Plain (member_tag d) (is_required d)

abbrev pub inner_members : (depth_left : ℕ) → List Data → List Member
inner_members zero ds = []
inner_members (suc depth_left) ds = map (member_in (inner_members depth_left)) ds

abbrev pub members_in : (depth_left : ℕ) → List Data → List Member
members_in depth_left ds = map (member_in (inner_members depth_left)) ds
