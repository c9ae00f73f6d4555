-- A JSON value is never refused as no JSON.
use Rattle.std.proofs.Common.{◌≡◌, ℕ, zero, suc, ◌+◌, Bool, true, false, if◌then◌else◌, List, [], ◌∷◌, ◌++◌, ◌&&◌, ◌==◌, Option, Some, None, option_and_then, Result, Ok, Err, IfErr, codes, refl, sym, ap, ◌∙◌}
use Rattle.std.proofs.lemmas.Bool.{true≢false}
use Rattle.std.specs.FinSet as set
use Rattle.std.specs.FinMap as table
use Rattle.serde_json.specs.Data.{Data}
use Rattle.serde_json.specs.Find.{get, as_str, as_object}
use Rattle.fix_dict.specs.declared.fault.DictFault.{DictFault}
use Rattle.fix_dict.specs.declared.fault.DictFault.TheVariants.{NotJson, BadShape, DuplicateTag, UnknownTag, DuplicateType, DepthPassed, OutOfMemory}
use Rattle.fix_dict.specs.Parts.{list_in, list_at, items_at, text_at, tag_at, has}
use Rattle.fix_dict.specs.Faults.{and_then, inside, need, IsMemory}
use Rattle.fix_dict.specs.Fields.{FieldTable, some_text, texts_in, listed_values, values_in, field_tag, kind_at, field_in, fields_in}
use Rattle.fix_dict.specs.Members.{TagSet, new_tag, own_tag, member_shape, judged_member, judged_items, inside_group}
use Rattle.fix_dict.specs.Messages.{MessageTable, most_groups, type_in, new_type, message_in, messages_in}
use Rattle.fix_dict.specs.Dictionary.{DictionarySeen, version, dictionary_in, IsJson}

abbrev is_json : DictFault → Bool
is_json NotJson = false
is_json (BadShape path) = true
is_json (DuplicateTag tag) = true
is_json (UnknownTag tag) = true
is_json (DuplicateType type) = true
is_json DepthPassed = true
is_json OutOfMemory = true

-- the answer isn't that the bytes are no JSON
abbrev fits : {A : Type 0} → Result A DictFault → Bool
fits (Ok a) = true
fits (Err fault) = is_json fault

then_fits : {A B : Type 0} (r : Result A DictFault) (f : A → Result B DictFault) → fits r ≡ true → ((a : A) → fits (f a) ≡ true) → fits (and_then r f) ≡ true
then_fits (Ok a) f first next = next a
then_fits (Err fault) f first next = first

inside_fits : {A : Type 0} (name : List ℕ) (index : ℕ) (r : Result A DictFault) → fits r ≡ true → fits (inside name index r) ≡ true
inside_fits name index (Ok a) h = refl
inside_fits name index (Err NotJson) h = h
inside_fits name index (Err (BadShape path)) h = refl
inside_fits name index (Err (DuplicateTag tag)) h = refl
inside_fits name index (Err (UnknownTag tag)) h = refl
inside_fits name index (Err (DuplicateType type)) h = refl
inside_fits name index (Err DepthPassed) h = refl
inside_fits name index (Err OutOfMemory) h = refl

need_fits : {A : Type 0} (found : Option A) (path : List ℕ) → fits (need found path) ≡ true
need_fits None path = refl
need_fits (Some a) path = refl

if_fits : {A : Type 0} (b : Bool) (r s : Result A DictFault) → fits r ≡ true → fits s ≡ true → fits (if b then r else s) ≡ true
if_fits true r s x y = x
if_fits false r s x y = y

-- ---- fields

text_fits : (found : Option (List ℕ)) → fits (some_text found) ≡ true
text_fits None = refl
text_fits (Some []) = refl
text_fits (Some (b ∷ bs)) = refl

texts_fit : (index : ℕ) (before : List (List ℕ)) (ds : List Data) → fits (texts_in index before ds) ≡ true
texts_fit index before [] = refl
texts_fit index before (d ∷ ds) =
    then_fits (inside (codes "values") index (some_text (as_str d))) _ (inside_fits (codes "values") index (some_text (as_str d)) (text_fits (as_str d))) (λ text. texts_fit (index + 1) (before ++ text ∷ []) ds)

listed_fit : (found : Option (List Data)) → fits (listed_values found) ≡ true
listed_fit None = refl
listed_fit (Some ds) = texts_fit 0 [] ds

values_fit : (found : Option Data) → fits (values_in found) ≡ true
values_fit None = refl
values_fit (Some d) = listed_fit (list_in d)

field_tag_fits : (before : FieldTable) (found : Option ℕ) → fits (field_tag before found) ≡ true
field_tag_fits before None = refl
field_tag_fits before (Some tag) = if_fits (table.contains_key before tag) (Err (DuplicateTag tag)) (Ok tag) refl refl

field_fits : (before : FieldTable) (d : Data) → fits (field_in before d) ≡ true
field_fits before d =
    then_fits (need (as_object d) []) _ (need_fits (as_object d) [])
    (λ _. then_fits (field_tag before (tag_at (codes "tag") d)) _ (field_tag_fits before (tag_at (codes "tag") d))
    (λ tag. then_fits (need (text_at (codes "name") d) (codes "name")) _ (need_fits (text_at (codes "name") d) (codes "name"))
    (λ _. then_fits (need (kind_at (codes "type") d) (codes "type")) _ (need_fits (kind_at (codes "type") d) (codes "type"))
    (λ kind. then_fits (values_in (get (codes "values") d)) _ (values_fit (get (codes "values") d)) (λ _. refl)))))

fields_fit : (index : ℕ) (before : FieldTable) (ds : List Data) → fits (fields_in index before ds) ≡ true
fields_fit index before [] = refl
fields_fit index before (d ∷ ds) =
    then_fits (inside (codes "fields") index (field_in before d)) _ (inside_fits (codes "fields") index (field_in before d) (field_fits before d)) (λ behind. fields_fit (index + 1) behind ds)

-- ---- members

new_tag_fits : (fields : FieldTable) (seen : TagSet) (tag : ℕ) → fits (new_tag fields seen tag) ≡ true
new_tag_fits fields seen tag =
    if_fits (table.contains_key fields tag) (if set.contains seen tag then Err (DuplicateTag tag) else Ok tag) (Err (UnknownTag tag)) (if_fits (set.contains seen tag) (Err (DuplicateTag tag)) (Ok tag) refl refl) refl

own_tag_fits : (fields : FieldTable) (seen : TagSet) (shape : Result ℕ (List ℕ)) → fits (own_tag fields seen shape) ≡ true
own_tag_fits fields seen (Ok tag) = new_tag_fits fields seen tag
own_tag_fits fields seen (Err path) = refl

abbrev AllFit : (TagSet → List Data → Result TagSet DictFault) → Type 0
AllFit inner = (seen : TagSet) (ds : List Data) → fits (inner seen ds) ≡ true

member_fits : (inner : TagSet → List Data → Result TagSet DictFault) → AllFit inner → (fields : FieldTable) (leads : Bool) (seen : TagSet) (d : Data) → fits (judged_member inner fields leads seen d) ≡ true
member_fits inner all fields leads seen d =
    then_fits (own_tag fields seen (member_shape leads d)) _ (own_tag_fits fields seen (member_shape leads d)) (λ tag. if_fits (has (codes "group") d) (inner (set.insert seen tag) (items_at (codes "members") d)) (Ok (set.insert seen tag)) (all (set.insert seen tag) (items_at (codes "members") d)) refl)

items_fit : (inner : TagSet → List Data → Result TagSet DictFault) → AllFit inner → (fields : FieldTable) (name : List ℕ) (leads : Bool) (index : ℕ) (seen : TagSet) (ds : List Data)
    → fits (judged_items inner fields name leads index seen ds) ≡ true
items_fit inner all fields name leads index seen [] = refl
items_fit inner all fields name leads index seen (d ∷ ds) =
    then_fits (inside name index (judged_member inner fields (leads && (index == 0)) seen d)) _ (inside_fits name index (judged_member inner fields (leads && (index == 0)) seen d) (member_fits inner all fields (leads && (index == 0)) seen d)) (λ behind. items_fit inner all fields name leads (index + 1) behind ds)

group_fits : (depth_left : ℕ) (fields : FieldTable) → AllFit (inside_group depth_left fields)
group_fits zero fields seen ds = refl
group_fits (suc depth_left) fields seen ds = items_fit (inside_group depth_left fields) (group_fits depth_left fields) fields (codes "members") true 0 seen ds

-- ---- messages

new_type_fits : (before : MessageTable) (found : Option (List ℕ)) → fits (new_type before found) ≡ true
new_type_fits before None = refl
new_type_fits before (Some type) = if_fits (table.contains_key before type) (Err (DuplicateType type)) (Ok type) refl refl

message_fits : (fields : FieldTable) (before : MessageTable) (d : Data) → fits (message_in fields before d) ≡ true
message_fits fields before d =
    then_fits (need (as_object d) []) _ (need_fits (as_object d) [])
    (λ _. then_fits (new_type before (type_in (text_at (codes "type") d))) _ (new_type_fits before (type_in (text_at (codes "type") d)))
    (λ type. then_fits (need (text_at (codes "name") d) (codes "name")) _ (need_fits (text_at (codes "name") d) (codes "name"))
    (λ _. then_fits (need (list_at (codes "members") d) (codes "members")) _ (need_fits (list_at (codes "members") d) (codes "members"))
    (λ ds. then_fits (judged_items (inside_group most_groups fields) fields (codes "members") false 0 set.empty ds) _ (items_fit (inside_group most_groups fields) (group_fits most_groups fields) fields (codes "members") false 0 set.empty ds) (λ _. refl)))))

messages_fit : (fields : FieldTable) (index : ℕ) (before : MessageTable) (ds : List Data) → fits (messages_in fields index before ds) ≡ true
messages_fit fields index before [] = refl
messages_fit fields index before (d ∷ ds) =
    then_fits (inside (codes "messages") index (message_in fields before d)) _ (inside_fits (codes "messages") index (message_in fields before d) (message_fits fields before d)) (λ behind. messages_fit fields (index + 1) behind ds)

book_fits : (d : Data) → fits (dictionary_in d) ≡ true
book_fits d =
    then_fits (need (as_object d) []) _ (need_fits (as_object d) [])
    (λ _. then_fits (need (option_and_then version (text_at (codes "begin") d)) (codes "begin")) _ (need_fits (option_and_then version (text_at (codes "begin") d)) (codes "begin"))
    (λ _. then_fits (need (list_at (codes "fields") d) (codes "fields")) _ (need_fits (list_at (codes "fields") d) (codes "fields"))
    (λ rules. then_fits (fields_in 0 table.empty rules) _ (fields_fit 0 table.empty rules)
    (λ fields. then_fits (need (list_at (codes "header") d) (codes "header")) _ (need_fits (list_at (codes "header") d) (codes "header"))
    (λ header. then_fits (judged_items (inside_group most_groups fields) fields (codes "header") false 0 set.empty header) _ (items_fit (inside_group most_groups fields) (group_fits most_groups fields) fields (codes "header") false 0 set.empty header)
    (λ seen. then_fits (need (list_at (codes "trailer") d) (codes "trailer")) _ (need_fits (list_at (codes "trailer") d) (codes "trailer"))
    (λ trailer. then_fits (judged_items (inside_group most_groups fields) fields (codes "trailer") false 0 seen trailer) _ (items_fit (inside_group most_groups fields) (group_fits most_groups fields) fields (codes "trailer") false 0 seen trailer)
    (λ _. then_fits (need (list_at (codes "messages") d) (codes "messages")) _ (need_fits (list_at (codes "messages") d) (codes "messages"))
    (λ types. then_fits (messages_in fields 0 table.empty types) _ (messages_fit fields 0 table.empty types) (λ _. refl))))))))))

pub never_no_json : (d : Data) → dictionary_in d ≡ Err NotJson → ⊥
never_no_json d e = true≢false (sym (book_fits d) ∙ ap fits e)

pub refused : (answer : Result DictionarySeen DictFault) (bytes : List ℕ) → IfErr answer (λ e. (IsMemory e → ⊥) → (d : Data) → IsJson bytes d → dictionary_in d ≡ Err e) → IfErr answer (λ e. e ≡ NotJson → (d : Data) → IsJson bytes d → ⊥)
refused (Ok dictionary) bytes h = h
refused (Err e) bytes h = λ is d json. never_no_json d (h (λ m. true≢false (sym (ap is_json (sym is ∙ m)))) d json ∙ ap Err is)
