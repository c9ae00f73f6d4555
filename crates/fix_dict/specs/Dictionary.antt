-- What a dictionary says, and the dictionary that a JSON value is.
use Rattle.std.specs.Prelude.{◌≡◌, ℕ, List, [], false, codes, bytes_eq, if◌then◌else◌, Option, Some, None}
use Rattle.std.specs.Prelude.{option_map, option_and_then, Result, Ok, refl}
use Rattle.std.specs.Coded.{Coded, code_by, coded×, coded_ℕ, coded_list}
use Rattle.std.specs.Str.{IsUtf8}
use Rattle.std.specs.FinMap as table
use Rattle.std.specs.FinSet as set
use Rattle.serde_json.specs.Data.{Data}
use Rattle.serde_json.specs.Read.{read}
use Rattle.serde_json.specs.Find.{as_object}
use Rattle.fix_base.specs.declared.identity.Begin.{Begin}
use Rattle.fix_base.specs.declared.identity.Begin.TheVariants.{Fix42, Fix44}
use Rattle.fix_base.specs.contracts.identity.Begin as begin_type
use Rattle.fix_fields.specs.declared.kind.ValueKind.{ValueKind}
use Rattle.fix_fields.specs.Shapes.{Shapes, shapes_code}
use Rattle.fix_fields.specs.Members.{shapes_of}
use Rattle.fix_fields.specs.NoTwice.{HasNoTwice}
use Rattle.fix_dict.specs.contracts.rule.FieldRule as rule_type
use Rattle.fix_dict.specs.declared.fault.DictFault.{DictFault}
use Rattle.fix_dict.specs.Parts.{list_at, text_at}
use Rattle.fix_dict.specs.Faults.{and_then, need}
use Rattle.fix_dict.specs.Fields.{FieldTable, fields_in}
use Rattle.fix_dict.specs.declared.note.TagNote.{TagNote}
use Rattle.fix_dict.specs.Notes.{note_of}
use Rattle.fix_dict.specs.Members.{judged_members, members_in}
use Rattle.fix_dict.specs.Messages.{MessageTable, most_groups, messages_in}

pub record DictionarySeen : Type 0 where
  pub begin : Begin
  pub fields : FieldTable
  pub header : Shapes
  pub trailer : Shapes
  pub messages : MessageTable

abbrev pub dictionary_code : Coded DictionarySeen
dictionary_code =
    code_by (Begin × (FieldTable × (Shapes × (Shapes × MessageTable))))
    (coded× begin_type.the_row.coded
    (coded× (table.code coded_ℕ rule_type.the_row.coded)
    (coded× shapes_code (coded× shapes_code (table.code (coded_list coded_ℕ) shapes_code)))))
    (λ b. (b.begin, (b.fields, (b.header, (b.trailer, b.messages)))))
    (λ p. record { begin = p.0; fields = p.1.0; header = p.1.1.0; trailer = p.1.1.1.0; messages = p.1.1.1.1 })
    (λ _. refl)

-- ---- look-ups

abbrev pub kind_of : DictionarySeen → ℕ → Option ValueKind
kind_of dictionary tag = option_map (λ r. r.kind) (table.get dictionary.fields tag)

-- what it says of a tag alone
abbrev pub note_in : DictionarySeen → ℕ → TagNote
note_in dictionary tag = note_of dictionary.fields dictionary.header dictionary.trailer tag

abbrev pub layout_of : DictionarySeen → List ℕ → Option Shapes
layout_of dictionary type = table.get dictionary.messages type

-- each layout has no tag twice
abbrev pub AreTold : MessageTable → Type 0
AreTold messages = (type : List ℕ) (layout : Shapes) → table.get messages type ≡ Some layout → HasNoTwice layout

-- the members of each layout can be told apart by their tags
pub record IsTold (dictionary : DictionarySeen) : Type 0 where
  pub header : HasNoTwice dictionary.header
  pub trailer : HasNoTwice dictionary.trailer
  pub messages : AreTold dictionary.messages

-- ---- the dictionary of a JSON value

-- BeginString (8)
abbrev pub version : List ℕ → Option Begin
version text = if bytes_eq text (codes "FIX.4.2") then Some Fix42 else
    (if bytes_eq text (codes "FIX.4.4") then Some Fix44 else None)

abbrev pub layout_in : List Data → Shapes
layout_in ds = shapes_of (members_in most_groups ds)

-- by the members in their order: the dictionary, or the first wrong place
abbrev pub dictionary_in : Data → Result DictionarySeen DictFault
dictionary_in d =
    and_then (need (as_object d) []) (λ _.
    and_then (need (option_and_then version (text_at (codes "begin") d)) (codes "begin")) (λ begin.
    and_then (need (list_at (codes "fields") d) (codes "fields")) (λ rules.
    and_then (fields_in 0 table.empty rules) (λ fields.
    and_then (need (list_at (codes "header") d) (codes "header")) (λ header.
    and_then (judged_members most_groups fields (codes "header") false set.empty header) (λ seen.
    and_then (need (list_at (codes "trailer") d) (codes "trailer")) (λ trailer.
    and_then (judged_members most_groups fields (codes "trailer") false seen trailer) (λ _.
    and_then (need (list_at (codes "messages") d) (codes "messages")) (λ types.
    and_then (messages_in fields 0 table.empty types) (λ messages.
    Ok (record {
      begin = begin;
      fields = fields;
      header = layout_in header;
      trailer = layout_in trailer;
      messages = messages;
    })))))))))))

-- the bytes are JSON, and this is their value
abbrev pub IsJson : List ℕ → Data → Type 0
IsJson bytes d = IsUtf8 bytes × (read bytes ≡ Some d)

-- the bytes are JSON whose value says this
abbrev pub Says : List ℕ → Result DictionarySeen DictFault → Type 0
Says bytes answer = (d : Data) × IsJson bytes d × (dictionary_in d ≡ answer)
