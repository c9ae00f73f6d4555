-- For which session a frame is.
use Rattle.std.proofs.Common.{◌≡◌, ℕ, ◌<◌, ◌≤◌, List, length, arith}
use Rattle.std.specs.List.{IsFirstMatchOrLen}
use Rattle.fix_base.specs.Shape.{IsFrame}
use Rattle.fix_base.specs.Fields.{Field}
use Rattle.fix_base.specs.Says.{HasFields}
use Rattle.fix_base.specs.declared.identity.Identity.{Identity}
use Rattle.fix_fields.specs.Header.{Header, HasBegin, header_of_fields}
use Rattle.fix_host.specs.declared.known.Greeted.TheVariants as greeted
use Rattle.fix_host.specs.Known.{HasHeader, is_for, Names, one, none}

has_fields : (frame : List ℕ) (f : IsFrame frame) → HasFields frame f.right.fields.list
has_fields frame f = record { parts = f.parts; shape = f.shape; are = f.right.fields.are }

has_header : (frame begin : List ℕ) (header : Header) → IsFrame frame → HasBegin frame begin → ((fs : List Field) → HasFields frame fs → header ≡ header_of_fields begin fs) → HasHeader frame header
has_header frame begin header f b is = record {
  begin = begin;
  fields = f.right.fields.list;
  has_begin = b;
  has_fields = has_fields frame f;
  is = is f.right.fields.list (has_fields frame f);
}

pub names_one : (known : List Identity) (frame begin : List ℕ) (header : Header) (index : ℕ) → IsFrame frame → HasBegin frame begin → ((fs : List Field) → HasFields frame fs → header ≡ header_of_fields begin fs) → index < length known → IsFirstMatchOrLen (is_for header) known index → Names known frame (greeted.Known index)
names_one known frame begin header index f b is lt first = record { header = header; has = has_header frame begin header f b is; recognises = one lt first }

pub names_none : (known : List Identity) (frame begin : List ℕ) (header : Header) (index : ℕ) → IsFrame frame → HasBegin frame begin → ((fs : List Field) → HasFields frame fs → header ≡ header_of_fields begin fs) → length known ≤ index → IsFirstMatchOrLen (is_for header) known index → Names known frame greeted.Unknown
names_none known frame begin header index f b is le first = record {
  header = header;
  has = has_header frame begin header f b is;
  recognises = none ((λ k d low high. first.0 k d low (omega (arith, le, high))), (λ lt. absurd (omega (arith, lt))));
}
