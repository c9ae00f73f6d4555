-- What a session reads of a connection, as the law of ends speaks of it.
use Rattle.std.proofs.Common.{◌≡◌, ℕ, codes, bytes_eq, List, [], ◌∷◌, ◌++◌, true, false, Option, Some, None, refl, sym}
use Rattle.std.proofs.Common.{ap, ◌∙◌, subst}
use Rattle.fix_base.specs.Lists.{Among, here}
use Rattle.fix_base.specs.Fields.{Field, FieldsAfter}
use Rattle.fix_base.specs.Shape.{Parts}
use Rattle.fix_base.specs.Stream.{UnreadBytes, Frame, TakesAll, frames}
use Rattle.fix_base.specs.Message as message
use Rattle.fix_base.specs.Message.{Message}
use Rattle.fix_base.specs.Says as says
use Rattle.fix_base.specs.Says.{value_of, seq_num_of, is_yes, is_admin_type, body_of, message_from, message_of}
use Rattle.fix_base.specs.Says.{HasFields, Says, SaysAll, Shows}
use Rattle.fix_base.specs.EndStep.{Connection, WasRead}
use Rattle.fix_base.proofs.ListLemmas.{Among-append_right}
use Rattle.fix_base.proofs.FieldLists.{fields_same}
use Rattle.fix_base.proofs.Spans.{shape_free}
use Rattle.fix_base.proofs.Runs.{with_more, all_more, all_then, frames-append}
use Rattle.std.proofs.lemmas.List.{append-nil}
use Rattle.fix_frame.specs.Given.{GivesFrame, GivesNone}
use Rattle.fix_engine.specs.Lawful.{IsReadUpTo}

-- a frame has one list of fields
pub has_same : (text : List ℕ) (fs gs : List Field) → HasFields text fs → HasFields text gs → fs ≡ gs
has_same text fs gs s t =
    let parts : s.parts ≡ t.parts = shape_free.value s.parts t.parts text s.shape t.shape in
    fields_same None t.parts.body fs gs (subst (λ (p : Parts). FieldsAfter None p.body fs) parts s.are) t.are

-- what a frame says, as a list
abbrev pub said_list : Option Message → List Message
said_list None = []
said_list (Some x) = x ∷ []

pub says_of_fields : (text : List ℕ) (fs : List Field) (o : Option Message) → HasFields text fs → message_of fs ≡ o →
    SaysAll (text ∷ []) (said_list o)
says_of_fields text fs None has e = says.silent
    (λ x s. (let same = has_same text s.fields fs s.has has in let some : message_of fs ≡ Some x =
    subst (λ l. message_of l ≡ Some x) same s.says in cc)) says.none
says_of_fields text fs (Some x) has e = says.says (record { fields = fs; has = has; says = e }) says.none

says-append : {ts us : List (List ℕ)} {xs ys : List Message} → SaysAll ts xs → SaysAll us ys →
    SaysAll (ts ++ us) (xs ++ ys)
says-append says.none d = d
says-append (says.says s others) d = says.says s (says-append others d)
says-append (says.silent s others) d = says.silent s (says-append others d)

-- nothing is read at first
pub read_nothing : IsReadUpTo [] (record { may_mark = true; bytes = [] })
read_nothing = record { items = []; takes = refl; messages = []; says = says.none }

-- more bytes come
pub read_more : (bytes more : List ℕ) (place : UnreadBytes) → IsReadUpTo bytes place →
    IsReadUpTo (bytes ++ more) (with_more place more)
read_more bytes more place h = record {
  items = h.items;
  takes = all_more (record { may_mark = true; bytes = bytes }) h.items place more h.takes;
  messages = h.messages;
  says = h.says;
}

-- no frame stands there, and items are skipped
pub read_none : (bytes : List ℕ) (a b : UnreadBytes) → GivesNone a b → IsReadUpTo bytes a → IsReadUpTo bytes b
read_none bytes a b g h =
    let skipped = g.skips.items in
    let texts : frames (h.items ++ skipped) ≡ frames h.items = frames-append h.items skipped ∙
    ap (λ w. frames h.items ++ w) g.skips.none ∙ append-nil (frames h.items) in
    record {
      items = h.items ++ skipped;
      takes = all_then (record { may_mark = true; bytes = bytes }) h.items a skipped b h.takes g.skips.take;
      messages = h.messages;
      says = subst (λ w. SaysAll w h.messages) (sym texts) h.says;
    }

-- the bytes are read up to behind a frame, which says this
pub record HasTaken (bytes : List ℕ) (place : UnreadBytes) (o : Option Message) : Type 0 where
  pub read : IsReadUpTo bytes place
  pub says : (x : Message) → o ≡ Some x → Among x read.messages

pub read_frame : (bytes : List ℕ) (a b : UnreadBytes) (text : List ℕ) (fs : List Field) → GivesFrame a b text →
    HasFields text fs → IsReadUpTo bytes a → HasTaken bytes b (message_of fs)
read_frame bytes a b text fs g has h =
    let start : UnreadBytes = record { may_mark = true; bytes = bytes } in
    let skipped = g.skips.items in
    let others = skipped ++ Frame text ∷ [] in
    let last : TakesAll g.at (Frame text ∷ []) b = (b, g.frame_there, refl) in
    let behind : TakesAll a others b = all_then a skipped g.at (Frame text ∷ []) b g.skips.take last in
    let texts : frames (h.items ++ others) ≡ frames h.items ++ text ∷ [] = frames-append h.items others ∙
    ap (λ w. frames h.items ++ w) (frames-append skipped (Frame text ∷ []) ∙
    ap (λ w. w ++ text ∷ []) g.skips.none) in
    record {
      read = record {
        items = h.items ++ others;
        takes = all_then start h.items a others b h.takes behind;
        messages = h.messages ++ said_list (message_of fs);
        says = subst (λ w. SaysAll w (h.messages ++ said_list (message_of fs))) (sym texts)
            (says-append h.says (says_of_fields text fs (message_of fs) has refl));
      };
      says = λ x e. Among-append_right h.messages (subst (λ o. Among x (said_list o)) (sym e) here);
    }

-- what was taken was read
pub was_read : (c : Connection) (place : UnreadBytes) (o : Option Message) (x : Message) → HasTaken c.read place o →
    o ≡ Some x → WasRead c x
was_read c place o x h e = record {
  messages = h.read.messages;
  shows = record { items = h.read.items; rest = place; takes = h.read.takes; says = h.read.says };
  among = h.says x e;
}

-- it stays read on the same connection
pub still_read : (c d : Connection) (x : Message) → d.read ≡ c.read → WasRead c x → WasRead d x
still_read c d x same h = record {
  messages = h.messages;
  shows = subst (λ w. Shows w h.messages) (sym same) h.shows;
  among = h.among;
}

-- what the fields of an administrative message say, and those of an application message that may not be a repeat
pub says_admin : (fs : List Field) (type : List ℕ) (n : ℕ) → value_of 35 fs ≡ Some type → seq_num_of fs ≡ Some n →
    bytes_eq type (codes "4") ≡ false → is_admin_type type ≡ true → message_of fs ≡ Some (message.Admin n)
says_admin fs type n type_is number no_reset admin = rw (type_is, number, no_reset, admin) refl

pub says_app : (fs : List Field) (type : List ℕ) (n : ℕ) → value_of 35 fs ≡ Some type → seq_num_of fs ≡ Some n →
    bytes_eq type (codes "4") ≡ false → is_admin_type type ≡ false → value_of 43 fs ≡ None →
    message_of fs ≡ Some (message.App n false (body_of fs))
says_app fs type n type_is number no_reset no_admin dup = rw (type_is, number, no_reset, no_admin, dup) refl
