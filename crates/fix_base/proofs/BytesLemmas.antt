-- What the laws of two ends need of bytes: two facts.
use Rattle.std.proofs.Common.{◌≡◌, ℕ, List, [], ◌∷◌, ◌++◌, true, None, map, refl, sym, ap, ◌∙◌, subst}
use Rattle.fix_base.specs.Fields.{FieldsAfter}
use Rattle.fix_base.specs.Shape.{Parts, IsFrame}
use Rattle.fix_base.specs.Stream.{UnreadBytes, Item, Frame, Takes, TakesAll, frames}
use Rattle.fix_base.specs.Lists.{Among, here, there, IsPrefixOf}
use Rattle.fix_base.specs.Message.{Message}
use Rattle.fix_base.specs.Says as says
use Rattle.fix_base.specs.Says.{message_of, Says, SaysAll, Shows, joined}
use Rattle.fix_base.proofs.Told as told
use Rattle.fix_base.proofs.Told.{SaysEach, Spells}
use Rattle.fix_base.proofs.ListLemmas.{some_same, Among-prefix, prefix_trans, prefix_of_nothing}
use Rattle.fix_base.proofs.FieldLists.{fields_same}
use Rattle.fix_base.proofs.Spans.{shape_free}
use Rattle.fix_base.proofs.Runs.{with_more, all_more, all_then, frames-append}
use Rattle.fix_base.proofs.FramingLemmas.{front_frames, takes_frames, frames_of_frames}

-- a frame says one thing
pub says_same : (text : List ℕ) (x y : Message) → Says text x → Says text y → x ≡ y
says_same text x y s t =
    let parts : s.has.parts ≡ t.has.parts = shape_free.value s.has.parts t.has.parts text s.has.shape t.has.shape in
    let fields = fields_same None t.has.parts.body s.fields t.fields (subst (λ (p : Parts). FieldsAfter None p.body s.fields) parts s.has.are) t.has.are in
    some_same x y (sym s.says ∙ ap message_of fields ∙ t.says)

-- one of the frames says it
record SaidBy (texts : List (List ℕ)) (x : Message) : Type 0 where
  text : List ℕ
  among : Among text texts
  says : Says text x

said_by : {texts : List (List ℕ)} {xs : List Message} {x : Message} → SaysAll texts xs → Among x xs → SaidBy texts x
said_by says.none m = elim m [ ]
said_by (says.says {text = text} s others) here = record { text = text; among = here; says = s }
said_by (says.says s others) (there m) = let b = said_by others m in record { text = b.text; among = there b.among; says = b.says }
said_by (says.silent s others) m = let b = said_by others m in record { text = b.text; among = there b.among; says = b.says }

-- it is said by one of the frames
record Saying (text : List ℕ) (xs : List Message) : Type 0 where
  message : Message
  among : Among message xs
  says : Says text message

saying : {texts : List (List ℕ)} {xs : List Message} {text : List ℕ} → SaysEach texts xs → Among text texts → Saying text xs
saying told.done m = elim m [ ]
saying (told.one {x = x} f s others) here = record { message = x; among = here; says = s }
saying (told.one f s others) (there m) = let b = saying others m in record { message = b.message; among = there b.among; says = b.says }

frame_of : {texts : List (List ℕ)} {xs : List Message} {text : List ℕ} → SaysEach texts xs → Among text texts → IsFrame text
frame_of told.done m = elim m [ ]
frame_of (told.one f s others) here = f
frame_of (told.one f s others) (there m) = frame_of others m

-- the frames of a front of frames that were written are among these
pub read_among : {xs ys : List Message} {w read : List ℕ} {x : Message} → Spells ys w → IsPrefixOf read w → Shows read xs → Among x xs → Among x ys
read_among {ys = ys} {read = read} {x = x} spells front shows m =
    let fronts = front_frames spells.texts read shows.items shows.rest (record { each = λ t k. frame_of spells.says k }) (prefix_trans front spells.front) shows.takes in
    let by = said_by shows.says m in
    let is = saying spells.says (Among-prefix fronts by.among) in
    subst (λ y. Among y ys) (says_same by.text is.message x is.says by.says) is.among

-- no frames are spelled by no bytes
pub spells_nothing : Spells [] []
spells_nothing = record { texts = []; says = told.done; front = prefix_of_nothing [] }

-- ---- for those who read: what was shown stays shown, and one more frame

pub shows_more : (read more : List ℕ) (xs : List Message) → Shows read xs → Shows (read ++ more) xs
shows_more read more xs h = record { items = h.items; rest = with_more h.rest more; takes = all_more (record { may_mark = true; bytes = read }) h.items h.rest more h.takes; says = h.says }

all-append : {ts us : List (List ℕ)} {xs ys : List Message} → SaysAll ts xs → SaysAll us ys → SaysAll (ts ++ us) (xs ++ ys)
all-append says.none d = d
all-append (says.says s others) d = says.says s (all-append others d)
all-append (says.silent s others) d = says.silent s (all-append others d)

-- behind the frames shown some items are skipped, and a frame stands that says these: one message, or
-- none that counts
pub shows_next : (read : List ℕ) (xs ys : List Message) (h : Shows read xs) (skipped : List Item) (at after : UnreadBytes) (text : List ℕ) → TakesAll h.rest skipped at → frames skipped ≡ [] → Takes at (Frame text) after → SaysAll (text ∷ []) ys → Shows read (xs ++ ys)
shows_next read xs ys h skipped at after text skips none takes so =
    let others = skipped ++ Frame text ∷ [] in
    let last : TakesAll at (Frame text ∷ []) after = (after, takes, refl) in
    let behind : TakesAll h.rest others after = all_then h.rest skipped at (Frame text ∷ []) after skips last in
    let texts : frames (h.items ++ others) ≡ frames h.items ++ text ∷ [] = frames-append h.items others ∙ ap (λ w. frames h.items ++ w) (frames-append skipped (Frame text ∷ []) ∙ ap (λ w. w ++ text ∷ []) none) in
    record {
      items = h.items ++ others;
      rest = after;
      takes = all_then (record { may_mark = true; bytes = read }) h.items h.rest others after h.takes behind;
      says = subst (λ w. SaysAll w (xs ++ ys)) (sym texts) (all-append h.says so);
    }

pub shows_frame : (read : List ℕ) (xs : List Message) (x : Message) (h : Shows read xs) (skipped : List Item) (at after : UnreadBytes) (text : List ℕ) → TakesAll h.rest skipped at → frames skipped ≡ [] → Takes at (Frame text) after → Says text x → Shows read (xs ++ x ∷ [])
shows_frame read xs x h skipped at after text skips none takes so = shows_next read xs (x ∷ []) h skipped at after text skips none takes (says.says so says.none)

-- frames one after the other show what they say
pub each_frame : {texts : List (List ℕ)} {xs : List Message} → SaysEach texts xs → (text : List ℕ) → Among text texts → IsFrame text
each_frame told.done text m = elim m [ ]
each_frame (told.one frame s others) text here = frame
each_frame (told.one frame s others) text (there m) = each_frame others text m

all_say : {texts : List (List ℕ)} {xs : List Message} → SaysEach texts xs → SaysAll texts xs
all_say told.done = says.none
all_say (told.one frame s others) = says.says s (all_say others)

pub shows_each : {texts : List (List ℕ)} {xs : List Message} → SaysEach texts xs → Shows (joined texts) xs
shows_each {texts = texts} {xs = xs} h = record {
  items = map Frame texts;
  rest = record { may_mark = true; bytes = [] };
  takes = takes_frames texts (record { each = each_frame h });
  says = subst (λ w. SaysAll w xs) (sym (frames_of_frames texts)) (all_say h);
}
