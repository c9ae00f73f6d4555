-- Frames that are no Logons ask for no reset: what may be written freely, and what doesn't block.
use Rattle.std.proofs.Common.{◌≡◌, ℕ, codes, List, [], ◌∷◌, ◌++◌, Option, Some, None, sym, ap, ◌∙◌, subst}
use Rattle.std.specs.List.{AllByRecursion}
use Rattle.fix_base.specs.Lists.{Among, here, there, IsPrefixOf}
use Rattle.fix_base.specs.Fields.{Field, FieldsAfter}
use Rattle.fix_base.specs.Shape.{Parts}
use Rattle.fix_base.specs.Stream.{Frame, frames}
use Rattle.fix_base.specs.Message as message
use Rattle.fix_base.specs.Message.{Message}
use Rattle.fix_base.specs.Says.{value_of, seq_num_of, message_from, Says, joined}
use Rattle.fix_base.specs.Logon.{IsResetLogon, Begun, Completes}
use Rattle.fix_base.specs.Session.{Identity}
use Rattle.fix_base.specs.EndStep as steps
use Rattle.fix_base.specs.EndStep.{Connection, EndState, IsAsking, IsBlocked, LogonRule}
use Rattle.fix_base.proofs.Told as told
use Rattle.fix_base.proofs.Told.{SaysEach}
use Rattle.fix_base.proofs.ListLemmas.{some_same, Among-prefix, Among-append_right}
use Rattle.fix_base.proofs.FieldLists.{fields_same}
use Rattle.fix_base.proofs.Spans.{shape_free}
use Rattle.fix_base.proofs.Runs.{frames-append}
use Rattle.fix_base.proofs.FramingLemmas.{front_frames}
use Rattle.fix_base.proofs.BytesLemmas.{each_frame}

-- no Logon says this
abbrev pub IsNoLogon : Message → Type 0
IsNoLogon (message.App n marked body) = Unit {0}
IsNoLogon (message.Admin n) = ⊥
IsNoLogon (message.GapFill n m) = Unit {0}
IsNoLogon (message.ResetTo n m) = Unit {0}

logon_from : (o : Option ℕ) (fs : List Field) (x : Message) → message_from (Some (codes "A")) o fs ≡ Some x → IsNoLogon x → ⊥
logon_from None fs x e h = cc
logon_from (Some n) fs x e h = subst IsNoLogon (some_same x (message.Admin n) (sym e)) h

-- a frame that says something that no Logon says is none
pub logon_says : (text : List ℕ) (x : Message) → IsResetLogon text → Says text x → IsNoLogon x → ⊥
logon_says text x l s h =
    let parts : s.has.parts ≡ l.has.parts = shape_free.value s.has.parts l.has.parts text s.has.shape l.has.shape in
    let fields = fields_same None l.has.parts.body s.fields l.fields (subst (λ (p : Parts). FieldsAfter None p.body s.fields) parts s.has.are) l.has.are in
    let type : value_of 35 s.fields ≡ Some (codes "A") = ap (λ fs. value_of 35 fs) fields ∙ l.type in
    logon_from (seq_num_of s.fields) s.fields x (ap (λ o. message_from o (seq_num_of s.fields) s.fields) (sym type) ∙ s.says) h

record SaidEach (text : List ℕ) (xs : List Message) : Type 0 where
  message : Message
  among : Among message xs
  says : Says text message

said_each : {texts : List (List ℕ)} {xs : List Message} → SaysEach texts xs → (text : List ℕ) → Among text texts → SaidEach text xs
said_each told.done text m = elim m [ ]
said_each (told.one {x = x} frame s others) text here = record { message = x; among = here; says = s }
said_each (told.one frame s others) text (there m) = let k = said_each others text m in record { message = k.message; among = there k.among; says = k.says }

all_among : (xs : List Message) (x : Message) → AllByRecursion IsNoLogon xs → Among x xs → IsNoLogon x
all_among [] x h m = elim m [ ]
all_among (y ∷ xs) x h here = h.0
all_among (y ∷ xs) x h (there m) = all_among xs x h.1 m

no_logon : {texts : List (List ℕ)} {xs : List Message} → SaysEach texts xs → AllByRecursion IsNoLogon xs → (text : List ℕ) → Among text texts → IsResetLogon text → ⊥
no_logon {xs = xs} each h text m l = let s = said_each each text m in logon_says text s.message l s.says (all_among xs s.message h s.among)

-- the first frame of a front of such frames is no Logon
pub no_begun : {texts : List (List ℕ)} {xs : List Message} {bytes : List ℕ} → SaysEach texts xs → AllByRecursion IsNoLogon xs → IsPrefixOf bytes (joined texts) → Begun IsResetLogon bytes → ⊥
no_begun {texts = texts} {bytes = bytes} each h front b =
    let among = front_frames texts bytes b.items b.rest (record { each = each_frame each }) front b.takes in
    no_logon each h b.text (Among-prefix among (subst (λ w. Among b.text w) (sym b.first) here)) b.is

-- nor is any
no_completed : {texts : List (List ℕ)} {xs : List Message} {bytes more text : List ℕ} → SaysEach texts xs → AllByRecursion IsNoLogon xs → IsPrefixOf (bytes ++ more) (joined texts) → Completes bytes more text → IsResetLogon text → ⊥
no_completed {texts = texts} {bytes = bytes} {more = more} {text = text} each h front w l =
    let among = front_frames texts (bytes ++ more) (w.before ++ Frame text ∷ []) w.rest (record { each = each_frame each }) front w.takes in
    let last : Among text (frames (w.before ++ Frame text ∷ [])) = subst (λ z. Among text z) (sym (frames-append w.before (Frame text ∷ []))) (Among-append_right (frames w.before) here) in
    no_logon each h text (Among-prefix among last) l

-- such frames may be written by an end that asks for no reset
pub orders_rule : {id : Identity} {texts : List (List ℕ)} {xs : List Message} (s : EndState) (c : Connection) (b : List ℕ) → (IsAsking s → ⊥) → SaysEach texts xs → AllByRecursion IsNoLogon xs → IsPrefixOf (c.written ++ b) (joined texts) → LogonRule id s c b
orders_rule s c b free each h front = steps.answers free (λ begun. absurd (no_begun each h front begun)) (λ text w l. absurd (no_completed each h front w l))

-- and read by one, and block nothing
pub orders_free : {texts : List (List ℕ)} {xs : List Message} (s : EndState) (c : Connection) → s.connection ≡ Some c → (IsAsking s → ⊥) → SaysEach texts xs → AllByRecursion IsNoLogon xs → IsPrefixOf c.read (joined texts) → IsBlocked s → ⊥
orders_free s c o free each h front (steps.asks asking) = free asking
orders_free {texts = texts} s c o free each h front (steps.waits d p kept begun) = no_begun each h (subst (λ (k : Connection). IsPrefixOf k.read (joined texts)) (some_same c d (sym o ∙ p)) front) begun
