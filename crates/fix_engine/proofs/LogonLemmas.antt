-- Frames that are no Logons with 141=Y: they ask for no reset, and block nothing.
use Rattle.std.proofs.Common.{◌≡◌, ◌⊎◌, inl, inr, ℕ, codes, List, [], ◌∷◌, ◌++◌, true, false, Option, Some, None, refl, sym, ap, ◌∙◌, subst, append_assoc, get_or, arith}
use Rattle.std.proofs.lemmas.List.{append-nil}
use Rattle.std.specs.List.{AllByRecursion}
use Rattle.std.specs.Fmt.{decimal}
use Rattle.fix_base.specs.Lists.{Among, here, IsPrefixOf}
use Rattle.fix_base.specs.declared.identity.Identity.{Identity}
use Rattle.fix_base.specs.declared.entry.Entry.{Entry}
use Rattle.fix_base.specs.declared.entry.Entry.TheVariants.{App}
use Rattle.fix_base.specs.declared.entry.By.{By}
use Rattle.fix_base.specs.Fields.{Field}
use Rattle.fix_base.specs.Shape.{IsFrame}
use Rattle.fix_base.specs.Stream.{UnreadBytes, Item, Frame, Span, Byte, TakesAll, frames}
use Rattle.fix_base.specs.Says.{value_of, is_admin_type, joined}
use Rattle.fix_base.specs.Logon.{IsResetLogon, Begun}
use Rattle.fix_base.specs.Payload.{IsEntryField}
use Rattle.fix_base.specs.Wrote as wrote
use Rattle.fix_base.specs.Wrote.{IsSealed, original_fields, Carries, IsOriginal}
use Rattle.fix_base.specs.EndStep as steps
use Rattle.fix_base.specs.EndStep.{Initiator, Acceptor, Connection, EndState, IsAsking, IsBlocked, LogonRule}
use Rattle.fix_base.proofs.ListLemmas.{some_same, Among-append_cases, Among-append_right, Among-cons_cases, Among-prefix, prefix_append}
use Rattle.fix_base.proofs.Runs.{with_more, all_more, all_then, takes_same, frames-append}
use Rattle.fix_base.proofs.FramingLemmas.{front_frames}
use Rattle.fix_base.proofs.ResetParts.{begun_more}
use Rattle.fix_base.proofs.Seals.{AreOfMessage, sealed_is_frame, sealed_has_fields}
use Rattle.fix_base.proofs.WrittenLemmas.{original_is, admin_fields}
use Rattle.fix_frame.specs.Given.{GivesFrame, GivesNone}
use Rattle.fix_engine.specs.State.{Phase, Up}
use Rattle.fix_engine.specs.Answer.{kind_of, fields_of, IsSaid}
use Rattle.fix_engine.specs.State.{Say, Logon, Logout}
use Rattle.fix_engine.specs.Lawful as lawful
use Rattle.fix_engine.specs.Lawful.{IsPlainly, BeginsPlainly, IsBegunAt}
use Rattle.fix_engine.proofs.ReadLemmas.{has_same}

-- the end of an acceptor asks for no reset
pub never_asks : (s : EndState) → s.role ≡ Acceptor → IsAsking s → ⊥
never_asks s role asking = let both : Acceptor ≡ Initiator = sym role ∙ asking.0 in cc

-- ---- what was written

joined-append : (xs : List (List ℕ)) (text : List ℕ) → joined (xs ++ text ∷ []) ≡ joined xs ++ text
joined-append [] text = append-nil text
joined-append (x ∷ xs) text = ap (λ z. x ++ z) (joined-append xs text) ∙ sym (append_assoc x (joined xs) text)

pub plain_nothing : IsPlainly []
plain_nothing = record { texts = []; are = refl; frames = λ t m. elim m [ ]; plain = λ t m. elim m [ ] }

only : {x y : List ℕ} → Among x (y ∷ []) → x ≡ y
only {x = x} {y = y} m = elim (Among-cons_cases m) as (λ _. x ≡ y) [ inl same ↦ same | inr other ↦ elim other [ ] ]

-- one more frame
pub plain_more : (bytes text : List ℕ) → IsFrame text → (IsResetLogon text → ⊥) → IsPlainly bytes → IsPlainly (bytes ++ text)
plain_more bytes text frame free h = record {
  texts = h.texts ++ text ∷ [];
  are = ap (λ w. w ++ text) h.are ∙ sym (joined-append h.texts text);
  frames = λ t m. elim (Among-append_cases h.texts (text ∷ []) m) as (λ _. IsFrame t) [ inl old ↦ h.frames t old | inr new ↦ subst IsFrame (sym (only new)) frame ];
  plain = λ t m l. elim (Among-append_cases h.texts (text ∷ []) m) [ inl old ↦ h.plain t old l | inr new ↦ free (subst IsResetLogon (only new) l) ];
}

-- none of the frames in a front of such bytes is such a Logon
none_resets : (bytes front : List ℕ) → IsPlainly bytes → IsPrefixOf front bytes → (items : List Item) (rest : UnreadBytes) → TakesAll (record { may_mark = true; bytes = front }) items rest → (text : List ℕ) → Among text (frames items) → IsResetLogon text → ⊥
none_resets bytes front h p items rest takes text m l =
    let among = front_frames h.texts front items rest (record { each = h.frames }) (subst (IsPrefixOf front) h.are p) takes in
    h.plain text (Among-prefix among m) l

-- a front of such bytes may be written
pub plain_rule : (id : Identity) (s : EndState) (c : Connection) (b bytes : List ℕ) → s.role ≡ Acceptor → IsPlainly bytes → IsPrefixOf (c.written ++ b) bytes → LogonRule id s c b
plain_rule id s c b bytes role h p =
    steps.answers (never_asks s role)
    (λ begun. absurd (none_resets bytes (c.written ++ b) h p begun.items begun.rest begun.takes begun.text (subst (λ w. Among begun.text w) (sym begun.first) here) begun.is))
    (λ text w l. absurd (none_resets bytes (c.written ++ b) h p (w.before ++ Frame text ∷ []) w.rest w.takes text (subst (λ z. Among text z) (sym (frames-append w.before (Frame text ∷ []))) (Among-append_right (frames w.before) here)) l))

-- ---- what was read

-- two readings of the same bytes have one first frame
first_frame : (a : UnreadBytes) (xs ys : List Item) (b c : UnreadBytes) (t u : List ℕ) (ts us : List (List ℕ)) → TakesAll a xs b → TakesAll a ys c → frames xs ≡ t ∷ ts → frames ys ≡ u ∷ us → t ≡ u
first_frame a [] ys b c t u ts us p q e f = cc
first_frame a (x ∷ xs) [] b c t u ts us p q e f = cc
first_frame a (Frame v ∷ xs) (y ∷ ys) b c t u ts us p q e f =
    let same = takes_same a (Frame v) y p.0 q.0 p.1 q.1 in
    let other : v ∷ frames ys ≡ u ∷ us = subst (λ z. frames (z ∷ ys) ≡ u ∷ us) (sym same.0) f in
    cc
first_frame a (Span v ∷ xs) (y ∷ ys) b c t u ts us p q e f =
    let same = takes_same a (Span v) y p.0 q.0 p.1 q.1 in
    first_frame p.0 xs ys b c t u ts us p.2 (subst (λ z. TakesAll z ys c) (sym same.1) q.2) e (subst (λ z. frames (z ∷ ys) ≡ u ∷ us) (sym same.0) f)
first_frame a (Byte v ∷ xs) (y ∷ ys) b c t u ts us p q e f =
    let same = takes_same a (Byte v) y p.0 q.0 p.1 q.1 in
    first_frame p.0 xs ys b c t u ts us p.2 (subst (λ z. TakesAll z ys c) (sym same.1) q.2) e (subst (λ z. frames (z ∷ ys) ≡ u ∷ us) (sym same.0) f)

-- an acceptor isn't blocked where the first frame is no Logon with 141=Y
pub plain_free : (s : EndState) (c : Connection) → s.role ≡ Acceptor → s.connection ≡ Some c → BeginsPlainly c.read → IsBlocked s → ⊥
plain_free s c role is_open h (steps.asks asking) = never_asks s role asking
plain_free s c role is_open h (steps.waits d o kept begun) =
    let other : Begun IsResetLogon c.read = subst (λ (k : Connection). Begun IsResetLogon k.read) (sym (some_same c d (sym is_open ∙ o))) begun in
    h.is (subst IsResetLogon (first_frame _ other.items h.items other.rest h.rest other.text h.text other.others h.others other.takes h.takes other.first h.first) other.is)

-- more bytes come
pub begun_bytes : (bytes more : List ℕ) (place : UnreadBytes) (phase : Phase) → IsBegunAt bytes place phase → IsBegunAt (bytes ++ more) (with_more place more) phase
begun_bytes bytes more place phase (lawful.plainly h) = lawful.plainly (begun_more (prefix_append bytes more) h)
begun_bytes bytes more place phase (lawful.silent items takes none) = lawful.silent items (all_more (record { may_mark = true; bytes = bytes }) items place more takes) none

-- no frame stands there, and items are skipped
pub begun_none : (bytes : List ℕ) (a b : UnreadBytes) (phase : Phase) → GivesNone a b → IsBegunAt bytes a phase → IsBegunAt bytes b phase
begun_none bytes a b phase g (lawful.plainly h) = lawful.plainly h
begun_none bytes a b phase g (lawful.silent items takes none) =
    lawful.silent (items ++ g.skips.items) (all_then (record { may_mark = true; bytes = bytes }) items a g.skips.items b takes g.skips.take)
    (frames-append items g.skips.items ∙ ap (λ w. w ++ frames g.skips.items) none ∙ g.skips.none)

-- a frame is taken that is no such Logon
pub begun_frame : (bytes : List ℕ) (a b : UnreadBytes) (text : List ℕ) (phase : Phase) → GivesFrame a b text → (IsResetLogon text → ⊥) → IsBegunAt bytes a phase → BeginsPlainly bytes
begun_frame bytes a b text phase g free (lawful.plainly h) = h
begun_frame bytes a b text phase g free (lawful.silent items takes none) =
    let skipped = g.skips.items in
    let others = skipped ++ Frame text ∷ [] in
    let last : TakesAll g.at (Frame text ∷ []) b = (b, g.frame_there, refl) in
    record {
      text = text;
      others = [];
      items = items ++ others;
      rest = b;
      takes = all_then (record { may_mark = true; bytes = bytes }) items a others b takes (all_then a skipped g.at (Frame text ∷ []) b g.skips.take last);
      first = frames-append items others ∙ ap (λ w. w ++ frames others) none ∙ frames-append skipped (Frame text ∷ []) ∙ ap (λ w. w ++ text ∷ []) g.skips.none;
      is = free;
    }

-- a session that is up has read its first frame
pub begun_up : {bytes : List ℕ} {place : UnreadBytes} → IsBegunAt bytes place Up → BeginsPlainly bytes
begun_up (lawful.plainly h) = h

-- ---- originals

-- sealed fields are no such Logon
sealed_free : (id : Identity) (fields : List Field) (text : List ℕ) → AreOfMessage fields → IsSealed id fields text → (value_of 35 fields ≡ Some (codes "A") → value_of 141 fields ≡ Some (codes "Y") → ⊥) → IsResetLogon text → ⊥
sealed_free id fields text m s never l =
    let same = has_same text l.fields fields l.has (sealed_has_fields id fields text m s) in
    never (subst (λ (fs : List Field). value_of 35 fs ≡ Some (codes "A")) same l.type) (subst (λ (fs : List Field). value_of 141 fs ≡ Some (codes "Y")) same l.flag)

carried : {e : Entry} {type : List ℕ} {rest : List Field} → Carries e type rest → AllByRecursion IsEntryField rest
carried (wrote.app is) = is.each
carried (wrote.admin is) = admin_fields is
carried (wrote.once kind type each) = each

pub original_frame : (id : Identity) (n : ℕ) (e : Entry) (text : List ℕ) → IsOriginal id n e text → IsFrame text
original_frame id n e text h = sealed_is_frame id (original_fields id (decimal n) h.at h.type h.rest) text (original_is id (decimal n) h.at h.type h.rest (carried h.carries)) h.sealed_so

no_logon : (type : List ℕ) → is_admin_type type ≡ false → Some type ≡ Some (codes "A") → ⊥
no_logon type no_admin e = let admin : is_admin_type (codes "A") ≡ false = subst (λ t. is_admin_type t ≡ false) (some_same type (codes "A") e) no_admin in cc

app_type : {time : ℕ} {by : By} {body type : List ℕ} {rest : List Field} → Carries (App time by body) type rest → is_admin_type type ≡ false
app_type (wrote.app is) = is.app.no_admin

-- that of an application message asks for no reset
pub app_free : (id : Identity) (n time : ℕ) (by : By) (body text : List ℕ) → IsOriginal id n (App time by body) text → IsResetLogon text → ⊥
app_free id n time by body text h = sealed_free id (original_fields id (decimal n) h.at h.type h.rest) text (original_is id (decimal n) h.at h.type h.rest (carried h.carries)) h.sealed_so (λ type flag. no_logon h.type (app_type h.carries) type)

no_flag : (id : Identity) (number at : List ℕ) (say : Say) → value_of 35 (original_fields id number at (kind_of say ∷ []) (fields_of say)) ≡ Some (codes "A") → value_of 141 (original_fields id number at (kind_of say ∷ []) (fields_of say)) ≡ Some (codes "Y") → ⊥
no_flag id number at (Logon heart) type flag = cc
no_flag id number at Logout type flag = cc

-- nor does what a session says itself
pub said_free : (id : Identity) (n time : ℕ) (say : Say) (text : List ℕ) → AllByRecursion IsEntryField (fields_of say) → IsSaid id n time say text → IsResetLogon text → ⊥
said_free id n time say text each h = sealed_free id (original_fields id (decimal n) h.at (kind_of say ∷ []) (fields_of say)) text (original_is id (decimal n) h.at (kind_of say ∷ []) (fields_of say) each) h.sealed_so (no_flag id (decimal n) h.at say)

-- ---- a message without the flag

absent_or_set : (o : Option (List ℕ)) → o ≡ None → o ≡ Some (codes "Y") → ⊥
absent_or_set o none flag = cc

unset_or_set : (o : Option (List ℕ)) → o ≡ Some (codes "N") → o ≡ Some (codes "Y") → ⊥
unset_or_set o off flag = let other : 78 ≡ 89 = ap (λ (l : List ℕ). get_or l 0 0) (some_same (codes "N") (codes "Y") (sym off ∙ flag)) in omega (arith, other)

-- a frame with these fields is no such Logon where ResetSeqNumFlag (141) is absent or N
pub unflagged_free : (text : List ℕ) (fs : List Field) → (value_of 141 fs ≡ None) ⊎ (value_of 141 fs ≡ Some (codes "N")) → (l : IsResetLogon text) → l.fields ≡ fs → ⊥
unflagged_free text fs (inl none) l same = absent_or_set (value_of 141 fs) none (subst (λ (gs : List Field). value_of 141 gs ≡ Some (codes "Y")) same l.flag)
unflagged_free text fs (inr off) l same = unset_or_set (value_of 141 fs) off (subst (λ (gs : List Field). value_of 141 gs ≡ Some (codes "Y")) same l.flag)
