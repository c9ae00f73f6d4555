-- Frames that are no Logons with 141=Y: they ask for no reset.
use Rattle.std.proofs.Common.{◌≡◌, ◌⊎◌, inl, inr, map, drop, ℕ, codes, List, [], ◌∷◌, ◌++◌, true, false, Some, None, refl, sym, ap, ◌∙◌, subst, append_assoc}
use Rattle.std.proofs.lemmas.List.{append-nil}
use Rattle.std.specs.Fmt.{decimal}
use Rattle.fix_base.specs.Lists.{Among, here, IsPrefixOf}
use Rattle.fix_base.specs.declared.identity.Identity.{Identity}
use Rattle.fix_base.specs.declared.entry.Entry.{Entry}
use Rattle.fix_base.specs.declared.entry.Entry.TheVariants.{App}
use Rattle.fix_base.specs.declared.entry.By.{By}
use Rattle.fix_base.specs.Fields.{Field, FieldsAfter}
use Rattle.fix_base.specs.Shape.{Parts, IsFrame}
use Rattle.fix_base.specs.Stream.{Frame, TakesAll, frames}
use Rattle.fix_base.specs.Says.{HasFields, value_of, is_admin_type, joined}
use Rattle.fix_base.specs.Logon.{IsResetLogon, Begun, Completes}
use Rattle.fix_base.specs.Wrote as wrote
use Rattle.fix_base.specs.Wrote.{IsSealed, original_fields, Carries, IsOriginal}
use Rattle.fix_base.specs.EndStep as steps
use Rattle.fix_base.specs.EndStep.{AskedReset, Connection, EndState, IsAsking, LogonRule}
use Rattle.fix_base.proofs.ListLemmas.{some_same, Among-append_cases, Among-append_right, Among-cons_cases, prefix_under}
use Rattle.fix_base.proofs.Runs.{frames-append}
use Rattle.fix_base.proofs.FollowsLemmas.{asking_same}
use Rattle.fix_base.proofs.FramingLemmas.{front_frames, takes_frames, frames_of_frames}
use Rattle.fix_base.proofs.Seals.{AreOfMessage, sealed_is_frame, sealed_has_fields}
use Rattle.fix_base.proofs.WrittenLemmas.{original_is}
use Rattle.fix_stage.specs.Lawful.{IsPlainly, MayTellReset}
use Rattle.fix_stage.proofs.OutgoingLemmas.{carried}
use Rattle.fix_base.proofs.FieldLists.{fields_same}
use Rattle.fix_base.proofs.Spans.{shape_free}

-- a frame has one list of fields
pub has_same : (text : List ℕ) (fs gs : List Field) → HasFields text fs → HasFields text gs → fs ≡ gs
has_same text fs gs s t =
    let parts : s.parts ≡ t.parts = shape_free.value s.parts t.parts text s.shape t.shape in
    fields_same None t.parts.body fs gs (subst (λ (p : Parts). FieldsAfter None p.body fs) parts s.are) t.are

-- an end of the same role that asks as before asks for no reset still
pub still_free : (e e' : EndState) → e'.role ≡ e.role → e'.end.asked ≡ e.end.asked → (IsAsking e → ⊥) → IsAsking e' → ⊥
still_free e e' role asked free now = free (asking_same e' e (sym role) (sym asked) now)

-- ---- what was written

joined-append : (xs : List (List ℕ)) (text : List ℕ) → joined (xs ++ text ∷ []) ≡ joined xs ++ text
joined-append [] text = append-nil text
joined-append (x ∷ xs) text = ap (λ z. x ++ z) (joined-append xs text) ∙ sym (append_assoc x (joined xs) text)

pub plain_nothing : IsPlainly []
plain_nothing = record { texts = []; are = refl; frames = λ t m. elim m [ ]; plain = λ t m. elim m [ ] }

only : {x y : List ℕ} → Among x (y ∷ []) → x ≡ y
only {x = x} {y = y} m = elim (Among-cons_cases m) as (λ _. x ≡ y) [ inl same ↦ same | inr other ↦ elim other [ ] ]

-- behind the first there are those from before, or the new one
behind : (texts : List (List ℕ)) (text t : List ℕ) → Among t (drop 1 (texts ++ text ∷ [])) → Among t (drop 1 texts) ⊎ (t ≡ text)
behind [] text t m = elim m [ ]
behind (x ∷ xs) text t m = elim (Among-append_cases xs (text ∷ []) m) as (λ _. Among t xs ⊎ (t ≡ text)) [ inl old ↦ inl old | inr new ↦ inr (only new) ]

-- one more frame is no such Logon, or may be one, as the first
pub plain_more : (c : Connection) (text : List ℕ) → IsFrame text → (IsResetLogon text → ⊥) ⊎ MayTellReset c → IsPlainly c.written → IsPlainly (c.written ++ text)
plain_more c text frame (inl free) h = record {
  texts = h.texts ++ text ∷ [];
  are = ap (λ w. w ++ text) h.are ∙ sym (joined-append h.texts text);
  frames = λ t m. elim (Among-append_cases h.texts (text ∷ []) m) as (λ _. IsFrame t) [ inl old ↦ h.frames t old | inr new ↦ subst IsFrame (sym (only new)) frame ];
  plain = λ t m l. elim (behind h.texts text t m) [ inl old ↦ h.plain t old l | inr new ↦ free (subst IsResetLogon new l) ];
}
plain_more c text frame (inr told) h = record {
  texts = text ∷ [];
  are = ap (λ w. w ++ text) told.0 ∙ sym (append-nil text);
  frames = λ t m. subst IsFrame (sym (only m)) frame;
  plain = λ t m. elim m [ ];
}

-- what is read of frames is told by the first of them
begun_first : (text : List ℕ) (texts : List (List ℕ)) (bytes : List ℕ) → ((t : List ℕ) → Among t (text ∷ texts) → IsFrame t) → IsPrefixOf bytes (joined (text ∷ texts)) → (begun : Begun IsResetLogon bytes) → IsResetLogon text
begun_first text texts bytes are p begun =
    let front = front_frames (text ∷ texts) bytes begun.items begun.rest (record { each = are }) p begun.takes in
    let same : text ∷ texts ≡ begun.text ∷ (begun.others ++ front.rest) = front.is ∙ ap (λ w. w ++ front.rest) begun.first in
    subst IsResetLogon (let first : begun.text ≡ text = cc in first) begun.is

-- the first of whole frames is read first
first_begun : (text : List ℕ) (texts : List (List ℕ)) (bytes : List ℕ) → bytes ≡ joined (text ∷ texts) → ((t : List ℕ) → Among t (text ∷ texts) → IsFrame t) → IsResetLogon text → Begun IsResetLogon bytes
first_begun text texts bytes same are l = record {
  text = text;
  others = texts;
  items = map Frame (text ∷ texts);
  rest = record { may_mark = true; bytes = [] };
  takes = subst (λ w. TakesAll (record { may_mark = true; bytes = w }) (map Frame (text ∷ texts)) (record { may_mark = true; bytes = [] })) (sym same) (takes_frames (text ∷ texts) (record { each = are }));
  first = frames_of_frames (text ∷ texts);
  is = l;
}

-- what completes such a Logon stands first
alone : (xs : List (List ℕ)) (text : List ℕ) (texts more : List (List ℕ)) → texts ≡ (xs ++ text ∷ []) ++ more → (Among text (drop 1 texts) → ⊥) → xs ≡ []
alone [] text texts more is none = refl
alone (x ∷ xs) text texts more is none =
    absurd (none (subst (λ w. Among text (drop 1 w)) (sym is) (subst (λ w. Among text w) (sym (append_assoc xs (text ∷ []) more)) (Among-append_right xs here))))

stands_first : (texts : List (List ℕ)) (c : Connection) (b : List ℕ) → ((t : List ℕ) → Among t texts → IsFrame t) → ((t : List ℕ) → Among t (drop 1 texts) → IsResetLogon t → ⊥) → IsPrefixOf (c.written ++ b) (joined texts) → (text : List ℕ) (w : Completes c.written b text) → IsResetLogon text → frames w.before ≡ []
stands_first texts c b are plain p text w l =
    let front = front_frames texts (c.written ++ b) (w.before ++ Frame text ∷ []) w.rest (record { each = are }) p w.takes in
    alone (frames w.before) text texts front.rest (front.is ∙ ap (λ z. z ++ front.rest) (frames-append w.before (Frame text ∷ []))) (λ m. plain text m l)

-- a front of such bytes may be written, by an end that asks for no reset
pub plain_rule : (id : Identity) (s : EndState) (c : Connection) (b text : List ℕ) → (IsAsking s → ⊥) → IsFrame text → (IsResetLogon text → ⊥) ⊎ MayTellReset c → IsPlainly c.written → IsPrefixOf b text → LogonRule id s c b
plain_rule id s c b text free frame plain h p =
    let more = plain_more c text frame plain h in
    let front : IsPrefixOf (c.written ++ b) (joined more.texts) = subst (IsPrefixOf (c.written ++ b)) more.are (prefix_under c.written p) in
    steps.answers free (tells h.texts h.are h.frames plain) (stands_first more.texts c b more.frames more.plain front)
  where
    tells : (texts : List (List ℕ)) → c.written ≡ joined texts → ((t : List ℕ) → Among t texts → IsFrame t) → (IsResetLogon text → ⊥) ⊎ MayTellReset c → Begun IsResetLogon (c.written ++ b) → Begun IsResetLogon c.written ⊎ Among AskedReset c.kept
    tells texts same are (inr told) begun = inr told.1
    tells [] same are (inl clear) begun =
        absurd (clear (begun_first text [] (c.written ++ b) (λ t m. subst IsFrame (sym (only m)) frame) (subst (IsPrefixOf (c.written ++ b)) (ap (λ w. w ++ text) same ∙ sym (append-nil text)) (prefix_under c.written p)) begun))
    tells (x ∷ xs) same are (inl clear) begun =
        inl (first_begun x xs c.written same are (begun_first x (xs ++ text ∷ []) (c.written ++ b)
        (λ t m. elim (Among-append_cases (x ∷ xs) (text ∷ []) m) as (λ _. IsFrame t) [ inl old ↦ are t old | inr new ↦ subst IsFrame (sym (only new)) frame ])
        (subst (IsPrefixOf (c.written ++ b)) (ap (λ w. w ++ text) same ∙ sym (joined-append (x ∷ xs) text)) (prefix_under c.written p)) begun))

-- ---- originals

-- sealed fields are no such Logon
pub sealed_free : (id : Identity) (fields : List Field) (text : List ℕ) → AreOfMessage fields → IsSealed id fields text → (value_of 35 fields ≡ Some (codes "A") → value_of 141 fields ≡ Some (codes "Y") → ⊥) → IsResetLogon text → ⊥
sealed_free id fields text m s never l =
    let same = has_same text l.fields fields l.has (sealed_has_fields id fields text m s) in
    never (subst (λ (fs : List Field). value_of 35 fs ≡ Some (codes "A")) same l.type) (subst (λ (fs : List Field). value_of 141 fs ≡ Some (codes "Y")) same l.flag)

pub original_frame : (id : Identity) (n : ℕ) (e : Entry) (text : List ℕ) → IsOriginal id n e text → IsFrame text
original_frame id n e text h = sealed_is_frame id (original_fields id (decimal n) h.at h.type h.rest) text (original_is id (decimal n) h.at h.type h.rest (carried h.carries)) h.sealed_so

pub no_logon : (type : List ℕ) → is_admin_type type ≡ false → Some type ≡ Some (codes "A") → ⊥
no_logon type no_admin e = let admin : is_admin_type (codes "A") ≡ false = subst (λ t. is_admin_type t ≡ false) (some_same type (codes "A") e) no_admin in cc

app_type : {time : ℕ} {by : By} {body type : List ℕ} {rest : List Field} → Carries (App time by body) type rest → is_admin_type type ≡ false
app_type (wrote.app is) = is.app.no_admin

-- that of an application message asks for no reset
pub app_free : (id : Identity) (n time : ℕ) (by : By) (body text : List ℕ) → IsOriginal id n (App time by body) text → IsResetLogon text → ⊥
app_free id n time by body text h = sealed_free id (original_fields id (decimal n) h.at h.type h.rest) text (original_is id (decimal n) h.at h.type h.rest (carried h.carries)) h.sealed_so (λ type flag. no_logon h.type (app_type h.carries) type)
