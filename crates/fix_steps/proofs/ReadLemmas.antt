-- What was read: the message that a frame says, and that a first frame which is no Logon with 141=Y blocks nothing.
use Rattle.std.proofs.Common.{◌≡◌, ◌==◌, ℕ, codes, bytes_eq, if◌then◌else◌, List, [], ◌∷◌, Bool, true, false, Option, Some, None, refl, sym, ap, ◌∙◌, subst, inl, inr}
use Rattle.std.proofs.lemmas.Bool.{eqb-true, eqb-false}
use Rattle.fix_base.specs.Lists.{Among, there}
use Rattle.fix_base.specs.Fields.{Field}
use Rattle.fix_base.specs.Stream.{UnreadBytes, Item, Frame, Span, Byte, TakesAll, frames}
use Rattle.fix_base.specs.Message as message
use Rattle.fix_base.specs.Message.{Message}
use Rattle.fix_base.specs.Says.{value_of, seq_num_of, is_yes, is_admin_type, new_seq_no_in, reset_of, message_with, message_from, message_of, body_of}
use Rattle.fix_base.specs.Logon.{IsResetLogon, Begun}
use Rattle.fix_base.specs.EndStep as steps
use Rattle.fix_base.specs.EndStep.{Answer, Connection, EndState, IsAsking, IsBlocked, Handling, first_app}
use Rattle.fix_base.proofs.ListLemmas.{some_same, Among-cons_cases}
use Rattle.fix_base.proofs.Runs.{takes_same}
use Rattle.fix_base.proofs.HandledLemmas.{test}
use Rattle.fix_machine.specs.Answer.{number_or_0}
use Rattle.fix_steps.specs.Lawful as lawful
use Rattle.fix_steps.specs.Lawful.{LetsCount}

-- ---- the first frame

-- two readings of the same bytes have one first frame
pub first_frame : (a : UnreadBytes) (xs ys : List Item) (b c : UnreadBytes) (t u : List ℕ) (ts us : List (List ℕ)) → TakesAll a xs b → TakesAll a ys c → frames xs ≡ t ∷ ts → frames ys ≡ u ∷ us → t ≡ u
first_frame a [] ys b c t u ts us p q e f = cc
first_frame a (x ∷ xs) [] b c t u ts us p q e f = cc
first_frame a (Frame v ∷ xs) (y ∷ ys) b c t u ts us p q e f =
    let same = takes_same a (Frame v) y p.0 q.0 p.1 q.1 in
    let other : v ∷ frames ys ≡ u ∷ us = subst (λ z. frames (z ∷ ys) ≡ u ∷ us) (sym same.0) f in
    cc
first_frame a (Span v ∷ xs) (y ∷ ys) b c t u ts us p q e f =
    let same = takes_same a (Span v) y p.0 q.0 p.1 q.1 in
    first_frame p.0 xs ys b c t u ts us p.2 (subst (λ z. TakesAll z ys c) (sym same.1) q.2) e (subst (λ z. frames (z ∷ ys) ≡ u ∷ us) (sym same.0) f)
first_frame a (Byte v ∷ xs) (y ∷ ys) b c t u ts us p q e f =
    let same = takes_same a (Byte v) y p.0 q.0 p.1 q.1 in
    first_frame p.0 xs ys b c t u ts us p.2 (subst (λ z. TakesAll z ys c) (sym same.1) q.2) e (subst (λ z. frames (z ∷ ys) ≡ u ∷ us) (sym same.0) f)

-- an end that asks for no reset isn't blocked where the first frame lets messages count
pub counts_free : (e : EndState) (c : Connection) → (IsAsking e → ⊥) → e.connection ≡ Some c → LetsCount c.read c.kept → IsBlocked e → ⊥
counts_free e c free is_open h (steps.asks asking) = free asking
counts_free e c free is_open (lawful.begins_plainly h) (steps.waits d o kept begun) =
    let other : Begun IsResetLogon c.read = subst (λ (k : Connection). Begun IsResetLogon k.read) (sym (some_same c d (sym is_open ∙ o))) begun in
    h.is (subst IsResetLogon (first_frame _ other.items h.items other.rest h.rest other.text h.text other.others h.others other.takes h.takes other.first h.first) other.is)
counts_free e c free is_open (lawful.kept_some some) (steps.waits d o kept begun) =
    some (subst (λ (k : Connection). k.kept ≡ []) (sym (some_same c d (sym is_open ∙ o))) kept)

-- the same of what was read
pub read_free : (read : List ℕ) (resets : List Answer) → LetsCount read resets → (e : EndState) (c : Connection) → (IsAsking e → ⊥) → e.connection ≡ Some c → c.read ≡ read → c.kept ≡ resets → IsBlocked e → ⊥
read_free read resets h e c free is_open same keeps =
    counts_free e c free is_open (subst (λ (w : List Answer). LetsCount c.read w) (sym keeps) (subst (λ w. LetsCount w resets) (sym same) h))

-- ---- the first application message of a number

pub record HasFirst (n : ℕ) (messages : List Message) : Type 0 where
  pub item : Handling
  pub first : first_app n messages ≡ Some item
  pub number : item.number ≡ n

-- one of this number stands first
first_here : (n k : ℕ) (m : Bool) (text : List ℕ) (xs : List Message) → (k == n) ≡ true → HasFirst n (message.App k m text ∷ xs)
first_here n k m text xs same = record {
  item = record { number = k; body = text; marked = m; rejected = true };
  first = ap (λ t. if t then Some (record { number = k; body = text; marked = m; rejected = true }) else first_app n xs) same;
  number = eqb-true k n same;
}

-- one of another number doesn't count
first_later : (n k : ℕ) (m : Bool) (text : List ℕ) (xs : List Message) → (k == n) ≡ false → HasFirst n xs → HasFirst n (message.App k m text ∷ xs)
first_later n k m text xs other h = record {
  item = h.item;
  first = ap (λ t. if t then Some (record { number = k; body = text; marked = m; rejected = true }) else first_app n xs) other ∙ h.first;
  number = h.number;
}

same_number : (n k : ℕ) (marked m : Bool) (body text : List ℕ) → message.App n marked body ≡ message.App k m text → k ≡ n
same_number n k marked m body text e = cc

pub has_first : (n : ℕ) (marked : Bool) (body : List ℕ) (messages : List Message) → Among (message.App n marked body) messages → HasFirst n messages
has_first n marked body [] a = elim a [ ]
has_first n marked body (message.App k m text ∷ xs) a =
    elim (test (k == n)) as (λ _. HasFirst n (message.App k m text ∷ xs)) [
      | inl same ↦ first_here n k m text xs same
      | inr other ↦ (elim (Among-cons_cases a) as (λ _. HasFirst n (message.App k m text ∷ xs)) [
        | inl is ↦ absurd (eqb-false k n other (same_number n k marked m body text is))
        | inr earlier ↦ first_later n k m text xs other (has_first n marked body xs earlier)
      ])
    ]
has_first n marked body (message.Admin k ∷ xs) (there a) = let h = has_first n marked body xs a in record { item = h.item; first = h.first; number = h.number }
has_first n marked body (message.GapFill k next ∷ xs) (there a) = let h = has_first n marked body xs a in record { item = h.item; first = h.first; number = h.number }
has_first n marked body (message.ResetTo k next ∷ xs) (there a) = let h = has_first n marked body xs a in record { item = h.item; first = h.first; number = h.number }

-- ---- an application message, by its fields

pub record IsAppOf (n : ℕ) (marked : Bool) (body : List ℕ) (fs : List Field) : Type 0 where
  pub number : number_or_0 (seq_num_of fs) ≡ n
  pub mark : is_yes (value_of 43 fs) ≡ marked
  pub text : body_of fs ≡ body

reset_no_app : (k n : ℕ) (marked : Bool) (body : List ℕ) (filling : Bool) (next : Option ℕ) → reset_of k filling next ≡ message.App n marked body → ⊥
reset_no_app k n marked body filling None h = cc
reset_no_app k n marked body true (Some next) h = cc
reset_no_app k n marked body false (Some next) h = cc

with_app : (t : List ℕ) (k n : ℕ) (marked : Bool) (body : List ℕ) (fs : List Field) (four admin : Bool) → seq_num_of fs ≡ Some k → (if four then reset_of k (is_yes (value_of 123 fs)) (new_seq_no_in (value_of 36 fs)) else (if admin then message.Admin k else message.App k (is_yes (value_of 43 fs)) (body_of fs))) ≡ message.App n marked body → IsAppOf n marked body fs
with_app t k n marked body fs true admin number h = absurd (reset_no_app k n marked body (is_yes (value_of 123 fs)) (new_seq_no_in (value_of 36 fs)) h)
with_app t k n marked body fs false true number h = cc
with_app t k n marked body fs false false number h = record { number = ap number_or_0 number ∙ app_number h; mark = app_mark h; text = app_text h }
  where
    app_number : message.App k (is_yes (value_of 43 fs)) (body_of fs) ≡ message.App n marked body → k ≡ n
    app_number h = cc

    app_mark : message.App k (is_yes (value_of 43 fs)) (body_of fs) ≡ message.App n marked body → is_yes (value_of 43 fs) ≡ marked
    app_mark h = cc

    app_text : message.App k (is_yes (value_of 43 fs)) (body_of fs) ≡ message.App n marked body → body_of fs ≡ body
    app_text h = cc

pub app_fields : (n : ℕ) (marked : Bool) (body : List ℕ) (fs : List Field) → message_of fs ≡ Some (message.App n marked body) → IsAppOf n marked body fs
app_fields n marked body fs h = by (value_of 35 fs) (seq_num_of fs) refl h
  where
    some_message : (x y : Message) → Some x ≡ Some y → x ≡ y
    some_message x y e = cc

    by : (t : Option (List ℕ)) (k : Option ℕ) → seq_num_of fs ≡ k → message_from t k fs ≡ Some (message.App n marked body) → IsAppOf n marked body fs
    by None k is h = cc
    by (Some t) None is h = cc
    by (Some t) (Some k) is h = with_app t k n marked body fs (bytes_eq t (codes "4")) (is_admin_type t) is (some_message (message_with t k fs) (message.App n marked body) h)
