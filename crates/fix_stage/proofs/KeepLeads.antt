-- A record that is kept or lost is a step of a lawful end.
use Rattle.std.proofs.Common.{◌≡◌, ◌≢◌, ◌⊎◌, inl, inr, ℕ, zero, suc, ◌+◌, ◌<◌, ◌≤◌, ◌==◌, ◌&&◌, not, if◌then◌else◌, List, [], ◌∷◌, ◌++◌}
use Rattle.std.proofs.Common.{length, length-append, drop, Bool, true, false, Some, None, Err, refl, sym, ◌∙◌}
use Rattle.std.proofs.Common.{ap, subst, arith}
use Rattle.std.proofs.lemmas.List.{append-nil}
use Rattle.std.proofs.lemmas.Bool.{eqb-true, eqb-false}
use Rattle.fix_base.specs.declared.identity.Identity.{Identity}
use Rattle.fix_base.specs.declared.entry.Entry.{Entry}
use Rattle.fix_base.specs.declared.entry.Record.TheVariants.{Push, Expect, Many}
use Rattle.fix_base.specs.declared.act.Act.TheVariants as act
use Rattle.fix_base.specs.End.{End, folded}
use Rattle.fix_base.specs.EndStep as steps
use Rattle.fix_base.specs.EndStep.{Answer, Connection, EndState, Pushed, Chain, Move, Row, EndStep, EndRun, LogonRule}
use Rattle.fix_base.proofs.FollowsLemmas.{SameBlock, linked}
use Rattle.fix_outside.specs.declared.outside.KeepFault.TheVariants as keep
use Rattle.fix_outside.specs.Calls.{Keep}
use Rattle.fix_stage.specs.Sender.{Numbers, Sender, numbers_kept}
use Rattle.fix_stage.specs.Flush.{record_of, is_due}
use Rattle.fix_stage.specs.Lawful.{HasKept, IsCertain, IsInDoubt, IsAhead}
use Rattle.fix_stage.specs.Lawful.{Fits, LawfulRunTo}
use Rattle.fix_stage.proofs.LeadsLemmas.{leads_lost, leads_after}
use Rattle.fix_stage.proofs.ChainLemmas.{moves_run, push_run, expect_run, chain_expects}
use Rattle.fix_stage.proofs.PlainLemmas.{still_free}

-- ---- nothing due, a number that isn't 0

pub none_due : (k : ℕ) → (k == 0) ≡ true → not (length {A = Entry} [] == 0 && k == 0) ≡ true → ⊥
none_due k z due = let w : not (true && true) ≡ true = subst (λ t. not (true && t) ≡ true) z due in cc

positive : (k : ℕ) → (k == 0) ≡ false → 0 < k
positive zero z = cc
positive (suc k) z = omega arith

-- ---- an end that grew, on the same connection

-- the end where a record is kept, with what is staged
pub record KeptEnd (id : Identity) (n k : ℕ) (b : Sender) (e : EndState) (c : Connection) : Type 0 where
  pub to : EndState
  pub run : EndRun id e (act.Kept (record_of b.stage.entries k) ∷ []) to
  pub end : to.end ≡ folded e.end (record_of b.stage.entries k)
  pub many : to.end ≡ folded e.end (Many b.stage.entries k)
  pub doubt : to.doubt ≡ None
  pub block : SameBlock e to
  pub connection : to.connection ≡ Some c
  pub expected : to.expected ≡ n
  pub base : c.base ≤ length to.handled

-- a record of these, and several entries with the number, leave the same end
pub record_same : (e : End) (es : List Entry) (k : ℕ) (t : Bool) → (k == 0) ≡ t → not (length es == 0 && k == 0) ≡ true → folded e (Many es k) ≡ folded e (record_of es k)
record_same e [] k true z due = absurd (none_due k z due)
record_same e [] k false z due = rw z (ap (λ out. record e { out = out; stored = k }) (append-nil e.out))
record_same e (x ∷ []) k true z due = rw z refl
record_same e (x ∷ []) k false z due = ap (folded e) (let many : record_of (x ∷ []) k ≡ Many (x ∷ []) k = rw z refl in sym many)
record_same e (x ∷ y ∷ es) k t z due = refl

-- the chain of what is staged, with the number
abbrev pub chain_of : (k : ℕ) (s s' : EndState) → Bool → EndState
chain_of k s s' true = s'
chain_of k s s' false = record s' { end = folded s'.end (Expect k) }

pub numbered : (n k : ℕ) (es : List Entry) (e : EndState) (c : Connection) (a : IsAhead n es e c) → (k ≡ 0) ⊎ (k ≡ n) → (t : Bool) → (k == 0) ≡ t → Chain e es k (chain_of k e a.to t)
numbered n k es e c a which true z = subst (λ j. Chain e es j a.to) (sym (eqb-true k 0 z)) a.run
numbered n k es e c a which false z =
    let some : k ≢ 0 = eqb-false k 0 z in
    let is : k ≡ n = elim which as (λ _. k ≡ n) [ inl zeroed ↦ absurd (some zeroed) | inr same ↦ same ] in
    chain_expects k a.run refl (positive k z) (is ∙ sym a.expected)

-- with the same chain the number that is expected, and what was handled
pub chain_expected : (k : ℕ) (s s' : EndState) (t : Bool) → (chain_of k s s' t).expected ≡ s'.expected
chain_expected k s s' true = refl
chain_expected k s s' false = refl

chain_handled : (k : ℕ) (s s' : EndState) (t : Bool) → (chain_of k s s' t).handled ≡ s'.handled
chain_handled k s s' true = refl
chain_handled k s s' false = refl

-- ---- a record is kept

many_run : (id : Identity) (es : List Entry) (k : ℕ) (e to : EndState) → e.doubt ≡ None → Chain e es k to → EndRun id e (act.Kept (Many es k) ∷ []) to
many_run id es k e to sure chain = steps.step (record { certain = sure; row = steps.kept_many es k chain }) steps.stop

pub kept_run : (id : Identity) (es : List Entry) (k : ℕ) (e to : EndState) (t : Bool) → (k == 0) ≡ t → not (length es == 0 && k == 0) ≡ true → e.doubt ≡ None → Chain e es k to → EndRun id e (act.Kept (record_of es k) ∷ []) to
kept_run id [] k e to true z due sure chain = absurd (none_due k z due)
kept_run id [] k e to false z due sure chain = expect_run id sure chain refl (positive k z)
kept_run id (x ∷ []) k e to true z due sure chain = rw z (push_run id x sure chain refl (eqb-true k 0 z))
kept_run id (x ∷ []) k e to false z due sure chain = rw z (many_run id (x ∷ []) k e to sure chain)
kept_run id (x ∷ y ∷ es) k e to t z due sure chain = many_run id (x ∷ y ∷ es) k e to sure chain

kept_at : (id : Identity) (read : List ℕ) (resets : List Answer) (given : List ℕ) (n k : ℕ) (b : Sender) (e : EndState) (f : Fits id read resets given n b e) → (k ≡ 0) ⊎ (k ≡ n) → is_due b k ≡ true → (t : Bool) → (k == 0) ≡ t → KeptEnd id n k b e f.on.connection
kept_at id read resets given n k b e f which due t z =
    let a = f.ahead in
    let es = b.stage.entries in
    let to : EndState = chain_of k e a.to t in
    let chain : Chain e es k to = numbered n k es e f.on.connection a which t z in
    let l = linked chain f.certain.doubt in
    record {
      to = to;
      run = kept_run id es k e to t z due f.certain.doubt chain;
      end = l.end ∙ record_same e.end es k t z due;
      many = l.end;
      doubt = l.certain;
      block = l.block;
      connection = l.connection ∙ f.on.is_open;
      expected = chain_expected k e a.to t ∙ a.expected;
      base = subst (λ h. f.on.connection.base ≤ length h) (sym (chain_handled k e a.to t)) a.base;
    }

pub kept_end : (id : Identity) (read : List ℕ) (resets : List Answer) (given : List ℕ) (n k : ℕ) (b : Sender) (e : EndState) (f : Fits id read resets given n b e) → (k ≡ 0) ⊎ (k ≡ n) → is_due b k ≡ true → KeptEnd id n k b e f.on.connection
kept_end id read resets given n k b e f which due = kept_at id read resets given n k b e f which due (k == 0) refl

-- what several entries with a number leave
pub many_stored : (e : End) (es : List Entry) (k stored : ℕ) → e.stored ≡ stored → (folded e (Many es k)).stored ≡ (if k == 0 then stored else k)
many_stored e es k stored h = by (k == 0)
  where
    by : (t : Bool) → (if t then record e { out = e.out ++ es } else record e { out = e.out ++ es; stored = k }).stored ≡ (if t then stored else k)
    by true = h
    by false = refl

pub many_out : (e : End) (es : List Entry) (k : ℕ) → (folded e (Many es k)).out ≡ e.out ++ es
many_out e es k = by (k == 0)
  where
    by : (t : Bool) → (if t then record e { out = e.out ++ es } else record e { out = e.out ++ es; stored = k }).out ≡ e.out ++ es
    by true = refl
    by false = refl

-- the session counts what is kept, and the end is certain
pub kept_certain : (id : Identity) (read : List ℕ) (resets : List Answer) (given : List ℕ) (n k : ℕ) (b : Sender) (e : EndState) (f : Fits id read resets given n b e) (p : KeptEnd id n k b e f.on.connection) (e' : EndState) → e'.end ≡ p.to.end → e'.doubt ≡ None → e'.role ≡ p.to.role → IsCertain (numbers_kept b.numbers (length b.stage.entries) k) e'
kept_certain id read resets given n k b e f p e' same doubt role = record {
  doubt = doubt;
  kept = record {
    stored = ap (λ (x : End). x.stored) (same ∙ p.many) ∙ many_stored e.end b.stage.entries k b.numbers.stored_expected f.certain.kept.stored;
    out = ap (λ (x : End). length x.out) (same ∙ p.many) ∙ ap length (many_out e.end b.stage.entries k)
        ∙ length-append e.end.out b.stage.entries ∙ ap (λ l. l + length b.stage.entries) f.certain.kept.out;
    free = still_free e e' (role ∙ p.block.role) (ap (λ (x : End). x.asked) same ∙ p.block.asked) f.certain.kept.free;
  };
}

-- ---- a record is lost

pub in_doubt : (n k : ℕ) (b to : Sender) (e e' : EndState) → to.numbers ≡ b.numbers → b.numbers.expected ≡ n → not (length b.stage.entries == 0 && k == 0) ≡ true → (k ≡ 0) ⊎ (k ≡ n) → HasKept b.numbers e → e'.end ≡ e.end → e'.role ≡ e.role → e'.doubt ≡ Some (record_of b.stage.entries k) → e'.connection ≡ None → IsInDoubt to e'
in_doubt n k b to e e' same expected some which kept end role doubt closed = record {
  kept = record {
    stored = ap (λ (x : End). x.stored) end ∙ kept.stored ∙ sym (ap (λ (m : Numbers). m.stored_expected) same);
    out = ap (λ (x : End). length x.out) end ∙ kept.out ∙ sym (ap (λ (m : Numbers). m.last) same);
    free = still_free e e' role (ap (λ (x : End). x.asked) end) kept.free;
  };
  entries = b.stage.entries;
  expect = k;
  some = some;
  due = elim which as (λ _. (k ≡ 0) ⊎ (k ≡ to.numbers.expected)) [ inl zeroed ↦ inl zeroed | inr is ↦ inr (is ∙ sym expected ∙ sym (ap (λ (m : Numbers). m.expected) same)) ];
  doubt = doubt;
  closed = closed;
}

-- several entries may be lost, as they would be kept
many_lost : (id : Identity) (n k : ℕ) (es : List Entry) (e : EndState) (c : Connection) (a : IsAhead n es e c) (P : EndState → Type 0) → e.doubt ≡ None → (k ≡ 0) ⊎ (k ≡ n) → (t : Bool) → (k == 0) ≡ t
    → ((e' : EndState) → e'.end ≡ e.end → e'.role ≡ e.role → e'.doubt ≡ Some (Many es k) → e'.connection ≡ None → P e')
    → LawfulRunTo id e (Keep (Many es k) (Err keep.Failed) ∷ []) P
many_lost id n k es e c a P sure which t z holds =
    let to : EndState = chain_of k e a.to t in
    let chain : Chain e es k to = numbered n k es e c a which t z in
    let left : EndState = record e { doubt = Some (Many es k); beside = drop (length e.handled) to.handled; connection = None } in
    leads_lost id e left (Many es k) P (record { certain = sure; row = steps.lost_many es k chain }) refl refl (holds left refl refl refl refl)

-- whichever record it is, it may be lost
pub lost_at : (id : Identity) (n k : ℕ) (es : List Entry) (e : EndState) (c : Connection) (a : IsAhead n es e c) (P : EndState → Type 0) → e.doubt ≡ None → (k ≡ 0) ⊎ (k ≡ n) → not (length es == 0 && k == 0) ≡ true → (t : Bool) → (k == 0) ≡ t
    → ((e' : EndState) → e'.end ≡ e.end → e'.role ≡ e.role → e'.doubt ≡ Some (record_of es k) → e'.connection ≡ None → P e')
    → LawfulRunTo id e (Keep (record_of es k) (Err keep.Failed) ∷ []) P
lost_at id n k [] e c a P sure which due true z holds = absurd (none_due k z due)
lost_at id n k [] e c a P sure which due false z holds =
    let some : k ≢ 0 = eqb-false k 0 z in
    let is : k ≡ n = elim which as (λ _. k ≡ n) [ inl zeroed ↦ absurd (some zeroed) | inr same ↦ same ] in
    let l = linked a.run sure in
    let same : a.to.end ≡ e.end = l.end ∙ ap (λ out. record e.end { out = out }) (append-nil e.end.out) in
    let left : EndState = record a.to { doubt = Some (Expect k); connection = None } in
    leads_after id e a.to (Keep (Expect k) (Err keep.Failed) ∷ []) P (moves_run id a.run refl refl) same
    (leads_lost id a.to left (Expect k) P (record { certain = l.certain; row = steps.lost_expect k (is ∙ sym a.expected) }) refl refl
    (holds left same l.block.role refl refl))
lost_at id n k (x ∷ []) e c a P sure which due true z holds =
    let left : EndState = record e { doubt = Some (Push x); connection = None } in
    let is : record_of (x ∷ []) k ≡ Push x = rw z refl in
    subst (λ r. LawfulRunTo id e (Keep r (Err keep.Failed) ∷ []) P) (sym is)
    (leads_lost id e left (Push x) P (record { certain = sure; row = steps.lost_push x }) refl refl (holds left refl refl (ap Some (sym is)) refl))
lost_at id n k (x ∷ []) e c a P sure which due false z holds =
    let is : record_of (x ∷ []) k ≡ Many (x ∷ []) k = rw z refl in
    subst (λ r. LawfulRunTo id e (Keep r (Err keep.Failed) ∷ []) P) (sym is) (many_lost id n k (x ∷ []) e c a P sure which false z (λ e' end role doubt closed. holds e' end role (doubt ∙ ap Some (sym is)) closed))
lost_at id n k (x ∷ y ∷ es) e c a P sure which due t z holds = many_lost id n k (x ∷ y ∷ es) e c a P sure which t z holds

pub lost_leads : (id : Identity) (read : List ℕ) (resets : List Answer) (given : List ℕ) (n k : ℕ) (b to : Sender) (e : EndState) → to.numbers ≡ b.numbers → Fits id read resets given n b e → (k ≡ 0) ⊎ (k ≡ n) → is_due b k ≡ true → LawfulRunTo id e (Keep (record_of b.stage.entries k) (Err keep.Failed) ∷ []) (IsInDoubt to)
lost_leads id read resets given n k b to e same f which due =
    lost_at id n k b.stage.entries e f.on.connection f.ahead (IsInDoubt to) f.certain.doubt which due (k == 0) refl
    (λ e' end role doubt closed. in_doubt n k b to e e' same f.expected due which f.certain.kept end role doubt closed)

-- ---- a doubt that settles

-- where the record is there, the end has its entries, and its number where it isn't 0
pub record HasRecord (b : Sender) (entries : List Entry) (expect : ℕ) (end : End) : Type 0 where
  pub out : length end.out ≡ b.numbers.last + length entries
  pub stored : end.stored ≡ (if expect == 0 then b.numbers.stored_expected else expect)

pub doubt_leaves : (b : Sender) (e : EndState) (h : IsInDoubt b e) → HasRecord b h.entries h.expect (folded e.end (record_of h.entries h.expect))
doubt_leaves b e h =
    let same = record_same e.end h.entries h.expect (h.expect == 0) refl h.some in
    record {
      out = ap (λ (x : End). length x.out) (sym same) ∙ ap length (many_out e.end h.entries h.expect) ∙ length-append e.end.out h.entries ∙ ap (λ l. l + length h.entries) h.kept.out;
      stored = ap (λ (x : End). x.stored) (sym same) ∙ many_stored e.end h.entries h.expect b.numbers.stored_expected h.kept.stored;
    }
