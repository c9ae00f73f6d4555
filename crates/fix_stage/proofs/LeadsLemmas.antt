-- Runs of a lawful end, put together.
use Rattle.std.proofs.Common.{◌≡◌, ◌⊎◌, inl, inr, List, [], ◌∷◌, ◌++◌, Option, Some, None, sym, ap, ◌∙◌, subst}
use Rattle.std.proofs.Common.{Result, Ok, Err}
use Rattle.std.specs.Prelude.{⊤}
use Rattle.fix_base.specs.declared.identity.Identity.{Identity}
use Rattle.fix_base.specs.declared.entry.Record.{Record}
use Rattle.fix_base.specs.declared.act.Act.{Act}
use Rattle.fix_base.specs.declared.act.Act.TheVariants as act
use Rattle.fix_base.specs.End.{End, folded}
use Rattle.fix_base.specs.EndStep as steps
use Rattle.fix_base.specs.EndStep.{EndState, EndStep, Move, EndRun}
use Rattle.fix_base.proofs.RunLemmas.{EndRun-append}
use Rattle.fix_outside.specs.declared.outside.KeepFault.TheVariants as keep
use Rattle.fix_outside.specs.Calls.{Call, Keep, CallStores, CallsStore, IsTrueIn, acts_in}
use Rattle.fix_outside.proofs.CallLemmas.{acts_in-append, CallsStore-split}
use Rattle.fix_stage.specs.Combine.{Each, none, ends, goes, AndThen, first_ends, both, Lifted, goes_well, fails}
use Rattle.fix_stage.specs.Lawful.{IsStoredOrInDoubt, RunTo, LawfulRunTo, After, LeadsFrom}

-- where no record is in doubt a store holds the end
pub holds_end : (doubt : Option Record) (end : End) (held : Option End) → doubt ≡ None → IsStoredOrInDoubt doubt end held → held ≡ Some end
holds_end None end held certain h = h
holds_end (Some r) end held certain h = cc

-- where this record was lost it holds the end with or without it
holds_lost : (r : Record) (end : End) (held mid : Option End) → (mid ≡ Some end) ⊎ (mid ≡ Some (folded end r)) → held ≡ mid → IsStoredOrInDoubt (Some r) end held
holds_lost r end held mid (inl same) is = inl (is ∙ same)
holds_lost r end held mid (inr added) is = inr (is ∙ added)

-- a store that holds the end holds it in any doubt
holds_any : (doubt : Option Record) (end : End) (held : Option End) → held ≡ Some end → IsStoredOrInDoubt doubt end held
holds_any None end held h = h
holds_any (Some r) end held h = inl h

-- a run of no acts more
run_nowhere : (id : Identity) (e : EndState) (P : EndState → Type 0) (held : Option End) → P e → held ≡ Some e.end → RunTo id e [] P held
run_nowhere id e P held h same = record { to = e; run = steps.stop; holds = h; store = holds_any e.doubt e.end held same }

-- nothing is done
pub leads_nowhere : (id : Identity) (e : EndState) (P : EndState → Type 0) → P e → LawfulRunTo id e [] P
leads_nowhere id e P h = λ held s. run_nowhere id e P held h s

-- one act, and then others
pub leads_step : (id : Identity) (e mid : EndState) (x : Act) (call : Call) (calls : List Call) (P : EndState → Type 0) → acts_in (call ∷ calls) ≡ x ∷ acts_in calls → EndStep id e x mid → ((held : Option End) → CallStores call (Some e.end) held → held ≡ Some mid.end) → LawfulRunTo id mid calls P → LawfulRunTo id e (call ∷ calls) P
leads_step id e mid x call calls P are one stores l = λ held s.
    (let t = l held (subst (λ o. CallsStore calls o held) (stores s.0 s.1) s.2) in
    subst (λ acts. RunTo id e acts P held) (sym are) (record { to = t.to; run = steps.step one t.run; holds = t.holds; store = t.store }))

-- a call that does nothing to the end, and then others; what it tells is so
pub leads_call : (id : Identity) (e : EndState) (call : Call) (calls : List Call) (P : EndState → Type 0) → acts_in (call ∷ calls) ≡ acts_in calls → ((held : Option End) → CallStores call (Some e.end) held → held ≡ Some e.end) → (IsTrueIn call (Some e.end) → LawfulRunTo id e calls P) → LawfulRunTo id e (call ∷ calls) P
leads_call id e call calls P are stores l = λ held s.
    subst (λ acts. RunTo id e acts P held) (sym are) (l s.1.so held (subst (λ o. CallsStore calls o held) (stores s.0 s.1) s.2))

-- a record is lost, and nothing more is done
pub leads_lost : (id : Identity) (e mid : EndState) (r : Record) (P : EndState → Type 0) → EndStep id e (act.KeepLost r) mid → mid.end ≡ e.end → mid.doubt ≡ Some r → P mid → LawfulRunTo id e (Keep r (Err keep.Failed) ∷ []) P
leads_lost id e mid r P one same doubt h = λ held s. record {
  to = mid;
  run = steps.step one steps.stop;
  holds = h;
  store = subst (λ (d : Option Record). IsStoredOrInDoubt d mid.end held) (sym doubt)
      (subst (λ (f : End). IsStoredOrInDoubt (Some r) f held) (sym same) (holds_lost r e.end held s.1.stores.0 s.1.stores.1 (s.2 ∙ s.1.stores.2)));
}

-- a move that leaves the store as it is, and then acts
pub leads_move : (id : Identity) (e mid : EndState) (calls : List Call) (P : EndState → Type 0) → Move e mid → mid.end ≡ e.end → LawfulRunTo id mid calls P → LawfulRunTo id e calls P
leads_move id e mid calls P m same l = λ held s.
    (let t = l held (subst (λ f. CallsStore calls (Some f) held) (sym same) s) in
    record { to = t.to; run = steps.move m t.run; holds = t.holds; store = t.store })

-- one part, and then another from where nothing is in doubt
pub leads_on : (id : Identity) (e : EndState) (xs ys : List Call) (P Q : EndState → Type 0) → ((mid : EndState) → P mid → mid.doubt ≡ None) → LawfulRunTo id e xs P → ((mid : EndState) → P mid → LawfulRunTo id mid ys Q) → LawfulRunTo id e (xs ++ ys) Q
leads_on id e xs ys P Q certain l k = λ held s.
    (let parts = CallsStore-split xs ys (Some e.end) held s in
    let first = l parts.0 parts.1 in
    let between = holds_end first.to.doubt first.to.end parts.0 (certain first.to first.holds) first.store in
    let later = k first.to first.holds held (subst (λ o. CallsStore ys o held) between parts.2) in
    subst (λ acts. RunTo id e acts Q held) (sym (acts_in-append xs ys)) (record { to = later.to; run = EndRun-append first.run later.run; holds = later.holds; store = later.store }))

-- where P is enough for Q
pub leads_weaker : (id : Identity) (e : EndState) (calls : List Call) (P Q : EndState → Type 0) → ((mid : EndState) → P mid → Q mid) → LawfulRunTo id e calls P → LawfulRunTo id e calls Q
leads_weaker id e calls P Q h l = λ held s. (let t = l held s in record { to = t.to; run = t.run; holds = h t.to t.holds; store = t.store })

-- moves that leave the store as it is, and then acts
pub leads_after : (id : Identity) (e mid : EndState) (calls : List Call) (P : EndState → Type 0) → EndRun id e [] mid → mid.end ≡ e.end → LawfulRunTo id mid calls P → LawfulRunTo id e calls P
leads_after id e mid calls P run same l = λ held s.
    (let t = l held (subst (λ f. CallsStore calls (Some f) held) (sym same) s) in
    record { to = t.to; run = EndRun-append run t.run; holds = t.holds; store = t.store })

-- a record is kept, and then acts
pub leads_kept : (id : Identity) (e mid : EndState) (r : Record) (calls : List Call) (P : EndState → Type 0) → EndRun id e (act.Kept r ∷ []) mid → mid.end ≡ folded e.end r → LawfulRunTo id mid calls P → LawfulRunTo id e (Keep r (Ok tt) ∷ calls) P
leads_kept id e mid r calls P run same l = λ held s.
    (let kept : s.0 ≡ Some mid.end = s.1.stores.2 ∙ s.1.stores.1 ∙ ap Some (sym same) in
    let t = l held (subst (λ o. CallsStore calls o held) kept s.2) in
    record { to = t.to; run = EndRun-append run t.run; holds = t.holds; store = t.store })

-- ---- parts put together

-- where P holds nothing is in doubt
abbrev pub HasNoDoubt : {S : Type 0} → (S → EndState → Type 0) → Type 0
HasNoDoubt {S} P = (s : S) (e : EndState) → P s e → e.doubt ≡ None

module _ {S E : Type 0} (id : Identity) (Failed : E → S → EndState → Type 0) where
  pub then_leads : (P Q R : S → EndState → Type 0) (A B : S → List Call → Result ⊤ E → S → Type 0) → HasNoDoubt Q → LeadsFrom id Failed P A Q → LeadsFrom id Failed Q B R → LeadsFrom id Failed P (AndThen A B) R
  then_leads P Q R A B certain one other s calls r to (first_ends {e = fault} d) e h = one s calls (Err fault) to d e h
  then_leads P Q R A B certain one other s calls r to (both {mid = mid} {first = first} {more = more} d k) e h =
      leads_on id e first more (Q mid) (After Failed R r to) (certain mid) (one s first (Ok tt) mid d e h) (λ m q. other mid more r to k m q)

  module _ {X : Type 0} (R : S → X → List Call → Result ⊤ E → S → Type 0) where
    -- nothing more is to be done
    pub none_leads : (P : S → EndState → Type 0) → LeadsFrom id Failed P (λ s. Each R s []) P
    none_leads P s calls r to none e h = leads_nowhere id e (P s) h

    -- one item, and then the others
    pub first_leads : (P Q Q' : S → EndState → Type 0) (x : X) (xs : List X) → HasNoDoubt Q → LeadsFrom id Failed P (λ s. R s x) Q → LeadsFrom id Failed Q (λ s. Each R s xs) Q' → LeadsFrom id Failed P (λ s. Each R s (x ∷ xs)) Q'
    first_leads P Q Q' x xs certain one rest s calls r to (ends {e = fault} d) e h = one s calls (Err fault) to d e h
    first_leads P Q Q' x xs certain one rest s calls r to (goes {mid = mid} {first = first} {more = more} d k) e h =
        leads_on id e first more (Q mid) (After Failed Q' r to) (certain mid) (one s first (Ok tt) mid d e h) (λ m q. rest mid more r to k m q)

    -- items that all keep P
    pub each_leads : (P : S → EndState → Type 0) → HasNoDoubt P → ((x : X) → LeadsFrom id Failed P (λ s. R s x) P) → (xs : List X) → LeadsFrom id Failed P (λ s. Each R s xs) P
    each_leads P certain one [] s calls r to d e h = none_leads P s calls r to d e h
    each_leads P certain one (x ∷ xs) s calls r to d e h = first_leads P P P x xs certain (one x) (each_leads P certain one xs) s calls r to d e h

-- the doing of a part of a value, where what holds of the part holds of the whole
pub lifted_leads : {S T E F : Type 0} (id : Identity) (get : T → S) (put : T → S → T) (fault : E → F) (Failed : E → S → EndState → Type 0) (Failed' : F → T → EndState → Type 0) (P Q : S → EndState → Type 0) (P' Q' : T → EndState → Type 0) (R : S → List Call → Result ⊤ E → S → Type 0) → ((t : T) (e : EndState) → P' t e → P (get t) e) → ((t : T) (s : S) (from e : EndState) → P' t from → Q s e → Q' (put t s) e) → ((f : E) (t : T) (s : S) (from e : EndState) → P' t from → Failed f s e → Failed' (fault f) (put t s) e) → LeadsFrom id Failed P R Q → LeadsFrom id Failed' P' (Lifted get put fault R) Q'
lifted_leads id get put fault Failed Failed' P Q P' Q' R out back failed one t calls r to (goes_well {s = s} d) e h =
    leads_weaker id e calls (Q s) (Q' (put t s)) (λ e' q. back t s e e' h q) (one (get t) calls (Ok tt) s d e (out t e h))
lifted_leads id get put fault Failed Failed' P Q P' Q' R out back failed one t calls r to (fails {s = s} {e = f} d) e h =
    leads_weaker id e calls (Failed f s) (Failed' (fault f) (put t s)) (λ e' q. failed f t s e e' h q) (one (get t) calls (Err f) s d e (out t e h))
