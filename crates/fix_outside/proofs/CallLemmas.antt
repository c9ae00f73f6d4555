-- What calls come to, one after another.
use Rattle.std.proofs.Common.{◌≡◌, ℕ, ◌+◌, Result, Ok, Err, List, [], ◌∷◌, ◌++◌, Option, Some, refl, sym, ◌∙◌, ap, subst, append_assoc, arith}
use Rattle.std.proofs.lemmas.List.{append-nil}
use Rattle.fix_base.specs.End.{End}
use Rattle.fix_base.specs.Parts.{PartsSeen}
use Rattle.fix_base.specs.Trace.{Stores, Follows, OutsideSeen, SameFile, Trace, acts_of, grown, store_failures, link_failures, app_failures}
use Rattle.fix_base.proofs.SeenLemmas.{grown-append, Stores-append, acts_of-append, Follows-append, Trace-nil, store_failures-append, link_failures-append, app_failures-append}
use Rattle.fix_outside.specs.declared.outside.FetchFault.{FetchFault}
use Rattle.fix_outside.specs.declared.outside.Kind.{Kind}
use Rattle.fix_outside.specs.declared.outside.Kind.TheVariants as kind
use Rattle.fix_outside.specs.Outside.{IsSo, FetchAnswers}
use Rattle.fix_outside.specs.Calls.{Call, notes_of, notes_in, acts_in, IsTrueIn, CallsStore, CallsHold, IsFilled, CallsMove, Called}

pub notes_in-append : (xs ys : List Call) → notes_in (xs ++ ys) ≡ notes_in xs ++ notes_in ys
notes_in-append [] ys = refl
notes_in-append (x ∷ xs) ys = ap (λ ns. notes_of x ++ ns) (notes_in-append xs ys) ∙ sym (append_assoc (notes_of x) (notes_in xs) (notes_in ys))

pub acts_in-append : (xs ys : List Call) → acts_in (xs ++ ys) ≡ acts_in xs ++ acts_in ys
acts_in-append xs ys = ap acts_of (notes_in-append xs ys) ∙ acts_of-append (notes_in xs) (notes_in ys)

pub CallsStore-append : (xs ys : List Call) (a b c : Option End) → CallsStore xs a b → CallsStore ys b c → CallsStore (xs ++ ys) a c
CallsStore-append [] ys a b c x y = rw (← x) y
CallsStore-append (call ∷ xs) ys a b c x y = (x.0, x.1, CallsStore-append xs ys x.0 b c x.2 y)

-- what a store did in two parts
pub CallsStore-split : (xs ys : List Call) (a c : Option End) → CallsStore (xs ++ ys) a c → (b : Option End) × CallsStore xs a b × CallsStore ys b c
CallsStore-split [] ys a c s = (a, refl, s)
CallsStore-split (x ∷ xs) ys a c s = let t = CallsStore-split xs ys s.0 c s.2 in (t.0, (s.0, s.1, t.1), t.2)

-- the acts alone
pub CallsStore-acts : (calls : List Call) (a b : Option End) → CallsStore calls a b → Stores (acts_in calls) a b
CallsStore-acts [] a b s = s
CallsStore-acts (call ∷ calls) a b s =
    subst (λ acts. Stores acts a b) (sym (acts_of-append (notes_of call) (notes_in calls)))
    (Stores-append (acts_of (notes_of call)) (acts_in calls) a s.0 b s.1.stores (CallsStore-acts calls s.0 b s.2))

pub CallsMove-append : (xs ys : List Call) (a b c : PartsSeen) → CallsMove xs a b → CallsMove ys b c → CallsMove (xs ++ ys) a c
CallsMove-append [] ys a b c x y = rw (← x) y
CallsMove-append (call ∷ xs) ys a b c x y = (x.0, x.1, CallsMove-append xs ys x.0 b c x.2 y)

pub CallsMove-notes : (calls : List Call) (a b : PartsSeen) → CallsMove calls a b → Follows (notes_in calls) a b
CallsMove-notes [] a b m = m
CallsMove-notes (call ∷ calls) a b m = Follows-append (notes_of call) (notes_in calls) a m.0 b m.1.follows (CallsMove-notes calls m.0 b m.2)

CallsHold-append : (xs ys : List Call) (P Q R : End → Type 0) → CallsHold P Q xs → CallsHold Q R ys → CallsHold P R (xs ++ ys)
CallsHold-append xs ys P Q R x y = record {
  kept = λ e h.
      (let mid = x.kept e h in
      let last = y.kept mid.0 mid.1 in
      (last.0, last.1, CallsStore-append xs ys (Some e) (Some mid.0) (Some last.0) mid.2 last.2));
  only = λ e h.
      (let mid = y.only e h in
      let first = x.only mid.0 mid.1 in
      (first.0, first.1, CallsStore-append xs ys (Some first.0) (Some mid.0) (Some e) first.2 mid.2));
}

SameFile-then : (a b c : OutsideSeen) → SameFile a b → SameFile b c → SameFile a c
SameFile-then a b c x y = record {
  told = (λ t. x.told.0 (y.told.0 t), λ t. y.told.1 (x.told.1 t));
  breaks = λ place. (λ t. (x.breaks place).0 ((y.breaks place).0 t), λ t. (y.breaks place).1 ((x.breaks place).1 t));
}

pub store_fails-append : (xs ys : List Call) → store_failures (notes_in (xs ++ ys)) ≡ store_failures (notes_in xs) + store_failures (notes_in ys)
store_fails-append xs ys = ap store_failures (notes_in-append xs ys) ∙ store_failures-append (notes_in xs) (notes_in ys)

pub link_fails-append : (xs ys : List Call) → link_failures (notes_in (xs ++ ys)) ≡ link_failures (notes_in xs) + link_failures (notes_in ys)
link_fails-append xs ys = ap link_failures (notes_in-append xs ys) ∙ link_failures-append (notes_in xs) (notes_in ys)

pub app_fails-append : (xs ys : List Call) → app_failures (notes_in (xs ++ ys)) ≡ app_failures (notes_in xs) + app_failures (notes_in ys)
app_fails-append xs ys = ap app_failures (notes_in-append xs ys) ∙ app_failures-append (notes_in xs) (notes_in ys)

-- ---- calls

pub Called-nil : (a : OutsideSeen) → Called a a []
Called-nil a = record {
  tape = (Trace-nil a).tape;
  stored = record { kept = λ e h. (e, h, refl); only = λ e h. (e, h, refl) };
  file = (Trace-nil a).file;
  faults = record { store = omega arith; link = omega arith; app = omega arith };
  parts = refl;
}

pub Called-append : (a b c : OutsideSeen) (xs ys : List Call) → Called a b xs → Called b c ys → Called a c (xs ++ ys)
Called-append a b c xs ys x y = record {
  tape = y.tape ∙ ap (λ t. grown t (acts_in ys)) x.tape ∙ grown-append a.tape (acts_in xs) (acts_in ys) ∙ ap (grown a.tape) (sym (acts_in-append xs ys));
  stored = CallsHold-append xs ys a.Holds b.Holds c.Holds x.stored y.stored;
  file = SameFile-then a b c x.file y.file;
  faults = record {
    store = omega (arith, x.faults.store, y.faults.store, store_fails-append xs ys);
    link = omega (arith, x.faults.link, y.faults.link, link_fails-append xs ys);
    app = omega (arith, x.faults.app, y.faults.app, app_fails-append xs ys);
  };
  parts = CallsMove-append xs ys _ _ _ x.parts y.parts;
}

-- what is noted of them
pub noted : (a b : OutsideSeen) (calls : List Call) → Called a b calls → Trace a b (notes_in calls)
noted a b calls c = record {
  tape = c.tape;
  stored = record {
    kept = λ e h. (let t = c.stored.kept e h in (t.0, t.1, CallsStore-acts calls (Some e) (Some t.0) t.2));
    only = λ e h. (let t = c.stored.only e h in (t.0, t.1, CallsStore-acts calls (Some t.0) (Some e) t.2));
  };
  file = c.file;
  faults = c.faults;
  parts = CallsMove-notes calls a.parts b.parts c.parts;
}

-- one call, of which this is noted, and what it tells is so
pub called : (a b : OutsideSeen) (call : Call) → Trace a b (notes_of call) → ((e : End) → a.Holds e → IsTrueIn call (Some e)) → IsFilled call a.parts.to_come → Called a b (call ∷ [])
called a b call t so filled =
    let same : notes_of call ++ [] ≡ notes_of call = append-nil (notes_of call) in
    record {
      tape = t.tape ∙ ap (λ ns. grown a.tape (acts_of ns)) (sym same);
      stored = record {
        kept = λ e h. (let k = t.stored.kept e h in (k.0, k.1, (Some k.0, record { stores = k.2; so = so e h }, refl)));
        only = λ e h. (let k = t.stored.only e h in (k.0, k.1, (Some e, record { stores = k.2; so = so k.0 k.1 }, refl)));
      };
      file = t.file;
      faults = record {
        store = omega (arith, t.faults.store, ap store_failures same);
        link = omega (arith, t.faults.link, ap link_failures same);
        app = omega (arith, t.faults.app, ap app_failures same);
      };
      parts = (b.parts, record { follows = t.parts; filled = filled }, refl);
    }

-- what a fetch answered is so in each end that is held
pub answers_so : (answer : Result Kind FetchFault) (n : ℕ) (body : List ℕ) (w : OutsideSeen) → FetchAnswers answer n body w → (e : End) → w.Holds e → IsSo answer n body e
answers_so (Ok (kind.App time)) n body w h e holds = (h.told e holds, h.free e holds)
answers_so (Ok kind.Admin) n body w h e holds = h.told e holds
answers_so (Ok kind.Withheld) n body w h e holds = (h.app e holds, h.withheld e holds)
answers_so (Err fault) n body w h e holds = tt
