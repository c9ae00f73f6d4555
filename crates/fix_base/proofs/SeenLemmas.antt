-- What calls come to, one after another.
use Rattle.std.proofs.Common.{◌≡◌, ◌+◌, List, [], ◌∷◌, ◌++◌, Option, Some, None, refl, sym, ◌∙◌, ap, subst, append_assoc, arith}
use Rattle.std.proofs.lemmas.List.{append-nil}
use Rattle.fix_base.specs.declared.act.Act.{Act}
use Rattle.fix_base.specs.End.{End}
use Rattle.fix_base.specs.Parts.{PartsSeen}
use Rattle.fix_base.specs.Trace.{Stores, grown, StorePart, LinkPart, AppPart, Note, Did, Failed, Asked, acts_of, store_failures, link_failures, app_failures, Follows, OutsideSeen, HoldsOn, SameFile, Trace}

pub grown-append : (t : Option (List Act)) (xs ys : List Act) → grown (grown t xs) ys ≡ grown t (xs ++ ys)
grown-append None xs ys = refl
grown-append (Some old) xs ys = ap Some (append_assoc old xs ys)

pub Stores-append : (xs ys : List Act) (a b c : Option End) → Stores xs a b → Stores ys b c → Stores (xs ++ ys) a c
Stores-append [] ys a b c x y = rw (← x) y
Stores-append (act ∷ xs) ys a b c x y = (x.0, x.1, Stores-append xs ys x.0 b c x.2 y)

pub acts_of-append : (xs ys : List Note) → acts_of (xs ++ ys) ≡ acts_of xs ++ acts_of ys
acts_of-append [] ys = refl
acts_of-append (Did act ∷ xs) ys = ap (λ acts. act ∷ acts) (acts_of-append xs ys)
acts_of-append (Failed part ∷ xs) ys = acts_of-append xs ys
acts_of-append (Asked draft ∷ xs) ys = acts_of-append xs ys

pub store_failures-append : (xs ys : List Note) → store_failures (xs ++ ys) ≡ store_failures xs + store_failures ys
store_failures-append [] ys = omega arith
store_failures-append (Did act ∷ xs) ys = store_failures-append xs ys
store_failures-append (Failed StorePart ∷ xs) ys = omega (arith, store_failures-append xs ys)
store_failures-append (Failed (LinkPart unsent) ∷ xs) ys = store_failures-append xs ys
store_failures-append (Failed AppPart ∷ xs) ys = store_failures-append xs ys
store_failures-append (Asked draft ∷ xs) ys = store_failures-append xs ys

pub link_failures-append : (xs ys : List Note) → link_failures (xs ++ ys) ≡ link_failures xs + link_failures ys
link_failures-append [] ys = omega arith
link_failures-append (Did act ∷ xs) ys = link_failures-append xs ys
link_failures-append (Failed StorePart ∷ xs) ys = link_failures-append xs ys
link_failures-append (Failed (LinkPart unsent) ∷ xs) ys = omega (arith, link_failures-append xs ys)
link_failures-append (Failed AppPart ∷ xs) ys = link_failures-append xs ys
link_failures-append (Asked draft ∷ xs) ys = link_failures-append xs ys

pub app_failures-append : (xs ys : List Note) → app_failures (xs ++ ys) ≡ app_failures xs + app_failures ys
app_failures-append [] ys = omega arith
app_failures-append (Did act ∷ xs) ys = app_failures-append xs ys
app_failures-append (Failed StorePart ∷ xs) ys = app_failures-append xs ys
app_failures-append (Failed (LinkPart unsent) ∷ xs) ys = app_failures-append xs ys
app_failures-append (Failed AppPart ∷ xs) ys = omega (arith, app_failures-append xs ys)
app_failures-append (Asked draft ∷ xs) ys = app_failures-append xs ys

pub Follows-append : (xs ys : List Note) (a b c : PartsSeen) → Follows xs a b → Follows ys b c → Follows (xs ++ ys) a c
Follows-append [] ys a b c x y = rw (← x) y
Follows-append (note ∷ xs) ys a b c x y = (x.0, x.1, Follows-append xs ys x.0 b c x.2 y)

-- ends that are held, one after another
HoldsOn-append : (xs ys : List Act) (P Q R : End → Type 0) → HoldsOn P Q xs → HoldsOn Q R ys → HoldsOn P R (xs ++ ys)
HoldsOn-append xs ys P Q R x y = record {
  kept = λ e h.
      (let mid = x.kept e h in
      let last = y.kept mid.0 mid.1 in
      (last.0, last.1, Stores-append xs ys (Some e) (Some mid.0) (Some last.0) mid.2 last.2));
  only = λ e h.
      (let mid = y.only e h in
      let first = x.only mid.0 mid.1 in
      (first.0, first.1, Stores-append xs ys (Some first.0) (Some mid.0) (Some e) first.2 mid.2));
}

-- a store that tells one end
pub HoldsOn-one : (acts : List Act) (old new : End) → Stores acts (Some old) (Some new) → HoldsOn (λ e. e ≡ old) (λ e. e ≡ new) acts
HoldsOn-one acts old new stores = record {
  kept = λ e h. (new, refl, subst (λ o. Stores acts (Some o) (Some new)) (sym h) stores);
  only = λ e h. (old, refl, subst (λ o. Stores acts (Some old) (Some o)) (sym h) stores);
}

SameFile-append : (a b c : OutsideSeen) → SameFile a b → SameFile b c → SameFile a c
SameFile-append a b c x y = record {
  told = (λ t. x.told.0 (y.told.0 t), λ t. y.told.1 (x.told.1 t));
  breaks = λ place. (λ t. (x.breaks place).0 ((y.breaks place).0 t), λ t. (y.breaks place).1 ((x.breaks place).1 t));
}

pub SameFile-nil : (a : OutsideSeen) → SameFile a a
SameFile-nil a = record { told = (λ t. t, λ t. t); breaks = λ place. (λ t. t, λ t. t) }

pub Trace-append : (a b c : OutsideSeen) (xs ys : List Note) → Trace a b xs → Trace b c ys → Trace a c (xs ++ ys)
Trace-append a b c xs ys x y = record {
  tape = y.tape ∙ ap (λ t. grown t (acts_of ys)) x.tape ∙ grown-append a.tape (acts_of xs) (acts_of ys) ∙ ap (grown a.tape) (sym (acts_of-append xs ys));
  stored = subst (HoldsOn a.Holds c.Holds) (sym (acts_of-append xs ys)) (HoldsOn-append (acts_of xs) (acts_of ys) a.Holds b.Holds c.Holds x.stored y.stored);
  file = SameFile-append a b c x.file y.file;
  faults = record {
    store = omega (arith, store_failures-append xs ys);
    link = omega (arith, link_failures-append xs ys);
    app = omega (arith, app_failures-append xs ys);
  };
  parts = Follows-append xs ys _ _ _ x.parts y.parts;
}

grown-nil : (t : Option (List Act)) → t ≡ grown t []
grown-nil None = refl
grown-nil (Some old) = ap Some (sym (append-nil old))

pub Trace-nil : (a : OutsideSeen) → Trace a a []
Trace-nil a = record {
  tape = grown-nil a.tape;
  stored = record { kept = λ e h. (e, h, refl); only = λ e h. (e, h, refl) };
  file = SameFile-nil a;
  faults = record { store = omega arith; link = omega arith; app = omega arith };
  parts = refl;
}
