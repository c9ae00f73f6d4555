-- The words of a program, one by one.
use Rattle.std.proofs.Common.{◌≡◌, ℕ, ◌<◌, ◌≤◌, List, [], ◌∷◌, length, map, get_or, refl, ap, sym, arith}
use Rattle.fix_base.specs.declared.identity.Begin.{Begin}
use Rattle.fix_base.specs.declared.identity.Begin.TheVariants.{Fix42, Fix44}
use Rattle.fix_base.specs.Session.{begin_string_of}
use Rattle.fix_base.specs.declared.identity.Identity.{Identity}
use Rattle.fix_top.specs.Words.{IsForm}

-- four items, each seen by f
pub four-seen : {X Y : Type 0} (f : X → Y) (xs : List X) (d : X) → 4 ≤ length xs → length xs < 5 → map f xs ≡ f (get_or xs 0 d) ∷ f (get_or xs 1 d) ∷ f (get_or xs 2 d) ∷ f (get_or xs 3 d) ∷ []
four-seen f [] d lo hi = absurd (omega arith)
four-seen f (x ∷ []) d lo hi = absurd (omega arith)
four-seen f (x ∷ y ∷ []) d lo hi = absurd (omega arith)
four-seen f (x ∷ y ∷ z ∷ []) d lo hi = absurd (omega arith)
four-seen f (x ∷ y ∷ z ∷ w ∷ []) d lo hi = refl
four-seen f (x ∷ y ∷ z ∷ w ∷ v ∷ vs) d lo hi = absurd (omega arith)

-- the seventh letters of the two BeginStrings differ
two-is-not-four : (m n : ℕ) → m ≡ 50 → n ≡ 52 → m ≡ n → ⊥
two-is-not-four m n a b e = omega arith

abbrev seventh : List ℕ → ℕ
seventh text = get_or text 6 0

-- a BeginString names one version
pub begin-unique : (a b : Begin) → begin_string_of a ≡ begin_string_of b → a ≡ b
begin-unique Fix42 Fix42 e = refl
begin-unique Fix42 Fix44 e = absurd (two-is-not-four _ _ refl refl (ap seventh e))
begin-unique Fix44 Fix42 e = absurd (two-is-not-four _ _ refl refl (sym (ap seventh e)))
begin-unique Fix44 Fix44 e = refl

-- words ask for one session
pub form-unique : (words : List (List ℕ)) (a b : Identity) → IsForm words a → IsForm words b → a ≡ b
form-unique words a b f g =
    let e = begin-unique a.begin b.begin (cc (f.spelled, g.spelled)) in
    let s : a.sender ≡ b.sender = cc (f.spelled, g.spelled) in
    let t : a.target ≡ b.target = cc (f.spelled, g.spelled) in
    λ i. record { begin = e i; sender = s i; target = t i }
