-- The closing word: 0 or 1, and 1 only where the taker has closed.
use Rattle.std.specs.Prelude.{◌≡◌, ℕ, Bool, true, false, List, [], ◌∷◌, ◌++◌, All}
use mathlib.Core.Option.{Option, none, some}
use mathlib.Core.Logic.{◌⊎◌}
use lib.ListN.{get_elem?}
use Rattle.atomic_table.specs.Table.{State, Me}
use Rattle.fix_outbox.specs.declared.closing.ClosingView.{ClosingView}

abbrev pub closing_view : Bool → Bool → List ℕ → ClosingView
closing_view takes closed found = record { takes = takes; closed = closed; found = found }

abbrev pub word_of : Bool → ℕ
word_of true = 1
word_of false = 0

-- none of these loads gave 1
abbrev pub Clean : List ℕ → Type 0
Clean ns = All (λ n. n ≡ 0) ns

abbrev pub FitsLook : ℕ → Bool → ℕ → ClosingView → Type 0
FitsLook reader shut seat v = (v.takes ≡ true → (seat ≡ reader) × (v.closed ≡ shut)) × (shut ≡ false → Clean v.found)

abbrev pub IsClosingWord : {S : Type 0} → State S ClosingView → Type 0
IsClosingWord s = (reader : ℕ) × (shut : Bool) × (s.words ≡ word_of shut ∷ [])
    × ((seat : ℕ) (v : ClosingView) → get_elem? s.views seat ≡ some v → FitsLook reader shut seat v)

-- a sender's load adds what it found
abbrev pub Found : {S : Type 0} → Me S ClosingView → ℕ → Me S ClosingView → Type 0
Found me n me' = (me'.0 ≡ closing_view me.0.takes me.0.closed (me.0.found ++ n ∷ [])) × (me'.1 ≡ me.1)
    × ((n ≡ 0) ⊎ (n ≡ 1))

-- the taker's store
abbrev pub Closes : {S : Type 0} → Me S ClosingView → ℕ → Me S ClosingView → Type 0
Closes me n me' = me'.0 ≡ closing_view me.0.takes true me.0.found

-- the taker's look at what the senders that it took in have found
abbrev pub Checked : {S : Type 0} → Me S ClosingView → ℕ → Me S ClosingView → Type 0
Checked me n me' = (me'.0 ≡ me.0) × (me.0.closed ≡ false → Clean me.0.found)
