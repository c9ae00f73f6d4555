-- What stands at the front of bytes, of which more may come.
use Rattle.std.specs.Prelude.{◌≡◌, ℕ, ◌<◌, List, ◌++◌, length, Result, Ok, Err}
use Rattle.fix_base.specs.declared.no_match.NoMatch.{NoMatch}
use Rattle.fix_base.specs.declared.no_match.NoMatch.TheVariants.{Never, NotYet}

-- a text of P stands at the front, and the rest follows it
pub record Begins (P : List ℕ → Type 0) (bytes rest : List ℕ) : Type 0 where
  pub text : List ℕ
  pub is : P text
  pub spelled : bytes ≡ text ++ rest

-- however the bytes go on, no text of P stands at their front
pub record NeverBegins (P : List ℕ → Type 0) (bytes : List ℕ) : Type 0 where
  pub refutes : (more rest : List ℕ) → Begins P (bytes ++ more) rest → ⊥

-- some missing bytes make the bytes a text of P
pub record IsPartOf (P : List ℕ → Type 0) (bytes : List ℕ) : Type 0 where
  pub missing : List ℕ
  pub nonempty : 0 < length missing
  pub is : P (bytes ++ missing)

-- why no text of P stands at the front
abbrev pub Stops : (List ℕ → Type 0) → List ℕ → NoMatch → Type 0
Stops P bytes Never = NeverBegins P bytes
Stops P bytes NotYet = IsPartOf P bytes

-- the bytes after the text of P at the front, or why there is none
abbrev pub Scans : {X : Type 0} → (X → List ℕ) → (List ℕ → Type 0) → List ℕ → Result X NoMatch → Type 0
Scans view P bytes (Ok x) = Begins P bytes (view x)
Scans view P bytes (Err why) = Stops P bytes why

-- a text of P for some value
abbrev pub SomeOf : {Y : Type 0} → (Y → List ℕ → Type 0) → List ℕ → Type 0
SomeOf {Y} P text = (y : Y) × P y text

-- the value of the text at the front and the bytes after it, or why there is none
abbrev pub ScansOf : {X Y : Type 0} → (X → Y) → (X → List ℕ) → (Y → List ℕ → Type 0) → List ℕ → Result X NoMatch
    → Type 0
ScansOf value view P bytes (Ok x) = Begins (P (value x)) bytes (view x)
ScansOf value view P bytes (Err why) = Stops (SomeOf P) bytes why

-- a text of P for some value, then one of Q for that value
pub record ThenOf {Y : Type 0} (P Q : Y → List ℕ → Type 0) (text : List ℕ) : Type 0 where
  pub value : Y
  pub first : List ℕ
  pub second : List ℕ
  pub is_first : P value first
  pub is_second : Q value second
  pub spelled : text ≡ first ++ second

-- a text of P, then one of Q
infixr 5 ◌▹◌
abbrev pub ◌▹◌ : (List ℕ → Type 0) → (List ℕ → Type 0) → List ℕ → Type 0
P ▹ Q = ThenOf {Y = Unit {0}} (λ _. P) (λ _. Q)
